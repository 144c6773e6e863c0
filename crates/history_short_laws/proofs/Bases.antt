-- Bases agree from one history to the next: after a run, and after a restart in which every placed node gets the log of a node that carries
-- the shard in the last view, up to a target that no settled update is past. For what two nodes have in common below their latest views is
-- settled, so it is in that log, up to the target.
use Rattle.std.specs.Prelude.{ℕ, zero, suc, ◌<◌, ◌≤◌, Bool, true, false, ◌&&◌, List, [], ◌∷◌, ◌++◌, ◌⊎◌, ◌≡◌, refl, length, get_or}
use Rattle.std.proofs.Math.Bool.{cond}
use Rattle.std.proofs.Common.{inl, inr, sym, ◌∙◌, subst, arith, length-append}
use Rattle.std.proofs.Math.Path.{ap}
use Rattle.std.proofs.Math.ListN.{get_or-append, get_or-eq_default}
use Rattle.std.proofs.Math.Seq.{get_or-append_seam}
use Rattle.base_laws.specs.Bools.{either, same, and_both, and_left, and_right, lt_or_le}
use Rattle.base_laws.specs.Definitions.{has}
use Rattle.base_ids.specs.declared.Position.{Position}
use Rattle.report_views.specs.declared.Layout.{Layout}
use Rattle.report_views.specs.Definitions.{no_view, mask_at}
use Rattle.history_laws.specs.Definitions.{History, KeepsRule, view_at, number_at}
use Rattle.history_course_laws.specs.Course.{last_of}
use Rattle.history_short_laws.specs.Based.{last_place, latest_of, latest_number, carries_latest, Based, AddsOnly}
use Rattle.history_short_laws.specs.Bases.{place_is, latest_listed, latest_up_to, base_settled, HandsOn}

place_same : (f g : ℕ → Bool) (k : ℕ) → ((i : ℕ) → i < k → f i ≡ g i) → last_place f k ≡ last_place g k
unfolding last_place
place_same f g zero h = refl
place_same f g (suc k) h = rw (h k (omega arith), place_same f g k (λ i l. h i (omega arith)))

-- ---- a node whose latest view is the same in H and in G

record UnmovedIn (H G : History) (s n : ℕ) : Type 0 where
  pub carries : carries_latest H s n ≡ true
  pub number : latest_number G n ≡ latest_number H n
  pub older : (p : Position) → 1 ≤ p.k → p.view.0 < latest_number H n → G.updated n s p ≡ H.updated n s p

unmoved : {S : ℕ} {H G : History} → AddsOnly S H G → 0 < length H.views → ((i : ℕ) → i < length H.views → view_at G i ≡ view_at H i)
    → (s : ℕ) → s < S → (n : ℕ) → n < 32 → latest_of G n ≡ latest_of H n → carries_latest G s n ≡ true → UnmovedIn H G s n
unmoved {H = H} {G = G} adds some views s below n l e c =
    let view : view_at G (latest_of G n) ≡ view_at H (latest_of H n) =
    ap (λ (i : ℕ). view_at G i) e ∙ views (latest_of H n) (latest_listed H n some) in
    let logged : H.logged n (latest_of H n) ≡ true =
    sym (adds.logged n (latest_of H n) (latest_listed H n some))
    ∙ subst (λ (i : ℕ). G.logged n i ≡ true) e (and_left (G.logged n (latest_of G n)) (has (mask_at (view_at G (latest_of G n)) s) n) c) in
    let member : has (mask_at (view_at H (latest_of H n)) s) n ≡ true =
    subst (λ (x : Layout). has (mask_at x s) n ≡ true) view (and_right (G.logged n (latest_of G n)) (has (mask_at (view_at G (latest_of G n)) s) n) c) in
    record {
      carries = and_both logged member;
      number = ap (λ (x : Layout). x.number.0) view;
      older = λ p from o. adds.older s below n l (and_both logged member) e p from o;
    }

both_unmoved : {S : ℕ} {H G : History} → Based S H → (s : ℕ) → s < S → (n m : ℕ) → n < 32 → m < 32 → UnmovedIn H G s n → UnmovedIn H G s m
    → (p : Position) → 1 ≤ p.k → p.view.0 < latest_number G n → p.view.0 < latest_number G m → G.updated n s p ≡ G.updated m s p
both_unmoved {H = H} based s below n m l k a b p from x y =
    let u : p.view.0 < latest_number H n = omega (arith, a.number) in
    let w : p.view.0 < latest_number H m = omega (arith, b.number) in
    a.older p from u ∙ based.same s below n m l k a.carries b.carries p from u w ∙ sym (b.older p from w)

-- ---- after a run

pub run_based : {S : ℕ} {H G : History} → G.views ≡ H.views → AddsOnly S H G → Based S H → Based S G
run_based {S} {H} {G} views adds based = record {
  same = λ s below n m l k a b p from x y. go s below n m l k a b p from x y
      (lt_or_le 0 (length H.views));
}
  where
    still : (n : ℕ) → latest_of G n ≡ latest_of H n
    still n =
        ap (λ (xs : List Layout). last_place (G.logged n) (length xs)) views
        ∙ place_same (G.logged n) (H.logged n) (length H.views) (λ i l. adds.logged n i l)

    view : (i : ℕ) → view_at G i ≡ view_at H i
    view i = ap (λ (xs : List Layout). get_or xs i no_view) views

    go : (s : ℕ) → s < S → (n m : ℕ) → n < 32 → m < 32 → carries_latest G s n ≡ true → carries_latest G s m ≡ true → (p : Position) → 1 ≤ p.k
        → p.view.0 < latest_number G n → p.view.0 < latest_number G m → (0 < length H.views) ⊎ (length H.views ≤ 0)
        → G.updated n s p ≡ G.updated m s p
    go s below n m l k a b p from x y (inl some) =
        both_unmoved based s below n m l k (unmoved adds some (λ i j. view i) s below n l (still n) a)
        (unmoved adds some (λ i j. view i) s below m k (still m) b) p from x y
    go s below n m l k a b p from x y (inr none) =
        let empty : view_at G (latest_of G n) ≡ no_view =
        view (latest_of G n) ∙ get_or-eq_default H.views no_view {n = latest_of G n} (omega arith) in
        absurd (omega (arith, ap (λ (z : Layout). z.number.0) empty))

module _ {S : ℕ} {H G : History} {w : Layout} (rule : KeepsRule H) (some : 0 < length H.views) (views : G.views ≡ H.views ++ w ∷ [])
    (adds : AddsOnly S H G) (hands : (s : ℕ) → s < S → HandsOn H G w s) (based : Based S H) where
  longer : length G.views ≡ suc (length H.views)
  longer = ap (λ (l : List Layout). length l) views ∙ length-append H.views (w ∷ []) ∙ omega arith

  before_new : (i : ℕ) → i < length H.views → view_at G i ≡ view_at H i
  before_new i l = ap (λ (k : List Layout). get_or k i no_view) views ∙ get_or-append H.views (w ∷ []) no_view i l

  the_new : view_at G (length H.views) ≡ w
  the_new = ap (λ (k : List Layout). get_or k (length H.views) no_view) views ∙ get_or-append_seam H.views w [] no_view

  -- a node has the new view, or the latest one that it had
  moved : (n : ℕ) → G.logged n (length H.views) ≡ true → latest_of G n ≡ length H.views
  moved n h = place_is (G.logged n) (length G.views) (length H.views) (omega (arith, longer)) h (λ j a b. absurd (omega (arith, longer)))

  stayed : (n : ℕ) → G.logged n (length H.views) ≡ false → latest_of G n ≡ latest_of H n
  unfolding last_place
  stayed n h =
      ap (λ (k : ℕ). last_place (G.logged n) k) longer
      ∙ ap (λ (b : Bool). cond b (length H.views) (last_place (G.logged n) (length H.views))) h
      ∙ place_same (G.logged n) (H.logged n) (length H.views) (λ i l. adds.logged n i l)

  placed_new : (s n : ℕ) → G.logged n (length H.views) ≡ true → carries_latest G s n ≡ true → has (mask_at w s) n ≡ true
  placed_new s n h c =
      subst (λ (x : Layout). has (mask_at x s) n ≡ true) (ap (λ (i : ℕ). view_at G i) (moved n h) ∙ the_new)
      (and_right (G.logged n (latest_of G n)) (has (mask_at (view_at G (latest_of G n)) s) n) c)

  -- an old base is in the log that is handed on
  old_new : (s : ℕ) → s < S → (n m : ℕ) → n < 32 → m < 32 → UnmovedIn H G s n → has (mask_at w s) m ≡ true → G.logged m (length H.views) ≡ true
      → (p : Position) → 1 ≤ p.k → p.view.0 < latest_number G n → G.updated n s p ≡ G.updated m s p
  old_new s below n m l k a c h p from x =
      let g = hands s below in
      let older : p.view.0 < latest_number H n = omega (arith, a.number) in
      let last : latest_number H g.from ≡ number_at H (last_of H) = ap (λ (i : ℕ). number_at H i) g.latest in
      let within : p.view.0 < latest_number H g.from = omega (arith, latest_up_to H rule n some) in
      let one : H.updated n s p ≡ H.updated g.from s p = based.same s below n g.from l g.small a.carries
      g.carries p from older within in
      a.older p from older ∙ one
      ∙ same (H.updated g.from s p) (H.updated g.from s p && g.upto p)
      (λ e. and_both e (g.covers p from (omega arith) (base_settled H based rule some s below g.from g.small g.carries p from within e)))
      (λ e. and_left (H.updated g.from s p) (g.upto p) e)
      ∙ sym (g.logs m k c h p from)

  pub handed_based : Based S G
  handed_based = record {
    same = λ s below n m l k a b p from x y. go s below n m l k a b p from x y (either (G.logged n (length H.views)))
        (either (G.logged m (length H.views)));
  }
    where
      go : (s : ℕ) → s < S → (n m : ℕ) → n < 32 → m < 32 → carries_latest G s n ≡ true → carries_latest G s m ≡ true → (p : Position) → 1 ≤ p.k
          → p.view.0 < latest_number G n → p.view.0 < latest_number G m
          → (G.logged n (length H.views) ≡ true) ⊎ (G.logged n (length H.views) ≡ false)
          → (G.logged m (length H.views) ≡ true) ⊎ (G.logged m (length H.views) ≡ false) → G.updated n s p ≡ G.updated m s p
      go s below n m l k a b p from x y (inl e) (inl f) =
          (hands s below).logs n l (placed_new s n e a) e p from ∙ sym ((hands s below).logs m k (placed_new s m f b) f p from)
      go s below n m l k a b p from x y (inl e) (inr f) =
          sym (old_new s below m n k l (unmoved adds some before_new s below m k (stayed m f) b) (placed_new s n e a) e p from y)
      go s below n m l k a b p from x y (inr e) (inl f) =
          old_new s below n m l k (unmoved adds some before_new s below n l (stayed n e) a) (placed_new s m f b) f p from x
      go s below n m l k a b p from x y (inr e) (inr f) =
          both_unmoved based s below n m l k (unmoved adds some before_new s below n l (stayed n e) a)
          (unmoved adds some before_new s below m k (stayed m f) b) p from x y
