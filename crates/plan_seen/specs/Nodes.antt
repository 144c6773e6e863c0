-- What one held node's slot tells: the end of each log as a number, and the shards for which it counts.
use Rattle.std.specs.Prelude.{ℕ, ◌+◌, ◌*◌, ◌/◌, ◌%◌, ◌<◌, ◌≤◌, Bool, true, false, cond, not, ◌&&◌, ◌||◌, List, ◌⊎◌, ◌≡◌, eqb, ltb, length, get_or, set}
use Rattle.std.proofs.Common.{zero-le, inl, inr, sym, ◌∙◌, subst, arith, get_or-set_same, get_or-set_other, lt-ltb, ne_eqb, eqb-true}
use Rattle.std.proofs.Math.Logic.{⊎_elim}
use Rattle.std.proofs.Math.Path.{refl, ap, subst⁻¹}
use Rattle.std.proofs.Math.Arith.{lt_of_le-ne}
use Rattle.std.proofs.Math.ListN.{get_or-eq_default}
use Rattle.std.proofs.lemmas.Bool.{eqb-false}
use Rattle.base_laws.specs.Bools.{either, clash, no_true, and_fails_left, and_fails_right, or_right, lt_or_le, eq_or_ne, not_of_true}
use Rattle.base_laws.specs.Definitions.{has, tabulate}
use Rattle.base_laws.specs.Tables.{tabulate_ext, get_d_tabulate, get_or_tabulate_past, get_d_part}
use Rattle.base_ids.specs.declared.Position.{Position}
use Rattle.settings_values.specs.Definitions.{shards}
use Rattle.message_format.specs.Definitions.{contents_of, body_of, body_word, place, following, word2}
use Rattle.report_views.specs.declared.Layout.{Layout}
use Rattle.report_views.specs.declared.Termination.{Termination}
use Rattle.report_views.specs.Definitions.{end_of, is_start, has_update, slot, report_of, end_at, mask_at, position_at, slot_ok}
use Rattle.report_views.specs.Shorthands.{has_at, view_of}
use Rattle.report_views.specs.Meets.{SlotSound, slot_sound, report_records, log_end}
use Rattle.report_views.specs.RunLaws.{Runs, passed_runs, end_cases, has_cases, held-of}
use Rattle.report_quick.specs.Accepts.{length_slot}
use Rattle.report_views.specs.Numbers.{as_number, from_number, number_start, number_back, number_before}
use Rattle.report_walk.specs.Updates.{RecordsAre}
use Rattle.report_walk.specs.Pairs.{FitWords, pairs_of, pair-at, pair_low, pair_high}

-- word k of a slot that is given as pairs
unfoldable pub word_of_pairs : List ℕ → ℕ → ℕ
word_of_pairs b k = cond (eqb (k % 2) 0) (get_or b (k / 2) 0 % 4294967296) (get_or b (k / 2) 0 / 4294967296)

unfoldable pub words_of_pairs : List ℕ → List ℕ
words_of_pairs b = tabulate 512 (word_of_pairs b)

-- node n counts for shard s: it is a member of it and reported the kept view, and if a termination is made its log has the position
unfoldable pub eligible : Layout → Termination → List ℕ → ℕ → ℕ → Bool
eligible v t d s n = has (mask_at v s) n && eqb (view_of d n) v.number.0 && (not t.made || has_at d s (position_at t s) n)

-- h, whose end is x, is the best so far (32: none): a node whose end is y takes its place, if it counts
abbrev pub takes_over : Bool → ℕ → ℕ → ℕ → Bool
takes_over e y h x = e && (eqb h 32 || ltb x y)

-- the best and its end after node n
pub record HolderRenewed (e : Bool) (n y h x h' x' : ℕ) : Type 0 where
  pub holder : h' ≡ cond (takes_over e y h x) n h
  pub top : x' ≡ cond (takes_over e y h x) y x

-- by shard, below m; what is from there on stays
pub record RenewedBelow (v : Layout) (t : Termination) (d : List ℕ) (n m : ℕ) (hs ts hs' ts' : List ℕ) : Type 0 where
  pub each : (s : ℕ) → s < m
      → HolderRenewed (eligible v t d s n) n (as_number (end_at d s n)) (get_or hs s 0) (get_or ts s 0) (get_or hs' s 0) (get_or ts' s 0)
  pub rest : (s : ℕ) → m ≤ s → (get_or hs' s 0 ≡ get_or hs s 0) × (get_or ts' s 0 ≡ get_or ts s 0)

-- ---- words and pairs

pub words_back : (w : List ℕ) → length w ≡ 512 → FitWords w → words_of_pairs (pairs_of w) ≡ w
unfolding words_of_pairs word_of_pairs
words_back w long words =
    sym (tabulate_ext 0 512 (word_of_pairs (pairs_of w)) w long (λ k l. at k l (either (eqb (k % 2) 0))))
  where
    at : (k : ℕ) → k < 512 → (eqb (k % 2) 0 ≡ true) ⊎ (eqb (k % 2) 0 ≡ false)
        → get_or w k 0 ≡ cond (eqb (k % 2) 0) (get_or (pairs_of w) (k / 2) 0 % 4294967296) (get_or (pairs_of w) (k / 2) 0 / 4294967296)
    at k l (inl e) =
        let z = eqb-true (k % 2) 0 e in
        let i : k ≡ 2 * (k / 2) = omega arith in
        rw e
        (ap (λ (x : ℕ). get_or w x 0) i ∙ sym (pair_low w words (k / 2))
        ∙ ap (λ (x : ℕ). x % 4294967296) (sym (pair-at w (k / 2) (omega arith))))
    at k l (inr e) =
        let z = eqb-false (k % 2) 0 e in
        let one : k % 2 ≡ 1 = odd (lt_of_le-ne zero-le (λ q. z (sym q))) in
        let i : k ≡ 2 * (k / 2) + 1 = omega arith in
        rw e
        (ap (λ (x : ℕ). get_or w x 0) i ∙ sym (pair_high w words (k / 2))
        ∙ ap (λ (x : ℕ). x / 4294967296) (sym (pair-at w (k / 2) (omega arith))))
      where
        odd : 0 < k % 2 → k % 2 ≡ 1
        odd q = omega arith

-- every word of a slot is a word of the desk
pub slot_words : (d : List ℕ) (n : ℕ) → FitWords d → length d ≡ 16384 → n < 32 → FitWords (slot d n)
unfolding slot
slot_words d n words whole l k =
    ⊎_elim
    (λ m. let e : get_or (slot d n) k 0 ≡ get_or d (512 * n + k) 0 = get_d_part (512 * n) (512 * n + 512) d k 0 (omega arith) in omega (arith, e, words (512 * n + k)))
    (λ m. let e : get_or (slot d n) k 0 ≡ 0 = get_or-eq_default (slot d n) 0 (omega (arith, length_slot d n whole l)) in omega (arith, e))
    (lt_or_le k 512)

-- ---- a word of the body, and the end of a log, are below 2^32

pub body_words : (w : List ℕ) → FitWords w → FitWords (body_of w)
unfolding body_of body_word
body_words w words k =
    ⊎_elim (λ m. let e = get_d_tabulate 381 (body_word w) k 0 m in rw e (one (ltb k (3 * following w))))
    (λ m. let e = get_or_tabulate_past 381 (body_word w) k 0 m in omega (arith, e))
    (lt_or_le k 381)
  where
    one : (b : Bool) → cond b (get_or w (4 * place w (k / 3 + 1) + k % 3) 0) 0 < 4294967296
    one true = words (4 * place w (k / 3 + 1) + k % 3)
    one false = omega arith

end_words : (b : List ℕ) (s len : ℕ) → FitWords b → (end_of b s len).k < 4294967296
end_words b s len words =
    ⊎_elim (λ e. rw e (omega arith)) (λ w. let e = w.1.at in subst⁻¹ (λ (p : Position). p.k < 4294967296) e (words (3 * w.0 + 2))) (end_cases b s len)

module _ (d : List ℕ) (n : ℕ) (whole : length d ≡ 16384) (below : n < 32) (words : FitWords d) where
  pub end_small : (s : ℕ) → (end_at d s n).k < 4294967296
  unfolding report_of contents_of
  end_small s = end_words (body_of (slot d n)) s (following (slot d n)) (body_words (slot d n) (slot_words d n words whole below))

-- ---- the end of a sound log and an update

module _ (σ : List ℕ) (v : Layout) (t : Termination) (d : List ℕ) (n : ℕ) (sound : SlotSound σ v t d n) (s : ℕ) (few : s < 256) where
  runs_are : Runs (report_of d n).body (report_of d n).len s
  runs_are =
      passed_runs σ (report_of d n).node.0 (view_of d n) (report_of d n).members (report_of d n).body (report_of d n).len
      (report_records σ v t d n sound) s few

  -- the last run reaches every update of its view up to its own
  run-has : (p : Position) → p.view.0 ≡ (end_at d s n).view.0 → 1 ≤ p.k → p.k ≤ (end_at d s n).k → has_at d s p n ≡ true
  unfolding has_update
  run-has p e from to =
      ⊎_elim
      (λ z. absurd (let q : (end_at d s n).k ≡ 0 = ap (λ (x : Position). x.k) z in omega arith))
      (λ w.
      let at = w.1.at in
      let b = (report_of d n).body in
      let j = w.0 in
      or_right (is_start p)
      (held-of b (report_of d n).len s p j w.1.below w.1.is-run
      (sym (e ∙ ap (λ (x : Position). x.view.0) at)) from
      (let q : (end_at d s n).k ≡ word2 b j = ap (λ (x : Position). x.k) at in omega arith)))
      (end_cases (report_of d n).body s (report_of d n).len)

  -- a log has its own end
  pub end_has : has_at d s (end_at d s n) n ≡ true
  unfolding has_update
  end_has =
      ⊎_elim (λ z. rw z)
      (λ w. run-has (end_at d s n) refl
      (let q : (end_at d s n).k ≡ word2 (report_of d n).body w.0 = ap (λ (x : Position). x.k) w.1.at in
      omega (arith, runs_are.count_from w.0 w.1.below w.1.is-run)) (omega arith))
      (end_cases (report_of d n).body s (report_of d n).len)

  -- and nothing that lies after it
  pub end_lacks : (p : Position) → p.k < 4294967296 → (end_at d s n).k < 4294967296 → as_number (end_at d s n) < as_number p → has_at d s p n ≡ false
  end_lacks p small few-end l =
      no_true (has_at d s p n) (λ h.
      ⊎_elim
      (λ z. let q : as_number p ≡ 0 = ap as_number z ∙ number_start in omega arith)
      (λ g.
      clash (sym (number_before p (end_at d s n) small few-end) ∙ lt-ltb (as_number (end_at d s n)) (as_number p) l)
      (not_of_true (log_end σ v t d n sound s p g)))
      (has_cases (report_of d n).body (report_of d n).len s p h))

-- ---- how code renews the bests

-- at shard s; what is told of other shards stays
pub record RenewedAt (e : Bool) (n y s : ℕ) (hs ts hs' ts' : List ℕ) : Type 0 where
  pub here : HolderRenewed e n y (get_or hs s 0) (get_or ts s 0) (get_or hs' s 0) (get_or ts' s 0)
  pub others : (j : ℕ) → (j ≡ s → ⊥) → (get_or hs' j 0 ≡ get_or hs j 0) × (get_or ts' j 0 ≡ get_or ts j 0)

module _ (n y s : ℕ) (hs ts : List ℕ) where
  pub renewed_not : (e : Bool) → takes_over e y (get_or hs s 0) (get_or ts s 0) ≡ false → RenewedAt e n y s hs ts hs ts
  renewed_not e h =
      record {
        here = record { holder = rw h; top = rw h };
        others = λ j d. (refl, refl);
      }

  pub renewed_set : (e : Bool) → takes_over e y (get_or hs s 0) (get_or ts s 0) ≡ true → s < length hs → s < length ts
      → RenewedAt e n y s hs ts (set hs s n) (set ts s y)
  renewed_set e h l m =
      record {
        here = record { holder = get_or-set_same hs s n 0 l ∙ rw h; top = get_or-set_same ts s y 0 m ∙ rw h };
        others = λ j d. (get_or-set_other hs s j n 0 d, get_or-set_other ts s j y 0 d);
      }

module _ (v : Layout) (t : Termination) (d : List ℕ) (n : ℕ) where
  pub renewed_none : (hs ts : List ℕ) → RenewedBelow v t d n 0 hs ts hs ts
  renewed_none hs ts =
      record {
        each = λ s l. absurd (omega arith);
        rest = λ s l. (refl, refl);
      }

  -- one shard more
  pub renewed_more : (m : ℕ) (hs ts hs' ts' hs2 ts2 : List ℕ) → RenewedBelow v t d n m hs ts hs' ts'
      → RenewedAt (eligible v t d m n) n (as_number (end_at d m n)) m hs' ts' hs2 ts2 → RenewedBelow v t d n (m + 1) hs ts hs2 ts2
  renewed_more m hs ts hs' ts' hs2 ts2 r a =
      record {
        each = λ s l. ⊎_elim (λ e. new s e) (λ e. old s (omega (arith, e)) e) (eq_or_ne s m);
        rest = λ s l.
            let o = a.others s (λ e. omega arith) in
            let k = r.rest s (omega arith) in
            (o.0 ∙ k.0, o.1 ∙ k.1);
      }
    where
      Here : ℕ → ℕ → ℕ → ℕ → ℕ → Type 0
      Here s h x h' x' = HolderRenewed (eligible v t d s n) n (as_number (end_at d s n)) h x h' x'

      new : (s : ℕ) → s ≡ m → Here s (get_or hs s 0) (get_or ts s 0) (get_or hs2 s 0) (get_or ts2 s 0)
      new s e =
          let k = r.rest m (omega arith) in
          subst (λ (x : ℕ). Here x (get_or hs x 0) (get_or ts x 0) (get_or hs2 x 0) (get_or ts2 x 0)) (sym e)
          (subst (λ (x : ℕ). Here m (get_or hs m 0) x (get_or hs2 m 0) (get_or ts2 m 0)) k.1
          (subst (λ (x : ℕ). Here m x (get_or ts' m 0) (get_or hs2 m 0) (get_or ts2 m 0)) k.0 a.here))

      old : (s : ℕ) → s < m → (s ≡ m → ⊥) → Here s (get_or hs s 0) (get_or ts s 0) (get_or hs2 s 0) (get_or ts2 s 0)
      old s l e =
          let o = a.others s e in
          let k = r.each s l in
          record { holder = o.0 ∙ k.holder; top = o.1 ∙ k.top }

  -- a report of another view counts for no shard
  pub renewed_other : (view_of d n ≡ v.number.0 → ⊥) → (m : ℕ) (hs ts : List ℕ) → RenewedBelow v t d n m hs ts hs ts
  unfolding eligible
  renewed_other e m hs ts =
      record {
        each = λ s l.
            (renewed_not n (as_number (end_at d s n)) s hs ts (eligible v t d s n)
            (and_fails_left _ (and_fails_left _ (and_fails_right (has (mask_at v s) n) (ne_eqb (view_of d n) v.number.0 e))))).here;
        rest = λ s l. (refl, refl);
      }

-- ---- what is known of a node whose slot is a sound report of the kept view

-- a desk whose slot n is given as pairs
pub record SlotIs (d : List ℕ) (n : ℕ) (b : List ℕ) : Type 0 where
  pub whole : length d ≡ 16384
  pub words : FitWords d
  pub pairs : b ≡ pairs_of (slot d n)

-- the ends are numbers that the node's logs have, of each shard of which it is a member; b has its records, up to the last
pub record EndsTold (σ : List ℕ) (v : Layout) (t : Termination) (d : List ℕ) (n : ℕ) (b : List ℕ) (last : ℕ) (ends : List ℕ) : Type 0 where
  pub whole : length d ≡ 16384
  pub words : FitWords d
  pub below : n < 32
  pub sound : slot_ok σ v t d n ≡ true
  pub kept : view_of d n ≡ v.number.0
  pub length_is : (report_of d n).len ≡ last
  pub records : RecordsAre b (report_of d n).body last
  pub ends_are : (s : ℕ) → s < shards σ → has (mask_at v s) n ≡ true → get_or ends s 0 ≡ as_number (end_at d s n)

-- what an end's number x tells of an update p, whose number is y, in the log of shard s of a report with this body
pub record EndTells (b body : List ℕ) (last s : ℕ) (p : Position) (x y : ℕ) : Type 0 where
  pub records : RecordsAre b body last
  pub number : from_number y ≡ p
  pub same : x ≡ y → has_update body last s p ≡ true
  pub before : x < y → has_update body last s p ≡ false
  pub within : y ≤ x → x / 4294967296 ≡ y / 4294967296 → 1 ≤ y % 4294967296 → has_update body last s p ≡ true

pub end_tells : (σ : List ℕ) (v : Layout) (t : Termination) (d : List ℕ) (n : ℕ) (b : List ℕ) (last : ℕ) (ends : List ℕ) → EndsTold σ v t d n b last ends
    → (s : ℕ) → s < 16 → s < shards σ → has (mask_at v s) n ≡ true → (p : Position) → p.k < 4294967296
    → EndTells b (report_of d n).body last s p (get_or ends s 0) (as_number p)
unfolding from_number
end_tells σ v t d n b last ends told s few l member p small =
    subst (λ (x : ℕ). EndTells b (report_of d n).body x s p (get_or ends s 0) (as_number p)) told.length_is
    (subst⁻¹ (λ (x : ℕ). EndTells b (report_of d n).body (report_of d n).len s p x (as_number p)) (told.ends_are s l member) tells)
  where
    ok : SlotSound σ v t d n
    ok = slot_sound σ v t 0 d n told.sound

    end : Position
    end = end_at d s n

    end_k : end.k < 4294967296
    end_k = end_small d n told.whole told.below told.words s

    tells : EndTells b (report_of d n).body (report_of d n).len s p (as_number end) (as_number p)
    tells =
        record {
          records = subst⁻¹ (λ (x : ℕ). RecordsAre b (report_of d n).body x) told.length_is told.records;
          number = number_back p small;
          same = λ e.
              let z : end ≡ p = sym (number_back end end_k) ∙ ap from_number e ∙ number_back p small in
              subst (λ (x : Position). has_at d s x n ≡ true) z (end_has σ v t d n ok s (omega arith));
          before = λ m. end_lacks σ v t d n ok s (omega arith) p small end_k m;
          within = λ m view from. reach m view from;
        }
      where
        reach : as_number p ≤ as_number end → as_number end / 4294967296 ≡ as_number p / 4294967296 → 1 ≤ as_number p % 4294967296 → has_at d s p n ≡ true
        reach m view from =
            let pv : as_number p / 4294967296 ≡ p.view.0 = ap (λ (x : Position). x.view.0) (number_back p small) in
            let pk : as_number p % 4294967296 ≡ p.k = ap (λ (x : Position). x.k) (number_back p small) in
            let ev : as_number end / 4294967296 ≡ end.view.0 = ap (λ (x : Position). x.view.0) (number_back end end_k) in
            let ek : as_number end % 4294967296 ≡ end.k = ap (λ (x : Position). x.k) (number_back end end_k) in
            run-has σ v t d n ok s (omega arith) p (omega arith) (omega arith) (omega arith)
