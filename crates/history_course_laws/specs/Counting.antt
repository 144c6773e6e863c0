-- Whether the view of a restart that nobody is known to have committed counts. It counts if all its members have it on disk, and not if one
-- of them has reported without it. With all members back that is decided, what one leader finds no later one contradicts, and if it counts
-- the restart was carried out.
use Rattle.std.specs.Prelude.{ℕ, ◌+◌, ◌*◌, ◌<◌, Bool, true, false, not, ◌&&◌, List, [], ◌∷◌, ◌++◌, ◌⊎◌, ◌≡◌, refl, eqb, length, get_or}
use Rattle.std.proofs.Common.{inl, inr, ⊎_elim, sym, ap, ◌∙◌, subst, arith, eqb-true, length-append, get_or-append-add}
use Rattle.std.proofs.Math.Path.{subst⁻¹}
use Rattle.std.specs.Int.Bits.{bit_and, bit_or}
use Rattle.base_laws.specs.Bools.{either, clash, and_left, no_true, or_left, or-holds}
use Rattle.base_laws.specs.Definitions.{has, count, subset, with, without}
use Rattle.base_laws.specs.Masks.{has_or, has_with, has_without, subset_has, width}
use Rattle.base_laws.proofs.Masks.{subset_counter}
use Rattle.settings_values.specs.Definitions.{shards}
use Rattle.base_ids.specs.declared.Position.{Position}
use Rattle.report_views.specs.declared.Layout.{Layout}
use Rattle.report_views.specs.declared.Termination.{Termination}
use Rattle.report_views.specs.Definitions.{no_view, mask_at}
use Rattle.report_views.specs.Meets.{QuorumMet}
use Rattle.history_laws.specs.Definitions.{History, Full, members_at}
use Rattle.history_course_laws.specs.Course.{last_of, Orderly, PlannedView, CarriedOut, as_ordered}

-- what the disks do with a view of the members m, from one moment to a later one: the machines that have it, and those that have reported
-- without it. Only members get it, one that has reported without it does not get it any more, and one that has it forgets it only after a
-- member has reported without it.
pub data Copies (m a o : ℕ) : ℕ → ℕ → Type 0 where
  now : Copies m a o a o
  got : (have out n : ℕ) → has m n ≡ true → has out n ≡ false → Copies m a o have out → Copies m a o (with have n) out
  went : (have out n : ℕ) → has have n ≡ false → Copies m a o have out → Copies m a o have (with out n)
  forgot : (have out n k : ℕ) → has m k ≡ true → has out k ≡ true → Copies m a o have out → Copies m a o (without have n) (with out n)

-- no machine has it and has reported without it
pub record NoneBoth (a o : ℕ) : Type 0 where
  pub never : (n : ℕ) → has a n ≡ true → has o n ≡ false

-- it counts
abbrev pub all_have : ℕ → ℕ → Bool
all_have m have = subset m have

-- it does not count
pub record OneLacks (m out : ℕ) : Type 0 where
  pub one : ℕ
  pub member : has m one ≡ true
  pub lacks : has out one ≡ true

module _ {m a o : ℕ} (apart : NoneBoth a o) where
  pub still_apart : {have out : ℕ} → Copies m a o have out → NoneBoth have out
  still_apart now = apart
  still_apart (got have out n i f c) =
      record {
        never = λ k p. ⊎_elim ((still_apart c).never k) (λ e. subst (λ (x : ℕ). has out x ≡ false) (eqb-true n k e) f)
            (or-holds (has have k) (eqb n k) (sym (has_with have n k) ∙ p));
      }
  still_apart (went have out n f c) =
      record {
        never = λ k p. no_true (has (with out n) k)
            (λ q. ⊎_elim (λ r. clash r ((still_apart c).never k p)) (λ e. clash p (subst (λ (x : ℕ). has have x ≡ false) (eqb-true n k e) f))
            (or-holds (has out k) (eqb n k) (sym (has_with out n k) ∙ q)));
      }
  still_apart (forgot have out n k u w c) =
      record {
        never = λ i p. no_true (has (with out n) i)
            (λ q. ⊎_elim (λ r. clash r ((still_apart c).never i (and_left (has have i) (not (eqb n i)) (sym (has_without have n i) ∙ p))))
            (λ e. left (has have i) e (sym (has_without have n i) ∙ p))
            (or-holds (has out i) (eqb n i) (sym (has_with out n i) ∙ q)));
      }
    where
      left : (x : Bool) {y : Bool} {A : Type 0} → y ≡ true → (x && not y) ≡ true → A
      left true {y} e f = clash f (ap (λ (z : Bool). not z) e)
      left false e f = clash f refl

  -- once a member has reported without it, that stands for ever
  pub still_lacks : {have out : ℕ} → OneLacks m o → Copies m a o have out → OneLacks m out
  still_lacks l now = l
  still_lacks l (got have out n i f c) = still_lacks l c
  still_lacks l (went have out n f c) =
      let q = still_lacks l c in record { one = q.one; member = q.member; lacks = has_with out n q.one ∙ or_left (eqb n q.one) q.lacks }
  still_lacks l (forgot have out n k u w c) =
      let q = still_lacks l c in record { one = q.one; member = q.member; lacks = has_with out n q.one ∙ or_left (eqb n q.one) q.lacks }

  -- with every member back, with it or without, one of the two
  pub decided_back : {have out : ℕ} → Copies m a o have out → subset m (bit_or have out) ≡ true → (all_have m have ≡ true) ⊎ OneLacks m out
  decided_back {have} {out} c here =
      ⊎_elim inl
      (λ s.
      let (n, l, p, q) = subset_counter m m have (width m) s in
      inr (record { one = n; member = p; lacks = ⊎_elim (λ h. clash h q) (λ h. h) (or-holds (has have n) (has out n) (sym (has_or have out n) ∙ subset_has m (bit_or have out) here n p)) }))
      (either (all_have m have))

module _ (σ : List ℕ) (v : Layout) (t : Termination) (held : ℕ) (d : List ℕ) (met : QuorumMet σ v t held d) (w : Layout) (next : PlannedView σ v held w)
    (H G : History) (views : G.views ≡ H.views ++ w ∷ [])
    (remembered : (n i : ℕ) → i < length H.views → H.logged n i ≡ true → G.logged n i ≡ true)
    (ordered : (s : ℕ) → s < shards σ → (n : ℕ) → n < 32 → has (mask_at w s) n ≡ true → G.logged n (length H.views) ≡ true →
    (q : Position) → G.updated n s q ≡ as_ordered v t held d n s q) (have : ℕ)
    (logs : (n : ℕ) → n < 32 → has have n ≡ true → G.logged n (length H.views) ≡ true) where
  -- the view counts: the restart was carried out
  pub counted_carried : subset w.members have ≡ true → CarriedOut σ v t held d w H G
  counted_carried a =
      record {
        views = views;
        remembered = remembered;
        by = w.members;
        logs = λ n l p. logs n l (subset_has w.members have a n p);
        most = subst⁻¹ (λ (m : ℕ). count v.members < 2 * count (bit_and m v.members)) next.members met.most;
        ordered = ordered;
      }

  -- and every member has logged it, so that it may be served
  pub counted_full : subset w.members have ≡ true → Full G (last_of G)
  counted_full a = record { all = λ n l p. subst⁻¹ (λ (i : ℕ). G.logged n i ≡ true) place (logs n l (subset_has w.members have a n (mine n p))) }
    where
      place : last_of G ≡ length H.views
      place = let e : length G.views ≡ length H.views + 1 = ap (λ (l : List Layout). length l) views ∙ length-append H.views (w ∷ []) in
          omega (arith, e)

      seam : get_or (H.views ++ w ∷ []) (length H.views) no_view ≡ w
      seam = let e : length H.views ≡ length H.views + 0 = omega arith in
          ap (λ (k : ℕ). get_or (H.views ++ w ∷ []) k no_view) e ∙ get_or-append-add H.views (w ∷ []) 0 no_view

      mine : (n : ℕ) → has (members_at G (last_of G)) n ≡ true → has w.members n ≡ true
      mine n p =
          subst (λ (x : Layout). has x.members n ≡ true) (ap (λ (k : List Layout). get_or k (length H.views) no_view) views ∙ seam)
          (subst (λ (i : ℕ). has (members_at G i) n ≡ true) place p)

  -- also where not all members are back: more than half of the kept view's have it
  pub enough_carried : count v.members < 2 * count (bit_and have v.members) → CarriedOut σ v t held d w H G
  enough_carried a = record { views = views; remembered = remembered; by = have; logs = logs; most = a; ordered = ordered }

-- the first view ever
pub first_orderly : (w : Layout) (logged : ℕ → ℕ → Bool) (updated : ℕ → ℕ → Position → Bool)
    → Orderly (record { views = w ∷ []; logged = logged; updated = updated })
first_orderly w logged updated =
    record { rule = record { rises = λ i j l k. absurd (omega arith); overlaps = λ i l. absurd (omega arith) }; succeeded = λ i l. absurd (omega arith) }
