-- The search's steps, from pair t + 1 to pair t: ending the shard's list, taking a pair, leaving it,
-- undoing a take, and the end.
use Rattle.std.specs.Prelude.{◌≡◌, refl, Bool, true, false, List, ℕ, ◌+◌, ◌/◌, ◌%◌, ◌≤◌, ◌<◌, get_or, set, eqb}
use Rattle.std.proofs.Common.{sym, ap, ◌∙◌, subst, true≢false, ⊎_elim, le_antisymm, arith, length-set, get_or-set_same, get_or-set_other, set-set, eqb-true}
use Rattle.std.proofs.lemmas.Bool.{false≢true, eqb-false}
use Rattle.std.proofs.lemmas.List.{set-get_or}
use Rattle.base_laws.specs.Bools.{eq_or_ne, lt_or_le}
use Rattle.search_laws.specs.Case.{Case, WeighsWithin}
use Rattle.search_laws.specs.Tables.{owners_of}
use Rattle.search_laws.specs.Order.{takes, shard_end, Begun, HasNone, From, TakesPair, begun_leave, begun_close, begun_take, first_leave, none_leave, first_close, first_take, none_take, first_end, none_end}
use Rattle.search_laws.proofs.Tests.{within_same}
use Rattle.search_judge.specs.Post.{WeightJudged, is_barred, barred_never, hopeless_from, hopeless_none}
use Rattle.search_total.specs.Post.{Owners, ReadyFrom, Sought}

-- owners with pair t taken
abbrev pub pair_taken : List ℕ → ℕ → List ℕ
pair_taken o t = set o (t % 32) (t / 32)

owners_set : {o : List ℕ} (n v : ℕ) → Owners o → n < 32 → v ≤ 16 → Owners (set o n v)
owners_set {o} n v w l h =
    record {
      long = length-set o n v ∙ w.long;
      least = λ m q. ⊎_elim
          (λ e. subst (λ (j : ℕ). get_or (set o n v) j 0 ≤ 16) (sym e) (subst (λ (a : ℕ). a ≤ 16) (sym (get_or-set_same o n v 0 (omega (arith, w.long)))) h))
          (λ e. subst (λ (a : ℕ). a ≤ 16) (sym (get_or-set_other o n m v 0 e)) (w.least m q))
          (eq_or_ne m n);
    }

pub taken : {o : List ℕ} {t : ℕ} → Owners o → TakesPair (owners_of o) t (owners_of (pair_taken o t))
taken {o} {t} w =
    record { there = get_or-set_same o (t % 32) (t / 32) 0 (omega (arith, w.long)); else = λ n l e. get_or-set_other o (t % 32) n (t / 32) 0 e }

-- none with the list ended, one pair later in the shard
pub none_later : {K : Case} {k : ℕ} (o : List ℕ) (t : ℕ) {b : Bool} → b ≡ eqb (shard_end (t + 1)) (shard_end t) → HasNone (From (WeighsWithin K k) (owners_of o) (shard_end t)) →
    b ≡ true → HasNone (From (WeighsWithin K k) (owners_of o) (shard_end (t + 1)))
none_later {K} {k} o t h n e = subst (λ (j : ℕ). HasNone (From (WeighsWithin K k) (owners_of o) j)) (sym (eqb-true (shard_end (t + 1)) (shard_end t) (sym h ∙ e))) n

-- the shard's last pair: none with the list ended is none with the pair left
pub none_last : {K : Case} {k : ℕ} (o : List ℕ) (t : ℕ) {d : Bool} → d ≡ eqb (shard_end (t + 1)) (shard_end t) → d ≡ false →
    HasNone (From (WeighsWithin K k) (owners_of o) (shard_end t)) → HasNone (From (WeighsWithin K k) (owners_of o) (t + 1))
none_last {K} {k} o t h e n =
    let far : (shard_end (t + 1) ≡ shard_end t → ⊥) = eqb-false (shard_end (t + 1)) (shard_end t) (sym h ∙ e) in
    subst (λ (s : ℕ). HasNone (From (WeighsWithin K k) (owners_of o) s)) (⊎_elim (λ z. absurd (far (omega arith))) (λ z. omega arith) (lt_or_le (t % 32) 31)) n

-- nothing is found where the last pair is left
pub sought_last : {K : Case} {k : ℕ} {o : List ℕ} {t : ℕ} → ReadyFrom o t → HasNone (From (WeighsWithin K k) (owners_of o) (t + 1)) → Sought K k o (t + 1) o false
sought_last r n = record { yes = λ e. absurd (false≢true e); no = λ e. n; kept = λ e. refl; owners = r.owners }

module _ {o : List ℕ} {t : ℕ} (l : t < 512) (r : ReadyFrom o t) where
  pub ready_leave : ReadyFrom o (t + 1)
  ready_leave = record { owners = r.owners; begun = begun_leave l r.begun }

  pub ready_take : 16 ≤ owners_of o (t % 32) → ReadyFrom (pair_taken o t) (t + 1)
  ready_take f =
      record { owners = owners_set (t % 32) (t / 32) r.owners (omega arith) (omega arith); begun = begun_take l r.begun f (taken r.owners) }

  -- what was stored is put back
  pub undone : 16 ≤ owners_of o (t % 32) → set (pair_taken o t) (t % 32) 16 ≡ o
  undone f =
      set-set o (t % 32) (t / 32) 16
      ∙ (ap (set o (t % 32)) (sym (le_antisymm (r.owners.least (t % 32) (omega arith)) f)) ∙ set-get_or o (t % 32) 0)

  -- no placement from here takes pair t
  pub sought_leave : {K : Case} {k : ℕ} {p : List ℕ} {b : Bool} → ((y : ℕ → ℕ) → From (WeighsWithin K k) (owners_of o) t y → takes y t ≡ true → ⊥) →
      Sought K k o (t + 1) p b → Sought K k o t p b
  sought_leave h s =
      record {
        yes = λ e. first_leave l r.begun h (s.yes e);
        no = λ e. none_leave l r.begun h (s.no e);
        kept = s.kept;
        owners = s.owners;
      }

  -- a placement was found with pair t taken
  pub sought_take : {K : Case} {k : ℕ} {p : List ℕ} → HasNone (From (WeighsWithin K k) (owners_of o) (shard_end t)) → 16 ≤ owners_of o (t % 32) → Sought K k (pair_taken o t) (t + 1) p true → Sought K k o t p true
  sought_take n f s =
      record {
        yes = λ e. first_take l r.begun f (taken r.owners) n (s.yes refl);
        no = λ e. absurd (true≢false e);
        kept = λ e. absurd (true≢false e);
        owners = s.owners;
      }

  -- the list ended
  pub ready_close : ReadyFrom o (shard_end t)
  ready_close = record { owners = r.owners; begun = begun_close l r.begun }

  -- a placement was found with the list ended
  pub sought_close : {K : Case} {k : ℕ} {p : List ℕ} → Sought K k o (shard_end t) p true → Sought K k o t p true
  sought_close s =
      record {
        yes = λ e. first_close l r.begun (s.yes refl);
        no = λ e. absurd (true≢false e);
        kept = λ e. absurd (true≢false e);
        owners = s.owners;
      }

  -- there is none with pair t taken
  pub taken_none : {K : Case} {k : ℕ} → 16 ≤ owners_of o (t % 32) → HasNone (From (WeighsWithin K k) (owners_of (pair_taken o t)) (t + 1)) →
      (y : ℕ → ℕ) → From (WeighsWithin K k) (owners_of o) t y → takes y t ≡ true → ⊥
  taken_none f n = none_take l r.begun f (taken r.owners) n

  -- the same, as the code has it: v is the shard of pair t
  module _ {v : ℕ} (e : v ≡ t / 32) (f : 16 ≤ owners_of o (t % 32)) where
    pub ready_stored : ReadyFrom (set o (t % 32) v) (t + 1)
    ready_stored = subst (λ (a : ℕ). ReadyFrom (set o (t % 32) a) (t + 1)) (sym e) (ready_take f)

    pub sought_found : {K : Case} {k : ℕ} {p : List ℕ} {b : Bool} → HasNone (From (WeighsWithin K k) (owners_of o) (shard_end t)) → b ≡ true → Sought K k (set o (t % 32) v) (t + 1) p b → Sought K k o t p true
    sought_found {K} {k} {p} {b} n g s =
        sought_take n f
        (subst (λ (d : Bool). Sought K k (pair_taken o t) (t + 1) p d) g (subst (λ (a : ℕ). Sought K k (set o (t % 32) a) (t + 1) p b) e s))

    module _ {K : Case} {k : ℕ} {q : List ℕ} {b : Bool} (g : b ≡ false) (s : Sought K k (set o (t % 32) v) (t + 1) q b) where
      pub restored : set q (t % 32) 16 ≡ o
      restored = ap (λ (w : List ℕ). set w (t % 32) 16) (s.kept g ∙ ap (set o (t % 32)) e) ∙ undone f

      pub ready_restored : ReadyFrom (set q (t % 32) 16) (t + 1)
      ready_restored = subst (λ (w : List ℕ). ReadyFrom w (t + 1)) (sym restored) ready_leave

      pub restored_none : {d : Bool} → HasNone (From (WeighsWithin K k) (owners_of o) (shard_end t)) → d ≡ eqb (shard_end (t + 1)) (shard_end t) → d ≡ true →
          HasNone (From (WeighsWithin K k) (owners_of (set q (t % 32) 16)) (shard_end (t + 1)))
      restored_none n h e =
          subst (λ (w : List ℕ). HasNone (From (WeighsWithin K k) (owners_of w) (shard_end (t + 1)))) (sym restored) (none_later o t h n e)

      pub sought_else : {p : List ℕ} {d : Bool} → Sought K k (set q (t % 32) 16) (t + 1) p d → Sought K k o t p d
      sought_else {p} {d} h =
          sought_leave (taken_none f (subst (λ (a : ℕ). HasNone (From (WeighsWithin K k) (owners_of (set o (t % 32) a)) (t + 1))) e (s.no g)))
          (subst (λ (w : List ℕ). Sought K k w (t + 1) p d) restored h)

      -- the shard's last pair is put back
      pub restored_last : HasNone (From (WeighsWithin K k) (owners_of o) (t + 1)) → Sought K k o t (set q (t % 32) 16) false
      restored_last n = sought_else (subst (λ (w : List ℕ). Sought K k w (t + 1) w false) (sym restored) (sought_last r n))

-- the list ended, as the code has it
pub closing : {o : List ℕ} {t j : ℕ} → t < 512 → ReadyFrom o t → j ≡ shard_end t → ReadyFrom o j
closing {o} l r e = subst (ReadyFrom o) (sym e) (ready_close l r)

-- none with the list ended, as the code has it: j is the next shard's first pair
module _ {K : Case} {k : ℕ} {o q : List ℕ} (t : ℕ) {j : ℕ} {b : Bool} (e : j ≡ shard_end t) (s : Sought K k o j q b) where
  pub closed_found : t < 512 → ReadyFrom o t → b ≡ true → Sought K k o t q true
  closed_found l r g = sought_close l r (subst (λ (d : Bool). Sought K k o (shard_end t) q d) g (subst (λ (i : ℕ). Sought K k o i q b) e s))

  pub closed_ready : ReadyFrom o t → b ≡ false → ReadyFrom q t
  closed_ready r g = subst (λ (w : List ℕ). ReadyFrom w t) (sym (s.kept g)) r

  pub closed_none : b ≡ false → HasNone (From (WeighsWithin K k) (owners_of q) (shard_end t))
  closed_none g = subst (λ (w : List ℕ). HasNone (From (WeighsWithin K k) (owners_of w) (shard_end t))) (sym (s.kept g)) (subst (λ (i : ℕ). HasNone (From (WeighsWithin K k) (owners_of o) i)) e (s.no g))

  pub closed_else : {p : List ℕ} {d : Bool} → b ≡ false → Sought K k q t p d → Sought K k o t p d
  closed_else {p} {d} g h = subst (λ (w : List ℕ). Sought K k w t p d) (s.kept g) h

-- the pair is barred
pub barred_none : {K : Case} {k : ℕ} {o : ℕ → ℕ} {t : ℕ} {b : Bool} → t < 512 → Begun o t → b ≡ true → b ≡ is_barred K o t → (y : ℕ → ℕ) → From (WeighsWithin K k) o t y
    → takes y t ≡ true → ⊥
barred_none {K} {k} {o} {t} l n g b y f e = barred_never K o t b g l n y f.has.valid f.agree e

-- all pairs decided
pub sought_end : {K : Case} {k : ℕ} {o : List ℕ} {t : ℕ} {b : Bool} → t ≡ 512 → ReadyFrom o t → WeightJudged K k (owners_of o) b → Sought K k o t o b
sought_end {K} {k} {o} {t} {b} d r j =
    subst (λ (s : ℕ). Sought K k o s o b) (sym d)
    record { yes = λ e. first_end (j.yes e); no = λ e. none_end (λ y s w. within_same (owners_of o) y s w) (j.no e); kept = λ e. refl; owners = r.owners }

-- nothing to hope for
pub sought_hopeless : {K : Case} {k : ℕ} {o : List ℕ} {t : ℕ} {b : Bool} → t ≤ 512 → ReadyFrom o t → b ≡ true → b ≡ hopeless_from K k (owners_of o) t →
    Sought K k o t o false
sought_hopeless l r g h = record { yes = λ e. absurd (false≢true e); no = λ e. hopeless_none l r.begun (sym h ∙ g); kept = λ e. refl; owners = r.owners }
