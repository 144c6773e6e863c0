-- The order of placements: shards ascending, each shard's nodes listed ascending, the smaller list in dictionary order first, a
-- proper prefix being smaller. Pair t is shard t / 32 with node t % 32. At the first pair that only one of two placements takes,
-- the one that takes it comes first, unless the other's list ends there.
-- Then the laws of a search that decides the pairs one after another, for placements with any property P: at pair t it ends the
-- shard's list, or takes the pair, or leaves it.
use Rattle.std.specs.Prelude.{◌≡◌, refl, Bool, true, false, ℕ, zero, suc, ◌+◌, ◌*◌, ◌/◌, ◌%◌, ◌≤◌, ◌<◌, min, eqb, ltb}
use Rattle.std.proofs.Common.{sym, ap, ap₂, ◌∙◌, subst, add-one, arith, ⊎_elim, eqb-true, eq-eqb, ne_eqb, ltb-true, ltb-false}
use Rattle.std.proofs.lemmas.Bool.{eqb-false}
use Rattle.base_laws.specs.Bools.{clash, lt_or_le, eq_or_ne}

-- z takes pair t
abbrev pub takes : (ℕ → ℕ) → ℕ → Bool
takes z t = eqb (z (t % 32)) (t / 32)

-- the first pair of the next shard
abbrev pub shard_end : ℕ → ℕ
shard_end t = (t / 32 + 1) * 32

-- z and y take the same pairs before t
pub record Agree (z y : ℕ → ℕ) (t : ℕ) : Type 0 where
  pub same : (s : ℕ) → s < t → takes z s ≡ takes y s

-- z takes no pair of t's shard from t on
pub record NoneFrom (z : ℕ → ℕ) (t : ℕ) : Type 0 where
  pub rest : (s : ℕ) → t ≤ s → s < shard_end t → takes z s ≡ false

-- y does not come before z
pub record NotBefore (z y : ℕ → ℕ) : Type 0 where
  pub leads : (t : ℕ) → t < 512 → Agree z y t → takes z t ≡ false → takes y t ≡ true → NoneFrom z t
  pub longer : (t : ℕ) → t < 512 → Agree z y t → takes z t ≡ true → takes y t ≡ false → NoneFrom y t → ⊥

-- z is the first of the placements with P
pub record First (P : (ℕ → ℕ) → Type 0) (z : ℕ → ℕ) : Type 0 where
  pub is : P z
  pub first : (y : ℕ → ℕ) → P y → NotBefore z y

-- no placement has P
pub record HasNone (P : (ℕ → ℕ) → Type 0) : Type 0 where
  pub none : (y : ℕ → ℕ) → P y → ⊥

-- P, and as the owners o say before t
pub record From (P : (ℕ → ℕ) → Type 0) (o : ℕ → ℕ) (t : ℕ) (z : ℕ → ℕ) : Type 0 where
  pub has : P z
  pub agree : Agree z o t

-- the owners o take no pair from t on
pub record Begun (o : ℕ → ℕ) (t : ℕ) : Type 0 where
  pub rest : (s : ℕ) → t ≤ s → s < 512 → takes o s ≡ false

-- o with pair t taken
pub record TakesPair (o : ℕ → ℕ) (t : ℕ) (p : ℕ → ℕ) : Type 0 where
  pub there : p (t % 32) ≡ t / 32
  pub else : (n : ℕ) → n < 32 → (n ≡ t % 32 → ⊥) → p n ≡ o n

-- owners that place the same nodes in the same shards
pub record Same (y o : ℕ → ℕ) : Type 0 where
  pub owner : (n : ℕ) → n < 32 → min (y n) 16 ≡ min (o n) 16

-- Bool by cases, with the equation
by : {A : Type 0} (b : Bool) → (b ≡ true → A) → (b ≡ false → A) → A
by true f g = f refl
by false f g = g refl

pub agree_trans : {x y z : ℕ → ℕ} {t : ℕ} → Agree x y t → Agree y z t → Agree x z t
agree_trans p q = record { same = λ s l. p.same s l ∙ q.same s l }

pub agree_sym : {x y : ℕ → ℕ} {t : ℕ} → Agree x y t → Agree y x t
agree_sym p = record { same = λ s l. sym (p.same s l) }

-- one pair more
pub agree_more : {x y : ℕ → ℕ} {t : ℕ} → Agree x y t → takes x t ≡ takes y t → Agree x y (t + 1)
agree_more {x} {y} {t} p e = record { same = go }
  where
    go : (s : ℕ) → s < t + 1 → takes x s ≡ takes y s
    go s l = by (eqb s t) (λ d. subst (λ (j : ℕ). takes x j ≡ takes y j) (sym (eqb-true s t d)) e) (λ d. p.same s (omega (arith, eqb-false s t d)))

-- fewer pairs
pub agree_less : {x y : ℕ → ℕ} {s t : ℕ} → s ≤ t → Agree x y t → Agree x y s
agree_less h p = record { same = λ j l. p.same j (omega arith) }

-- nothing is decided before pair 0
pub agree_start : (x y : ℕ → ℕ) → Agree x y 0
agree_start x y = record { same = λ s l. absurd (omega arith) }

-- pair i * 32 + n is shard i with node n
pub takes_at : (z : ℕ → ℕ) (n i : ℕ) → n < 32 → takes z (i * 32 + n) ≡ eqb (z n) i
takes_at z n i l = ap₂ (λ (a b : ℕ). eqb (z a) b) (omega arith) (omega arith)

pub pair_takes : (z : ℕ → ℕ) (n i : ℕ) → n < 32 → z n ≡ i → takes z (i * 32 + n) ≡ true
pair_takes z n i l e = eq-eqb (z ((i * 32 + n) % 32)) ((i * 32 + n) / 32) (ap z (omega arith) ∙ (e ∙ omega arith))

pub takes_pair : (z : ℕ → ℕ) (n i : ℕ) → n < 32 → takes z (i * 32 + n) ≡ true → z n ≡ i
takes_pair z n i l e = ap z (omega arith) ∙ (eqb-true (z ((i * 32 + n) % 32)) ((i * 32 + n) / 32) e ∙ omega arith)

module _ {o : ℕ → ℕ} {t : ℕ} (l : t < 512) (b : Begun o t) where
  -- leaving pair t
  pub begun_leave : Begun o (t + 1)
  begun_leave = record { rest = λ s p q. b.rest s (omega arith) q }

  from_leave : {P : (ℕ → ℕ) → Type 0} (y : ℕ → ℕ) → From P o t y → takes y t ≡ false → From P o (t + 1) y
  from_leave y f e = record { has = f.has; agree = agree_more f.agree (e ∙ sym (b.rest t (omega arith) l)) }

  pub from_left : {P : (ℕ → ℕ) → Type 0} (y : ℕ → ℕ) → From P o (t + 1) y → From P o t y
  from_left y f = record { has = f.has; agree = agree_less (omega arith) f.agree }

  -- no placement from here takes pair t: what is first when it is left is first
  pub first_leave : {P : (ℕ → ℕ) → Type 0} {z : ℕ → ℕ} → ((y : ℕ → ℕ) → From P o t y → takes y t ≡ true → ⊥) → First (From P o (t + 1)) z → First (From P o t) z
  first_leave {P} {z} not f =
      record { is = from_left z f.is; first = λ y g. f.first y (by (takes y t) (λ e. absurd (not y g e)) (λ e. from_leave y g e)) }

  pub none_leave : {P : (ℕ → ℕ) → Type 0} → ((y : ℕ → ℕ) → From P o t y → takes y t ≡ true → ⊥) → HasNone (From P o (t + 1)) → HasNone (From P o t)
  none_leave not f = record { none = λ y g. f.none y (by (takes y t) (λ e. absurd (not y g e)) (λ e. from_leave y g e)) }

  -- ending the shard's list
  pub begun_close : Begun o (shard_end t)
  begun_close = record { rest = λ s p q. b.rest s (omega arith) q }

  pub from_closed : {P : (ℕ → ℕ) → Type 0} (y : ℕ → ℕ) → From P o (shard_end t) y → From P o t y
  from_closed y f = record { has = f.has; agree = agree_less (omega arith) f.agree }

  pub from_close : {P : (ℕ → ℕ) → Type 0} (y : ℕ → ℕ) → From P o t y → NoneFrom y t → From P o (shard_end t) y
  from_close y f h =
      record { has = f.has; agree = record { same = λ s q. ⊎_elim (λ r. f.agree.same s r) (λ r. h.rest s r q ∙ sym (b.rest s r (omega arith))) (lt_or_le s t) } }

  -- what is first with the list ended is first
  pub first_close : {P : (ℕ → ℕ) → Type 0} {z : ℕ → ℕ} → First (From P o (shard_end t)) z → First (From P o t) z
  first_close {P} {z} f = record { is = from_closed z f.is; first = λ y g. record { leads = leads y g; longer = longer y g } }
    where
      -- z takes nothing of the rest of the shard
      ended : (s : ℕ) → t ≤ s → s < shard_end t → takes z s ≡ false
      ended s p q = f.is.agree.same s q ∙ b.rest s p (omega arith)

      -- before t both are as the owners say
      before : (y : ℕ → ℕ) → From P o t y → (s : ℕ) → s < t → takes z s ≡ takes y s
      before y g s p = f.is.agree.same s (omega arith) ∙ sym (g.agree.same s p)

      -- one that agrees with z up to the next shard has its list ended too
      beyond : (y : ℕ → ℕ) → From P o t y → (s : ℕ) → shard_end t ≤ s → Agree z y s → From P o (shard_end t) y
      beyond y g s p a = record { has = g.has; agree = agree_trans (agree_sym (agree_less p a)) f.is.agree }

      leads : (y : ℕ → ℕ) → From P o t y → (s : ℕ) → s < 512 → Agree z y s → takes z s ≡ false → takes y s ≡ true → NoneFrom z s
      leads y g s q a d e =
          ⊎_elim (λ p. clash (before y g s p ∙ e) d)
          (λ p. ⊎_elim (λ r. record { rest = λ j u v. ended j (omega arith) (omega arith) }) (λ r. (f.first y (beyond y g s r a)).leads s q a d e) (lt_or_le s (shard_end t)))
          (lt_or_le s t)

      longer : (y : ℕ → ℕ) → From P o t y → (s : ℕ) → s < 512 → Agree z y s → takes z s ≡ true → takes y s ≡ false → NoneFrom y s → ⊥
      longer y g s q a d e h =
          ⊎_elim (λ p. clash d (before y g s p ∙ e))
          (λ p. ⊎_elim (λ r. clash d (ended s p r)) (λ r. (f.first y (beyond y g s r a)).longer s q a d e h) (lt_or_le s (shard_end t)))
          (lt_or_le s t)

  module _ {p : ℕ → ℕ} (free : 16 ≤ o (t % 32)) (tk : TakesPair o t p) where
    -- taking it
    taken_same : (s : ℕ) → s < 512 → (s ≡ t → ⊥) → takes p s ≡ takes o s
    taken_same s q ne =
        by (eqb (s % 32) (t % 32))
        (λ d.
        let same : s % 32 ≡ t % 32 = eqb-true (s % 32) (t % 32) d in
        let here : p (s % 32) ≡ t / 32 = ap p same ∙ tk.there in
        let was : 16 ≤ o (s % 32) = subst (λ (n : ℕ). 16 ≤ o n) (sym same) free in
        ne_eqb (p (s % 32)) (s / 32) (λ e. ne (omega arith)) ∙ sym (ne_eqb (o (s % 32)) (s / 32) (λ e. omega arith)))
        (λ d. ap (λ (j : ℕ). eqb j (s / 32)) (tk.else (s % 32) (omega arith) (eqb-false (s % 32) (t % 32) d)))

    pub begun_take : Begun p (t + 1)
    begun_take = record { rest = λ s g h. taken_same s h (λ e. omega arith) ∙ b.rest s (omega arith) h }

    taken_takes : takes p t ≡ true
    taken_takes = eq-eqb (p (t % 32)) (t / 32) tk.there

    agree_taken : Agree p o t
    agree_taken = record { same = λ s g. taken_same s (omega arith) (λ e. omega arith) }

    from_take : {P : (ℕ → ℕ) → Type 0} (y : ℕ → ℕ) → From P o t y → takes y t ≡ true → From P p (t + 1) y
    from_take y f e =
        record { has = f.has; agree = agree_more (agree_trans f.agree (agree_sym agree_taken)) (e ∙ sym taken_takes) }

    pub from_taken : {P : (ℕ → ℕ) → Type 0} (y : ℕ → ℕ) → From P p (t + 1) y → From P o t y
    from_taken y f = record { has = f.has; agree = agree_trans (agree_less (omega arith) f.agree) agree_taken }

    -- what is first with pair t taken is first, where none has the list ended before it
    pub first_take : {P : (ℕ → ℕ) → Type 0} {z : ℕ → ℕ} → HasNone (From P o (shard_end t)) → First (From P p (t + 1)) z → First (From P o t) z
    first_take {P} {z} n f = record { is = from_taken z f.is; first = λ y g. by (takes y t) (λ e. f.first y (from_take y g e)) (λ e. behind y g e) }
      where
        z_takes : takes z t ≡ true
        z_takes = f.is.agree.same t (omega arith) ∙ taken_takes

        behind : (y : ℕ → ℕ) → From P o t y → takes y t ≡ false → NotBefore z y
        behind y g e = record { leads = leads; longer = longer }
          where
            before : (s : ℕ) → s < t → takes z s ≡ takes y s
            before s h = (from_taken z f.is).agree.same s h ∙ sym (g.agree.same s h)

            leads : (s : ℕ) → s < 512 → Agree z y s → takes z s ≡ false → takes y s ≡ true → NoneFrom z s
            leads s q a d c =
                ⊎_elim (λ h. clash (before s h ∙ c) d)
                (λ h. ⊎_elim (λ r. clash (subst (λ (j : ℕ). takes z j ≡ true) r z_takes) d) (λ r. clash (sym (a.same t (omega arith)) ∙ z_takes) e) (eq_or_ne t s))
                (lt_or_le s t)

            longer : (s : ℕ) → s < 512 → Agree z y s → takes z s ≡ true → takes y s ≡ false → NoneFrom y s → ⊥
            longer s q a d c h =
                ⊎_elim (λ w. clash d (before s w ∙ c))
                (λ w. ⊎_elim (λ r. n.none y (from_close y g (subst (NoneFrom y) (sym r) h))) (λ r. clash (sym (a.same t (omega arith)) ∙ z_takes) e) (eq_or_ne t s))
                (lt_or_le s t)

    -- none with pair t taken: no placement from here takes it
    pub none_take : {P : (ℕ → ℕ) → Type 0} → HasNone (From P p (t + 1)) → (y : ℕ → ℕ) → From P o t y → takes y t ≡ true → ⊥
    none_take f y g e = f.none y (from_take y g e)

-- every pair decided: the owners are the placement
pub agree_all : {y o : ℕ → ℕ} → Agree y o 512 → Same y o
agree_all {y} {o} a = record { owner = owner }
  where
    there : (y o : ℕ → ℕ) (n : ℕ) → n < 32 → ((s : ℕ) → s < 512 → takes o s ≡ takes y s) → y n < 16 → o n ≡ y n
    there y o n l h q = takes_pair o n (y n) l (h (y n * 32 + n) (omega arith) ∙ pair_takes y n (y n) l refl)

    owner : (n : ℕ) → n < 32 → min (y n) 16 ≡ min (o n) 16
    owner n l =
        by (ltb (y n) 16)
        (λ e. let i : o n ≡ y n = there y o n l (λ s q. sym (a.same s q)) (ltb-true (y n) 16 e) in omega arith)
        (λ e.
        by (ltb (o n) 16)
        (λ d. let i : y n ≡ o n = there o y n l (λ s q. a.same s q) (ltb-true (o n) 16 d) in omega arith)
        (λ d. omega (arith, ltb-false (y n) 16 e, ltb-false (o n) 16 d)))

-- all pairs decided: the owners are first where they have P
pub first_end : {P : (ℕ → ℕ) → Type 0} {o : ℕ → ℕ} → P o → First (From P o 512) o
first_end {o = o} w =
    record {
      is = record { has = w; agree = record { same = λ s l. refl } };
      first = λ y g. record {
        leads = λ t l a d e. clash e (g.agree.same t l ∙ d);
        longer = λ t l a d e h. clash d (sym (g.agree.same t l) ∙ e);
      };
    }

pub none_end : {P : (ℕ → ℕ) → Type 0} {o : ℕ → ℕ} → ((y : ℕ → ℕ) → Same y o → P y → P o) → (P o → ⊥) → HasNone (From P o 512)
none_end {o = o} s h = record { none = λ y g. h (s y (agree_all g.agree) g.has) }

-- nothing decided yet: first from here is first of all
pub first_start : {P : (ℕ → ℕ) → Type 0} {o z : ℕ → ℕ} → First (From P o 0) z → First P z
first_start {o = o} f = record { is = f.is.has; first = λ y g. f.first y (record { has = g; agree = agree_start y o }) }

pub none_start : {P : (ℕ → ℕ) → Type 0} {o : ℕ → ℕ} → HasNone (From P o 0) → HasNone P
none_start {o = o} f = record { none = λ y g. f.none y (record { has = g; agree = agree_start y o }) }

-- owners that take nothing
pub begun_start : {o : ℕ → ℕ} → ((n : ℕ) → n < 32 → 16 ≤ o n) → Begun o 0
begun_start {o} h = record { rest = λ s l q. ne_eqb (o (s % 32)) (s / 32) (λ e. omega (arith, h (s % 32) (omega arith))) }

-- two that are first are the same
pub first_unique : {P : (ℕ → ℕ) → Type 0} {y z : ℕ → ℕ} → First P y → First P z → Same y z
first_unique {P} {y} {z} f g = agree_all (upto 512 (omega arith))
  where
    -- where one takes pair t and the other does not, the other's list ends there, and so it is behind
    at : (t : ℕ) → t < 512 → Agree y z t → takes y t ≡ takes z t
    at t l a =
        by (takes y t)
        (λ d. by (takes z t) (λ e. d ∙ sym e) (λ e. absurd ((f.first z g.is).longer t l a d e ((g.first y f.is).leads t l (agree_sym a) e d))))
        (λ d. by (takes z t) (λ e. absurd ((g.first y f.is).longer t l (agree_sym a) e d ((f.first z g.is).leads t l a d e))) (λ e. d ∙ sym e))

    upto : (t : ℕ) → t ≤ 512 → Agree y z t
    upto zero l = agree_start y z
    upto (suc t) l = rw (← add-one t) (agree_more (upto t (omega arith)) (at t l (upto t (omega arith))))
