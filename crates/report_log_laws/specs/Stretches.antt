-- Laws of lists of updates, above all of those that rise: what of a list is up to a position and what is beyond it, and the stretch
-- that two lists share from their beginning.
use Rattle.std.specs.Prelude.{ℕ, Bool, true, false, cond, not, ◌&&◌, ◌||◌, List, [], ◌∷◌, ◌++◌, ◌⊎◌, ◌≡◌, refl, eqb}
use Rattle.std.proofs.Common.{inl, inr, ⊎_elim, sym, ap, ap₂, ◌∙◌, subst, eqb-true, eq-eqb}
use Rattle.base_laws.specs.Bools.{either, clash, no_true, and_both, and_left, and_right, or_left, or_right, of_not_true, not_of_false}
use Rattle.base_laws.specs.Positions.{not_after_refl}
use Rattle.base_laws.proofs.Positions.{not_after_total}
use Rattle.base_ids.specs.declared.Position.{Position}
use Rattle.base_ids.specs.Definitions.{not_after}
use Rattle.base_ids.specs.Order.{order_trans}
use Rattle.report_views.specs.Definitions.{pos, same_position}
use Rattle.report_views.specs.Updates.{shared_stretch, last_after, those_of, up_to, beyond}

-- ---- one position

pub one_same : (p q : Position) → same_position p q ≡ true → p ≡ q
one_same p q h =
    ap₂ (λ (v k : ℕ). pos v k) (eqb-true p.view.0 q.view.0 (and_left (eqb p.view.0 q.view.0) (eqb p.k q.k) h))
    (eqb-true p.k q.k (and_right (eqb p.view.0 q.view.0) (eqb p.k q.k) h))

pub one_refl : (p : Position) → same_position p p ≡ true
one_refl p = and_both (eq-eqb p.view.0 p.view.0 refl) (eq-eqb p.k p.k refl)

-- ---- the order

order_refl : (p : Position) → not_after p p ≡ true
order_refl p = not_after_refl p.view.0 p.k

-- what is after a is no earlier than a
later : (p a : Position) → not_after p a ≡ false → not_after a p ≡ true
later p a h = ⊎_elim (λ e. clash e h) (λ e. e) (not_after_total p.view.0 p.k a.view.0 a.k)

-- and after all that a is no earlier than
later_than : (p a c : Position) → not_after p a ≡ false → not_after c a ≡ true → not_after p c ≡ false
later_than p a c h l = no_true (not_after p c) (λ e. clash (order_trans p c a e l) h)

-- ---- lists that rise

-- each update of a list comes after the one before it, and the first after a
unfoldable pub rises_after : Position → List Position → Bool
rises_after a [] = true
rises_after a (p ∷ ps) = not (not_after p a) && rises_after p ps

pub rises_first : (a p : Position) (ps : List Position) → rises_after a (p ∷ ps) ≡ true → not_after p a ≡ false
unfolding rises_after
rises_first a p ps h = of_not_true (not_after p a) (and_left (not (not_after p a)) (rises_after p ps) h)

pub rises_rest : (a p : Position) (ps : List Position) → rises_after a (p ∷ ps) ≡ true → rises_after p ps ≡ true
unfolding rises_after
rises_rest a p ps h = and_right (not (not_after p a)) (rises_after p ps) h

pub rises_on : (a p : Position) (ps : List Position) → not_after p a ≡ false → rises_after p ps ≡ true → rises_after a (p ∷ ps) ≡ true
unfolding rises_after
rises_on a p ps h r = and_both (not_of_false h) r

-- also after every earlier position
pub rises_sooner : (a b : Position) (ps : List Position) → not_after a b ≡ true → rises_after b ps ≡ true → rises_after a ps ≡ true
unfolding rises_after
rises_sooner a b [] l h = refl
rises_sooner a b (p ∷ ps) l h = rises_on a p ps (later_than p b a (rises_first b p ps h) l) (rises_rest b p ps h)

-- nothing of a list that rises after a is up to a
pub none_up_to : (a c : Position) (ps : List Position) → rises_after a ps ≡ true → not_after c a ≡ true → up_to c ps ≡ []
unfolding those_of
none_up_to a c [] h l = refl
none_up_to a c (p ∷ ps) h l =
    let first = rises_first a p ps h in
    rw (later_than p a c first l) (none_up_to p c ps (rises_rest a p ps h) (order_trans c a p l (later p a first)))

-- what is up to c comes first, then what is beyond it
pub parted : (a c : Position) (ps : List Position) → rises_after a ps ≡ true → up_to c ps ++ beyond c ps ≡ ps
unfolding those_of
parted a c [] h = refl
parted a c (p ∷ ps) h = go (either (not_after p c)) (parted p c ps (rises_rest a p ps h))
  where
    go : (not_after p c ≡ true) ⊎ (not_after p c ≡ false) → up_to c ps ++ beyond c ps ≡ ps
        → cond (not_after p c) (p ∷ up_to c ps) (up_to c ps) ++ cond (not (not_after p c)) (p ∷ beyond c ps) (beyond c ps) ≡ p ∷ ps
    go (inl e) rest = rw e (ap (λ (qs : List Position). p ∷ qs) rest)
    go (inr e) rest =
        let none = none_up_to p c ps (rises_rest a p ps h) (later p c e) in
        let all : beyond c ps ≡ ps = rw none at rest in
        rw (e, none) (ap (λ (qs : List Position). p ∷ qs) all)

-- ---- the last of a list

pub last_no_earlier : (a : Position) (ps : List Position) → rises_after a ps ≡ true → not_after a (last_after a ps) ≡ true
unfolding last_after
last_no_earlier a [] h = order_refl a
last_no_earlier a (p ∷ ps) h =
    order_trans a p (last_after p ps) (later p a (rises_first a p ps h)) (last_no_earlier p ps (rises_rest a p ps h))

pub last_append : (a : Position) (ps qs : List Position) → last_after a (ps ++ qs) ≡ last_after (last_after a ps) qs
unfolding last_after
last_append a [] qs = refl
last_append a (p ∷ ps) qs = last_append p ps qs

-- ---- the stretch that two lists share

pub shared_rises : (a : Position) (ps qs : List Position) → rises_after a ps ≡ true → rises_after a (shared_stretch ps qs) ≡ true
unfolding shared_stretch rises_after
shared_rises a [] qs h = refl
shared_rises a (p ∷ ps) [] h = refl
shared_rises a (p ∷ ps) (q ∷ qs) h = go (either (same_position p q)) (shared_rises p ps qs (rises_rest a p ps h))
  where
    go : (same_position p q ≡ true) ⊎ (same_position p q ≡ false) → rises_after p (shared_stretch ps qs) ≡ true
        → rises_after a (cond (same_position p q) (p ∷ shared_stretch ps qs) []) ≡ true
    go (inl e) rest = rw e (rises_on a p (shared_stretch ps qs) (rises_first a p ps h) rest)
    go (inr e) rest = rw e

-- of two lists that rise it is what each of them has up to its last update
pub shared_up : (a : Position) (ps qs : List Position) → rises_after a ps ≡ true → rises_after a qs ≡ true
    → (up_to (last_after a (shared_stretch ps qs)) ps ≡ shared_stretch ps qs) × (up_to (last_after a (shared_stretch ps qs)) qs ≡ shared_stretch ps qs)
unfolding shared_stretch last_after those_of
shared_up a [] qs h g = (refl, none_up_to a a qs g (order_refl a))
shared_up a (p ∷ ps) [] h g = (none_up_to a a (p ∷ ps) h (order_refl a), refl)
shared_up a (p ∷ ps) (q ∷ qs) h g = go (λ w. shared_up p ps qs (rises_rest a p ps h) w) (same_position p q) refl
  where
    go : (rises_after p qs ≡ true → (up_to (last_after p (shared_stretch ps qs)) ps ≡ shared_stretch ps qs) × (up_to (last_after p (shared_stretch ps qs)) qs ≡ shared_stretch ps qs))
        → (b : Bool) → same_position p q ≡ b
        → (up_to (last_after a (cond b (p ∷ shared_stretch ps qs) [])) (p ∷ ps) ≡ cond b (p ∷ shared_stretch ps qs) [])
        × (up_to (last_after a (cond b (p ∷ shared_stretch ps qs) [])) (q ∷ qs) ≡ cond b (p ∷ shared_stretch ps qs) [])
    go on true e =
        let same = one_same p q e in
        let c = last_after p (shared_stretch ps qs) in
        let within : not_after p c ≡ true = last_no_earlier p (shared_stretch ps qs) (shared_rises p ps qs (rises_rest a p ps h)) in
        let within-q : not_after q c ≡ true = subst (λ (x : Position). not_after x c ≡ true) same within in
        let rest = on (subst (λ (x : Position). rises_after x qs ≡ true) (sym same) (rises_rest a q qs g)) in
        rw (within, within-q) (ap (λ (zs : List Position). p ∷ zs) rest.0, ap₂ (λ (x : Position) (zs : List Position). x ∷ zs) (sym same) rest.1)
    go on false e = (none_up_to a a (p ∷ ps) h (order_refl a), none_up_to a a (q ∷ qs) g (order_refl a))

pub shared_turned : (ps qs : List Position) → shared_stretch ps qs ≡ shared_stretch qs ps
unfolding shared_stretch
shared_turned [] [] = refl
shared_turned [] (q ∷ qs) = refl
shared_turned (p ∷ ps) [] = refl
shared_turned (p ∷ ps) (q ∷ qs) = go (either (same_position p q)) (either (same_position q p)) (shared_turned ps qs)
  where
    go : (same_position p q ≡ true) ⊎ (same_position p q ≡ false) → (same_position q p ≡ true) ⊎ (same_position q p ≡ false)
        → shared_stretch ps qs ≡ shared_stretch qs ps
        → cond (same_position p q) (p ∷ shared_stretch ps qs) [] ≡ cond (same_position q p) (q ∷ shared_stretch qs ps) []
    go (inl e) (inl o) rest = rw (e, o) (ap₂ (λ (x : Position) (zs : List Position). x ∷ zs) (one_same p q e) rest)
    go (inl e) (inr o) rest = clash (subst (λ (x : Position). same_position q x ≡ true) (sym (one_same p q e)) (one_refl q)) o
    go (inr e) (inl o) rest = clash (subst (λ (x : Position). same_position p x ≡ true) (sym (one_same q p o)) (one_refl p)) e
    go (inr e) (inr o) rest = rw (e, o)

-- any stretch from the beginning of both is its beginning
pub shared_both : (us ps qs : List Position) → shared_stretch (us ++ ps) (us ++ qs) ≡ us ++ shared_stretch ps qs
unfolding shared_stretch
shared_both [] ps qs = refl
shared_both (u ∷ us) ps qs = rw (one_refl u) (ap (λ (zs : List Position). u ∷ zs) (shared_both us ps qs))

-- ---- those of a list that meet a test

pub those_append : (f : Position → Bool) (ps qs : List Position) → those_of f (ps ++ qs) ≡ those_of f ps ++ those_of f qs
unfolding those_of
those_append f [] qs = refl
those_append f (p ∷ ps) qs = go (either (f p)) (those_append f ps qs)
  where
    go : (f p ≡ true) ⊎ (f p ≡ false) → those_of f (ps ++ qs) ≡ those_of f ps ++ those_of f qs
        → cond (f p) (p ∷ those_of f (ps ++ qs)) (those_of f (ps ++ qs)) ≡ cond (f p) (p ∷ those_of f ps) (those_of f ps) ++ those_of f qs
    go (inl e) rest = rw e (ap (λ (zs : List Position). p ∷ zs) rest)
    go (inr e) rest = rw e rest

-- ---- whether an update is in a list

unfoldable pub among : Position → List Position → Bool
among p [] = false
among p (q ∷ qs) = same_position q p || among p qs

pub among_append : (p : Position) (ps qs : List Position) → among p (ps ++ qs) ≡ (among p ps || among p qs)
unfolding among
among_append p [] qs = refl
among_append p (x ∷ ps) qs = rw (among_append p ps qs) (by_cases (same_position x p))
  where
    by_cases : (b : Bool) → (b || (among p ps || among p qs)) ≡ ((b || among p ps) || among p qs)
    by_cases true = refl
    by_cases false = refl

pub among_those : (f : Position → Bool) (p : Position) (qs : List Position) → among p (those_of f qs) ≡ (f p && among p qs)
unfolding among those_of
among_those f p [] = by_cases (f p)
  where
    by_cases : (b : Bool) → false ≡ (b && false)
    by_cases true = refl
    by_cases false = refl
among_those f p (q ∷ qs) = go (either (f q)) (either (same_position q p)) (among_those f p qs)
  where
    or_and : (b y : Bool) → (false || (b && y)) ≡ (b && (false || y))
    or_and true y = refl
    or_and false y = refl

    go : (f q ≡ true) ⊎ (f q ≡ false) → (same_position q p ≡ true) ⊎ (same_position q p ≡ false) → among p (those_of f qs) ≡ (f p && among p qs)
        → among p (cond (f q) (q ∷ those_of f qs) (those_of f qs)) ≡ (f p && (same_position q p || among p qs))
    go (inl e) (inl o) rest =
        let hit : f p ≡ true = subst (λ (x : Position). f x ≡ true) (one_same q p o) e in
        rw (e, o, hit)
    go (inl e) (inr o) rest = rw (e, o, rest) (or_and (f p) (among p qs))
    go (inr e) (inl o) rest =
        let miss : f p ≡ false = subst (λ (x : Position). f x ≡ false) (one_same q p o) e in
        rw (e, miss) (rest ∙ rw miss)
    go (inr e) (inr o) rest = rw (e, o) rest

-- the last of a list is in it
pub last_among : (a : Position) (ps : List Position) → (last_after a ps ≡ a) ⊎ (among (last_after a ps) ps ≡ true)
unfolding last_after among
last_among a [] = inl refl
last_among a (p ∷ ps) =
    inr (⊎_elim
    (λ e. or_left (among (last_after p ps) ps) (subst (λ (x : Position). same_position p x ≡ true) (sym e) (one_refl p)))
    (λ h. or_right (same_position p (last_after p ps)) h)
    (last_among p ps))
