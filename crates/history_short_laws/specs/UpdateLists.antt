-- Laws of lists of updates that rise: two with the same updates are one, and none is past the last.
use Rattle.std.specs.Prelude.{ℕ, Bool, true, false, cond, List, [], ◌∷◌, ◌⊎◌, ◌≡◌, refl}
use Rattle.std.proofs.Common.{inl, inr, ⊎_elim, sym, ap, ap₂, ◌∙◌, subst}
use Rattle.base_laws.specs.Bools.{either, clash, same, no_true, or_left, or_right, or-holds}
use Rattle.base_laws.specs.Positions.{not_after_refl}
use Rattle.base_laws.proofs.Positions.{not_after_total}
use Rattle.base_ids.specs.declared.Position.{Position}
use Rattle.base_ids.specs.Definitions.{not_after}
use Rattle.base_ids.specs.Order.{order_trans}
use Rattle.report_views.specs.Definitions.{same_position}
use Rattle.report_views.specs.Updates.{updates_after, updates_in, last_after, those_of}
use Rattle.report_log_laws.specs.Stretches.{one_same, one_refl, rises_after, rises_first, rises_rest, rises_on, rises_sooner, last_no_earlier, last_append, among}
use Rattle.report_log_laws.specs.UpdateLaws.{log_above, log_count, log_rest, run_ends}

-- an update of a list that rises comes after what the list rises after
rises_above : (a p : Position) (ps : List Position) → rises_after a ps ≡ true → among p ps ≡ true → not_after p a ≡ false
unfolding among
rises_above a p [] h m = clash m refl
rises_above a p (x ∷ ps) h m =
    go (λ r. rises_above x p ps (rises_rest a x ps h) r) (or-holds (same_position x p) (among p ps) m)
  where
    first : not_after x a ≡ false
    first = rises_first a x ps h

    go : (among p ps ≡ true → not_after p x ≡ false) → (same_position x p ≡ true) ⊎ (among p ps ≡ true) → not_after p a ≡ false
    go on (inl e) = subst (λ (z : Position). not_after z a ≡ false) (one_same x p e) first
    go on (inr e) =
        let up : not_after a x ≡ true = ⊎_elim (λ z. clash z first) (λ z. z) (not_after_total x.view.0 x.k a.view.0 a.k) in
        no_true (not_after p a) (λ z. clash (order_trans p a x z up) (on e))

-- two such lists with the same updates are one
pub rising_same : (a : Position) (ps qs : List Position) → rises_after a ps ≡ true → rises_after a qs ≡ true
    → ((p : Position) → among p ps ≡ among p qs) → ps ≡ qs
unfolding among
rising_same a [] [] h g e = refl
rising_same a [] (q ∷ qs) h g e = clash (or_left (among q qs) (one_refl q)) (sym (e q))
rising_same a (p ∷ ps) [] h g e = clash (or_left (among p ps) (one_refl p)) (e p)
rising_same a (p ∷ ps) (q ∷ qs) h g e =
    go (λ z f. rising_same p ps qs (rises_rest a p ps h) z f) (or-holds (same_position q p) (among p qs)
    (sym (e p) ∙ or_left (among p ps) (one_refl p)))
    (or-holds (same_position p q) (among q ps) (e q ∙ or_left (among q qs) (one_refl q)))
  where
    tails : p ≡ q → (x : Position) → among x ps ≡ among x qs
    tails d x =
        same (among x ps) (among x qs)
        (λ m. ⊎_elim (λ o. clash (not_after_refl p.view.0 p.k) (lower o m)) (λ o. o)
        (or-holds (same_position q x) (among x qs) (sym (e x) ∙ or_right (same_position p x) m)))
        (λ m. ⊎_elim (λ o. clash (not_after_refl q.view.0 q.k) (upper o m)) (λ o. o)
        (or-holds (same_position p x) (among x ps) (e x ∙ or_right (same_position q x) m)))
      where
        lower : same_position q x ≡ true → among x ps ≡ true → not_after p p ≡ false
        lower o m = subst (λ (z : Position). not_after z p ≡ false) (sym (one_same q x o) ∙ sym d) (rises_above p x ps (rises_rest a p ps h) m)

        upper : same_position p x ≡ true → among x qs ≡ true → not_after q q ≡ false
        upper o m = subst (λ (z : Position). not_after z q ≡ false) (sym (one_same p x o) ∙ d) (rises_above q x qs (rises_rest a q qs g) m)

    go : (rises_after p qs ≡ true → ((x : Position) → among x ps ≡ among x qs) → ps ≡ qs)
        → (same_position q p ≡ true) ⊎ (among p qs ≡ true) → (same_position p q ≡ true) ⊎ (among q ps ≡ true) → p ∷ ps ≡ q ∷ qs
    go on (inl o) k =
        let d : p ≡ q = sym (one_same q p o) in
        ap₂ (λ (x : Position) (xs : List Position). x ∷ xs) d (on (subst (λ (z : Position). rises_after z qs ≡ true) (sym d) (rises_rest a q qs g))
        (tails d))
    go on (inr m) (inl o) =
        clash (not_after_refl q.view.0 q.k) (subst (λ (z : Position). not_after z q ≡ false) (one_same p q o)
        (rises_above q p qs (rises_rest a q qs g) m))
    go on (inr m) (inr k) =
        let up : not_after p q ≡ false = rises_above q p qs (rises_rest a q qs g) m in
        let down : not_after q p ≡ false = rises_above p q ps (rises_rest a p ps h) k in
        ⊎_elim (λ z. clash z up) (λ z. clash z down) (not_after_total p.view.0 p.k q.view.0 q.k)

-- some of a list that rises rise
pub those_rise : (f : Position → Bool) (a : Position) (ps : List Position) → rises_after a ps ≡ true → rises_after a (those_of f ps) ≡ true
unfolding those_of rises_after
those_rise f a [] h = refl
those_rise f a (p ∷ ps) h = go (either (f p)) (those_rise f p ps (rises_rest a p ps h))
  where
    go : (f p ≡ true) ⊎ (f p ≡ false) → rises_after p (those_of f ps) ≡ true → rises_after a (cond (f p) (p ∷ those_of f ps) (those_of f ps)) ≡ true
    go (inl e) rest = rw e (rises_on a p (those_of f ps) (rises_first a p ps h) rest)
    go (inr e) rest =
        let up : not_after a p ≡ true = ⊎_elim (λ z. clash z (rises_first a p ps h)) (λ z. z)
        (not_after_total p.view.0 p.k a.view.0 a.k) in
        rw e (rises_sooner a p (those_of f ps) up rest)

-- none is past the last
pub last_greatest : (a p : Position) (ps : List Position) → rises_after a ps ≡ true → among p ps ≡ true → not_after p (last_after a ps) ≡ true
unfolding among last_after
last_greatest a p [] h m = clash m refl
last_greatest a p (x ∷ ps) h m =
    ⊎_elim (λ e. subst (λ (z : Position). not_after z (last_after x ps) ≡ true) (one_same x p e) (last_no_earlier x ps (rises_rest a x ps h)))
    (λ e. last_greatest x p ps (rises_rest a x ps h) e)
    (or-holds (same_position x p) (among p ps) m)

pub all_those : (f : Position → Bool) (ps : List Position) → ((p : Position) → among p ps ≡ true → f p ≡ true) → those_of f ps ≡ ps
unfolding those_of among
all_those f [] h = refl
all_those f (p ∷ ps) h =
    rw (h p (or_left (among p ps) (one_refl p))) (ap (λ (xs : List Position). p ∷ xs) (all_those f ps (λ q m. h q (or_right (same_position p q) m))))

pub none_those : (f : Position → Bool) (ps : List Position) → ((p : Position) → among p ps ≡ true → f p ≡ false) → those_of f ps ≡ []
unfolding those_of among
none_those f [] h = refl
none_those f (p ∷ ps) h = rw (h p (or_left (among p ps) (one_refl p))) (none_those f ps (λ q m. h q (or_right (same_position p q) m)))

-- the last update of a log is its last run
pub last_updates : (a : Position) (v : ℕ) (rs : List Position) → log_above v rs ≡ true → last_after a (updates_in rs) ≡ last_after a rs
unfolding last_after updates_in
last_updates a v [] h = refl
last_updates a v (r ∷ rs) h =
    last_append a (updates_after r.view.0 0 r.k) (updates_in rs)
    ∙ ap (λ (x : Position). last_after x (updates_in rs)) (run_ends a r.view.0 r.k (log_count v r rs h))
    ∙ last_updates r r.view.0 rs (log_rest v r rs h)
