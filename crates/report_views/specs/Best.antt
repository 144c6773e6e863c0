-- Laws of `best`: it picks a node where there is one, and the node picked is the lowest of those with the greatest end. A loop
-- that keeps the best so far gives it.
use Rattle.std.specs.Prelude.{ℕ, zero, suc, ◌<◌, ◌≤◌, Bool, ◌&&◌, ◌||◌, ◌⊎◌, ◌≡◌, eqb}
use Rattle.std.proofs.Math.Bool.{true, false, cond, not}
use Rattle.std.proofs.Common.{inl, inr, sym, ap, ◌∙◌, subst, arith}
use Rattle.std.proofs.Math.Logic.{⊎_elim}
use Rattle.std.proofs.Math.Path.{refl}
use borrow.Author.Tests.{eq-eqb, ne_eqb}
use Rattle.base_laws.specs.Bools.{either, clash, and_both, and_left, and_right, and_fails_left, or_left, or_right, or-holds, or_neither, not_of_false, of_not_true, no_true, eq_or_ne}
use Rattle.base_laws.specs.Definitions.{all_below, any_below}
use Rattle.base_laws.specs.Below.{any_suc, all_at, all_of, any_at, any_fails, any_witness, any_none_of, lowest_none, lowest_unique, lowest_below, lowest-holds, lowest_first}
use Rattle.base_laws.proofs.Below.{lowest_le, lowest_some}
use Rattle.base_laws.specs.Positions.{not_after_refl, not_after_trans}
use Rattle.base_laws.proofs.Positions.{not_after_total}
use Rattle.base_ids.specs.declared.Position.{Position}
use Rattle.base_ids.specs.Definitions.{not_after}
use Rattle.report_views.specs.Definitions.{greatest, best}

-- of the n lowest nodes that f picks, a has the greatest end
pub record GreatestEnd (f : ℕ → Bool) (end : ℕ → Position) (n a : ℕ) : Type 0 where
  pub below : a < n
  pub picked : f a ≡ true
  pub top : (m : ℕ) → m < n → f m ≡ true → not_after (end m) (end a) ≡ true

module _ (f : ℕ → Bool) (end : ℕ → Position) where
  -- the test says so
  greatest_given : (n a : ℕ) → a < n → greatest f end n a ≡ true → GreatestEnd f end n a
  unfolding greatest
  greatest_given n a l h =
      record {
        below = l;
        picked = and_left (f a) (all_below n (λ m. not (f m) || not_after (end m) (end a))) h;
        top = λ m k p.
            ⊎_elim (λ e. clash p (of_not_true (f m) e)) (λ e. e)
            (or-holds (not (f m)) (not_after (end m) (end a))
            (all_at n (λ i. not (f i) || not_after (end i) (end a)) (and_right (f a) (all_below n (λ i. not (f i) || not_after (end i) (end a))) h) m k));
      }

  greatest-test : (n a : ℕ) → GreatestEnd f end n a → greatest f end n a ≡ true
  unfolding greatest
  greatest-test n a g =
      and_both g.picked
      (all_of n (λ m. not (f m) || not_after (end m) (end a))
      (λ m l. ⊎_elim (λ e. or_right (not (f m)) (g.top m l e)) (λ e. or_left (not_after (end m) (end a)) (not_of_false e)) (either (f m))))

  -- one node more, n, that is not picked or does not lie after a
  widen : (n a : ℕ) → GreatestEnd f end n a → (f n ≡ true → not_after (end n) (end a) ≡ true) → GreatestEnd f end (suc n) a
  widen n a g p =
      record {
        below = omega (arith, g.below);
        picked = g.picked;
        top = λ m l q.
            ⊎_elim (λ e. subst (λ (x : ℕ). f x ≡ true → not_after (end x) (end a) ≡ true) (sym e) p q)
            (λ e. g.top m (omega arith) q)
            (eq_or_ne m n);
      }

  -- one node more, n, that is picked and after which none of the picked lies
  replace : (n : ℕ) → f n ≡ true → ((m : ℕ) → m < n → f m ≡ true → not_after (end m) (end n) ≡ true) → GreatestEnd f end (suc n) n
  replace n hit p =
      record {
        below = omega arith;
        picked = hit;
        top = λ m l q.
            ⊎_elim
            (λ e. subst (λ (x : ℕ). not_after (end x) (end n) ≡ true) (sym e) (not_after_refl (end n).view.0 (end n).k))
            (λ e. p m (omega arith) q)
            (eq_or_ne m n);
      }

  -- with the greatest of the nodes below n, the greatest with n
  extend : (n : ℕ) → (a : ℕ) × GreatestEnd f end n a → (a : ℕ) × GreatestEnd f end (suc n) a
  extend n (a, g) =
      ⊎_elim
      (λ hit.
      ⊎_elim (λ le. (a, widen n a g (λ q. le)))
      (λ ge. (
        n,
        replace n hit (λ m l q.
            not_after_trans (end m).view.0 (end m).k (end a).view.0 (end a).k (end n).view.0 (end n).k (g.top m l q) ge),
      ))
      (not_after_total (end n).view.0 (end n).k (end a).view.0 (end a).k))
      (λ miss. (a, widen n a g (λ q. clash q miss)))
      (either (f n))

  -- where one is picked, some node has the greatest end
  greatest_exists : (n : ℕ) → any_below n f ≡ true → (a : ℕ) × GreatestEnd f end n a
  greatest_exists zero h = let w = any_witness 0 f h in absurd (omega (arith, w.1))
  greatest_exists (suc n) h = ⊎_elim (λ e. extend n (greatest_exists n e)) (λ e. (n, only e)) (either (any_below n f))
    where
      only : any_below n f ≡ false → GreatestEnd f end (suc n) n
      only e = replace n (alone (any_witness (suc n) f h)) (λ m l q. clash q (any_fails n f e m l))
        where
          alone : (k : ℕ) × (k < suc n) × (f k ≡ true) → f n ≡ true
          alone w =
              ⊎_elim (λ d. subst (λ (x : ℕ). f x ≡ true) d w.2) (λ d. clash w.2 (any_fails n f e w.0 (omega (arith, w.1)))) (eq_or_ne w.0 n)

  -- a node is picked: best names one with the greatest end
  pub best_found : (n m : ℕ) → m < n → f m ≡ true → GreatestEnd f end n (best f end n)
  unfolding best
  best_found n m l p =
      let some = greatest_exists n (any_at n f m l p) in
      let held = any_at n (greatest f end n) some.0 some.1.below (greatest-test n some.0 some.1) in
      greatest_given n (best f end n) (lowest_below n (greatest f end n) held) (lowest-holds n (greatest f end n) held)

  -- best names a node below n: it has the greatest end
  pub best_given : (n : ℕ) → best f end n < n → GreatestEnd f end n (best f end n)
  unfolding best
  best_given n l =
      greatest_given n (best f end n) l (lowest-holds n (greatest f end n) (lowest_some n (greatest f end n) l))

  pub best_le : (n : ℕ) → best f end n ≤ n
  unfolding best
  best_le n = lowest_le n (greatest f end n)

  -- a node that is picked and lower than the best has an end before the best's
  pub best_lowest : (n m : ℕ) → best f end n < n → m < best f end n → f m ≡ true → not_after (end (best f end n)) (end m) ≡ false
  unfolding best
  best_lowest n m b l p = no_true (not_after (end (best f end n)) (end m)) (λ e. clash (greatest-test n m (top e)) (lowest_first n (greatest f end n) m l))
    where
      top : not_after (end (best f end n)) (end m) ≡ true → GreatestEnd f end n m
      top e =
          record {
            below = omega arith;
            picked = p;
            top = λ i j q.
                not_after_trans (end i).view.0 (end i).k (end (best f end n)).view.0 (end (best f end n)).k (end m).view.0 (end m).k
                ((best_given n b).top i j q) e;
          }

  -- a node is the best if it has the greatest end, and every lower one that is picked has a lesser
  pub best_unique : (n a : ℕ) → GreatestEnd f end n a → ((m : ℕ) → m < a → f m ≡ true → not_after (end a) (end m) ≡ false) → best f end n ≡ a
  unfolding best
  best_unique n a g low =
      lowest_unique n (greatest f end n) a g.below (greatest-test n a g)
      (λ m l. no_true (greatest f end n m) (λ e.
      let h = greatest_given n m (omega (arith, g.below)) e in
      clash (h.top a g.below g.picked) (low m l h.picked)))

  -- none is picked
  pub best_none : (n : ℕ) → any_below n f ≡ false → best f end n ≡ n
  unfolding best greatest
  best_none n e =
      lowest_none n (greatest f end n) (any_none_of n (greatest f end n) (λ k l. and_fails_left _ (any_fails n f e k l)))

  -- the best of the nodes below n, or `none` where there is none
  unfoldable pub best_so_far : ℕ → ℕ → ℕ
  best_so_far none n = cond (any_below n f) (best f end n) none

  -- b is the best so far: node n where it is picked and there is none yet or its end lies after b's, else b
  unfoldable pub best_with : ℕ → ℕ → ℕ → ℕ
  best_with none n b = cond (f n && (eqb b none || not (not_after (end n) (end b)))) n b

  -- b is the best below n; node n is not picked, or its end does not lie after
  best_kept : (n : ℕ) → best f end n < n → (f n ≡ true → not_after (end n) (end (best f end n)) ≡ true) → best f end (suc n) ≡ best f end n
  best_kept n l p = best_unique (suc n) (best f end n) (widen n (best f end n) (best_given n l) p) (λ m k q. best_lowest n m l k q)

  -- node n is the only one picked
  best_first : (n : ℕ) → any_below n f ≡ false → f n ≡ true → best f end (suc n) ≡ n
  best_first n e hit =
      best_unique (suc n) n (replace n hit (λ m l q. clash q (any_fails n f e m l))) (λ m l q. clash q (any_fails n f e m l))

  -- the end of node n lies after that of the best below it
  best_later : (n : ℕ) → best f end n < n → f n ≡ true → not_after (end n) (end (best f end n)) ≡ false → best f end (suc n) ≡ n
  best_later n l hit after =
      best_unique (suc n) n
      (replace n hit (λ m k q. step m ((best_given n l).top m k q)))
      (λ m k q. no_true (not_after (end n) (end m)) (λ e. clash (trans n m b e ((best_given n l).top m k q)) after))
    where
      b : ℕ
      b = best f end n

      trans : (i j k : ℕ) → not_after (end i) (end j) ≡ true → not_after (end j) (end k) ≡ true → not_after (end i) (end k) ≡ true
      trans i j k p q = not_after_trans (end i).view.0 (end i).k (end j).view.0 (end j).k (end k).view.0 (end k).k p q

      step : (m : ℕ) → not_after (end m) (end b) ≡ true → not_after (end m) (end n) ≡ true
      step m p =
          trans m b n p
          (⊎_elim (λ e. clash e after) (λ e. e) (not_after_total (end n).view.0 (end n).k (end b).view.0 (end b).k))

  -- some node below n is picked, or none is
  so_far_some : (none n : ℕ) → any_below n f ≡ true → best_so_far none n ≡ best f end n
  unfolding best_so_far
  so_far_some none n e = rw e

  so_far_none : (none n : ℕ) → any_below n f ≡ false → best_so_far none n ≡ none
  unfolding best_so_far
  so_far_none none n e = rw e

  pub with_miss : (none n b : ℕ) → f n ≡ false → best_with none n b ≡ b
  unfolding best_with
  with_miss none n b miss = rw miss

  pub with_first : (none n b : ℕ) → f n ≡ true → b ≡ none → best_with none n b ≡ n
  unfolding best_with
  with_first none n b hit e = rw (hit, eq-eqb b none e)

  pub with_kept : (none n b : ℕ) → (b ≡ none → ⊥) → not_after (end n) (end b) ≡ true → best_with none n b ≡ b
  unfolding best_with
  with_kept none n b d le = rw (ne_eqb b none d, le) (go (f n))
    where
      go : (x : Bool) → cond (x && false) n b ≡ b
      go true = refl
      go false = refl

  pub with_later : (none n b : ℕ) → f n ≡ true → (b ≡ none → ⊥) → not_after (end n) (end b) ≡ false → best_with none n b ≡ n
  unfolding best_with
  with_later none n b hit d gt = rw (hit, ne_eqb b none d, gt)

  -- a turn of a loop that keeps the best so far
  pub best_step : (none n : ℕ) → n ≤ none → best_with none n (best_so_far none n) ≡ best_so_far none (suc n)
  best_step none n l = go (either (f n)) (either (any_below n f))
    where
      b : ℕ
      b = best f end n

      go : (f n ≡ true) ⊎ (f n ≡ false) → (any_below n f ≡ true) ⊎ (any_below n f ≡ false)
          → best_with none n (best_so_far none n) ≡ best_so_far none (suc n)
      go (inr miss) (inr e) =
          with_miss none n (best_so_far none n) miss ∙ so_far_none none n e ∙ sym (so_far_none none (suc n) (any_suc n f ∙ or_neither e miss))
      go (inl hit) (inr e) =
          with_first none n (best_so_far none n) hit (so_far_none none n e) ∙ sym (best_first n e hit)
          ∙ sym (so_far_some none (suc n) (any_suc n f ∙ or_right (any_below n f) hit))
      go r (inl e) =
          let w = any_witness n f e in
          let below = (best_found n w.0 w.1 w.2).below in
          let other : (b ≡ none → ⊥) = λ d. omega arith in
          let more : best_so_far none (suc n) ≡ best f end (suc n) = so_far_some none (suc n) (any_suc n f ∙ or_left (f n) e) in
          ap (best_with none n) (so_far_some none n e) ∙ some below other r (either (not_after (end n) (end b))) ∙ sym more
        where
          some : b < n → (b ≡ none → ⊥) → (f n ≡ true) ⊎ (f n ≡ false)
              → (not_after (end n) (end b) ≡ true) ⊎ (not_after (end n) (end b) ≡ false) → best_with none n b ≡ best f end (suc n)
          some below other (inr miss) o = with_miss none n b miss ∙ sym (best_kept n below (λ q. clash q miss))
          some below other (inl hit) (inl le) = with_kept none n b other le ∙ sym (best_kept n below (λ q. le))
          some below other (inl hit) (inr gt) = with_later none n b hit other gt ∙ sym (best_later n below hit gt)

  pub best_start : (none : ℕ) → best_so_far none 0 ≡ none
  unfolding best_so_far any_below
  best_start none = refl

  -- after the last turn
  pub best_all : (n : ℕ) → best_so_far n n ≡ best f end n
  unfolding best_so_far
  best_all n = ⊎_elim (λ e. rw e) (λ e. rw e (sym (best_none n e))) (either (any_below n f))

  -- the best so far is none, or a node below n
  pub best_so_far_le : (none n : ℕ) → n ≤ none → best_so_far none n ≤ none
  unfolding best_so_far
  best_so_far_le none n l = ⊎_elim (λ e. rw e (omega (arith, best_le n))) (λ e. rw e (omega arith)) (either (any_below n f))

-- two tests that pick the same nodes, with the same ends of those that are picked
pub best_cong : (f g : ℕ → Bool) (p q : ℕ → Position) (n : ℕ) → ((k : ℕ) → k < n → f k ≡ g k) → ((k : ℕ) → k < n → f k ≡ true → p k ≡ q k)
    → best f p n ≡ best g q n
best_cong f g p q n same ends =
    ⊎_elim
    (λ e.
    let w = any_witness n f e in
    let b = best f p n in
    let h = best_found f p n w.0 w.1 w.2 in
    let end : p b ≡ q b = ends b h.below h.picked in
    sym (best_unique g q n b
    (record {
      below = h.below;
      picked = sym (same b h.below) ∙ h.picked;
      top = λ m l r.
          let fm = same m l ∙ r in
          subst (λ (x : Position). not_after (q m) x ≡ true) end
          (subst (λ (x : Position). not_after x (p b) ≡ true) (ends m l fm) (h.top m l fm));
    })
    (λ m l r.
    let k = h.below in
    let fm = same m (omega arith) ∙ r in
    subst (λ (x : Position). not_after x (q m) ≡ false) end
    (subst (λ (x : Position). not_after (p b) x ≡ false) (ends m (omega arith) fm) (best_lowest f p n m h.below l fm)))))
    (λ e. best_none f p n e ∙ sym (best_none g q n (any_none_of n g (λ k l. sym (same k l) ∙ any_fails n f e k l))))
    (either (any_below n f))
