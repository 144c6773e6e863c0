-- The turns decide the game: where the outage's turn says true the crew has a rule that holds, else the outage has one that wins. The
-- rules are written out: the crew brings back the lowest node that saves it, the outage takes the lowest that wins. Of the two, one exists.
use Prim.Native.Nat.{ℕ, zero, suc, ◌-◌, ◌*◌, ◌<◌, ◌≤◌, ◌^◌}
use Rattle.std.specs.Prelude.{Bool, cond, ◌&&◌, ◌||◌, ◌⊎◌, ◌≡◌}
use Rattle.std.proofs.Math.Bool.{true, false, not}
use Rattle.std.proofs.Math.Logic.{inl, inr, ⊎_elim}
use Rattle.std.proofs.Math.Path.{refl, subst⁻¹}
use Rattle.std.proofs.Common.{ap, ◌∙◌, subst}
use native.Mathlib.Omega.{arith}
use Rattle.std.proofs.Math.Dec.{eqb, ltb}
use borrow.Author.Tests.{eqb-true, eq-eqb, ne_eqb, lt-ltb, le-ltb}
use Rattle.base_laws.specs.Bools.{either, clash, and_both, and_left, and_right, and_fails, or-holds, or_fails_left, or_fails_right, not_of_false, of_not_true, of_not_false, no_true}
use Rattle.base_laws.specs.Definitions.{all_below, any_below, lowest, has, with, without}
use Rattle.base_laws.specs.Below.{all_at, all_counter, any_at, any_fails, any_witness, lowest-holds, lowest_below, lowest_first}
use Rattle.base_laws.specs.Masks.{has_zero, has_below, with_lt, without_lt}
use Rattle.base_laws.proofs.Masks.{without_same}
use Rattle.game_rules.specs.Definitions.{OutageMay, Returnable, CrewMay, after_turns, CrewRule, OutageRule, CrewHolds, Beats, Starts, OutageWins, OutageAnswer, WonBy}
use Rattle.game_rules.specs.Game.{rules_clash}
use Rattle.game_rules.specs.Turns.{absent, outage_turn, crew_turn, saves, wins, first_move, winner_of}

-- the half-rounds of so many rounds
unfoldable halves : ℕ → ℕ
halves zero = zero
halves (suc r) = suc (suc (halves r))

halves_twice : (r : ℕ) → halves r ≡ 2 * r
unfolding halves
halves_twice zero = refl
halves_twice (suc r) = let e : halves r ≡ 2 * r = halves_twice r in omega (arith, e)

-- absent, as a test and as a record
absent_given : (n h taken b : ℕ) → b < n → absent h taken b ≡ true → Returnable n h taken b
absent_given n h taken b l e =
    record {
      node = l;
      down = of_not_true (has h b) (and_left (not (has h b)) (not (eqb b taken)) e);
      other = λ q. clash (eq-eqb b taken q) (of_not_true (eqb b taken) (and_right (not (has h b)) (not (eqb b taken)) e));
    }

absent-test : (n h taken b : ℕ) → Returnable n h taken b → absent h taken b ≡ true
absent-test n h taken b a = and_both (not_of_false a.down) (not_of_false (ne_eqb b taken a.other))

-- none is absent
none_absent : (n h taken : ℕ) → any_below n (absent h taken) ≡ false → (m : ℕ) → Returnable n h taken m → ⊥
none_absent n h taken e m a = clash (absent-test n h taken m a) (any_fails n (absent h taken) e m a.node)

module _ (n : ℕ) (few : n ≤ 32) (good : ℕ → Bool) (ok : ℕ → Type 0) (yes : (h : ℕ) → h < 2 ^ n → good h ≡ true → ok h)
    (no : (h : ℕ) → h < 2 ^ n → good h ≡ false → ok h → ⊥) where
  -- the crew's reply: the lowest node that saves it
  unfoldable saving_reply : ℕ → ℕ → ℕ → ℕ
  saving_reply k h taken = cond (any_below n (absent h taken)) (lowest n (saves n good k h taken)) 32

  -- what a reply that the crew's turn allows for gives
  record Saved (k h taken b : ℕ) : Type 0 where
    allowed : CrewMay n h taken b
    plan : ok (cond (ltb b 32) (with h b) h)
    goes : outage_turn n good k (cond (ltb b 32) (with h b) h) ≡ true
    small : cond (ltb b 32) (with h b) h < 2 ^ n

  saved : (k h taken : ℕ) → h < 2 ^ n → crew_turn n good (suc k) h taken ≡ true → Saved k h taken (saving_reply k h taken)
  unfolding crew_turn saving_reply
  saved k h taken l e = ⊎_elim some none (either (any_below n (absent h taken)))
    where
      some : any_below n (absent h taken) ≡ true → Saved k h taken (saving_reply k h taken)
      some a =
          let w : any_below n (saves n good k h taken) ≡ true = rw a at e in
          let b = lowest n (saves n good k h taken) in
          let is : saving_reply k h taken ≡ b = rw a in
          let lb : b < n = lowest_below n (saves n good k h taken) w in
          let p : saves n good k h taken b ≡ true = lowest-holds n (saves n good k h taken) w in
          let q : (good (with h b) && outage_turn n good k (with h b)) ≡ true = and_right (absent h taken b) _ p in
          let t : ltb b 32 ≡ true = lt-ltb b 32 (omega arith) in
          let s : with h b < 2 ^ n = with_lt n h b l lb in
          subst⁻¹ (Saved k h taken) is
          (record {
            allowed = inl (absent_given n h taken b lb (and_left (absent h taken b) _ p));
            plan = rw t (yes (with h b) s (and_left (good (with h b)) _ q));
            goes = rw t (and_right (good (with h b)) _ q);
            small = rw t s;
          })

      none : any_below n (absent h taken) ≡ false → Saved k h taken (saving_reply k h taken)
      none a =
          let w : (good h && outage_turn n good k h) ≡ true = rw a at e in
          let is : saving_reply k h taken ≡ 32 = rw a in
          subst⁻¹ (Saved k h taken) is
          (record {
            allowed = inr (refl, none_absent n h taken a);
            plan = yes h l (and_left (good h) _ w);
            goes = and_right (good h) _ w;
            small = l;
          })

  -- ---- the crew

  unfoldable crew_replies : (r h : ℕ) → CrewRule r
  unfolding CrewRule
  crew_replies zero h = tt
  crew_replies (suc r) h = λ o. (saving_reply (halves r) (without h o) o, crew_replies r (after_turns h o (saving_reply (halves r) (without h o) o)))

  -- the crew is to move, whatever the outage did
  turn_follows : (k h o : ℕ) → h < 2 ^ n → outage_turn n good (suc k) h ≡ true → OutageMay h o → crew_turn n good k (without h o) o ≡ true
  unfolding outage_turn
  turn_follows k h o l e = ⊎_elim took passed
    where
      took : has h o ≡ true → crew_turn n good k (without h o) o ≡ true
      took q =
          let some : eqb h 0 ≡ false = no_true (eqb h 0) (λ z. clash q (ap (λ (x : ℕ). has x o) (eqb-true h 0 z) ∙ has_zero o)) in
          let every : all_below n (λ i. not (has h i) || crew_turn n good k (without h i) i) ≡ true = rw some at e in
          let here : (not (has h o) || crew_turn n good k (without h o) o) ≡ true = all_at n _ every o (has_below h n o l q) in
          ⊎_elim (λ z. clash q (of_not_true (has h o) z)) (λ z. z) (or-holds (not (has h o)) _ here)

      passed : (o ≡ 32) × (h ≡ 0) → crew_turn n good k (without h o) o ≡ true
      passed q =
          let zero_is : eqb h 0 ≡ true = eq-eqb h 0 q.1 in
          let t : crew_turn n good k 0 32 ≡ true = rw zero_is at e in
          let w : without 0 32 ≡ 0 = without_same 0 32 (has_zero 32) in
          rw (q.0, q.1, w) t

  crew-holds : (r h : ℕ) → h < 2 ^ n → outage_turn n good (halves r) h ≡ true → CrewHolds n ok r (crew_replies r h) h
  unfolding halves crew_replies CrewHolds CrewRule after_turns
  crew-holds zero h l e = tt
  crew-holds (suc r) h l e =
      λ o may.
      let s = saved (halves r) (without h o) o (without_lt n h o l) (turn_follows (suc (halves r)) h o l e may) in
      (s.allowed, s.plan, crew-holds r (after_turns h o (saving_reply (halves r) (without h o) o)) s.small s.goes)

  -- ---- the outage

  unfoldable outage_moves : (r h : ℕ) → OutageRule r
  unfolding OutageRule
  outage_moves zero h = tt
  outage_moves (suc r) h = (first_move n good (suc (halves r)) h, λ b. outage_moves r (after_turns h (first_move n good (suc (halves r)) h) b))

  -- the first move is allowed, and the crew's turn after it fails
  record TakesNode (k h o : ℕ) : Type 0 where
    may : OutageMay h o
    fails : crew_turn n good k (without h o) o ≡ false

  takes : (k h : ℕ) → h < 2 ^ n → outage_turn n good (suc k) h ≡ false → TakesNode k h (first_move n good k h)
  unfolding outage_turn first_move wins
  takes k h l e = ⊎_elim none some (either (eqb h 0))
    where
      none : eqb h 0 ≡ true → TakesNode k h (first_move n good k h)
      none z =
          let t : crew_turn n good k 0 32 ≡ false = rw z at e in
          let is : first_move n good k h ≡ 32 = rw z in
          let w : without 0 32 ≡ 0 = without_same 0 32 (has_zero 32) in
          let zero_is : h ≡ 0 = eqb-true h 0 z in
          subst⁻¹ (TakesNode k h) is (record { may = inr (refl, zero_is); fails = rw (zero_is, w) t })

      some : eqb h 0 ≡ false → TakesNode k h (first_move n good k h)
      some z =
          let every : all_below n (λ i. not (has h i) || crew_turn n good k (without h i) i) ≡ false = rw z at e in
          let c = all_counter n _ every in
          let q : has h c.0 ≡ true = of_not_false (has h c.0) (or_fails_left (not (has h c.0)) _ c.2) in
          let f : crew_turn n good k (without h c.0) c.0 ≡ false = or_fails_right (not (has h c.0)) _ c.2 in
          let w : any_below n (wins n good k h) ≡ true = any_at n (wins n good k h) c.0 c.1 (and_both q (not_of_false f)) in
          let is : first_move n good k h ≡ lowest n (wins n good k h) = rw z in
          let p : wins n good k h (lowest n (wins n good k h)) ≡ true = lowest-holds n (wins n good k h) w in
          subst⁻¹ (TakesNode k h) is
          (record {
            may = inl (and_left (has h (lowest n (wins n good k h))) _ p);
            fails = of_not_true _ (and_right (has h (lowest n (wins n good k h))) _ p);
          })

  -- whatever the crew replies to a turn that fails, no plan follows or the next turn fails
  fails_follows : (k h taken b : ℕ) → h < 2 ^ n → crew_turn n good (suc k) h taken ≡ false → CrewMay n h taken b
      → (ok (cond (ltb b 32) (with h b) h) → ⊥) ⊎ ((outage_turn n good k (cond (ltb b 32) (with h b) h) ≡ false) × (cond (ltb b 32) (with h b) h < 2 ^ n))
  unfolding crew_turn
  fails_follows k h taken b l e = ⊎_elim back pass
    where
      back : Returnable n h taken b
          → (ok (cond (ltb b 32) (with h b) h) → ⊥) ⊎ ((outage_turn n good k (cond (ltb b 32) (with h b) h) ≡ false) × (cond (ltb b 32) (with h b) h < 2 ^ n))
      back a =
          let q = absent-test n h taken b a in
          let some : any_below n (absent h taken) ≡ true = any_at n (absent h taken) b a.node q in
          let f : any_below n (λ i. absent h taken i && (good (with h i) && outage_turn n good k (with h i))) ≡ false = rw some at e in
          let g : (absent h taken b && (good (with h b) && outage_turn n good k (with h b))) ≡ false = any_fails n _ f b a.node in
          let t : ltb b 32 ≡ true = lt-ltb b 32 (omega (arith, a.node)) in
          let s : with h b < 2 ^ n = with_lt n h b l a.node in
          rw t
          (⊎_elim (λ z. clash q z)
          (λ z. ⊎_elim (λ y. inl (no (with h b) s y)) (λ y. inr (y, s)) (and_fails (good (with h b)) (outage_turn n good k (with h b)) z))
          (and_fails (absent h taken b) _ g))

      pass : (b ≡ 32) × ((m : ℕ) → Returnable n h taken m → ⊥)
          → (ok (cond (ltb b 32) (with h b) h) → ⊥) ⊎ ((outage_turn n good k (cond (ltb b 32) (with h b) h) ≡ false) × (cond (ltb b 32) (with h b) h < 2 ^ n))
      pass a =
          let none : any_below n (absent h taken) ≡ false = no_true _ (λ z. let w = any_witness n (absent h taken) z in a.1 w.0 (absent_given n h taken w.0 w.1 w.2)) in
          let g : (good h && outage_turn n good k h) ≡ false = rw none at e in
          let t : ltb b 32 ≡ false = le-ltb b 32 (omega (arith, a.0)) in
          rw t (⊎_elim (λ y. inl (no h l y)) (λ y. inr (y, l)) (and_fails (good h) (outage_turn n good k h) g))

  outage_beats : (r h : ℕ) → h < 2 ^ n → outage_turn n good (halves r) h ≡ false → Beats n ok r (outage_moves r h) h
  unfolding halves outage_moves Beats OutageRule after_turns outage_turn
  outage_beats zero h l e = clash refl e
  outage_beats (suc r) h l e =
      let k = suc (halves r) in
      let o = first_move n good k h in
      let s = takes k h l e in (
        s.may,
        λ b may.
            ⊎_elim (λ none. inl none) (λ more. inr (outage_beats r (after_turns h o b) more.1 more.0))
            (fails_follows (halves r) (without h o) o b (without_lt n h o l) s.fails may),
      )

  -- ---- the answer

  -- a lower first move does not win
  lower_fails : (r h m : ℕ) → h < 2 ^ n → m < first_move n good (suc (halves r)) h → OutageWins n ok (suc r) h m → ⊥
  unfolding first_move wins Beats OutageRule Starts after_turns
  lower_fails r h m l less w =
      ⊎_elim held passed (subst (OutageMay h) w.starts w.beats.0)
    where
      held : has h m ≡ true → ⊥
      held q =
          let some : eqb h 0 ≡ false = no_true (eqb h 0) (λ z. clash q (ap (λ (x : ℕ). has x m) (eqb-true h 0 z) ∙ has_zero m)) in
          let is : first_move n good (suc (halves r)) h ≡ lowest n (wins n good (suc (halves r)) h) = rw some in
          let f : wins n good (suc (halves r)) h m ≡ false = lowest_first n (wins n good (suc (halves r)) h) m (omega arith) in
          let t : crew_turn n good (suc (halves r)) (without h m) m ≡ true =
          ⊎_elim (λ z. clash q z) (λ z. of_not_false _ z) (and_fails (has h m) _ f) in
          let s = saved (halves r) (without h m) m (without_lt n h m l) t in
          let b = saving_reply (halves r) (without h m) m in
          let e : w.rule.0 ≡ m = w.starts in
          let reached = w.beats.1 b (subst⁻¹ (λ (o : ℕ). CrewMay n (without h o) o b) e s.allowed) in
          ⊎_elim (λ z. z (subst⁻¹ (λ (o : ℕ). ok (after_turns h o b)) e s.plan))
          (λ z. rules_clash n ok r (after_turns h w.rule.0 b) (crew_replies r (after_turns h w.rule.0 b)) (w.rule.1 b)
          (crew-holds r (after_turns h w.rule.0 b) (subst⁻¹ (λ (o : ℕ). after_turns h o b < 2 ^ n) e s.small)
          (subst⁻¹ (λ (o : ℕ). outage_turn n good (halves r) (after_turns h o b) ≡ true) e s.goes)) z)
          reached

      passed : (m ≡ 32) × (h ≡ 0) → ⊥
      passed q =
          let is : first_move n good (suc (halves r)) h ≡ 32 = rw (eq-eqb h 0 q.1) in
          omega (arith, q.0)

  -- the outage's answer, by the half-rounds
  outage_answer : (r h : ℕ) → h < 2 ^ n → outage_turn n good (halves r) h ≡ false → OutageAnswer n ok r h (first_move n good (halves r - 1) h)
  unfolding halves outage_turn Starts OutageRule outage_moves
  outage_answer zero h l e = clash refl e
  outage_answer (suc r) h l e =
      let one : suc (suc (halves r)) - 1 ≡ suc (halves r) = omega arith in
      subst⁻¹ (λ (k : ℕ). OutageAnswer n ok (suc r) h (first_move n good k h)) one
      (record {
        forces = record { rule = outage_moves (suc r) h; starts = refl; beats = outage_beats (suc r) h l e };
        lowest_one = λ m less. lower_fails r h m l less;
      })

  -- the side that the turns say wins
  pub decided : (r h : ℕ) → h < 2 ^ n → WonBy n ok r h (winner_of n good r h)
  unfolding winner_of
  decided r h l = ⊎_elim crew outage (either (outage_turn n good (2 * r) h))
    where
      twice : halves r ≡ 2 * r
      twice = halves_twice r

      crew : outage_turn n good (2 * r) h ≡ true → WonBy n ok r h (winner_of n good r h)
      crew e = rw e (record { rule = crew_replies r h; holds = crew-holds r h l (rw twice e) })

      outage : outage_turn n good (2 * r) h ≡ false → WonBy n ok r h (winner_of n good r h)
      outage e =
          rw e (
            first_move n good (2 * r - 1) h,
            refl,
            subst (λ (k : ℕ). OutageAnswer n ok r h (first_move n good (k - 1) h)) twice (outage_answer r h l (rw twice e)),
          )
