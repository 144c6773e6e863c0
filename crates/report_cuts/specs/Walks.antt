-- One turn of the walk over two logs.
use Prim.Native.Nat.{ℕ, suc, ◌+◌, ◌-◌, ◌<◌, ◌≤◌, min}
use Rattle.std.specs.Prelude.{Bool, true, false, cond, ◌&&◌, List, [], ◌∷◌, ◌⊎◌, ◌≡◌, refl, ltb}
use Rattle.std.proofs.Common.{inl, inr, sym, ap, ap₂, ◌∙◌}
use Rattle.std.proofs.Math.Logic.{⊎_elim}
use native.Mathlib.Omega.{arith}
use Rattle.std.proofs.Math.Dec.{eqb, leb}
use borrow.Author.Tests.{eq-eqb, ne_eqb, le-leb, lt-leb, lt-ltb, le-ltb}
use Rattle.base_laws.specs.Bools.{either, clash, and_both, and_left, and_right, and_fails_left, and_fails_right, eq_or_ne}
use Rattle.base_ids.specs.declared.Position.{Position}
use Rattle.message_format.specs.Definitions.{word1, word2}
use Rattle.report_views.specs.Definitions.{pos, start, is_run, runs_from, runs_of, runs_to, shared_after, cut_from}

-- ---- the next run

-- from record i on no run of shard s comes before record r, which is one or is len
pub record NextRun (b : List ℕ) (len s i r : ℕ) : Type 0 where
  pub from : i ≤ r
  pub within : r ≤ len
  pub is-run : r < len → is_run b s r ≡ true
  pub rest : runs_from b s i (len - i) ≡ runs_from b s r (len - r)

module _ (b : List ℕ) (len s : ℕ) where
  -- a record that is no run is passed over
  pub pass_over : (j : ℕ) → j < len → is_run b s j ≡ false → runs_from b s j (len - j) ≡ runs_from b s (j + 1) (len - (j + 1))
  unfolding runs_from
  pass_over j l h =
      let e : len - j ≡ suc (len - (j + 1)) = omega arith in
      let d : j + 1 ≡ suc j = omega arith in
      rw (e, h, d)

  -- at a run the log goes on with it
  pub run_first : (j : ℕ) → j < len → is_run b s j ≡ true
      → runs_from b s j (len - j) ≡ pos (word1 b j) (word2 b j) ∷ runs_from b s (j + 1) (len - (j + 1))
  unfolding runs_from
  run_first j l h =
      let e : len - j ≡ suc (len - (j + 1)) = omega arith in
      let d : j + 1 ≡ suc j = omega arith in
      rw (e, h, d)

  -- from len on there is none
  pub runs_end : (j : ℕ) → len ≤ j → runs_from b s j (len - j) ≡ []
  unfolding runs_from
  runs_end j l = let e : len - j ≡ 0 = omega arith in rw e

-- ---- two runs

-- with nothing left on the other side
shared_none : (a : Position) (rs : List Position) → shared_after a rs [] ≡ a
unfolding shared_after
shared_none a [] = refl
shared_none a (r ∷ rs) = refl

-- both are the same and of an earlier view than the target's
abbrev pub whole_run : Position → Position → Position → Bool
whole_run r q t = eqb r.view.0 q.view.0 && eqb r.k q.k && ltb q.view.0 t.view.0

module _ (a r q t : Position) where
  -- the next ones decide
  pub whole_on : (rs qs : List Position) → whole_run r q t ≡ true → shared_after a (r ∷ rs) (runs_to t (q ∷ qs)) ≡ shared_after r rs (runs_to t qs)
  unfolding shared_after runs_to
  whole_on rs qs h =
      let both = and_left (eqb r.view.0 q.view.0 && eqb r.k q.k) (ltb q.view.0 t.view.0) h in
      rw (and_right (eqb r.view.0 q.view.0 && eqb r.k q.k) (ltb q.view.0 t.view.0) h, and_left (eqb r.view.0 q.view.0) (eqb r.k q.k) both, and_right (eqb r.view.0 q.view.0) (eqb r.k q.k) both)

  -- else these two decide
  pub whole_off : (rs qs : List Position) → whole_run r q t ≡ false
      → shared_after a (r ∷ rs) (runs_to t (q ∷ qs)) ≡ shared_after a (r ∷ []) (runs_to t (q ∷ []))
  unfolding shared_after runs_to
  whole_off rs qs h = go (either (eqb r.view.0 q.view.0)) (either (eqb r.k q.k)) (either (ltb q.view.0 t.view.0))
      (either (eqb q.view.0 t.view.0 && leb 1 t.k))
    where
      Goal : Type 0
      Goal = shared_after a (r ∷ rs) (cond (ltb q.view.0 t.view.0) (q ∷ runs_to t qs)
          (cond (eqb q.view.0 t.view.0 && leb 1 t.k) (pos q.view.0 (min q.k t.k) ∷ []) []))
          ≡ shared_after a (r ∷ []) (cond (ltb q.view.0 t.view.0) (q ∷ [])
          (cond (eqb q.view.0 t.view.0 && leb 1 t.k) (pos q.view.0 (min q.k t.k) ∷ []) []))

      go : (eqb r.view.0 q.view.0 ≡ true) ⊎ (eqb r.view.0 q.view.0 ≡ false)
          → (eqb r.k q.k ≡ true) ⊎ (eqb r.k q.k ≡ false)
          → (ltb q.view.0 t.view.0 ≡ true) ⊎ (ltb q.view.0 t.view.0 ≡ false)
          → ((eqb q.view.0 t.view.0 && leb 1 t.k) ≡ true) ⊎ ((eqb q.view.0 t.view.0 && leb 1 t.k) ≡ false) → Goal
      go (inl v) (inl k) (inl l) d = clash (and_both (and_both v k) l) h
      go (inl v) (inr k) (inl l) d = rw (l, v, k)
      go (inr v) k (inl l) d = rw (l, v)
      go v k (inr l) (inl d) = rw (l, d, shared_none r rs)
      go v k (inr l) (inr d) = rw (l, d)

  -- where logs of one run each stop being the same
  pub part_apart : (r.view.0 ≡ q.view.0 → ⊥) → a ≡ shared_after a (r ∷ []) (runs_to t (q ∷ []))
  unfolding shared_after runs_to
  part_apart d = go (either (ltb q.view.0 t.view.0)) (either (eqb q.view.0 t.view.0 && leb 1 t.k))
    where
      go : (ltb q.view.0 t.view.0 ≡ true) ⊎ (ltb q.view.0 t.view.0 ≡ false)
          → ((eqb q.view.0 t.view.0 && leb 1 t.k) ≡ true) ⊎ ((eqb q.view.0 t.view.0 && leb 1 t.k) ≡ false)
          → a ≡ shared_after a (r ∷ []) (cond (ltb q.view.0 t.view.0) (q ∷ [])
          (cond (eqb q.view.0 t.view.0 && leb 1 t.k) (pos q.view.0 (min q.k t.k) ∷ []) []))
      go (inl l) e = rw (l, ne_eqb r.view.0 q.view.0 d)
      go (inr l) (inl e) = rw (l, e, ne_eqb r.view.0 q.view.0 d)
      go (inr l) (inr e) = rw (l, e)

  -- a run r of the view of x: the lesser count
  lesser : (x : Position) → r.view.0 ≡ x.view.0 → pos r.view.0 (min r.k x.k) ≡ shared_after a (r ∷ []) (x ∷ [])
  unfolding shared_after
  lesser x e =
      ⊎_elim
      (λ k.
      let m : min r.k x.k ≡ r.k = omega arith in
      rw (eq-eqb r.view.0 x.view.0 e, eq-eqb r.k x.k k, m))
      (λ k. rw (eq-eqb r.view.0 x.view.0 e, ne_eqb r.k x.k k))
      (eq_or_ne r.k x.k)

  pub part_earlier : r.view.0 ≡ q.view.0 → q.view.0 < t.view.0
      → pos r.view.0 (min r.k q.k) ≡ shared_after a (r ∷ []) (runs_to t (q ∷ []))
  unfolding runs_to
  part_earlier e l = rw (lt-ltb q.view.0 t.view.0 l) (lesser q e)

  pub part_later : t.view.0 ≤ q.view.0 → (q.view.0 ≡ t.view.0 → ⊥) → a ≡ shared_after a (r ∷ []) (runs_to t (q ∷ []))
  unfolding runs_to shared_after
  part_later l d =
      rw (le-ltb q.view.0 t.view.0 l, and_fails_left (leb 1 t.k) (ne_eqb q.view.0 t.view.0 d))

  pub part_none : t.view.0 ≤ q.view.0 → t.k < 1 → a ≡ shared_after a (r ∷ []) (runs_to t (q ∷ []))
  unfolding runs_to shared_after
  part_none l k =
      rw (le-ltb q.view.0 t.view.0 l, and_fails_right (eqb q.view.0 t.view.0) (lt-leb 1 t.k k))

  pub part_target : r.view.0 ≡ q.view.0 → q.view.0 ≡ t.view.0 → 1 ≤ t.k
      → pos r.view.0 (min r.k (min q.k t.k)) ≡ shared_after a (r ∷ []) (runs_to t (q ∷ []))
  unfolding runs_to
  part_target e d k =
      rw (le-ltb q.view.0 t.view.0 (omega arith), and_both (eq-eqb q.view.0 t.view.0 d) (le-leb 1 t.k k))
      (lesser (pos q.view.0 (min q.k t.k)) e)

-- ---- the walk

-- what is left of the cut after records i and j, with a the end of what is shared before them
abbrev pub cut_after : List ℕ → ℕ → List ℕ → ℕ → ℕ → Position → Position → ℕ → ℕ → Position
cut_after b len hb hlen s t a i j = shared_after a (runs_from b s i (len - i)) (runs_to t (runs_from hb s j (hlen - j)))

module _ (b : List ℕ) (len : ℕ) (hb : List ℕ) (hlen s : ℕ) (t : Position) where
  -- at first
  pub walk_starts : (i j : ℕ) → NextRun b len s 0 i → NextRun hb hlen s 0 j → cut_from b len hb hlen s t ≡ cut_after b len hb hlen s t start i j
  unfolding cut_from runs_of
  walk_starts i j n m =
      let e : len - 0 ≡ len = omega arith in
      let d : hlen - 0 ≡ hlen = omega arith in
      let f : runs_from b s 0 len ≡ runs_from b s i (len - i) = rw e at n.rest in
      let g : runs_from hb s 0 hlen ≡ runs_from hb s j (hlen - j) = rw d at m.rest in
      rw (f, g)

  module _ (a : Position) (i j : ℕ) where
    -- the node's log has ended
    pub walk_ends : len ≤ i → a ≡ cut_after b len hb hlen s t a i j
    unfolding shared_after
    walk_ends l = rw (runs_end b len s i l)

    -- the holder's has
    pub walk_holder_ends : hlen ≤ j → a ≡ cut_after b len hb hlen s t a i j
    unfolding runs_to
    walk_holder_ends l = rw (runs_end hb hlen s j l) (sym (shared_none a (runs_from b s i (len - i))))

    module _ (l : i < len) (m : j < hlen) (e : is_run b s i ≡ true) (d : is_run hb s j ≡ true) (r q : Position)
        (is-r : r ≡ pos (word1 b i) (word2 b i)) (is-q : q ≡ pos (word1 hb j) (word2 hb j)) where
      runs_go : runs_from b s i (len - i) ≡ r ∷ runs_from b s (i + 1) (len - (i + 1))
      runs_go = run_first b len s i l e ∙ ap (λ (x : Position). x ∷ runs_from b s (i + 1) (len - (i + 1))) (sym is-r)

      holder_goes : runs_from hb s j (hlen - j) ≡ q ∷ runs_from hb s (j + 1) (hlen - (j + 1))
      holder_goes = run_first hb hlen s j m d ∙ ap (λ (x : Position). x ∷ runs_from hb s (j + 1) (hlen - (j + 1))) (sym is-q)

      both_go : cut_after b len hb hlen s t a i j
          ≡ shared_after a (r ∷ runs_from b s (i + 1) (len - (i + 1))) (runs_to t (q ∷ runs_from hb s (j + 1) (hlen - (j + 1))))
      both_go = ap₂ (λ (x y : List Position). shared_after a x (runs_to t y)) runs_go holder_goes

      pub walk_stops : whole_run r q t ≡ false → cut_after b len hb hlen s t a i j ≡ shared_after a (r ∷ []) (runs_to t (q ∷ []))
      walk_stops h = both_go ∙ whole_off a r q t (runs_from b s (i + 1) (len - (i + 1))) (runs_from hb s (j + 1) (hlen - (j + 1))) h

      pub walk_goes : whole_run r q t ≡ true → (x y : ℕ) → NextRun b len s (i + 1) x → NextRun hb hlen s (j + 1) y
          → cut_after b len hb hlen s t a i j ≡ cut_after b len hb hlen s t r x y
      walk_goes h x y n o =
          both_go ∙ whole_on a r q t (runs_from b s (i + 1) (len - (i + 1))) (runs_from hb s (j + 1) (hlen - (j + 1))) h
          ∙ ap₂ (λ (u w : List Position). shared_after r u (runs_to t w)) n.rest o.rest
