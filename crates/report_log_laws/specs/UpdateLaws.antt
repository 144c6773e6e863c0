-- From runs to updates: the updates of a log rise, a log holds just the updates of its list, its end is its last run, a log up to
-- a target has the updates that are not past it, and what two logs share by their runs is what they share by their updates.
use Prim.Native.Nat.{ℕ, zero, suc, ◌+◌, ◌-◌, ◌<◌, ◌≤◌, min}
use Rattle.std.specs.Prelude.{Bool, false, cond, ◌&&◌, List, [], ◌∷◌, ◌++◌, ◌⊎◌, ◌≡◌, eqb, ltb}
use Rattle.std.proofs.Math.Bool.{true}
use Rattle.std.proofs.Common.{append_assoc, append-nil, inl, inr, sym, ap, ap₂, ◌∙◌}
use Rattle.std.proofs.Math.Logic.{⊎_elim}
use Rattle.std.proofs.Math.Path.{refl, subst}
use native.Mathlib.Omega.{arith}
use Rattle.std.proofs.Math.Dec.{leb}
use borrow.Author.Tests.{leb-true, ltb-true, ltb-false, eq-eqb, ne_eqb, le-leb, lt-ltb}
use Rattle.base_laws.specs.Bools.{either, clash, same, no_true, and_both, and_left, and_right, and_fails_left, and_fails_right, or_left, or_right, or-holds, eq_or_ne, lt_or_le}
use Rattle.base_ids.specs.declared.Position.{Position}
use Rattle.base_ids.specs.Definitions.{not_after}
use Rattle.base_ids.specs.Order.{order_places, order_of}
use Rattle.message_format.specs.Definitions.{word1, word2}
use Rattle.report_views.specs.Definitions.{pos, start, is_run, end_of, runs_from, runs_of, reaches, holds, same_position, runs_to, shared_after}
use Rattle.report_views.specs.LogLaws.{reaches_run, reaches_view, reaches_count, reaches_of}
use Rattle.report_views.specs.RunLaws.{Runs, held_given, held-of}
use Rattle.report_views.specs.Updates.{updates_after, updates_in, updates_of, shared_stretch, last_after, those_of, up_to}
use Rattle.report_log_laws.specs.Stretches.{one_same, rises_after, rises_on, rises_sooner, none_up_to, last_append, shared_both, shared_turned, those_append, among, among_append}

-- ---- runs of a log

-- the runs rise by view, above v, and their counts are from 1
unfoldable pub log_above : ℕ → List Position → Bool
log_above v [] = true
log_above v (r ∷ rs) = ltb v r.view.0 && leb 1 r.k && log_above r.view.0 rs

module _ (v : ℕ) (r : Position) (rs : List Position) where
  pub log_view : log_above v (r ∷ rs) ≡ true → v < r.view.0
  unfolding log_above
  log_view h =
      ltb-true v r.view.0
      (and_left (ltb v r.view.0) (leb 1 r.k) (and_left (ltb v r.view.0 && leb 1 r.k) (log_above r.view.0 rs) h))

  pub log_count : log_above v (r ∷ rs) ≡ true → 1 ≤ r.k
  unfolding log_above
  log_count h =
      leb-true 1 r.k
      (and_right (ltb v r.view.0) (leb 1 r.k) (and_left (ltb v r.view.0 && leb 1 r.k) (log_above r.view.0 rs) h))

  pub log_rest : log_above v (r ∷ rs) ≡ true → log_above r.view.0 rs ≡ true
  unfolding log_above
  log_rest h = and_right (ltb v r.view.0 && leb 1 r.k) (log_above r.view.0 rs) h

  pub log_on : v < r.view.0 → 1 ≤ r.k → log_above r.view.0 rs ≡ true → log_above v (r ∷ rs) ≡ true
  unfolding log_above
  log_on l m h = and_both (and_both (lt-ltb v r.view.0 l) (le-leb 1 r.k m)) h

-- so are those of a shard in a report that passes
module _ (b : List ℕ) (len s : ℕ) (runs : Runs b len s) where
  runs-from : (k i v : ℕ) → i + k ≤ len → ((j : ℕ) → i ≤ j → j < len → is_run b s j ≡ true → v < word1 b j)
      → log_above v (runs_from b s i k) ≡ true
  unfolding runs_from log_above
  runs-from zero i v l above = refl
  runs-from (suc k) i v l above = go (λ u a. runs-from k (suc i) u (omega arith) a) (either (is_run b s i))
    where
      go : ((u : ℕ) → ((j : ℕ) → suc i ≤ j → j < len → is_run b s j ≡ true → u < word1 b j) → log_above u (runs_from b s (suc i) k) ≡ true)
          → (is_run b s i ≡ true) ⊎ (is_run b s i ≡ false)
          → log_above v (cond (is_run b s i) (pos (word1 b i) (word2 b i) ∷ runs_from b s (suc i) k) (runs_from b s (suc i) k)) ≡ true
      go on (inl e) =
          rw e
          (log_on v (pos (word1 b i) (word2 b i)) (runs_from b s (suc i) k) (above i (omega arith) (omega arith) e)
          (runs.count_from i (omega arith) e) (on (word1 b i) (λ j m n r. runs.rise i j m n e r)))
      go on (inr e) = rw e (on v (λ j m n r. above j (omega arith) n r))

  pub runs_rises : log_above 0 (runs_of b s len) ≡ true
  unfolding runs_of
  runs_rises = runs-from len 0 0 (omega arith) (λ j m n r. runs.view_from j n r)

-- ---- the updates of a run

pub run_starts : (v k n : ℕ) → 1 ≤ n → updates_after v k n ≡ pos v (suc k) ∷ updates_after v (suc k) (n - 1)
unfolding updates_after
run_starts v k zero l = absurd (omega arith)
run_starts v k (suc n) l = let e : suc n - 1 ≡ n = omega arith in rw e

pub run_splits : (v k m n : ℕ) → updates_after v k (m + n) ≡ updates_after v k m ++ updates_after v (k + m) n
unfolding updates_after
run_splits v k zero n =
    let e : zero + n ≡ n = omega arith in
    let d : k + zero ≡ k = omega arith in
    rw (e, d)
run_splits v k (suc m) n =
    let e : suc m + n ≡ suc (m + n) = omega arith in
    let d : k + suc m ≡ suc k + m = omega arith in
    rw (e, d) (ap (λ (zs : List Position). pos v (suc k) ∷ zs) (run_splits v (suc k) m n))

run_last : (a : Position) (v k n : ℕ) → last_after a (updates_after v k (suc n)) ≡ pos v (suc k + n)
unfolding last_after updates_after
run_last a v k zero = let e : suc k + zero ≡ suc k = omega arith in rw e
run_last a v k (suc n) =
    let e : suc k + suc n ≡ suc (suc k) + n = omega arith in
    rw e (run_last (pos v (suc k)) v (suc k) n)

pub run_ends : (a : Position) (v n : ℕ) → 1 ≤ n → last_after a (updates_after v 0 n) ≡ pos v n
run_ends a v zero l = absurd (omega arith)
run_ends a v (suc n) l = run_last a v 0 n ∙ ap (λ (x : ℕ). pos v x) (omega arith)

run_rises : (v k n : ℕ) (zs : List Position) → rises_after (pos v (k + n)) zs ≡ true → rises_after (pos v k) (updates_after v k n ++ zs) ≡ true
unfolding updates_after
run_rises v k zero zs h = let e : k + zero ≡ k = omega arith in rw e at h
run_rises v k (suc n) zs h =
    let e : k + suc n ≡ suc k + n = omega arith in
    rises_on (pos v k) (pos v (suc k)) (updates_after v (suc k) n ++ zs)
    (no_true (not_after (pos v (suc k)) (pos v k)) (λ d. omega (arith, order_places (pos v (suc k)) (pos v k) refl d)))
    (run_rises v (suc k) n zs (rw e at h))

-- ---- the updates of a log rise

pub log_rises : (v k : ℕ) (rs : List Position) → log_above v rs ≡ true → rises_after (pos v k) (updates_in rs) ≡ true
unfolding updates_in rises_after
log_rises v k [] h = refl
log_rises v k (r ∷ rs) h =
    rises_sooner (pos v k) (pos r.view.0 0) (updates_in (r ∷ rs)) (order_of (pos v k) (pos r.view.0 0) (inl (log_view v r rs h)))
    (run_rises r.view.0 0 r.k (updates_in rs) (log_rises r.view.0 (0 + r.k) rs (log_rest v r rs h)))

-- ---- a log up to a target

pub log_to : (t : Position) (v : ℕ) (qs : List Position) → log_above v qs ≡ true → log_above v (runs_to t qs) ≡ true
unfolding runs_to log_above
log_to t v [] h = refl
log_to t v (q ∷ qs) h = go (log_to t q.view.0 qs (log_rest v q qs h)) (either (ltb q.view.0 t.view.0)) (either (eqb q.view.0 t.view.0 && leb 1 t.k))
  where
    go : log_above q.view.0 (runs_to t qs) ≡ true
        → (ltb q.view.0 t.view.0 ≡ true) ⊎ (ltb q.view.0 t.view.0 ≡ false)
        → ((eqb q.view.0 t.view.0 && leb 1 t.k) ≡ true) ⊎ ((eqb q.view.0 t.view.0 && leb 1 t.k) ≡ false)
        → log_above v (cond (ltb q.view.0 t.view.0) (q ∷ runs_to t qs)
        (cond (eqb q.view.0 t.view.0 && leb 1 t.k) (pos q.view.0 (min q.k t.k) ∷ []) [])) ≡ true
    go rest (inl e) d = rw e (log_on v q (runs_to t qs) (log_view v q qs h) (log_count v q qs h) rest)
    go rest (inr e) (inl d) =
        let m = leb-true 1 t.k (and_right (eqb q.view.0 t.view.0) (leb 1 t.k) d) in
        rw (e, d) (log_on v (pos q.view.0 (min q.k t.k)) [] (log_view v q qs h) (omega (arith, log_count v q qs h)) refl)
    go rest (inr e) (inr d) = rw (e, d)

-- a run of an earlier view than t's is up to t
run_up_to : (t : Position) (v k n : ℕ) → v < t.view.0 → up_to t (updates_after v k n) ≡ updates_after v k n
unfolding those_of updates_after
run_up_to t v k zero l = refl
run_up_to t v k (suc n) l =
    rw (order_of (pos v (suc k)) t (inl l)) (ap (λ (zs : List Position). pos v (suc k) ∷ zs) (run_up_to t v (suc k) n l))

-- one of t's view as far as t
run_to : (t : Position) (v k n : ℕ) → v ≡ t.view.0 → up_to t (updates_after v k n) ≡ updates_after v k (min n (t.k - k))
unfolding those_of updates_after
run_to t v k zero e = let z : min zero (t.k - k) ≡ 0 = omega arith in rw z
run_to t v k (suc n) e = go (run_to t v (suc k) n e) (lt_or_le k t.k)
  where
    go : up_to t (updates_after v (suc k) n) ≡ updates_after v (suc k) (min n (t.k - suc k)) → (k < t.k) ⊎ (t.k ≤ k)
        → cond (not_after (pos v (suc k)) t) (pos v (suc k) ∷ up_to t (updates_after v (suc k) n)) (up_to t (updates_after v (suc k) n))
        ≡ updates_after v k (min (suc n) (t.k - k))
    go rest (inl l) =
        let z : min (suc n) (t.k - k) ≡ suc (min n (t.k - suc k)) = omega arith in
        rw (order_of (pos v (suc k)) t (inr (e, l)), z) (ap (λ (zs : List Position). pos v (suc k) ∷ zs) rest)
    go rest (inr l) =
        let z : min (suc n) (t.k - k) ≡ 0 = omega arith in
        let y : min n (t.k - suc k) ≡ 0 = omega arith in
        rw (no_true (not_after (pos v (suc k)) t) (λ d. omega (arith, order_places (pos v (suc k)) t e d)), z) (rest ∙ rw y)

-- its updates are those of the log that are not past the target
pub updates_to : (t : Position) (v : ℕ) (qs : List Position) → log_above v qs ≡ true → updates_in (runs_to t qs) ≡ up_to t (updates_in qs)
unfolding runs_to updates_in those_of
updates_to t v [] h = refl
updates_to t v (q ∷ qs) h =
    go (updates_to t q.view.0 qs (log_rest v q qs h)) (either (ltb q.view.0 t.view.0)) (eq_or_ne q.view.0 t.view.0) (lt_or_le 0 t.k)
  where
    rest_rises : (k : ℕ) → rises_after (pos q.view.0 k) (updates_in qs) ≡ true
    rest_rises k = log_rises q.view.0 k qs (log_rest v q qs h)

    parts : up_to t (updates_after q.view.0 0 q.k ++ updates_in qs) ≡ up_to t (updates_after q.view.0 0 q.k) ++ up_to t (updates_in qs)
    parts = those_append (λ p. not_after p t) (updates_after q.view.0 0 q.k) (updates_in qs)

    go : updates_in (runs_to t qs) ≡ up_to t (updates_in qs)
        → (ltb q.view.0 t.view.0 ≡ true) ⊎ (ltb q.view.0 t.view.0 ≡ false)
        → (q.view.0 ≡ t.view.0) ⊎ (q.view.0 ≡ t.view.0 → ⊥) → (0 < t.k) ⊎ (t.k ≤ 0)
        → updates_in (cond (ltb q.view.0 t.view.0) (q ∷ runs_to t qs)
        (cond (eqb q.view.0 t.view.0 && leb 1 t.k) (pos q.view.0 (min q.k t.k) ∷ []) []))
        ≡ up_to t (updates_after q.view.0 0 q.k ++ updates_in qs)
    go rest (inl e) d k =
        rw e (ap₂ (λ (x y : List Position). x ++ y) (sym (run_up_to t q.view.0 0 q.k (ltb-true q.view.0 t.view.0 e))) rest ∙ sym parts)
    go rest (inr e) (inl d) (inl k) =
        let none : up_to t (updates_in qs) ≡ [] = none_up_to (pos q.view.0 t.k) t (updates_in qs) (rest_rises t.k) (order_of t (pos q.view.0 t.k) (inr (sym d, omega arith))) in
        let z : t.k - 0 ≡ t.k = omega arith in
        let part : up_to t (updates_after q.view.0 0 q.k) ≡ updates_after q.view.0 0 (min q.k t.k) = run_to t q.view.0 0 q.k d ∙ rw z in
        rw (e, and_both (eq-eqb q.view.0 t.view.0 d) (le-leb 1 t.k k)) (sym (parts ∙ rw (part, none)))
    go rest (inr e) (inl d) (inr k) =
        let z : t.k ≡ 0 = omega arith in
        let no : leb 1 t.k ≡ false = no_true (leb 1 t.k) (λ x. omega (arith, leb-true 1 t.k x)) in
        rw (e, and_fails_right (eqb q.view.0 t.view.0) no)
        (sym (none_up_to (pos q.view.0 0) t (updates_in (q ∷ qs)) (run_rises q.view.0 0 q.k (updates_in qs) (rest_rises (0 + q.k)))
        (order_of t (pos q.view.0 0) (inr (sym d, omega arith)))))
    go rest (inr e) (inr d) k =
        let le = ltb-false q.view.0 t.view.0 e in
        rw (e, and_fails_left (leb 1 t.k) (ne_eqb q.view.0 t.view.0 d))
        (sym (none_up_to (pos q.view.0 0) t (updates_in (q ∷ qs)) (run_rises q.view.0 0 q.k (updates_in qs) (rest_rises (0 + q.k)))
        (order_of t (pos q.view.0 0) (inl (omega (arith, d))))))

-- ---- what two logs share

-- a log whose views are above v has nothing in common with one that goes on in v
none_shared : (v k n : ℕ) (rs : List Position) (zs : List Position) → log_above v rs ≡ true → 1 ≤ n
    → shared_stretch (updates_in rs) (updates_after v k n ++ zs) ≡ []
unfolding shared_stretch updates_in
none_shared v k n [] zs h l = refl
none_shared v k n (r ∷ rs) zs h l =
    rw (run_starts r.view.0 0 r.k (log_count v r rs h), run_starts v k n l, ne_eqb r.view.0 v (λ e. omega (arith, log_view v r rs h)))

-- runs of one view: the lesser count is shared
lesser_shared : (a : Position) (v c d : ℕ) (rs zs : List Position) → log_above v rs ≡ true → 1 ≤ c → c < d
    → last_after a (shared_stretch (updates_after v 0 c ++ updates_in rs) (updates_after v 0 d ++ zs)) ≡ pos v c
lesser_shared a v c d rs zs h m l =
    let e : d ≡ c + (d - c) = omega arith in
    let more : updates_after v 0 d ++ zs ≡ updates_after v 0 c ++ (updates_after v (0 + c) (d - c) ++ zs) =
    ap (λ (x : ℕ). updates_after v 0 x ++ zs) e ∙ ap (λ (ps : List Position). ps ++ zs) (run_splits v 0 c (d - c))
    ∙ append_assoc (updates_after v 0 c) (updates_after v (0 + c) (d - c)) zs in
    ap (λ (ps : List Position). last_after a (shared_stretch (updates_after v 0 c ++ updates_in rs) ps)) more
    ∙ ap (last_after a) (shared_both (updates_after v 0 c) (updates_in rs) (updates_after v (0 + c) (d - c) ++ zs))
    ∙ ap (λ (ps : List Position). last_after a (updates_after v 0 c ++ ps)) (none_shared v (0 + c) (d - c) rs zs h (omega arith))
    ∙ ap (last_after a) (append-nil (updates_after v 0 c))
    ∙ run_ends a v c m

-- runs of two views share nothing
views_apart : (v u m n : ℕ) (ys zs : List Position) → (v ≡ u → ⊥) → 1 ≤ m → 1 ≤ n
    → shared_stretch (updates_after v 0 m ++ ys) (updates_after u 0 n ++ zs) ≡ []
unfolding shared_stretch
views_apart v u m n ys zs d k l = rw (run_starts v 0 m k, run_starts u 0 n l, ne_eqb v u d)

-- by runs and by updates
pub shared_updates : (a : Position) (rs qs : List Position) → log_above a.view.0 rs ≡ true → log_above a.view.0 qs ≡ true
    → shared_after a rs qs ≡ last_after a (shared_stretch (updates_in rs) (updates_in qs))
unfolding shared_after updates_in shared_stretch last_after
shared_updates a [] qs h g = refl
shared_updates a (r ∷ rs) [] h g = sym (ap (last_after a) (shared_turned (updates_after r.view.0 0 r.k ++ updates_in rs) []))
shared_updates a (r ∷ rs) (q ∷ qs) h g =
    go (λ w. shared_updates r rs qs (log_rest a.view.0 r rs h) w) (eq_or_ne r.view.0 q.view.0) (eq_or_ne r.k q.k) (lt_or_le r.k q.k)
  where
    v : ℕ
    v = a.view.0

    go : (log_above r.view.0 qs ≡ true → shared_after r rs qs ≡ last_after r (shared_stretch (updates_in rs) (updates_in qs)))
        → (r.view.0 ≡ q.view.0) ⊎ (r.view.0 ≡ q.view.0 → ⊥) → (r.k ≡ q.k) ⊎ (r.k ≡ q.k → ⊥) → (r.k < q.k) ⊎ (q.k ≤ r.k)
        → cond (eqb r.view.0 q.view.0) (cond (eqb r.k q.k) (shared_after r rs qs) (pos r.view.0 (min r.k q.k))) a
        ≡ last_after a (shared_stretch (updates_after r.view.0 0 r.k ++ updates_in rs) (updates_after q.view.0 0 q.k ++ updates_in qs))
    go on (inr d) k l =
        rw (ne_eqb r.view.0 q.view.0 d, views_apart r.view.0 q.view.0 r.k q.k (updates_in rs) (updates_in qs) d (log_count v r rs h) (log_count v q qs g))
    go on (inl d) (inl k) l =
        let rest = on (subst (λ (x : ℕ). log_above x qs ≡ true) (sym d) (log_rest v q qs g)) in
        rw (eq-eqb r.view.0 q.view.0 d, eq-eqb r.k q.k k, ← d, ← k)
        (rest
        ∙ ap (λ (x : Position). last_after x (shared_stretch (updates_in rs) (updates_in qs))) (sym (run_ends a r.view.0 r.k (log_count v r rs h)))
        ∙ sym (last_append a (updates_after r.view.0 0 r.k) (shared_stretch (updates_in rs) (updates_in qs)))
        ∙ ap (last_after a) (sym (shared_both (updates_after r.view.0 0 r.k) (updates_in rs) (updates_in qs))))
    go on (inl d) (inr k) (inl l) =
        let m : min r.k q.k ≡ r.k = omega arith in
        rw (eq-eqb r.view.0 q.view.0 d, ne_eqb r.k q.k k, m, ← d)
        (sym (lesser_shared a r.view.0 r.k q.k rs (updates_in qs) (log_rest v r rs h) (log_count v r rs h) l))
    go on (inl d) (inr k) (inr l) =
        let m : min r.k q.k ≡ q.k = omega arith in
        let less : q.k < r.k = omega (arith, k) in
        rw (eq-eqb r.view.0 q.view.0 d, ne_eqb r.k q.k k, m, d)
        (sym (ap (last_after a) (shared_turned (updates_after q.view.0 0 r.k ++ updates_in rs) (updates_after q.view.0 0 q.k ++ updates_in qs))
        ∙ lesser_shared a q.view.0 q.k r.k qs (updates_in rs) (log_rest v q qs g) (log_count v q qs g) less))

-- ---- what a log holds

run_among : (p : Position) (v k n : ℕ) → v ≡ p.view.0 → k < p.k → p.k ≤ k + n → among p (updates_after v k n) ≡ true
unfolding updates_after among
run_among p v k zero e l m = absurd (omega arith)
run_among p v k (suc n) e l m =
    ⊎_elim
    (λ d. or_left (among p (updates_after v (suc k) n)) (and_both (eq-eqb v p.view.0 e) (eq-eqb (suc k) p.k d)))
    (λ d. or_right (same_position (pos v (suc k)) p) (run_among p v (suc k) n e (omega (arith, d)) (omega arith)))
    (eq_or_ne (suc k) p.k)

run_reaches : (p : Position) (v k n : ℕ) → among p (updates_after v k n) ≡ true → (v ≡ p.view.0) × (k < p.k) × (p.k ≤ k + n)
unfolding updates_after among
run_reaches p v k zero h = clash h refl
run_reaches p v k (suc n) h =
    ⊎_elim
    (λ e.
    let same-one = one_same (pos v (suc k)) p e in
    (ap (λ (x : Position). x.view.0) same-one, omega (arith, ap (λ (x : Position). x.k) same-one), omega (arith, ap (λ (x : Position). x.k) same-one)))
    (λ e. let w = run_reaches p v (suc k) n e in (w.0, omega (arith, w.1), omega (arith, w.2)))
    (or-holds (same_position (pos v (suc k)) p) (among p (updates_after v (suc k) n)) h)

module _ (b : List ℕ) (s : ℕ) (p : Position) where
  record_among : (k i j : ℕ) → i ≤ j → j < i + k → 1 ≤ p.k → reaches b s p j ≡ true → among p (updates_in (runs_from b s i k)) ≡ true
  unfolding runs_from updates_in
  record_among zero i j l m f h = absurd (omega arith)
  record_among (suc k) i j l m f h = go (λ d. record_among k (suc i) j (omega (arith, d)) (omega arith) f h) (either (is_run b s i)) (eq_or_ne i j)
    where
      go : ((i ≡ j → ⊥) → among p (updates_in (runs_from b s (suc i) k)) ≡ true) → (is_run b s i ≡ true) ⊎ (is_run b s i ≡ false) → (i ≡ j) ⊎ (i ≡ j → ⊥)
          → among p (updates_in (cond (is_run b s i) (pos (word1 b i) (word2 b i) ∷ runs_from b s (suc i) k) (runs_from b s (suc i) k))) ≡ true
      go on (inl e) (inl d) =
          let at : reaches b s p i ≡ true = subst (λ (x : ℕ). reaches b s p x ≡ true) (sym d) h in
          rw e
          (among_append p (updates_after (word1 b i) 0 (word2 b i)) (updates_in (runs_from b s (suc i) k))
          ∙ or_left (among p (updates_in (runs_from b s (suc i) k)))
          (run_among p (word1 b i) 0 (word2 b i) (reaches_view b s p i at) f (omega (arith, reaches_count b s p i at))))
      go on (inl e) (inr d) =
          rw e
          (among_append p (updates_after (word1 b i) 0 (word2 b i)) (updates_in (runs_from b s (suc i) k))
          ∙ or_right (among p (updates_after (word1 b i) 0 (word2 b i))) (on d))
      go on (inr e) (inl d) = clash (reaches_run b s p i (subst (λ (x : ℕ). reaches b s p x ≡ true) (sym d) h)) e
      go on (inr e) (inr d) = rw e (on d)

  among_record : (k i : ℕ) → among p (updates_in (runs_from b s i k)) ≡ true → (j : ℕ) × (j < i + k) × (1 ≤ p.k) × (reaches b s p j ≡ true)
  unfolding runs_from updates_in among
  among_record zero i h = clash h refl
  among_record (suc k) i h = go (λ w. let x = among_record k (suc i) w in (x.0, omega (arith, x.1), x.2, x.3)) (either (is_run b s i)) h
    where
      go : (among p (updates_in (runs_from b s (suc i) k)) ≡ true → (j : ℕ) × (j < i + suc k) × (1 ≤ p.k) × (reaches b s p j ≡ true))
          → (is_run b s i ≡ true) ⊎ (is_run b s i ≡ false)
          → among p (updates_in (cond (is_run b s i) (pos (word1 b i) (word2 b i) ∷ runs_from b s (suc i) k) (runs_from b s (suc i) k))) ≡ true
          → (j : ℕ) × (j < i + suc k) × (1 ≤ p.k) × (reaches b s p j ≡ true)
      go on (inl e) g =
          let all : among p (updates_after (word1 b i) 0 (word2 b i) ++ updates_in (runs_from b s (suc i) k)) ≡ true = rw e at g in
          let one = updates_after (word1 b i) 0 (word2 b i) in
          ⊎_elim
          (λ d.
          let w = run_reaches p (word1 b i) 0 (word2 b i) d in
          (i, omega arith, w.1, reaches_of b s p i e w.0 (omega (arith, w.2))))
          (λ d. on d)
          (or-holds (among p one) (among p (updates_in (runs_from b s (suc i) k))) (sym (among_append p one (updates_in (runs_from b s (suc i) k))) ∙ all))
      go on (inr e) g = let rest : among p (updates_in (runs_from b s (suc i) k)) ≡ true = rw e at g in on rest

-- a log holds just the updates of its list
pub holds_runs : (b : List ℕ) (len s : ℕ) (p : Position) → holds b len s p ≡ among p (updates_of b s len)
unfolding runs_of
holds_runs b len s p =
    same (holds b len s p) (among p (updates_of b s len))
    (λ h.
    let w = held_given b len s p h in
    let j = w.by in
    record_among b s p len 0 j.0 (omega arith) (omega (arith, j.1)) w.from j.2)
    (λ h.
    let w = among_record b s p len 0 h in
    held-of b len s p w.0 (omega (arith, w.1)) (reaches_run b s p w.0 w.3) (reaches_view b s p w.0 w.3) w.2 (reaches_count b s p w.0 w.3))

-- ---- the end of a log

-- the runs by one record more
runs_more : (b : List ℕ) (s i k : ℕ)
    → runs_from b s i (suc k) ≡ runs_from b s i k ++ cond (is_run b s (i + k)) (pos (word1 b (i + k)) (word2 b (i + k)) ∷ []) []
unfolding runs_from
runs_more b s i zero = let e : i + zero ≡ i = omega arith in rw e
runs_more b s i (suc k) = let e : i + suc k ≡ suc i + k = omega arith in rw e (go (either (is_run b s i)) (runs_more b s (suc i) k))
  where
    go : (is_run b s i ≡ true) ⊎ (is_run b s i ≡ false)
        → runs_from b s (suc i) (suc k) ≡ runs_from b s (suc i) k ++ cond (is_run b s (suc i + k)) (pos (word1 b (suc i + k)) (word2 b (suc i + k)) ∷ []) []
        → cond (is_run b s i) (pos (word1 b i) (word2 b i) ∷ runs_from b s (suc i) (suc k)) (runs_from b s (suc i) (suc k))
        ≡ cond (is_run b s i) (pos (word1 b i) (word2 b i) ∷ runs_from b s (suc i) k) (runs_from b s (suc i) k)
        ++ cond (is_run b s (suc i + k)) (pos (word1 b (suc i + k)) (word2 b (suc i + k)) ∷ []) []
    go (inl e) rest = rw e (ap (λ (zs : List Position). pos (word1 b i) (word2 b i) ∷ zs) rest)
    go (inr e) rest = rw e rest

-- it is the last run
pub end_runs : (b : List ℕ) (s len : ℕ) → end_of b s len ≡ last_after start (runs_of b s len)
unfolding end_of runs_of last_after runs_from
end_runs b s zero = refl
end_runs b s (suc n) = sym (ap (last_after start) (runs_more b s 0 n) ∙ go (either (is_run b s n)) (end_runs b s n))
  where
    go : (is_run b s n ≡ true) ⊎ (is_run b s n ≡ false) → end_of b s n ≡ last_after start (runs_from b s 0 n)
        → last_after start (runs_from b s 0 n ++ cond (is_run b s (0 + n)) (pos (word1 b (0 + n)) (word2 b (0 + n)) ∷ []) [])
        ≡ cond (is_run b s n) (pos (word1 b n) (word2 b n)) (end_of b s n)
    go (inl e) rest = let z : 0 + n ≡ n = omega arith in rw (z, e) (last_append start (runs_from b s 0 n) (pos (word1 b n) (word2 b n) ∷ []))
    go (inr e) rest = let z : 0 + n ≡ n = omega arith in rw (z, e) (ap (last_after start) (append-nil (runs_from b s 0 n)) ∙ sym rest)
