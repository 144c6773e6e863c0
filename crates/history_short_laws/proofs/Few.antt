-- A short report has a record for its head, and for each shard one for its members, at most one for the termination and at most one run: at most
-- 49 records, after any number of restarts.
use Prim.Native.Nat.{ℕ, ◌+◌, ◌<◌, ◌≤◌}
use Rattle.std.proofs.Math.Bool.{true}
use Rattle.std.specs.Prelude.{◌&&◌, List, ◌≡◌, refl, eqb}
use Rattle.std.proofs.Common.{sym, ◌∙◌}
use native.Mathlib.Omega.{arith}
use borrow.Author.Tests.{eqb-true}
use Rattle.base_laws.specs.Bools.{and_left, and_right}
use Rattle.base_laws.specs.Definitions.{has}
use Rattle.settings_values.specs.Definitions.{shards}
use Rattle.message_format.specs.Definitions.{word1, word2}
use Rattle.report_views.specs.declared.Layout.{Layout}
use Rattle.report_views.specs.declared.Termination.{Termination}
use Rattle.report_views.specs.Definitions.{pos, is_run, report_of, slots_ok}
use Rattle.report_views.specs.Shorthands.{view_of}
use Rattle.report_views.specs.RunLaws.{held-of}
use Rattle.report_views.specs.Meets.{report_records}
use Rattle.history_laws.specs.Definitions.{History, True}
use Rattle.history_short_laws.specs.Based.{latest_number, carries_latest, short_of}
use Rattle.history_short_laws.specs.Telling.{its_slot, its_runs, its_updates}
use Rattle.history_short_laws.specs.Few.{records_few}

-- ---- a short report

module _ (σ : List ℕ) (v : Layout) (t : Termination) (held : ℕ) (d : List ℕ) (few : shards σ ≤ 16) (slots : slots_ok σ v t held d ≡ true) (H : History)
    (short : (n : ℕ) → n < 32 → has held n ≡ true → True σ (short_of H) (report_of d n)) (n : ℕ) (small : n < 32) (is_held_lem : has held n ≡ true) where
  run_latest : (s : ℕ) → s < shards σ → (j : ℕ) → j < (report_of d n).len → is_run (report_of d n).body s j ≡ true
      → word1 (report_of d n).body j ≡ latest_number H n
  run_latest s l j k r =
      let b = (report_of d n).body in
      let one = its_runs σ v t held d few slots H (short_of H).updated short n small is_held_lem s l in
      let p = pos (word1 b j) (word2 b j) in
      let held_it = held-of b (report_of d n).len s p j k r refl (one.count_from j k r) (omega arith) in
      let all = sym (its_updates σ v t held d few slots H (short_of H).updated short n small is_held_lem s l p) ∙ held_it in
      eqb-true (word1 b j) (latest_number H n)
      (and_left (eqb (word1 b j) (latest_number H n)) (H.updated n s p)
      (and_right (carries_latest H s n) (eqb (word1 b j) (latest_number H n) && H.updated n s p) all))

  -- its records, and its head
  pub short_few : (report_of d n).len + 1 ≤ 49
  short_few =
      omega (
        arith,
        records_few σ (report_of d n).node.0 (view_of d n) (report_of d n).members (report_of d n).body (report_of d n).len
            (report_records σ v t d n (its_slot σ v t held d few slots H (short_of H).updated short n small is_held_lem))
            (λ s i j l k m p q. omega (
              arith,
              (its_runs σ v t held d few slots H (short_of H).updated short n small is_held_lem s l).rise i j k m p q,
              run_latest s l i (omega arith) p,
              run_latest s l j m q,
            )),
      )
