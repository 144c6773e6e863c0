-- Laws of what a run prints: one shard more, and that 8,192 bytes are enough.
use Rattle.std.specs.Prelude.{ℕ, zero, suc, ◌+◌, ◌*◌, ◌≤◌, List, ◌++◌, ◌≡◌, length, get_or}
use Rattle.std.proofs.Common.{append_assoc, sym, ap, add-one, arith, length-append}
use Rattle.base_ids.specs.declared.Position.{Position}
use Rattle.base_ids.specs.declared.Refusal.{Refusal}
use Rattle.report_views.specs.declared.Plan.{Plan}
use Rattle.report_views.specs.declared.Reason.{Reason}
use Rattle.report_views.specs.declared.Reason.TheVariants.{NoView, NoMajority, TooFew, NoHolder, NoPlacement}
use Rattle.report_views.specs.Definitions.{holder_at, target_at}
use Rattle.program_text.specs.Definitions.{field, line, space, number_line}
use Rattle.program_text.specs.Text.{field_length, line_length, number_line_length}
use Rattle.program_lines.specs.Definitions.{members_below, moves_label, holder_label, members_label, newline, shard_label, target_label, shard_line, shard_lines, view_label, plan_lines, wait_label, wait_for, wait_line}
use Rattle.program_lines.specs.Members.{members_length}

-- its end, by the mask of the members
unfoldable pub carriers : ℕ → List ℕ
carriers m = members_label ++ (members_below 32 m ++ newline)

-- the line of shard s by its holder, target and mask
unfoldable pub shard_text : ℕ → ℕ → Position → ℕ → List ℕ
shard_text s h t m =
    (field shard_label s ++ field holder_label h) ++ ((field target_label t.view.0 ++ field space t.k) ++ carriers m)

-- ---- laws

pub shard-text : (p : Plan) (s : ℕ)
    → shard_line p s ≡ shard_text s (holder_at p s) (target_at p s) (get_or p.layout.masks s 0)
unfolding shard_line shard_text carriers
shard-text p s = sym (simp append_assoc)

pub shards_step : (p : Plan) (n : ℕ) → shard_lines p (n + 1) ≡ shard_lines p n ++ shard_line p n
unfolding shard_lines
shards_step p n = ap (shard_lines p) (add-one n)

pub number_length : (r : Refusal) → length (number_line r) ≤ 8192
number_length r = omega (arith, number_line_length r)

wait_for_length : (reason value : ℕ) → length (wait_for reason value) ≤ 8192
unfolding wait_for
wait_for_length reason value =
    omega (arith, length-append (field wait_label reason) (line space value), field_length wait_label reason, line_length space value)

wait_of_length : (reason : ℕ) → length (line wait_label reason) ≤ 8192
wait_of_length reason = omega (arith, line_length wait_label reason)

pub wait_length : (reason : Reason) → length (wait_line reason) ≤ 8192
unfolding wait_line
wait_length NoView = wait_of_length _
wait_length NoMajority = wait_of_length _
wait_length TooFew = wait_of_length _
wait_length (NoHolder s) = wait_for_length _ _
wait_length (NoPlacement g) = wait_for_length _ _

shard_length : (p : Plan) (s : ℕ) → length (shard_line p s) ≤ 432
unfolding shard_line
shard_length p s =
    simp length-append
    (omega (arith, field_length shard_label s, field_length holder_label (holder_at p s), field_length target_label (target_at p s).view.0, field_length space (target_at p s).k, members_length (get_or p.layout.masks s 0) 32))

shards_length : (p : Plan) (n : ℕ) → length (shard_lines p n) ≤ 432 * n
unfolding shard_lines
shards_length p zero = omega arith
shards_length p (suc n) = omega (arith, length-append (shard_lines p n) (shard_line p n), shards_length p n, shard_length p n)

pub plan_length : (p : Plan) (n : ℕ) → n ≤ 16 → length (plan_lines p n) ≤ 8192
unfolding plan_lines
plan_length p n h =
    simp length-append
    (omega (arith, line_length view_label p.layout.number.0, line_length moves_label p.total, shards_length p n))
