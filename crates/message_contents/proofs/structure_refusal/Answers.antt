-- `message_contents::structure_refusal` meets its contract: each way out has what the passes up to it gave.
use Rattle.std.proofs.Common.{sym, ◌∙◌}
use native.Mathlib.Omega.{arith}
use Rattle.base_ids.specs.Results.{ok_is}
use Rattle.message_contents.specs.Laws.{shards_small}
use Rattle.message_contents.specs.Passes.{failing_inside, none_failing}
use Rattle.message_contents.specs.Structure.{kind_told, shard_told, sequence_told, missing_told, nothing_told}
use Rattle.message_contents.specs.Ways.{told_is}
use Rattle.message_contents.proofs.structure_refusal.Goals as goal

pub overflow_add-j : goal.overflow_add-j
overflow_add-j c = omega (arith, failing_inside _ _ _ (c.in-Some.ensures), c.requires.len_bound)

pub told_at-requires-clause-i_bound : goal.told_at-requires-clause-i_bound
told_at-requires-clause-i_bound c = omega (arith, failing_inside _ _ _ (c.in-Some.ensures), c.requires.len_bound)

pub returns-in-Some : goal.returns-in-Some
returns-in-Some c = told_is _ _ _ _ _ c.told_at.ensures (kind_told _ _ _ _ _ _ (c.in-Some.ensures))

pub overflow_add-j-in-Some-shards : goal.overflow_add-j-in-Some-shards
overflow_add-j-in-Some-shards c = omega (arith, failing_inside _ _ _ (c.in-Some-shards.ensures), c.requires.len_bound)

pub told_at-requires-in-Some-shards-clause-i_bound : goal.told_at-requires-in-Some-shards-clause-i_bound
told_at-requires-in-Some-shards-clause-i_bound c = omega (arith, failing_inside _ _ _ (c.in-Some-shards.ensures), c.requires.len_bound)

pub returns-in-Some-shards : goal.returns-in-Some-shards
returns-in-Some-shards c =
    told_is _ _ _ _ _ c.told_at-in-Some-shards.ensures
    (shard_told _ _ _ _ _ (c.in_default.ensures) _ (c.in-Some-shards.ensures))

pub sequence-requires-clause-small_shards : goal.sequence-requires-clause-small_shards
sequence-requires-clause-small_shards c =
    shards_small c.args.settings.now _ _ c.requires.settings (none_failing _ _ (c.in_default-shards.ensures))

pub overflow_add-j-in-Some-sequence : goal.overflow_add-j-in-Some-sequence
overflow_add-j-in-Some-sequence c = omega (arith, failing_inside _ _ _ (c.in-Some-sequence.ensures), c.requires.len_bound)

pub told_at-requires-in-Some-sequence-clause-i_bound : goal.told_at-requires-in-Some-sequence-clause-i_bound
told_at-requires-in-Some-sequence-clause-i_bound c =
    omega (arith, failing_inside _ _ _ (c.in-Some-sequence.ensures), c.requires.len_bound)

pub returns-in-Some-sequence : goal.returns-in-Some-sequence
returns-in-Some-sequence c =
    told_is _ _ _ _ _ c.told_at-in-Some-sequence.ensures
    (sequence_told _ _ _ _ _ (c.in_default.ensures) (c.in_default-shards.ensures) _ (c.in-Some-sequence.ensures))

pub complete-requires-clause-small_shards : goal.complete-requires-clause-small_shards
complete-requires-clause-small_shards c =
    shards_small c.args.settings.now _ _ c.requires.settings (none_failing _ _ (c.in_default-shards.ensures))

pub returns-then-not-complete : goal.returns-then-not-complete
returns-then-not-complete c =
    told_is _ _ _ _ _ c.told_at-then-not-complete.ensures
    (missing_told _ _ _ _ _ (c.in_default.ensures) (c.in_default-shards.ensures) (c.in_default-sequence.ensures)
    (sym c.complete.ensures ∙ c.if-not-complete.true))

pub returns : goal.returns
returns c =
    ok_is _ _
    (sym (nothing_told _ _ _ _ _ (c.in_default.ensures) (c.in_default-shards.ensures) (c.in_default-sequence.ensures)
    (sym c.complete.ensures ∙ c.if-not-complete.false)))
