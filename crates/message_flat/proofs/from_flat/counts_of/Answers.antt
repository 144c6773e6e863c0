-- The counts one after another.
use Rattle.message_flat.specs.Counted.{counts_by}
use Rattle.message_flat.proofs.from_flat.counts_of.Goals as goal

pub returns : goal.returns
returns c = counts_by _ _ _ _ _ _ _ c.word_in-shards.ensures c.wide.ensures
    c.word_in-flag.ensures c.places_by-places.ensures c.count_at.ensures c.word_in-runs.ensures
