-- The parts one after another.
use native.Mathlib.Omega.{arith}
use Rattle.message_flat.specs.Parted.{parts-by, places_le}
use Rattle.message_flat.proofs.to_flat.parts_of.Goals as goal

pub overflow_add-shards : goal.overflow_add-shards
overflow_add-shards c =
    let few = places_le c.has_places-ended.result c.wide-shards.result c.places_of-places.result c.places_of-places.ensures in omega (arith, few)

pub returns : goal.returns
returns c = parts-by _ _ _ _ _ _ _ _ c.shards.ensures c.wide-shards.ensures c.has_places-ended.ensures
    c.places_of-places.ensures c.rest_of-runs.ensures
