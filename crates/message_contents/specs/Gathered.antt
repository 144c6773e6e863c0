-- What passes over the records gather, in the form in which the code gathers it.
use Rattle.std.specs.Prelude.{ℕ, ◌<◌, Bool, cond, ◌&&◌, List, eqb, ltb}
use Rattle.base_laws.specs.Definitions.{has, with, tabulate}
use Rattle.message_format.specs.Definitions.{kind, record_shard, word1, members_of}

-- the shards of the first n records fit a mask
abbrev pub SmallShards : List ℕ → ℕ → Type 0
SmallShards b n = (j : ℕ) → j < n → record_shard b j < 16

-- record j is of kind k
abbrev pub of_kind : ℕ → List ℕ → ℕ → Bool
of_kind k b j = eqb (kind b j) k

-- record j gives a shard's members, and the node is one of them
abbrev pub gives_shard : ℕ → List ℕ → ℕ → Bool
gives_shard node b j = eqb (kind b j) 1 && has (word1 b j) node

-- the mask, with the shard of record j if that is picked
abbrev pub with_shard : Bool → ℕ → List ℕ → ℕ → ℕ
with_shard picked mask b j = cond picked (with mask (record_shard b j)) mask

-- the members of the first n shards, and zeros up to 16
unfoldable pub shard_masks : ℕ → List ℕ → List ℕ
shard_masks n b = tabulate 16 (λ s. cond (ltb s n) (members_of b s) 0)
