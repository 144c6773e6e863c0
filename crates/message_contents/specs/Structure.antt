-- Rows 9, 16 and 17 as one list: its three passes find nothing, and no record is missing. Rows 10 and 11 follow it.
use Rattle.std.specs.Prelude.{◌≡◌, refl, Bool, true, false, List, ℕ, suc, ◌+◌, ◌*◌, Some, None}
use Rattle.std.proofs.Math.Path.{sym}
use Rattle.std.proofs.Common.{ap, ◌∙◌, add-one, arith, ne_eqb}
use Rattle.base_laws.specs.Definitions.{all_below}
use Rattle.base_ids.specs.Definitions.{none, refused, refused_at, unless, unless_at, first_of}
use Rattle.base_ids.specs.Refusals.{unless_true, unless_false, unless_at_true, unless_at_false, first_none, first_refused}
use Rattle.base_ids.specs.declared.Refusal.{Refusal}
use Rattle.message_format.specs.declared.Form.{Form}
use Rattle.message_format.specs.Definitions.{members_of, kind_at, shard_at, sequence_at, complete, row10, row11_at, first_at, in_order, records_refusal}
use Rattle.message_contents.specs.Passes.{failing, first_failing, none_failing}

unfoldable pub structure_refusal : Form → List ℕ → ℕ → List ℕ → ℕ → Refusal
structure_refusal form σ node b len =
    first_at in_order len (kind_at form b) 9
    (first_at in_order len (shard_at σ b) 16
    (first_at in_order len (sequence_at node b) 17 (unless_at (complete form σ node b len) 17 len none)))

-- ---- a pass, by what it gives

module _ (len : ℕ) (f : ℕ → Bool) (k : ℕ) (rest : Refusal) where
  told_first : (j : ℕ) → Some j ≡ failing len f → refused_at k (j + 1) ≡ first_at in_order len f k rest
  told_first j found =
      let e = first_failing len f j found in
      ap (refused_at k) (add-one j ∙ ap suc e.0) ∙ sym (unless_at_false (all_below len f) k _ rest e.1)

  past_first : None ≡ failing len f → rest ≡ first_at in_order len f k rest
  past_first nowhere = sym (unless_at_true (all_below len f) k _ rest (none_failing len f nowhere))

-- ---- the list, by its first row that fails

module _ (form : Form) (σ : List ℕ) (node : ℕ) (b : List ℕ) (len : ℕ) where
  abbrev from_missing : Refusal
  from_missing = unless_at (complete form σ node b len) 17 len none

  abbrev from_sequence : Refusal
  from_sequence = first_at in_order len (sequence_at node b) 17 from_missing

  abbrev from_shards : Refusal
  from_shards = first_at in_order len (shard_at σ b) 16 from_sequence

  pub kind_told : (j : ℕ) → Some j ≡ failing len (kind_at form b) → refused_at 9 (j + 1) ≡ structure_refusal form σ node b len
  unfolding structure_refusal
  kind_told = told_first len (kind_at form b) 9 from_shards

  module _ (kinds : None ≡ failing len (kind_at form b)) where
    past-kinds : from_shards ≡ structure_refusal form σ node b len
    unfolding structure_refusal
    past-kinds = past_first len (kind_at form b) 9 from_shards kinds

    pub shard_told : (j : ℕ) → Some j ≡ failing len (shard_at σ b) → refused_at 16 (j + 1) ≡ structure_refusal form σ node b len
    shard_told j found = told_first len (shard_at σ b) 16 from_sequence j found ∙ past-kinds

    module _ (shards : None ≡ failing len (shard_at σ b)) where
      past-shards : from_sequence ≡ structure_refusal form σ node b len
      past-shards = past_first len (shard_at σ b) 16 from_sequence shards ∙ past-kinds

      pub sequence_told : (j : ℕ) → Some j ≡ failing len (sequence_at node b)
          → refused_at 17 (j + 1) ≡ structure_refusal form σ node b len
      sequence_told j found = told_first len (sequence_at node b) 17 from_missing j found ∙ past-shards

      module _ (sequence : None ≡ failing len (sequence_at node b)) where
        past-sequence : from_missing ≡ structure_refusal form σ node b len
        past-sequence = past_first len (sequence_at node b) 17 from_missing sequence ∙ past-shards

        pub missing_told : complete form σ node b len ≡ false → refused_at 17 len ≡ structure_refusal form σ node b len
        missing_told h = sym (unless_at_false (complete form σ node b len) 17 len none h) ∙ past-sequence

        pub nothing_told : complete form σ node b len ≡ true → none ≡ structure_refusal form σ node b len
        nothing_told h = sym (unless_at_true (complete form σ node b len) 17 len none h) ∙ past-sequence

-- ---- rows 10 and 11 after it

-- a list with an index, followed by another
first-at : (ok : Bool) (k i : ℕ) (a r rest : Refusal) → a ≡ first_of r rest → unless_at ok (suc k) i a ≡ first_of (unless_at ok (suc k) i r) rest
unfolding unless_at
first-at true k i a r rest e = e
first-at false k i a r rest e = sym (first_refused (refused_at (suc k) i) rest (ne_eqb (suc k + 256 * i) 0 (λ z. omega arith)))

module _ (form : Form) (σ : List ℕ) (node view members : ℕ) (b : List ℕ) (len : ℕ) where
  abbrev positions_pass : Bool
  positions_pass = all_below len (row11_at form view members b)

  abbrev masks_pass : Bool
  masks_pass = row10 σ members (members_of b)

  abbrev pub after_structure : Refusal
  after_structure = unless masks_pass 10 (unless positions_pass 11 none)

  -- rows 9, 16 and 17 come first
  pub structure_first :
      first_of (structure_refusal form σ node b len) after_structure ≡ records_refusal in_order form σ node view members b len
  unfolding records_refusal structure_refusal
  structure_first =
      sym (first-at (all_below len (kind_at form b)) 8 _ _ _ after_structure
      (first-at (all_below len (shard_at σ b)) 15 _ _ _ after_structure
      (first-at (all_below len (sequence_at node b)) 16 _ _ _ after_structure
      (first-at (complete form σ node b len) 16 len after_structure none after_structure (sym (first_none none after_structure refl))))))

  module _ (passed : structure_refusal form σ node b len ≡ none) where
    past_structure : after_structure ≡ records_refusal in_order form σ node view members b len
    past_structure = sym (first_none (structure_refusal form σ node b len) after_structure passed) ∙ structure_first

    pub records_10 : masks_pass ≡ false → refused 10 ≡ records_refusal in_order form σ node view members b len
    records_10 m = sym (unless_false masks_pass 10 _ m) ∙ past_structure

    pub records_11 : masks_pass ≡ true → positions_pass ≡ false → refused 11 ≡ records_refusal in_order form σ node view members b len
    records_11 m p = sym (unless_true masks_pass 10 _ m ∙ unless_false positions_pass 11 none p) ∙ past_structure

    pub records_pass : masks_pass ≡ true → positions_pass ≡ true → none ≡ records_refusal in_order form σ node view members b len
    records_pass m p = sym (unless_true masks_pass 10 _ m ∙ unless_true positions_pass 11 none p) ∙ past_structure
