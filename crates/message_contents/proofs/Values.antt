-- Laws over the values that definitions have, where the code gives a Result or an Option.
use Rattle.std.specs.Prelude.{◌≡◌, List, ℕ, ◌≤◌, leb, refl, Bool, true, false, suc, ◌+◌, ◌*◌, ◌<◌}
use Rattle.std.proofs.Math.Path.{sym}
use Rattle.std.proofs.Common.{ap, ◌∙◌, le-leb, eq-eqb, ne_eqb, add-one, arith}
use Rattle.base_ids.specs.Refusals.{unless_true, accepted_none, first_none, first_refused, unless_false, unless_at_true, unless_at_false, rows_refused}
use Rattle.base_ids.specs.declared.Refusal.{Refusal}
use Rattle.message_format.specs.declared.Form.{Form}
use Rattle.message_format.specs.declared.Contents.{Contents}
use Rattle.message_format.specs.Definitions.{in_order, head_refusal, records_refusal, contents_refusal, members_of, kind_at, shard_at, sequence_at, complete, row10, row11_at, first_at}
use Rattle.message_contents.specs.Structure.{structure_refusal}
use Rattle.base_laws.specs.Definitions.{all_below}
use Rattle.base_laws.specs.Loops.{first_bad}
use Rattle.base_laws.proofs.Loops.{bad_fails, bad-holds}
use Rattle.base_ids.specs.Definitions.{none, refused, refused_at, unless, unless_at, first_of}

module _ (form : Form) (σ : List ℕ) (c : Contents) where
  abbrev head_part : Refusal
  head_part = head_refusal form σ c.node.0 c.view.0 c.members

  abbrev rest_of : Refusal
  rest_of = records_refusal in_order form σ c.node.0 c.view.0 c.members c.body c.len

  pub contents_head : (head : Refusal) → c.len ≤ 127 → head ≡ head_part → (head.code ≡ 0 → ⊥)
      → head ≡ contents_refusal form σ c
  unfolding contents_refusal
  contents_head head l e z =
      e
      ∙ sym (unless_true (leb c.len 127) 5 _ (le-leb c.len 127 l)
      ∙ first_refused head_part rest_of (ne_eqb head_part.code 0 (λ y. z (ap (λ (r : Refusal). r.code) e ∙ y))))

  pub contents_records : (head r : Refusal) → c.len ≤ 127 → head ≡ head_part → head.code ≡ 0 → r ≡ rest_of
      → r ≡ contents_refusal form σ c
  unfolding contents_refusal
  contents_records head r l e z f =
      f
      ∙ sym (unless_true (leb c.len 127) 5 _ (le-leb c.len 127 l)
      ∙ first_none head_part rest_of (sym e ∙ accepted_none head (eq-eqb head.code 0 z)))

module _ (len : ℕ) (f : ℕ → Bool) (k j : ℕ) (rest : Refusal) (e : j ≡ first_bad len f) where
  told_first : j < len → refused_at k (j + 1) ≡ first_at in_order len f k rest
  told_first l = ap (refused_at k) (add-one j ∙ ap suc e) ∙ sym (unless_at_false (all_below len f) k _ rest (bad_fails len f j e l))

  past_first : len ≤ j → rest ≡ first_at in_order len f k rest
  past_first l = sym (unless_at_true (all_below len f) k _ rest (bad-holds len f j e l))

module _ (form : Form) (σ : List ℕ) (node : ℕ) (b : List ℕ) (len kind : ℕ) (kinds : kind ≡ first_bad len (kind_at form b)) where
  abbrev shards_on : Refusal
  shards_on =
      first_at in_order len (shard_at σ b) 16
      (first_at in_order len (sequence_at node b) 17 (unless_at (complete form σ node b len) 17 len none))

  abbrev sequence_on : Refusal
  sequence_on = first_at in_order len (sequence_at node b) 17 (unless_at (complete form σ node b len) 17 len none)

  pub kind_told : (r : Refusal) → r ≡ refused_at 9 (kind + 1) → kind < len → r ≡ structure_refusal form σ node b len
  unfolding structure_refusal
  kind_told r t l = t ∙ told_first len (kind_at form b) 9 kind shards_on kinds l

  module _ (shard : ℕ) (shards : shard ≡ first_bad len (shard_at σ b)) (past-kinds : len ≤ kind) where
    pub shard_told : (r : Refusal) → r ≡ refused_at 16 (shard + 1) → shard < len → r ≡ structure_refusal form σ node b len
    unfolding structure_refusal
    shard_told r t l =
        t ∙ told_first len (shard_at σ b) 16 shard sequence_on shards l ∙ past_first len (kind_at form b) 9 kind shards_on kinds past-kinds

    module _ (place : ℕ) (sequence : place ≡ first_bad len (sequence_at node b)) (past-shards : len ≤ shard) where
      from-sequence : sequence_on ≡ structure_refusal form σ node b len
      unfolding structure_refusal
      from-sequence =
          past_first len (shard_at σ b) 16 shard sequence_on shards past-shards
          ∙ past_first len (kind_at form b) 9 kind shards_on kinds past-kinds

      pub sequence_told : (r : Refusal) → r ≡ refused_at 17 (place + 1) → place < len → r ≡ structure_refusal form σ node b len
      sequence_told r t l =
          t ∙ told_first len (sequence_at node b) 17 place (unless_at (complete form σ node b len) 17 len none) sequence l ∙ from-sequence

      module _ (past-sequence : len ≤ place) where
        from_complete : unless_at (complete form σ node b len) 17 len none ≡ structure_refusal form σ node b len
        from_complete =
            past_first len (sequence_at node b) 17 place (unless_at (complete form σ node b len) 17 len none) sequence past-sequence
            ∙ from-sequence

        pub missing_told : (r : Refusal) → r ≡ refused_at 17 len → complete form σ node b len ≡ false → r ≡ structure_refusal form σ node b len
        missing_told r t h = t ∙ sym (unless_at_false (complete form σ node b len) 17 len none h) ∙ from_complete

        pub nothing_told : complete form σ node b len ≡ true → none ≡ structure_refusal form σ node b len
        nothing_told h = sym (unless_at_true (complete form σ node b len) 17 len none h) ∙ from_complete

-- a list with an index, followed by another
first-at : (ok : Bool) (k i : ℕ) (a r rest : Refusal) → a ≡ first_of r rest → unless_at ok (suc k) i a ≡ first_of (unless_at ok (suc k) i r) rest
unfolding unless_at
first-at true k i a r rest e = e
first-at false k i a r rest e = sym (first_refused (refused_at (suc k) i) rest (ne_eqb (suc k + 256 * i) 0 (λ z. omega arith)))

module _ (form : Form) (σ : List ℕ) (node view members : ℕ) (b : List ℕ) (len : ℕ) where
  abbrev positions_pass : Bool
  positions_pass = all_below len (row11_at form view members b)

  abbrev masks_pass : Bool
  masks_pass = row10 σ members (members_of b)

  abbrev structure_on : Refusal
  structure_on = unless masks_pass 10 (unless positions_pass 11 none)

  structure_first :
      first_of (structure_refusal form σ node b len) structure_on ≡ records_refusal in_order form σ node view members b len
  unfolding records_refusal structure_refusal
  structure_first =
      sym (first-at (all_below len (kind_at form b)) 8 _ _ _ structure_on
      (first-at (all_below len (shard_at σ b)) 15 _ _ _ structure_on
      (first-at (all_below len (sequence_at node b)) 16 _ _ _ structure_on
      (first-at (complete form σ node b len) 16 len structure_on none structure_on (sym (first_none none structure_on refl))))))

  module _ (r : Refusal) (e : r ≡ structure_refusal form σ node b len) where
    -- the refusal, by the first row that fails
    pub records_structure : (r.code ≡ 0 → ⊥) → r ≡ records_refusal in_order form σ node view members b len
    records_structure h = rows_refused e structure_on (ne_eqb r.code 0 h) ∙ structure_first

    module _ (h : r.code ≡ 0) where
      past_structure : structure_on ≡ records_refusal in_order form σ node view members b len
      past_structure =
          sym (first_none (structure_refusal form σ node b len) structure_on (sym e ∙ accepted_none r (eq-eqb r.code 0 h)))
          ∙ structure_first

      pub records_10 : masks_pass ≡ false → refused 10 ≡ records_refusal in_order form σ node view members b len
      records_10 m = sym (unless_false masks_pass 10 _ m) ∙ past_structure

      pub records_11 : masks_pass ≡ true → positions_pass ≡ false → refused 11 ≡ records_refusal in_order form σ node view members b len
      records_11 m p = sym (unless_true masks_pass 10 _ m ∙ unless_false positions_pass 11 none p) ∙ past_structure

      pub records_pass : masks_pass ≡ true → positions_pass ≡ true → none ≡ records_refusal in_order form σ node view members b len
      records_pass m p = sym (unless_true masks_pass 10 _ m ∙ unless_true positions_pass 11 none p) ∙ past_structure
