-- The refusal of contents, by the first of its lists that refuses.
use Rattle.std.specs.Prelude.{◌≡◌, List, ℕ, ◌<◌, ◌≤◌, leb}
use Rattle.std.proofs.Math.Path.{sym}
use Rattle.std.proofs.Common.{le-leb}
use Rattle.std.proofs.lemmas.Bool.{lt-leb}
use Rattle.base_ids.specs.Definitions.{refused, first_of}
use Rattle.base_ids.specs.Refusals.{unless_true, unless_false}
use Rattle.base_ids.specs.declared.Refusal.{Refusal}
use Rattle.message_format.specs.declared.Form.{Form}
use Rattle.message_format.specs.declared.Contents.{Contents}
use Rattle.message_format.specs.Definitions.{in_order, head_refusal, records_refusal, contents_refusal}

module _ (form : Form) (σ : List ℕ) (c : Contents) where
  abbrev pub head_part : Refusal
  head_part = head_refusal form σ c.node.0 c.view.0 c.members

  abbrev pub rest_of : Refusal
  rest_of = records_refusal in_order form σ c.node.0 c.view.0 c.members c.body c.len

  pub contents_5 : 127 < c.len → refused 5 ≡ contents_refusal form σ c
  unfolding contents_refusal
  contents_5 l = sym (unless_false (leb c.len 127) 5 _ (lt-leb c.len 127 l))

  pub contents_first : c.len ≤ 127 → first_of head_part rest_of ≡ contents_refusal form σ c
  unfolding contents_refusal
  contents_first l = sym (unless_true (leb c.len 127) 5 _ (le-leb c.len 127 l))
