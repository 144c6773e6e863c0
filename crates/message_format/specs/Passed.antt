-- What no refusal means: the condition of every row holds. A record for the head, one for the records of the contents, one for
-- a message, one for contents and one for a call of the writer; each is the same as no refusal, by a law each way.
use Rattle.std.specs.Prelude.{ℕ, ◌≤◌, true, List, ◌≡◌, refl, eqb, leb, length, get_or}
use Rattle.std.proofs.Common.{◌∙◌, leb-true}
use Rattle.base_laws.specs.Definitions.{all_below}
use Rattle.settings_values.specs.Definitions.{settings_ok}
use Rattle.base_ids.specs.Definitions.{none}
use Rattle.base_ids.specs.Refusals.{unless_ok, unless_rest, unless_none, unless_at_ok, unless_at_rest, unless_at_none, first_left, first_right, first_none}
use Rattle.message_format.specs.declared.Form.{Form}
use Rattle.message_format.specs.declared.Contents.{Contents}
use Rattle.message_format.specs.Definitions.{place, following, row5, row8, members_of, row6, row7, kind_at, shard_at, sequence_at, complete, row10, row11_at, body_of, in_order, head_refusal, records_refusal, message_refusal, contents_refusal}
use Rattle.message_format.specs.Messages.{write_refusal}

-- rows 6 and 7
pub record HeadPasses (form : Form) (σ : List ℕ) (node view members : ℕ) : Type 0 where
  pub node_passes : row6 σ node ≡ true
  pub view_passes : row7 form σ node view members ≡ true

-- rows 9, 16, 17, 10 and 11
pub record RecordsPass (form : Form) (σ : List ℕ) (node view members : ℕ) (b : List ℕ) (len : ℕ) : Type 0 where
  pub kinds_pass : all_below len (kind_at form b) ≡ true
  pub shards_pass : all_below len (shard_at σ b) ≡ true
  pub sequence_passes : all_below len (sequence_at node b) ≡ true
  pub complete_passes : complete form σ node b len ≡ true
  pub masks-pass : row10 σ members (members_of b) ≡ true
  pub positions-pass : all_below len (row11_at form view members b) ≡ true

-- rows 5 to 8 of a message and those of its records
pub record MessagePasses (form : Form) (σ w : List ℕ) : Type 0 where
  pub words_pass : row5 w ≡ true
  pub head_passes : HeadPasses form σ (get_or w 0 0) (get_or w 1 0) (get_or w 2 0)
  pub chain_passes : row8 w ≡ true
  pub records_pass : RecordsPass form σ (get_or w 0 0) (get_or w 1 0) (get_or w 2 0) (body_of w) (following w)

-- rows 5 to 7 of contents and those of their records
pub record ContentsPass (form : Form) (σ : List ℕ) (c : Contents) : Type 0 where
  pub words_pass : leb c.len 127 ≡ true
  pub head_passes : HeadPasses form σ c.node.0 c.view.0 c.members
  pub records_pass : RecordsPass form σ c.node.0 c.view.0 c.members c.body c.len

-- rows 1, 2 and those of the contents to be written
pub record WritePasses (form : Form) (σ : List ℕ) (c : Contents) (buffer : List ℕ) : Type 0 where
  pub buffer_passes : eqb (length buffer) 512 ≡ true
  pub settings_pass : settings_ok σ ≡ true
  pub contents_pass : contents_refusal form σ c ≡ none

module _ (form : Form) (σ : List ℕ) (node view members : ℕ) where
  pub head_given : head_refusal form σ node view members ≡ none → HeadPasses form σ node view members
  unfolding head_refusal
  head_given h =
      record {
        node_passes = unless_ok (row6 σ node) 5 _ h;
        view_passes = unless_ok (row7 form σ node view members) 6 none (unless_rest (row6 σ node) 5 _ h);
      }

  pub head_none : HeadPasses form σ node view members → head_refusal form σ node view members ≡ none
  unfolding head_refusal
  head_none p = unless_none _ _ _ p.node_passes (unless_none _ _ _ p.view_passes refl)

module _ (at : ℕ → ℕ) (form : Form) (σ : List ℕ) (node view members : ℕ) (b : List ℕ) (len : ℕ) where
  pub records_given : records_refusal at form σ node view members b len ≡ none → RecordsPass form σ node view members b len
  unfolding records_refusal
  records_given h0 =
      let h1 = unless_at_rest (all_below len (kind_at form b)) 8 _ _ h0 in
      let h2 = unless_at_rest (all_below len (shard_at σ b)) 15 _ _ h1 in
      let h3 = unless_at_rest (all_below len (sequence_at node b)) 16 _ _ h2 in
      let h4 = unless_at_rest (complete form σ node b len) 16 _ _ h3 in
      let h5 = unless_rest (row10 σ members (members_of b)) 9 _ h4 in
      record {
        kinds_pass = unless_at_ok _ 8 _ _ h0;
        shards_pass = unless_at_ok _ 15 _ _ h1;
        sequence_passes = unless_at_ok _ 16 _ _ h2;
        complete_passes = unless_at_ok _ 16 _ _ h3;
        masks-pass = unless_ok _ 9 _ h4;
        positions-pass = unless_ok _ 10 _ h5;
      }

  pub records_none : RecordsPass form σ node view members b len → records_refusal at form σ node view members b len ≡ none
  unfolding records_refusal
  records_none p =
      unless_at_none _ _ _ _ p.kinds_pass
      (unless_at_none _ _ _ _ p.shards_pass
      (unless_at_none _ _ _ _ p.sequence_passes
      (unless_at_none _ _ _ _ p.complete_passes
      (unless_none _ _ _ p.masks-pass (unless_none _ _ _ p.positions-pass refl)))))

pub message_given : (form : Form) (σ w : List ℕ) → message_refusal form σ w ≡ none → MessagePasses form σ w
unfolding message_refusal
message_given form σ w h0 =
    let h1 = unless_rest (row5 w) 4 _ h0 in
    let h2 = first_right (head_refusal form σ (get_or w 0 0) (get_or w 1 0) (get_or w 2 0)) _ h1 in
    record {
      words_pass = unless_ok _ 4 _ h0;
      head_passes = head_given form σ _ _ _ (first_left _ _ h1);
      chain_passes = unless_at_ok _ 7 _ _ h2;
      records_pass = records_given (place w) form σ _ _ _ _ _ (unless_at_rest (row8 w) 7 _ _ h2);
    }

pub message_none : (form : Form) (σ w : List ℕ) → MessagePasses form σ w → message_refusal form σ w ≡ none
unfolding message_refusal
message_none form σ w p =
    unless_none _ _ _ p.words_pass
    (first_none _ _ (head_none form σ _ _ _ p.head_passes)
    ∙ unless_at_none _ _ _ _ p.chain_passes (records_none (place w) form σ _ _ _ _ _ p.records_pass))

pub contents_given : (form : Form) (σ : List ℕ) (c : Contents) → contents_refusal form σ c ≡ none → ContentsPass form σ c
unfolding contents_refusal
contents_given form σ c h0 =
    let h1 = unless_rest (leb c.len 127) 4 _ h0 in
    record {
      words_pass = unless_ok _ 4 _ h0;
      head_passes = head_given form σ _ _ _ (first_left _ _ h1);
      records_pass =
          records_given in_order form σ _ _ _ _ _ (first_right (head_refusal form σ c.node.0 c.view.0 c.members) _ h1);
    }

pub contents_none : (form : Form) (σ : List ℕ) (c : Contents) → ContentsPass form σ c → contents_refusal form σ c ≡ none
unfolding contents_refusal
contents_none form σ c p =
    unless_none _ _ _ p.words_pass
    (first_none _ _ (head_none form σ _ _ _ p.head_passes) ∙ records_none in_order form σ _ _ _ _ _ p.records_pass)

-- contents that pass have at most 127 records
pub contents_few : (form : Form) (σ : List ℕ) (c : Contents) → contents_refusal form σ c ≡ none → c.len ≤ 127
contents_few form σ c h = leb-true c.len 127 (contents_given form σ c h).words_pass

module _ (form : Form) (σ : List ℕ) (c : Contents) (buffer : List ℕ) where
  pub write_given : write_refusal form σ c buffer ≡ none → WritePasses form σ c buffer
  unfolding write_refusal
  write_given h0 =
      let h1 = unless_rest (eqb (length buffer) 512) 0 _ h0 in
      record {
        buffer_passes = unless_ok _ 0 _ h0;
        settings_pass = unless_ok _ 1 _ h1;
        contents_pass = unless_rest (settings_ok σ) 1 _ h1;
      }

  pub write_none : WritePasses form σ c buffer → write_refusal form σ c buffer ≡ none
  unfolding write_refusal
  write_none p = unless_none _ _ _ p.buffer_passes (unless_none _ _ _ p.settings_pass p.contents_pass)
