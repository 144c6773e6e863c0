-- Reader and writer are inverse. Contents that the writer takes are read back from the message that it makes, with zeros for the
-- words past the records; and the contents of a message that the reader takes are taken by the writer, and read back as they are.
use Rattle.std.specs.Prelude.{ℕ, ◌+◌, ◌*◌, ◌/◌, ◌%◌, ◌≤◌, Bool, true, false, cond, List, ◌≡◌, refl, ltb, get_or}
use Rattle.std.proofs.Common.{arith, sym, ◌∙◌, lt-ltb, le-leb}
use Rattle.base_laws.specs.Below.{all_cong}
use Rattle.base_laws.specs.Tables.{get_d_tabulate, tabulate_cong}
use Rattle.base_ids.specs.Definitions.{none}
use Rattle.message_format.specs.declared.Form.{Form}
use Rattle.message_format.specs.declared.Contents.{Contents}
use Rattle.message_format.specs.Definitions.{place, following, members_of, kind_at, shard_at, sequence_at, row11_at, body_word, body_of, contents_of, message_refusal, contents_refusal, message_of}
use Rattle.message_format.specs.Chain.{following_le}
use Rattle.message_format.specs.Messages.{tidy}
use Rattle.message_format.specs.Passed.{RecordsPass, message_given, message_none, contents_given, contents_few, contents_none}
use Rattle.message_format.specs.Laws.{members_enough}
use Rattle.message_format.specs.Alike.{SameRecords, word1_same, kind_same, shard_same, sequence_same, complete_same, position_same, row10_same}
use Rattle.message_inverse_laws.specs.Written.{written_node, written_view, written_members, written_following, written_row5, written_row8, written_body, written_contents}

-- the reader takes w, and w says c
pub record ReadsAs (form : Form) (σ w : List ℕ) (c : Contents) : Type 0 where
  pub taken : message_refusal form σ w ≡ none
  pub found : contents_of w ≡ c

-- records that pass, in another body
alike_passes : (form : Form) (σ : List ℕ) (node view members : ℕ) (b c : List ℕ) (n : ℕ) → SameRecords b c n
    → RecordsPass form σ node view members b n → RecordsPass form σ node view members c n
alike_passes form σ node view members b c n h p =
    let enough = members_enough form σ node b n p.kinds_pass p.shards_pass p.sequence_passes p.complete_passes in
    record {
      kinds_pass = sym (all_cong n (kind_at form b) (kind_at form c) (kind_same b c n h form)) ∙ p.kinds_pass;
      shards_pass = sym (all_cong n (shard_at σ b) (shard_at σ c) (shard_same b c n h σ)) ∙ p.shards_pass;
      sequence_passes = sym (all_cong n (sequence_at node b) (sequence_at node c) (sequence_same b c n h node)) ∙ p.sequence_passes;
      complete_passes = sym (complete_same b c n h form σ node) ∙ p.complete_passes;
      masks-pass = sym (row10_same σ members (members_of b) (members_of c) (λ s l. word1_same b c n h s (omega arith))) ∙ p.masks-pass;
      positions-pass =
          sym (all_cong n (row11_at form view members b) (row11_at form view members c) (position_same b c n h form view members))
          ∙ p.positions-pass;
    }

pub tidy_alike : (c : Contents) → c.len ≤ 127 → SameRecords c.body (tidy c).body c.len
unfolding tidy
tidy_alike c few k l =
    sym (get_d_tabulate 381 (λ j. cond (ltb j (3 * c.len)) (get_or c.body j 0) 0) k 0 (omega arith) ∙ rw (lt-ltb k (3 * c.len) l))

-- T1: contents that the writer takes are read back from a message of r records, of which theirs are the first
pub written_reads : (form : Form) (σ : List ℕ) (c : Contents) (r : ℕ) → contents_refusal form σ c ≡ none → c.len + 1 ≤ r → r ≤ 128
    → ReadsAs form σ (message_of c (4 * r)) (tidy c)
written_reads form σ c r h enough fits =
    let p = contents_given form σ c h in
    let few = contents_few form σ c h in
    record {
      taken =
          message_none form σ (message_of c (4 * r))
          (record {
            words_pass = written_row5 c r enough few fits;
            head_passes = rw (written_node c r enough, written_view c r enough, written_members c r enough) p.head_passes;
            chain_passes = written_row8 c r enough few;
            records_pass =
                rw
                (written_node c r enough, written_view c r enough, written_members c r enough, written_following c r enough few, written_body c r enough few)
                (alike_passes form σ c.node.0 c.view.0 c.members c.body (tidy c).body c.len (tidy_alike c few) p.records_pass);
          });
      found = written_contents c r enough few;
    }

-- T2: the contents of a message that the reader takes are taken by the writer
pub read_writes : (form : Form) (σ w : List ℕ) → message_refusal form σ w ≡ none → contents_refusal form σ (contents_of w) ≡ none
unfolding contents_of
read_writes form σ w h =
    let p = message_given form σ w h in
    contents_none form σ (contents_of w)
    (record {
      words_pass = le-leb (following w) 127 (following_le w);
      head_passes = p.head_passes;
      records_pass = p.records_pass;
    })

-- the reader gives zeros past the records
pub read_tidy : (w : List ℕ) → tidy (contents_of w) ≡ contents_of w
unfolding tidy contents_of body_of body_word
read_tidy w =
    rw (tabulate_cong 381 (λ k. cond (ltb k (3 * following w)) (get_or (body_of w) k 0) 0) (body_word w) (λ k l.
    rw (get_d_tabulate 381 (body_word w) k 0 l) (twice (ltb k (3 * following w)) (get_or w (4 * place w (k / 3 + 1) + k % 3) 0))))
  where
    twice : (t : Bool) (x : ℕ) → cond t (cond t x 0) 0 ≡ cond t x 0
    twice true x = refl
    twice false x = refl
