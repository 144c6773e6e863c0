-- The writer refuses contents by the word by which the reader would refuse the message that would stand in the buffer: the same
-- number, at the same record. The records stand one after another there, and the words past them are not looked at.
use Rattle.std.specs.Prelude.{ℕ, ◌+◌, ◌*◌, ◌≤◌, Bool, true, false, List, ◌≡◌, refl, leb}
use Rattle.std.proofs.Common.{le_refl, arith, ap₂, ◌∙◌, le-leb}
use Rattle.std.proofs.Math.Path.{sym}
use Rattle.base_laws.specs.Definitions.{all_below}
use Rattle.base_laws.specs.Below.{all_cong}
use Rattle.base_ids.specs.declared.Refusal.{Refusal}
use Rattle.base_ids.specs.Definitions.{unless, first_of}
use Rattle.base_ids.specs.Refusals.{unless_true, unless_at_true}
use Rattle.message_format.specs.declared.Form.{Form}
use Rattle.message_format.specs.declared.Contents.{Contents}
use Rattle.message_format.specs.Definitions.{place, row5, row8, members_of, kind_at, shard_at, sequence_at, complete, row10, row11_at, in_order, records_refusal, message_refusal, contents_refusal, message_length, message_of}
use Rattle.message_format.specs.Messages.{tidy}
use Rattle.message_format.specs.Laws.{members_enough}
use Rattle.message_format.specs.Alike.{SameRecords, word1_same, kind_same, shard_same, sequence_same, complete_same, position_same, row10_same}
use Rattle.message_inverse_laws.specs.Written.{written_place, written_node, written_view, written_members, written_following, written_row5, written_row8, written_body}
use Rattle.message_inverse_laws.specs.RoundTrip.{tidy_alike}
use Rattle.message_inverse_laws.specs.Stands.{same_at, same_first}

same_plain : (p q : Bool) (k : ℕ) (a b : Refusal) → p ≡ q → (q ≡ true → a ≡ b) → unless p k a ≡ unless q k b
unfolding unless
same_plain p true k a b e g = rw e (g refl)
same_plain p false k a b e g = rw e

-- records b, told in order, and records c that are alike, told where `at` says, which is in order as far as they go
module _ (at : ℕ → ℕ) (b c : List ℕ) (n : ℕ) (alike : SameRecords b c n) (straight : (j : ℕ) → j ≤ n → at j ≡ j) where
  pub records_same : (form : Form) (σ : List ℕ) (node view members : ℕ)
      → records_refusal at form σ node view members c n ≡ records_refusal in_order form σ node view members b n
  unfolding records_refusal
  records_same form σ node view members =
      (same_first at b c n alike straight) (kind_at form b) (kind_at form c) 9 _ _ (kind_same b c n alike form) (λ h9.
      sym ((same_first at b c n alike straight) (shard_at σ b) (shard_at σ c) 16 _ _ (shard_same b c n alike σ) (λ h16.
      sym ((same_first at b c n alike straight) (sequence_at node b) (sequence_at node c) 17 _ _ (sequence_same b c n alike node) (λ h17.
      sym (same_at (complete form σ node c n) (complete form σ node b n) 17 (at n) n _ _ (sym (complete_same b c n alike form σ node))
      (λ _. straight n (le_refl n)) (λ whole.
      same_plain (row10 σ members (members_of c)) (row10 σ members (members_of b)) 10 _ _
      (sym (row10_same σ members (members_of b) (members_of c) (λ s l.
      word1_same b c n alike s (omega (arith, members_enough form σ node b n h9 h16 h17 whole)))))
      (λ _.
      same_plain (all_below n (row11_at form view members c)) (all_below n (row11_at form view members b)) 11 _ _
      (sym (all_cong n (row11_at form view members b) (row11_at form view members c) (position_same b c n alike form view members)))
      (λ _. refl)))))))))

-- contents that fit a message are refused as the message is that would stand in the buffer
pub written_refused : (form : Form) (σ : List ℕ) (c : Contents) → c.len ≤ 127
    → message_refusal form σ (message_of c (message_length c)) ≡ contents_refusal form σ c
unfolding message_refusal contents_refusal
written_refused form σ c few =
    let r : ℕ = c.len + 1 in
    let enough = le_refl r in
    let w = message_of c (4 * r) in
    unless_true (row5 w) 5 _ (written_row5 c r enough few (omega arith))
    ∙ ap₂ first_of
    (rw (written_node c r enough, written_view c r enough, written_members c r enough) refl)
    (unless_at_true (row8 w) 8 _ _ (written_row8 c r enough few)
    ∙ rw
    (written_node c r enough, written_view c r enough, written_members c r enough, written_following c r enough few, written_body c r enough few)
    (records_same (place w) c.body (tidy c).body c.len (tidy_alike c few) (written_place c r enough) form σ _ _ _))
    ∙ sym (unless_true (leb c.len 127) 5 _ (le-leb c.len 127 few))
