-- An order that the planner writes is always accepted by the reader, and says what the plan and the desk give; a node that follows
-- it has the holder's log up to the target: from what the event answers and leaves alone.
use Rattle.std.specs.Prelude.{ℕ, ◌*◌, ◌<◌, Bool, true, false, cond, ◌≡◌, refl, ltb, take, get_or}
use mathlib.Core.List.{List, ◌++◌}
use Rattle.std.proofs.Common.{sym, ◌∙◌}
use Rattle.std.proofs.Math.Path.{ap, ap₂}
use Rattle.base_laws.specs.Tables.{get_d_tabulate, tabulate_cong}
use Rattle.base_ids.specs.Definitions.{none}
use Rattle.message_format.specs.declared.Form.TheVariants.{Order}
use Rattle.message_format.specs.declared.Writing.{Writing}
use Rattle.message_format.specs.Messages.{reading_of, writing_of, tidy}
use Rattle.settings_values.specs.Definitions.{shards}
use Rattle.report_views.specs.declared.Plan.{Plan}
use Rattle.report_views.specs.Definitions.{holder_at, target_at}
use Rattle.report_views.specs.Updates.{updates_at, up_to, kept_updates, fetched_updates}
use Rattle.plan_order.specs.Definitions.{cut_of, order_len, order_word, order_body, order_contents}
use Rattle.message_inverse_laws.specs.Calls.{read_as}
use Rattle.message_inverse_laws.proofs.Calls.{written_buffer, written_words}
use Rattle.state_planner.specs.declared.State.{State}
use Rattle.state_order.specs.Definitions.{ordered, order_buffer}
use Rattle.state_order.specs.Taken.{taken_restored, writer_takes, written_answer, written_leaves}

-- the words of an order past its records are zero
order_tidy : (σ : List ℕ) (p : Plan) (d : List ℕ) (n : ℕ) → tidy (order_contents σ p d n) ≡ order_contents σ p d n
unfolding tidy order_contents order_body
order_tidy σ p d n =
    let word : ℕ → ℕ = λ k. cond (ltb k (3 * order_len σ p n)) (order_word σ p d n k) 0 in
    rw (tabulate_cong 381 (λ k. cond (ltb k (3 * order_len σ p n)) (get_or (order_body σ p d n) k 0) 0) word (λ k l.
    rw (get_d_tabulate 381 word k 0 l) (twice (ltb k (3 * order_len σ p n)) (order_word σ p d n k))))
  where
    twice : (t : Bool) (a : ℕ) → cond t (cond t a 0) 0 ≡ cond t a 0
    twice true a = refl
    twice false a = refl

module _ (σ : List ℕ) (x : State) (d : List ℕ) (n : ℕ) (buffer : List ℕ) (h : (ordered σ x d n buffer).refusal ≡ none) where
  -- the lent words are read as the node's order
  pub order_reads : reading_of Order σ (order_buffer σ x d n buffer) ≡ read_as (order_contents σ x.plan d n)
  unfolding ordered writing_of
  order_reads =
      ap (reading_of Order σ) (sym (written_leaves σ x d n buffer h))
      ∙ written_buffer Order σ (order_contents σ x.plan d n) buffer (writer_takes σ x d n buffer h)
      ∙ ap read_as (order_tidy σ x.plan d n)

  -- and so are as many of them as the answer says
  pub order_words_read : reading_of Order σ (take (ordered σ x d n buffer).length (order_buffer σ x d n buffer))
      ≡ read_as (order_contents σ x.plan d n)
  unfolding ordered writing_of
  order_words_read =
      ap₂ (λ (k : ℕ) (w : List ℕ). reading_of Order σ (take k w)) (ap (λ (a : Writing). a.length) (sym (written_answer σ x d n buffer h)))
      (sym (written_leaves σ x d n buffer h))
      ∙ written_words Order σ (order_contents σ x.plan d n) buffer (writer_takes σ x d n buffer h)
      ∙ ap read_as (order_tidy σ x.plan d n)

  -- what the node keeps of its log by the order's cut, followed by what it fetches, is the holder's log up to the target
  pub order_restores : (s : ℕ) → s < shards σ
      → kept_updates (cut_of x.plan d n s) (updates_at d s n)
      ++ fetched_updates (cut_of x.plan d n s) (target_at x.plan s) (updates_at d s (holder_at x.plan s))
      ≡ up_to (target_at x.plan s) (updates_at d s (holder_at x.plan s))
  unfolding ordered
  order_restores = taken_restored σ x d n buffer h
