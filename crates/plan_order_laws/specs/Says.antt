-- The order of a node says what its plan and the desk give: its records are those of the four parts.
use Rattle.std.specs.Prelude.{ℕ, ◌+◌, ◌*◌, ◌<◌, ◌≤◌, List, ◌≡◌, refl, get_or}
use Rattle.std.proofs.Common.{arith, ap, ◌∙◌}
use Rattle.settings_values.specs.Definitions.{shards}
use Rattle.report_views.specs.declared.Plan.{Plan}
use Rattle.report_views.specs.Definitions.{mask_at, holder_at, target_at}
use Rattle.base_sum_laws.specs.Ranks.{rank_rises}
use Rattle.plan_order.specs.Definitions.{carries, carried_below, own, cut_of, triple, order_record, order_len, order_body}
use Rattle.plan_order.specs.Recorded.{members_record, target_record, holder-record, cut-record, word-at}
use Rattle.plan_order_laws.specs.Parts.{OrderSays, RecordSays, BodySays}

-- what the order of node n says
abbrev pub saying : Plan → List ℕ → ℕ → OrderSays
saying p d n =
    record {
      members = mask_at p.layout;
      target = target_at p;
      holder = λ s. holder_at p s;
      cut = cut_of p d n;
    }

module _ (σ : List ℕ) (p : Plan) (d : List ℕ) (n : ℕ) (few : shards σ ≤ 16) where
  -- a record that is the one of kind k and shard s
  says : (j k s x y : ℕ) → j < order_len σ p n → ((part : ℕ) → order_record σ p d n j part ≡ triple (256 * k + s) x y part)
      → RecordSays (order_body σ p d n) j k s x y
  says j k s x y l h =
      let e : 3 * j ≡ 3 * j + 0 = omega arith in
      record {
        tagged = ap (λ (i : ℕ). get_or (order_body σ p d n) i 0) e ∙ word-at σ p d n few j 0 l (omega arith) ∙ h 0;
        first = word-at σ p d n few j 1 l (omega arith) ∙ h 1;
        second = word-at σ p d n few j 2 l (omega arith) ∙ h 2;
      }

  pub order-body : BodySays (shards σ) n (saying p d n) (order_body σ p d n) (order_len σ p n)
  order-body =
      record {
        few = few;
        count = refl;
        members-at = λ s l. says s 1 s _ _ (omega arith) (λ part. members_record σ p d n s part l);
        target-at = λ s l. says (shards σ + s) 2 s _ _ (omega arith) (λ part. target_record σ p d n s part l);
        holder-at = λ s l c. says (2 * shards σ + carried_below p n s) 4 s _ _ (omega (arith, rank_rises (carries p n) s (shards σ) l c))
            (λ part. holder-record σ p d n s part l c);
        cut_at = λ s l c. says (2 * shards σ + own σ p n + carried_below p n s) 5 s _ _
            (omega (arith, rank_rises (carries p n) s (shards σ) l c)) (λ part. cut-record σ p d n s part l c);
      }
