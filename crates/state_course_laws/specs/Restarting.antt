-- A sound state with a plan, whoever made the plan, is a restart over every history of which its reports are true.
use Rattle.std.specs.Prelude.{ℕ, ◌<◌, true, List, ◌≡◌, refl}
use Rattle.std.proofs.Common.{arith}
use Rattle.base_laws.specs.Definitions.{has}
use Rattle.base_laws.specs.Masks.{subset_has}
use Rattle.settings_values.specs.Definitions.{settings_ok, shards, subgroup}
use Rattle.settings_values.specs.Laws.{settings_give}
use Rattle.report_views.specs.declared.Phase.{Phase}
use Rattle.report_views.specs.declared.Phase.TheVariants.{Gathering, Ordered, Preparing, Committed}
use Rattle.report_views.specs.Definitions.{report_of, mask_at, plan_sound, plan_fits}
use Rattle.place_laws.specs.Cases.{of-group}
use Rattle.place_laws.specs.Shards.{shard_placed}
use Rattle.plan_restart.specs.Kept.{members-below}
use Rattle.plan_order_laws.specs.Sound.{SoundPlan, plan_given}
use Rattle.history_laws.specs.Definitions.{History, True}
use Rattle.history_course_laws.specs.Course.{Covers}
use Rattle.history_course_laws.specs.Ever.{Restart}
use Rattle.state_planner.specs.declared.State.{State}
use Rattle.state_planner.specs.Definitions.{sound}
use Rattle.state_planner.specs.Entry.{sound_given}

plan_there : (p : Phase) (σ : List ℕ) (x : State) (d : List ℕ) → (p ≡ Gathering → ⊥) → plan_fits p σ x.kept x.termination x.held d x.plan ≡ true
    → plan_sound σ x.kept x.termination x.held d x.plan ≡ true
unfolding plan_fits
plan_there Gathering σ x d g h = absurd (g refl)
plan_there Ordered σ x d g h = h
plan_there Preparing σ x d g h = h
plan_there Committed σ x d g h = h

pub restarting : (σ : List ℕ) (x : State) (d : List ℕ) (H : History) → settings_ok σ ≡ true → sound σ x d ≡ true → (x.phase ≡ Gathering → ⊥)
    → ((n : ℕ) → n < 32 → has x.held n ≡ true → True σ H (report_of d n)) → Covers σ x.termination H
    → Restart (shards σ) H
restarting σ x d H ok h phase reports ended =
    let right = settings_give σ ok in
    let s = sound_given σ x d h in
    let plan : SoundPlan σ x.kept x.termination x.held d x.plan =
    plan_given σ x.kept x.termination x.held d x.plan right (plan_there x.phase σ x d phase s.plan-fits) in
    record {
      σ = σ;
      same = refl;
      some = omega (arith, right.sizes.shards_from);
      v = x.kept;
      t = x.termination;
      held = x.held;
      d = d;
      w = x.plan.layout;
      few = right.sizes.shards_to;
      wide = members-below σ x.kept x.termination x.held right s.kept-sound;
      slots = s.slots-ok;
      met = plan.met;
      next =
          record {
            number = plan.number_next;
            members = plan.members_held;
            placed = λ i l n k m.
                let g : subgroup σ i < 4 = omega (arith, right.subgroup_to i l) in
                subset_has (mask_at x.plan.layout i) x.held
                (shard_placed σ x.held (mask_at x.plan.layout) (subgroup σ i) (plan.groups-valid (subgroup σ i) g) i (of-group σ (subgroup σ i) i l refl)).inside
                n m;
          };
      reports = reports;
      ended = ended;
    }
