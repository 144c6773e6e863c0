-- Document 01's runs as the program prints them: bytes in and text out. The cases are those of history_cases/Cases; this table adds that
-- whatever text the definitions allow for the input is the one that document 01 gives. A text is the list of its bytes. G and H are
-- cuts, which the program does not print.
use Rattle.std.specs.Prelude.{ℕ, true, List, [], ◌∷◌, ◌++◌, ◌≡◌, refl, get_or}
use Rattle.std.proofs.Common.{ap, ap₂, ◌∙◌, subst, arith}
use Rattle.std.specs.Int.Count.{ones, ones_in}
use Rattle.base_laws.specs.Definitions.{all_below, any_below, lowest, pair_not_after, tabulate, padded}
use Rattle.base_ids.specs.declared.Node.{Node}
use Rattle.base_ids.specs.declared.Position.{Position}
use Rattle.message_format.specs.Definitions.{place, following, body_word, body_of, contents_of}
use Rattle.report_views.specs.declared.Plan.{Plan}
use Rattle.report_views.specs.declared.Reason.{Reason}
use Rattle.report_views.specs.declared.Reason.TheVariants.{NoView, NoMajority, TooFew, NoHolder, NoPlacement}
use Rattle.report_views.specs.declared.Quorum.TheVariants.{Short}
use Rattle.report_views.specs.Definitions.{pos, start, end_of, reaches, holds, has_update, slot, report_of, mask_at, node_at, holder_at, target_at, candidate, greatest, best, target, able, holder, majority, first_unheld, quorum_of, number_of, value_of, no_termination}
use Rattle.report_desk.specs.Definitions.{desk_with}
use Rattle.history_cases.specs.Runs.{case_settings, settings_with, desk, view7, six_members}
use Rattle.history_cases.proofs.Cases.{cases}
use Rattle.state_planner.specs.declared.State.{State}
use Rattle.state_planner.specs.declared.Decision.{Decision}
use Rattle.state_planner.specs.declared.Decided.{Decided}
use Rattle.state_planner.specs.Definitions.{fresh, planned, still, Decides}
use Rattle.state_cases.specs.Start.{gathered}
use Rattle.state_cases.specs.PlanA.{PlanOfA as PlanA}
use Rattle.state_cases.specs.Table.{table as decided}
use Rattle.program_blocks.specs.Inputs.{input_of, fits_count, all_fit, blocks_input}
use Rattle.program_text.specs.Definitions.{digits_by, decimal, field, line}
use Rattle.program_lines.specs.Definitions.{member, members_below, view_label, moves_label, wait_for, wait_line, shard_line, shard_lines, plan_lines, decision_text}
use Rattle.program_lines.specs.Lines.{carriers, shard_text, shard-text}
use Rattle.program_run.specs.Definitions.{Progress, Underway, at_start, after, Prints, Printed}
use Rattle.program_run_laws.specs.Accepted.{desk_of}
use Rattle.program_cases.specs.Reports.{first_three, first_five, all_six, three_of_six, empty_desk, leads_a, leads_b, leads_c, leads_d, leads_e, leads_f, leads_i, taken}

-- view 8
abbrev pub view_8 : List ℕ
view_8 =
    118 ∷ 105 ∷ 101 ∷ 119 ∷ 32 ∷ 56 ∷ 10 ∷ []

-- moves 2
abbrev pub moves_2 : List ℕ
moves_2 =
    109 ∷ 111 ∷ 118 ∷ 101 ∷ 115 ∷ 32 ∷ 50 ∷ 10 ∷ []

-- shard 0 holder 0 target 0 0 members 0 2
abbrev pub shard_0 : List ℕ
shard_0 =
    115 ∷ 104 ∷ 97 ∷ 114 ∷ 100 ∷ 32 ∷ 48 ∷ 32 ∷ 104 ∷ 111 ∷ 108 ∷ 100 ∷ 101 ∷ 114 ∷ 32 ∷ 48 ∷ 32 ∷ 116 ∷ 97 ∷ 114 ∷
    103 ∷ 101 ∷ 116 ∷ 32 ∷ 48 ∷ 32 ∷ 48 ∷ 32 ∷ 109 ∷ 101 ∷ 109 ∷ 98 ∷ 101 ∷ 114 ∷ 115 ∷ 32 ∷ 48 ∷ 32 ∷ 50 ∷ 10 ∷ []

-- shard 1 holder 1 target 7 5 members 1 4 5
abbrev pub shard_1 : List ℕ
shard_1 =
    115 ∷ 104 ∷ 97 ∷ 114 ∷ 100 ∷ 32 ∷ 49 ∷ 32 ∷ 104 ∷ 111 ∷ 108 ∷ 100 ∷ 101 ∷ 114 ∷ 32 ∷ 49 ∷ 32 ∷ 116 ∷ 97 ∷ 114 ∷
    103 ∷ 101 ∷ 116 ∷ 32 ∷ 55 ∷ 32 ∷ 53 ∷ 32 ∷ 109 ∷ 101 ∷ 109 ∷ 98 ∷ 101 ∷ 114 ∷ 115 ∷ 32 ∷ 49 ∷ 32 ∷ 52 ∷ 32 ∷ 53 ∷
    10 ∷ []

-- shard 2 holder 5 target 0 0 members 3
abbrev pub shard_2 : List ℕ
shard_2 =
    115 ∷ 104 ∷ 97 ∷ 114 ∷ 100 ∷ 32 ∷ 50 ∷ 32 ∷ 104 ∷ 111 ∷ 108 ∷ 100 ∷ 101 ∷ 114 ∷ 32 ∷ 53 ∷ 32 ∷ 116 ∷ 97 ∷ 114 ∷
    103 ∷ 101 ∷ 116 ∷ 32 ∷ 48 ∷ 32 ∷ 48 ∷ 32 ∷ 109 ∷ 101 ∷ 109 ∷ 98 ∷ 101 ∷ 114 ∷ 115 ∷ 32 ∷ 51 ∷ 10 ∷ []

-- wait 1
abbrev pub wait_1 : List ℕ
wait_1 = 119 ∷ 97 ∷ 105 ∷ 116 ∷ 32 ∷ 49 ∷ 10 ∷ []

-- wait 2
abbrev pub wait_2 : List ℕ
wait_2 = 119 ∷ 97 ∷ 105 ∷ 116 ∷ 32 ∷ 50 ∷ 10 ∷ []

-- wait 3
abbrev pub wait_3 : List ℕ
wait_3 = 119 ∷ 97 ∷ 105 ∷ 116 ∷ 32 ∷ 51 ∷ 10 ∷ []

-- wait 4 2
abbrev pub wait_4_2 : List ℕ
wait_4_2 = 119 ∷ 97 ∷ 105 ∷ 116 ∷ 32 ∷ 52 ∷ 32 ∷ 50 ∷ 10 ∷ []

-- wait 5 0
abbrev pub wait_5_0 : List ℕ
wait_5_0 = 119 ∷ 97 ∷ 105 ∷ 116 ∷ 32 ∷ 53 ∷ 32 ∷ 48 ∷ 10 ∷ []

-- the text of case A
unfoldable pub plan-text : List ℕ
plan-text = view_8 ++ (moves_2 ++ (shard_0 ++ (shard_1 ++ shard_2)))

-- whatever is printed for the blocks is this text
abbrev pub Always : List (List ℕ) → List ℕ → Type 0
Always blocks given = (text : List ℕ) → Printed (input_of blocks) text → text ≡ given

pub record PrintedTable : Type 0 where
  -- A: nodes 0 to 5 report
  pub a : Always (case_settings ∷ all_six) plan-text
  -- B: only 3 of the 7 held
  pub b : Always (case_settings ∷ first_three []) wait_2
  -- C: 3 of 6 members
  pub c : Always (case_settings ∷ three_of_six []) wait_2
  -- D: no report
  pub d : Always (case_settings ∷ []) wait_1
  -- E: least size 7, six held
  pub e : Always (settings_with 7 2 ∷ all_six) wait_3
  -- F: A with node 5 absent
  pub f : Always (case_settings ∷ first_five []) wait_4_2
  -- I: A with shard 0 needing 3
  pub i : Always (settings_with 4 3 ∷ all_six) wait_5_0

-- ---- from what the blocks lead to

-- where decide can only wait for a reason, its line is printed
waits : (σ : List ℕ) (x : State) (d : List ℕ) (reason : Reason) → ((r : Decided) → Decides σ x d r → r ≡ still x (Decision.Wait reason))
    → (text : List ℕ) → Prints (Underway σ x d) text → text ≡ wait_line reason
unfolding Prints decision_text
waits σ x d reason w text p =
    p.says ∙ ap (λ (r : Decided). decision_text σ r.decision r.state.plan) (w p.decided p.decides)

-- the text printed for blocks
from : (blocks : List (List ℕ)) (p : Progress) (given : List ℕ) → all_fit blocks ≡ true → after at_start blocks ≡ p
    → ((text : List ℕ) → Prints p text → text ≡ given) → Always blocks given
unfolding Printed
from blocks p given h e k text t =
    k text (subst (λ (q : Progress). Prints q text) (ap (after at_start) (blocks_input blocks h) ∙ e) t)

-- ---- case A

shard_is : (p : Plan) (s h v k m : ℕ) → holder_at p s ≡ h → target_at p s ≡ pos v k → mask_at p.layout s ≡ m
    → shard_line p s ≡ shard_text s h (pos v k) m
shard_is p s h v k m a b c = shard-text p s ∙ rw (a, b, c)

text_0 : shard_text 0 0 (pos 0 0) 5 ≡ shard_0
unfolding shard_text carriers field decimal digits_by members_below member
text_0 = refl

text_1 : shard_text 1 1 (pos 7 5) 50 ≡ shard_1
unfolding shard_text carriers field decimal digits_by members_below member
text_1 = refl

text_2 : shard_text 2 5 (pos 0 0) 8 ≡ shard_2
unfolding shard_text carriers field decimal digits_by members_below member
text_2 = refl

plan_text : ℕ → ℕ → List ℕ → List ℕ → List ℕ → List ℕ
plan_text n m a b c = line view_label n ++ (line moves_label m ++ ([] ++ a ++ b ++ c))

whole : plan_text 8 2 shard_0 shard_1 shard_2 ≡ plan-text
unfolding plan_text line field decimal digits_by plan-text
whole = refl

plan_is : (p : Plan) → p.layout.number.0 ≡ 8 → p.total ≡ 2 → shard_line p 0 ≡ shard_0 → shard_line p 1 ≡ shard_1 → shard_line p 2 ≡ shard_2
    → plan_lines p 3 ≡ plan-text
unfolding plan_lines shard_lines plan_text
plan_is p v m a b c =
    ap₂ (λ (x y : ℕ). plan_text x y (shard_line p 0) (shard_line p 1) (shard_line p 2)) v m
    ∙ ap₂ (λ (x y : List ℕ). plan_text 8 2 x y (shard_line p 2)) a b
    ∙ ap (plan_text 8 2 shard_0 shard_1) c
    ∙ whole

a_plan : (r : Decided) → PlanA r → decision_text case_settings r.decision r.state.plan ≡ plan-text
unfolding decision_text planned
a_plan r w =
    let p = w.plan in
    let h = w.holders in
    let t = w.targets in
    ap (λ (x : Decided). decision_text case_settings x.decision x.state.plan) w.given
    ∙ plan_is p w.view w.moves
    (shard_is p 0 0 0 0 5 (holder-at h 0) (target-at t 0) w.shard0 ∙ text_0)
    (shard_is p 1 1 7 5 50 (holder-at h 1) (target-at t 1) w.shard1 ∙ text_1)
    (shard_is p 2 5 0 0 8 (holder-at h 2) (target-at t 2) w.shard2 ∙ text_2)
  where
    holder-at : {l m : List Node} → l ≡ m → (s : ℕ) → node_at l s ≡ node_at m s
    holder-at e s = ap (λ (x : List Node). node_at x s) e

    target-at : {l m : List Position} → l ≡ m → (s : ℕ) → get_or l s start ≡ get_or m s start
    target-at e s = ap (λ (x : List Position). get_or x s start) e

a_text : (text : List ℕ) → Prints (Underway case_settings (gathered view7 63) desk) text → text ≡ plan-text
unfolding Prints
a_text text p = p.says ∙ a_plan p.decided (decided.a p.decided p.decides)

-- ---- the waits

b_short : quorum_of case_settings view7 no_termination 7 (desk_of empty_desk (first_three [])) ≡ Short NoMajority
unfolding ones ones_in
b_short = cases.b 7 (omega arith) refl (desk_of empty_desk (first_three []))

c_short : quorum_of case_settings six_members no_termination 7 (desk_of empty_desk (three_of_six [])) ≡ Short NoMajority
unfolding ones ones_in majority quorum_of
c_short = refl

d_short : quorum_of case_settings fresh.kept fresh.termination fresh.held (desk_of empty_desk []) ≡ Short NoView
unfolding fresh quorum_of
d_short = refl

f_short : quorum_of case_settings view7 no_termination 31 (desk_of empty_desk (first_five [])) ≡ Short (NoHolder (record { 0 = 2 }))
unfolding desk_of desk_with padded ones ones_in all_below any_below lowest tabulate pair_not_after place following body_word body_of contents_of end_of reaches holds has_update slot report_of candidate greatest best target able holder majority first_unheld quorum_of
f_short = refl

pub table : PrintedTable
unfolding input_of fits_count all_fit all_below wait_line wait_for number_of value_of line field decimal digits_by
table =
    record {
      a = from (case_settings ∷ all_six) _ plan-text refl leads_a a_text;
      b = from (case_settings ∷ first_three []) _ wait_2 refl leads_b (waits _ _ _ NoMajority (λ r w. w.waits taken.b NoMajority b_short));
      c = from (case_settings ∷ three_of_six []) _ wait_2 refl leads_c (waits _ _ _ NoMajority (λ r w. w.waits taken.c NoMajority c_short));
      d = from (case_settings ∷ []) _ wait_1 refl leads_d (waits _ _ _ NoView (λ r w. w.waits taken.d NoView d_short));
      e = from (settings_with 7 2 ∷ all_six) _ wait_3 refl leads_e (waits _ _ _ TooFew decided.e);
      f =
          from (case_settings ∷ first_five []) _ wait_4_2 refl leads_f
          (waits _ _ _ (NoHolder (record { 0 = 2 })) (λ r w. w.waits taken.f (NoHolder (record { 0 = 2 })) f_short));
      i = from (settings_with 4 3 ∷ all_six) _ wait_5_0 refl leads_i (waits _ _ _ (NoPlacement 0) decided.i);
    }
