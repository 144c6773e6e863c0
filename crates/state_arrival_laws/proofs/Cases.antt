-- Orders of a few reports to the fresh state: two that the theorem speaks of, one that is refused though they are not, and what goes
-- wrong where a node reports twice or a report is left out.
use Rattle.std.specs.Prelude.{ℕ, ◌<◌, Bool, true, ◌≡◌, refl, length, get_or}
use Rattle.std.proofs.Common.{arith, ⊎_elim, sym, ◌∙◌, subst, eqb-true, eq-eqb}
use mathlib.Core.List.{List, [], ◌∷◌}
use Rattle.std.proofs.Math.Path.{ap, ap₂, subst⁻¹}
use Rattle.std.proofs.lemmas.List.{length-replicate}
use Rattle.base_laws.specs.Definitions.{all_below, any_below, lowest, tabulate, padded}
use Rattle.base_laws.specs.Tables.{get_or_padded}
use Rattle.settings_values.specs.Definitions.{cap, sizes_ok, nodes_ok, shard_ok, shards_ok, settings_ok}
use Rattle.base_ids.specs.declared.Refusal.{Refusal}
use Rattle.base_ids.specs.Definitions.{none, refused, accepted, unless, unless_at, first_of}
use Rattle.message_format.specs.Definitions.{place, following, row5, row8, precedes, shards_where, row6, view_ok, row7, kind_ok, plain, kind_at, shard_at, surplus, sequence_at, complete, shard_apart, row10_at, row10, is_position, view_fits, legal, row11_at, body_word, body_of, contents_of, records_refusal, head_refusal, message_refusal}
use Rattle.report_views.specs.Definitions.{slot, same_view, row12, same_termination, row13, is_gathering}
use Rattle.report_rows.specs.Definitions.{no_latest, row18, noted}
use Rattle.report_kept.specs.Definitions.{kept_refusal, refusal_beside, layout_of, termination_of, renewed}
use Rattle.report_desk.specs.Definitions.{desk_with}
use Rattle.state_planner.specs.declared.State.{State}
use Rattle.state_planner.specs.declared.Outcome.{Outcome}
use Rattle.state_planner.specs.Definitions.{fresh, keeping, report_refusal, after_report, reported, desk_after}
use Rattle.state_planner.specs.EventLaws.{outcome_refused}
use Rattle.state_laws.specs.Desks.{slot_own}
use Rattle.state_laws.specs.Reached as reached
use Rattle.state_laws.specs.Reached.{Reached, reached_desk}
use Rattle.state_laws.proofs.Reached.{reached_entry}
use Rattle.state_arrival_laws.specs.Arrivals as arrivals
use Rattle.state_arrival_laws.specs.Arrivals.{AllTaken, sender, OneOf, Distinct, SameMessages}
use Rattle.state_arrival_laws.specs.Messages.{not_none, head_or}
use Rattle.state_arrival_laws.specs.Steps.{state_next, desk_next}
use Rattle.state_arrival_laws.proofs.Harmless.{arrival_harmless}
use Rattle.state_arrival_laws.specs.Cases.{three_nodes, report0, report0_again, report1, report2, bare_desk, AcceptedInTurn, after_two, ArrivalClauses, state_with, refusal_after, BesideClauses}

-- ---- a report that is accepted beside what is kept is accepted

module _ {x : State} {d : List ℕ} (r : Reached three_nodes x d) (g : is_gathering x.phase ≡ true) (w : List ℕ) where
  beside_alone : report_refusal three_nodes x d w ≡ refusal_beside three_nodes x.kept x.termination x.latest w
  unfolding report_refusal unless first_of
  beside_alone =
      ap (λ (k : Refusal). first_of k (refusal_beside three_nodes x.kept x.termination x.latest w))
      (reached_entry three_nodes x d r (is_gathering x.phase) ∙ ap (λ (b : Bool). unless b 4 none) g)

-- one more report
module _ (x : State) (d w : List ℕ) (h : report_refusal three_nodes x d w ≡ none) where
  one_more : {ws : List (List ℕ)} {y : State} {e : List ℕ} → AllTaken three_nodes (after_report three_nodes x (contents_of w)) (desk_with d (sender w) w) ws y e
      → AllTaken three_nodes x d (w ∷ ws) y e
  one_more {ws} {y} {e} all =
      arrivals.taking x d w ws y e h
      (subst⁻¹ (λ (z : State). AllTaken three_nodes z (desk_after three_nodes x d w) ws y e) (state_next three_nodes x d w h)
      (subst⁻¹ (λ (f : List ℕ). AllTaken three_nodes (after_report three_nodes x (contents_of w)) f ws y e) (desk_next three_nodes x d w h) all))

abbrev desk_on : List ℕ → List ℕ → List ℕ
desk_on w d = desk_with d (sender w) w

gathers : (w : List ℕ) (x : State) → is_gathering x.phase ≡ true → is_gathering (state_with w x).phase ≡ true
unfolding after_report keeping
gathers w x g = g

at-start : Reached three_nodes fresh bare_desk
unfolding sizes_ok nodes_ok cap shard_ok shards_ok settings_ok all_below
at-start = reached.starting bare_desk refl (eq-eqb (length bare_desk) 16384 (length-replicate {A = ℕ} 16384 0))

start_gathers : is_gathering fresh.phase ≡ true
unfolding fresh
start_gathers = refl

beside : BesideClauses
unfolding all_below any_below lowest tabulate unless unless_at first_of place following row5 row8 precedes shards_where row6 view_ok row7 kind_ok plain kind_at shard_at surplus sequence_at complete shard_apart row10_at row10 is_position view_fits legal row11_at body_word body_of contents_of records_refusal head_refusal message_refusal same_view row12 same_termination row13 no_latest row18 noted kept_refusal refusal_beside layout_of termination_of renewed fresh keeping after_report
beside =
    record {
      first0 = refl;
      first1 = refl;
      first-again = refl;
      after0 = refl;
      after1 = refl;
      last1 = refl;
      last0 = refl;
      masks_differ = refl;
      masks_differ_turned = refl;
      again = refl;
      back-again = refl;
    }

-- ---- the orders

module _ (w u : List ℕ) (h : refusal_after fresh w ≡ none) (k : refusal_after (state_with w fresh) u ≡ none) where
  first_taken : report_refusal three_nodes fresh bare_desk w ≡ none
  first_taken = beside_alone at-start start_gathers w ∙ h

  after_one : Reached three_nodes (state_with w fresh) (desk_on w bare_desk)
  after_one = reached.reporting fresh bare_desk w at-start first_taken

  second_taken : report_refusal three_nodes (state_with w fresh) (desk_on w bare_desk) u ≡ none
  second_taken = beside_alone after_one (gathers w fresh start_gathers) u ∙ k

  after-two : Reached three_nodes (state_with u (state_with w fresh)) (desk_on u (desk_on w bare_desk))
  after-two = reached.reporting (state_with w fresh) (desk_on w bare_desk) u after_one second_taken

  two : AcceptedInTurn (w ∷ u ∷ [])
  two =
      record {
        state = state_with u (state_with w fresh);
        desk = desk_on u (desk_on w bare_desk);
        all = one_more fresh bare_desk w first_taken (one_more (state_with w fresh) (desk_on w bare_desk) u second_taken (arrivals.none_left _ _));
      }

  -- the second stands in its node's slot
  last_stands : sender u < 32 → slot (desk_on u (desk_on w bare_desk)) (sender u) ≡ padded 512 u
  last_stands l = slot_own (desk_on w bare_desk) u (sender u) (eqb-true (length (desk_on w bare_desk)) 16384 (reached_desk three_nodes after_one)) l

  module _ (v : List ℕ) (m : refusal_after (state_with u (state_with w fresh)) v ≡ none) where
    third_taken : report_refusal three_nodes (state_with u (state_with w fresh)) (desk_on u (desk_on w bare_desk)) v ≡ none
    third_taken = beside_alone after-two (gathers u (state_with w fresh) (gathers w fresh start_gathers)) v ∙ m

    three : AcceptedInTurn (w ∷ u ∷ v ∷ [])
    three =
        record {
          state = state_with v (state_with u (state_with w fresh));
          desk = desk_on v (desk_on u (desk_on w bare_desk));
          all =
              one_more fresh bare_desk w first_taken
              (one_more (state_with w fresh) (desk_on w bare_desk) u second_taken
              (one_more (state_with u (state_with w fresh)) (desk_on u (desk_on w bare_desk)) v third_taken (arrivals.none_left _ _)));
        }

-- the second of two is refused
module _ (w u : List ℕ) (h : refusal_after fresh w ≡ none) (k : refusal_after (state_with w fresh) u ≡ refused 12) where
  taken_one : report_refusal three_nodes fresh bare_desk w ≡ none
  taken_one = beside_alone at-start start_gathers w ∙ h

  refused_two : report_refusal three_nodes (state_with w fresh) (desk_on w bare_desk) u ≡ refused 12
  refused_two = beside_alone (reached.reporting fresh bare_desk w at-start taken_one) (gathers w fresh start_gathers) u ∙ k

  -- and leaves the state
  left_out : after_two w u ≡ state_with w fresh
  unfolding after_two reported
  left_out =
      ap₂ (λ (z : State) (f : List ℕ). (reported three_nodes z f u).state) (state_next three_nodes fresh bare_desk w taken_one) (desk_next three_nodes fresh bare_desk w taken_one)
      ∙ ap (λ (o : Outcome). o.state)
      (outcome_refused (report_refusal three_nodes (state_with w fresh) (desk_on w bare_desk) u) (state_with w fresh) (state_with u (state_with w fresh)) (ap accepted refused_two))

  second_refused : {ws : List (List ℕ)} {y : State} {e : List ℕ} → AllTaken three_nodes fresh bare_desk (w ∷ u ∷ ws) y e → ⊥
  second_refused (arrivals.taking _ _ _ _ _ _ _ (arrivals.taking _ _ _ _ _ _ g r)) =
      let here : report_refusal three_nodes (state_with w fresh) (desk_on w bare_desk) u ≡ none
      = subst (λ (z : State). report_refusal three_nodes z (desk_on w bare_desk) u ≡ none) (state_next three_nodes fresh bare_desk w taken_one)
      (subst (λ (f : List ℕ). report_refusal three_nodes (reported three_nodes fresh bare_desk w).state f u ≡ none) (desk_next three_nodes fresh bare_desk w taken_one) g) in
      let code : ◌≡◌ {A = ℕ} 12 0 = ap (λ (z : Refusal). z.code) (sym refused_two ∙ here) in
      omega arith

-- ---- the three messages are of three nodes, and the same when turned round

of_three : (P : List ℕ → Type 0) {a b c w : List ℕ} → P a → P b → P c → OneOf w (a ∷ b ∷ c ∷ []) → P w
of_three P {a} {b} {c} {w} x y z m =
    ⊎_elim (λ e. subst⁻¹ P e x)
    (λ n. ⊎_elim (λ e. subst⁻¹ P e y) (λ o. ⊎_elim (λ e. subst⁻¹ P e z) (λ q. absurd (not_none w q)) (head_or w c [] o)) (head_or w b (c ∷ []) n))
    (head_or w a (b ∷ c ∷ []) m)

turned_in : (a b c w : List ℕ) → OneOf w (a ∷ b ∷ c ∷ []) → OneOf w (c ∷ b ∷ a ∷ [])
turned_in a b c w =
    of_three (λ (v : List ℕ). OneOf v (c ∷ b ∷ a ∷ [])) (arrivals.later c (b ∷ a ∷ []) (arrivals.later b (a ∷ []) (arrivals.first [])))
    (arrivals.later c (b ∷ a ∷ []) (arrivals.first (a ∷ []))) (arrivals.first (b ∷ a ∷ []))

turned : SameMessages (report0 ∷ report2 ∷ report1 ∷ []) (report1 ∷ report2 ∷ report0 ∷ [])
turned = record { forth = turned_in report0 report2 report1; back = turned_in report1 report2 report0 }

distinct : Distinct (report0 ∷ report2 ∷ report1 ∷ [])
distinct =
    arrivals.another report0 (report2 ∷ report1 ∷ []) (λ u m e. not_zero u m e)
    (arrivals.another report2 (report1 ∷ []) (λ u m e. not_two u m e) (arrivals.another report1 [] (λ u m e. not_none u m) arrivals.nobody))
  where
    not_two : (u : List ℕ) → OneOf u (report1 ∷ []) → sender u ≡ 2 → ⊥
    not_two u m e =
        ⊎_elim (λ q. let z : ◌≡◌ {A = ℕ} 2 1 = sym e ∙ ap sender q in omega arith) (λ n. not_none u n) (head_or u report1 [] m)

    not_zero : (u : List ℕ) → OneOf u (report2 ∷ report1 ∷ []) → sender u ≡ 0 → ⊥
    not_zero u m e =
        ⊎_elim (λ q. let z : ◌≡◌ {A = ℕ} 0 2 = sym e ∙ ap sender q in omega arith)
        (λ n. ⊎_elim (λ q. let z : ◌≡◌ {A = ℕ} 0 1 = sym e ∙ ap sender q in omega arith) (λ k. not_none u k) (head_or u report1 [] n))
        (head_or u report2 (report1 ∷ []) m)

-- ---- differences

-- desks whose slots of node 0 differ
other_desk : (d e : List ℕ) → slot d 0 ≡ padded 512 report0_again → slot e 0 ≡ padded 512 report0 → d ≡ e → ⊥
other_desk d e p q same =
    let word : get_or (padded 512 report0_again) 7 0 ≡ get_or (padded 512 report0) 7 0
    = ap (λ (s : List ℕ). get_or s 7 0) (sym p ∙ (ap (λ (l : List ℕ). slot l 0) same ∙ q)) in
    let differ : ◌≡◌ {A = ℕ} 2 0 = sym (get_or_padded 512 report0_again 7 (omega arith)) ∙ (word ∙ get_or_padded 512 report0 7 (omega arith)) in
    omega arith

held_differs : state_with report1 (state_with report2 (state_with report0 fresh)) ≡ state_with report2 (state_with report0 fresh) → ⊥
unfolding fresh after_report keeping contents_of
held_differs same = let nodes : ◌≡◌ {A = ℕ} 7 5 = ap (λ (x : State). x.held) same in omega arith

first_differs : state_with report0 fresh ≡ state_with report1 fresh → ⊥
unfolding fresh after_report keeping contents_of
first_differs same = let nodes : ◌≡◌ {A = ℕ} 1 2 = ap (λ (x : State). x.held) same in omega arith

pub arrival_clauses : ArrivalClauses
unfolding two three
arrival_clauses =
    record {
      one_order = three report0 report2 beside.first0 beside.after0 report1 beside.last1;
      other_order = three report1 report2 beside.first1 beside.after1 report0 beside.last0;
      same_end = arrival_harmless distinct turned
          (three report0 report2 beside.first0 beside.after0 report1 beside.last1).all
          (three report1 report2 beside.first1 beside.after1 report0 beside.last0).all;
      refused_order = second_refused report0 report1 beside.first0 beside.masks_differ;
      refused_differs = λ e.
          first_differs
          (sym (left_out report0 report1 beside.first0 beside.masks_differ)
          ∙ (e ∙ left_out report1 report0 beside.first1 beside.masks_differ_turned));
      twice = two report0 report0_again beside.first0 beside.again;
      twice_turned = two report0_again report0 beside.first-again beside.back-again;
      twice_differs =
          other_desk _ _ (last_stands report0 report0_again beside.first0 beside.again (omega arith))
          (last_stands report0_again report0 beside.first-again beside.back-again (omega arith));
      fewer = two report0 report2 beside.first0 beside.after0;
      fewer_differs = held_differs;
    }
