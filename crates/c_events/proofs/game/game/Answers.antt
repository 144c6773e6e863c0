-- Each return is a case of what the call answers.
use Prim.Native.Nat.{ℕ}
use mathlib.Core.List.{List}
use mathlib.Core.Path.{sym, subst}
use native.Mathlib.Omega.{arith}
use Rattle.settings_values.specs.Definitions.{Settings}
use Rattle.settings_values.specs.Laws.{settings_give}
use Rattle.base_lent.specs.Definitions.{words_in}
use Rattle.state_game.specs.Definitions.{Plays}
use Rattle.c_state.specs.Definitions.{by_planner}
use Rattle.c_state.specs.CallLaws.{desk_passes, desk_long, settings_few, settings_long, settings_front}
use Rattle.c_events.specs.GameCases.{played_small, game_refused, game_played}
use Rattle.c_events.proofs.game.game.Goals as goal

pub returns-then-refusal-ne0 : goal.returns-then-refusal-ne0
returns-then-refusal-ne0 c =
    let a = c.args in
    game_refused a.role a.settings.now a.state.now a.desk.now a.held a.rounds _ c.enter_planner-entry.ensures c.if-refusal-ne0.true

pub slice_bounds-game_under-end : goal.slice_bounds-game_under-end
slice_bounds-game_under-end c =
    let e = c.enter_planner-entry.ensures in
    omega (arith, settings_few _ _ _ _ _ e, settings_long _ _ _ _ _ e)

pub game_under-played-requires : goal.game_under-played-requires
game_under-played-requires c =
    let a = c.args in
    let e = c.enter_planner-entry.ensures in
    let h = c.if-refusal-ne0.false in
    let p = desk_passes (by_planner a.role) a.settings.now a.state.now a.desk.now _ e h in record { settings = subst Settings (sym (settings_front _ _ _ _ _ e p.settings-ok)) (settings_give _ p.settings-ok); desk_len = desk_long (by_planner a.role) a.settings.now a.state.now a.desk.now _ e h }

pub played_word-requires : goal.played_word-requires
played_word-requires c =
    let a = c.args in
    played_small _ _ (words_in a.desk.now) a.held a.rounds c.game_under-played.result c.game_under-played.ensures

pub returns : goal.returns
returns c =
    let a = c.args in
    let e = c.enter_planner-entry in
    let h = c.if-refusal-ne0.false in
    let k = c.game_under-played in
    let p = desk_passes (by_planner a.role) a.settings.now a.state.now a.desk.now _ e.ensures h in
    game_played a.role a.settings.now a.state.now a.desk.now a.held a.rounds _ e.ensures h k.result
    (subst (λ (s : List ℕ). Plays s e.result.state (words_in a.desk.now) a.held a.rounds k.result)
    (settings_front _ _ _ _ _ e.ensures p.settings-ok) k.ensures)
    _ c.played_word.ensures
