-- `state_rows::sound_parts::kept_sound` meets its contract: its parts are those of `Ready.kept_ready`. Assumes nothing.
use mathlib.Core.Path.{sym}
use Rattle.state_rows.specs.Ready.{kept_ready}
use Rattle.state_rows.proofs.sound_parts.kept_sound.Goals as goal

pub returns-then-not-tidy_or_none : goal.returns-then-not-tidy_or_none
returns-then-not-tidy_or_none c =
    let s = c in
    let a = s.args in
    let none = c.tidy_or_none in
    rw (kept_ready a.settings.now a.v a.t a.held s.requires.settings a.ready s.requires.ready_value, sym none.ensures, c.if-not-tidy_or_none.true)

pub returns-then-not-positions_tidy : goal.returns-then-not-positions_tidy
returns-then-not-positions_tidy c =
    let s = c in
    let a = s.args in
    let none = c.tidy_or_none in
    let rest = c.positions_tidy in
    rw (kept_ready a.settings.now a.v a.t a.held s.requires.settings a.ready s.requires.ready_value, sym none.ensures, c.if-not-tidy_or_none.false, sym rest.ensures, c.if-not-positions_tidy.true)

pub returns : goal.returns
returns c =
    let s = c in
    let a = s.args in
    let none = c.tidy_or_none in
    let rest = c.positions_tidy in
    rw (kept_ready a.settings.now a.v a.t a.held s.requires.settings a.ready s.requires.ready_value, sym none.ensures, c.if-not-tidy_or_none.false, sym rest.ensures, c.if-not-positions_tidy.false, sym c.nodes.ensures) c.within.ensures
