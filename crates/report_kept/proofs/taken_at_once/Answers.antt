-- `report_kept::taken_at_once` meets its contract: a report of the kept view that row 18 takes. Assumes nothing.
use mathlib.Core.Bool.{true, false≢true}
use mathlib.Core.Path.{◌≡◌, sym, ◌∙◌, subst}
use native.Mathlib.Omega.{arith}
use lib.Dec.{leb}
use lib.ListN.{get_or}
use Rattle.base_ids.specs.declared.View.{View}
use Rattle.report_rows.specs.Definitions.{latest_at}
use Rattle.report_kept.specs.AtOnce.{taken_at_once}
use Rattle.report_kept.proofs.taken_at_once.Goals as goal

pub returns-then-n-lt4 : goal.returns-then-n-lt4
returns-then-n-lt4 c = λ e. absurd (false≢true e)

pub returns-then-n-gt512 : goal.returns-then-n-gt512
returns-then-n-gt512 c = λ e. absurd (false≢true e)

pub returns-then-n-ne0 : goal.returns-then-n-ne0
returns-then-n-ne0 c = λ e. absurd (false≢true e)

pub returns-then-message-ge32 : goal.returns-then-message-ge32
returns-then-message-ge32 c = λ e. absurd (false≢true e)

pub returns-then-message-number : goal.returns-then-message-number
returns-then-message-number c = λ e. absurd (false≢true e)

pub returns-then-not-of_kept : goal.returns-then-not-of_kept
returns-then-not-of_kept c = λ e. absurd (false≢true e)

pub row18-requires : goal.row18-requires
row18-requires c = omega (arith, c.if-message-ge32.false)

pub returns : goal.returns
returns c =
    let a = c.args in
    let o = c.of_kept in
    λ e σ v t right tables. record {
      some = omega (arith, c.if-n-lt4.false);
      stays = taken_at_once σ v t a.latest a.message.now (o.ensures c.if-not-of_kept.false σ v t right tables)
          (subst (λ (x : View). leb (latest_at a.latest (get_or a.message.now 0 0)) x.0 ≡ true) tables.number (sym c.row18.ensures ∙ e));
    }
