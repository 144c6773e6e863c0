-- `message_contents::records_refusal` meets its contract: rows 9, 16 and 17, then row 10 over the table of masks, then row 11.
use Rattle.std.proofs.Common.{ap, sym, ◌∙◌}
use Rattle.std.specs.Prelude.{◌≡◌, refl, Bool, List, ℕ, get_or}
use Rattle.std.proofs.lemmas.Result.{err_from_is_err_and}
use Rattle.base_ids.specs.declared.Refusal.{Refusal}
use Rattle.base_ids.specs.Definitions.{or_refusal}
use Rattle.base_ids.specs.Results.{ok_is, err_is, ok_none}
use Rattle.settings_values.specs.Definitions.{shards, Settings}
use Rattle.message_format.specs.Definitions.{members_of, row10}
use Rattle.message_contents.specs.Gathered.{shard_masks}
use Rattle.message_contents.specs.Laws.{masks_row10}
use Rattle.message_contents.specs.Structure.{structure_first, records_10, records_11, records_pass}
use Rattle.message_contents.specs.Ways.{refused_first}
use Rattle.message_contents.proofs.records_refusal.Goals as goal

-- what row 10's code gives, over the table of masks that was gathered
masks_by : (σ : List ℕ) (members : ℕ) (b table : List ℕ) (r : Bool) → Settings σ → table ≡ shard_masks (shards σ) b
    → r ≡ row10 σ members (λ i. get_or table i 0) → row10 σ members (members_of b) ≡ r
masks_by σ members b table r g e f =
    sym (f ∙ ap (λ (t : List ℕ). row10 σ members (λ i. get_or t i 0)) e ∙ masks_row10 σ members b g)

pub returns-in_err-structure_refusal : goal.returns-in_err-structure_refusal
returns-in_err-structure_refusal c =
    let p = err_from_is_err_and c.from_residual.result c.from_residual.ensures.1 in
    rw (p.1, p.2)
    (refused_first _ _ _ _ _ c.in_err-structure_refusal.ensures
    ∙ ap (λ (r : Refusal). or_refusal r tt) (structure_first c.args.form c.args.settings.now _ c.args.c.now.view.0 _ _ _))

pub returns-then-not-row10 : goal.returns-then-not-row10
returns-then-not-row10 c =
    err_is _ _ _
    (records_10 _ _ _ _ _ _ _ (ok_none _ _ _ (c.in_ok-structure_refusal.ensures))
    (masks_by _ _ _ _ _ c.requires.settings c.masks_of-masks.ensures c.row10.ensures ∙ c.if-not-row10.true)) refl

pub returns-then-not-positions : goal.returns-then-not-positions
returns-then-not-positions c =
    err_is _ _ _
    (records_11 _ _ _ _ _ _ _ (ok_none _ _ _ (c.in_ok-structure_refusal.ensures))
    (masks_by _ _ _ _ _ c.requires.settings c.masks_of-masks.ensures c.row10.ensures ∙ c.if-not-row10.false)
    (sym c.positions.ensures ∙ c.if-not-positions.true)) refl

pub returns : goal.returns
returns c =
    ok_is _ _
    (sym (records_pass _ _ _ _ _ _ _ (ok_none _ _ _ (c.in_ok-structure_refusal.ensures))
    (masks_by _ _ _ _ _ c.requires.settings c.masks_of-masks.ensures c.row10.ensures ∙ c.if-not-row10.false)
    (sym c.positions.ensures ∙ c.if-not-positions.false)))
