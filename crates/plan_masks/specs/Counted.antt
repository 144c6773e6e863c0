-- What is counted, as the value that definitions speak of.
use Rattle.std.specs.Prelude.{ℕ, true, false, List, ◌≡◌, refl, Option, Some, None, IsSome}
use Rattle.std.proofs.Common.{sym}
use Rattle.base_laws.specs.Bools.{clash}
use Rattle.report_views.specs.Definitions.{slots_ok}
use Rattle.report_views.specs.declared.Layout.{Layout}
use Rattle.report_views.specs.declared.Termination.{Termination}
use Rattle.plan_masks.specs.declared.HolderMasks.{HolderMasks}
use Rattle.plan_masks.specs.Counting.{none_counted, counted_of, counted_ok}

-- the masks, or nothing
abbrev pub counted_from : Option (List ℕ) → HolderMasks
counted_from (Some masks) = record { ok = true; masks = masks }
counted_from None = none_counted

module _ (σ : List ℕ) (v : Layout) (t : Termination) (all : ℕ) (d : List ℕ) where
  -- where nothing is counted a slot is not sound
  pub uncounted : counted_from None ≡ counted_of σ v t all d → slots_ok σ v t all d ≡ false
  unfolding none_counted
  uncounted e = sym (counted_ok σ v t all d none_counted e)

  -- where every slot is sound the masks are there
  pub counted_some : (o : Option (List ℕ)) → counted_from o ≡ counted_of σ v t all d → slots_ok σ v t all d ≡ true → IsSome o
  counted_some (Some masks) e h = refl
  counted_some None e h = clash h (uncounted e)
