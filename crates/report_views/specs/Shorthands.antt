-- Shorthands of what is defined, for laws and proofs.
use Rattle.std.specs.Prelude.{ℕ, Bool, List, eqb, get_or}
use Rattle.base_laws.specs.Definitions.{all_below}
use Rattle.base_ids.specs.declared.Position.{Position}
use Rattle.report_views.specs.declared.Layout.{Layout}
use Rattle.report_views.specs.declared.Termination.{Termination}
use Rattle.report_views.specs.Definitions.{report_of, has_update, holder}

-- the view that node n reported
abbrev pub view_of : List ℕ → ℕ → ℕ
view_of d n = (report_of d n).view.0

-- node n's log of shard s has p
abbrev pub has_at : List ℕ → ℕ → Position → ℕ → Bool
has_at d s p n = has_update (report_of d n).body (report_of d n).len s p

-- shard s has no holder
abbrev pub unheld : Layout → Termination → ℕ → List ℕ → ℕ → Bool
unheld v t held d s = eqb (holder v t held d s) 32

-- the first n entries of a list are zero
abbrev pub all_zero : List ℕ → ℕ → Bool
all_zero l n = all_below n (λ i. eqb (get_or l i 0) 0)
