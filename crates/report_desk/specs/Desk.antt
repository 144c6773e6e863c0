-- The desk with a message in a node's slot, as one replaced part of its words.
use Rattle.std.specs.Prelude.{ℕ, ◌+◌, ◌*◌, List, ◌++◌, ◌≡◌, take, drop}
use Rattle.std.proofs.Common.{append_assoc, sym, ap, ◌∙◌}
use Rattle.base_laws.specs.Definitions.{padded, replaced}
use Rattle.base_laws.specs.Tables.{length_padded}
use Rattle.report_desk.specs.Definitions.{desk_with}

pub desk_replaced : (d : List ℕ) (n : ℕ) (w : List ℕ) → desk_with d n w ≡ replaced (512 * n) (padded 512 w) d
unfolding desk_with replaced
desk_replaced d n w =
    append_assoc (take (512 * n) d) (padded 512 w) (drop (512 * n + 512) d)
    ∙ ap (λ (k : ℕ). take (512 * n) d ++ (padded 512 w ++ drop (512 * n + k) d)) (sym (length_padded 512 w))
