-- Whether the view of a restart that nobody is known to have committed counts. It counts if all its members have it on disk, and not if one
-- of them has reported without it. With all members back that is decided, what one leader finds no later one contradicts, and if it counts
-- the restart was carried out.
use Rattle.std.specs.Prelude.{ℕ, true, ◌≡◌, eqb}
use Rattle.std.proofs.Common.{◌∙◌}
use Rattle.base_laws.specs.Bools.{clash, or_left}
use Rattle.base_laws.specs.Definitions.{with}
use Rattle.base_laws.specs.Masks.{has_with, subset_has, subset_of, width}
use Rattle.history_course_laws.specs.Counting.{Copies, forgot, got, now, went, NoneBoth, all_have, OneLacks, still_apart}

module _ {m a o : ℕ} (apart : NoneBoth a o) where
  -- never both
  pub never_both : {have out : ℕ} → Copies m a o have out → all_have m have ≡ true → OneLacks m out → ⊥
  never_both {have} c s l = clash l.lacks (((still_apart apart) c).never l.one (subset_has m have s l.one l.member))

  -- once all members have it, they have it for ever
  pub still_have : {have out : ℕ} → all_have m a ≡ true → Copies m a o have out → all_have m have ≡ true
  still_have s now = s
  still_have s (got have out n i f c) =
      subset_of m m (with have n) (width m) (λ k l p. has_with have n k ∙ or_left (eqb n k) (subset_has m have (still_have s c) k p))
  still_have s (went have out n f c) = still_have s c
  still_have s (forgot have out n k u w c) = absurd (never_both c (still_have s c) (record { one = k; member = u; lacks = w }))
