-- A caller's role: what is allowed to it, and the word that stands for it.
use Rattle.std.specs.Prelude.{ℕ, ◌/◌, ◌%◌, Bool, true, false, cond, ◌&&◌, eqb, leb}
use Rattle.base_roles.specs.declared.Role.{Role}
use Rattle.base_roles.specs.declared.Role.TheVariants.{Planner, Watcher}

-- 256 is the planner, 512 + g a watcher of subgroup g, any other word a watcher of no subgroup
unfoldable pub role_of : ℕ → Role
role_of w = cond (eqb w 256) Planner (cond (eqb (w / 256) 2) (Watcher (w % 256)) (Watcher 4))

-- every operation is allowed
abbrev pub may_plan : Role → Bool
may_plan Planner = true
may_plan (Watcher h) = false

-- the planner has all pages, a watcher that of its own subgroup
abbrev pub owns_page : Role → ℕ → Bool
owns_page Planner g = true
owns_page (Watcher h) g = eqb h g

-- the page of subgroup g is allowed; there is none above 3
unfoldable pub may_read : Role → ℕ → Bool
may_read role g = leb g 3 && owns_page role g
