-- What is stored stays stored in a group that keeps the rule. While a view is open the disks tell two histories: with the view, where it
-- counts and the copies beside the old logs are the logs; and as before, where it is forgotten. Nothing else is to be decided.
use Rattle.std.specs.Prelude.{ℕ, ◌<◌, true, List, ◌≡◌}
use Rattle.base_laws.specs.Definitions.{has}
use Rattle.base_ids.specs.declared.Position.{Position}
use Rattle.base_ids.specs.Definitions.{not_after}
use Rattle.report_views.specs.declared.Layout.{Layout}
use Rattle.report_views.specs.Definitions.{holds_at, mask_at, target, holder}
use Rattle.history_laws.specs.Definitions.{History, view_at}
use Rattle.history_course_laws.specs.Course.{last_of, Orderly, Settled}
use Rattle.history_course_laws.specs.Ever.{Restart}
use Rattle.history_course_laws.proofs.Ever.{never_lost, logged_lasts}
use Rattle.history_rule_laws.specs.Disks.{Attempt, Disks}
use Rattle.history_rule_laws.proofs.Ruled.{ruled}

module _ {S : ℕ} {H G : History} {lists : ℕ → List Layout} {l : List (Attempt S)} (o : Orderly H) (disks : Disks S H G lists l) (r : Restart S G)
    (s : ℕ) (below : s < S) (p : Position) where
  -- what was settled is in the holder's log of every later plan, and not past its target
  pub stays_stored : Settled H s p
      → (not_after p (target r.v r.t r.held r.d s) ≡ true) × (holds_at r.d s p (holder r.v r.t r.held r.d s) ≡ true)
  stays_stored u = never_lost o s below p u (ruled o disks).course r

  -- and so is what all members of a shard in the last view had logged
  pub logged_stays : ((n : ℕ) → n < 32 → has (mask_at (view_at H (last_of H)) s) n ≡ true → H.updated n s p ≡ true)
      → (not_after p (target r.v r.t r.held r.d s) ≡ true) × (holds_at r.d s p (holder r.v r.t r.held r.d s) ≡ true)
  logged_stays all = logged_lasts o s below p all (ruled o disks).course r
