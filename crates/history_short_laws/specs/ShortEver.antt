-- Over any number of restarts from short reports and runs between them: what was settled once is in the holder's log of every later plan and
-- not past its target. And bases agree after restarts from whole reports too, so that a group can go over to short ones.
use Rattle.std.specs.Prelude.{ℕ, ◌^◌, ◌<◌, ◌≤◌, true, List, ◌≡◌, refl}
use Rattle.std.proofs.Common.{◌∙◌}
use Rattle.settings_values.specs.Definitions.{shards}
use Rattle.report_views.specs.declared.Layout.{Layout}
use Rattle.report_views.specs.declared.Termination.{Termination}
use Rattle.report_views.specs.Definitions.{slots_ok}
use Rattle.report_views.specs.Meets.{QuorumMet}
use Rattle.history_laws.specs.Definitions.{History, KeepsRule, Supposed}
use Rattle.history_course_laws.specs.Course.{Orderly, PlannedView, Covers, CarriedOut, as_ordered}
use Rattle.history_course_laws.proofs.Lasting.{new_rule, new_succeeded}
use Rattle.history_short_laws.specs.Based.{short_of, Based, ShortCarried}
use Rattle.history_short_laws.specs.Telling.{told_orderly}

-- ---- the history after a restart from short reports

module _ (σ : List ℕ) (v : Layout) (t : Termination) (held : ℕ) (d : List ℕ) (few : shards σ ≤ 16) (wide : v.members < 2 ^ 32)
    (slots : slots_ok σ v t held d ≡ true) (met : QuorumMet σ v t held d) (H : History) (sup : Supposed σ v held d (short_of H)) (orderly : Orderly H)
    (ended : Covers σ t (short_of H)) (based : Based (shards σ) H) (w : Layout) (next : PlannedView σ v held w) (G : History)
    (c : ShortCarried σ v t held d w H G) where
  pub short_stands : Orderly G
  short_stands =
      record {
        rule = record { rises = rule.rises; overlaps = rule.overlaps };
        succeeded = λ i l.
            let e = new_succeeded σ v t held d few wide slots met (short_of H) sup
            (told_orderly (short_of H).updated orderly).succeeded w next told carried i l in
            record { by = e.by; most = e.most; later = e.later };
      }
    where
      -- as if the logs were what the short reports say
      told : History
      told = record { views = G.views; logged = G.logged; updated = λ n s q. as_ordered v t held d n s q }

      carried : CarriedOut σ v t held d w (short_of H) told
      carried =
          record {
            views = c.views;
            remembered = λ n i l e. c.adds.logged n i l ∙ e;
            by = c.by;
            logs = c.logs;
            most = c.most;
            ordered = λ s l n k m g q. refl;
          }

      rule : KeepsRule told
      rule = new_rule σ v t held d few wide slots met (short_of H) sup (told_orderly (short_of H).updated orderly).succeeded w next told carried
