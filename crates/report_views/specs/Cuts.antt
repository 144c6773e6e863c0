-- The cut of a placed node by two reports. Of updates, one by one, it is told by CutLaws.
use Rattle.std.specs.Prelude.{ℕ}
use Rattle.base_ids.specs.declared.Position.{Position}
use Rattle.message_format.specs.declared.Contents.{Contents}
use Rattle.report_views.specs.Definitions.{cut_from}

-- the cut for shard s of a node with report c, the holder's report h and the target t
abbrev pub cut : Contents → Contents → ℕ → Position → Position
cut c h s t = cut_from c.body c.len h.body h.len s t
