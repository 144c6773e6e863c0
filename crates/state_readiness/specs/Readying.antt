-- What readiness hands back beside a refusal.
use Rattle.std.specs.Prelude.{replicate}
use Rattle.base_ids.specs.declared.Refusal.{Refusal}
use Rattle.state_readiness.specs.declared.ReadyRows.{ReadyRows}

-- a refusal, and no rows
abbrev pub not_ready : Refusal → ReadyRows
not_ready k = record { refusal = k; rows = replicate 1024 0 }
