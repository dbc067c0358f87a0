-- The settings and an entry as the code has them. Assumes nothing.
use Rattle.std.specs.Prelude.{ℕ, Option, Some, None}
use Rattle.std.proofs.Math.Option.{none, some}
use Rattle.std.proofs.Math.Option as Math
use Rattle.guard.specs.Guard.{Config, config}
use Rattle.guard.specs.declared.Config as lent

abbrev pub config_of : lent.Config ℕ → Config
config_of c = config c.count c.multiplier c.sample c.beam

-- an entry, where there is one
abbrev pub entry_of : Math.Option ℕ → Option ℕ
entry_of none = None
entry_of (some s) = Some s
