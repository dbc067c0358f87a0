-- The lists of a report as the code has them. Assumes nothing.
use Rattle.std.specs.Prelude.{◌≡◌}
use Rattle.admission.specs.declared.report.Lists.{Lists}

-- what a function leaves of lists that it writes: the same ones
pub record SameLists (l l' : Lists) : Type 0 where
  pub checked : l'.checked.ghost_name ≡ l.checked.ghost_name
  pub lost : l'.lost.ghost_name ≡ l.lost.ghost_name
