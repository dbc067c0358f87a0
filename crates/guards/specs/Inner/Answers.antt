-- The numbers of a status and of a report.
use denote.Ref.{Bor}
use Rattle.std.specs.Prelude.{List, [], ◌∷◌, Option, ℕ, ◌≤◌, length, take, unwrap_or}
use Rattle.std.specs.Int.{from_bool}
use Rattle.slots.specs.Store.{blank}
use Rattle.admission.specs.declared.report.Report.{Report}
use Rattle.guarding.specs.declared.Status.{Status}
use Rattle.text.specs.Inner.Text.{ReadsAll}

-- the five numbers of a status
abbrev pub status_numbers : Status → List ℕ
status_numbers s = from_bool s.enabled ∷ s.pool ∷ s.live ∷ s.count ∷ s.beam ∷ []

-- the eight numbers of a report, blank for no entry
abbrev pub report_numbers : Report → List ℕ
report_numbers r = from_bool r.admitted ∷ r.requested ∷ unwrap_or r.entry blank ∷ r.checked ∷ r.baseline ∷ r.residual ∷ r.lost ∷ r.supplemental ∷ []

-- the numbers of a report were read next of a line, and then the landmarks checked and those lost
pub record Reported (old new : Option (Bor (List ℕ))) (report : Report) (checked lost : List ℕ) : Type 0 where
  pub counted : Option (Bor (List ℕ))
  pub numbers : ReadsAll old counted (report_numbers report)
  pub listed : Option (Bor (List ℕ))
  pub with_checked : (report.checked ≤ length checked) × ReadsAll counted listed (take report.checked checked)
  pub with_lost : (report.lost ≤ length lost) × ReadsAll listed new (take report.lost lost)
