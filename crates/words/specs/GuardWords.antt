-- The guard's status in five words and the numbers of a report in eight, in the order of include/finder.h; no entry is blank. Assumes nothing.
use Rattle.std.specs.Prelude.{ℕ, Bool, cond, List, [], ◌∷◌, unwrap_or}
use Rattle.slots.specs.Store.{blank}
use Rattle.guard.specs.Guard.{Status}
use Rattle.admission.specs.declared.report.Report.{Report}

abbrev pub flag : Bool → ℕ
flag b = cond b 1 0

unfoldable pub status_words : Status → List ℕ
status_words s = flag s.enabled ∷ s.pool_size ∷ s.live_landmarks ∷ s.landmark_count ∷ s.beam ∷ []

unfoldable pub report_words : Report → List ℕ
report_words r =
    flag r.admitted ∷ r.requested ∷ unwrap_or r.entry blank ∷ r.checked ∷ r.baseline ∷ r.residual ∷ r.lost ∷ r.supplemental ∷ []
