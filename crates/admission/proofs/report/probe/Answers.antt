use Rattle.std.proofs.Common.{refl}
use Rattle.admission.proofs.Reporting.{probed}
use Rattle.admission.proofs.report.probe.Goals as goal

pub returns : goal.returns
returns c = (probed c.check_landmarks-n.ensures c.run_trials-t.ensures c.is_admitted.ensures refl refl, record { checked = refl; lost = refl })
