use Rattle.std.proofs.Common.{rules, ◌≡◌, ◌∙◌}
use Rattle.std.specs.Prelude.{count_by}
use Rattle.slots.specs.Store.{is_valid}
use Rattle.admission.proofs.Pooling.{count_filtered}
use Rattle.admission.proofs.pool.live_landmarks.Goals as goal

pub returns : goal.returns
returns c =
    let e : c.count.result ≡ count_by (is_valid c.args.marks.now) c.args.pool.now = search rules in
    e ∙ count_filtered (is_valid c.args.marks.now) c.args.pool.now
