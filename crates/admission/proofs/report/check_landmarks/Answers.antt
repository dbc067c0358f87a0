use Rattle.std.proofs.Common.{refl, ℕ}
use Rattle.vectors.specs.Space.{slot_distance, space}
use Rattle.vectors.specs.Lent.{measure_of}
use Rattle.admission.proofs.Reporting.{check_selectable, checks}
use Rattle.admission.proofs.report.check_landmarks.Goals as goal

pub select_landmarks-more-requires : goal.select_landmarks-more-requires
select_landmarks-more-requires c =
    let g = c.args.trial.now.graph in
    let d : ℕ → ℕ → ℕ = slot_distance (space (measure_of g.space.weights) g.space.dim g.space.vectors.now) in
    let k = c.keep_landmarks-kept in
    let s = c.split_at_mut-front.ensures in
    check_selectable d g.rows.marks.now c.args.ids.now c.args.trial.now.entry c.args.settings.sample c.args.settings.count c.args.pool.now k.ensures c.requires g.bytes g.shape.few k.auto.list refl refl s.front refl s.back

pub returns : goal.returns
returns c =
    let g = c.args.trial.now.graph in
    let d : ℕ → ℕ → ℕ = slot_distance (space (measure_of g.space.weights) g.space.dim g.space.vectors.now) in
    let s = c.split_at_mut-front.ensures in
    let f = rw (s.front, s.back) at c.select_landmarks-more.ensures in
    checks d g.rows.marks.now c.args.ids.now c.args.trial.now.entry c.args.settings.sample c.args.settings.count c.args.pool.now c.keep_landmarks-kept.ensures f (rw s.front) refl
