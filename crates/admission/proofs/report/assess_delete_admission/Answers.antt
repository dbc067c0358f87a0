use Rattle.std.proofs.Common.{rules, refl, [], ℕ, Bool, List, length}
use Rattle.vectors.specs.Space.{slot_distance, space}
use Rattle.slots.specs.Lent.{graph_of}
use Rattle.landmarks.specs.Inner.Samples.{remains}
use Rattle.landmarks.specs.Inner.Choices.{landmarks_by}
use Rattle.admission.specs.Inner.Trials.{meets}
use Rattle.admission.proofs.Entering.{remains_inside, remains_out}
use Rattle.admission.proofs.Reporting.{names, assessed_none, assessed_gone, assessed_some}
use Rattle.admission.proofs.report.assess_delete_admission.Goals as goal

pub returns-then-requested-eq0 : goal.returns-then-requested-eq0
returns-then-requested-eq0 c =
    let g = c.args.settings in
    (assessed_none (graph_of c.args.graph.now) c.args.entry g.count g.sample g.beam c.args.pool.now c.args.ids.now c.count_named-requested.ensures _ _ c.if-requested-eq0.true (search rules), record { checked = refl; lost = refl })

pub returns-in_default : goal.returns-in_default
returns-in_default c =
    let g = c.args.settings in
    (assessed_gone (graph_of c.args.graph.now) c.args.entry g.count g.sample g.beam c.args.pool.now c.args.ids.now c.count_named-requested.ensures c.if-requested-eq0.false c.residual_entry.ensures _ _ c.in_default.is (search rules), record { checked = refl; lost = refl })

pub probe-report-requires-clause-start_in_bounds : goal.probe-report-requires-clause-start_in_bounds
probe-report-requires-clause-start_in_bounds c =
    let s = c.residual_entry.ensures.found c.in-Some.start c.in-Some.is in
    (remains_inside c.args.graph.now.rows.marks.now c.args.ids.now _ s, remains_out c.args.graph.now.rows.marks.now c.args.ids.now _ s)

pub returns : goal.returns
returns c =
    let g = c.args.settings in
    let a = graph_of c.args.graph.now in
    let marks = c.args.graph.now.rows.marks.now in
    let start = c.in-Some.start in
    let stays : ℕ → Bool = remains marks c.args.ids.now in
    let select : ℕ → List ℕ → List ℕ = λ wanted existing. landmarks_by (slot_distance (space a.measure a.dim a.vectors)) stays (length marks) start wanted g.sample existing in
    let v = names stays (meets a [] g.beam start) (meets a c.args.ids.now g.beam start) select g.count start c.args.pool.now c.count_named-requested.result c.probe-report.ensures.0 refl in
    (assessed_some a c.args.entry g.count g.sample g.beam c.args.pool.now c.args.ids.now c.count_named-requested.ensures c.if-requested-eq0.false c.residual_entry.ensures c.in-Some.is v, c.probe-report.ensures.1)
