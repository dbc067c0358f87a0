use Rattle.std.proofs.Common.{rules, ap, ◌∙◌, ℕ, List, Bor}
use Rattle.slots.specs.Store.{edge_version}
use Rattle.slots.proofs.Written.{writing_more, writing_done}
use Rattle.slots.proofs.graph.RowsMut.write.Goals as goal

pub loop-place-preserved : goal.loop-place-preserved
loop-place-preserved c = let i = c.loop-place.invariant in
    let e = c.edge_version.ensures ∙ ap (λ v. edge_version v c.unwrap_or-id.result) (ap (λ (b : Bor (List ℕ)). b.now) i.1.versions) in (
      writing_more c.requires.0 c.requires.1 c.loop-place-test.true (search rules) e i.0,
      record { degree = i.1.degree; targets = i.1.targets; edges = i.1.edges; versions = i.1.versions },
    )

pub returns : goal.returns
returns c = (writing_done c.loop-place-test.false c.loop-place.invariant.0, c.loop-place.invariant.1)
