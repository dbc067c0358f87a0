use Rattle.landmarks.specs.Inner.Samples.{remains}
use Rattle.landmarks.proofs.Looking.{free_other}
use Rattle.landmarks.proofs.sample.Free.has.Goals as goal
use Rattle.landmarks.proofs.sample.Free.has.Goals.{then-stays, else-stays}

pub returns-then-id-self : goal.returns-then-id-self
returns-then-id-self c =
    let f = c.args.self.now in
    elim c.if-stays.branch [
      | then-stays w ↦ free_other (remains f.marks.now f.ids.now) f.entry f.kept.now c.args.id c.stays.ensures w.if-stays.true w.value-is c.if-id-self.true c.contains.ensures.value
      | else-stays w ↦ cc
    ]
