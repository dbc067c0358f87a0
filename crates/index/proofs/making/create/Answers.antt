use Rattle.index.specs.Lent.{new_slices_of}
use Rattle.index.proofs.Makes.{creates_room, creates_weight_room, creates_number_room, creates_done}
use Rattle.index.proofs.making.create.Goals as goal

pub write-requires : goal.write-requires
write-requires c = (
  creates_room (new_slices_of c.args.slices.now) c.lengths.ensures c.read.ensures c.check_making-checked.ensures c.in_ok-checked.was,
  creates_weight_room (new_slices_of c.args.slices.now) c.lengths.ensures c.read.ensures c.check_making-checked.ensures c.in_ok-checked.was,
)

pub write_labels-requires : goal.write_labels-requires
write_labels-requires c =
    let room = creates_number_room (new_slices_of c.args.slices.now) c.lengths.ensures c.read.ensures c.check_making-checked.ensures c.in_ok-checked.was in
    rw (c.write.ensures.2, c.write.ensures.3) room

pub returns : goal.returns
returns c =
    let written = rw c.write.ensures.2 at c.write_labels.ensures in (
      rw c.new_index.ensures (creates_done c.args.given.now (new_slices_of c.args.slices.now) _ c.lengths.ensures c.read.ensures c.check_making-checked.ensures c.in_ok-checked.was c.write.ensures.0 written c.write.ensures.1),
      record {
        vectors = c.write.ensures.4.vectors;
        targets = c.write.ensures.4.targets;
        edges = c.write.ensures.4.edges;
        versions = c.write.ensures.4.versions;
        marks = c.write.ensures.4.marks;
        pool = c.write.ensures.4.pool;
        numbers = c.write.ensures.4.numbers;
        summary = c.write.ensures.4.summary;
        weights = c.write.ensures.4.weights;
      },
    )
