use mathlib.Core.Path.{refl, ap, subst}
use native.Mathlib.Omega.{arith}
use lib.ListN.{length}
use Rattle.insertion.specs.Batch.{BatchInserted}
use Rattle.index.proofs.Decide.{handed_on}
use Rattle.index.specs.declared.Index.{Index}
use Rattle.index.specs.Index.{arrays_of}
use Rattle.index.specs.Lent.{insert_slices_of, slices_of}
use Rattle.updating.specs.Insert.{inserting_of}
use Rattle.updating.specs.Inner.Filling.{with_first_entry}
use Rattle.updating.proofs.Fills.{InsertChecked, inserts_back, insert_able, insert_weighed, more_fits, insert_labelable, inserts_on}
use Rattle.updating.proofs.inserting.insert.Goals.{After-check_insert, After-insert_batch-n}
use Rattle.updating.proofs.inserting.insert.Goals as goal

checked : (c : After-check_insert) → InsertChecked c.args.index (slices_of c.read.result) (insert_slices_of c.args.slices.now) (inserting_of c.args.asked.now) c.args.slots.now c.args.scratch.now c.check_insert.result
checked c = record { read = c.read.ensures; decided = c.check_insert.ensures }

pub returns-in_err-check_insert : goal.returns-in_err-check_insert
returns-in_err-check_insert c =
    rw (handed_on c.from_residual.result c.from_residual.ensures.1) (
      inserts_back (checked (goal.at.returns-in_err-check_insert c).After-check_insert) c.in_err-check_insert.was,
      record { vectors = refl; targets = refl; edges = refl; versions = refl; marks = refl; pool = refl; numbers = refl; summary = refl; weights = refl },
    )

-- what the batch leaves of an index that it begins with
abbrev Batched : After-insert_batch-n → Index → Type 0
Batched c i =
    BatchInserted (arrays_of i (insert_slices_of c.args.slices.now)) i.alpha i.entry c.args.asked.now.beam c.args.asked.now.bytes.now c.args.slots.now
    (arrays_of i (insert_slices_of c.insert_batch-n.new.slices)) c.insert_batch-n.new.slots c.insert_batch-n.result

batched : (c : After-insert_batch-n) → Batched c (with_first_entry c.args.index (length c.args.asked.now.numbers.now))
batched c = subst (Batched c) c.with_first_entry-begun.ensures c.insert_batch-n.ensures.0

pub insert_batch-n-requires : goal.insert_batch-n-requires
insert_batch-n-requires c =
    let k = checked (goal.at.insert_batch-n-requires c).After-check_insert in
    let w = insert_weighed k c.in_ok-check_insert.was in
    rw c.with_first_entry-begun.ensures (insert_able k c.in_ok-check_insert.was, w.0, w.1)

pub overflow_cast-n : goal.overflow_cast-n
overflow_cast-n c =
    let h =
    more_fits (checked (goal.at.overflow_cast-n c).After-check_insert) c.in_ok-check_insert.was
    (insert_slices_of c.insert_batch-n.new.slices) (batched (goal.at.overflow_cast-n c).After-insert_batch-n) in
    record { fits = omega (arith, h) }

pub label-requires : goal.label-requires
label-requires c =
    let e = c.insert_batch-n.ensures in
    let able =
    insert_labelable (checked (goal.at.label-requires c).After-check_insert) c.in_ok-check_insert.was
    (insert_slices_of c.insert_batch-n.new.slices) (batched (goal.at.label-requires c).After-insert_batch-n) c.insert_batch-n.auto.slots in
    rw (e.1, e.2) able

pub with_more-requires : goal.with_more-requires
with_more-requires c =
    let h =
    more_fits (checked (goal.at.with_more-requires c).After-check_insert) c.in_ok-check_insert.was
    (insert_slices_of c.insert_batch-n.new.slices) (batched (goal.at.with_more-requires c).After-insert_batch-n) in
    rw c.with_first_entry-begun.ensures h

pub returns : goal.returns
returns c =
    let e = c.insert_batch-n.ensures in
    let labelled = rw (e.1, e.2) at c.label.ensures in (
      inserts_on (checked (goal.at.returns c).After-check_insert) c.in_ok-check_insert.was
          (insert_slices_of c.insert_batch-n.new.slices) (batched (goal.at.returns c).After-insert_batch-n)
          _ (refl, ap (λ x. x.now) e.3.pool, ap (λ x. x.now) e.3.weights) labelled (rw c.with_first_entry-begun.ensures at c.with_more.ensures),
      record {
        vectors = e.3.vectors;
        targets = e.3.targets;
        edges = e.3.edges;
        versions = e.3.versions;
        marks = e.3.marks;
        pool = e.3.pool;
        numbers = e.3.numbers;
        summary = e.3.summary;
        weights = e.3.weights;
      },
    )
