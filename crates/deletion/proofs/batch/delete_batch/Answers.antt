use Rattle.std.proofs.Common.{rules}
use native.Mathlib.Omega.{arith}
use lib.ListN.{length}
use Rattle.deletion.specs.Lent.{graph_mut_of}
use Rattle.deletion.specs.Inner.Layout.{layout_of}
use Rattle.deletion.proofs.Acting.{Marked, list_part}
use Rattle.deletion.proofs.Batching.{batch_inside, batch_marked, batch_repairs, batch_deleted, marked_now}
use Rattle.deletion.proofs.batch.delete_batch.Goals.{After-new_entry-entry}
use Rattle.deletion.proofs.batch.delete_batch.Goals as goal

pub clear-requires : goal.clear-requires
clear-requires c =
    let i = batch_inside c.requires (rw c.read-read.ensures at c.take_slots-at.ensures) in
    rw (list_part c.take_slots-at.new.scratch _ _ i.words) i.each

-- the marks are cleared, and the entry is set
marked : (c : After-new_entry-entry)
    → Marked (graph_mut_of c.args.graph.now) c.args.how.entry c.args.ids.now c.args.scratch.now (layout_of (length c.args.graph.now.marks.now) c.take_slots-at.result.count) c.new_entry-entry.result c.clear.new.marks c.take_slots-at.new.scratch
marked c =
    let t = rw c.read-read.ensures at c.take_slots-at.ensures in
    let i = batch_inside c.requires t in
    let list = list_part c.take_slots-at.new.scratch c.take_slots-at.result.from c.take_slots-at.result.count i.words in
    batch_marked c.requires t (rw list at c.clear.ensures) (rw list at c.new_entry-entry.ensures)

pub repair_rows-requires-clause-repairable : goal.repair_rows-requires-clause-repairable
repair_rows-requires-clause-repairable c =
    let t = rw c.read-read.ensures at c.take_slots-at.ensures in
    rw t.place (batch_repairs c.requires (marked_now (search rules) (marked (goal.at.repair_rows-requires-clause-repairable c).After-new_entry-entry)) c.args.how.alpha (omega (arith, c.max.ensures)))

pub returns : goal.returns
returns c =
    let t = rw c.read-read.ensures at c.take_slots-at.ensures in
    let x = c.repair_rows.ensures.1 in (
      batch_deleted c.requires (marked_now (search rules) (marked (goal.at.returns c).After-new_entry-entry)) c.args.how.alpha (omega (arith, c.max.ensures))
          (rw t.place at c.repair_rows.ensures.0),
      record { space = x.space; degree = x.degree; targets = x.targets; edges = x.edges; versions = x.versions; marks = x.marks },
    )
