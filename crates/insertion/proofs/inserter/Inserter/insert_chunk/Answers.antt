use Rattle.insertion.proofs.ChunkRows.{linked_as, rows_outgoing, rows_renewable, rows_inserted, fillable_now, enough_now, chunk_inserted}
use Rattle.insertion.proofs.Same.{inserter_then}
use mathlib.Core.Path.{refl, ◌∙◌}
use Rattle.insertion.proofs.inserter.Inserter.insert_chunk.Goals as goal

pub write_rows-requires-clause-outgoing_rows : goal.write_rows-requires-clause-outgoing_rows
write_rows-requires-clause-outgoing_rows c =
    let h = c.fill_chunk.new.self.how in
    let s = fillable_now _ _ c.fill_chunk.ensures c.requires.0 in
    let t = enough_now c.args.bytes.now c.args.slots.now c.fill_chunk.ensures c.args.scratch.now c.requires.1 in
    let f = linked_as h.alpha h.entry h.beam c.args.bytes.now c.args.slots.now c.read.ensures c.link_plans-n.ensures in
    (rows_outgoing _ h.alpha h.entry h.beam s t c.lay_out-at.ensures f, rows_renewable _ h.alpha h.entry h.beam s t c.lay_out-at.ensures f)

pub returns : goal.returns
returns c =
    let i = c.fill_chunk.new.self in
    let h = i.how in
    let s = fillable_now _ _ c.fill_chunk.ensures c.requires.0 in
    let t = enough_now c.args.bytes.now c.args.slots.now c.fill_chunk.ensures c.args.scratch.now c.requires.1 in
    let f = linked_as h.alpha h.entry h.beam c.args.bytes.now c.args.slots.now c.read.ensures c.link_plans-n.ensures in
    let r = c.write_rows.ensures in
    record {
      index = chunk_inserted c.args.bytes.now c.args.slots.now c.fill_chunk.ensures _ (r.0.index ∙ rows_inserted _ h.alpha h.entry h.beam s t c.lay_out-at.ensures f i.together);
      same = inserter_then c.fill_chunk.ensures.same (record { graph = refl; slices = r.1; how = refl });
    }
