use Rattle.std.proofs.Common.{rules}
use mathlib.Core.Path.{refl}
use Rattle.insertion.proofs.ChunkRows.{named_renewable, rows_both, rows_end}
use Rattle.insertion.proofs.chunk.write_beside.Goals as goal

pub write_named-requires : goal.write_named-requires
write_named-requires c = named_renewable _ c.args.plans.now.slots.now c.requires.outgoing_rows.1 c.write_outgoing.ensures.0 c.write_outgoing.ensures.1

pub returns : goal.returns
returns c = let g = rows_both _ c.args.plans.now.slots.now c.requires.outgoing_rows.1 c.write_outgoing.ensures.0 c.write_outgoing.ensures.1 c.write_named.ensures in
    let y = rows_end {how = c.args.how} {slots = c.args.plans.now.slots.now} {w = c.args.scratch.now} refl g in
    search (rules, y)
