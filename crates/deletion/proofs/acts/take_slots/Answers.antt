use Rattle.deletion.proofs.Naming.{emptied_by}
use Rattle.deletion.proofs.Acting.{taken_inside, taken_table, taken_room}
use Rattle.deletion.proofs.acts.take_slots.Goals as goal

pub take_rows-requires : goal.take_rows-requires
take_rows-requires c =
    let l = rw c.lay_out-at.ensures at (emptied_by c.args.scratch.now _ _ (rw c.lay_out-at.ensures (taken_room c.requires)) c.take_ids.auto.list c.take_ids.ensures) in
    rw c.lay_out-at.ensures (taken_inside c.requires l, taken_table c.requires l)

pub returns : goal.returns
returns c =
    let l = emptied_by c.args.scratch.now _ _ (rw c.lay_out-at.ensures (taken_room c.requires)) c.take_ids.auto.list c.take_ids.ensures in
    record { place = rw c.lay_out-at.ensures; taken = _; list = l; rows = c.take_rows.ensures }
