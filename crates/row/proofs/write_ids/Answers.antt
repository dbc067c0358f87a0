use Rattle.std.proofs.Common.{◌≡◌, ◌/◌, length, take, ap, ◌∙◌}
use Rattle.candidates.specs.Candidates.{ids}
use Rattle.candidates.specs.Inner.Words.{cands_of}
use Rattle.candidates.proofs.Copying.{ids_front}
use Rattle.row.proofs.write_ids.Goals as goal

pub returns : goal.returns
returns c =
    let n = length c.args.list.now / 2 in
    let e : take n c.copy_ids.new.to ≡ ids (cands_of c.args.list.now) = ap (take n) c.copy_ids.ensures ∙ ids_front c.args.list.now c.args.to.now in
    (rw e at c.write.ensures.0, c.write.ensures.1, c.copy_ids.ensures)
