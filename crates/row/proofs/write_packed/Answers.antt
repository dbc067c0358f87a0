use Rattle.std.proofs.Common.{◌≡◌, ◌-◌, ◌/◌, length, take, drop, sym, ap, ◌∙◌}
use lib.ListN.{length-drop}
use Rattle.lists.specs.Lists.{put_front}
use Rattle.candidates.specs.Candidates.{ids}
use Rattle.candidates.specs.Inner.Words.{cands_of}
use Rattle.candidates.proofs.Copying.{ids_front}
use Rattle.row.proofs.write_packed.Goals as goal

pub returns : goal.returns
returns c =
    let list = c.args.list.now in
    let n = (length list - c.args.from) / 2 in
    let w = drop c.args.from list in
    let long : length w / 2 ≡ n = ap (λ k. k / 2) (length-drop c.args.from list) in
    let e : take n c.pack_ids.new.list ≡ ids (cands_of w) = ap (take n) c.pack_ids.ensures ∙ ap (λ k. take k (put_front (ids (cands_of w)) list)) (sym long) ∙ ids_front w list in
    (rw e at c.write.ensures.0, c.write.ensures.1, c.pack_ids.ensures)
