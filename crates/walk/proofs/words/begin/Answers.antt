use Rattle.walk.proofs.Marks.{begun}
use Rattle.walk.proofs.words.begin.Goals as goal

pub returns : goal.returns
returns c = begun c.requires.0 c.requires.1 c.requires.2 c.clear.ensures c.leave_out.ensures c.set_mark.ensures c.put.ensures
