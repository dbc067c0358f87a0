use Rattle.walk.proofs.Entering.{front_asks, front_inserted}
use Rattle.walk.proofs.words.insert_first.Goals as goal

pub insert_ordered-requires : goal.insert_ordered-requires
insert_ordered-requires c = front_asks c.args.words.now c.args.n c.requires.0 c.requires.1 c.requires.2 c.requires.3

pub returns : goal.returns
returns c = front_inserted c.args.words.now _ c.args.n c.requires.0 c.insert_ordered.auto.list c.insert_ordered.ensures
