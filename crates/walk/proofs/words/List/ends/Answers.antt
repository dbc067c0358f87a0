use Rattle.walk.proofs.Entering.{ends_room, ends_full}
use Rattle.walk.proofs.words.List.ends.Goals as goal

pub returns-then-self-n : goal.returns-then-self-n
returns-then-self-n c = ends_full _ c.if-self-n.true c.requires.0 c.dist_at.ensures c.dist_at-then-self-n.ensures

pub returns-else-self-n : goal.returns-else-self-n
returns-else-self-n c = ends_room _ _ c.if-self-n.false
