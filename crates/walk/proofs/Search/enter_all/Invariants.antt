-- The slots from `id-index` on are still to enter.
use lib.ListN.{drop}
use Rattle.slots.specs.Lent.{graph_of}
use Rattle.walk.specs.Inner.Scratch.{with_fresh}
use Rattle.walk.specs.Inner.Searching.{SameWords}
use Rattle.walk.proofs.Gathering.{Entering}
use Rattle.walk.proofs.Search.enter_all.Given as goal

abbrev pub invariant-loop-id : goal.invariant-loop-id
invariant-loop-id l =
    let first = l.initial.list in
    Entering (graph_of l.self.graph) l.self.query.now first.beam first.words.now
    (with_fresh (graph_of l.self.graph) l.self.query.now first.beam first.words.now first.count l.fresh) l.list.words.now l.list.count l.list.next (drop l.id-index l.fresh)
    × SameWords first l.list
