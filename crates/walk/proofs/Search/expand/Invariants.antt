-- To meet the live targets from `from` on is to meet them all.
use lib.ListN.{length}
use Rattle.slots.specs.Lent.{graph_of}
use Rattle.walk.specs.Inner.Scratch.{near_of, state_of, meets}
use Rattle.walk.specs.Inner.Searching.{SameWords}
use Rattle.walk.proofs.Gathering.{Meeting}
use Rattle.walk.proofs.Search.expand.Given as goal

abbrev pub invariant-loop-from : goal.invariant-loop-from
invariant-loop-from l =
    let a = graph_of l.self.graph in
    let query = l.self.query.now in
    let first = l.initial.list in
    let all = meets a query first.beam (state_of (length a.marks) first.words.now first.count) (near_of a l.s) in
    Meeting a query first.beam first.words.now all l.s l.from l.list.words.now l.list.count l.list.next × SameWords first l.list
