-- The turns that are left lead to where all turns lead.
use Prim.Native.Nat.{◌-◌}
use mathlib.Core.Path.{◌≡◌}
use lib.ListN.{length}
use Rattle.slots.specs.Lent.{graph_of}
use Rattle.walk.specs.Inner.Scratch.{takes_turns}
use Rattle.walk.specs.Inner.Searching.{SameWords}
use Rattle.walk.proofs.Walking.{Walking}
use Rattle.walk.proofs.Search.take_turns.Given as goal

abbrev pub invariant-loop : goal.invariant-loop
invariant-loop l =
    let a = graph_of l.self.graph in
    let first = l.initial.list in
    (length l.fresh ≡ 64)
    × Walking a l.self.query.now first.beam first.words.now (takes_turns a l.self.query.now first.beam first.words.now first.count) (length a.marks - l.counter) l.list.words.now l.list.count l.list.next
    × SameWords first l.list
