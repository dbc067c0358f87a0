use lib.ListN.{take}
use Rattle.links.specs.Inner.Linking.{from, pairs_of, Linked}
use Rattle.links.proofs.sources.apply_source.Given as goal

abbrev pub invariant-loop-pair : goal.invariant-loop-pair
invariant-loop-pair l = Linked l.initial.pruner (from l.s (pairs_of (take l.pair-index l.pairs))) l.pruner
