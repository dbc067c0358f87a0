use mathlib.Core.Path.{◌≡◌}
use lib.ListN.{take}
use Rattle.links.specs.Inner.Linking.{pairs_of, links_at}
use Rattle.links.proofs.span.pair_each.Given as goal

abbrev pub invariant-loop-i : goal.invariant-loop-i
invariant-loop-i l = pairs_of (take l.i l.pairs) ≡ links_at l.x l.list 0 l.i
