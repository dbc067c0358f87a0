use native.Mathlib.Omega.{arith}
use borrow.Author.Rules.{rules}
use Rattle.std.proofs.lemmas.Iterator.{YieldsList-from_range}
use Rattle.std.proofs.lemmas.Iterator.Consumers.{YieldsList-from_filter_map, nth_from_yields_List}
use Rattle.slots.specs.Store.{Arrays}
use Rattle.slots.specs.Lent.{graph_of}
use Rattle.slots.specs.Inner.Rows.{ref_at}
use Rattle.reading.proofs.Shown.{no_row, nth_given}
use Rattle.reading.proofs.readings.target.Goals as goal

pub returns-then-rows-s : goal.returns-then-rows-s
returns-then-rows-s c = no_row (graph_of c.args.graph.now) c.args.s c.args.place c.args.graph.now.shape c.if-rows-s.true

pub returns : goal.returns
returns c =
    let a : Arrays = graph_of c.args.graph.now in
    nth_given a c.args.graph.now.shape c.args.s c.if-rows-s.false c.nth.result c.args.place (nth_from_yields_List c.nth.result _ c.args.place c.nth.ensures.ran
    (YieldsList-from_filter_map _ (ref_at a c.args.s) (YieldsList-from_range 0 a.degree a.degree c.filter_map.ensures.source (omega arith)) c.filter_map.ensures.closure (λ x r q k. search rules)))
