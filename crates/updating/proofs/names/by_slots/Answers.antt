use native.Mathlib.Omega.{arith}
use mathlib.Core.Path.{sym}
use lib.Seq.{length-take-le}
use Rattle.slots.specs.Sizes.{limits}
use Rattle.index.specs.Lent.{slices_of}
use Rattle.numbers.proofs.Listing.{listed_front}
use Rattle.updating.proofs.Named.{by_slots_given, by_slots_many, by_slots_refused, by_slots_listed, by_slots_numbers}
use Rattle.updating.proofs.names.by_slots.Goals.{else-eq-via-then-eq+then-n+else-is_ok, else-eq-via-then-eq+else-n, else-eq-via-else-eq}
use Rattle.updating.proofs.names.by_slots.Goals as goal

pub slice_bounds-labels-end : goal.slice_bounds-labels-end
slice_bounds-labels-end c =
    let a = c.args.asked in
    sym (length-take-le c.args.index.live c.args.slices.now.summary.now (by_slots_listed a.naming c.args.index (slices_of c.args.slices.now) a.names.now a.repair_beam a.repair_degree c.check_index.ensures c.if-is_ok.ensures.value).placed.long)

pub invariant_of-labels : goal.invariant_of-labels
invariant_of-labels c =
    let a = c.args.asked in
    record { listed = listed_front (by_slots_listed a.naming c.args.index (slices_of c.args.slices.now) a.names.now a.repair_beam a.repair_degree c.check_index.ensures c.if-is_ok.ensures.value) }

pub slots_of-requires : goal.slots_of-requires
unfolding limits
slots_of-requires c = omega (arith, c.if-n.true, c.requires)

pub returns-then-is_ok : goal.returns-then-is_ok
returns-then-is_ok c =
    let a = c.args.asked in
    by_slots_numbers a.naming c.args.index (slices_of c.args.slices.now) a.names.now a.repair_beam a.repair_degree c.args.slots.now c.slots_of.new.slots c.if-eq.ensures c.slots_of.ensures

pub returns : goal.returns
returns c =
    let a = c.args.asked in
    let s = slices_of c.args.slices.now in
    elim c.else-eq.branch [
      | else-eq-via-then-eq+then-n+else-is_ok w ↦ by_slots_refused a.naming c.args.index s a.names.now a.repair_beam a.repair_degree w.check_index.ensures w.if-is_ok.ensures.value
      | else-eq-via-then-eq+else-n w ↦ by_slots_many a.naming c.args.index s a.names.now a.repair_beam a.repair_degree w.if-n.false
      | else-eq-via-else-eq w ↦ by_slots_given a.naming c.args.index s a.names.now a.repair_beam a.repair_degree w.if-eq.ensures
    ]
