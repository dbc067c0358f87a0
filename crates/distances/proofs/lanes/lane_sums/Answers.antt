use Rattle.std.proofs.Common.{arith, length, ◌≤◌}
use Rattle.distances.proofs.Sums.{summed_none, summed_join, summed_lanes}
use Rattle.distances.specs.Inner.Sums.{Summed}
use Rattle.distances.proofs.lanes.lane_sums.Goals.{then-a-i-ge16, else-a-i-ge16}
use Rattle.distances.proofs.lanes.lane_sums.Goals as goal

pub loop-i-init : goal.loop-i-init
loop-i-init g c = (omega arith, summed_none 0)

pub overflow_sub-a : goal.overflow_sub-a
overflow_sub-a g c = c.loop-i.invariant.0

pub loop-i-smaller : goal.loop-i-smaller
loop-i-smaller g c = omega arith

pub loop-i-preserved : goal.loop-i-preserved
loop-i-preserved g c = (omega arith, summed_join _ c.requires.weighing.few c.loop-i.invariant.1 c.thirty_two-sums.ensures (omega arith) (omega arith))

pub overflow_sub-a-2 : goal.overflow_sub-a-2
overflow_sub-a-2 g c = c.loop-i.invariant.0

pub fours-requires : goal.fours-requires
fours-requires g c = (
  c.requires,
  elim c.if-a-i-ge16.branch [
    | then-a-i-ge16 w ↦ rw w.i-is (omega (arith, w.if-a-i-ge16.true))
    | else-a-i-ge16 w ↦ rw w.i-is c.loop-i.invariant.0
  ],
)

pub returns : goal.returns
returns g c =
    let few = c.requires.weighing.few in
    let so_far : Summed c.args.weights.now c.args.a.now c.args.b.now 0 c.if-a-i-ge16.i c.if-a-i-ge16.sums = elim c.if-a-i-ge16.branch [
      | then-a-i-ge16 w ↦ rw (w.i-is, w.sums-is) (summed_join _ few c.loop-i.invariant.1 w.sixteen-sums.ensures (omega arith) (omega arith))
      | else-a-i-ge16 w ↦ rw (w.i-is, w.sums-is) c.loop-i.invariant.1
    ] in
    let inside : c.if-a-i-ge16.i ≤ length c.args.a.now = elim c.if-a-i-ge16.branch [
      | then-a-i-ge16 w ↦ rw w.i-is (omega (arith, w.if-a-i-ge16.true))
      | else-a-i-ge16 w ↦ rw w.i-is c.loop-i.invariant.0
    ] in
    summed_lanes c.requires (summed_join (length c.args.a.now) few so_far c.fours.ensures (omega arith) (omega (arith, inside)))
