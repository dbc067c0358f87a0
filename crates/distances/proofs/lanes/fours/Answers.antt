use Rattle.std.proofs.Common.{arith, ◌≡◌, ◌-◌, length}
use Rattle.distances.proofs.Sums.{summed_none, summed_join}
use Rattle.distances.proofs.lanes.fours.Goals.{then-i-a, else-i-a}
use Rattle.distances.proofs.lanes.fours.Goals as goal

pub loop-i-init : goal.loop-i-init
loop-i-init g c = let e : c.args.from - c.args.from ≡ 0 = omega arith in (c.requires.1, omega arith, rw e (summed_none c.args.from))

pub overflow_sub-a : goal.overflow_sub-a
overflow_sub-a g c = c.loop-i.invariant.0

pub loop-i-smaller : goal.loop-i-smaller
loop-i-smaller g c = omega arith

pub loop-i-preserved : goal.loop-i-preserved
loop-i-preserved g c =
    (omega arith, omega arith, summed_join _ c.requires.0.weighing.few c.loop-i.invariant.2 c.four-sums.ensures (omega arith) (omega arith))

pub returns : goal.returns
returns g c = elim c.if-i-a.branch [
  | then-i-a w ↦ rw w.sums-is (summed_join _ c.requires.0.weighing.few c.loop-i.invariant.2 w.last-sums.ensures (omega arith) (omega arith))
  | else-i-a w ↦
      let e : length c.args.a.now - c.args.from ≡ c.loop-i.i - c.args.from = omega (arith, w.if-i-a.false) in
      rw (w.sums-is, e) c.loop-i.invariant.2
]
