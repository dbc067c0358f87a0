use Prim.Native.Nat.{◌+◌, ◌*◌}
use native.Mathlib.Omega.{arith}
use Rattle.std.proofs.lemmas.List.{length-take-le}
use Rattle.links.proofs.Planning.{plans_front, plans_at_front, plans_made}
use Rattle.links.proofs.plan.apply_plans.Goals as goal

pub apply_all-requires : goal.apply_all-requires
apply_all-requires c =
    let parts = c.split_at_mut-plans.ensures in
    let room = parts.back_len in (
      c.requires.0,
      rw parts.front (plans_front c.requires.1 (omega (arith, c.requires.2.inside))),
      omega (arith, length-take-le (1922 + 4 * c.args.pruner.now.rows.now.degree) c.split_at_mut-plans.result.1.now (omega (arith, room, c.requires.2.inside))),
    )

pub returns : goal.returns
returns c =
    let parts = c.split_at_mut-plans.ensures in
    rw (parts.front, parts.back)
    (plans_made c.args.scratch.now c.args.table.base _ _ (omega (arith, c.requires.2.inside)) (omega (arith, c.requires.2.inside)) (omega arith) (rw parts.back at c.apply_all.auto.words)
    (rw (parts.front, plans_at_front c.requires.1 (omega (arith, c.requires.2.inside)) _ _ _) at c.apply_all.ensures))
