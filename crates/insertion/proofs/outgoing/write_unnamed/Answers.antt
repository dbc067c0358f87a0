use Rattle.insertion.proofs.OwnRows.{unnamed_not, unnamed_together, unnamed_written}
use mathlib.Core.Path.{refl}
use Rattle.insertion.proofs.outgoing.write_unnamed.Goals as goal

pub invariant_of-pruner : goal.invariant_of-pruner
invariant_of-pruner c = let s = c.write_ids.ensures.1 in
    let at = c.args.plans.now.at in
    record { together = rw (s.degree, s.versions) (unnamed_together c.args.pruner.now at c.args.plans.now.n c.args.b c.args.e c.requires.0 c.requires.1 (rw c.split_at_mut-words.ensures.front at c.write_ids.ensures.0)) }

pub returns-then-plans-scratch : goal.returns-then-plans-scratch
returns-then-plans-scratch c = let s = c.write_ids.ensures.1 in
    let at = c.args.plans.now.at in
    let parts = c.split_at_mut-words.ensures in
    let u = unnamed_written c.args.pruner.now at c.args.plans.now.n c.args.b c.args.e c.requires.0 c.requires.1 (rw parts.front at c.write_ids.ensures.0) _ (rw parts.back at c.write_ids.auto.to) refl c.if-plans-scratch.true in
    (λ entry. record { index = rw (s.degree, s.versions) (u entry).0; same = record { slices = s; rows = refl; alpha = refl; marks = refl; kept = refl; space = refl } }, rw parts.front (u 0).1)

pub returns-else-plans-scratch : goal.returns-else-plans-scratch
returns-else-plans-scratch c = unnamed_not c.args.pruner.now c.args.plans.now.at c.args.plans.now.n c.args.b c.args.e refl c.if-plans-scratch.false
