use mathlib.Core.Path.{◌∙◌}
use native.Mathlib.Omega.{arith}
use Rattle.std.proofs.Common.{rules}
use Rattle.std.proofs.lemmas.Slice.{between_to_end}
use Prim.Native.Nat.{◌+◌}
use lib.ListN.{length, drop}
use Rattle.std.proofs.lemmas.Iterator.{YieldsList-from_slice, cases_from_any}
use Rattle.numbers.proofs.Twice.{Has, Lacks, has_from_met, lacks_from_met, later}
use Rattle.numbers.proofs.fresh.again_later.Goals as goal

pub returns : goal.returns
returns c =
    later c.requires c.any.result
    (cases_from_any _ _ _ (Has c.args.given.now c.args.order.now (length c.args.order.now)) (Lacks c.args.given.now c.args.order.now (length c.args.order.now)) c.any.ensures.ran
    (YieldsList-from_slice (drop (c.args.a + (length c.args.order.now)) c.args.given.now) (c.iter.ensures.rest ∙ between_to_end c.args.given.now (c.args.a + (length c.args.order.now)) _ (omega arith))) (λ x q k. search (rules, has_from_met)) (λ x q k. search (rules, lacks_from_met)))
