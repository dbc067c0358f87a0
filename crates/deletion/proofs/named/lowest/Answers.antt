use Rattle.std.proofs.Common.{rules}
use Rattle.deletion.proofs.Naming.{lowest_found, lowest_none}
use Rattle.deletion.proofs.named.lowest.Goals as goal

pub returns-in-Some : goal.returns-in-Some
returns-in-Some c = lowest_found c.args.marks.now c.args.entry c.in-Some.s (search rules) (search rules) (λ k h. search rules)

pub returns-in-None : goal.returns-in-None
returns-in-None c = lowest_none c.args.marks.now c.args.entry (λ k h. search rules)
