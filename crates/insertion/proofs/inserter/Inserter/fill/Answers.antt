use Rattle.std.proofs.Common.{rules}
use Rattle.insertion.proofs.Filled.{slot_long, slot_together, slot_filled}
use Rattle.insertion.proofs.inserter.Inserter.fill.Goals as goal

pub invariant_of-self-clause-together : goal.invariant_of-self-clause-together
invariant_of-self-clause-together c = let y = slot_together c.args.self.now c.requires.0 c.requires.1 c.fill.ensures.0 in search (rules, y)

pub invariant_of-self-clause-entry_in : goal.invariant_of-self-clause-entry_in
invariant_of-self-clause-entry_in c = rw (slot_long c.args.self.now c.requires.0 c.requires.1 c.fill.ensures.0).marks c.args.self.now.entry_in

pub returns : goal.returns
returns c =
    record {
      index = slot_filled c.args.self.now c.requires.0 c.requires.1 c.fill.ensures.0 (search rules) (search rules);
      same = search rules;
    }
