use Rattle.std.proofs.Common.{rules, ◌+◌, ◌*◌, ◌%◌, ◌<◌, length, refl}
use Rattle.distances.proofs.Keeping.{keeps_written}
use Rattle.distances.proofs.kept.Kept.slot_distance.Goals as goal

pub returns-then-entry-pair : goal.returns-then-entry-pair
returns-then-entry-pair g c = let h : (c.args.x * 31 + c.args.y) % g.row.N < length c.args.self.now.entries = search rules in
    (c.args.self.now.keeps.each _ _ _ h c.requires.3 c.requires.4 c.if-entry-pair.true, refl)

pub invariant_of-self : goal.invariant_of-self
invariant_of-self g c = let h : (c.args.x * 31 + c.args.y) % g.row.N < length c.args.self.now.entries = search rules in
    record { sized = c.args.self.now.sized; keeps = keeps_written c.args.self.now.keeps _ h c.requires.3 c.requires.4 c.slot_distance-dist.ensures }
