use Rattle.links.proofs.Linking.{from_both, linked_then}
use Rattle.links.proofs.sources.apply_pair.Goals as goal

pub returns : goal.returns
returns c = from_both c.args.s _ _ (linked_then c.apply_from.ensures c.apply_from-2.ensures)
