use Rattle.links.proofs.Linking.{source_then}
use Rattle.links.proofs.sources.apply_source.Goals as goal

pub loop-pair-preserved : goal.loop-pair-preserved
loop-pair-preserved c = source_then c.args.s _ _ _ c.loop-pair-test.true c.loop-pair.invariant c.apply_pair.ensures
