use Rattle.links.proofs.Linking.{each_none, each_then}
use Rattle.links.proofs.sources.apply_sources.Goals as goal

pub loop-i-init : goal.loop-i-init
loop-i-init c = each_none _ _ _

pub loop-i-preserved : goal.loop-i-preserved
loop-i-preserved c = each_then _ _ _ c.id_at-s.ensures c.loop-i.invariant c.apply_source.ensures
