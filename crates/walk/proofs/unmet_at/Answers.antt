use Rattle.walk.proofs.Gathering.{unmet_live, unmet_dead}
use Rattle.walk.proofs.unmet_at.Goals as goal

pub returns-then-is_unmet : goal.returns-then-is_unmet
returns-then-is_unmet c = unmet_live _ _ _ _ (λ t k. c.target_at-t.ensures _ _ _ _ _ _ t k) c.if-is_unmet.ensures (c.live_at.ensures _ _ _)

pub returns : goal.returns
returns c = unmet_dead _ _ _ _ (λ t k. c.target_at-t.ensures _ _ _ _ _ _ t k) c.if-is_unmet.ensures
