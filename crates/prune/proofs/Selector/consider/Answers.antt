-- Either nothing changes, or the candidate is taken and written behind those taken before.
use mathlib.Core.Path.{◌∙◌}
use Rattle.prune.proofs.Selecting.{considered_taken}
use Rattle.prune.proofs.Selector.consider.Goals as goal

pub returns : goal.returns
returns g c =
    let same = c.settle.ensures.2 in (
      rw (c.put.ensures, c.settle.ensures.1)
          (considered_taken _ _ _ _ _ _ _ _ _ c.if-self-i.false c.requires.0 c.requires.1 same.count c.settle.ensures.0 (rw same.list at c.dist_at-dist.ensures) (rw same.list at c.id_at-id.ensures)),
      record { alpha = same.alpha; kept = same.kept; space = same.space; factors = same.factors; count = same.count; list = same.list; out = same.out; room = c.put.auto.list ∙ same.room },
    )
