use mathlib.Core.Path.{refl}
use Rattle.row.proofs.Written.{wrote_pruned, pruned_together, behind_stays}
use Rattle.row.proofs.pruner.Pruner.write_pruned.Goals as goal

pub invariant_of-self : goal.invariant_of-self
invariant_of-self g c =
    let same = c.write_packed.ensures.1 in
    let p = c.prune_scored-r.ensures in
    let wrote = wrote_pruned c.requires.0 c.args.out.now _ c.requires.2 c.prune_scored-r.auto.out p.0 c.write_packed.ensures.0 in
    record { together = rw (p.1, same.degree, same.versions) (pruned_together c.args.self.now.together wrote) }

pub returns : goal.returns
returns g c =
    let same = c.write_packed.ensures.1 in
    let p = c.prune_scored-r.ensures in
    let wrote = wrote_pruned c.requires.0 c.args.out.now _ c.requires.2 c.prune_scored-r.auto.out p.0 c.write_packed.ensures.0 in
    (rw (p.1, same.degree, same.versions) wrote, record { slices = same; rows = refl; alpha = refl; marks = refl; kept = refl; space = p.1 }, behind_stays c.args.self.now.rows.now.degree c.args.out.now _ c.requires.2 c.prune_scored-r.auto.out p.0.few _ c.write_packed.auto.list)
