use Rattle.std.proofs.Common.{rules}
use mathlib.Core.Path.{refl}
use Rattle.deletion.proofs.Acting.{settled, repaired_finish, repaired}
use Rattle.deletion.proofs.acts.repair_rows.Goals as goal

pub finish_all-requires : goal.finish_all-requires
finish_all-requires c =
    let m = rw c.read-read.ensures at c.make_plans.ensures in
    let p = c.link_rows.ensures in
    repaired_finish c.requires.together c.requires.repairable m (settled p.1 p.0 (search rules) (search rules)) refl

pub returns : goal.returns
returns c =
    let m = rw c.read-read.ensures at c.make_plans.ensures in
    let p = c.link_rows.ensures in
    let x = c.finish_all.ensures.1 in (
      repaired c.requires.together c.requires.repairable m (settled p.1 p.0 (search rules) (search rules)) c.finish_all.ensures.0,
      record { space = x.space; degree = x.degree; targets = x.targets; edges = x.edges; versions = x.versions; marks = x.marks },
    )
