use mathlib.Core.Path.{◌∙◌}
use Rattle.index.proofs.Decide.{live_few}
use Rattle.index.proofs.refusals.index_bad.Goals as goal

pub labels_bad-requires : goal.labels_bad-requires
labels_bad-requires c = (c.requires.0, c.requires.1, live_few c.args.slices.now.marks.now (c.if-live-count_valid.false ∙ c.count_valid.ensures))
