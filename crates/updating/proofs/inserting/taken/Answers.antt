use mathlib.Core.Path.{sym, ◌∙◌}
use Rattle.numbers.proofs.Taken.{taken_split}
use Rattle.updating.proofs.inserting.taken.Goals as goal

pub returns-then-any_live : goal.returns-then-any_live
returns-then-any_live c = rw (taken_split c.args.labels.now.numbers.now c.args.given.now, sym c.any_live.ensures ∙ c.if-any_live.true) c.if-any_live.true

pub returns-else-any_live : goal.returns-else-any_live
returns-else-any_live c = rw (taken_split c.args.labels.now.numbers.now c.args.given.now, sym c.any_live.ensures ∙ c.if-any_live.false) c.repeated.ensures
