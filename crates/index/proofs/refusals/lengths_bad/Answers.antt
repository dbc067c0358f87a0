use mathlib.Core.Bool.{not}
use mathlib.Core.Path.{ap, ◌∙◌}
use Rattle.index.specs.Index.{sizes, lengths_in}
use Rattle.index.proofs.Decide.{lengths_compared}
use Rattle.index.proofs.refusals.lengths_bad.Goals as goal

pub returns : goal.returns
returns c = λ alpha.
    c.ne.ensures ∙ ap not (lengths_compared (sizes c.args.dim c.args.capacity c.args.degree alpha) (lengths_in c.args.lent) (lengths_in c.exact_lengths.result) (c.exact_lengths.ensures alpha))
