use mathlib.Core.Path.{◌∙◌, ap}
use Rattle.std.specs.Int.{from_bool}
use Rattle.words.proofs.Held.{words_told}
use Rattle.words.proofs.index_words.words_from.Goals as goal

pub returns : goal.returns
returns c = words_told c.args.index (c.from-on.ensures ∙ ap from_bool c.is_some.ensures) c.unwrap_or-g.ensures
