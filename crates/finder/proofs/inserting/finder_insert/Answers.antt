use Rattle.std.proofs.Common.{rules}
use Rattle.words.proofs.Filling.{inserted_number, inserts_words}
use Rattle.finder.proofs.inserting.finder_insert.Goals as goal

pub put_changed-requires : goal.put_changed-requires
put_changed-requires c = inserted_number c.insert-answer.ensures.0

pub returns : goal.returns
returns c = let d = inserts_words _ c.index_from-held.ensures c.insert-answer.ensures.0 c.put_changed.ensures in search (rules, d)
