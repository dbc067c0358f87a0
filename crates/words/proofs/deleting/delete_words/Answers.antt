use Rattle.words.proofs.Emptied.{deleted_number, leaves_stats}
use Rattle.words.proofs.deleting.delete_words.Goals as goal

pub put_deleted-requires : goal.put_deleted-requires
put_deleted-requires c = deleted_number c.delete-answer.ensures.0

pub returns : goal.returns
returns c = (leaves_stats _ _ c.index_from-held.ensures c.stats_place-place.ensures c.delete-answer.ensures.0 c.delete-answer.auto.scratch c.put_deleted.ensures, c.delete-answer.ensures.1)
