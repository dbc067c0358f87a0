use Rattle.words.proofs.Applied.{applied_number, leaves_guarded}
use Rattle.words.proofs.guarded_delete.guarded_words.Goals as goal

pub put_guarded-requires : goal.put_guarded-requires
put_guarded-requires c = applied_number c.guarded_delete-answer.ensures.0

pub returns : goal.returns
returns c = (
  leaves_guarded c.args.written.now.words.now c.args.written.now.found.now c.args.written.now.report.now _ c.index_from-held.ensures c.stats_place-place.ensures c.guarded_delete-answer.ensures.0 (c.put_guarded.ensures.0, c.put_guarded.ensures.1),
  c.guarded_delete-answer.ensures.1,
  c.guarded_delete-answer.ensures.2,
  c.put_guarded.ensures.2,
)
