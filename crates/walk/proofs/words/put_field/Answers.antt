use Rattle.walk.proofs.Fields.{put_within, put_fits, put_shifted}
use Rattle.walk.proofs.words.put_field.Goals as goal

pub overflow_sub-result : goal.overflow_sub-result
overflow_sub-result c = put_within c.requires c.ranges.word.fits c.field-old.ensures

pub overflow_add-result : goal.overflow_add-result
overflow_add-result c = record { fits = put_fits c.requires c.ranges.word.fits c.field-old.ensures }

pub returns : goal.returns
returns c = put_shifted c.requires c.ranges.word.fits c.field-old.ensures
