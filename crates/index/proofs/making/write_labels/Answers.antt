use Rattle.index.proofs.Makes.{labels_apart, labels_long}
use Rattle.index.proofs.making.write_labels.Goals as goal

pub summarize-requires : goal.summarize-requires
summarize-requires c = (labels_apart c.requires c.lay.ensures, labels_long c.requires c.lay.ensures)
