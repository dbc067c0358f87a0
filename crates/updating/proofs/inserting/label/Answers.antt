use Rattle.updating.proofs.Fills.{label_entering}
use Rattle.updating.proofs.inserting.label.Goals as goal

pub enter-requires : goal.enter-requires
enter-requires c = label_entering c.requires c.write_numbers.ensures
