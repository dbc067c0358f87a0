use Rattle.words.specs.Inner.Putting.{number_in}
use Rattle.words.proofs.Told.{put_mapped, reads_number}
use Rattle.words.proofs.readings.read_number.Goals as goal

pub returns : goal.returns
returns c = reads_number c.requires c.read_value-read.ensures (put_mapped number_in c.read_value-read.result c.map.result _ c.map.ensures.cases c.put.ensures)
