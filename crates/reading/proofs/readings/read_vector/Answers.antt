use mathlib.Core.Path.{refl}
use Rattle.index.proofs.Decide.{passed, passed_bytes}
use Rattle.reading.proofs.Shown.{vector_back, vector_on}
use Rattle.reading.proofs.readings.read_vector.Goals as goal

pub returns-in_default : goal.returns-in_default
returns-in_default c = vector_back c.check_index.ensures c.in_default.is refl

pub live_vector-requires : goal.live_vector-requires
live_vector-requires c = passed_bytes (passed c.check_index.ensures c.in-Ok.is)

pub returns : goal.returns
returns c = vector_on c.check_index.ensures c.in-Ok.is refl c.live_vector.ensures
