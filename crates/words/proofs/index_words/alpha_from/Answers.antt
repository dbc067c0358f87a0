use Rattle.words.proofs.Held.{bits_nan, bits_number, alpha_nan, alpha_number, number_bits}
use Rattle.words.proofs.index_words.alpha_from.Goals as goal

pub returns-then-bits-gt2139095040 : goal.returns-then-bits-gt2139095040
returns-then-bits-gt2139095040 c = alpha_nan c.args.bits (bits_nan c.args.bits c.if-bits-gt2139095040.true)

pub float_from_bits-result : goal.float_from_bits-result
float_from_bits-result c = number_bits c.args.bits (bits_number c.args.bits c.if-bits-gt2139095040.false)

pub returns : goal.returns
returns c = alpha_number c.args.bits (bits_number c.args.bits c.if-bits-gt2139095040.false)
