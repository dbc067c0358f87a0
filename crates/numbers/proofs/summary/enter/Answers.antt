use Rattle.numbers.proofs.Listing.{entering_pasted, entering_front, entered_front}
use Rattle.numbers.proofs.summary.enter.Goals as goal

pub returns-then-n-le16 : goal.returns-then-n-le16
returns-then-n-le16 c = entered_front c.requires (entering_pasted c.requires c.copy.ensures) c.settle.ensures

pub sort-requires : goal.sort-requires
sort-requires c = (entering_front c.requires (entering_pasted c.requires c.copy.ensures)).0

pub returns : goal.returns
returns c = entered_front c.requires (entering_pasted c.requires c.copy.ensures) c.sort.ensures
