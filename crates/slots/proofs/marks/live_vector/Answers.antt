use Rattle.std.proofs.Common.{length, sym, ◌∙◌, arith}
use Rattle.lists.proofs.Parts.{fits_in}
use Rattle.slots.proofs.Places.{live_inside}
use Rattle.slots.proofs.marks.live_vector.Goals as goal

pub vector-requires : goal.vector-requires
vector-requires c = let inside = live_inside _ c.args.s (sym c.is_valid.ensures ∙ c.if-is_valid.true) in
    omega (arith, fits_in c.args.dim (length c.args.marks.now) c.args.s _ inside c.requires.long)
