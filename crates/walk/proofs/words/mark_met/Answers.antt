use mathlib.Core.Path.{ap}
use native.Mathlib.Omega.{arith}
use lib.ListN.{get_or, set}
use mir.Syntax.{w32}
use mir.Val.{Fits}
use Rattle.std.proofs.Common.{rules}
use Rattle.walk.specs.Inner.Scratch.{mark_word}
use Rattle.walk.proofs.Fields.{add_shifted, add_fits}
use Rattle.walk.proofs.words.mark_met.Goals as goal

pub overflow_add-scratch-2 : goal.overflow_add-scratch-2
overflow_add-scratch-2 c =
    let fits : Fits w32 (get_or c.args.scratch.now (mark_word c.args.s) 0) = search rules in
    record { fits = rw c.place_of.ensures (add_fits _ _ _ (omega arith) (omega arith) fits.fits c.requires.1) }

pub returns : goal.returns
returns c =
    let fits : Fits w32 (get_or c.args.scratch.now (mark_word c.args.s) 0) = search rules in
    rw c.place_of.ensures (ap (set c.args.scratch.now (mark_word c.args.s)) (add_shifted _ 1 _ (omega arith) (omega arith) fits.fits c.requires.1))
