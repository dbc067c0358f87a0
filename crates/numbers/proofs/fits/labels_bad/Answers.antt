use Prim.Native.Nat.{ℕ}
use mathlib.Core.Path.{ap, sym, ◌∙◌}
use mathlib.Core.Bool.{not, true≢false}
use mathlib.Core.List.{List}
use native.Mathlib.Omega.{arith}
use Rattle.std.proofs.lemmas.Slice.{between_to_end}
use Rattle.numbers.specs.Numbers.{all_blank}
use Rattle.numbers.proofs.Tests.{bad_numbers, bad_order, bad_rest}
use Rattle.numbers.proofs.fits.labels_bad.Goals.{then-numbers_misfit, else-numbers_misfit}
use Rattle.numbers.proofs.fits.labels_bad.Goals as goal

pub returns-then-falls : goal.returns-then-falls
returns-then-falls c =
    elim c.if-numbers_misfit.branch [
      | then-numbers_misfit w ↦ c.if-falls.true ∙ bad_numbers _ _ _ _ _ c.numbers_misfit.ensures w.if-numbers_misfit.true
      | else-numbers_misfit w ↦ c.if-falls.true ∙ bad_order _ _ _ _ _ c.numbers_misfit.ensures w.if-numbers_misfit.false c.requires.0 w.falls.ensures (sym w.value-is ∙ c.if-falls.true)
    ]

pub returns-else-falls : goal.returns-else-falls
returns-else-falls c =
    elim c.if-numbers_misfit.branch [
      | then-numbers_misfit w ↦ absurd (true≢false (sym w.if-numbers_misfit.true ∙ sym w.value-is ∙ c.if-falls.false))
      | else-numbers_misfit w ↦ bad_rest _ _ _ _ _ c.numbers_misfit.ensures w.if-numbers_misfit.false c.requires.0 w.falls.ensures (sym w.value-is ∙ c.if-falls.false) (c.holds_slot.ensures ∙ ap (λ (xs : List ℕ). not (all_blank xs)) (between_to_end c.args.summary.now c.args.live _ (omega arith)))
    ]
