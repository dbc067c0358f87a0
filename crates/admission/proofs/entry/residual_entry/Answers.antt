use Rattle.std.proofs.Common.{rules, ◌≡◌, true, false}
use Rattle.std.proofs.lemmas.Iterator.{first_from_Range}
use Rattle.landmarks.specs.Inner.Samples.{remains}
use Rattle.admission.proofs.Entering.{first_entered, entry_kept}
use Rattle.admission.proofs.entry.residual_entry.Goals as goal

pub returns-then-stays : goal.returns-then-stays
returns-then-stays c = entry_kept c.args.marks.now c.args.ids.now c.args.entry c.stays.ensures c.if-stays.true

pub returns : goal.returns
returns c =
    let marks = c.args.marks.now in
    let ids = c.args.ids.now in
    first_entered marks ids c.args.entry c.stays.ensures c.if-stays.false (search rules) c.find.result
    (first_from_Range _ _ _ _ (λ s. remains marks ids s ≡ true) (λ s. remains marks ids s ≡ false) c.find.ensures.ran (λ x q k. search rules) (λ x q k. search rules))
