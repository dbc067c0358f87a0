use denote.Ref.{Bor}
use Rattle.std.proofs.Common.{rules, ◌≡◌, ◌∙◌, ◌<◌, refl, sym, length, List, ℕ, Option, Some, MatchOption}
use mathlib.Core.Path.{subst}
use Rattle.std.specs.List.{All, AllByRecursion, AllWithin, HoldsAt}
use Rattle.std.proofs.lemmas.Iterator.{YieldsList-from_slice, first_from_find}
use Rattle.std.proofs.lemmas.List.Elements.{All-from_recursion}
use Rattle.lines.specs.declared.words.Call.{Call}
use Rattle.lines.specs.Inner.Words.{word_of}
use Rattle.lines.proofs.words.CallTryFromRefSliceU8.try_from.Goals as goal

-- the one that is found is one of the list: what holds of each holds of it
one_of : {B : Type 0} (P Yes No : B → Type 0) (all : List B) → All P all → (r : Option (Bor B)) (x : Bor B) → r ≡ Some x
    → MatchOption r (AllWithin No all 0 (length all)) (λ x. Yes x.now × (i : ℕ) × (i < length all) × HoldsAt (λ y. y ≡ x.now) all i × AllWithin No all 0 i)
    → Yes x.now × P x.now
one_of P Yes No all each r x is found =
    let at = subst (λ r. MatchOption r (AllWithin No all 0 (length all)) (λ x. Yes x.now × (i : ℕ) × (i < length all) × HoldsAt (λ y. y ≡ x.now) all i × AllWithin No all 0 i)) is found in
    (at.0, subst P (at.3 x.now) (each at.1 x.now at.2))

pub returns : goal.returns
returns c =
    let Spelled = λ (pair : Bor (List ℕ) × Call). pair.0.now ≡ word_of pair.1 in
    let table = c.iter.result.rest.now in
    let spelled : AllByRecursion Spelled table = subst (AllByRecursion Spelled) (sym c.iter.ensures.rest) (refl, (refl, (refl, (refl, (refl, (refl, (refl, (refl, (refl, (refl, (refl, (refl, (refl, (refl, (refl, (refl, (refl, (refl, tt)))))))))))))))))) in
    let found = first_from_find _ _ c.find-named.result (λ pair. pair.0.now ≡ c.args.word.now) (λ pair. Unit {0}) c.find-named.ensures.ran (YieldsList-from_slice {s = c.iter.result} _ refl) (λ x q k. search rules) (λ x q k. search rules) in
    let one = one_of Spelled (λ pair. pair.0.now ≡ c.args.word.now) (λ pair. Unit {0}) table (All-from_recursion Spelled table spelled) c.find-named.result c.in_ok-call.field-0 (search rules) found in
    sym one.0 ∙ one.1
