-- Where one of three lists of candidates is empty, nothing is read.
use denote.Ref.{Bor}
use Rattle.std.proofs.Common.{List, [], ◌∷◌, Option, ℕ, ◌≡◌, refl, length, Float, true, false, arith}
use Rattle.std.proofs.lemmas.Bool.{not-false}
use Rattle.std.specs.Float.Ieee.{eq, ne}
use Rattle.looks.specs.Inner.Readings.{CandidatesRead}

pub no_slots : (left : Option (Bor (List ℕ))) (slots : List ℕ) (dists : List Float) (figures : List ℕ) → length slots ≡ 0 → CandidatesRead left left slots dists figures
no_slots left [] dists figures none = refl
no_slots left (slot ∷ slots) dists figures none = absurd (omega arith)

pub no_dists : (left : Option (Bor (List ℕ))) (slots : List ℕ) (dists : List Float) (figures : List ℕ) → length dists ≡ 0 → CandidatesRead left left slots dists figures
no_dists left [] dists figures none = refl
no_dists left (slot ∷ slots) [] figures none = refl
no_dists left (slot ∷ slots) (dist ∷ dists) figures none = absurd (omega arith)

pub no_figures : (left : Option (Bor (List ℕ))) (slots : List ℕ) (dists : List Float) (figures : List ℕ) → length figures ≡ 0 → CandidatesRead left left slots dists figures
no_figures left [] dists figures none = refl
no_figures left (slot ∷ slots) [] figures none = refl
no_figures left (slot ∷ slots) (dist ∷ dists) [] none = refl
no_figures left (slot ∷ slots) (dist ∷ dists) (figure ∷ figures) none = absurd (omega arith)

-- what does not differ is equal
pub equal_from_ne : (x y : Float) → ne x y ≡ false → eq x y ≡ true
unfolding ne
equal_from_ne x y same = not-false (eq x y) same
