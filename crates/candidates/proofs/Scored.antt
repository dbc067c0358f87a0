-- Slots with their distances, and slots alone: lengths, what is appended, and what holds of each. Assumes nothing.
use Prim.Native.Nat.{ℕ, suc}
use mathlib.Core.Path.{◌≡◌, refl, ap}
use mathlib.Core.List.{List, [], ◌∷◌, ◌++◌}
use lib.ListN.{length}
use Rattle.lists.specs.Lists.{All}
use Rattle.lists.proofs.Equal.{map_equal}
use Rattle.candidates.specs.Candidates.{Candidate, scored, ids}

pub scored_append : (near : ℕ → ℕ) (xs ys : List ℕ) → scored near (xs ++ ys) ≡ scored near xs ++ scored near ys
scored_append near [] ys = refl
scored_append near (x ∷ xs) ys = ap (λ (cs : List Candidate). record { dist = near x; id = x } ∷ cs) (scored_append near xs ys)

pub scored_length : (near : ℕ → ℕ) (xs : List ℕ) → length (scored near xs) ≡ length xs
scored_length near [] = refl
scored_length near (x ∷ xs) = ap suc (scored_length near xs)

-- by two distances that are equal on the slots with P
pub scored_equal : (P : ℕ → Type 0) (near near' : ℕ → ℕ) → ((s : ℕ) → P s → near s ≡ near' s) → (xs : List ℕ) → All P xs → scored near xs ≡ scored near' xs
scored_equal P near near' same = map_equal P _ _ (λ s p. ap (λ (n : ℕ). record { dist = n; id = s }) (same s p))

pub ids_scored : (near : ℕ → ℕ) (xs : List ℕ) → ids (scored near xs) ≡ xs
ids_scored near [] = refl
ids_scored near (x ∷ xs) = ap (λ (l : List ℕ). x ∷ l) (ids_scored near xs)

pub ids_length : (cs : List Candidate) → length (ids cs) ≡ length cs
ids_length [] = refl
ids_length (c ∷ cs) = ap suc (ids_length cs)

pub all_scored : (P : Candidate → Type 0) (near : ℕ → ℕ) (xs : List ℕ) → All (λ x. P (record { dist = near x; id = x })) xs → All P (scored near xs)
all_scored P near [] h = tt
all_scored P near (x ∷ xs) h = (h.0, all_scored P near xs h.1)

pub all_ids : (P : ℕ → Type 0) (cs : List Candidate) → All (λ c. P c.id) cs → All P (ids cs)
all_ids P [] h = tt
all_ids P (c ∷ cs) h = (h.0, all_ids P cs h.1)
