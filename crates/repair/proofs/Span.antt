-- The number that bounds `span` never cuts: each turn connects one that remained, and `repair_links` begins with as many turns as there remain.
-- Assumes nothing.
use Prim.Native.Nat.{ℕ, zero, suc, ◌+◌, ◌≤◌}
use mathlib.Core.Bool.{Bool, true, false, not, cond}
use mathlib.Core.Path.{◌≡◌, refl, ap, ◌∙◌}
use mathlib.Core.List.{List, [], ◌∷◌, ◌++◌}
use native.Mathlib.Omega.{arith}
use borrow.Author.Tests.{eq-eqb}
use lib.ListN.{length, length-map}
use lib.Dec.{eqb, ltb}
use Rattle.lists.specs.Lists.{filter, init, last, least_from, least_of}
use Rattle.repair.specs.Repair.{Link, swap_remove, links, span, repair_links}

-- the examples are checked first, so that a wrong definition shows in one of them

length_init : (x : ℕ) (xs : List ℕ) → length (init (x ∷ xs)) ≡ length xs
length_init x [] = refl
length_init x (y ∷ ys) = ap suc (length_init y ys)

pub one_less : (x r : ℕ) (rs : List ℕ) → length (swap_remove x (r ∷ rs)) ≡ length rs
one_less x r rs = length-map (init (r ∷ rs)) (λ y. cond (eqb y x) (last 0 (r ∷ rs)) y) ∙ length_init r rs

-- more turns than there remain change nothing
module _ (d : ℕ → ℕ → ℕ) (degree : ℕ) where
  pub span_enough : (m n : ℕ) (connected remaining : List ℕ) → length remaining ≤ n → n ≤ m → span d degree m connected remaining ≡ span d degree n connected remaining
  unfolding span
  span_enough zero zero c r l h = refl
  span_enough zero (suc n) c r l h = absurd (omega arith)
  span_enough (suc m) zero c [] l h = refl
  span_enough (suc m) zero c (r ∷ rs) l h = absurd (omega arith)
  span_enough (suc m) (suc n) c [] l h = refl
  span_enough (suc m) (suc n) c (r ∷ rs) l h =
      let next = least_from (λ x. least_of (d x) c) r rs in
      ap (λ (ls : List Link). links d degree c next ++ ls)
      (span_enough m n (c ++ (next ∷ [])) (swap_remove next (r ∷ rs)) (omega (arith, one_less next r rs)) (omega arith))

-- ---- the start is one of the candidates, so that one fewer remain

abbrev others : ℕ → List ℕ → List ℕ
others s xs = filter (λ x. not (eqb x s)) xs

-- 1 of a slot that remains
abbrev remains : ℕ → ℕ → ℕ
remains s x = cond (eqb x s) 0 1

others_more : (s x : ℕ) (xs : List ℕ) → length (others s (x ∷ xs)) ≡ remains s x + length (others s xs)
others_more s x xs = go (eqb x s)
  where
    go : (q : Bool) → length (cond (not q) (x ∷ others s xs) (others s xs)) ≡ cond q 0 1 + length (others s xs)
    go true = omega arith
    go false = omega arith

at_most_one : (s x : ℕ) → remains s x ≤ 1
at_most_one s x = go (eqb x s)
  where
    go : (q : Bool) → cond q 0 1 ≤ 1
    go true = omega arith
    go false = omega arith

-- the least of a and a list is one of them
pub others_fewer : (m : ℕ → ℕ) (a : ℕ) (xs : List ℕ) → length (others (least_from m a xs) (a ∷ xs)) ≤ length xs
others_fewer m a [] = rw (eq-eqb a a refl) (omega arith)
others_fewer m a (x ∷ xs) = go (ltb (m x) (m a)) (others_fewer m x xs) (others_fewer m a xs)
  where
    go : (q : Bool) → length (others (least_from m x xs) (x ∷ xs)) ≤ length xs → length (others (least_from m a xs) (a ∷ xs)) ≤ length xs
        → length (others (least_from m (cond q x a) xs) (a ∷ x ∷ xs)) ≤ suc (length xs)
    go true hx ha = let s = least_from m x xs in omega (arith, others_more s a (x ∷ xs), at_most_one s a, hx)
    go false hx ha = let s = least_from m a xs in omega (arith, others_more s a (x ∷ xs), others_more s x xs, others_more s a xs, at_most_one s x, ha)

-- `repair_links` with any number of turns from that on
pub repair_enough : (d : ℕ → ℕ → ℕ) (degree entry c : ℕ) (cs : List ℕ) (n : ℕ) → length cs ≤ n
    → let start = least_from (λ x. d x entry) c cs in span d degree n (start ∷ []) (others start (c ∷ cs)) ≡ repair_links d degree entry (c ∷ cs)
unfolding repair_links
repair_enough d degree entry c cs n h =
    let start = least_from (λ x. d x entry) c cs in
    span_enough d degree n (length cs) (start ∷ []) (others start (c ∷ cs)) (others_fewer (λ x. d x entry) c cs) h
