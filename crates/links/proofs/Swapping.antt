-- `swap_remove` by place: the last takes the place of the one that leaves, and no number stands twice before or after. Assumes nothing.
use Prim.Native.Nat.{ℕ, zero, suc, ◌≤◌, ◌<◌}
use mathlib.Core.Bool.{Bool, true, false, cond, true≢false}
use mathlib.Core.Path.{◌≡◌, refl, ap, sym, ◌∙◌}
use mathlib.Core.List.{List, [], ◌∷◌, map}
use native.Mathlib.Omega.{arith}
use native.Mathlib.Decide.{dec_lt}
use borrow.Author.Tests.{eq-eqb, ne_eqb, eqb-true, eqb-false}
use lib.Dec.{eqb}
use lib.ListN.{length, get_or, set, take, length-take}
use lib.Seq.{get_or-take, get_or-set_same, get_or-set_other}
use Rattle.lists.specs.Lists.{elem, last, init}
use Rattle.lists.proofs.Unique.{Unique, or_false_l, or_false_r}
use Rattle.repair.specs.Repair.{swap_remove}
use Rattle.links.specs.Inner.Planning.{Distinct}

last_is : (a : ℕ) (xs : List ℕ) (n : ℕ) → length xs ≡ suc n → last a xs ≡ get_or xs n 0
last_is a [] n e = absurd (omega arith)
last_is a (x ∷ []) zero e = refl
last_is a (x ∷ []) (suc n) e = absurd (omega arith)
last_is a (x ∷ y ∷ ys) zero e = absurd (omega arith)
last_is a (x ∷ y ∷ ys) (suc n) e = last_is x (y ∷ ys) n (omega arith)

init_is : (xs : List ℕ) (n : ℕ) → length xs ≡ suc n → init xs ≡ take n xs
init_is [] n e = absurd (omega arith)
init_is (x ∷ []) zero e = refl
init_is (x ∷ []) (suc n) e = absurd (omega arith)
init_is (x ∷ y ∷ ys) zero e = absurd (omega arith)
init_is (x ∷ y ∷ ys) (suc n) e = ap (λ (t : List ℕ). x ∷ t) (init_is (y ∷ ys) n (omega arith))

abbrev instead : ℕ → ℕ → ℕ → ℕ
instead x l y = cond (eqb y x) l y

instead_none : (x l : ℕ) (xs : List ℕ) (n : ℕ) → n ≤ length xs → ((j : ℕ) → j < n → get_or xs j 0 ≡ x → ⊥) → map (instead x l) (take n xs) ≡ take n xs
instead_none x l xs zero h f = refl
instead_none x l [] (suc n) h f = refl
instead_none x l (y ∷ xs) (suc n) h f = rw (ne_eqb y x (f 0 (omega arith)), instead_none x l xs n (omega arith) (λ j k. f (suc j) (omega arith)))

instead_at : (x l : ℕ) (xs : List ℕ) (n i : ℕ) → n ≤ length xs → get_or xs i 0 ≡ x → ((j : ℕ) → j < n → (j ≡ i → ⊥) → get_or xs j 0 ≡ x → ⊥)
    → map (instead x l) (take n xs) ≡ take n (set xs i l)
instead_at x l xs zero i h e f = refl
instead_at x l [] (suc n) i h e f = absurd (omega arith)
instead_at x l (y ∷ xs) (suc n) zero h e f = rw (eq-eqb y x e, instead_none x l xs n (omega arith) (λ j k. f (suc j) (omega arith) (λ z. omega arith)))
instead_at x l (y ∷ xs) (suc n) (suc i) h e f =
    rw (ne_eqb y x (f 0 (omega arith) (λ z. omega arith)), instead_at x l xs n i (omega arith) e (λ j k z. f (suc j) (omega arith) (λ w. z (omega arith))))

apart : {xs : List ℕ} → Distinct xs → (i j : ℕ) → i < length xs → j < length xs → (j ≡ i → ⊥) → get_or xs j 0 ≡ get_or xs i 0 → ⊥
apart {xs} f i j h k n e = go (dec_lt i j) (dec_lt j i)
  where
    go : Dec (i < j) → Dec (j < i) → ⊥
    go (yes l) o = f.unlike i j l k (sym e)
    go (no l) (yes o) = f.unlike j i o h e
    go (no l) (no o) = n (omega arith)

pub swap_is : (xs : List ℕ) (n i : ℕ) → length xs ≡ suc n → i < suc n → Distinct xs → swap_remove (get_or xs i 0) xs ≡ take n (set xs i (get_or xs n 0))
swap_is xs n i e h f =
    rw (last_is 0 xs n e, init_is xs n e)
    (instead_at (get_or xs i 0) (get_or xs n 0) xs n i (omega arith) refl (λ j k z. apart f i j (omega arith) (omega arith) z))

pub distinct_swap : (xs : List ℕ) (n i : ℕ) → length xs ≡ suc n → i < suc n → Distinct xs → Distinct (take n (set xs i (get_or xs n 0)))
distinct_swap xs n i s h f = record { unlike = λ a b p q e. let l = short b q in go a b p l (eqb a i) refl (eqb b i) refl (sym (get_or-take n ys a 0 (omega arith)) ∙ e ∙ get_or-take n ys b 0 l) }
  where
    w : ℕ
    w = get_or xs n 0

    ys : List ℕ
    ys = set xs i w

    short : (b : ℕ) → b < length (take n ys) → b < n
    short b q = omega (arith, length-take n ys)

    at : (a : ℕ) → eqb a i ≡ true → get_or ys a 0 ≡ w
    at a e = rw (eqb-true a i e) (get_or-set_same xs i w 0 (omega arith))

    off : (a : ℕ) → eqb a i ≡ false → get_or ys a 0 ≡ get_or xs a 0
    off a e = get_or-set_other xs i a w 0 (eqb-false a i e)

    go : (a b : ℕ) → a < b → b < n → (x : Bool) → eqb a i ≡ x → (y : Bool) → eqb b i ≡ y → get_or ys a 0 ≡ get_or ys b 0 → ⊥
    go a b p q true x true y e = absurd (omega (arith, eqb-true a i x, eqb-true b i y))
    go a b p q true x false y e = f.unlike b n q (omega arith) (sym (off b y) ∙ sym e ∙ at a x)
    go a b p q false x true y e = f.unlike a n (omega arith) (omega arith) (sym (off a x) ∙ e ∙ at b y)
    go a b p q false x false y e = f.unlike a b p (omega arith) (sym (off a x) ∙ e ∙ off b y)

-- ---- lists in which no number stands twice
not_at : (x : ℕ) (l : List ℕ) → elem x l ≡ false → (k : ℕ) → k < length l → x ≡ get_or l k 0 → ⊥
not_at x [] e k h i = absurd (omega arith)
not_at x (y ∷ l) e zero h i = true≢false (sym (eq-eqb x y i) ∙ or_false_l (eqb x y) (elem x l) e)
not_at x (y ∷ l) e (suc k) h i = not_at x l (or_false_r (eqb x y) (elem x l) e) k (omega arith) i

pub unique_apart : (xs : List ℕ) → Unique xs → Distinct xs
unique_apart xs u = record { unlike = go xs u }
  where
    go : (xs : List ℕ) → Unique xs → (i j : ℕ) → i < j → j < length xs → get_or xs i 0 ≡ get_or xs j 0 → ⊥
    go [] u i j h k e = absurd (omega arith)
    go (x ∷ xs) u i zero h k e = absurd (omega arith)
    go (x ∷ xs) u zero (suc j) h k e = not_at x xs u.0 j (omega arith) e
    go (x ∷ xs) u (suc i) (suc j) h k e = go xs u.1 i j (omega arith) (omega arith) e
