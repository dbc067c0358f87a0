-- Numbers that are taken: 15 in two tests, and by the places of the list. Assumes nothing.
use Prim.Native.Nat.{ℕ, zero, suc, ◌<◌}
use mathlib.Core.Bool.{Bool, true, false, not, ◌&&◌, ◌||◌}
use mathlib.Core.Path.{◌≡◌, refl, ap, sym, ◌∙◌}
use mathlib.Core.List.{List, [], ◌∷◌}
use native.Mathlib.Omega.{arith}
use borrow.Author.Tests.{eqb-false, eq-eqb, ne_eqb}
use lib.Dec.{eqb}
use lib.ListN.{length, get_or}
use Rattle.std.proofs.lemmas.Bool.{or_parts, or_right}
use Rattle.lists.specs.Lists.{All, Pairwise, elem}
use Rattle.lists.proofs.All.{all_map}
use Rattle.numbers.specs.Numbers.{taken}
use Rattle.numbers.specs.Inner.Held.{any_in}

-- ---- two tests

any_more : (n : ℕ) (held ns : List ℕ) → any_in (n ∷ held) ns ≡ any_in (n ∷ []) ns || any_in held ns
any_more n held [] = refl
any_more n held (m ∷ ns) = go (eqb m 0) (eqb m n) (elem m held) (any_in (n ∷ []) ns) (any_in held ns) (any_more n held ns)
  where
    go : (z q e b a : Bool) → any_in (n ∷ held) ns ≡ b || a → (not z && (q || e)) || any_in (n ∷ held) ns ≡ ((not z && (q || false)) || b) || ((not z && e) || a)
    go true q e b a r = r
    go false true e b a r = refl
    go false false true true a r = refl
    go false false true false a r = refl
    go false false false b a r = r

-- numbers are taken that slots hold, or that are 0 or twice in the list
pub taken_split : (held ns : List ℕ) → taken held ns ≡ any_in held ns || taken [] ns
taken_split held [] = refl
taken_split held (n ∷ ns) =
    ap (λ b. (eqb n 0 || elem n held) || b) (taken_split (n ∷ held) ns ∙ ap (λ b. b || taken [] ns) (any_more n held ns))
    ∙ go (eqb n 0) (elem n held) (any_in (n ∷ []) ns) (any_in held ns) (taken [] ns)
    ∙ ap (λ b. ((not (eqb n 0) && elem n held) || any_in held ns) || ((eqb n 0 || false) || b)) (sym (taken_split (n ∷ []) ns))
  where
    go : (z e b a t : Bool) → (z || e) || ((b || a) || t) ≡ ((not z && e) || a) || ((z || false) || (b || t))
    go true e b true t = refl
    go true e b false t = refl
    go false true b a t = refl
    go false false true true t = refl
    go false false true false t = refl
    go false false false true t = refl
    go false false false false t = refl

-- ---- none taken

-- above 0, held by none, and distinct
pub taken_none : (held ns : List ℕ) → taken held ns ≡ false → All (λ m. (0 < m) × (elem m held ≡ false)) ns × Pairwise (λ a b. a ≡ b → ⊥) ns
taken_none held [] e = (tt, tt)
taken_none held (n ∷ ns) e =
    let a : (eqb n 0 || elem n held) ≡ false = (or_parts (eqb n 0 || elem n held) (taken (n ∷ held) ns) e).0 in
    let z = eqb-false n 0 (or_parts (eqb n 0) (elem n held) a).0 in
    let r = taken_none (n ∷ held) ns ((or_parts (eqb n 0 || elem n held) (taken (n ∷ held) ns) e).1) in (
      ((omega arith, (or_parts (eqb n 0) (elem n held) a).1), all_map (λ m. (0 < m) × (elem m (n ∷ held) ≡ false)) (λ m. (0 < m) × (elem m held ≡ false)) (λ m h. (h.0, (or_parts (eqb m n) (elem m held) h.1).1)) ns r.0),
      (all_map (λ m. (0 < m) × (elem m (n ∷ held) ≡ false)) (λ m. n ≡ m → ⊥) (λ m h i. eqb-false m n (or_parts (eqb m n) (elem m held) h.1).0 (sym i)) ns r.0, r.1),
    )

-- ---- by the places of the list

-- a number that is 0
pub taken_zero : (held ns : List ℕ) (i : ℕ) → i < length ns → get_or ns i 0 ≡ 0 → taken held ns ≡ true
taken_zero held [] i h e = absurd (omega arith)
taken_zero held (n ∷ ns) zero h e = rw (eq-eqb n 0 e)
taken_zero held (n ∷ ns) (suc i) h e = or_right (eqb n 0 || elem n held) _ (taken_zero (n ∷ held) ns i (omega arith) e)

-- a number that is held
pub taken_held : (held ns : List ℕ) (i : ℕ) → i < length ns → elem (get_or ns i 0) held ≡ true → taken held ns ≡ true
taken_held held [] i h e = absurd (omega arith)
taken_held held (n ∷ ns) zero h e = rw (or_right (eqb n 0) _ e)
taken_held held (n ∷ ns) (suc i) h e = or_right (eqb n 0 || elem n held) _ (taken_held (n ∷ held) ns i (omega arith) (or_right (eqb (get_or ns i 0) n) _ e))

-- a number that stands twice
pub taken_twice : (held ns : List ℕ) (i j : ℕ) → i < j → j < length ns → get_or ns i 0 ≡ get_or ns j 0 → taken held ns ≡ true
taken_twice held [] i j l h e = absurd (omega arith)
taken_twice held (n ∷ ns) i zero l h e = absurd (omega arith)
taken_twice held (n ∷ ns) zero (suc j) l h e =
    or_right (eqb n 0 || elem n held) _ (taken_held (n ∷ held) ns j (omega arith) (rw (eq-eqb (get_or ns j 0) n (sym e))))
taken_twice held (n ∷ ns) (suc i) (suc j) l h e = or_right (eqb n 0 || elem n held) _ (taken_twice (n ∷ held) ns i j (omega arith) (omega arith) e)

-- no such number
pub taken_no : (held ns : List ℕ) → ((i : ℕ) → i < length ns → (get_or ns i 0 ≡ 0 → ⊥) × (elem (get_or ns i 0) held ≡ false))
    → ((i j : ℕ) → i < j → j < length ns → get_or ns i 0 ≡ get_or ns j 0 → ⊥) → taken held ns ≡ false
taken_no held [] h d = refl
taken_no held (n ∷ ns) h d =
    rw (ne_eqb n 0 (h 0 (omega arith)).0, (h 0 (omega arith)).1)
    (taken_no (n ∷ held) ns
    (λ i k. ((h (suc i) (omega arith)).0, rw (ne_eqb (get_or ns i 0) n (λ e. d 0 (suc i) (omega arith) (omega arith) (sym e))) (h (suc i) (omega arith)).1))
    (λ i j l k. d (suc i) (suc j) (omega arith) (omega arith)))
