-- The order of candidates: what comes before is passed on, of two candidates at most one comes before the other, and of two slots one does.
-- Assumes nothing.
use Prim.Native.Nat.{ℕ, ◌≤◌, ◌<◌}
use mathlib.Core.Bool.{Bool, true, false, ◌&&◌, ◌||◌}
use mathlib.Core.Path.{◌≡◌, refl, sym, ◌∙◌}
use mathlib.Core.Logic.{◌⊎◌, inl, inr}
use native.Mathlib.Omega.{arith}
use lib.Dec.{eqb, ltb}
use borrow.Author.Tests.{ltb-true, ltb-false, eqb-true, eqb-false, lt-ltb, le-ltb, eq-eqb}
use Rattle.candidates.specs.Candidates.{Candidate, before}

abbrev Before : Candidate → Candidate → Type 0
Before a b = (a.dist < b.dist) ⊎ ((a.dist ≡ b.dist) × (a.id < b.id))

module _ (a b : Candidate) where
  before_when : Before a b → before a b ≡ true
  before_when (inl h) = rw (lt-ltb _ _ h)
  before_when (inr h) = let k : b.dist ≤ a.dist = omega (arith, h.0) in rw (le-ltb _ _ k, eq-eqb _ _ h.0) (lt-ltb _ _ h.1)

  before_then : before a b ≡ true → Before a b
  before_then = go (ltb a.dist b.dist) (eqb a.dist b.dist) refl refl
    where
      go : (p q : Bool) → ltb a.dist b.dist ≡ p → eqb a.dist b.dist ≡ q → (p || q && ltb a.id b.id) ≡ true → Before a b
      go true q e f h = inl (ltb-true _ _ e)
      go false true e f h = inr (eqb-true _ _ f, ltb-true _ _ h)
      go false false e f h = let z : ◌≡◌ {A = ℕ} 0 1 = cc in absurd (omega arith)

  not_before : before a b ≡ false → (b.dist < a.dist) ⊎ ((b.dist ≡ a.dist) × (b.id ≤ a.id))
  not_before = go (ltb a.dist b.dist) (eqb a.dist b.dist) refl refl
    where
      go : (p q : Bool) → ltb a.dist b.dist ≡ p → eqb a.dist b.dist ≡ q → (p || q && ltb a.id b.id) ≡ false
          → (b.dist < a.dist) ⊎ ((b.dist ≡ a.dist) × (b.id ≤ a.id))
      go true q e f h = let z : ◌≡◌ {A = ℕ} 0 1 = cc in absurd (omega arith)
      go false true e f h = inr (sym (eqb-true _ _ f), ltb-false _ _ h)
      go false false e f h = let n = eqb-false a.dist b.dist f in inl (omega (arith, ltb-false a.dist b.dist e))

pub before_before : (a b c : Candidate) → before a b ≡ true → before b c ≡ true → before a c ≡ true
before_before a b c h k = before_when a c (go (before_then a b h) (before_then b c k))
  where
    go : Before a b → Before b c → Before a c
    go (inl x) (inl y) = inl (omega arith)
    go (inl x) (inr y) = inl (omega (arith, y.0))
    go (inr x) (inl y) = inl (omega (arith, x.0))
    go (inr x) (inr y) = inr (x.0 ∙ y.0, omega (arith, x.1, y.1))

pub before_once : (a b : Candidate) → before a b ≡ true → before b a ≡ false
before_once a b h = go (before b a) refl (before_then a b h)
  where
    both : Before a b → Before b a → ⊥
    both (inl x) (inl y) = omega arith
    both (inl x) (inr y) = omega (arith, y.0)
    both (inr x) (inl y) = omega (arith, x.0)
    both (inr x) (inr y) = omega (arith, x.1, y.1)

    go : (q : Bool) → before b a ≡ q → Before a b → q ≡ false
    go true e x = absurd (both x (before_then b a e))
    go false e x = refl

pub before_other : (a b : Candidate) → (a.id ≡ b.id → ⊥) → before a b ≡ false → before b a ≡ true
before_other a b d h = before_when b a (go (not_before a b h))
  where
    go : (b.dist < a.dist) ⊎ ((b.dist ≡ a.dist) × (b.id ≤ a.id)) → Before b a
    go (inl x) = inl x
    go (inr x) = inr (x.0, omega (arith, x.1))

pub before_apart : (a b : Candidate) → before a b ≡ true → a.dist ≡ b.dist → a.id ≡ b.id → ⊥
before_apart a b h d i = go (before_then a b h)
  where
    go : Before a b → ⊥
    go (inl x) = omega arith
    go (inr x) = omega (arith, x.1)
