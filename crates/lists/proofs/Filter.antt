-- Filters: lengths, a filter that leaves all, and two filters in one. Assumes nothing.
use Prim.Native.Nat.{suc, ◌≤◌}
use mathlib.Core.Path.{◌≡◌, refl, ap}
use mathlib.Core.Bool.{Bool, true, false, not, ◌&&◌, ◌||◌, cond}
use mathlib.Core.List.{List, [], ◌∷◌}
use native.Mathlib.Omega.{arith}
use lib.ListN.{length}
use Rattle.lists.specs.Lists.{filter}
use Rattle.lists.proofs.All.{by_cases}

module _ {A : Type 0} where
  pub filter_length : (p : A → Bool) (l : List A) → length (filter p l) ≤ length l
  filter_length p [] = omega arith
  filter_length p (x ∷ l) =
      let rest = filter_length p l in
      by_cases (λ (m : List A). length m ≤ suc (length l)) (p x) (λ e. omega arith) (λ e. omega arith)

  pub filter_every : (l : List A) → filter (λ x. true) l ≡ l
  filter_every [] = refl
  filter_every (x ∷ l) = ap (λ (m : List A). x ∷ m) (filter_every l)

  -- what neither of two tests leaves out
  pub filter_or : (p q : A → Bool) (l : List A) → filter (λ x. not (p x || q x)) l ≡ filter (λ x. not (q x)) (filter (λ x. not (p x)) l)
  filter_or p q [] = refl
  filter_or p q (x ∷ l) = go (p x) (q x) refl (filter_or p q l)
    where
      one : List A
      one = filter (λ x. not (p x)) l

      both : List A
      both = filter (λ x. not (p x || q x)) l

      go : (a b : Bool) → q x ≡ b → both ≡ filter (λ x. not (q x)) one → cond (not (a || b)) (x ∷ both) both ≡ filter (λ x. not (q x)) (cond (not a) (x ∷ one) one)
      go true b e r = r
      go false true e r = rw e r
      go false false e r = rw e (ap (λ (m : List A). x ∷ m) r)

  pub filter_and : (p q : A → Bool) (l : List A) → filter (λ x. p x && q x) l ≡ filter p (filter q l)
  filter_and p q [] = refl
  filter_and p q (x ∷ l) = go (p x) (q x) refl (filter_and p q l)
    where
      one : List A
      one = filter q l

      both : List A
      both = filter (λ x. p x && q x) l

      go : (a b : Bool) → p x ≡ a → both ≡ filter p one → cond (a && b) (x ∷ both) both ≡ filter p (cond b (x ∷ one) one)
      go true true e r = rw e (ap (λ (m : List A). x ∷ m) r)
      go false true e r = rw e r
      go true false e r = r
      go false false e r = r
