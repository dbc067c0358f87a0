-- Demand 1 over definitions: the proof. Assumes nothing.
use Prim.Native.Nat.{ℕ}
use mathlib.Core.Bool.{Bool, true, false, or-true}
use mathlib.Core.List.{List, [], ◌∷◌, map}
use mathlib.Core.Logic.{inl, inr}
use mathlib.Core.Option.{Option, none, some}
use mathlib.Core.Path.{◌≡◌, refl, sym, ap, ◌∙◌, subst}
use native.Mathlib.Omega.{arith}
use borrow.Author.Tests.{eq-eqb}
use lib.Dec.{eqb}
use Rattle.lists.specs.Lists.{elem}
use Rattle.slots.specs.Sizes.{limits}
use Rattle.calls.specs.Calls.{Reading, read_dim, read_capacity, read_degree, read_alpha, read_entry, read_live, read_mark, read_version, read_number, read_target, Delete, Operation, create, read, read_vector, search, insert, delete, enable, status, assess, guarded_delete, Call, refused, refused_as}
use Rattle.calls.specs.Refusals.{Test, first_of, making_tests, index_tests, tests}
use Rattle.calls.specs.State.{State, Kind, shown}
use Rattle.calls.specs.Step.{reading, guarded, report_of, named, perform, refusal, settle, step}
use Rattle.calls.specs.Refused.{First, rows, tests_of, Demand1}
use Rattle.guard.specs.Guard.{Report}

-- ---- the first test that holds

pub first_is : (n : ℕ) (ts : List Test) → First n ts → first_of ts ≡ some n
first_is n [] x' = elim x' [ ]
first_is n (t ∷ ts) (inl h) = rw (h.0, h.1)
first_is n (t ∷ ts) (inr h) = rw h.0 (first_is n ts h.1)

pub is_first : (n : ℕ) (ts : List Test) → first_of ts ≡ some n → First n ts
is_first n [] e = absurd (let z : ◌≡◌ {A = ℕ} 0 1 = cc in omega arith)
is_first n ((m, true) ∷ ts) e = inl (refl, cc)
is_first n ((m, false) ∷ ts) e = inr (refl, is_first n ts e)

first_in : (n : ℕ) (ts : List Test) → First n ts → elem n (map (λ t. t.0) ts) ≡ true
first_in n [] x' = elim x' [ ]
first_in n (t ∷ ts) (inl h) = rw (eq-eqb n t.0 (sym h.1))
first_in n (t ∷ ts) (inr h) = rw (first_in n ts h.1) (or-true (eqb n t.0))

-- ---- a call that is carried out answers no refusal

module _ {B : Type 0} (K : Kind B) (w : State B) (n : ℕ) where
  reading_answers : (r : Reading) → reading K w r ≡ refused n → ⊥
  unfolding reading
  reading_answers read_dim e = let z : ◌≡◌ {A = ℕ} 0 1 = cc in omega arith
  reading_answers read_capacity e = let z : ◌≡◌ {A = ℕ} 0 1 = cc in omega arith
  reading_answers read_degree e = let z : ◌≡◌ {A = ℕ} 0 1 = cc in omega arith
  reading_answers read_alpha e = let z : ◌≡◌ {A = ℕ} 0 1 = cc in omega arith
  reading_answers read_entry e = let z : ◌≡◌ {A = ℕ} 0 1 = cc in omega arith
  reading_answers read_live e = let z : ◌≡◌ {A = ℕ} 0 1 = cc in omega arith
  reading_answers (read_mark s) e = let z : ◌≡◌ {A = ℕ} 0 1 = cc in omega arith
  reading_answers (read_version s) e = let z : ◌≡◌ {A = ℕ} 0 1 = cc in omega arith
  reading_answers (read_number s) e = let z : ◌≡◌ {A = ℕ} 0 1 = cc in omega arith
  reading_answers (read_target s place) e = let z : ◌≡◌ {A = ℕ} 0 1 = cc in omega arith

  guarded_answers : (a : Delete) (r : Report) (b : Bool) → (guarded K w a r b).1 ≡ refused n → ⊥
  unfolding guarded
  guarded_answers a r true e = let z : ◌≡◌ {A = ℕ} 0 1 = cc in omega arith
  guarded_answers a r false e = let z : ◌≡◌ {A = ℕ} 0 1 = cc in omega arith

  pub perform_answers : (o : Operation) → (perform K w o).1 ≡ refused n → ⊥
  unfolding perform
  perform_answers (create m) e = let z : ◌≡◌ {A = ℕ} 0 1 = cc in omega arith
  perform_answers (read r) e = reading_answers r e
  perform_answers (read_vector s) e = let z : ◌≡◌ {A = ℕ} 0 1 = cc in omega arith
  perform_answers (search a) e = let z : ◌≡◌ {A = ℕ} 0 1 = cc in omega arith
  perform_answers (insert a) e = let z : ◌≡◌ {A = ℕ} 0 1 = cc in omega arith
  perform_answers (delete a) e = let z : ◌≡◌ {A = ℕ} 0 1 = cc in omega arith
  perform_answers (enable config) e = let z : ◌≡◌ {A = ℕ} 0 1 = cc in omega arith
  perform_answers status e = let z : ◌≡◌ {A = ℕ} 0 1 = cc in omega arith
  perform_answers (assess a) e = let z : ◌≡◌ {A = ℕ} 0 1 = cc in omega arith
  perform_answers (guarded_delete a) e = guarded_answers a (report_of (shown K w) (named w a)) _ e

-- one that is turned back gets this number, unless it reads a vector
refused_number : (n m : ℕ) (o : Operation) → refused_as m o ≡ refused n → m ≡ n
unfolding refused_as
refused_number n m (create x) e = cc
refused_number n m (read r) e = cc
refused_number n m (read_vector s) e = absurd (let z : ◌≡◌ {A = ℕ} 0 1 = cc in omega arith)
refused_number n m (search a) e = cc
refused_number n m (insert a) e = cc
refused_number n m (delete a) e = cc
refused_number n m (enable config) e = cc
refused_number n m status e = cc
refused_number n m (assess a) e = cc
refused_number n m (guarded_delete a) e = cc

-- ---- the rows of each call

module _ {B : Type 0} (K : Kind B) (w : State B) (c : Call) where
  tests_rows : (o : Operation) → map (λ t. t.0) (tests limits c.lent (shown K w) o) ≡ rows o
  unfolding rows tests making_tests index_tests
  tests_rows (create m) = refl
  tests_rows (read r) = refl
  tests_rows (read_vector s) = refl
  tests_rows (search a) = refl
  tests_rows (insert a) = refl
  tests_rows (delete a) = refl
  tests_rows (enable config) = refl
  tests_rows status = refl
  tests_rows (assess a) = refl
  tests_rows (guarded_delete a) = refl

  pub first_listed : (n : ℕ) → First n (tests_of K w c) → elem n (rows c.operation) ≡ true
  first_listed n h = sym (ap (elem n) (tests_rows c.operation)) ∙ first_in n (tests_of K w c) h

  -- every number that a call can give stands in the list of its rows
  pub refusal_numbers : (n : ℕ) → refusal K w c ≡ some n → elem n (rows c.operation) ≡ true
  unfolding refusal
  refusal_numbers n h = first_listed n (is_first n (tests_of K w c) h)

  settled : (q : Option ℕ) → refusal K w c ≡ q → step K w c ≡ settle K w c q
  unfolding step
  settled q h = ap (settle K w c) h

  pub demand_1 : Demand1 K w c
  unfolding refusal settle
  demand_1 = record {
    back = λ n h. settled (some n) (first_is n (tests_of K w c) h);
    done = λ none_holds. go_on none_holds (refusal K w c) refl;
    only = λ n e. by_first n e (refusal K w c) refl;
    listed = refusal_numbers;
    rows = tests_rows c.operation;
  }
    where
      go_on : ((n : ℕ) → First n (tests_of K w c) → ⊥) → (q : Option ℕ) → refusal K w c ≡ q → step K w c ≡ perform K w c.operation
      go_on h none e = settled none e
      go_on h (some n) e = absurd (h n (is_first n (tests_of K w c) e))

      by_first : (n : ℕ) → (step K w c).1 ≡ refused n → (q : Option ℕ) → refusal K w c ≡ q → First n (tests_of K w c)
      by_first n h none e = absurd (perform_answers K w n c.operation (sym (ap (λ x. x.1) (settled none e)) ∙ h))
      by_first n h (some m) e =
          let k = refused_number n m c.operation (sym (ap (λ x. x.1) (settled (some m) e)) ∙ h) in
          subst (λ n. First n (tests_of K w c)) k (is_first m (tests_of K w c) e)

  no_zero : (o : Operation) → elem 0 (rows o) ≡ false
  unfolding rows
  no_zero (create m) = refl
  no_zero (read r) = refl
  no_zero (read_vector s) = refl
  no_zero (search a) = refl
  no_zero (insert a) = refl
  no_zero (delete a) = refl
  no_zero (enable config) = refl
  no_zero status = refl
  no_zero (assess a) = refl
  no_zero (guarded_delete a) = refl

  -- no row has the number 0
  pub not_zero : (n : ℕ) → First n (tests_of K w c) → n ≡ 0 → ⊥
  not_zero n h e =
      let f : true ≡ false = sym (first_listed n h) ∙ ap (λ m. elem m (rows c.operation)) e ∙ no_zero c.operation in
      let z : ◌≡◌ {A = ℕ} 0 1 = cc in omega arith

  pub refusal_not_zero : (n : ℕ) → refusal K w c ≡ some n → n ≡ 0 → ⊥
  unfolding refusal
  refusal_not_zero n h = not_zero n (is_first n (tests_of K w c) h)
