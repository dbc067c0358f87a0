-- Counting the live slots: as many as marks that are set. Assumes nothing.
use Rattle.std.proofs.Common.{◌≡◌, ℕ, suc, ◌+◌, ◌<◌, ◌≤◌, Bool, true, false, cond, not, eqb, List, [], ◌∷◌, length, get_or, sym, refl, ap, ◌∙◌, arith, length-append, ◌++◌}
use Rattle.std.specs.List.{count_by}
use Rattle.std.proofs.lemmas.List.Sums.{sum_by-cons, sum_by-append, count_by-le-length}
use Rattle.lists.specs.Lists.{filter, range}
use Rattle.slots.specs.Store.{is_valid}

-- a mark of a live slot
abbrev pub is_set : ℕ → Bool
is_set mark = not (eqb mark 0)

-- p from slot a on is q of each mark
counted : (p : ℕ → Bool) (marks : List ℕ) (a : ℕ) → ((i : ℕ) → i < length marks → p (a + i) ≡ is_set (get_or marks i 0))
    → length (filter p (range a (length marks))) ≡ count_by is_set marks
counted p [] a h = refl
counted p (m ∷ marks) a h =
    let e : p a ≡ is_set m = ap p (let z : a ≡ a + 0 = omega arith in z) ∙ h 0 (omega arith) in
    let t = counted p marks (suc a) (λ i k. ap p (let z : suc a + i ≡ a + suc i = omega arith in z) ∙ h (suc i) (omega arith)) in
    rw e (go (is_set m)) ∙ ap (λ n. cond (is_set m) 1 0 + n) t ∙ sym (sum_by-cons (λ x. cond (is_set x) 1 0) m marks)
  where
    go : (q : Bool) → length (cond q (a ∷ filter p (range (suc a) (length marks))) (filter p (range (suc a) (length marks))))
        ≡ cond q 1 0 + length (filter p (range (suc a) (length marks)))
    go true = omega arith
    go false = omega arith

pub count_marks : (marks : List ℕ) → length (filter (is_valid marks) (range 0 (length marks))) ≡ count_by is_set marks
unfolding is_valid
count_marks marks = counted (is_valid marks) marks 0 (λ i h. ap (λ j. is_set (get_or marks j 0)) (let z : 0 + i ≡ i = omega arith in z))

-- a block is counted, and the rest is still to be
pub count_block : (rest block rest' : List ℕ) {n : ℕ} → rest ≡ block ++ rest' → n ≡ length (filter (is_valid block) (range 0 (length block)))
    → (n + length rest' ≤ length rest) × (n + count_by is_set rest' ≡ count_by is_set rest)
count_block rest block rest' e h =
    let k = h ∙ count_marks block in (
      rw (e, k) (omega (arith, count_by-le-length is_set block, length-append block rest')),
      rw e (omega (arith, k, sum_by-append (λ x. cond (is_set x) 1 0) block rest')),
    )

-- all are counted
pub counted_all : (marks rest : List ℕ) {n : ℕ} → length rest ≡ 0 → n + count_by is_set rest ≡ count_by is_set marks → n ≡ length (filter (is_valid marks) (range 0 (length marks)))
counted_all marks rest h e = omega (arith, e, count_by-le-length is_set rest, count_marks marks)
