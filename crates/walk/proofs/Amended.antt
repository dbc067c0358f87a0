-- The rules `amended` in the walk's terms: of a list in order that has at most L nodes, `too_far` is `ends` and `joins` is `enter`. Assumes nothing.
use Prim.Native.Nat.{ℕ, ◌≤◌, ◌<◌}
use mathlib.Core.Bool.{Bool, true, false, ◌&&◌, ◌||◌, cond, true≢false}
use mathlib.Core.Path.{◌≡◌, refl, sym}
use mathlib.Core.List.{List, [], ◌∷◌, ◌++◌}
use native.Mathlib.Omega.{arith}
use lib.ListN.{length, take}
use lib.Seq.{take_all}
use lib.Dec.{eqb, ltb, leb}
use borrow.Author.Tests.{ltb-true, ltb-false, eqb-true, le-leb, lt-leb}
use Rattle.lists.specs.Lists.{All, Ordered, insert_by, init, last, sort_by}
use Rattle.lists.proofs.All.{by_cases, all_map, all_append, all_take, all_sort}
use Rattle.lists.proofs.Ordered.{length_insert, sort_snoc, take_insert}
use Rattle.candidates.specs.Candidates.{Candidate, before}
use Rattle.candidates.proofs.Before.{before_before, before_once, before_other}
use Rattle.walk.specs.Walk.{worst, enter, ends}
use Rattle.walk.specs.GreedySearch.{greatest, too_far, amended}

-- what joins or stays was in the list, or is the neighbour that joins
pub all_joins : (P : Candidate → Type 0) (L : ℕ) (list : List Candidate) (c : Candidate) → All P list → P c → All P (amended.joins L list c)
unfolding amended
all_joins P L list c h k =
    by_cases (All P) (too_far L list c) (λ e. h)
    (λ e. all_take P L _ (all_sort P before (list ++ (c ∷ [])) (all_append P list (c ∷ []) h (k, tt))))

pub before_near : (a b : Candidate) → before a b ≡ true → a.dist ≤ b.dist
before_near a b = go (ltb a.dist b.dist) (eqb a.dist b.dist) refl refl
  where
    go : (p q : Bool) → ltb a.dist b.dist ≡ p → eqb a.dist b.dist ≡ q → (p || q && ltb a.id b.id) ≡ true → a.dist ≤ b.dist
    go true q e f h = omega (arith, ltb-true a.dist b.dist e)
    go false true e f h = omega (arith, eqb-true a.dist b.dist f)
    go false false e f h = absurd (true≢false (sym h))

farther : (a b : Candidate) → b.dist < a.dist → before a b ≡ false
farther a b h = go (before a b) refl
  where
    go : (q : Bool) → before a b ≡ q → q ≡ false
    go true e = absurd (omega (arith, before_near a b e))
    go false e = refl

-- the farthest is the last
greatest_worst : (list : List Candidate) → Ordered before list → greatest list ≡ worst list
greatest_worst [] o = refl
greatest_worst (c ∷ []) o = omega arith
greatest_worst (c ∷ a ∷ cs) o = let rest = greatest_worst (a ∷ cs) o.1 in omega (arith, before_near c a o.0.0)

module _ (L : ℕ) (list : List Candidate) (c : Candidate) (order : Ordered before list) where
  pub too_far_ends : too_far L list c ≡ ends L list c
  unfolding too_far ends
  too_far_ends = rw (greatest_worst list order)

  module _ (other : All (λ a. a.id ≡ c.id → ⊥) list) (short : length list ≤ L) where
    sorted : sort_by before (list ++ (c ∷ [])) ≡ insert_by before c list
    sorted =
        sort_snoc before before_once before_before c list (all_map (λ a. a.id ≡ c.id → ⊥) (λ a. before a c ≡ false → before c a ≡ true) (λ a. before_other a c) list other) order

    -- a full list: the last leaves
    leaves : (cs : List Candidate) → c.dist < worst cs → take (length cs) (insert_by before c cs) ≡ insert_by before c (init cs)
    leaves [] h = absurd (omega arith)
    leaves (a ∷ cs) h = take_insert before c a cs (farther (last a cs) c h)

    pub joins_enter : amended.joins L list c ≡ enter L list c
    unfolding amended too_far enter
    joins_enter = go (ltb (length list) L) (ltb c.dist (worst list)) refl refl
      where
        go : (p q : Bool) → ltb (length list) L ≡ p → ltb c.dist (worst list) ≡ q
            → cond (leb L (length list) && leb (greatest list) c.dist) list (take L (sort_by before (list ++ (c ∷ []))))
            ≡ cond p (insert_by before c list) (cond q (insert_by before c (init list)) list)
        go true q e f =
            let h = ltb-true (length list) L e in
            rw (lt-leb L (length list) h, sorted) (take_all L (insert_by before c list) (omega (arith, length_insert before c list)))
        go false true e f =
            let h = ltb-true c.dist (worst list) f in
            let l : L ≡ length list = omega (arith, ltb-false (length list) L e) in
            rw (greatest_worst list order, lt-leb (worst list) c.dist h, le-leb L (length list) (omega arith), sorted, l) (leaves list h)
        go false false e f =
            rw (greatest_worst list order, le-leb L (length list) (ltb-false (length list) L e), le-leb (worst list) c.dist (ltb-false c.dist (worst list) f))
