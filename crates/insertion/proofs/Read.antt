-- What the words of a chunk say: the candidates of all plans, what comes in at a slot, and which slots are named. Assumes nothing.
use Prim.Native.Nat.{ℕ, zero, suc, ◌+◌, ◌-◌, ◌*◌, ◌≤◌, ◌<◌}
use mathlib.Core.Bool.{Bool, true, false, ◌||◌, cond, true≢false}
use mathlib.Core.Path.{◌≡◌, refl, ap, ap₂, sym, ◌∙◌, subst}
use mathlib.Core.List.{List, [], ◌∷◌, ◌++◌, map, map-append}
use native.Mathlib.Omega.{arith}
use borrow.Author.Tests.{eqb-true, lt-ltb, le-ltb}
use lib.Dec.{eqb, ltb}
use lib.ListN.{length, get_or}
use Rattle.lists.specs.Lists.{All, filter, range, concat_map, elem}
use Rattle.lists.proofs.All.{all_append}
use Rattle.lists.proofs.Firsts.{eqb_comm}
use Rattle.candidates.specs.Candidates.{Candidate, ids}
use Rattle.candidates.specs.Inner.Words.{pair, cand, cands, Small}
use Rattle.candidates.proofs.Words.{cands_append, cands_each}
use Rattle.insertion.specs.declared.layout.Layout.{Layout}
use Rattle.insert.specs.Insert.{Plan, incoming}
use Rattle.insertion.specs.Inner.Chains.{at_slot, Chain, end, link, incoming_at}
use Rattle.insertion.specs.Inner.Plans.{start_of, Laid}
use Rattle.insertion.proofs.Order.{named}

-- ---- the candidates of all plans
abbrev outgoings : List Plan → List Candidate
outgoings plans = concat_map (λ p. p.outgoing) plans

-- of one plan: those that name t, with the plan's slot
abbrev from_plan : ℕ → ℕ → List Candidate → List Candidate
from_plan t id cs = map (λ c. record { dist = c.dist; id = id }) (filter (λ c. eqb c.id t) cs)

at_slot_append : (w : List ℕ) (at : Layout) (t i k l : ℕ) → at_slot w at t i (k + l) ≡ at_slot w at t i k ++ at_slot w at t (i + k) l
unfolding at_slot
at_slot_append w at t i zero l =
    let z : 0 + l ≡ l = omega arith in
    let y : i + 0 ≡ i = omega arith in
    rw (z, y)
at_slot_append w at t i (suc k) l =
    let z : suc k + l ≡ suc (k + l) = omega arith in
    let y : i + suc k ≡ suc i + k = omega arith in
    rw (z, y, at_slot_append w at t (suc i) k l) (go (eqb (get_or w (at.plans + 2 * i + 1) 0) t))
  where
    go : (b : Bool) → cond b (i ∷ at_slot w at t (suc i) k ++ at_slot w at t (suc i + k) l) (at_slot w at t (suc i) k ++ at_slot w at t (suc i + k) l)
        ≡ cond b (i ∷ at_slot w at t (suc i) k) (at_slot w at t (suc i) k) ++ at_slot w at t (suc i + k) l
    go true = refl
    go false = refl

incoming_append : (w : List ℕ) (at : Layout) (k l : List ℕ) → incoming_at w at (k ++ l) ≡ incoming_at w at k ++ incoming_at w at l
incoming_append w at [] l = refl
incoming_append w at (j ∷ k) l = ap (λ (r : List Candidate). pair (get_or w (at.plans + 2 * j) 0) (get_or w (at.sources + j) 0) ∷ r) (incoming_append w at k l)

of_one : (w : List ℕ) (at : Layout) (t id i k : ℕ) → ((j : ℕ) → i ≤ j → j < i + k → get_or w (at.sources + j) 0 ≡ id)
    → incoming_at w at (at_slot w at t i k) ≡ from_plan t id (cands w (at.plans + 2 * i) k)
unfolding at_slot cands
of_one w at t id i zero h = refl
of_one w at t id i (suc k) h =
    let y : at.plans + 2 * i + 2 ≡ at.plans + 2 * suc i = omega arith in
    rw y (go (eqb (get_or w (at.plans + 2 * i + 1) 0) t) (of_one w at t id (suc i) k (λ j a b. h j (omega arith) (omega arith))))
  where
    rest : List Candidate
    rest = filter (λ c. eqb c.id t) (cands w (at.plans + 2 * suc i) k)

    go : (b : Bool) → incoming_at w at (at_slot w at t (suc i) k) ≡ map (λ c. record { dist = c.dist; id = id }) rest
        → incoming_at w at (cond b (i ∷ at_slot w at t (suc i) k) (at_slot w at t (suc i) k)) ≡ map (λ c. record { dist = c.dist; id = id }) (cond b (cand w (at.plans + 2 * i) ∷ rest) rest)
    go true r = ap₂ (λ (x : ℕ) (l : List Candidate). pair (get_or w (at.plans + 2 * i) 0) x ∷ l) (h i (omega arith) (omega arith)) r
    go false r = r

module _ {degree capacity : ℕ} {plans : ℕ → Plan} {at : Layout} {m n : ℕ} {w : List ℕ} (f : Laid degree capacity plans at m n w) where
  next_start : (k : ℕ) → k < m → start_of w at (suc k) ≡ start_of w at k + length (plans k).outgoing
  next_start k h = (f.each k h).count

  start_most : (j k : ℕ) → k + j ≡ m → start_of w at k ≤ n
  start_most zero k e = let z : k ≡ m = omega arith in rw z (omega (arith, f.last))
  start_most (suc j) k e = omega (arith, next_start k (omega arith), start_most j (suc k) (omega arith))

  -- the k-th plan's candidates, and those behind them
  split : (j k : ℕ) → k + suc j ≡ m → n - start_of w at k ≡ length (plans k).outgoing + (n - start_of w at (suc k))
  split j k e = omega (arith, next_start k (omega arith), start_most j (suc k) (omega arith))

  from_on : (j k : ℕ) → k + j ≡ m → cands w (at.plans + 2 * start_of w at k) (n - start_of w at k) ≡ outgoings (map plans (range k j))
  unfolding cands
  from_on zero k e =
      let z : k ≡ m = omega arith in
      let y : n - start_of w at k ≡ 0 = rw z (omega (arith, f.last)) in
      rw y
  from_on (suc j) k e =
      let h : k < m = omega arith in
      let s = start_of w at k in
      let l = length (plans k).outgoing in
      let rest = n - start_of w at (suc k) in
      let x : at.plans + 2 * s + 2 * l ≡ at.plans + 2 * start_of w at (suc k) = omega (arith, next_start k h) in
      ap (cands w (at.plans + 2 * s)) (split j k e)
      ∙ cands_append w (at.plans + 2 * s) l rest
      ∙ ap₂ (λ (a b : List Candidate). a ++ b) (f.each k h).list (ap (λ (i : ℕ). cands w i rest) x ∙ from_on j (suc k) (omega arith))

  all_plans : cands w at.plans n ≡ outgoings (map plans (range 0 m))
  all_plans =
      let x : at.plans + 2 * 0 ≡ at.plans = omega arith in
      let y : n - 0 ≡ n = omega arith in
      rw (x, y) at (from_on m 0 (omega arith))

  every : (P : Candidate → Type 0) → ((k : ℕ) → k < m → All P (plans k).outgoing) → (j k : ℕ) → k + j ≡ m → All P (outgoings (map plans (range k j)))
  every P g zero k e = tt
  every P g (suc j) k e = all_append P (plans k).outgoing (outgoings (map plans (range (suc k) j))) (g k (omega arith)) (every P g j (suc k) (omega arith))

  pub plans_inside : (j : ℕ) → j < n → get_or w (at.plans + 2 * j + 1) 0 < capacity
  plans_inside = cands_each (λ c. c.id < capacity) w at.plans n (subst (All (λ c. c.id < capacity)) (sym all_plans) (every (λ c. c.id < capacity) (λ k l. (f.each k l).inside) m 0 (omega arith)))

  pub plans_small : (j : ℕ) → j < n → get_or w (at.plans + 2 * j) 0 ≤ 16777216
  plans_small = cands_each (λ c. c.dist ≤ 16777216) w at.plans n (subst Small (sym all_plans) (every (λ c. c.dist ≤ 16777216) (λ k l. (f.each k l).small) m 0 (omega arith)))

  -- ---- what comes in at a slot
  comes_in : (t j k : ℕ) → k + j ≡ m → incoming_at w at (at_slot w at t (start_of w at k) (n - start_of w at k)) ≡ incoming (map plans (range k j)) t
  unfolding at_slot incoming
  comes_in t zero k e =
      let z : k ≡ m = omega arith in
      let y : n - start_of w at k ≡ 0 = rw z (omega (arith, f.last)) in
      rw y
  comes_in t (suc j) k e =
      let h : k < m = omega arith in
      let s = start_of w at k in
      let l = length (plans k).outgoing in
      let rest = n - start_of w at (suc k) in
      ap (λ (i : ℕ). incoming_at w at (at_slot w at t s i)) (split j k e)
      ∙ ap (incoming_at w at) (at_slot_append w at t s l rest)
      ∙ incoming_append w at (at_slot w at t s l) (at_slot w at t (s + l) rest)
      ∙ ap₂ (λ (a b : List Candidate). a ++ b)
      (of_one w at t (plans k).id s l (λ i a b. (f.each k h).owned i a (omega (arith, next_start k h))) ∙ ap (from_plan t (plans k).id) (f.each k h).list)
      (ap (λ (i : ℕ). incoming_at w at (at_slot w at t i rest)) (sym (next_start k h)) ∙ comes_in t j (suc k) (omega arith))

  pub all_incoming : (t : ℕ) → incoming_at w at (at_slot w at t 0 n) ≡ incoming (map plans (range 0 m)) t
  all_incoming t = let y : n - 0 ≡ n = omega arith in rw y at (comes_in t m 0 (omega arith))

-- ---- which slots are named
abbrev some : List ℕ → Bool
some [] = false
some (x ∷ l) = true

chain_some : {w : List ℕ} {at : Layout} {n : ℕ} (from x : ℕ) (l : List ℕ) → Chain w at n from x l → ltb x n ≡ some l
chain_some {n = n} from x [] end = let h : n ≤ n = omega arith in le-ltb _ _ h
chain_some from x (y ∷ l) (link g m c) = lt-ltb _ _ m

some_named : (w : List ℕ) (at : Layout) (t i k : ℕ) → some (at_slot w at t i k) ≡ elem t (ids (cands w (at.plans + 2 * i) k))
unfolding at_slot cands
some_named w at t i zero = refl
some_named w at t i (suc k) =
    let y : at.plans + 2 * i + 2 ≡ at.plans + 2 * suc i = omega arith in
    rw (y, eqb_comm t (get_or w (at.plans + 2 * i + 1) 0)) (go (eqb (get_or w (at.plans + 2 * i + 1) 0) t) (some_named w at t (suc i) k))
  where
    go : (b : Bool) → some (at_slot w at t (suc i) k) ≡ elem t (ids (cands w (at.plans + 2 * suc i) k))
        → some (cond b (i ∷ at_slot w at t (suc i) k) (at_slot w at t (suc i) k)) ≡ b || elem t (ids (cands w (at.plans + 2 * suc i) k))
    go true r = refl
    go false r = r

ids_outgoings : (plans : List Plan) → ids (outgoings plans) ≡ named plans
ids_outgoings [] = refl
ids_outgoings (q ∷ qs) = map-append (λ c. c.id) q.outgoing (outgoings qs) ∙ ap (λ (r : List ℕ). ids q.outgoing ++ r) (ids_outgoings qs)

module _ {degree capacity : ℕ} {plans : ℕ → Plan} {at : Layout} {m n : ℕ} {w : List ℕ} (f : Laid degree capacity plans at m n w) where
  -- the head of a chain tells whether its slot is named
  pub head_named : (x t : ℕ) → Chain w at n 0 x (at_slot w at t 0 n) → ltb x n ≡ elem t (named (map plans (range 0 m)))
  head_named x t c =
      let y : at.plans + 2 * 0 ≡ at.plans = omega arith in
      chain_some 0 x (at_slot w at t 0 n) c
      ∙ some_named w at t 0 n
      ∙ ap (λ (i : ℕ). elem t (ids (cands w i n))) y
      ∙ ap (λ (l : List Candidate). elem t (ids l)) (all_plans f)
      ∙ ap (elem t) (ids_outgoings (map plans (range 0 m)))

  -- a named slot is inside
  pub named_inside : (s : ℕ) → elem s (named (map plans (range 0 m))) ≡ true → s < capacity
  named_inside s e =
      within (outgoings (map plans (range 0 m))) (every f (λ c. c.id < capacity) (λ k l. (f.each k l).inside) m 0 (omega arith)) (ap (elem s) (ids_outgoings (map plans (range 0 m))) ∙ e)
    where
      within : (l : List Candidate) → All (λ c. c.id < capacity) l → elem s (ids l) ≡ true → s < capacity
      within [] a e = absurd (true≢false (sym e))
      within (c ∷ l) a e = go (eqb s c.id) refl (λ (h : elem s (ids l) ≡ true). within l a.1 h)
        where
          go : (b : Bool) → eqb s c.id ≡ b → (elem s (ids l) ≡ true → s < capacity) → s < capacity
          go true q r = let z : s ≡ c.id = eqb-true s c.id q in rw z a.0
          go false q r = r (rw q at e)
