-- What follows from a test of the table that does not hold. Assumes nothing.
use Prim.Native.Nat.{ℕ, ◌*◌, ◌≤◌, ◌<◌}
use mathlib.Core.Bool.{Bool, true, false, not, ◌&&◌, ◌||◌}
use mathlib.Core.Path.{◌≡◌, refl, ap}
use mathlib.Core.List.{List, [], ◌∷◌}
use mathlib.Core.Option.{none}
use native.Mathlib.Omega.{arith}
use borrow.Author.Tests.{leb-true, ltb-true, ltb-false, eqb-true, not-false}
use lib.ListN.{length}
use lib.Dec.{eqb, ltb, leb}
use Rattle.std.proofs.lemmas.Bool.{and_parts, or_parts}
use Rattle.slots.specs.Sizes.{Sizes, Lengths, exact, limits, within, sizes_ok, alpha_ok, weights_ok, lengths_ok}
use Rattle.slots.proofs.New.{Accepted}
use Rattle.slots.specs.View.{View, live_slots}
use Rattle.numbers.specs.Numbers.{taken, labels_ok}
use Rattle.calls.specs.Calls.{Making}
use Rattle.calls.specs.State.{State}
use Rattle.calls.specs.Refusals.{Test, first_of, or_zero, names_given, entry_given, making_tests, guard_fault, index_tests}

pub first_none : (n : ℕ) (q : Bool) (ts : List Test) → first_of ((n, q) ∷ ts) ≡ none → (q ≡ false) × (first_of ts ≡ none)
first_none n true ts e = absurd (let z : ◌≡◌ {A = ℕ} 0 1 = cc in omega arith)
first_none n false ts e = (refl, e)

-- ---- lengths

-- lengths that pass are those of the sizes
pub passed_lengths : (z : Sizes) (n : Lengths) → lengths_ok limits z n ≡ true → n ≡ exact limits z
unfolding lengths_ok
passed_lengths z n e =
    let v = eqb n.vectors (z.capacity * z.dim) in
    let t = eqb n.targets (z.capacity * z.degree) in
    let g = eqb n.edges (z.capacity * z.degree) in
    let r = eqb n.versions z.capacity in
    let m = eqb n.marks z.capacity in
    let q = eqb n.pool limits.pool in
    let f = eqb n.numbers z.capacity in
    let y = eqb n.summary z.capacity in
    let b₀ = and_parts (v && t && g && r && m && q && f && y) (eqb n.weights z.dim) e in
    let b₁ = and_parts (v && t && g && r && m && q && f) y b₀.0 in
    let b₂ = and_parts (v && t && g && r && m && q) f b₁.0 in
    let a₁ = and_parts (v && t && g && r && m) q b₂.0 in
    let a₂ = and_parts (v && t && g && r) m a₁.0 in
    let a₃ = and_parts (v && t && g) r a₂.0 in
    let a₄ = and_parts (v && t) g a₃.0 in
    let a₅ = and_parts v t a₄.0 in
    λ i. record {
      vectors = eqb-true n.vectors (z.capacity * z.dim) a₅.0 i;
      targets = eqb-true n.targets (z.capacity * z.degree) a₅.1 i;
      edges = eqb-true n.edges (z.capacity * z.degree) a₄.1 i;
      versions = eqb-true n.versions z.capacity a₃.1 i;
      marks = eqb-true n.marks z.capacity a₂.1 i;
      pool = eqb-true n.pool limits.pool a₁.1 i;
      numbers = eqb-true n.numbers z.capacity b₂.1 i;
      summary = eqb-true n.summary z.capacity b₁.1 i;
      weights = eqb-true n.weights z.dim b₀.1 i;
    }

-- ---- an accepted making

pub capacity_within : (z : Sizes) → sizes_ok limits z ≡ true → (1 ≤ z.capacity) × (z.capacity ≤ limits.capacity)
unfolding sizes_ok
capacity_within z e =
    let p = and_parts (within 1 limits.dim z.dim && within 1 limits.capacity z.capacity) (within 1 limits.degree z.degree) e in
    let q = and_parts (within 1 limits.dim z.dim) (within 1 limits.capacity z.capacity) p.0 in
    let b = and_parts (leb 1 z.capacity) (leb z.capacity limits.capacity) q.1 in
    (leb-true 1 z.capacity b.0, leb-true z.capacity limits.capacity b.1)

entry_below : (given capacity entry : ℕ) → given ≤ capacity → 1 ≤ capacity → entry_given given entry ≡ true → entry < capacity
entry_below given capacity entry h k t = go (ltb entry given) refl t
  where
    go : (q : Bool) → ltb entry given ≡ q → (q || eqb given 0 && eqb entry 0) ≡ true → entry < capacity
    go true r t = omega (arith, ltb-true entry given r)
    go false r t = omega (arith, eqb-true entry 0 (and_parts (eqb given 0) (eqb entry 0) t).1)

-- none of making's tests holds
record Seven (q₁ q₂ q₃ q₇ q₄ q₅ q₆ : Bool) : Type 0 where
  pub one : q₁ ≡ false
  pub two : q₂ ≡ false
  pub three : q₃ ≡ false
  pub sixteen : q₇ ≡ false
  pub four : q₄ ≡ false
  pub five : q₅ ≡ false
  pub fifteen : q₆ ≡ false

abbrev seven_tests : Bool → Bool → Bool → Bool → Bool → Bool → Bool → List Test
seven_tests q₁ q₂ q₃ q₇ q₄ q₅ q₆ = (1, q₁) ∷ (2, q₂) ∷ (3, q₃) ∷ (16, q₇) ∷ (4, q₄) ∷ (5, q₅) ∷ (15, q₆) ∷ []

none_of_seven : (q₁ q₂ q₃ q₇ q₄ q₅ q₆ : Bool) → or_zero (first_of (seven_tests q₁ q₂ q₃ q₇ q₄ q₅ q₆)) ≡ 0 → Seven q₁ q₂ q₃ q₇ q₄ q₅ q₆
none_of_seven true q₂ q₃ q₇ q₄ q₅ q₆ e = absurd (omega (arith, e))
none_of_seven false true q₃ q₇ q₄ q₅ q₆ e = absurd (omega (arith, e))
none_of_seven false false true q₇ q₄ q₅ q₆ e = absurd (omega (arith, e))
none_of_seven false false false true q₄ q₅ q₆ e = absurd (omega (arith, e))
none_of_seven false false false false true q₅ q₆ e = absurd (omega (arith, e))
none_of_seven false false false false false true q₆ e = absurd (omega (arith, e))
none_of_seven false false false false false false true e = absurd (omega (arith, e))
none_of_seven false false false false false false false e =
    record { one = refl; two = refl; three = refl; sixteen = refl; four = refl; five = refl; fifteen = refl }

module _ (lent : Lengths) (m : Making) where
  abbrev lent_right : Bool
  lent_right = lengths_ok limits m.sizes lent

  abbrev vectors_right : Bool
  vectors_right = eqb (length m.bytes) (m.count * m.sizes.dim)

  abbrev rows_right : Bool
  rows_right = eqb (length m.rows) (m.count * m.sizes.degree)

  abbrev numbers_right : Bool
  numbers_right = eqb (length m.numbers) m.count

  abbrev weights_right : Bool
  weights_right = eqb (length m.weights) m.sizes.dim

  seven : or_zero (first_of (making_tests limits lent m)) ≡ 0
      → Seven (not (sizes_ok limits m.sizes)) (not (alpha_ok m.sizes.alpha)) (not (lent_right && vectors_right && rows_right && numbers_right && weights_right))
      (not (weights_ok limits m.weights))
      (ltb m.sizes.capacity m.count) (not (names_given m.count m.rows && entry_given m.count m.entry)) (taken [] m.numbers)
  unfolding making_tests
  seven e = none_of_seven _ _ _ _ _ _ _ e

  -- each part of row 3
  record Right : Type 0 where
    pub slices : lent_right ≡ true
    pub vectors : vectors_right ≡ true
    pub rows : rows_right ≡ true
    pub numbers : numbers_right ≡ true
    pub weights : weights_right ≡ true

  right : or_zero (first_of (making_tests limits lent m)) ≡ 0 → Right
  right e =
      let a₀ = and_parts (lent_right && vectors_right && rows_right && numbers_right) weights_right
      (not-false (lent_right && vectors_right && rows_right && numbers_right && weights_right) (seven e).three) in
      let a₁ = and_parts (lent_right && vectors_right && rows_right) numbers_right a₀.0 in
      let a₂ = and_parts (lent_right && vectors_right) rows_right a₁.0 in
      let a₃ = and_parts lent_right vectors_right a₂.0 in
      record { slices = a₃.0; vectors = a₃.1; rows = a₂.1; numbers = a₁.1; weights = a₀.1 }

  -- a 0 says that none holds
  pub none_judged : or_zero (first_of (making_tests limits lent m)) ≡ 0 → first_of (making_tests limits lent m) ≡ none
  unfolding making_tests
  none_judged e = let f = seven e in rw (f.one, f.two, f.three, f.sixteen, f.four, f.five, f.fifteen)

  pub lengths_made : first_of (making_tests limits lent m) ≡ none → lent ≡ exact limits m.sizes
  lengths_made h = passed_lengths m.sizes lent (right (ap or_zero h)).slices

  -- one number a given slot, each above 0 and none twice
  pub numbers_given : first_of (making_tests limits lent m) ≡ none → (length m.numbers ≡ m.count) × (taken [] m.numbers ≡ false)
  numbers_given h = (eqb-true (length m.numbers) m.count (right (ap or_zero h)).numbers, (seven (ap or_zero h)).fifteen)

  -- a weight for each byte of a vector, and all within their limits
  pub weights_given : first_of (making_tests limits lent m) ≡ none → (length m.weights ≡ m.sizes.dim) × (weights_ok limits m.weights ≡ true)
  weights_given h =
      (eqb-true (length m.weights) m.sizes.dim (right (ap or_zero h)).weights, not-false (weights_ok limits m.weights) (seven (ap or_zero h)).sixteen)

  -- rows of blanks and given slots, and a given entry
  pub given_named : first_of (making_tests limits lent m) ≡ none → (names_given m.count m.rows ≡ true) × (entry_given m.count m.entry ≡ true)
  given_named h =
      let named = names_given m.count m.rows in
      let entered = entry_given m.count m.entry in
      and_parts named entered (not-false (named && entered) (seven (ap or_zero h)).five)

  pub accepted : first_of (making_tests limits lent m) ≡ none → Accepted m.sizes m.count m.bytes m.rows m.entry
  accepted h =
      let f = seven (ap or_zero h) in
      let long = right (ap or_zero h) in
      let sized = not-false (sizes_ok limits m.sizes) f.one in
      let room = ltb-false m.sizes.capacity m.count f.four in
      record {
        sizes_right = sized;
        alpha_right = not-false (alpha_ok m.sizes.alpha) f.two;
        entry_inside = entry_below m.count m.sizes.capacity m.entry room (capacity_within m.sizes sized).0 (given_named h).1;
        vectors_long = eqb-true (length m.bytes) (m.count * m.sizes.dim) long.vectors;
        rows_long = eqb-true (length m.rows) (m.count * m.sizes.degree) long.rows;
        room = room;
      }

-- ---- an accepted call on an index

-- none of the shared tests holds, nor one of the call's own
pub record Finds (slices : Lengths) (w : State View) (wrong : Bool) (rest : List Test) : Type 0 where
  pub sized : sizes_ok limits w.graph.sizes ≡ true
  pub grown : alpha_ok w.graph.sizes.alpha ≡ true
  pub long : lengths_ok limits w.graph.sizes slices ≡ true
  pub not_wrong : wrong ≡ false
  pub weighed : weights_ok limits w.weights ≡ true
  pub live : w.live ≡ length (live_slots w.graph)
  pub labels : labels_ok w.graph.live w.graph.sizes.capacity w.live w.numbers w.summary ≡ true
  pub own : first_of rest ≡ none

pub index_finds : (slices : Lengths) (w : State View) (wrong : Bool) (rest : List Test) → first_of (index_tests limits slices w wrong rest) ≡ none → Finds slices w wrong rest
unfolding index_tests
index_finds slices w wrong rest r =
    let v = w.graph in
    let e = eqb w.live (length (live_slots v)) in
    let i = ltb v.entry v.sizes.capacity in
    let labels = labels_ok v.live v.sizes.capacity w.live w.numbers w.summary in
    let bad₆ = not e || not i || guard_fault limits w.guard || not labels in
    let six : List Test = (6, bad₆) ∷ rest in
    let bad₁₆ = not (weights_ok limits w.weights) in
    let sixteen : List Test = (16, bad₁₆) ∷ six in
    let bad₃ = not (lengths_ok limits v.sizes slices) || wrong in
    let three : List Test = (3, bad₃) ∷ sixteen in
    let two : List Test = (2, not (alpha_ok v.sizes.alpha)) ∷ three in
    let t₂ = first_none 1 (not (sizes_ok limits v.sizes)) two r in
    let t₃ = first_none 2 (not (alpha_ok v.sizes.alpha)) three t₂.1 in
    let t₁₆ = first_none 3 bad₃ sixteen t₃.1 in
    let t₆ = first_none 16 bad₁₆ six t₁₆.1 in
    let t₇ = first_none 6 bad₆ rest t₆.1 in
    let long = or_parts (not (lengths_ok limits v.sizes slices)) wrong t₁₆.0 in
    let o = or_parts (not e || not i || guard_fault limits w.guard) (not labels) t₇.0 in
    let live = (or_parts (not e) (not i) (or_parts (not e || not i) (guard_fault limits w.guard) o.0).0).0 in
    record {
      sized = not-false (sizes_ok limits v.sizes) t₂.0;
      grown = not-false (alpha_ok v.sizes.alpha) t₃.0;
      long = not-false (lengths_ok limits v.sizes slices) long.0;
      not_wrong = long.1;
      weighed = not-false (weights_ok limits w.weights) t₆.0;
      live = eqb-true w.live _ (not-false e live);
      labels = not-false labels o.1;
      own = t₇.1;
    }
