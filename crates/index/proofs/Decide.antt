-- The tests that calls share: what the code finds is what the table says, and what follows. Assumes nothing.
use Prim.Native.Nat.{ℕ, ◌≤◌, ◌<◌}
use mathlib.Core.Bool.{Bool, true, false, not, ◌&&◌, ◌||◌, and_assoc}
use mathlib.Core.Path.{◌≡◌, refl, sym, ap, ◌∙◌}
use mathlib.Core.List.{List, [], ◌∷◌}
use mathlib.Core.Option.{Option, none, some}
use native.Mathlib.Omega.{arith}
use borrow.Author.Tests.{leb-true, ltb-true, eqb-true, not-true, not-false}
use lib.Ieee.{Float}
use lib.ListN.{length}
use lib.Dec.{eqb, ltb, leb}
use Rattle.std.proofs.lemmas.Bool.{and_parts, or_parts}
use Rattle.std.proofs.lemmas.Bool.Decides.{nat_tests}
use Rattle.std.proofs.lemmas.Result.{err_from_is_err_and}
use Rattle.vectors.specs.Distance.{f32}
use Rattle.lists.specs.Lists.{filter, range}
use Rattle.lists.proofs.Filter.{filter_length}
use Rattle.lists.proofs.Ranges.{length_range}
use Rattle.slots.specs.Sizes.{Sizes, Slices, Lengths, lengths_of, limits, within, sizes_ok, alpha_ok, weights_ok, exact, lengths_ok}
use Rattle.slots.specs.Scratch.{size_answer}
use Rattle.vectors.specs.Vector.{Bytes}
use Rattle.vectors.specs.Weights.{Weighing}
use Rattle.slots.specs.View.{View, live_slots}
use Rattle.slots.specs.Store.{Store, is_valid, store_view, store_ops}
use Rattle.slots.specs.Inner.Rows.{RowShape}
use Rattle.slots.proofs.Places.{rows_shaped}
use Rattle.numbers.specs.Numbers.{labels_ok}
use Rattle.numbers.specs.Inner.Listed.{Listed}
use Rattle.numbers.proofs.Exact.{labelled_exact}
use Rattle.numbers.proofs.Listing.{labelled_listed}
use Rattle.index.specs.declared.Index.{Index}
use Rattle.std.specs.Prelude.{Result, Ok, Err, IsErrAnd}
use Rattle.index.specs.declared.Refusal.{Refusal}
use Rattle.index.specs.declared.Refusal.TheVariants as Refused
use Rattle.index.specs.Refusal.{number_of, turned_back as back}
use Rattle.calls.specs.Calls.{Call, refused_as}
use Rattle.calls.specs.Refusals.{Test, first_of, index_tests, tests, guard_fault}
use Rattle.calls.specs.State.{State, stored, shown}
use Rattle.calls.specs.Step.{perform, refusal, settle, step}
use Rattle.index.specs.Index.{words_for, sizes, sizes_of, guard_of, state_of}
use Rattle.index.specs.Inner.Deciding.{index_fault, Decided, Passed}
use Rattle.calls.proofs.Tests.{passed_lengths}
use Rattle.slots.proofs.Weights.{weights_weigh}

-- an error that `?` hands on
pub handed_on : {A E : Type 0} (r : Result A E) {x : E} → IsErrAnd r (λ y. y ≡ x) → r ≡ Err x
handed_on r h = let p = err_from_is_err_and r h in rw (p.1, p.2)

-- ---- numbers

pub ltb_leb : (a b : ℕ) → ltb a b ≡ not (leb b a)
ltb_leb a b = grind (arith, nat_tests)

-- ---- sizes

pub record Ranges (z : Sizes) : Type 0 where
  pub dim_low : 1 ≤ z.dim
  pub dim_high : z.dim ≤ 256
  pub capacity_low : 1 ≤ z.capacity
  pub capacity_high : z.capacity ≤ 65536
  pub degree_low : 1 ≤ z.degree
  pub degree_high : z.degree ≤ 64

between : (high n : ℕ) → within 1 high n ≡ true → (1 ≤ n) × (n ≤ high)
between high n e = let b = and_parts (leb 1 n) (leb n high) e in (leb-true 1 n b.0, leb-true n high b.1)

pub ranges : (z : Sizes) → sizes_ok limits z ≡ true → Ranges z
unfolding sizes_ok limits
ranges z e =
    let p = and_parts (within 1 256 z.dim && within 1 65536 z.capacity) (within 1 64 z.degree) e in
    let q = and_parts (within 1 256 z.dim) (within 1 65536 z.capacity) p.0 in
    let d = between 256 z.dim q.0 in
    let c = between 65536 z.capacity q.1 in
    let g = between 64 z.degree p.1 in
    record { dim_low = d.0; dim_high = d.1; capacity_low = c.0; capacity_high = c.1; degree_low = g.0; degree_high = g.1 }

-- the size answer of accepted sizes is no more than document 01 allows, and not 0
pub words_bound : (z : Sizes) → sizes_ok limits z ≡ true → (0 < size_answer z.capacity) × (size_answer z.capacity ≤ 8388608)
unfolding size_answer
words_bound z e = let r = ranges z e in (omega arith, omega arith)

-- what `sizes_bad` finds: the size answer is given, or the refusal
module _ (dim capacity degree : ℕ) {r : Bool} (e : (alpha : Float) → r ≡ not (sizes_ok limits (sizes dim capacity degree alpha))) where
  pub words_refused : r ≡ true → (alpha : Float) → Err Refused.Sizes ≡ words_for (sizes dim capacity degree alpha)
  unfolding words_for
  words_refused t alpha = rw (not-true (sizes_ok limits (sizes dim capacity degree alpha)) (sym (e alpha) ∙ t))

  pub words_given : r ≡ false → (alpha : Float) → Ok (size_answer capacity) ≡ words_for (sizes dim capacity degree alpha)
  unfolding words_for
  words_given t alpha = rw (not-false (sizes_ok limits (sizes dim capacity degree alpha)) (sym (e alpha) ∙ t))

  pub sized : r ≡ false → Ranges (sizes dim capacity degree (f32 1))
  sized t = ranges (sizes dim capacity degree (f32 1)) (not-false _ (sym (e (f32 1)) ∙ t))

-- ---- lengths

-- nine tests, however they are joined
joined : (a b c d e f g h k : Bool) → a && (b && (c && (d && (e && (f && (g && (h && k))))))) ≡ a && b && c && d && e && f && g && h && k
joined a b c d e f g h k = simp and_assoc

-- lengths that are compared with the only ones that pass
pub lengths_compared : (z : Sizes) (n m : Lengths) → m ≡ exact limits z
    → eqb n.vectors m.vectors && (eqb n.targets m.targets && (eqb n.edges m.edges && (eqb n.versions m.versions && (eqb n.marks m.marks && (eqb n.pool m.pool && (eqb n.numbers m.numbers && (eqb n.summary m.summary && eqb n.weights m.weights))))))) ≡ lengths_ok limits z n
unfolding lengths_ok
lengths_compared z n m e =
    joined (eqb n.vectors m.vectors) (eqb n.targets m.targets) (eqb n.edges m.edges) (eqb n.versions m.versions) (eqb n.marks m.marks) (eqb n.pool m.pool) (eqb n.numbers m.numbers)
    (eqb n.summary m.summary) (eqb n.weights m.weights) ∙ ap (λ (k : Lengths). eqb n.vectors k.vectors && eqb n.targets k.targets && eqb n.edges k.edges && eqb n.versions k.versions && eqb n.marks k.marks && eqb n.pool k.pool && eqb n.numbers k.numbers && eqb n.summary k.summary && eqb n.weights k.weights) e

-- ---- the shared tests, one after the other

-- the first three tests of an index, and that of its weights
abbrev bad₁ : Index → Bool
bad₁ index = not (sizes_ok limits (sizes_of index))

abbrev bad₂ : Index → Bool
bad₂ index = not (alpha_ok index.alpha)

abbrev bad₃ : Index → Lengths → Bool
bad₃ index n = not (lengths_ok limits (sizes_of index) n)

abbrev bad₁₆ : Slices → Bool
bad₁₆ s = not (weights_ok limits s.weights)

abbrev five : Bool → Bool → Bool → Bool → Bool → List Test → List Test
five q₁ q₂ q₃ q₁₆ q₆ rest = (1, q₁) ∷ (2, q₂) ∷ (3, q₃) ∷ (16, q₁₆) ∷ (6, q₆) ∷ rest

-- these decide
decided : {index : Index} {s : Slices} {wrong : Bool} {rest : List Test} {A : Type 0} {r : Result A Refusal}
    → back r ≡ first_of (five (bad₁ index) (bad₂ index) (bad₃ index (lengths_of s) || wrong) (bad₁₆ s) (index_fault index s index.capacity) rest) → Decided index s wrong rest r
unfolding index_tests shown stored store_ops store_view state_of
decided e = record { does = e }

-- where the lengths are right, there are as many marks as slots
marked : (index : Index) (s : Slices) {r₆ : Bool} → bad₃ index (lengths_of s) ≡ false → r₆ ≡ index_fault index s (length s.marks) → r₆ ≡ index_fault index s index.capacity
marked index s h sound =
    let m : length s.marks ≡ index.capacity = ap (λ l. l.marks) (passed_lengths (sizes_of index) (lengths_of s) (not-false (lengths_ok limits (sizes_of index) (lengths_of s)) h)) in
    rw m at sound

-- ---- rows 1 to 3, which making shares

abbrev three : Bool → Bool → Bool → List Test → List Test
three q₁ q₂ q₃ rest = (1, q₁) ∷ (2, q₂) ∷ (3, q₃) ∷ rest

-- the number of the first of them that holds
abbrev by_three : ℕ → ℕ → ℕ → Float → Lengths → Option ℕ
by_three dim capacity degree alpha lent =
    first_of (three (not (sizes_ok limits (sizes dim capacity degree alpha))) (not (alpha_ok alpha)) (not (lengths_ok limits (sizes dim capacity degree alpha) lent)) [])

abbrev pub Sized : ℕ → ℕ → ℕ → Float → Lengths → {A : Type 0} → Result A Refusal → Type 0
Sized dim capacity degree alpha lent r = back r ≡ by_three dim capacity degree alpha lent

-- none of them holds
pub three_none : (q₁ q₂ q₃ : Bool) → none ≡ first_of (three q₁ q₂ q₃ []) → (q₁ ≡ false) × (q₂ ≡ false) × (q₃ ≡ false)
three_none true q₂ q₃ e = cc
three_none false true q₃ e = cc
three_none false false true e = cc
three_none false false false e = (refl, refl, refl)

-- where one of them holds, it does among more tests, the third being a part of theirs
pub three_more : (q₁ q₂ q₃ q : Bool) (rest : List Test) → (q₃ ≡ true → q ≡ true) → {n : ℕ} → some n ≡ first_of (three q₁ q₂ q₃ []) → some n ≡ first_of (three q₁ q₂ q rest)
three_more true q₂ q₃ q rest f e = e
three_more false true q₃ q rest f e = e
three_more false false true q rest f e = rw (f refl) e
three_more false false false q rest f e = cc

-- what `check_sizes` finds, for an index
module _ (index : Index) (s : Slices) {A : Type 0} {r₁ : Result A Refusal} {lent : Lengths}
    (sized : Sized index.dim index.capacity index.degree index.alpha lent r₁) (alike : lent ≡ lengths_of s) where
  pub index_refused : {wrong : Bool} {B : Type 0} {e : Refusal} → r₁ ≡ Err e → Decided index s wrong [] {A = B} (Err e)
  index_refused {wrong} z =
      let q = bad₃ index (lengths_of s) in
      decided (three_more (bad₁ index) (bad₂ index) q (q || wrong) ((16, bad₁₆ s) ∷ (6, index_fault index s index.capacity) ∷ []) (λ h. rw h refl) (ap back (sym z) ∙ rw alike at sized))

  module _ {a : A} (z : r₁ ≡ Ok a) where
    index_sized : (bad₁ index ≡ false) × (bad₂ index ≡ false) × (bad₃ index (lengths_of s) ≡ false)
    index_sized = three_none (bad₁ index) (bad₂ index) (bad₃ index (lengths_of s)) (ap back (sym z) ∙ rw alike at sized)

    module _ {wrong : Bool} {B : Type 0} where
      pub decided_wrong : wrong ≡ true → Decided index s wrong [] {A = B} (Err Refused.Lengths)
      decided_wrong t = let p = index_sized in decided (rw (p.0, p.1, p.2, t) refl)

      module _ {r₁₆ : Bool} (t : wrong ≡ false) (weighed : r₁₆ ≡ bad₁₆ s) where
        pub decided_weights : r₁₆ ≡ true → Decided index s wrong [] {A = B} (Err Refused.Weights)
        decided_weights t₁₆ = let p = index_sized in decided (rw (p.0, p.1, p.2, t, sym weighed ∙ t₁₆) refl)

        module _ {r₆ : Bool} (t₁₆ : r₁₆ ≡ false) (sound : r₆ ≡ index_fault index s (length s.marks)) where
          pub decided_index : r₆ ≡ true → Decided index s wrong [] {A = B} (Err Refused.Index)
          decided_index t₆ = let p = index_sized in decided (rw (p.0, p.1, p.2, t, sym weighed ∙ t₁₆, sym (marked index s p.2 sound) ∙ t₆) refl)

          pub decided_none : {b : B} → r₆ ≡ false → Decided index s wrong [] (Ok b)
          decided_none t₆ = let p = index_sized in decided (rw (p.0, p.1, p.2, t, sym weighed ∙ t₁₆, sym (marked index s p.2 sound) ∙ t₆) refl)

    -- there are few weights
    pub weights_few : length s.weights ≤ 256
    weights_few =
        let e = passed_lengths (sizes_of index) (lengths_of s) (not-false (lengths_ok limits (sizes_of index) (lengths_of s)) index_sized.2) in
        let r = ranges (sizes_of index) (not-false (sizes_ok limits (sizes_of index)) index_sized.0) in
        omega (arith, ap (λ l. l.weights) e, r.dim_high)

    -- numbers and summary are as many as marks
    pub lent_alike : (length s.numbers ≡ length s.marks) × (length s.summary ≡ length s.marks)
    lent_alike =
        let e = passed_lengths (sizes_of index) (lengths_of s) (not-false (lengths_ok limits (sizes_of index) (lengths_of s)) index_sized.2) in
        let m = ap (λ l. l.marks) e in
        (ap (λ l. l.numbers) e ∙ sym m, ap (λ l. l.summary) e ∙ sym m)

-- as many are live as there are marks at most
pub live_few : (marks : List ℕ) {live : ℕ} → live ≡ length (filter (is_valid marks) (range 0 (length marks))) → live ≤ length marks
live_few marks e = omega (arith, filter_length (is_valid marks) (range 0 (length marks)), length_range 0 (length marks))

-- ---- what the answer says

-- none of the five holds
record Five (q₁ q₂ q₃ q₁₆ q₆ : Bool) : Type 0 where
  pub one : q₁ ≡ false
  pub two : q₂ ≡ false
  pub three : q₃ ≡ false
  pub sixteen : q₁₆ ≡ false
  pub six : q₆ ≡ false

none_of : (q₁ q₂ q₃ q₁₆ q₆ : Bool) (rest : List Test) → none ≡ first_of (five q₁ q₂ q₃ q₁₆ q₆ rest) → Five q₁ q₂ q₃ q₁₆ q₆ × (none ≡ first_of rest)
none_of true q₂ q₃ q₁₆ q₆ rest e = cc
none_of false true q₃ q₁₆ q₆ rest e = cc
none_of false false true q₁₆ q₆ rest e = cc
none_of false false false true q₆ rest e = cc
none_of false false false false true rest e = cc
none_of false false false false false rest e = (record { one = refl; two = refl; three = refl; sixteen = refl; six = refl }, e)

-- a call's own tests come after the shared ones: where one of those holds they do not count
first_five : (q₁ q₂ q₃ q₁₆ q₆ : Bool) (rest : List Test) {n : ℕ} → some n ≡ first_of (five q₁ q₂ q₃ q₁₆ q₆ []) → some n ≡ first_of (five q₁ q₂ q₃ q₁₆ q₆ rest)
first_five true q₂ q₃ q₁₆ q₆ rest e = e
first_five false true q₃ q₁₆ q₆ rest e = e
first_five false false true q₁₆ q₆ rest e = e
first_five false false false true q₆ rest e = e
first_five false false false false true rest e = e
first_five false false false false false rest e = cc

module _ {index : Index} {s : Slices} {wrong : Bool} {A : Type 0} {r₁ : Result A Refusal} (d : Decided index s wrong [] r₁) where
  pub decided_before : {B : Type 0} (rest : List Test) {e : Refusal} → r₁ ≡ Err e → Decided index s wrong rest {A = B} (Err e)
  unfolding index_tests shown stored store_ops store_view state_of
  decided_before rest z = record { does = first_five (bad₁ index) (bad₂ index) (bad₃ index (lengths_of s) || wrong) (bad₁₆ s) (index_fault index s index.capacity) rest (ap back (sym z) ∙ d.does) }

  -- and where none of those does they decide
  pub decided_after : {B : Type 0} (rest : List Test) (r : Result B Refusal) {a : A} → r₁ ≡ Ok a → back r ≡ first_of rest → Decided index s wrong rest r
  unfolding index_tests shown stored store_ops store_view state_of
  decided_after rest r z k =
      let f = (none_of (bad₁ index) (bad₂ index) (bad₃ index (lengths_of s) || wrong) (bad₁₆ s) (index_fault index s index.capacity) [] (ap back (sym z) ∙ d.does)).0 in
      record { does = rw (f.one, f.two, f.three, f.sixteen, f.six) k }

-- an index of which none of the five holds: all that a call may rest on
five_passed : (index : Index) (s : Slices) (wrong : Bool) → Five (bad₁ index) (bad₂ index) (bad₃ index (lengths_of s) || wrong) (bad₁₆ s) (index_fault index s index.capacity) → Passed index s
unfolding store_view state_of
five_passed index s wrong f =
    let m = sizes_of index in
    let sized = not-false (sizes_ok limits m) f.one in
    let b = ranges m sized in
    let l = passed_lengths m (lengths_of s) (not-false (lengths_ok limits m (lengths_of s)) (or_parts (bad₃ index (lengths_of s)) wrong f.three).0) in
    let e = eqb index.live (length (filter (is_valid s.marks) (range 0 index.capacity))) in
    let i = ltb index.entry index.capacity in
    let ok = labels_ok (is_valid s.marks) index.capacity index.live s.numbers s.summary in
    let six = or_parts (not e || not i || guard_fault limits (guard_of index.guard)) (not ok) f.six in
    let o = or_parts (not e || not i) (guard_fault limits (guard_of index.guard)) six.0 in
    let p = or_parts (not e) (not i) o.0 in
    let right = eqb-true index.live _ (not-false e p.0) in
    record {
      shaped = record {
        vectors_long = ap (λ x. x.vectors) l;
        targets_long = ap (λ x. x.targets) l;
        edges_long = ap (λ x. x.edges) l;
        versions_long = ap (λ x. x.versions) l;
        marks_long = ap (λ x. x.marks) l;
      };
      pool_long = ap (λ x. x.pool) l;
      numbers_long = ap (λ x. x.numbers) l;
      summary_long = ap (λ x. x.summary) l;
      weights_long = ap (λ x. x.weights) l;
      dim_low = b.dim_low;
      dim_high = b.dim_high;
      capacity_low = b.capacity_low;
      capacity_high = b.capacity_high;
      degree_low = b.degree_low;
      degree_high = b.degree_high;
      sizes_right = sized;
      alpha_right = not-false (alpha_ok index.alpha) f.two;
      weights_right = not-false (weights_ok limits s.weights) f.sixteen;
      entry_inside = ltb-true index.entry index.capacity (not-false i p.1);
      live_right = right;
      guard_right = o.1;
      labelled = labelled_exact (is_valid s.marks) index.capacity index.live s.numbers s.summary right (ap (λ x. x.summary) l) (not-false ok six.1);
    }

-- a call's own tests do not count for those that calls share
pub shared_none : (lent : Lengths) (w : State View) (wrong : Bool) (rest : List Test) → first_of (index_tests limits lent w wrong rest) ≡ none
    → first_of (index_tests limits lent w false []) ≡ none
unfolding index_tests
shared_none lent w wrong rest e =
    let v = w.graph in
    go (not (sizes_ok limits v.sizes)) (not (alpha_ok v.sizes.alpha)) (not (lengths_ok limits v.sizes lent)) wrong (not (weights_ok limits w.weights))
    (not (eqb w.live (length (live_slots v))) || not (ltb v.entry v.sizes.capacity) || guard_fault limits w.guard
    || not (labels_ok v.live v.sizes.capacity w.live w.numbers w.summary)) e
  where
    go : (q₁ q₂ q₃ x q₁₆ q₆ : Bool) → first_of (five q₁ q₂ (q₃ || x) q₁₆ q₆ rest) ≡ none → first_of (five q₁ q₂ (q₃ || false) q₁₆ q₆ []) ≡ none
    go true q₂ q₃ x q₁₆ q₆ h = cc
    go false true q₃ x q₁₆ q₆ h = cc
    go false false true x q₁₆ q₆ h = cc
    go false false false true q₁₆ q₆ h = cc
    go false false false false true q₆ h = cc
    go false false false false false true h = cc
    go false false false false false false h = refl

-- so of an index of which no test of a call holds
pub passed_none : (index : Index) (s : Slices) (wrong : Bool) (rest : List Test)
    → first_of (index_tests limits (lengths_of s) (shown stored (state_of index s)) wrong rest) ≡ none → Passed index s
unfolding index_tests shown stored store_ops store_view state_of
passed_none index s wrong rest h = five_passed index s wrong (none_of _ _ _ _ _ rest (sym h)).0

module _ {index : Index} {s : Slices} {wrong : Bool} {rest : List Test} {A : Type 0} {r : Result A Refusal} (d : Decided index s wrong rest r) where
  -- the number of an error is the number given
  pub turned_back : {e : Refusal} → r ≡ Err e → first_of (index_tests limits (lengths_of s) (shown stored (state_of index s)) wrong rest) ≡ some (number_of e)
  turned_back z = sym d.does ∙ ap back z

  module _ {a : A} (z : r ≡ Ok a) where
    -- where there is none, no test holds
    pub let_through : first_of (index_tests limits (lengths_of s) (shown stored (state_of index s)) wrong rest) ≡ none
    let_through = sym d.does ∙ ap back z

    none_found : Five (bad₁ index) (bad₂ index) (bad₃ index (lengths_of s) || wrong) (bad₁₆ s) (index_fault index s index.capacity) × (none ≡ first_of rest)
    unfolding index_tests shown stored store_ops store_view state_of
    none_found = none_of _ _ _ _ _ rest (sym let_through)

    -- nor does a test of the call's own hold
    pub own_none : first_of rest ≡ none
    own_none = sym none_found.1

    pub not_wrong : wrong ≡ false
    not_wrong = (or_parts (bad₃ index (lengths_of s)) wrong none_found.0.three).1

    -- and says all that a call may rest on
    pub passed : Passed index s
    passed = five_passed index s wrong none_found.0

-- what the functions on rows and on vectors ask
module _ {index : Index} {s : Slices} (p : Passed index s) where
  pub passed_rows : RowShape index.degree s.targets s.edges s.versions s.marks
  unfolding state_of
  passed_rows = rows_shaped index.capacity (state_of index s).graph.arrays p.shaped p.capacity_high

  pub passed_marks : length s.marks ≡ index.capacity
  unfolding state_of
  passed_marks = p.shaped.marks_long

  pub passed_bytes : Bytes index.dim (length s.marks) s.vectors
  unfolding state_of
  passed_bytes = record { long = rw p.shaped.marks_long p.shaped.vectors_long; small = p.dim_high }

  -- the weights measure
  pub passed_weighing : Weighing s.weights
  passed_weighing = weights_weigh s.weights p.weights_right

  -- the numbers can be looked up
  pub passed_listed : Listed s.numbers s.summary index.live
  unfolding store_view state_of
  passed_listed = labelled_listed p.labelled p.live_right p.numbers_long p.capacity_high

  pub passed_live : index.live ≡ length (filter (is_valid s.marks) (range 0 index.capacity))
  unfolding store_view state_of
  passed_live = p.live_right

-- ---- one call, turned back or not

module _ (w : State Store) (c : Call) where
  pub step_back : (n : ℕ) → first_of (tests limits c.lent (shown stored w) c.operation) ≡ some n → step stored w c ≡ (w, refused_as n c.operation)
  unfolding step refusal settle
  step_back n e = ap (settle stored w c) e

  pub step_on : first_of (tests limits c.lent (shown stored w) c.operation) ≡ none → step stored w c ≡ perform stored w c.operation
  unfolding step refusal settle
  step_on e = ap (settle stored w c) e
