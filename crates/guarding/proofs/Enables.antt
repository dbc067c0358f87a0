-- Enabling the guard: what the code decides, chooses and answers is what the definitions say. Assumes nothing.
use Prim.Native.Nat.{ℕ, max, ◌≤◌, ◌<◌}
use mathlib.Core.Bool.{Bool, true, false, not, ◌||◌}
use mathlib.Core.Path.{◌≡◌, refl, sym, ap, ◌∙◌, subst}
use mathlib.Core.List.{List, [], ◌∷◌}
use mathlib.Core.Option.{some}
use native.Mathlib.Omega.{arith}
use borrow.Author.Tests.{le-ltb, ltb-true, ltb-false, eq-eqb, ne_eqb, eqb-true, eqb-false, not-false}
use lib.Dec.{eqb, ltb}
use lib.ListN.{length, take, drop}
use lib.Seq.{take-append_seam}
use Rattle.std.proofs.lemmas.Bool.{or_parts}
use Rattle.lists.specs.Lists.{put_front}
use Rattle.vectors.specs.Distance.{distance}
use Rattle.vectors.specs.Weights.{Weighing}
use Rattle.slots.specs.Sizes.{Slices, Lengths, lengths_of, limits, sizes_ok, alpha_ok, weights_ok, lengths_ok}
use Rattle.slots.specs.Scratch.{size_answer}
use Rattle.slots.specs.View.{View, live_slots}
use Rattle.slots.specs.Store.{Store, store_view, store_ops}
use Rattle.guard.specs.Lent.{config_of}
use Rattle.guard.specs.Guard.{Config, normalized, on, pool_of, residual_entry, landmark_pool}
use Rattle.admission.specs.Inner.Pools.{Entered, Poolable, Pooled}
use Rattle.admission.proofs.Entering.{entered_live}
use Rattle.index.specs.declared.Index.{Index}
use Rattle.guard.specs.declared.Config as lent
use Rattle.calls.specs.Calls.{Call, enable, standing, refused_as}
use Rattle.calls.specs.Outputs.{no_outputs, written}
use Rattle.calls.specs.Refusals.{Test, first_of, guard_fault, config_over, new_pool, index_tests, tests}
use Rattle.calls.specs.State.{State, stored, shown, with_guard}
use Rattle.calls.specs.Step.{refusal, perform}
use Rattle.calls.specs.Runs.{lent_of, slices_of, call_of, run_refusal}
use Rattle.calls.proofs.Tests.{first_none}
use Rattle.calls.proofs.Enabling.{one_live}
use Rattle.index.specs.Index.{guard_of, state_of}
use Rattle.numbers.specs.Numbers.{labels_ok}
use Rattle.index.specs.Inner.Deciding.{Decided, Passed}
use Rattle.index.proofs.Decide.{decided_before, decided_after, turned_back, let_through, own_none, passed, passed_marks, passed_bytes, passed_weighing, step_back, step_on}
use Rattle.guarding.specs.declared.Status.{Status}
use Rattle.index.specs.declared.Refusal.{Refusal}
use Rattle.index.specs.declared.Refusal.TheVariants as Refused
use Rattle.index.specs.Refusal.{number_of}
use Rattle.std.specs.Prelude.{Option, Result, Ok, Err}
use Rattle.std.specs.Option.{unwrap_or}
use Rattle.guarding.specs.Guarding.{status_of, enabled_as, enabled_index, Enables}
use Rattle.guarding.specs.Inner.Testing.{enable_tests, guarded_index, with_pool, Stood}
use Rattle.guarding.proofs.Shared.{pool_most, guard_room}

-- ---- rows 7, 8, 12 and 13

module _ {index : Index} {s : Slices} (c : Config) (scratch : ℕ) {A : Type 0} {r : Result A Refusal} (d : Decided index s false [] r) where
  abbrev Turns : Result A Refusal → Type 0
  Turns k = Decided index s false (enable_tests index c scratch) k

  pub turns_before : {x : Refusal} → r ≡ Err x → Turns (Err x)
  turns_before z = decided_before d _ z

  module _ {u : A} (z : r ≡ Ok u) where
    module _ {o : Bool} (k : o ≡ config_over limits c) where
      pub turns_over : o ≡ true → Turns (Err Refused.Limits)
      turns_over t = decided_after d _ _ z (rw (sym k ∙ t))

      module _ {q : Bool} (f : o ≡ false) (h : q ≡ ltb scratch (size_answer index.capacity)) where
        pub turns_short : q ≡ true → Turns (Err Refused.Scratch)
        turns_short t = decided_after d _ _ z (rw (sym k ∙ f, sym h ∙ t))

        module _ (t : q ≡ false) where
          pub turns_empty : index.live ≡ 0 → Turns (Err Refused.NoneLive)
          turns_empty e = decided_after d _ _ z (rw (sym k ∙ f, sym h ∙ t, eq-eqb index.live 0 e))

          module _ (n : index.live ≡ 0 → ⊥) where
            pub turns_one : index.live ≡ 1 → Turns (Err Refused.NoLandmark)
            turns_one e = decided_after d _ _ z (rw (sym k ∙ f, sym h ∙ t, ne_eqb index.live 0 n, eq-eqb index.live 1 e))

            pub turns_none : {v : A} → (index.live ≡ 1 → ⊥) → Turns (Ok v)
            turns_none m = decided_after d _ _ z (rw (sym k ∙ f, sym h ∙ t, ne_eqb index.live 0 n, ne_eqb index.live 1 m))

-- ---- the live count decides 12 and 13

-- tests in two forms that are the same where the one before them does not hold
behind : (n : ℕ) (q : Bool) (xs ys : List Test) → (q ≡ false → first_of xs ≡ first_of ys) → first_of ((n, q) ∷ xs) ≡ first_of ((n, q) ∷ ys)
behind n true xs ys h = refl
behind n false xs ys h = h refl

-- a call's own tests in two forms that are the same where the live count is right and the entry inside
own_tests : (slices : Lengths) (w : State View) (wrong : Bool) (xs ys : List Test)
    → (w.live ≡ length (live_slots w.graph) → w.graph.entry < w.graph.sizes.capacity → first_of xs ≡ first_of ys)
    → first_of (index_tests limits slices w wrong xs) ≡ first_of (index_tests limits slices w wrong ys)
unfolding index_tests
own_tests slices w wrong xs ys h =
    let v = w.graph in
    let q₁ = not (sizes_ok limits v.sizes) in
    let q₂ = not (alpha_ok v.sizes.alpha) in
    let q₃ = not (lengths_ok limits v.sizes slices) || wrong in
    let q₁₆ = not (weights_ok limits w.weights) in
    let counted = eqb w.live (length (live_slots v)) in
    let inside = ltb v.entry v.sizes.capacity in
    let labels = labels_ok v.live v.sizes.capacity w.live w.numbers w.summary in
    let q₆ = not counted || not inside || guard_fault limits w.guard || not labels in
    behind 1 q₁ ((2, q₂) ∷ (3, q₃) ∷ (16, q₁₆) ∷ (6, q₆) ∷ xs) ((2, q₂) ∷ (3, q₃) ∷ (16, q₁₆) ∷ (6, q₆) ∷ ys) (λ i.
    behind 2 q₂ ((3, q₃) ∷ (16, q₁₆) ∷ (6, q₆) ∷ xs) ((3, q₃) ∷ (16, q₁₆) ∷ (6, q₆) ∷ ys) (λ j.
    behind 3 q₃ ((16, q₁₆) ∷ (6, q₆) ∷ xs) ((16, q₁₆) ∷ (6, q₆) ∷ ys) (λ k.
    behind 16 q₁₆ ((6, q₆) ∷ xs) ((6, q₆) ∷ ys) (λ l.
    behind 6 q₆ xs ys (λ f.
    let g = (or_parts (not counted || not inside || guard_fault limits w.guard) (not labels) f).0 in
    let o = or_parts (not counted) (not inside) (or_parts (not counted || not inside) (guard_fault limits w.guard) g).0 in
    h (eqb-true w.live (length (live_slots v)) (not-false counted o.0)) (ltb-true v.entry v.sizes.capacity (not-false inside o.1)))))))

own_same : (v : View) (c : Config) (live : ℕ) (a b : Bool) → live ≡ length (live_slots v) → v.entry < v.sizes.capacity
    → first_of ((7, a) ∷ (8, b) ∷ (12, eqb live 0) ∷ (13, eqb live 1) ∷ []) ≡ first_of ((7, a) ∷ (8, b) ∷ (12, eqb (length (live_slots v)) 0) ∷ (13, eqb (length (new_pool v c)) 0) ∷ [])
own_same v c live a b e h =
    let n = length (live_slots v) in
    let p = eqb (length (new_pool v c)) 0 in
    let counted : (n ≡ 0 → ⊥) → first_of ((13, eqb n 1) ∷ []) ≡ first_of ((13, p) ∷ []) = λ k. rw (one_live v c h (omega (arith, k))) in
    rw e
    (behind 7 a ((8, b) ∷ (12, eqb n 0) ∷ (13, eqb n 1) ∷ []) ((8, b) ∷ (12, eqb n 0) ∷ (13, p) ∷ []) (λ i.
    behind 8 b ((12, eqb n 0) ∷ (13, eqb n 1) ∷ []) ((12, eqb n 0) ∷ (13, p) ∷ []) (λ j.
    behind 12 (eqb n 0) ((13, eqb n 1) ∷ []) ((13, p) ∷ []) (λ k. counted (eqb-false n 0 k)))))

-- ---- settings that are stored have no fault

fault_free : (c : Config) {n : ℕ} → config_over limits c ≡ false → n ≤ 1024 → guard_fault limits (on (normalized c) n) ≡ false
unfolding guard_fault limits normalized
fault_free c {n} o h =
    let o₁ = ltb 64 c.landmark_count in
    let o₂ = ltb 16 c.multiplier in
    let o₃ = ltb 65536 c.sample_size in
    let o₄ = ltb 1024 c.beam in
    let p = or_parts (o₁ || o₂ || o₃) o₄ o in
    let q = or_parts (o₁ || o₂) o₃ p.0 in
    let t = or_parts o₁ o₂ q.0 in
    rw (
      ne_eqb (max 1 c.landmark_count) 0 (λ i. omega (arith, i)),
      ne_eqb (max 1 c.multiplier) 0 (λ i. omega (arith, i)),
      ne_eqb (max 1 c.sample_size) 0 (λ i. omega (arith, i)),
      ne_eqb (max 1 c.beam) 0 (λ i. omega (arith, i)),
      le-ltb 64 (max 1 c.landmark_count) (omega (arith, ltb-false 64 c.landmark_count t.0)),
      le-ltb 16 (max 1 c.multiplier) (omega (arith, ltb-false 16 c.multiplier t.1)),
      le-ltb 65536 (max 1 c.sample_size) (omega (arith, ltb-false 65536 c.sample_size q.1)),
      le-ltb 1024 (max 1 c.beam) (omega (arith, ltb-false 1024 c.beam p.1)),
      le-ltb 1024 n h,
    )

-- ---- enabling

-- an enabling that was checked, with its slices read as s₀
pub record EnableChecked (index : Index) (s₀ s : Slices) (c : Config) (scratch : List ℕ) {A : Type 0} (r : Result A Refusal) : Type 0 where
  pub read : s₀ ≡ s
  pub decided : Decided index s₀ false (enable_tests index c (length scratch)) r

module _ {index : Index} {s₀ s : Slices} {c : Config} {scratch : List ℕ} {A : Type 0} {r : Result A Refusal} (checked : EnableChecked index s₀ s c scratch r) where
  d : Decided index s false (enable_tests index c (length scratch)) r
  d = subst (λ (x : Slices). Decided index x false (enable_tests index c (length scratch)) r) checked.read checked.decided

  abbrev before : State Store
  before = state_of index s

  abbrev call : Call
  call = record { lent = lent_of s no_outputs scratch; operation = enable c }

  abbrev over : Bool
  over = config_over limits c

  abbrev short : Bool
  short = ltb (length scratch) (size_answer index.capacity)

  same_tests : first_of (tests limits call.lent (shown stored before) (enable c)) ≡ first_of (index_tests limits (lengths_of s) (shown stored before) false (enable_tests index c (length scratch)))
  unfolding tests shown stored store_ops store_view state_of
  same_tests =
      let v = store_view before.graph in
      let live = length (live_slots v) in
      sym
      (own_tests (lengths_of s) (shown stored before) false (enable_tests index c (length scratch))
      ((7, over) ∷ (8, short) ∷ (12, eqb live 0) ∷ (13, eqb (length (new_pool v c)) 0) ∷ [])
      (λ e h. own_same v c index.live over short e h))

  pub enables_back : {x : Refusal} → r ≡ Err x → Enables index s c scratch s scratch (Err x)
  unfolding refused_as enabled_as enabled_index written state_of call_of slices_of
  enables_back {x} n =
      record { meets = record { does = sym (step_back before call (number_of x) (same_tests ∙ turned_back d n)); writes = refl; keeps = λ m e. refl } }

  module _ {u : A} (z : r ≡ Ok u) where
    abbrev able : Passed index s
    able = passed d z

    own : (over ≡ false) × (short ≡ false) × (eqb index.live 0 ≡ false)
    own =
        let e = first_none 7 over ((8, short) ∷ (12, eqb index.live 0) ∷ (13, eqb index.live 1) ∷ []) (own_none d z) in
        let f = first_none 8 short ((12, eqb index.live 0) ∷ (13, eqb index.live 1) ∷ []) e.1 in
        (e.0, f.0, (first_none 12 (eqb index.live 0) ((13, eqb index.live 1) ∷ []) f.1).0)

    pub marks_few : length s.marks ≤ 65536
    marks_few = omega (arith, passed_marks able, able.capacity_high)

    pub weights_ready : Weighing s.weights × (length s.weights ≡ index.dim)
    weights_ready = (passed_weighing able, able.weights_long)

    -- the residual entry: the code's other case does not come up
    module _ {e : Option ℕ} (f : Entered s.marks [] index.entry e) {start : ℕ} (se : start ≡ unwrap_or e index.entry) where
      entered : (residual_entry (store_view before.graph) [] ≡ some start) × (start < length s.marks)
      unfolding state_of
      entered =
          let k =
          entered_live before.graph f refl (sym (passed_marks able)) refl (omega (arith, passed_marks able, able.entry_inside))
          (omega (arith, able.live_right, eqb-false index.live 0 own.2)) in
          let is : start ≡ k.slot = se ∙ ap (λ x. unwrap_or x index.entry) k.is in
          rw is (k.does, k.inside)

      module _ {t : lent.Config ℕ} (m : config_of t ≡ normalized c) where
        count_is : t.count ≡ max 1 c.landmark_count
        unfolding normalized
        count_is = ap (λ x. x.landmark_count) m

        multiplier_is : t.multiplier ≡ max 1 c.multiplier
        unfolding normalized
        multiplier_is = ap (λ x. x.multiplier) m

        sample_is : t.sample ≡ max 1 c.sample_size
        unfolding normalized
        sample_is = ap (λ x. x.sample_size) m

        pub pool_ready : Poolable (distance s.weights) index.dim s.vectors s.marks start t.count t.multiplier t.sample s.pool scratch
        unfolding limits
        pool_ready =
            let o₁ = ltb 64 c.landmark_count in
            let o₂ = ltb 16 c.multiplier in
            let p = or_parts (o₁ || o₂ || ltb 65536 c.sample_size) (ltb 1024 c.beam) own.0 in
            let q = or_parts o₁ o₂ (or_parts (o₁ || o₂) (ltb 65536 c.sample_size) p.0).0 in
            record {
              bytes = passed_bytes able;
              few = marks_few;
              entry_inside = entered.1;
              count_most = omega (arith, count_is, ltb-false 64 c.landmark_count q.0);
              multiplier_some = omega (arith, multiplier_is);
              multiplier_most = omega (arith, multiplier_is, ltb-false 16 c.multiplier q.1);
              sample_some = omega (arith, sample_is);
              pool_long = pool_most able;
              room = guard_room able scratch own.1;
            }

        module _ {pool' : List ℕ} {n : ℕ} (g : Pooled (distance s.weights) index.dim s.vectors s.marks start t.count t.multiplier t.sample s.pool pool' n) where
          abbrev new : List ℕ
          new = new_pool (store_view before.graph) c

          chosen_is : landmark_pool (store_view before.graph) (config_of t) start ≡ new
          unfolding new_pool
          chosen_is = rw (m, entered.0)

          words_are : pool' ≡ put_front new s.pool
          unfolding state_of
          words_are = (g.does before.graph t.beam refl refl refl refl (sym (passed_marks able))).list ∙ ap (λ l. put_front l s.pool) chosen_is

          many : n ≡ length new
          unfolding state_of
          many = (g.does before.graph t.beam refl refl refl refl (sym (passed_marks able))).count ∙ ap length chosen_is

          front : take n pool' ≡ new
          front = rw (many, words_are) (take-append_seam new (drop (length new) s.pool))

          -- of slices with that pool, which are read as s₂
          module _ {i : Index} (ie : i ≡ guarded_index index t n) {s₂ : Slices} (read : s₂ ≡ with_pool s pool') where
            pub status_ready : length pool' ≡ length s.pool → (guard_fault limits (guard_of i.guard) ≡ false) × (length s₂.pool ≡ limits.pool)
            unfolding guard_of
            status_ready l = (rw (ie, m) (fault_free c own.0 g.few), ap (λ (x : Slices). length x.pool) read ∙ l ∙ able.pool_long)

            module _ {now : Status} (h₀ : Stood (guard_of i.guard) s₂.marks s₂.pool now) where
              h : Stood (guard_of i.guard) s.marks pool' now
              h = subst (λ (x : Slices). Stood (guard_of i.guard) x.marks x.pool now) read h₀

              performed : (state_of i (with_pool s pool'), standing (status_of now)) ≡ perform stored before (enable c)
              unfolding perform with_guard stored store_ops store_view state_of guard_of pool_of
              performed = rw (h.does (store_view before.graph) refl, ie, m, front, words_are, many)

              not_refused : (k : ℕ) → refusal stored before call ≡ some k → ⊥
              unfolding refusal
              not_refused k h = let j = sym (same_tests ∙ let_through d z) ∙ h in let x : ◌≡◌ {A = ℕ} 0 1 = cc in omega arith

              pub enables_on : {scratch' : List ℕ} → Enables index s c scratch (with_pool s pool') scratch' (Ok (record { index = i; status = now }))
              unfolding enabled_as enabled_index written state_of call_of slices_of run_refusal
              enables_on =
                  record {
                    meets = record {
                      does = performed ∙ sym (step_on before call (same_tests ∙ let_through d z));
                      writes = refl;
                      keeps = λ k h. absurd (not_refused k h);
                    };
                  }
