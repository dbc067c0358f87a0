-- Search: what the code finds and writes is what the definitions say. Assumes nothing.
use Prim.Native.Nat.{ℕ, ◌+◌, ◌*◌, ◌/◌, min, ◌≤◌, ◌<◌}
use mathlib.Core.Bool.{Bool, true, false, not, ◌||◌}
use mathlib.Core.Path.{◌≡◌, refl, sym, ap, ◌∙◌, subst}
use mathlib.Core.List.{List, [], ◌∷◌, map, ◌++◌}
use mathlib.Core.Option.{some}
use native.Mathlib.Omega.{arith}
use borrow.Author.Tests.{ltb-true, ltb-false, eqb-true, not-false}
use lib.Dec.{eqb, ltb}
use lib.Ieee.{Float}
use lib.ListN.{length, take, drop, set, length-set, length-map}
use lib.Seq.{length-take-le, take_all, take_at}
use Rattle.std.proofs.lemmas.Bool.{or_parts}
use Rattle.lists.specs.Lists.{put_front}
use Rattle.lists.proofs.All.{all_take}
use Rattle.lists.proofs.Front.{front_map}
use Rattle.slots.specs.Sizes.{Slices, limits}
use Rattle.slots.specs.Scratch.{size_answer, marks_at}
use Rattle.candidates.specs.Candidates.{Candidate, ids}
use Rattle.vectors.specs.Distance.{f32}
use Rattle.candidates.specs.Inner.Words.{cand, cands, cands_of, Small}
use Rattle.candidates.proofs.Parts.{cands_front}
use Rattle.candidates.proofs.Words.{cands_none, cands_length, front_snoc, front_each, cands_take}
use Rattle.slots.specs.Store.{Arrays, store_view, store_ops}
use Rattle.numbers.specs.Numbers.{number_of}
use Rattle.walk.specs.Walk.{search_pool}
use Rattle.walk.specs.Inner.Scratch.{Ready, Pool}
use Rattle.index.specs.declared.Index.{Index}
use Rattle.std.specs.Prelude.{Result, Ok, Err}
use Rattle.index.specs.declared.Refusal.{Refusal}
use Rattle.index.specs.declared.Refusal.TheVariants as Refused
use Rattle.index.specs.Refusal.{number_of as row_of}
use Rattle.calls.specs.Calls.{Search, search, Call, found, refused_as}
use Rattle.calls.specs.Refusals.{tests}
use Rattle.calls.specs.Outputs.{Outputs, distances, room_of, written}
use Rattle.calls.specs.State.{stored, shown}
use Rattle.calls.specs.Step.{refusal, perform}
use Rattle.calls.specs.Runs.{lent_of, slices_of, call_of, run_refusal}
use Rattle.index.specs.Index.{state_of, arrays_of}
use Rattle.index.specs.Inner.Deciding.{Decided, Passed}
use Rattle.reading.specs.Inner.Finding.{search_tests, Fits, Shown}
use Rattle.reading.specs.Search.{search_outputs, searching_of, found_of, found_as, Searches}
use Rattle.reading.specs.declared.searching.Searching.{Searching}
use Rattle.reading.specs.declared.searching.Found.{Found}
use Rattle.calls.proofs.Tests.{first_none}
use Rattle.index.proofs.Decide.{decided_after, turned_back, let_through, own_none, not_wrong, passed, passed_marks, step_back, step_on}

-- ---- rows 7 and 8

module _ {index : Index} {s : Slices} (a : Search) (outputs : Outputs) (scratch : ℕ) {wrong : Bool} {A : Type 0} {r : Result A Refusal} (d : Decided index s wrong [] r) {v : A} (z : r ≡ Ok v)
    {first room : ℕ} (e : first ≡ min (length outputs.slots) (length outputs.dists)) (m : room ≡ min first (length outputs.numbers)) {over : Bool} (o : over ≡ (ltb limits.beam a.beam || ltb room a.k)) where
  abbrev Turns : Result A Refusal → Type 0
  Turns n = Decided index s wrong (search_tests index.capacity a outputs scratch) n

  over_room : over ≡ (ltb limits.beam a.beam || ltb (min (min (length outputs.slots) (length outputs.dists)) (length outputs.numbers)) a.k)
  over_room = o ∙ ap (λ l. ltb limits.beam a.beam || ltb l a.k) (m ∙ ap (λ l. min l (length outputs.numbers)) e)

  pub turns_over : over ≡ true → Turns (Err Refused.Limits)
  turns_over t = decided_after d _ (Err Refused.Limits) z (rw (sym over_room ∙ t))

  module _ {short : Bool} (f : over ≡ false) (h : short ≡ ltb scratch (size_answer index.capacity)) where
    pub turns_short : short ≡ true → Turns (Err Refused.Scratch)
    turns_short t = decided_after d _ (Err Refused.Scratch) z (rw (sym over_room ∙ f, sym h ∙ t))

    pub turns_none : {v : A} → short ≡ false → Turns (Ok v)
    turns_none {v} t = decided_after d _ (Ok v) z (rw (sym over_room ∙ f, sym h ∙ t))

-- ---- candidates shown one by one

pub record Showing (w : List ℕ) (n : ℕ) (slots : List ℕ) (dists : List Float) (slots' : List ℕ) (dists' : List Float) (i : ℕ) : Type 0 where
  pub below : i ≤ n
  pub slots_size : length slots' ≡ length slots
  pub dists_size : length dists' ≡ length dists
  pub slots_so_far : slots' ≡ put_front (ids (cands w 0 i)) slots
  pub dists_so_far : dists' ≡ put_front (distances (cands w 0 i)) dists

pub showing_none : (w : List ℕ) (n : ℕ) (slots : List ℕ) (dists : List Float) → Showing w n slots dists slots dists 0
showing_none w n slots dists = let e = cands_none w 0 0 refl in record { below = omega arith; slots_size = refl; dists_size = refl; slots_so_far = rw e; dists_so_far = rw e }

-- one more
next_shown : {B : Type 0} (f : Candidate → B) (w : List ℕ) (i : ℕ) (l l' : List B) (v : B) → l' ≡ put_front (map f (cands w 0 i)) l → v ≡ f (cand w (2 * i)) → i < length l
    → set l' i v ≡ put_front (map f (cands w 0 (i + 1))) l
next_shown f w i l l' v e g h =
    let n = cands_length w 0 i in
    rw (e, g, front_snoc w i) (rw n at (front_map f (cands w 0 i) (cand w (2 * i)) l (rw n h)))

module _ {w : List ℕ} {slots : List ℕ} {dists : List Float} {slots' : List ℕ} {dists' : List Float} {i : ℕ} (s : Showing w (length w / 2) slots dists slots' dists' i) (f : Fits w slots dists) where
  abbrev n : ℕ
  n = length w / 2

  pub showing_more : {dist id : ℕ} {d : Float} {j : ℕ} → i < n → dist ≡ (cand w (2 * i)).dist → id ≡ (cand w (2 * i)).id → (d ≡ f32 dist) × (j ≡ id)
      → Showing w n slots dists (set slots' i j) (set dists' i d) (i + 1)
  showing_more h e g c =
      record {
        below = omega arith;
        slots_size = length-set slots' i _ ∙ s.slots_size;
        dists_size = length-set dists' i _ ∙ s.dists_size;
        slots_so_far = next_shown (λ c. c.id) w i slots slots' _ s.slots_so_far (c.1 ∙ g) (omega (arith, f.slots_long));
        dists_so_far = next_shown (λ c. f32 c.dist) w i dists dists' _ s.dists_so_far (c.0 ∙ ap f32 e) (omega (arith, f.dists_long));
      }

  pub showing_small : i < n → (cand w (2 * i)).dist ≤ 16777216
  showing_small h = front_each (λ c. c.dist ≤ 16777216) w n f.small i h

-- ---- a search

module _ {index : Index} {s : Slices} (a : Searching) (f : Found) (scratch : List ℕ) {A : Type 0} {r : Result A Refusal}
    (d : Decided index s (not (eqb (length a.query.now) index.dim)) (search_tests index.capacity (searching_of a) (found_of f) (length scratch)) r) where
  abbrev call : Call
  call = record { lent = lent_of s (found_of f) scratch; operation = search (searching_of a) }

  pub searches_back : {e : Refusal} → r ≡ Err e → Searches index s (searching_of a) (found_of f) scratch (found_of f) scratch (Err e)
  unfolding tests refused_as found_as written state_of stored store_ops store_view shown room_of call_of slices_of
  searches_back {e} z =
      record {
        nearest = [];
        numbers = [];
        counts = λ m o. cc;
        meets = record { does = sym (step_back (state_of index s) call (row_of e) (turned_back d z)); writes = refl; keeps = λ m e. refl };
      }

  module _ {v : A} (z : r ≡ Ok v) where
    abbrev able : Passed index s
    able = passed d z

    abbrev over : Bool
    over = ltb limits.beam a.beam || ltb (min (min (length f.slots.now) (length f.dists.now)) (length f.numbers.now)) a.k

    abbrev small : Bool
    small = ltb (length scratch) (size_answer index.capacity)

    -- what the search's own tests leave
    own : (over ≡ false) × (small ≡ false)
    own = let e = first_none 7 over ((8, small) ∷ []) (own_none d z) in (e.0, (first_none 8 small [] e.1).0)

    beam_most : a.beam ≤ 1024
    unfolding limits
    beam_most = ltb-false 1024 a.beam (or_parts (ltb 1024 a.beam) _ own.0).0

    room : a.k ≤ min (min (length f.slots.now) (length f.dists.now)) (length f.numbers.now)
    room = ltb-false (min (min (length f.slots.now) (length f.dists.now)) (length f.numbers.now)) a.k (or_parts (ltb limits.beam a.beam) _ own.0).1

    words : marks_at + length s.marks ≤ length scratch
    unfolding size_answer
    words = let h = ltb-false (length scratch) (size_answer index.capacity) own.1 in omega (arith, h, passed_marks able)

    -- of the graph that is walked
    module _ {g : Arrays} (same : g ≡ arrays_of index s) where
      pub search_ready : Ready g a.query.now index.entry a.beam scratch
      search_ready =
          rw same (record {
            query_long = eqb-true (length a.query.now) index.dim (not-false _ (not_wrong d z));
            start_inside = rw (passed_marks able) able.entry_inside;
            beam_most = beam_most;
            room = words;
          })

      module _ {scratch' : List ℕ} {all n : ℕ} (walked : Pool g a.query.now index.entry a.beam scratch scratch' all) (e : n ≡ min all a.k) where
        few : n ≤ 1024
        few = omega (arith, walked.few, beam_most)

        first : take a.k (cands scratch' 0 all) ≡ cands scratch' 0 n
        first = rw e (go (ltb all a.k) refl)
          where
            go : (q : Bool) → ltb all a.k ≡ q → take a.k (cands scratch' 0 all) ≡ cands scratch' 0 (min all a.k)
            go true h =
                let l = ltb-true all a.k h in
                let m : min all a.k ≡ all = omega arith in
                let b : length (cands scratch' 0 all) ≤ a.k = rw (cands_length scratch' 0 all) (omega arith) in
                rw m (take_all a.k (cands scratch' 0 all) b)
            go false h =
                let l = ltb-false all a.k h in
                let m : min all a.k ≡ a.k = omega arith in
                rw m (cands_take scratch' 0 all a.k l)

        pub search_inside : 2 * n ≤ length scratch'
        search_inside = omega (arith, few, words, walked.size)

        shown_list : cands_of (take (2 * n) scratch') ≡ cands scratch' 0 n
        shown_list = cands_front scratch' n search_inside

        pub search_list : 2 * n ≡ length (take (2 * n) scratch')
        search_list = sym (length-take-le (2 * n) scratch' search_inside)

        half : length (take (2 * n) scratch') / 2 ≡ n
        half = omega (arith, search_list)

        pub search_fits : Fits (take (2 * n) scratch') f.slots.now f.dists.now
        search_fits =
            record {
              small = subst Small (first ∙ sym shown_list) (all_take (λ c. c.dist ≤ 16777216) a.k (cands scratch' 0 all) walked.small);
              slots_long = rw half (omega (arith, e, room));
              dists_long = rw half (omega (arith, e, room));
            }

        -- room for their numbers, beside slots as many as before
        pub search_named : n ≤ length f.numbers.now
        search_named = omega (arith, e, room)

        pub search_first : n ≡ length (take n f.numbers.now)
        search_first = sym (length-take-le n f.numbers.now search_named)

        pub search_copies : {m : ℕ} → m ≡ length f.slots.now → length (take n f.numbers.now) ≤ m
        search_copies l = rw (← search_first) (omega (arith, e, room))

        nearest_found : cands scratch' 0 n ≡ take a.k (search_pool (store_view (state_of index s).graph) a.query.now a.beam)
        unfolding state_of
        nearest_found = sym first ∙ ap (take a.k) (walked.list (state_of index s).graph (sym same) (rw same (sym (passed_marks able))) refl)

        not_refused : (m : ℕ) → refusal stored (state_of index s) call ≡ some m → ⊥
        unfolding refusal tests state_of stored store_ops store_view shown room_of
        not_refused m h = let g = sym (let_through d z) ∙ h in cc

        module _ {slots' : List ℕ} {dists' : List Float} {out : List ℕ} (shown : Shown (cands_of (take (2 * n) scratch')) f.slots.now f.dists.now slots' dists')
            (copied : out ≡ map (number_of s.numbers) (take (length (take n f.numbers.now)) slots')) where
          h : Shown (cands scratch' 0 n) f.slots.now f.dists.now slots' dists'
          h = subst (λ l. Shown l f.slots.now f.dists.now slots' dists') shown_list shown

          -- the numbers found
          abbrev figures : List ℕ
          figures = map (number_of s.numbers) (ids (cands scratch' 0 n))

          -- the slots written are those whose numbers are copied
          shown_first : take n slots' ≡ ids (cands scratch' 0 n)
          shown_first =
              let l = ids (cands scratch' 0 n) in
              ap (take n) h.slots_written ∙ take_at l (drop (length l) f.slots.now) n (length-map (cands scratch' 0 n) (λ c. c.id) ∙ cands_length scratch' 0 n)

          figures_written : out ++ drop n f.numbers.now ≡ put_front figures f.numbers.now
          figures_written =
              let k : length figures ≡ n = length-map (ids (cands scratch' 0 n)) (number_of s.numbers) ∙ length-map (cands scratch' 0 n) (λ c. c.id) ∙ cands_length scratch' 0 n in
              rw (copied, ← search_first, shown_first, k)

          pub searches_on : Searches index s (searching_of a) (found_of f) scratch (search_outputs slots' dists' (out ++ drop n f.numbers.now)) scratch' (Ok n)
          unfolding tests perform found_as written state_of stored store_ops store_view shown room_of call_of slices_of run_refusal
          searches_on =
              record {
                nearest = cands scratch' 0 n;
                numbers = figures;
                counts = λ m o. let q : n ≡ m = cc in sym q ∙ sym (cands_length scratch' 0 n);
                meets = record {
                  does = ap (λ cs. (state_of index s, found cs (map (number_of s.numbers) (ids cs)))) nearest_found ∙ sym (step_on (state_of index s) call (let_through d z));
                  writes = λ i. search_outputs (h.slots_written i) (h.dists_written i) (figures_written i);
                  keeps = λ m o. absurd (not_refused m o);
                };
              }
