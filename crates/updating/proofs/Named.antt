-- The names of a delete: a call on numbers is the call on the slots that carry them. Assumes nothing.
use Prim.Native.Nat.{ℕ, ◌≤◌, ◌<◌}
use mathlib.Core.Bool.{true, false, ◌||◌}
use mathlib.Core.Path.{◌≡◌, refl, sym, ap, ◌∙◌, subst}
use mathlib.Core.List.{List, [], ◌∷◌, map}
use mathlib.Core.Option.{none}
use native.Mathlib.Omega.{arith}
use borrow.Author.Tests.{ltb-false}
use denote.Enum.Bare.{sameb}
use lib.Dec.{ltb}
use lib.ListN.{length, take, drop, length-map}
use lib.Seq.{take-append_seam}
use Rattle.std.proofs.lemmas.Bool.{or_parts}
use Rattle.lists.specs.Lists.{put_front}
use Rattle.slots.specs.Sizes.{Slices, lengths_of, limits}
use Rattle.slots.specs.Store.{Store}
use Rattle.numbers.specs.Numbers.{slot_of}
use Rattle.numbers.specs.Inner.Listed.{Listed}
use Rattle.calls.specs.Calls.{Delete, delete, Lent}
use Rattle.calls.specs.Refusals.{Test, first_of, delete_over, scratch_short, index_tests, tests}
use Rattle.calls.specs.State.{State, stored, shown}
use Rattle.calls.specs.Step.{slots_of, named, refusal}
use Rattle.calls.specs.Runs.{slices_of, call_of, run_refusal}
use Rattle.calls.proofs.Tests.{first_none, index_finds}
use Rattle.calls.proofs.Labelled.{same_refusal, same_delete}
use Rattle.index.specs.declared.Index.{Index}
use Rattle.index.specs.Index.{state_of}
use Rattle.index.specs.Inner.Deciding.{Decided}
use Rattle.index.proofs.Decide.{shared_none, turned_back, passed, passed_listed}
use Rattle.std.specs.Prelude.{Result, Ok, Err}
use Rattle.std.specs.Result.{is_ok}
use Rattle.index.specs.declared.Refusal.{Refusal}
use Rattle.updating.specs.declared.Changed.{Changed}
use Rattle.updating.specs.declared.names.Naming.{Naming}
use Rattle.updating.specs.declared.names.Naming.TheVariants.{Slots, Numbers}
use Rattle.updating.specs.contracts.names.Naming.{the_type}
use Rattle.updating.specs.Delete.{naming_of, deleting, Deletes}
use Rattle.updating.specs.Inner.Emptying.{slot_delete, BySlots}

-- ---- the delete by slots

module _ (naming : Naming) (index : Index) (s : Slices) (names : List ℕ) (beam degree : ℕ) where
  abbrev asked : Delete
  asked = deleting names naming beam degree

  abbrev on : State Store
  on = state_of index s

  abbrev Passes : Type 0
  Passes = first_of (index_tests limits (lengths_of s) (shown stored on) false []) ≡ none

  -- by the names as they are
  as_they_are : (Passes → length names ≤ limits.ids → names ≡ named on asked) → BySlots index s asked (slot_delete names beam degree)
  as_they_are h = record { names = h; many = refl; rest = refl }

  -- which are slots
  pub by_slots_given : false ≡ sameb the_type naming Numbers → BySlots index s asked (slot_delete names beam degree)
  unfolding slots_of
  by_slots_given e = as_they_are (λ n few. go naming e)
    where
      go : (k : Naming) → false ≡ sameb the_type k Numbers → names ≡ slots_of on.numbers (naming_of k) names
      go Slots f = refl
      go Numbers f = cc

  -- or too many
  pub by_slots_many : 256 < length names → BySlots index s asked (slot_delete names beam degree)
  unfolding limits
  by_slots_many h = as_they_are (λ n few. absurd (omega (arith, h, few)))

  module _ {A : Type 0} {r : Result A Refusal} (d : Decided index s false [] r) where
    -- or of an index that is turned back
    pub by_slots_refused : false ≡ is_ok r → BySlots index s asked (slot_delete names beam degree)
    by_slots_refused f = as_they_are (λ n few. go r d f n)
      where
        go : (q : Result A Refusal) → Decided index s false [] q → false ≡ is_ok q → Passes → names ≡ named on asked
        go (Ok u) k e n = cc
        go (Err x) k e n = let z = sym (turned_back k refl) ∙ n in cc

    -- the numbers of one that is not can be looked up
    pub by_slots_listed : true ≡ is_ok r → Listed s.numbers s.summary index.live
    by_slots_listed f = go r d f
      where
        go : (q : Result A Refusal) → Decided index s false [] q → true ≡ is_ok q → Listed s.numbers s.summary index.live
        go (Ok u) k e = passed_listed (passed k refl)
        go (Err x) k e = cc

  -- by those that carry the numbers
  pub by_slots_numbers : (slots slots' : List ℕ) → true ≡ sameb the_type naming Numbers → slots' ≡ put_front (map (slot_of s.numbers) names) slots
      → BySlots index s asked (slot_delete (take (length names) slots') beam degree)
  unfolding slots_of state_of
  by_slots_numbers slots slots' e f =
      let many : length (map (slot_of s.numbers) names) ≡ length names = simp length-map in
      let front : take (length names) slots' ≡ map (slot_of s.numbers) names = rw (← many, f) (take-append_seam (map (slot_of s.numbers) names) (drop (length (map (slot_of s.numbers) names)) slots)) in
      record { names = λ n few. front ∙ go naming e; many = ap length front ∙ many; rest = refl }
    where
      go : (k : Naming) → true ≡ sameb the_type k Numbers → map (slot_of s.numbers) names ≡ slots_of s.numbers (naming_of k) names
      go Slots g = cc
      go Numbers g = refl

-- ---- it stands for the one by names

module _ {index : Index} {s : Slices} {a b : Delete} (k : BySlots index s a b) where
  -- it names the same slots where no limit is passed, nor do the tests hold that calls share
  pub same_named : delete_over limits a ≡ false → first_of (index_tests limits (lengths_of s) (shown stored (state_of index s)) false []) ≡ none
      → named (state_of index s) b ≡ named (state_of index s) a
  unfolding slots_of
  same_named over n =
      let few = (or_parts (ltb limits.repair_beam a.repair_beam || ltb limits.repair_degree a.repair_degree) (ltb limits.ids (length a.names)) over).1 in
      ap (named (state_of index s)) k.rest ∙ k.names n (ltb-false limits.ids (length a.names) few)

  -- the delete that its names, beam and degree make
  pub slots_asked : slot_delete b.names b.repair_beam b.repair_degree ≡ b
  slots_asked = ap (λ (x : Delete). slot_delete x.names x.repair_beam x.repair_degree) k.rest ∙ sym k.rest

-- ---- a delete

-- none of its tests holds: no limit is passed, nor do the tests hold that calls share
delete_accepted : (w : State Store) (lent : Lent) (a : Delete) → refusal stored w (record { lent = lent; operation = delete a }) ≡ none
    → (delete_over limits a ≡ false) × (first_of (index_tests limits lent.slices (shown stored w) false []) ≡ none)
unfolding refusal tests
delete_accepted w lent a e =
    let after : List Test = (8, scratch_short limits lent (shown stored w)) ∷ [] in
    let rest : List Test = (7, delete_over limits a) ∷ after in
    let wrong = ltb lent.room.stats (length a.names) in
    ((first_none 7 (delete_over limits a) after (index_finds lent.slices (shown stored w) wrong rest e).own).0, shared_none lent.slices (shown stored w) wrong rest e)

-- the delete by slots is the one by names, of slices that are read as s₀
pub deletes_named : {index : Index} {s₀ s : Slices} {a b : Delete} {room : ℕ} {scratch : List ℕ} {s' : Slices} {scratch' : List ℕ} {r : Result Changed Refusal}
    → s₀ ≡ s → BySlots index s₀ a b → Deletes index s (slot_delete b.names b.repair_beam b.repair_degree) room scratch s' scratch' r → Deletes index s a room scratch s' scratch' r
unfolding call_of run_refusal slices_of state_of
deletes_named {index} {s = s} {a} {b} {room} {scratch} {s'} {scratch'} {r} same k₀ by =
    let k = subst (λ (x : Slices). BySlots index x a b) same k₀ in
    let d = subst (λ (x : Delete). Deletes index s x room scratch s' scratch' r) (slots_asked k) by in
    let w = state_of index s in
    let beam = ap (λ (x : Delete). x.repair_beam) k.rest in
    let degree = ap (λ (x : Delete). x.repair_degree) k.rest in
    record {
      stats = d.stats;
      words = d.words;
      fits = d.fits;
      meets = λ before l.
          let m = d.meets before l in
          record {
            does = m.does ∙ same_delete w _ a b k.many beam degree (λ e. let h = delete_accepted w _ a e in same_named k h.0 h.1);
            writes = m.writes;
            keeps = λ n e. m.keeps n (same_refusal w _ a b k.many beam degree ∙ e);
          };
    }
