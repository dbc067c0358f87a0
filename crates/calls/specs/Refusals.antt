-- Turned-back calls: document 01's table, with document 02's 15 and its part of 6 (E1) and its 16 (E3), less the row that E2 took away. For each call the tests
-- that apply to it, in the table's order; the first that holds is the number given. Assumes nothing.
use Rattle.std.specs.Prelude.{ℕ, ◌*◌, ◌/◌, min, Bool, true, false, not, ◌&&◌, ◌||◌, cond, List, [], ◌∷◌, length, eqb, ltb}
use Rattle.std.proofs.Math.Option.{Option, none, some}
use Rattle.slots.specs.Sizes.{Limits, Lengths, sizes_ok, alpha_ok, weights_ok, lengths_ok}
use Rattle.slots.specs.Scratch.{size_answer}
use Rattle.slots.specs.View.{View, live_slots, free_slots}
use Rattle.slots.specs.Store.{blank}
use Rattle.numbers.specs.Numbers.{taken, labels_ok}
use Rattle.guard.specs.Guard.{Config, Guard, off, on, normalized, residual_entry, landmark_pool}
use Rattle.calls.specs.Calls.{Making, Search, Delete, Operation, create, read, read_vector, search, insert, delete, enable, status, assess, guarded_delete, Room, Lent}
use Rattle.calls.specs.State.{State}

-- a number of the table, and whether its case holds
abbrev pub Test : Type 0
Test = ℕ × Bool

abbrev pub first_of : List Test → Option ℕ
first_of [] = none
first_of (t ∷ ts) = cond t.1 (some t.0) (first_of ts)

-- ---- row 5, of a making

-- every word of the given rows is blank or a given slot
abbrev pub names_given : ℕ → List ℕ → Bool
names_given count [] = true
names_given count (t ∷ ts) = (eqb t blank || ltb t count) && names_given count ts

-- the entry is a given slot, 0 where none is given
abbrev pub entry_given : ℕ → ℕ → Bool
entry_given count entry = ltb entry count || eqb count 0 && eqb entry 0

-- ---- the guard

abbrev pub config_zero : Config → Bool
config_zero c = eqb c.landmark_count 0 || eqb c.multiplier 0 || eqb c.sample_size 0 || eqb c.beam 0

unfoldable pub is_off : Guard → Bool
is_off off = true
is_off (on c n) = false

abbrev pub or_zero : Option ℕ → ℕ
or_zero none = 0
or_zero (some n) = n

-- the pool that enabling chooses, from the residual entry
unfoldable pub new_pool : View → Config → List ℕ
new_pool v c = landmark_pool v (normalized c) (or_zero (residual_entry v []))

-- ---- every call, under limits

module _ (l : Limits) where
  unfoldable pub making_tests : Lengths → Making → List Test
  making_tests lent m =
      let z = m.sizes in
      (1, not (sizes_ok l z))
      ∷ (2, not (alpha_ok z.alpha))
      ∷ (
        3,
        not (lengths_ok l z lent && eqb (length m.bytes) (m.count * z.dim) && eqb (length m.rows) (m.count * z.degree) && eqb (length m.numbers) m.count
            && eqb (length m.weights) z.dim),
      )
      ∷ (16, not (weights_ok l m.weights))
      ∷ (4, ltb z.capacity m.count)
      ∷ (5, not (names_given m.count m.rows && entry_given m.count m.entry))
      ∷ (15, taken [] m.numbers)
      ∷ []

  -- 7, of a search, of a delete (plain or guarded) and of a guard's settings
  abbrev pub search_over : Room → Search → Bool
  search_over room a = ltb l.beam a.beam || ltb (min (min room.slots room.dists) room.numbers) a.k

  abbrev pub delete_over : Delete → Bool
  delete_over a = ltb l.repair_beam a.repair_beam || ltb l.repair_degree a.repair_degree || ltb l.ids (length a.names)

  abbrev pub config_over : Config → Bool
  config_over c =
      ltb l.landmarks c.landmark_count || ltb l.multiplier c.multiplier || ltb l.sample c.sample_size || ltb l.beam c.beam

  -- 6, of a guard that is on: a setting of 0 or over the limits of 7, or too long a pool
  unfoldable pub guard_fault : Guard → Bool
  guard_fault off = false
  guard_fault (on c n) = config_zero c || config_over c || ltb l.pool n

  -- 3, of the report's two lists
  abbrev pub lists_short : Room → Bool
  lists_short room = ltb (min room.checked room.lost) l.landmarks

  -- 8
  abbrev pub scratch_short : Lent → State View → Bool
  scratch_short lent w = ltb lent.scratch (size_answer w.graph.sizes.capacity)

  -- the tests that all calls but making share, with a call's own part of 3 and its own after 6; `slices` are the lengths of the nine slices lent, w is what
  -- the call is given of the index
  unfoldable pub index_tests : Lengths → State View → Bool → List Test → List Test
  index_tests slices w wrong_length rest =
      let v = w.graph in
      (1, not (sizes_ok l v.sizes))
      ∷ (2, not (alpha_ok v.sizes.alpha))
      ∷ (3, not (lengths_ok l v.sizes slices) || wrong_length)
      ∷ (16, not (weights_ok l w.weights))
      ∷ (
        6,
        not (eqb w.live (length (live_slots v))) || not (ltb v.entry v.sizes.capacity) || guard_fault w.guard
            || not (labels_ok v.live v.sizes.capacity w.live w.numbers w.summary),
      )
      ∷ rest

  unfoldable pub tests : Lent → State View → Operation → List Test
  tests lent w (create m) = making_tests lent.slices m
  tests lent w (read r) = index_tests lent.slices w false []
  tests lent w (read_vector s) = index_tests lent.slices w false []
  tests lent w (search a) =
      index_tests lent.slices w (not (eqb (length a.query) w.graph.sizes.dim)) ((7, search_over lent.room a) ∷ (8, scratch_short lent w) ∷ [])
  tests lent w (insert a) =
      let dim = w.graph.sizes.dim in
      let n = length a.bytes / dim in
      index_tests lent.slices w (ltb lent.room.slots n || not (eqb (length a.numbers) n))
      ((7, ltb l.beam a.beam)
      ∷ (8, scratch_short lent w)
      ∷ (9, not (eqb (length a.bytes) (n * dim)))
      ∷ (10, ltb (length (free_slots w.graph)) n)
      ∷ (15, taken w.numbers a.numbers)
      ∷ [])
  tests lent w (delete a) = index_tests lent.slices w (ltb lent.room.stats (length a.names)) ((7, delete_over a) ∷ (8, scratch_short lent w) ∷ [])
  tests lent w (enable config) =
      index_tests lent.slices w false
      ((7, config_over config)
      ∷ (8, scratch_short lent w)
      ∷ (12, eqb (length (live_slots w.graph)) 0)
      ∷ (13, eqb (length (new_pool w.graph config)) 0)
      ∷ [])
  tests lent w status = index_tests lent.slices w false []
  tests lent w (assess a) =
      index_tests lent.slices w (lists_short lent.room) ((7, ltb l.ids (length a.ids)) ∷ (8, scratch_short lent w) ∷ (11, is_off w.guard) ∷ [])
  tests lent w (guarded_delete a) =
      index_tests lent.slices w (ltb lent.room.stats (length a.names) || lists_short lent.room)
      ((7, delete_over a) ∷ (8, scratch_short lent w) ∷ (11, is_off w.guard) ∷ [])
