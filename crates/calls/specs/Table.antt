-- Document 01's small shelf, with figure numbers 30, 10 and 20, and for each call every row that can turn it back, as one table of calls with their answers.
-- Assumes nothing.
use Rattle.std.specs.Prelude.{ℕ, ◌-◌, true, false, List, [], ◌∷◌, ◌++◌, map, replicate, Float}
use Rattle.std.proofs.Math.Option.{none, some}
use Rattle.lists.specs.Lists.{concat_map, range}
use Rattle.std.specs.Float.{nan, binary32}
use Rattle.std.specs.Float.Ieee.{of_bits}
use Rattle.candidates.specs.Candidates.{Candidate}
use Rattle.vectors.specs.Distance.{f32}
use Rattle.slots.specs.Sizes.{Sizes, Lengths, slices, exact, limits}
use Rattle.slots.specs.Scratch.{size_answer}
use Rattle.slots.specs.Store.{Store, blank}
use Rattle.repair.specs.Delete.{Stats}
use Rattle.guard.specs.Guard.{config, Guard, off, on}
use Rattle.calls.specs.Calls.{Making, read_dim, read_capacity, read_degree, read_alpha, read_entry, read_live, read_mark, read_version, read_number, read_target, of_slots, of_numbers, Delete, Operation, create, read, read_vector, search, insert, delete, enable, status, assess, guarded_delete, Room, Call, Answer, refused, created, number, alpha, version, vector, found, inserted, deleted, standing, assessed, applied, deferred, refused_as}
use Rattle.calls.specs.State.{State, state, shown, made, stored}
use Rattle.calls.specs.Step.{step}
use Rattle.calls.specs.Entered.{after}
use Rattle.calls.specs.DeadBytes.{answers}
use Rattle.calls.specs.Runs.{slices_of}

-- ---- notation

abbrev at : ℕ → ℕ → Candidate
at slot dist = record { dist = dist; id = slot }

abbrev stats : ℕ → ℕ → ℕ → ℕ → Stats
stats a b c d = record { outgoing_seeds = a; recovered_in_neighbors = b; repair_candidates = c; repair_edges_attempted = d }

-- search for one byte; k is the beam
abbrev nearest : ℕ → ℕ → Operation
nearest x beam = search (record { query = x ∷ []; k = beam; beam = beam })

abbrev insert_as : List ℕ → List ℕ → ℕ → Operation
insert_as numbers bytes beam = insert (record { bytes = bytes; numbers = numbers; beam = beam })

-- n vectors, with the numbers 41, 42, ..
abbrev insert_all : ℕ → List ℕ → ℕ → Operation
insert_all n bytes beam = insert_as (range 41 n) bytes beam

abbrev deleting : List ℕ → ℕ → ℕ → Delete
deleting slots beam degree = record { names = slots; naming = of_slots; repair_beam = beam; repair_degree = degree }

abbrev deleting_numbers : List ℕ → ℕ → ℕ → Delete
deleting_numbers numbers beam degree = record { names = numbers; naming = of_numbers; repair_beam = beam; repair_degree = degree }

abbrev assessing : List ℕ → Operation
assessing ids = assess (record { ids = ids })

abbrev size : ℕ → ℕ → ℕ → Float → Sizes
size dim capacity degree a = record { dim = dim; capacity = capacity; degree = degree; alpha = a }

-- slices of exact length
abbrev lengths : ℕ → ℕ → ℕ → Lengths
lengths dim capacity degree = exact limits (size dim capacity degree (f32 1))

-- a call with room for n in each list of slots, distances, numbers and stats and for m in each list of a report, and with some scratch
abbrev lent : Lengths → ℕ → ℕ → ℕ → Operation → Call
lent slices n m scratch o =
    record { lent = record { slices = slices; room = record { slots = n; dists = n; numbers = n; stats = n; checked = m; lost = m }; scratch = scratch }; operation = o }

-- one with room for 4 and 64, and scratch as the size answer has it for 4 slots
abbrev ample : Lengths → Operation → Call
ample slices o = lent slices 4 64 (size_answer 4) o

-- ---- the shelf

unfoldable pub shelf : Making
shelf = record {
  sizes = size 1 4 2 (f32 1);
  count = 3;
  bytes = 0 ∷ 3 ∷ 10 ∷ [];
  rows = 1 ∷ blank ∷ 0 ∷ 2 ∷ 1 ∷ blank ∷ [];
  entry = 1;
  numbers = 30 ∷ 10 ∷ 20 ∷ [];
  weights = 1 ∷ [];
}

abbrev weighing : List ℕ → Making → Making
weighing weights m = record { sizes = m.sizes; count = m.count; bytes = m.bytes; rows = m.rows; entry = m.entry; numbers = m.numbers; weights = weights }

abbrev given : ℕ → List ℕ → List ℕ → ℕ → List ℕ → Making
given n bytes rows entry numbers =
    record { sizes = shelf.sizes; count = n; bytes = bytes; rows = rows; entry = entry; numbers = numbers; weights = shelf.weights }

-- three vectors of dim 2 in four slots
unfoldable pub wide : List ℕ → Making
wide bytes = record { sizes = size 2 4 1 (f32 1); count = 3; bytes = bytes; rows = replicate 3 blank; entry = 0; numbers = 1 ∷ 2 ∷ 3 ∷ []; weights = 1 ∷ 1 ∷ [] }

-- memory that holds nothing
unfoldable pub nothing : State Store
nothing = state (record { sizes = size 0 0 0 (f32 0); entry = 0; live = 0; guard = off }) (slices [] [] [] [] [] [] [] [] [])

-- ---- cases

-- the answers to some calls, and the landmark pool after them
pub record Outcome : Type 0 where
  pub answers : List Answer
  pub pool : List ℕ

pub record Case : Type 0 where
  pub start : State Store
  pub calls : List Call
  pub outcome : Outcome

abbrev on_shelf_with : List ℕ → List Call → List Answer → Case
on_shelf_with pool cs answers = record { start = nothing; calls = ample (lengths 1 4 2) (create shelf) ∷ cs; outcome = record { answers = created ∷ answers; pool = pool } }

abbrev on_shelf : List Operation → List Answer → Case
on_shelf os answers = on_shelf_with [] (map (ample (lengths 1 4 2)) os) answers

-- ---- every row of every call; of the rows past the one that is given most hold too

-- calls that a row turns back, each on its own; the pool stays
abbrev back : ℕ → State Store → List Call → List Case
back row w cs = map (λ c. record { start = w; calls = c ∷ []; outcome = record { answers = refused_as row c.operation ∷ []; pool = (shown stored w).pool } }) cs

-- an index that says something of the shelf's slices
abbrev held : Sizes → ℕ → ℕ → Guard → State Store
held z entry live guard = state (record { sizes = z; entry = entry; live = live; guard = guard }) (slices_of (made stored shelf))

-- the same with weights that are wrong
abbrev weighed : List ℕ → Sizes → ℕ → ℕ → State Store
weighed weights z entry live =
    let s = slices_of (made stored shelf) in
    state (record { sizes = z; entry = entry; live = live; guard = off })
    (slices s.vectors s.targets s.edges s.versions s.marks s.pool s.numbers s.summary weights)

-- the shelf with other numbers and another summary
abbrev labelled : List ℕ → List ℕ → State Store
labelled numbers summary =
    let s = slices_of (made stored shelf) in
    state (record { sizes = shelf.sizes; entry = 1; live = 3; guard = off })
    (slices s.vectors s.targets s.edges s.versions s.marks s.pool numbers summary s.weights)

-- made by hand, values 0, 0, 1, 2 and that of slot 4, which is dead and the entry; row 0 is [1,2,3], the others are empty
abbrev pub dead_entry : ℕ → State Store
dead_entry byte =
    state (record { sizes = size 1 5 3 (f32 1); entry = 4; live = 4; guard = off })
    (slices (0 ∷ 0 ∷ 1 ∷ 2 ∷ byte ∷ []) (1 ∷ 2 ∷ 3 ∷ replicate 12 blank) (replicate 15 0) (replicate 5 0) (replicate 4 1 ++ (0 ∷ [])) (replicate 1024 0)
    (1 ∷ 2 ∷ 3 ∷ 4 ∷ 0 ∷ []) (0 ∷ 1 ∷ 2 ∷ 3 ∷ blank ∷ []) (1 ∷ []))

-- delete 0, repair beam 1, repair degree 1, and read row 2
abbrev row_two_after : ℕ → List Answer → Case
row_two_after byte answers =
    record {
      start = dead_entry byte;
      calls = map (lent (lengths 1 5 3) 4 64 (size_answer 5)) (delete (deleting (0 ∷ []) 1 1) ∷ read (read_target 2 0) ∷ read (read_target 2 1) ∷ []);
      outcome = record { answers = deleted (stats 3 0 3 4 ∷ []) ∷ answers; pool = [] };
    }

-- the shelf after a delete
abbrev without : List ℕ → State Store
without ids = (step stored (made stored shelf) (ample (lengths 1 4 2) (delete (deleting ids 2 1)))).0

-- the calls that take scratch
abbrev working : List Operation
working =
    nearest 0 1 ∷ insert_all 5 (replicate 5 1) 1 ∷ delete (deleting (0 ∷ []) 1 1) ∷ enable (config 1 1 1 1) ∷ assessing (0 ∷ []) ∷ guarded_delete (deleting (0 ∷ []) 1 1) ∷ []

-- the same, each setting over its limit in turn
abbrev over : List Operation
over =
    search (record { query = 0 ∷ []; k = 1; beam = 1025 }) ∷ search (record { query = 0 ∷ []; k = 258; beam = 1 }) ∷ insert_all 2 (1 ∷ 2 ∷ []) 1025
    ∷ delete (deleting (0 ∷ []) 257 1) ∷ delete (deleting (0 ∷ []) 1 17) ∷ delete (deleting (replicate 257 0) 1 1) ∷ delete (deleting_numbers (replicate 257 0) 1 1)
    ∷ enable (config 65 1 1 1) ∷ enable (config 1 17 1 1) ∷ enable (config 1 1 65537 1) ∷ enable (config 1 1 1 1025)
    ∷ assessing (replicate 257 0)
    ∷ guarded_delete (deleting (0 ∷ []) 257 1) ∷ guarded_delete (deleting (0 ∷ []) 1 17) ∷ guarded_delete (deleting (replicate 257 0) 1 1)
    ∷ guarded_delete (deleting_numbers (replicate 257 0) 1 1)
    ∷ []

-- all others but making
abbrev looking : List Operation
looking =
    read read_dim ∷ read read_capacity ∷ read read_degree ∷ read read_alpha ∷ read read_entry ∷ read read_live ∷ read (read_mark 0) ∷ read (read_version 0)
    ∷ read (read_number 0) ∷ read (read_target 0 0) ∷ read_vector 0 ∷ status ∷ []

-- a making with all but its sizes wrong
abbrev wrongly : Sizes → Making
wrongly z = record { sizes = z; count = 5; bytes = []; rows = 9 ∷ []; entry = 9; numbers = 0 ∷ []; weights = 5 ∷ 5 ∷ [] }

-- 1: dim, capacity and degree outside their ranges
abbrev wrong_sizes : Float → List Sizes
wrong_sizes a = size 257 4 2 a ∷ size 0 4 2 a ∷ size 1 65537 2 a ∷ size 1 0 2 a ∷ size 1 4 65 a ∷ size 1 4 0 a ∷ []

-- 2: 0.9, the next above 2.0, and no number
abbrev wrong_alphas : List Float
wrong_alphas = of_bits binary32 0x3f66_6666 ∷ of_bits binary32 0x4000_0001 ∷ nan ∷ []

-- 3: one of the slices shorter or longer
abbrev wrong_lengths : List Lengths
wrong_lengths =
    let long : ℕ → ℕ → ℕ → ℕ → ℕ → ℕ → ℕ → ℕ → ℕ → Lengths = λ v t e n m p f s w.
    record { vectors = v; targets = t; edges = e; versions = n; marks = m; pool = p; numbers = f; summary = s; weights = w } in
    long 3 8 8 4 4 1024 4 4 1 ∷ long 4 9 8 4 4 1024 4 4 1 ∷ long 4 8 7 4 4 1024 4 4 1 ∷ long 4 8 8 5 4 1024 4 4 1 ∷ long 4 8 8 4 3 1024 4 4 1
    ∷ long 4 8 8 4 4 1025 4 4 1 ∷ long 4 8 8 4 4 1024 3 4 1 ∷ long 4 8 8 4 4 1024 4 5 1 ∷ long 4 8 8 4 4 1024 4 4 2 ∷ long 4 8 8 4 4 1024 4 4 0 ∷ []

-- 16: a weight out of its range; and 86 weights, each within it, with a sum of 257
abbrev wrong_weights : List (List ℕ)
wrong_weights = (0 ∷ []) ∷ (5 ∷ []) ∷ (255 ∷ []) ∷ []

abbrev heavy : Making
heavy = record { sizes = size 86 1 1 (f32 1); count = 0; bytes = []; rows = []; entry = 0; numbers = []; weights = 2 ∷ replicate 85 3 }

-- 6: a guard that is on
abbrev wrong_guards : List Guard
wrong_guards =
    on (config 0 1 1 1) 0 ∷ on (config 1 0 1 1) 0 ∷ on (config 1 1 0 1) 0 ∷ on (config 1 1 1 0) 0
    ∷ on (config 65 1 1 1) 0 ∷ on (config 1 17 1 1) 0 ∷ on (config 1 1 65537 1) 0 ∷ on (config 1 1 1 1025) 0 ∷ on (config 1 1 1 1) 1025 ∷ []

-- 6: numbers and a summary: a live slot with 0, a dead one with a number, the order of slots and not of numbers, one number twice, a slot outside, one slot twice,
-- a live slot left out, and no blank past them
abbrev wrong_labels : List (State Store)
wrong_labels =
    labelled (30 ∷ 0 ∷ 20 ∷ 0 ∷ []) (1 ∷ 2 ∷ 0 ∷ blank ∷ [])
    ∷ labelled (30 ∷ 10 ∷ 20 ∷ 5 ∷ []) (1 ∷ 2 ∷ 0 ∷ blank ∷ [])
    ∷ labelled (30 ∷ 10 ∷ 20 ∷ 0 ∷ []) (0 ∷ 1 ∷ 2 ∷ blank ∷ [])
    ∷ labelled (20 ∷ 10 ∷ 20 ∷ 0 ∷ []) (1 ∷ 0 ∷ 2 ∷ blank ∷ [])
    ∷ labelled (30 ∷ 10 ∷ 20 ∷ 0 ∷ []) (1 ∷ 2 ∷ 4 ∷ blank ∷ [])
    ∷ labelled (30 ∷ 10 ∷ 20 ∷ 0 ∷ []) (1 ∷ 2 ∷ 2 ∷ blank ∷ [])
    ∷ labelled (30 ∷ 10 ∷ 20 ∷ 0 ∷ []) (1 ∷ 2 ∷ blank ∷ blank ∷ [])
    ∷ labelled (30 ∷ 10 ∷ 20 ∷ 0 ∷ []) (1 ∷ 2 ∷ 0 ∷ 3 ∷ [])
    ∷ []

unfoldable pub refusals : List Case
refusals =
    let right = size 1 4 2 (f32 1) in
    let calls = looking ++ over in
    let short = lent (lengths 1 3 2) 0 0 0 in
    let room : Room → Operation → Call = λ r o. record { lent = record { slices = lengths 1 4 2; room = r; scratch = 0 }; operation = o } in
    let rooms : ℕ → ℕ → ℕ → ℕ → ℕ → ℕ → Room = λ a b n c d e. record { slots = a; dists = b; numbers = n; stats = c; checked = d; lost = e } in
    -- making
    back 1 nothing (map (λ z. short (create (wrongly z))) (wrong_sizes nan))
    ++ back 2 nothing (map (λ a. short (create (wrongly (size 1 4 2 a)))) wrong_alphas)
    ++ back 3 nothing (map (λ n. ample n (create (given 5 (replicate 5 0) (replicate 10 9) 9 (replicate 5 0)))) wrong_lengths)
    ++ back 3 nothing
    (map (λ m. ample (lengths 1 4 2) (create m))
    (given 5 (replicate 4 0) (replicate 10 9) 9 (replicate 5 0) ∷ given 5 (replicate 5 0) (replicate 11 9) 9 (replicate 5 0)
    ∷ given 5 (replicate 5 0) (replicate 10 9) 9 (replicate 4 0) ∷ given 5 (replicate 5 0) (replicate 10 9) 9 (replicate 6 0) ∷ []))
    ++ back 3 nothing (ample (lengths 2 4 1) (create (wide (1 ∷ 2 ∷ 3 ∷ 4 ∷ 5 ∷ []))) ∷ [])
    ++ back 3 nothing
    (map (λ ws. ample (lengths 1 4 2) (create (weighing ws (given 5 (replicate 5 0) (replicate 10 9) 9 (replicate 5 0))))) ([] ∷ (5 ∷ 1 ∷ []) ∷ []))
    ++ back 16 nothing
    (map (λ ws. ample (lengths 1 4 2) (create (weighing ws (given 5 (replicate 5 0) (replicate 10 9) 9 (replicate 5 0))))) wrong_weights)
    ++ back 16 nothing (ample (lengths 86 1 1) (create heavy) ∷ [])
    ++ back 4 nothing (ample (lengths 1 4 2) (create (given 5 (replicate 5 0) (replicate 10 9) 9 (replicate 5 0))) ∷ [])
    ++ back 5 nothing
    (map (λ m. ample (lengths 1 4 2) (create m))
    (given 3 shelf.bytes (1 ∷ blank ∷ 0 ∷ 3 ∷ 1 ∷ blank ∷ []) 1 (replicate 3 0) ∷ given 3 shelf.bytes shelf.rows 3 (replicate 3 7) ∷ given 0 [] [] 1 [] ∷ []))
    ++ back 15 nothing
    (map (λ m. ample (lengths 1 4 2) (create m))
    (given 3 shelf.bytes shelf.rows 1 (30 ∷ 0 ∷ 20 ∷ []) ∷ given 3 shelf.bytes shelf.rows 1 (20 ∷ 10 ∷ 20 ∷ []) ∷ []))
    -- 1, 2, 3, 16 and 6 of every other call, and each way in which they can hold
    ++ back 1 (weighed (5 ∷ []) (size 257 4 2 nan) 4 2) (map short calls)
    ++ concat_map (λ z. back 1 (weighed (5 ∷ []) z 4 2) (short status ∷ [])) (wrong_sizes nan)
    ++ back 2 (weighed (5 ∷ []) (size 1 4 2 nan) 4 2) (map short calls)
    ++ concat_map (λ a. back 2 (weighed (5 ∷ []) (size 1 4 2 a) 4 2) (short status ∷ [])) wrong_alphas
    ++ back 3 (weighed (5 ∷ []) right 4 2) (map short calls)
    ++ back 3 (weighed (5 ∷ []) right 4 2) (map (λ n. ample n status) wrong_lengths)
    ++ back 16 (weighed (5 ∷ []) right 4 2) (map (lent (lengths 1 4 2) 257 64 0) calls)
    ++ concat_map (λ ws. back 16 (weighed ws right 1 3) (ample (lengths 1 4 2) status ∷ [])) wrong_weights
    ++ back 6 (held right 1 2 off) (map (lent (lengths 1 4 2) 257 64 0) calls)
    ++ back 6 (held right 4 3 off) (ample (lengths 1 4 2) status ∷ [])
    ++ concat_map (λ g. back 6 (held right 1 3 g) (ample (lengths 1 4 2) status ∷ [])) wrong_guards
    ++ concat_map (λ w. back 6 w (ample (lengths 1 4 2) status ∷ [])) wrong_labels
    -- 3: a query, room for slots, stats and each list of a report, and a number for each vector
    ++ back 3 (made stored shelf)
    (room (rooms 4 4 4 4 64 64) (search (record { query = 0 ∷ 0 ∷ []; k = 1; beam = 1025 }))
    ∷ room (rooms 1 0 0 0 0 0) (insert_all 2 (1 ∷ 2 ∷ []) 1025)
    ∷ room (rooms 2 0 0 0 0 0) (insert_all 1 (1 ∷ 2 ∷ []) 1025)
    ∷ room (rooms 2 0 0 0 0 0) (insert_all 3 (1 ∷ 2 ∷ []) 1025)
    ∷ room (rooms 0 0 0 0 0 0) (delete (deleting (0 ∷ []) 257 1))
    ∷ room (rooms 0 0 0 3 0 0) (delete (deleting_numbers (10 ∷ 0 ∷ 10 ∷ 7 ∷ []) 257 1))
    ∷ room (rooms 0 0 0 0 63 64) (assessing (replicate 257 0))
    ∷ room (rooms 0 0 0 0 64 63) (assessing (replicate 257 0))
    ∷ room (rooms 0 0 0 0 64 64) (guarded_delete (deleting (0 ∷ []) 257 1))
    ∷ room (rooms 0 0 0 1 63 64) (guarded_delete (deleting (0 ∷ []) 257 1))
    ∷ room (rooms 0 0 0 1 64 63) (guarded_delete (deleting (0 ∷ []) 257 1))
    ∷ [])
    -- 7, and k over each list of a search
    ++ back 7 (made stored shelf) (map (lent (lengths 1 4 2) 257 64 0) over)
    ++ back 7 (made stored shelf) (map (λ r. room r (nearest 0 2)) (rooms 1 2 2 0 0 0 ∷ rooms 2 1 2 0 0 0 ∷ rooms 2 2 1 0 0 0 ∷ []))
    -- 8: one word less than the size answer, and none
    ++ back 8 (without (0 ∷ 1 ∷ 2 ∷ [])) (map (lent (lengths 1 4 2) 5 64 (size_answer 4 - 1)) working)
    ++ back 8 (without (0 ∷ 1 ∷ 2 ∷ [])) (map (lent (lengths 1 4 2) 5 64 0) working)
    -- 9: 3 bytes, dim 2; 5 bytes, which are two vectors and more, and one slot is free
    ++ back 9 (made stored (wide (1 ∷ 2 ∷ 3 ∷ 4 ∷ 5 ∷ 6 ∷ []))) (map (ample (lengths 2 4 1)) (insert_all 1 (1 ∷ 2 ∷ 3 ∷ []) 2 ∷ insert_as (0 ∷ 0 ∷ []) (1 ∷ 2 ∷ 3 ∷ 4 ∷ 5 ∷ []) 2 ∷ []))
    -- 10: 2 into 1; 15: a number 0, carried by a live slot, twice in the list; 11: a fresh shelf; 12: all emptied; 13: one live
    ++ back 10 (made stored shelf) (ample (lengths 1 4 2) (insert_as (0 ∷ 30 ∷ []) (1 ∷ 2 ∷ []) 2) ∷ [])
    ++ back 15 (made stored shelf) (map (λ n. ample (lengths 1 4 2) (insert_as (n ∷ []) (1 ∷ []) 2)) (0 ∷ 30 ∷ []))
    ++ back 15 (without (0 ∷ [])) (ample (lengths 1 4 2) (insert_as (30 ∷ 30 ∷ []) (1 ∷ 2 ∷ []) 2) ∷ [])
    ++ back 11 (made stored shelf) (map (ample (lengths 1 4 2)) (assessing (0 ∷ []) ∷ guarded_delete (deleting (0 ∷ []) 1 1) ∷ []))
    ++ back 12 (without (0 ∷ 1 ∷ 2 ∷ [])) (ample (lengths 1 4 2) (enable (config 1 1 4 2)) ∷ [])
    ++ back 13 (without (0 ∷ 1 ∷ [])) (ample (lengths 1 4 2) (enable (config 1 1 4 2)) ∷ [])

-- ---- the table

unfoldable pub table : List Case
table =
    -- search 2, beam 2; search 0, beam 1
    on_shelf (nearest 2 2 ∷ nearest 0 1 ∷ [])
    (found (at 1 1 ∷ at 0 4 ∷ []) (10 ∷ 30 ∷ []) ∷ found (at 1 9 ∷ []) (10 ∷ []) ∷ [])
    -- insert 6, beam 2: slot 3, row [1,2], row 1 is [0,3], row 2 is [3]; then delete 1, repair beam 2, repair degree 1: counts 2, 1, 2, 2, entry 0; what
    -- program `shelf` prints; then search 3, beam 3
    ∷ on_shelf
    (insert_all 1 (6 ∷ []) 2
    ∷ read read_entry
    ∷ read (read_target 3 0) ∷ read (read_target 3 1) ∷ read (read_target 1 0) ∷ read (read_target 1 1) ∷ read (read_target 2 0) ∷ read (read_target 2 1)
    ∷ delete (deleting (1 ∷ []) 2 1)
    ∷ read read_entry ∷ read read_live
    ∷ read (read_mark 0) ∷ read (read_version 0) ∷ read (read_target 0 0) ∷ read (read_target 0 1)
    ∷ read (read_mark 1) ∷ read (read_version 1) ∷ read (read_target 1 0) ∷ read_vector 1
    ∷ read (read_mark 2) ∷ read (read_version 2) ∷ read (read_target 2 0) ∷ read (read_target 2 1) ∷ read_vector 2
    ∷ read (read_mark 3) ∷ read (read_version 3) ∷ read (read_target 3 0) ∷ read (read_target 3 1)
    ∷ read (read_mark 4) ∷ read (read_version 4) ∷ read (read_target 4 0) ∷ read_vector 4
    ∷ read (read_number 0) ∷ read (read_number 1) ∷ read (read_number 2) ∷ read (read_number 3) ∷ read (read_number 4)
    ∷ nearest 3 3
    ∷ [])
    (inserted (3 ∷ [])
    ∷ number 1
    ∷ number 1 ∷ number 2 ∷ number 0 ∷ number 3 ∷ number 3 ∷ number blank
    ∷ deleted (stats 2 1 2 2 ∷ [])
    ∷ number 0 ∷ number 3
    ∷ number 1 ∷ version 0 ∷ number 3 ∷ number blank
    ∷ number 0 ∷ version 1 ∷ number blank ∷ vector []
    ∷ number 1 ∷ version 0 ∷ number 3 ∷ number blank ∷ vector (10 ∷ [])
    ∷ number 1 ∷ version 0 ∷ number 2 ∷ number 0
    ∷ number 0 ∷ version 0 ∷ number blank ∷ vector []
    ∷ number 30 ∷ number 0 ∷ number 20 ∷ number 41 ∷ number 0
    ∷ found (at 0 9 ∷ at 3 9 ∷ at 2 49 ∷ []) (30 ∷ 41 ∷ 20 ∷ [])
    ∷ [])
    -- delete 0, 1, 2: the entry stays 1, also after an insert of nothing and after one that is turned back; insert 7 gets slot 0, which is the entry then
    -- (document 02, E5); search 7
    ∷ on_shelf
    (delete (deleting (0 ∷ 1 ∷ 2 ∷ []) 2 1)
    ∷ insert_all 0 [] 1
    ∷ insert_as (0 ∷ []) (7 ∷ []) 1
    ∷ read read_entry
    ∷ insert_all 1 (7 ∷ []) 1
    ∷ nearest 7 1
    ∷ [])
    (deleted (stats 1 0 0 0 ∷ stats 2 0 0 0 ∷ stats 1 0 0 0 ∷ []) ∷ inserted [] ∷ refused 15 ∷ number 1 ∷ inserted (0 ∷ []) ∷ found (at 0 0 ∷ []) (41 ∷ []) ∷ [])
    -- the same, and insert 7 and 9 at once: both walks begin at slot 0, so each row holds the other slot
    ∷ on_shelf
    (delete (deleting (0 ∷ 1 ∷ 2 ∷ []) 2 1) ∷ insert_all 2 (7 ∷ 9 ∷ []) 1 ∷ read read_entry ∷ read (read_target 0 0) ∷ read (read_target 1 0) ∷ nearest 9 2 ∷ [])
    (deleted (stats 1 0 0 0 ∷ stats 2 0 0 0 ∷ stats 1 0 0 0 ∷ []) ∷ inserted (0 ∷ 1 ∷ []) ∷ number 0 ∷ number 1 ∷ number 0 ∷ found (at 1 0 ∷ at 0 4 ∷ []) (42 ∷ 41 ∷ []) ∷ [])
    -- values 0, 3, 10, degree 2, no references, entry 2, all deleted; insert 7 and 8, then 9: a search for 7 finds the three
    ∷ record {
      start = nothing;
      calls = map (lent (lengths 1 3 2) 4 64 (size_answer 3))
          (create (record { sizes = size 1 3 2 (f32 1); count = 3; bytes = 0 ∷ 3 ∷ 10 ∷ []; rows = replicate 6 blank; entry = 2; numbers = 1 ∷ 2 ∷ 3 ∷ []; weights = 1 ∷ [] })
          ∷ delete (deleting (0 ∷ 1 ∷ 2 ∷ []) 1 1)
          ∷ insert_as (7 ∷ 8 ∷ []) (7 ∷ 8 ∷ []) 3
          ∷ insert_as (9 ∷ []) (9 ∷ []) 3
          ∷ nearest 7 3
          ∷ []);
      outcome = record {
        answers = created ∷ deleted (stats 0 0 0 0 ∷ stats 0 0 0 0 ∷ stats 0 0 0 0 ∷ []) ∷ inserted (0 ∷ 1 ∷ []) ∷ inserted (2 ∷ [])
            ∷ found (at 0 0 ∷ at 1 1 ∷ at 2 4 ∷ []) (7 ∷ 8 ∷ 9 ∷ []) ∷ [];
        pool = [];
      };
    }
    -- why `DeadBytes` speaks of indexes that calls have reached: here the repair begins at the slot nearest the dead entry
    ∷ row_two_after 0 (number 1 ∷ number 3 ∷ [])
    ∷ row_two_after 2 (number 3 ∷ number 1 ∷ [])
    -- guard count 0, multiplier 1, sample 4, beam 2: pool [2]; assess 0: admitted; assess 1: entry 0, baseline 1, residual 0, lost [2], not admitted;
    -- the guarded delete of both, the first by its number; no live id: admitted, requested 0
    ∷ on_shelf_with (2 ∷ [])
    (map (ample (lengths 1 4 2))
    (enable (config 0 1 4 2)
    ∷ assessing (0 ∷ [])
    ∷ assessing (1 ∷ [])
    ∷ assessing (3 ∷ [])
    ∷ guarded_delete (deleting_numbers (10 ∷ 0 ∷ []) 2 1)
    ∷ guarded_delete (deleting (0 ∷ []) 2 1)
    ∷ status
    ∷ []))
    (standing (record { enabled = true; pool_size = 1; live_landmarks = 1; landmark_count = 1; beam = 2 })
    ∷ assessed (record { admitted = true; requested = 1; entry = some 1; checked = 2 ∷ []; baseline = 1; residual = 1; lost = []; supplemental = 0 })
    ∷ assessed (record { admitted = false; requested = 1; entry = some 0; checked = 2 ∷ []; baseline = 1; residual = 0; lost = 2 ∷ []; supplemental = 0 })
    ∷ assessed (record { admitted = true; requested = 0; entry = none; checked = []; baseline = 0; residual = 0; lost = []; supplemental = 0 })
    ∷ deferred (record { admitted = false; requested = 1; entry = some 0; checked = 2 ∷ []; baseline = 1; residual = 0; lost = 2 ∷ []; supplemental = 0 })
    ∷ applied (stats 1 1 1 0 ∷ []) (record { admitted = true; requested = 1; entry = some 1; checked = 2 ∷ []; baseline = 1; residual = 1; lost = []; supplemental = 0 })
    ∷ standing (record { enabled = true; pool_size = 1; live_landmarks = 1; landmark_count = 1; beam = 2 })
    ∷ [])
    -- sizes and alpha
    ∷ on_shelf (read read_dim ∷ read read_capacity ∷ read read_degree ∷ read read_alpha ∷ []) (number 1 ∷ number 4 ∷ number 2 ∷ alpha (f32 1) ∷ [])
    -- delete of the numbers 10, 0, 10 and 7: slot 1 alone; a number that is free again
    ∷ on_shelf (delete (deleting_numbers (10 ∷ 0 ∷ 10 ∷ 7 ∷ []) 2 1) ∷ read (read_mark 1) ∷ insert_as (10 ∷ []) (6 ∷ []) 2 ∷ read (read_number 1) ∷ [])
    (deleted (stats 2 1 2 2 ∷ []) ∷ number 0 ∷ inserted (1 ∷ []) ∷ number 10 ∷ [])
    -- weights 1 and 4: of (1, 2) from (0, 0) the distance is 1 + 4 * 4; 86 weights with a sum of 256
    ∷ record {
      start = nothing;
      calls = map (ample (lengths 2 4 1)) (create (weighing (1 ∷ 4 ∷ []) (wide (1 ∷ 2 ∷ 3 ∷ 4 ∷ 5 ∷ 6 ∷ []))) ∷ search (record { query = 0 ∷ 0 ∷ []; k = 1; beam = 1 }) ∷ []);
      outcome = record { answers = created ∷ found (at 0 17 ∷ []) (1 ∷ []) ∷ []; pool = [] };
    }
    ∷ record {
      start = nothing;
      calls = ample (lengths 86 1 1) (create (weighing (1 ∷ replicate 85 3) heavy)) ∷ [];
      outcome = record { answers = created ∷ []; pool = [] };
    }
    -- empty batches: no slots, no counts
    ∷ on_shelf (insert_all 0 [] 2 ∷ delete (deleting [] 2 1) ∷ []) (inserted [] ∷ deleted [] ∷ [])
    ∷ refusals

-- what a list of calls answers and leaves
abbrev pub outcome_of : State Store → List Call → Outcome
outcome_of w cs = record { answers = answers stored w cs; pool = (shown stored (after stored w cs)).pool }

-- the summary after some calls on the shelf
pub record Summary : Type 0 where
  pub calls : List Operation
  pub summary : List ℕ

unfoldable pub summaries : List Summary
summaries =
    record { calls = []; summary = 1 ∷ 2 ∷ 0 ∷ blank ∷ [] }
    ∷ record { calls = insert_as (15 ∷ []) (6 ∷ []) 2 ∷ []; summary = 1 ∷ 3 ∷ 2 ∷ 0 ∷ [] }
    ∷ record { calls = delete (deleting_numbers (30 ∷ 10 ∷ []) 2 1) ∷ []; summary = 2 ∷ blank ∷ blank ∷ blank ∷ [] }
    ∷ record { calls = delete (deleting (2 ∷ []) 2 1) ∷ insert_as (4294967295 ∷ 1 ∷ []) (6 ∷ 7 ∷ []) 2 ∷ []; summary = 3 ∷ 1 ∷ 0 ∷ 2 ∷ [] }
    ∷ []

abbrev pub left_after : State Store → List Operation → State Store
left_after w os = after stored w (map (ample (lengths 1 4 2)) os)
