-- Readings: what the code shows is what the definitions show. Assumes nothing.
use Prim.Native.Nat.{ℕ, zero, suc, ◌+◌, ◌*◌, ◌≤◌, ◌<◌}
use mathlib.Core.Bool.{Bool, true, false, cond}
use mathlib.Core.Path.{◌≡◌, refl, sym, ap, ◌∙◌}
use mathlib.Core.List.{List, []}
use native.Mathlib.Nat.{mul-le-mul_right}
use native.Mathlib.Omega.{arith}
use denote.Ref.{Bor}
use lib.ListN.{length, get_or, drop_of_length-le}
use lib.Seq.{take-nil}
use Rattle.std.specs.List.{filter_map, range_with_len, slice_get}
use Rattle.std.specs.Option.{option_map, unwrap_or}
use Rattle.std.proofs.lemmas.Option.{unwrap_or-slice_get}
use Rattle.std.proofs.lemmas.Iterator.Adapters.{option_map_id}
use Rattle.lists.specs.Lists.{filter, part as part_of}
use Rattle.slots.specs.Store.{blank, is_valid, current, refs_of, vector_of, store_view, store_ops, Arrays}
use Rattle.slots.specs.Inner.Rows.{RowShape, ref_at, live_from, LiveVector}
use Rattle.std.specs.Prelude.{Option, Some, None, Result, Ok, Err}
use Rattle.slots.proofs.Places.{live_from_whole, live_from_end, live_from_at, live_from_dead}
use Rattle.index.specs.declared.Index.{Index}
use Rattle.reading.specs.declared.Reading.{Reading}
use Rattle.reading.specs.declared.Value.{Value}
use Rattle.reading.specs.declared.Value.TheVariants.{Number, Alpha as Factor, Version as Stamp}
use Rattle.slots.specs.Sizes.{Slices}
use Rattle.calls.specs.Calls.{read_vector, read, Operation, Call, vector, refused_as}
use Rattle.calls.specs.Outputs.{no_outputs, written}
use Rattle.calls.specs.Refusals.{tests}
use Rattle.calls.specs.State.{stored}
use Rattle.calls.specs.Step.{perform}
use Rattle.calls.specs.Runs.{lent_of, slices_of, call_of}
use Rattle.index.specs.declared.Refusal.{Refusal}
use Rattle.index.specs.Refusal.{number_of as row_of}
use Rattle.index.specs.Index.{state_of}
use Rattle.index.specs.Inner.Deciding.{Decided}
use Rattle.reading.specs.Inner.Answering.{Answers}
use Rattle.reading.specs.Read.{reading_of, answer_of, Reads, ReadsVector, GivesVector}
use Rattle.index.proofs.Decide.{turned_back, let_through, step_back, step_on}

-- ---- a target by its place among the live ones

-- the live targets from a place on are what is read place by place, without what is dead
module _ (a : Arrays) (f : RowShape a.degree a.targets a.edges a.versions a.marks) (s : ℕ) (hs : s < length a.marks) where
  given_from : (n place : ℕ) → place + n ≡ a.degree → filter_map (ref_at a s) (range_with_len place n) ≡ live_from a s place
  given_from zero place h = sym (live_from_end a s place (omega arith))
  given_from (suc n) place h = go (ref_at a s place) refl (given_from n (place + 1) (omega arith))
    where
      go : (r : Option ℕ) → ref_at a s place ≡ r → filter_map (ref_at a s) (range_with_len (place + 1) n) ≡ live_from a s (place + 1)
          → filter_map (ref_at a s) (range_with_len place (suc n)) ≡ live_from a s place
      go None e k = rw (e, k) (sym (live_from_dead a f s place hs (omega arith) {r = ref_at a s place} refl e))
      go (Some t) e k = rw (e, k) (sym (live_from_at a f s place hs (omega arith) {r = ref_at a s place} refl e))

  -- the one at a place among them
  pub nth_given : (r : Option ℕ) (place : ℕ) → option_map (λ y. y) r ≡ slice_get (filter_map (ref_at a s) (range_with_len 0 a.degree)) place
      → r ≡ slice_get (filter (is_valid a.marks) (refs_of a s)) place
  nth_given r place k = sym (option_map_id r) ∙ k ∙ ap (λ l. slice_get l place) (given_from a.degree 0 (omega arith) ∙ live_from_whole a s)

-- as a number, blank past the last
pub target_number : (l : List ℕ) (place : ℕ) → unwrap_or (slice_get l place) blank ≡ get_or l place blank
target_number l place = unwrap_or-slice_get l place blank

-- a slot outside has no row
pub no_row : (a : Arrays) (s place : ℕ) → RowShape a.degree a.targets a.edges a.versions a.marks → length a.marks ≤ s → None ≡ slice_get (filter (is_valid a.marks) (refs_of a s)) place
unfolding refs_of current
no_row a s place f h =
    let k : length a.targets ≤ s * a.degree = rw f.targets_long (mul-le-mul_right a.degree h) in
    rw (drop_of_length-le a.targets k, take-nil a.degree)

-- ---- a reading, turned back or not

-- a number read is written nowhere
only_answered : (r : Result Value Refusal) → no_outputs ≡ written (answer_of r) no_outputs
unfolding answer_of written
only_answered (Err e) = refl
only_answered (Ok (Number n)) = refl
only_answered (Ok (Factor a)) = refl
only_answered (Ok (Stamp n)) = refl

module _ {index : Index} {s : Slices} {A : Type 0} {r : Result A Refusal} (d : Decided index s false [] r) where
  -- the call on these slices
  abbrev call : Operation → Call
  call o = record { lent = lent_of s no_outputs []; operation = o }

  pub reads_back : {q : Reading} {e : Refusal} → r ≡ Err e → Reads index s q (Err e)
  unfolding tests answer_of refused_as call_of slices_of state_of written
  reads_back {q} {e} z =
      record { meets = record { does = sym (step_back (state_of index s) (call (read (reading_of q))) (row_of e) (turned_back d z)); writes = refl; keeps = λ k e. refl } }

  pub reads_on : {q : Reading} {v : Value} {a : A} → r ≡ Ok a → Answers index s q v → Reads index s q (Ok v)
  unfolding tests perform call_of slices_of state_of
  reads_on {q} {v} z a =
      record {
        meets = record {
          does = ap (λ a. (state_of index s, a)) a.does ∙ sym (step_on (state_of index s) (call (read (reading_of q))) (let_through d z));
          writes = only_answered (Ok v);
          keeps = λ k e. refl;
        };
      }

  module _ {slot : ℕ} {vectors part : Bor (List ℕ)} where
    -- a vector that is not given is the empty part
    pub vector_back : {f : Refusal} → r ≡ Err f → part.now ≡ [] → GivesVector index s slot vectors part
    unfolding tests refused_as call_of slices_of state_of written
    vector_back {f} z e = record {
      reads = record {
        meets = record {
          does = ap (λ l. (state_of index s, vector l)) e ∙ sym (step_back (state_of index s) (call (read_vector slot)) (row_of f) (turned_back d z));
          writes = refl;
          keeps = λ k e. refl;
        };
      };
      part = λ h. absurd (let z : length part.now ≡ 0 = ap length e in omega arith);
    }

    pub vector_on : {a : A} → r ≡ Ok a → vectors.now ≡ s.vectors → LiveVector index.dim vectors s.marks slot part → GivesVector index s slot vectors part
    unfolding tests perform stored store_ops store_view state_of vector_of call_of slices_of written
    vector_on z e l = go (is_valid s.marks slot) refl
      where
        answers : part.now ≡ cond (is_valid s.marks slot) (part_of index.dim slot s.vectors) [] → ReadsVector index s slot part.now
        answers a = record {
          meets = record {
            does = ap (λ l. (state_of index s, vector l)) a ∙ sym (step_on (state_of index s) (call (read_vector slot)) (let_through d z));
            writes = refl;
            keeps = λ k e. refl;
          };
        }

        go : (b : Bool) → is_valid s.marks slot ≡ b → GivesVector index s slot vectors part
        go true q = record { reads = answers (rw q ((l.live q).bytes ∙ ap (part_of index.dim slot) e)); part = λ h. l.live q }
        go false q = record { reads = answers (rw q (l.dead q)); part = λ h. absurd (let z : length part.now ≡ 0 = ap length (l.dead q) in omega arith) }
