-- Weights over the calls: the proof of `Weighted`. Assumes nothing.
use Prim.Native.Nat.{ℕ, ◌-◌}
use mathlib.Core.Bool.{Bool, true, false}
use mathlib.Core.List.{List, [], ◌∷◌, ◌++◌}
use mathlib.Core.Option.{Option, none, some}
use mathlib.Core.Path.{◌≡◌, refl, ap, ◌∙◌}
use native.Mathlib.Omega.{arith}
use lib.ListN.{length, replicate}
use Rattle.lists.specs.Lists.{All}
use Rattle.vectors.specs.Weights.{Ones}
use Rattle.vectors.proofs.Distances.{weighted_ones, ones_measure, weighted_self, weighted_sym, weighted_small}
use Rattle.slots.specs.Sizes.{Slices}
use Rattle.slots.specs.View.{live_slots}
use Rattle.slots.specs.Store.{Store, arrays, new_arrays}
use Rattle.slots.proofs.Weights.{weights_weigh, ones_pass}
use Rattle.guard.specs.Guard.{off, Report}
use Rattle.calls.specs.Calls.{Making, Reading, read_dim, read_capacity, read_degree, read_alpha, read_entry, read_live, read_mark, read_version, read_number, read_target, Delete, Operation, create, read, read_vector, search, insert, delete, enable, status, assess, guarded_delete, Call, Answer, created}
use Rattle.calls.specs.History.{compared, trace}
use Rattle.calls.specs.State.{State, Value, state, stored, shown, summary_for, made, with_graph, with_guard}
use Rattle.calls.specs.Step.{report_of, named, reading, deletion, guarded, perform, refusal, settle, step}
use Rattle.calls.specs.Weighted.{unweighted, unweighted_state, former, GivesOnes, Weighted}

-- an index that is made with weights of 1 is made without
new_former : (m : Making) → Ones m.weights → stored.new m ≡ former.new m
unfolding stored former unweighted new_arrays
new_former m o = λ i. record {
  arrays = new_arrays m.sizes (ones_measure m.weights o i) m.count m.bytes m.rows;
  capacity = m.sizes.capacity;
  alpha = m.sizes.alpha;
  entry = m.entry;
}

made_former : (m : Making) → Ones m.weights → made stored m ≡ made former m
unfolding made former
made_former m o =
    ap (λ (b : Store). let numbers = m.numbers ++ replicate (m.sizes.capacity - m.count) 0 in
    record {
      graph = b;
      live = length (live_slots (stored.ops.view b));
      guard = off;
      pool = stored.no_pool;
      numbers = numbers;
      summary = summary_for stored b numbers;
      weights = m.weights;
    }) (new_former m o)

read_former : (w : State Store) (r : Reading) → reading stored w r ≡ reading former w r
unfolding reading former
read_former w read_dim = refl
read_former w read_capacity = refl
read_former w read_degree = refl
read_former w read_alpha = refl
read_former w read_entry = refl
read_former w read_live = refl
read_former w (read_mark s) = refl
read_former w (read_version s) = refl
read_former w (read_number s) = refl
read_former w (read_target s place) = refl

guarded_former : (w : State Store) (a : Delete) (r : Report) (q : Bool) → guarded stored w a r q ≡ guarded former w a r q
unfolding guarded deletion with_graph former
guarded_former w a r true = refl
guarded_former w a r false = refl

-- one call, on whatever index
performed : (w : State Store) (o : Operation) → ((m : Making) → o ≡ create m → Ones m.weights) → perform stored w o ≡ perform former w o
unfolding perform former reading deletion guarded with_graph with_guard shown
performed w (create m) g = ap (λ (x : State Store). (x, created)) (made_former m (g m refl))
performed w (read r) g = ap (λ (a : Answer). (w, a)) (read_former w r)
performed w (read_vector s) g = refl
performed w (search a) g = refl
performed w (insert a) g = refl
performed w (delete a) g = refl
performed w (enable c) g = refl
performed w status g = refl
performed w (assess a) g = refl
performed w (guarded_delete a) g = let r = report_of (shown stored w) (named w a) in guarded_former w a r r.admitted

stepped : (w : State Store) (c : Call) → GivesOnes c → step stored w c ≡ step former w c
unfolding step settle refusal shown former
stepped w c g = go (refusal stored w c)
  where
    go : (q : Option ℕ) → settle stored w c q ≡ settle former w c q
    go (some n) = refl
    go none = performed w c.operation g

state_former : (v : Value) (s : Slices) → Ones s.weights → state v s ≡ unweighted_state (state v s)
unfolding unweighted
state_former v s o = let z = v.sizes in
    λ i. record {
      graph = record {
        arrays = arrays (ones_measure s.weights o i) z.dim z.degree s.vectors s.targets s.edges s.versions s.marks;
        capacity = z.capacity;
        alpha = z.alpha;
        entry = v.entry;
      };
      live = v.live;
      guard = v.guard;
      pool = s.pool;
      numbers = s.numbers;
      summary = s.summary;
      weights = s.weights;
    }

histories : (w : State Store) (cs : List Call) → All GivesOnes cs → trace stored w cs ≡ trace former w cs
unfolding shown former
histories w [] g = refl
histories w (c ∷ cs) g =
    let e = stepped w c g.0 in
    ap (λ (x : State Store × Answer). compared stored x ∷ trace stored x.0 cs) e
    ∙ ap (λ l. compared former (step former w c) ∷ l) (histories (step former w c).0 cs g.1)

kept_by : (w : State Store) (o : Operation) → ((m : Making) → o ≡ create m → ⊥) → (perform stored w o).0.weights ≡ w.weights
unfolding perform deletion guarded with_graph with_guard stored
kept_by w (create m) n = absurd (n m refl)
kept_by w (read r) n = refl
kept_by w (read_vector s) n = refl
kept_by w (search a) n = refl
kept_by w (insert a) n = refl
kept_by w (delete a) n = refl
kept_by w (enable c) n = refl
kept_by w status n = refl
kept_by w (assess a) n = refl
kept_by w (guarded_delete a) n = go (report_of (shown stored w) (named w a)).admitted
  where
    go : (q : Bool) → (guarded stored w a (report_of (shown stored w) (named w a)) q).0.weights ≡ w.weights
    go true = refl
    go false = refl

kept : (w : State Store) (c : Call) → ((m : Making) → c.operation ≡ create m → ⊥) → (step stored w c).0.weights ≡ w.weights
unfolding step settle
kept w c n = go (refusal stored w c)
  where
    go : (q : Option ℕ) → (settle stored w c q).0.weights ≡ w.weights
    go (some m) = refl
    go none = kept_by w c.operation n

pub weighted : Weighted
weighted = record {
  weighted_ones = weighted_ones;
  weighted_self = weighted_self;
  weighted_sym = weighted_sym;
  weighted_small = weighted_small;
  weighted_exact = λ ws a b p l h k. omega (arith, weighted_small ws a b l h k, (weights_weigh ws p).few);
  ones_pass = ones_pass;
  ones_step = λ v s c o g. stepped (state v s) c g ∙ ap (λ (w : State Store). step former w c) (state_former v s o);
  ones_history = λ v s cs o g. histories (state v s) cs g ∙ ap (λ (w : State Store). trace former w cs) (state_former v s o);
  weights_kept = kept;
}
