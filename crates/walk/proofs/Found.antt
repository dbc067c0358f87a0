-- What a whole walk leaves in the words. Assumes nothing.
use Prim.Native.Nat.{ℕ, max, ◌<◌}
use mathlib.Core.Bool.{true, false}
use mathlib.Core.Path.{◌≡◌, refl, ap, sym, ◌∙◌}
use mathlib.Core.List.{List, []}
use native.Mathlib.Omega.{arith}
use lib.ListN.{length}
use Rattle.lists.specs.Lists.{All, elem}
use Rattle.candidates.specs.Inner.Words.{cands}
use Rattle.candidates.proofs.Words.{cands_none, outside_none, outside_then}
use Rattle.vectors.specs.Space.{query_distance, space}
use Rattle.slots.specs.Store.{Arrays, Store, is_valid, store_view}
use Rattle.slots.proofs.Places.{live_inside}
use Rattle.walk.specs.Walk.{State, turns, graph_search, search_pool}
use Rattle.walk.specs.Inner.Scratch.{near_of, near_but, state_of, first_state, Begun, Stepped, Ready, Found, Pool}
use Rattle.walk.proofs.Ordered as Ordered
use Rattle.walk.proofs.Ordered.{graph_search_inside, graph_search_found}
use Rattle.walk.proofs.Seen.{near_inside, near_all, walk_view}
use Rattle.walk.proofs.Same.{graph_search_same}
use Rattle.slots.specs.Scratch.{work_at}
use Rattle.walk.proofs.Without.{graph_search_without}

-- from the start to the last turn
pub found_by : (a : Arrays) {query : List ℕ} {start beam width d : ℕ} {ids w v w' : List ℕ} {r next : ℕ} → Ready a query start beam w → elem start ids ≡ false
    → width ≡ max beam 1 → d ≡ query_distance (space a.measure a.dim a.vectors) query start → Begun (length a.marks) ids d start w v
    → Stepped (length a.marks) width v (turns width (query_distance (space a.measure a.dim a.vectors) query) (near_of a) (length a.marks) (state_of (length a.marks) v 1)) w' r next
    → Found a query (near_but ids) start beam w w' r
unfolding near_but
found_by a {query} {start} {beam} {width} {d} {ids} {w} {v} {w'} {r} {next} f m e p b g =
    let capacity : ℕ = length a.marks in
    let dist : ℕ → ℕ = query_distance (space a.measure a.dim a.vectors) query in
    let from : state_of capacity v 1 ≡ first_state capacity ids (dist start) start = b.holds ∙ ap (λ (x : ℕ). first_state capacity ids x start) p in
    let wide : width ≡ max 1 beam = omega (arith, e) in
    record {
      list = ap (λ (st : State). st.list) g.holds ∙ ap (λ (st : State). (turns width dist (near_of a) capacity st).list) from
          ∙ ap (λ (n : ℕ). (turns n dist (near_of a) capacity (first_state capacity ids (dist start) start)).list) wide
          ∙ graph_search_without ids capacity start beam dist (near_of a) f.start_inside m (λ s h. near_inside a s);
      few = omega (arith, g.goes.listed.few);
      small = g.goes.listed.small;
      size = g.size ∙ b.size;
      same = outside_then 0 (work_at capacity) w v w' b.same g.same;
    }

-- so it is of words that are the same
pub found_settled : {a : Arrays} {query : List ℕ} {near : Arrays → ℕ → List ℕ} {start beam : ℕ} {w v w' : List ℕ} {r : ℕ} → Found a query near start beam w w' r → v ≡ w' → Found a query near start beam w v r
found_settled f e = rw e f

-- leaving out none
pub found_all : {a : Arrays} {query : List ℕ} {start beam : ℕ} {w w' : List ℕ} {r : ℕ} → Ready a query start beam w
    → Found a query (near_but []) start beam w w' r → Found a query near_of start beam w w' r
found_all {a} {query} {start} {beam} f g =
    record {
      list = g.list ∙ sym (graph_search_same (length a.marks) (λ s h. refl) (λ s h. sym (near_all a s)) (λ s h. near_inside a s) start beam f.start_inside);
      few = g.few;
      small = g.small;
      size = g.size;
      same = g.same;
    }

-- ---- what the list is like: in order, each slot once, with its own distance, and all slots are inside; or live, where the start is
module _ {a : Arrays} {query : List ℕ} {near : Arrays → ℕ → List ℕ} {start beam : ℕ} {w w' : List ℕ} {r : ℕ} (f : Found a query near start beam w w' r) where
  pub found_inside : start < length a.marks → ((s : ℕ) → All (λ t. t < length a.marks) (near a s))
      → Ordered.Found (λ s. s < length a.marks) (max 1 beam) (query_distance (space a.measure a.dim a.vectors) query) (cands w' 0 r)
  found_inside h k = rw f.list (graph_search_inside (length a.marks) start beam _ (near a) h (λ s _. k s))

  pub found_live : is_valid a.marks start ≡ true → ((s : ℕ) → All (λ t. is_valid a.marks t ≡ true) (near a s))
      → Ordered.Found (λ s. is_valid a.marks s ≡ true) (max 1 beam) (query_distance (space a.measure a.dim a.vectors) query) (cands w' 0 r)
  found_live h k = rw f.list (graph_search_found (length a.marks) start beam _ (near a) _ (live_inside a.marks) (λ s _. k s) h)

-- ---- from the entry
search_live : (b : Store) (query : List ℕ) (beam : ℕ) → is_valid b.arrays.marks b.entry ≡ true
    → graph_search b.capacity b.entry beam (query_distance (space b.arrays.measure b.arrays.dim b.arrays.vectors) query) (near_of b.arrays) ≡ search_pool (store_view b) query beam
unfolding search_pool store_view
search_live b query beam h = walk_view b query b.entry beam ∙ rw h

search_dead : (b : Store) (query : List ℕ) (beam : ℕ) → is_valid b.arrays.marks b.entry ≡ false → search_pool (store_view b) query beam ≡ []
unfolding search_pool store_view
search_dead b query beam h = rw h

module _ {a : Arrays} {query : List ℕ} {entry beam : ℕ} where
  pub pool_live : {w w' : List ℕ} {r : ℕ} → true ≡ is_valid a.marks entry → Found a query near_of entry beam w w' r → Pool a query entry beam w w' r
  pool_live h f =
      record {
        list = λ b x y z. f.list ∙ rw (← y, ← x, ← z) (search_live b query beam (rw (x, z) (sym h)));
        few = f.few;
        small = f.small;
        size = f.size;
        same = f.same;
      }

  pub pool_dead : (w : List ℕ) → false ≡ is_valid a.marks entry → Pool a query entry beam w w 0
  pool_dead w h =
      record {
        list = λ b x y z. cands_none w 0 0 refl ∙ sym (search_dead b query beam (rw (x, z) (sym h)));
        few = omega arith;
        small = rw (cands_none w 0 0 refl) tt;
        size = refl;
        same = outside_none 0 (work_at (length a.marks)) w;
      }
