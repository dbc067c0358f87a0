-- Weights over the calls: document 02, E3. With all weights 1 nothing differs from before. Assumes nothing.
use Rattle.std.specs.Prelude.{ℕ, ◌*◌, ◌≤◌, ◌<◌, true, List, ◌≡◌, length}
use Rattle.lists.specs.Lists.{All, sum}
use Rattle.vectors.specs.Distance.{distance, distance_plain}
use Rattle.vectors.specs.Weights.{Ones}
use Rattle.slots.specs.Sizes.{Slices, limits, weights_ok}
use Rattle.slots.specs.Store.{Store, arrays, with_arrays}
use Rattle.calls.specs.Calls.{Making, create, Call}
use Rattle.calls.specs.History.{trace}
use Rattle.calls.specs.State.{State, Value, state, Kind, stored}
use Rattle.calls.specs.Step.{step}

-- ---- the library before weights

-- an index whose distance is document 01's, whatever its weights
unfoldable pub unweighted : Store → Store
unweighted b = let a = b.arrays in with_arrays b (arrays distance_plain a.dim a.degree a.vectors a.targets a.edges a.versions a.marks)

-- the same with the rest of what an app holds
abbrev pub unweighted_state : State Store → State Store
unweighted_state w =
    record { graph = unweighted w.graph; live = w.live; guard = w.guard; pool = w.pool; numbers = w.numbers; summary = w.summary; weights = w.weights }

-- making makes such indexes, and nothing else differs
unfoldable pub former : Kind Store
former = record {
  ops = stored.ops;
  new = λ m. unweighted (stored.new m);
  no_pool = stored.no_pool;
  put_pool = stored.put_pool;
  version_of = stored.version_of;
}

-- where a call is a making, it gives weights of 1
abbrev pub GivesOnes : Call → Type 0
GivesOnes c = (m : Making) → c.operation ≡ create m → Ones m.weights

-- ---- the claims

pub record Weighted : Type 0 where
  -- the distance: with weights of 1 it is document 01's; of a vector to itself it is 0; it is the same both ways; of bytes it is at most 65,025 times the sum
  -- of the weights; and with weights that pass it is below 2 ^ 24, so that an f32 holds it exactly
  pub weighted_ones : (ws a b : List ℕ) → Ones ws → distance ws a b ≡ distance_plain a b
  pub weighted_self : (ws a : List ℕ) → distance ws a a ≡ 0
  pub weighted_sym : (ws a b : List ℕ) → distance ws a b ≡ distance ws b a
  pub weighted_small : (ws a b : List ℕ) → length a ≤ length ws → All (λ x. x < 256) a → All (λ y. y < 256) b → distance ws a b ≤ 65025 * sum ws
  pub weighted_exact : (ws a b : List ℕ) → weights_ok limits ws ≡ true → length a ≤ length ws → All (λ x. x < 256) a → All (λ y. y < 256) b → distance ws a b < 16777216
  -- weights of 1 are not refused
  pub ones_pass : (ws : List ℕ) → Ones ws → length ws ≤ 256 → weights_ok limits ws ≡ true
  -- a call on an index with weights of 1: answer and index are those of the library before weights
  pub ones_step : (v : Value) (s : Slices) (c : Call) → Ones s.weights → GivesOnes c → step stored (state v s) c ≡ step former (unweighted_state (state v s)) c
  -- and so is what is seen after each of a list of such calls, and its answer but a version
  pub ones_history : (v : Value) (s : Slices) (cs : List Call) → Ones s.weights → All GivesOnes cs → trace stored (state v s) cs ≡ trace former (unweighted_state (state v s)) cs
  -- no call but a making changes the weights
  pub weights_kept : (w : State Store) (c : Call) → ((m : Making) → c.operation ≡ create m → ⊥) → (step stored w c).0.weights ≡ w.weights
