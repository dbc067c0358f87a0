-- The links of a plan: what the functions ask, and what they leave. A plan has lists of the connected candidates, of those that remain, each with its distance to the
-- nearest connected one, and of the connected ones by their distance to the next. The pairs of slots to be linked lie in words of their own. Assumes nothing.
use Rattle.std.specs.Prelude.{ℕ, suc, ◌+◌, ◌*◌, ◌≤◌, ◌<◌, min, true, List, [], ◌∷◌, ◌++◌, ◌≡◌, length, take, get_or}
use Rattle.lists.specs.Lists.{All, concat_map, range, least_from, least_of}
use Rattle.lists.proofs.Unique.{Unique}
use Rattle.vectors.specs.Space.{Measure}
use Rattle.candidates.specs.Candidates.{Candidate, ids}
use Rattle.candidates.specs.Inner.Words.{pair, cands}
use Rattle.slots.specs.Store.{is_valid}
use Rattle.repair.specs.Repair.{Link, span, repair_links}
use Rattle.links.specs.declared.span.Pair.{Pair}
use Rattle.links.specs.Inner.Linking.{between, pairs_of, link_words}

-- ---- lists of candidates
-- y and the slots of some candidates have vectors: a fact of a space and of a list, which changes at each step
pub record Stored (dim : ℕ) (vectors : List ℕ) (y : ℕ) (cs : List Candidate) : Type 0 where
  pub short : dim ≤ 256
  pub own : y * dim + dim ≤ length vectors
  pub stored : All (λ c. c.id * dim + dim ≤ length vectors) cs

-- the first of the nearest
abbrev pub first_least : List Candidate → Candidate
first_least [] = pair 0 0
first_least (c ∷ cs) = least_from (λ c. c.dist) c cs

-- it is the one at r
pub record Nearest (cs : List Candidate) (r : ℕ) : Type 0 where
  pub within : r < length cs
  pub least : get_or cs r (pair 0 0) ≡ first_least cs

abbrev pub lower_to : (ℕ → ℕ) → Candidate → Candidate
lower_to f c = pair (min c.dist (f c.id)) c.id

-- ---- the plan
-- no number stands twice
pub record Distinct (xs : List ℕ) : Type 0 where
  pub unlike : (i j : ℕ) → i < j → j < length xs → get_or xs i 0 ≡ get_or xs j 0 → ⊥

-- how many words it needs
abbrev pub plan_words : ℕ → ℕ
plan_words degree = 1920 + link_words degree

-- room for them: a fact of the words lent to one call, so it is no field
pub record Area (degree : ℕ) (w : List ℕ) (base : ℕ) : Type 0 where
  pub inside : base + plan_words degree ≤ length w
  pub below : base + plan_words degree ≤ 8388608

-- the first r pairs have the links ls
pub record PairedNearest (ls : List Link) (pairs' : List Pair) (r : ℕ) : Type 0 where
  pub added : pairs_of (take r pairs') ≡ ls
  pub more : r ≤ 16

-- some are connected, and others remain, each with its distance to the nearest connected one
pub record Planned (measure : Measure) (dim : ℕ) (vectors : List ℕ) (connected remaining : List Candidate) : Type 0 where
  pub short : dim ≤ 256
  pub some : 0 < length connected
  pub few : length connected + length remaining ≤ 320
  pub connected_in : All (λ c. c.id * dim + dim ≤ length vectors) connected
  pub remaining_in : All (λ c. c.id * dim + dim ≤ length vectors) remaining
  pub least : All (λ c. c.dist ≡ least_of (between measure dim vectors c.id) (ids connected)) remaining
  pub distinct : Distinct (ids remaining)

-- the links from there on, f of them connected at most
abbrev pub span_at : Measure → ℕ → List ℕ → ℕ → List Candidate → List Candidate → ℕ → List Link
span_at measure dim vectors repair_degree connected remaining f = span (between measure dim vectors) repair_degree f (ids connected) (ids remaining)

-- one more is connected, by the first r pairs
pub record Connected (measure : Measure) (dim : ℕ) (vectors : List ℕ) (repair_degree : ℕ) (con rem con' rem' : List Candidate) (pairs' : List Pair) (r : ℕ) : Type 0 where
  pub planned : Planned measure dim vectors con' rem'
  pub goes : (f : ℕ) → span_at measure dim vectors repair_degree con rem (suc f) ≡ pairs_of (take r pairs') ++ span_at measure dim vectors repair_degree con' rem' f
  pub more : r ≤ 16

-- all are connected, by the first r pairs
pub record Spanned (measure : Measure) (dim : ℕ) (vectors : List ℕ) (repair_degree : ℕ) (con rem : List Candidate) (pairs' : List Pair) (r : ℕ) : Type 0 where
  pub paired : pairs_of (take r pairs') ≡ span_at measure dim vectors repair_degree con rem (length rem)
  pub few : r ≤ 5120

-- ---- all plans
-- n candidates of a plan at `at`: live, each once
pub record Plan (marks w : List ℕ) (at n : ℕ) : Type 0 where
  pub few : n ≤ 320
  pub live : All (λ c. is_valid marks c.id ≡ true) (cands w at n)
  pub once : Unique (ids (cands w at n))

-- r is the number of links of a plan of n candidates, whatever these are
pub record Attempted (repair_degree n r : ℕ) : Type 0 where
  pub count : (d : ℕ → ℕ → ℕ) (entry : ℕ) (cs : List ℕ) → length cs ≡ n → Unique cs → r ≡ length (repair_links d repair_degree entry cs)
  pub few : r ≤ 10272

-- the number of plan j's candidates: the third of its four counts
abbrev pub count_at : List ℕ → ℕ → ℕ → ℕ
count_at w stats j = get_or w (stats + 4 * j + 2) 0

-- p plans, 640 words each, and their counts lie below base: a fact of the words lent to one call, so it is no field
pub record Plans (marks w : List ℕ) (stats plans p base : ℕ) : Type 0 where
  pub counted : stats + 4 * p ≤ base
  pub placed : plans + 640 * p ≤ base
  pub each : (j : ℕ) → j < p → Plan marks w (plans + 640 * j) (count_at w stats j)

abbrev pub plan_at : (ℕ → ℕ → ℕ) → ℕ → ℕ → List ℕ → ℕ → ℕ → ℕ → List Link
plan_at d repair_degree entry w stats plans j = repair_links d repair_degree entry (ids (cands w (plans + 640 * j) (count_at w stats j)))

-- the links of all plans
abbrev pub plans_at : (ℕ → ℕ → ℕ) → ℕ → ℕ → List ℕ → ℕ → ℕ → ℕ → List Link
plans_at d repair_degree entry w stats plans p = concat_map (plan_at d repair_degree entry w stats plans) (range 0 p)
