-- Candidates and their order: document 01, "Candidates and the walk"; `Candidate` and its `Ord` in the Rust. Assumes nothing.
use Rattle.std.specs.Prelude.{ℕ, Bool, ◌&&◌, ◌||◌, List, map, eqb, ltb}

-- a distance, which the code holds exactly as an f32, and a slot
pub record Candidate : Type 0 where
  pub dist : ℕ
  pub id : ℕ

-- the order of candidates: distance, then slot
abbrev pub before : Candidate → Candidate → Bool
before a b = ltb a.dist b.dist || eqb a.dist b.dist && ltb a.id b.id

-- by distance alone
abbrev pub nearer : Candidate → Candidate → Bool
nearer a b = ltb a.dist b.dist

-- slots with their distances
abbrev pub scored : (ℕ → ℕ) → List ℕ → List Candidate
scored dist ss = map (λ s. record { dist = dist s; id = s }) ss

-- the slots alone
abbrev pub ids : List Candidate → List ℕ
ids cs = map (λ c. c.id) cs
