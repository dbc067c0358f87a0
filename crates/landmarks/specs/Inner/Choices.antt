-- Choosing landmarks from a sample whose slots keep their least distances to the references: over distances instead of a view, and what the functions
-- that choose ask and leave. Assumes nothing.
use Rattle.std.specs.Prelude.{ℕ, zero, suc, ◌+◌, ◌*◌, min, ◌≤◌, ◌<◌, Bool, cond, List, [], ◌∷◌, ◌≡◌, length, eqb, ltb}
use Rattle.lists.specs.Lists.{All, foldl, least_of, put_front}
use Rattle.vectors.specs.Vector.{Bytes}
use Rattle.vectors.specs.Lent.{HasVector}
use Rattle.vectors.specs.declared.Space.{Space}
use Rattle.landmarks.specs.declared.sample.Free.{Free}
use Rattle.candidates.specs.Candidates.{Candidate, scored}
use Rattle.candidates.specs.Inner.Words.{pair, cands}
use Rattle.slots.specs.Scratch.{work_at}
use Rattle.landmarks.specs.Inner.Samples.{free, stride_of, sample_by, sample_words}

-- of a and the candidates of a list, the last with the greatest distance
abbrev pub farthest_from : Candidate → List Candidate → Candidate
farthest_from a [] = a
farthest_from a (c ∷ cs) = farthest_from (cond (ltb c.dist a.dist) a c) cs

-- the slot of the last with the greatest distance
abbrev pub farthest : List Candidate → ℕ
farthest cs = (farthest_from (pair 0 0) cs).id

module _ (d : ℕ → ℕ → ℕ) where
  -- slot `next` becomes a reference: it leaves the list, and each other's least distance falls to that to `next` where it was greater
  abbrev pub drawn : ℕ → List Candidate → List Candidate
  drawn next [] = []
  drawn next (c ∷ cs) =
      let rest = drawn next cs in
      cond (eqb c.id next) rest (pair (min c.dist (d c.id next)) c.id ∷ rest)

  -- some slots do, one after the other
  abbrev pub drawn_all : List ℕ → List Candidate → List Candidate
  drawn_all references cs = foldl (λ cs r. drawn r cs) cs references

  -- n landmarks at most, of a sample with its least distances
  unfoldable pub chosen : ℕ → List Candidate → List ℕ
  chosen zero cs = []
  chosen (suc n) [] = []
  chosen (suc n) (c ∷ cs) = let next = farthest (c ∷ cs) in next ∷ chosen n (drawn next (c ∷ cs))

  -- `select_landmarks` of the guard's definitions
  unfoldable pub landmarks_by : (ℕ → Bool) → ℕ → ℕ → ℕ → ℕ → List ℕ → List ℕ
  landmarks_by stays capacity entry wanted sample existing =
      chosen wanted (scored (λ s. least_of (d s) (entry ∷ existing)) (sample_by (free stays (entry ∷ existing)) capacity (stride_of capacity sample) wanted))

-- ---- what the functions ask
-- n candidates, from the first word on, whose vectors the bytes hold: a fact of lent words, whose n changes at each step
pub record Listed (space : Space) (w : List ℕ) (n : ℕ) : Type 0 where
  pub small : space.dim ≤ 256
  pub room : 2 * n ≤ length w
  pub inside : All (λ c. HasVector space c.id) (cands w 0 n)

-- slices that belong together; references among their slots; room in the list, and for the sample in the work region of the scratch
pub record Selectable (space : Space) (f : Free) (wanted sample : ℕ) (list w : List ℕ) : Type 0 where
  pub bytes : Bytes space.dim (length f.marks.now) space.vectors.now
  pub few : length f.marks.now ≤ 65536
  pub references : All (λ s. s < length f.marks.now) (f.entry ∷ f.kept.now)
  pub wanted_most : wanted ≤ 1024
  pub sample_some : 0 < sample
  pub list_long : wanted ≤ length list
  pub room : work_at (length f.marks.now) + sample_words (length f.marks.now) ≤ length w

-- ---- what they leave
-- of n candidates those of the list l are left, r of them, at distances that were measured
pub record Drew (w : List ℕ) (n : ℕ) (l : List Candidate) (w' : List ℕ) (r : ℕ) : Type 0 where
  pub list : cands w' 0 r ≡ l
  pub within : r ≤ n
  pub near : All (λ c. c.dist ≤ 16646400) (cands w' 0 r)
  pub size : length w' ≡ length w

-- the slots xs are written to the front of a list, r of them
pub record Fronted (xs l l' : List ℕ) (r : ℕ) : Type 0 where
  pub list : l' ≡ put_front xs l
  pub count : r ≡ length xs
