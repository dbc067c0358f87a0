-- Lists of candidates as the code keeps them, in lent words: two neighbouring words a candidate, its distance and its slot. Assumes nothing.
use Rattle.std.specs.Prelude.{ℕ, zero, suc, ◌+◌, ◌*◌, ◌-◌, ◌/◌, ◌≤◌, ◌<◌, ◌≡◌, Bool, true, not, ◌&&◌, List, [], ◌∷◌, ◌++◌, length, take, drop, get_or, set, eqb}
use Rattle.lists.specs.Lists.{All, insert_by}
use Rattle.slots.specs.Store.{is_valid}
use Rattle.candidates.specs.Candidates.{Candidate, before}

abbrev pub pair : ℕ → ℕ → Candidate
pair dist id = record { dist = dist; id = id }

-- the candidate at word p
abbrev pub cand : List ℕ → ℕ → Candidate
cand w p = pair (get_or w p 0) (get_or w (p + 1) 0)

-- the n candidates from word a on
unfoldable pub cands : List ℕ → ℕ → ℕ → List Candidate
cands w a zero = []
cands w a (suc n) = cand w a ∷ cands w (a + 2) n

-- those of a list in words of its own: as many as two words each are there
abbrev pub cands_of : List ℕ → List Candidate
cands_of w = cands w 0 (length w / 2)

-- those of a list whose last place is free
abbrev pub filled : List ℕ → List Candidate
filled w = cands w 0 (length w / 2 - 1)

-- distances that an f32 holds exactly: a fact of lent words, asked where the order of a list is used
abbrev pub Small : List Candidate → Type 0
Small cs = All (λ c. c.dist ≤ 16777216) cs

-- the words w with a candidate at word p
abbrev pub put : List ℕ → ℕ → ℕ → ℕ → List ℕ
put w p dist id = set (set w p dist) (p + 1) id

-- ---- what a function leaves of the words w, as w'
-- outside the k words from a on nothing changes
abbrev pub Outside : ℕ → ℕ → List ℕ → List ℕ → Type 0
Outside a k w w' = (j : ℕ) → (a ≤ j → a + k ≤ j) → get_or w' j 0 ≡ get_or w j 0

-- the n candidates at a are the list l
pub record Holds (w : List ℕ) (a n : ℕ) (l : List Candidate) (w' : List ℕ) : Type 0 where
  pub list : cands w' a n ≡ l
  pub size : length w' ≡ length w
  pub same : Outside a (2 * n) w w'

-- of a list those of l remain, r of them, at its front
pub record Remain (w : List ℕ) (l : List Candidate) (r : ℕ) (w' : List ℕ) : Type 0 where
  pub list : cands w' 0 r ≡ l
  pub within : r ≤ length w / 2

-- ---- inserting in order
-- the candidate x goes behind the first r of l
pub record Behind (l : List Candidate) (x : Candidate) (r : ℕ) : Type 0 where
  pub within : r ≤ length l
  pub ahead : (i : ℕ) → i < r → before (get_or l i (pair 0 0)) x ≡ true

-- the candidate x goes to place r of l
pub record Placed (l : List Candidate) (x : Candidate) (r : ℕ) : Type 0 where
  pub within : r ≤ length l
  pub splits : insert_by before x l ≡ take r l ++ (x ∷ drop r l)

-- the words from `from` up to `to` are copied two places up
pub record Shifted (w : List ℕ) (from to : ℕ) (w' : List ℕ) : Type 0 where
  pub moved : (j : ℕ) → from ≤ j → j < to → get_or w' (j + 2) 0 ≡ get_or w j 0
  pub size : length w' ≡ length w
  pub same : Outside (from + 2) (to - from) w w'

-- x is inserted into the n candidates at a, at place r
pub record Inserted (w : List ℕ) (a n : ℕ) (x : Candidate) (r : ℕ) (w' : List ℕ) : Type 0 where
  pub within : r ≤ n
  pub front : cands w' a r ≡ cands w a r
  pub holds : Holds w a (n + 1) (insert_by before x (cands w a n)) w'

-- x is inserted into a list whose last place is free, at place r
pub record Inserts (w : List ℕ) (x : Candidate) (r : ℕ) (w' : List ℕ) : Type 0 where
  pub within : r < length w / 2
  pub front : cands w' 0 r ≡ cands w 0 r
  pub list : cands_of w' ≡ insert_by before x (filled w)

-- ---- another test
-- whether a slot is live and not the source
unfoldable pub kept : List ℕ → ℕ → ℕ → Bool
kept marks source s = not (eqb s source) && is_valid marks s
