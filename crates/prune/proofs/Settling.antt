-- A candidate is taken: the factors after it are raised, one after the other. Assumes nothing.
use Prim.Native.Nat.{ℕ, suc, ◌+◌, ◌-◌, ◌*◌, ◌≤◌, ◌<◌}
use mathlib.Core.Path.{◌≡◌, refl, sym, ◌∙◌}
use mathlib.Core.Bool.{Bool, true, false, cond}
use mathlib.Core.List.{List}
use native.Mathlib.Numerals.{add-one}
use native.Mathlib.Omega.{arith}
use Rattle.std.proofs.lemmas.List.{get_or_default}
use lib.ListN.{length, get_or, set, length-set}
use lib.Seq.{set-get_or}
use lib.Ieee.{Float, nan, lt}
use Rattle.lists.specs.Lists.{foldl, range}
use Rattle.vectors.specs.Space.{Measured}
use Rattle.candidates.specs.Candidates.{Candidate}
use Rattle.candidates.specs.Quotient.{largest, fmax, quotient}
use Rattle.candidates.specs.Inner.Words.{cand, cands}
use Rattle.candidates.proofs.Words.{front_at, cands_length}
use Rattle.prune.specs.Prune.{raise}
use Rattle.prune.specs.Inner.Selecting.{raised_factor, settled}

-- ---- one factor
pub raised_over : (alpha : Float) (own pair : ℕ) (f : Float) → lt alpha f ≡ true → f ≡ raised_factor alpha own pair f
unfolding raised_factor
raised_over alpha own pair f e = rw e

pub raised_to : (alpha : Float) (own : ℕ) {d pair : ℕ} (f : Float) {r q : Float} → lt alpha f ≡ false → Measured d pair → q ≡ quotient own pair → r ≡ fmax f q → r ≡ raised_factor alpha own d f
unfolding raised_factor
raised_to alpha own {d} {pair} f {r} {q} e n g h = rw (e, ← n.equals, ← g) h

-- ---- all of those after the one taken
module _ (alpha : Float) (d : ℕ → ℕ → ℕ) (w : List ℕ) (n : ℕ) (x : Candidate) where
  -- from factors₀ and j₀ on, those before j are raised
  pub record Raising (factors₀ : List Float) (j₀ : ℕ) (factors : List Float) (j : ℕ) : Type 0 where
    pub size : length factors ≡ n
    pub goes : foldl (raise 0 alpha d (cands w 0 n) x) factors (range j (n - j)) ≡ foldl (raise 0 alpha d (cands w 0 n) x) factors₀ (range j₀ (n - j₀))

  one : (factors : List Float) (j : ℕ) → j < n → length factors ≡ n
      → raise 0 alpha d (cands w 0 n) x factors j
      ≡ set factors j (raised_factor alpha (cand w (2 * j)).dist (d (cand w (2 * j)).id x.id) (get_or factors j nan))
  unfolding raise raised_factor
  one factors j h e = rw (front_at w n j h, get_or_default factors j largest nan (omega arith)) (go (lt alpha (get_or factors j nan)) _)
    where
      go : (b : Bool) (y : Float) → cond b factors (set factors j y) ≡ set factors j (cond b (get_or factors j nan) y)
      go true y = sym (set-get_or factors j nan)
      go false y = refl

module _ {alpha : Float} {d : ℕ → ℕ → ℕ} {w : List ℕ} {n : ℕ} {x : Candidate} {factors₀ : List Float} {j₀ : ℕ} {factors : List Float} {j : ℕ} (f : Raising alpha d w n x factors₀ j₀ factors j) where
  pub raising_more : {own s y : ℕ} {r : Float} → j < n → own ≡ (cand w (2 * j)).dist → s ≡ (cand w (2 * j)).id → y ≡ x.id
      → r ≡ raised_factor alpha own (d s y) (get_or factors j nan)
      → Raising alpha d w n x factors₀ j₀ (set factors j r) (j + 1)
  raising_more {own} {s} {y} {r} h o i z e =
      let k : n - j ≡ suc (n - (j + 1)) = omega arith in
      record {
        size = length-set factors j r ∙ f.size;
        goes = rw (e, o, i, z, ← one alpha d w n x factors j h f.size, add-one j) (rw (k, add-one j) at f.goes);
      }

pub raising_done : {alpha : Float} {d : ℕ → ℕ → ℕ} {w : List ℕ} {n i : ℕ} (factors₀ : List Float) {factors : List Float} {j : ℕ} → i < n → n ≤ j
    → Raising alpha d w n (cand w (2 * i)) (set factors₀ i largest) (i + 1) factors j → factors ≡ settled alpha d (cands w 0 n) i factors₀
unfolding settled
raising_done {alpha} {d} {w} {n} {i} factors₀ {factors} {j} h l f =
    let k : n - j ≡ 0 = omega arith in
    rw (front_at w n i h, cands_length w 0 n, ← add-one i) (rw k at f.goes)
