-- Keys along a sorted order: those of earlier places are not above later ones, and what a search for a key finds. Assumes nothing.
use Prim.Native.Nat.{ℕ, zero, suc, ◌+◌, ◌≤◌, ◌<◌}
use mathlib.Core.Path.{◌≡◌}
use mathlib.Core.Logic.{◌≢◌}
use mathlib.Core.List.{List}
use native.Mathlib.Decide.{dec_lt}
use native.Mathlib.Omega.{arith}
use lib.ListN.{get_or}
use Rattle.sorting.specs.Inner.Places.{key_at, Risen, Below}

-- ---- earlier and later places
module _ (K : ℕ → ℕ) (n : ℕ) where
  climbs : ((i : ℕ) → suc i < n → K i ≤ K (suc i)) → (i j : ℕ) → i ≤ j → j < n → K i ≤ K j
  climbs up i zero h k = let e : i ≡ 0 = omega arith in rw e (omega arith)
  climbs up i (suc j) h k = go (dec_lt i (suc j)) (λ l. climbs up i j (omega arith) (omega arith))
    where
      go : Dec (i < suc j) → (i < suc j → K i ≤ K j) → K i ≤ K (suc j)
      go (yes l) r = omega (arith, r l, up j k)
      go (no l) r = let e : i ≡ suc j = omega arith in rw e (omega arith)

pub risen_at : {keys order : List ℕ} {n : ℕ} → Risen keys order n → (i j : ℕ) → i ≤ j → j < n → key_at keys order i ≤ key_at keys order j
risen_at {keys} {order} {n} r = climbs (key_at keys order) n r.up

-- where no two neighbours' keys are equal, the keys rise
pub strictly : {keys order : List ℕ} {n : ℕ} → Risen keys order n → ((i : ℕ) → suc i < n → key_at keys order i ≢ key_at keys order (suc i))
    → (i j : ℕ) → i < j → j < n → key_at keys order i < key_at keys order j
strictly {keys} {order} {n} r d i j h k =
    omega (arith, r.up i (omega arith), d i (omega arith), risen_at r (suc i) j (omega arith) k)

-- ---- halving: the keys before low are below the key sought, those from high on are not
pub record Halving (keys order : List ℕ) (n key low high : ℕ) : Type 0 where
  pub span : low ≤ high
  pub most : high ≤ n
  pub before : (i : ℕ) → i < low → key_at keys order i < key
  pub from : (i : ℕ) → high ≤ i → i < n → key ≤ key_at keys order i

-- k is the key at the middle m
module _ {keys order : List ℕ} {n key low high : ℕ} (f : Halving keys order n key low high) (r : Risen keys order n) (m : ℕ) (h : low ≤ m) (l : m < high) where
  pub halving_up : {k : ℕ} → k ≡ get_or keys (get_or order m 0) 0 → k < key → Halving keys order n key (m + 1) high
  halving_up e b =
      record {
        span = omega arith;
        most = f.most;
        before = λ i q. omega (arith, risen_at r i m (omega arith) (omega (arith, f.most)));
        from = f.from;
      }

  pub halving_down : {k : ℕ} → k ≡ get_or keys (get_or order m 0) 0 → key ≤ k → Halving keys order n key low m
  halving_down e b =
      record {
        span = omega arith;
        most = omega (arith, f.most);
        before = f.before;
        from = λ i q w. omega (arith, risen_at r m i (omega arith) w);
      }

-- ---- what a search finds
module _ {keys order : List ℕ} {n key r : ℕ} (u : Risen keys order n) (b : Below keys order n key r) where
  -- a place with the key is not before the one found
  not_before : (i : ℕ) → key_at keys order i ≡ key → r ≤ i
  not_before i e = go (dec_lt i r)
    where
      go : Dec (i < r) → r ≤ i
      go (yes l) = absurd (omega (arith, b.before i l))
      go (no l) = omega arith

  -- if a place has the key, the one found has it
  pub below_here : (i : ℕ) → i < n → key_at keys order i ≡ key → (r < n) × (key_at keys order r ≡ key)
  below_here i h e =
      let l : r ≤ i = not_before i e in
      let q : r < n = omega arith in
      (q, omega (arith, b.from r (omega arith) q, risen_at u r i l h))

  -- if the place found has another key, or is past the last, no place has the key
  pub below_absent : (r < n → key_at keys order r ≢ key) → (i : ℕ) → i < n → key_at keys order i ≢ key
  below_absent d i h e = let w = below_here i h e in d w.0 w.1

  -- if no two neighbours' keys are equal, only the place found can have the key
  pub below_only : ((i : ℕ) → suc i < n → key_at keys order i ≢ key_at keys order (suc i)) → (i : ℕ) → i < n → key_at keys order i ≡ key → i ≡ r
  below_only d i h e = go (dec_lt r i)
    where
      go : Dec (r < i) → i ≡ r
      go (yes l) = absurd (omega (arith, strictly u d r i l h, (below_here i h e).1))
      go (no l) = omega (arith, not_before i e)
