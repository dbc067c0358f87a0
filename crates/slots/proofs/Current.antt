-- The references of a row that are current: what writing a row and raising a version do to them. Assumes nothing.
use Rattle.std.proofs.Common.{◌≡◌, ℕ, zero, suc, ◌<◌, ◌≤◌, Bool, true, false, cond, not, ◌&&◌, eqb, List, [], ◌∷◌, ◌++◌, map, length, get_or, take, drop, set, replicate, refl, ap, arith, length-append, length-take, get_or-set_other, get_or-set_same, eq-eqb, ne_eqb, eqb-true}
use mathlib.Core.Bool.{and-false}
use borrow.Author.Tests.{eqb-false}
use lib.ListN.{length-replicate}
use Rattle.lists.specs.Lists.{filter}
use Rattle.slots.specs.Store.{blank, current, edge_version, padded}
use Rattle.slots.specs.Plain.{other_than}

-- the examples are checked first, so that a wrong definition shows in one of them

-- ---- a row as it is written

pub current_written : (versions ts : List ℕ) → current versions ts (map (edge_version versions) ts) ≡ filter (other_than blank) ts
unfolding current
current_written versions [] = refl
current_written versions (t ∷ ts) = go (eqb t blank) refl (current_written versions ts)
  where
    go : (b : Bool) → eqb t blank ≡ b → current versions ts (map (edge_version versions) ts) ≡ filter (other_than blank) ts
        → current versions (t ∷ ts) (map (edge_version versions) (t ∷ ts)) ≡ filter (other_than blank) (t ∷ ts)
    go true e ih = rw e ih
    go false e ih = rw (e, eq-eqb (get_or versions t 0) (get_or versions t 0) refl) (ap (λ (r : List ℕ). t ∷ r) ih)

no_blanks : (d n : ℕ) → filter (other_than blank) (take d (replicate n blank)) ≡ []
no_blanks zero n = refl
no_blanks (suc d) zero = refl
no_blanks (suc d) (suc n) = no_blanks d n

pub padded_targets : (d n : ℕ) (ids : List ℕ) → filter (other_than blank) (take d (ids ++ replicate n blank)) ≡ filter (other_than blank) (take d ids)
padded_targets zero n ids = refl
padded_targets (suc d) n [] = no_blanks (suc d) n
padded_targets (suc d) n (x ∷ xs) = ap (λ (r : List ℕ). cond (other_than blank x) (x ∷ r) r) (padded_targets d n xs)

pub length_padded : (d : ℕ) (ids : List ℕ) → length (padded d ids) ≡ d
length_padded d ids = simp (length-take, length-append, length-replicate) (omega arith)

-- ---- no edge version is above its target's version

abbrev pub Fresh : List ℕ → List ℕ → List ℕ → Type 0
Fresh versions [] es = Unit {0}
Fresh versions (t ∷ ts) [] = Unit {0}
Fresh versions (t ∷ ts) (e ∷ es) = (e ≤ get_or versions t 0) × Fresh versions ts es

module _ (versions : List ℕ) where
  pub fresh_append : (a b c d : List ℕ) → length a ≡ length c → Fresh versions a c → Fresh versions b d → Fresh versions (a ++ b) (c ++ d)
  fresh_append [] b [] d e f g = g
  fresh_append [] b (y ∷ c) d e f g = absurd (let z : 0 ≡ suc (length c) = e in omega arith)
  fresh_append (x ∷ a) b [] d e f g = absurd (let z : suc (length a) ≡ 0 = e in omega arith)
  fresh_append (x ∷ a) b (y ∷ c) d e f g = (f.0, fresh_append a b c d (omega (arith, e)) f.1 g)

  pub fresh_take : (n : ℕ) (a c : List ℕ) → Fresh versions a c → Fresh versions (take n a) (take n c)
  fresh_take zero a c f = tt
  fresh_take (suc n) [] c f = tt
  fresh_take (suc n) (x ∷ a) [] f = tt
  fresh_take (suc n) (x ∷ a) (y ∷ c) f = (f.0, fresh_take n a c f.1)

  fresh_none : (a : List ℕ) → Fresh versions a []
  fresh_none [] = tt
  fresh_none (x ∷ a) = tt

  pub fresh_drop : (n : ℕ) (a c : List ℕ) → Fresh versions a c → Fresh versions (drop n a) (drop n c)
  fresh_drop zero a c f = f
  fresh_drop (suc n) [] c f = tt
  fresh_drop (suc n) (x ∷ a) [] f = fresh_none (drop n a)
  fresh_drop (suc n) (x ∷ a) (y ∷ c) f = fresh_drop n a c f.1

  pub fresh_written : (ts : List ℕ) → Fresh versions ts (map (edge_version versions) ts)
  fresh_written [] = tt
  fresh_written (t ∷ ts) = (go (eqb t blank), fresh_written ts)
    where
      go : (b : Bool) → cond b 0 (get_or versions t 0) ≤ get_or versions t 0
      go true = omega arith
      go false = omega arith

  pub fresh_zeros : (ts : List ℕ) (n : ℕ) → Fresh versions ts (replicate n 0)
  fresh_zeros [] n = tt
  fresh_zeros (t ∷ ts) zero = tt
  fresh_zeros (t ∷ ts) (suc n) = (omega arith, fresh_zeros ts n)

-- ---- a version that goes up by one

module _ (versions : List ℕ) (s : ℕ) (inside : s < length versions) where
  abbrev pub raised : List ℕ
  raised = set versions s (suc (get_or versions s 0))

  pub raised_at : (t : ℕ) → eqb t s ≡ true → get_or raised t 0 ≡ suc (get_or versions s 0)
  raised_at t e = rw (eqb-true t s e) (get_or-set_same versions s (suc (get_or versions s 0)) 0 inside)

  pub raised_other : (t : ℕ) → eqb t s ≡ false → get_or raised t 0 ≡ get_or versions t 0
  raised_other t e = get_or-set_other versions s t (suc (get_or versions s 0)) 0 (eqb-false t s e)

  raised_above : (t : ℕ) → get_or versions t 0 ≤ get_or raised t 0
  raised_above t = go (eqb t s) refl
    where
      go : (b : Bool) → eqb t s ≡ b → get_or versions t 0 ≤ get_or raised t 0
      go true e = omega (arith, raised_at t e, ap (λ k. get_or versions k 0) (eqb-true t s e))
      go false e = rw (raised_other t e) (omega arith)

  pub fresh_raised : (ts es : List ℕ) → Fresh versions ts es → Fresh raised ts es
  fresh_raised [] es f = tt
  fresh_raised (t ∷ ts) [] f = tt
  fresh_raised (t ∷ ts) (e ∷ es) f = (omega (arith, f.0, raised_above t), fresh_raised ts es f.1)

  -- every reference to the slot is outdated, and no other
  pub current_raised : (ts es : List ℕ) → Fresh versions ts es → current raised ts es ≡ filter (other_than s) (current versions ts es)
  unfolding current
  current_raised [] es f = refl
  current_raised (t ∷ ts) [] f = refl
  current_raised (t ∷ ts) (e ∷ es) f = go (eqb t s) refl (current_raised ts es f.1)
    where
      keeps : (b : Bool) → eqb t s ≡ false
          → cond b (t ∷ filter (other_than s) (current versions ts es)) (filter (other_than s) (current versions ts es))
          ≡ filter (other_than s) (cond b (t ∷ current versions ts es) (current versions ts es))
      keeps true q = rw q
      keeps false q = refl

      loses : (b : Bool) → eqb t s ≡ true
          → filter (other_than s) (current versions ts es) ≡ filter (other_than s) (cond b (t ∷ current versions ts es) (current versions ts es))
      loses true q = rw q
      loses false q = refl

      stale : eqb t s ≡ true → eqb e (get_or raised t 0) ≡ false
      stale q = rw (raised_at t q) (ne_eqb e (suc (get_or versions s 0)) (omega (arith, f.0, ap (λ k. get_or versions k 0) (eqb-true t s q))))

      go : (b : Bool) → eqb t s ≡ b → current raised ts es ≡ filter (other_than s) (current versions ts es)
          → current raised (t ∷ ts) (e ∷ es) ≡ filter (other_than s) (current versions (t ∷ ts) (e ∷ es))
      go true q ih = rw (stale q, and-false, ih) (loses (not (eqb t blank) && eqb e (get_or versions t 0)) q)
      go false q ih = rw (raised_other t q, ih) (keeps (not (eqb t blank) && eqb e (get_or versions t 0)) q)
