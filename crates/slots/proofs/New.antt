-- The stored index and the plain one agree when they are made. Assumes nothing.
use Rattle.std.proofs.Common.{◌≡◌, ℕ, zero, suc, ◌+◌, ◌-◌, ◌*◌, ◌<◌, ◌≤◌, Bool, true, false, cond, not, ◌&&◌, eqb, ltb, List, [], ◌∷◌, ◌++◌, length, get_or, take, drop, replicate, sym, refl, ap, ◌∙◌, add-mul, arith, length-append, length-drop, length-take}
use lib.ListN.{length-replicate}
use lib.Dec.{leb-suc-suc, leb-zero, leb-suc-zero}
use Rattle.lists.specs.Lists.{filter, part}
use Rattle.vectors.specs.Space.{Measure}
use Rattle.slots.specs.Sizes.{Sizes, limits, sizes_ok, alpha_ok}
use Rattle.slots.specs.Store.{Store, blank, is_valid, current, vector_of, refs_of, store_view, new_arrays}
use Rattle.slots.specs.Plain.{other_than, new_plain}
use Rattle.slots.proofs.Current.{fresh_zeros}
use Rattle.slots.proofs.Agree.{Sound, Agree}

-- ---- zeros

zero_at : (n i : ℕ) → ◌≡◌ {A = ℕ} (get_or (replicate n 0) i 0) 0
zero_at zero i = refl
zero_at (suc n) zero = refl
zero_at (suc n) (suc i) = zero_at n i

abbrev Zeros : List ℕ → Type 0
Zeros [] = Unit {0}
Zeros (x ∷ xs) = (x ≡ 0) × Zeros xs

zeros : (n : ℕ) → Zeros (replicate n 0)
zeros zero = tt
zeros (suc n) = (refl, zeros n)

zeros_take : (n : ℕ) (xs : List ℕ) → Zeros xs → Zeros (take n xs)
zeros_take zero xs z = tt
zeros_take (suc n) [] z = tt
zeros_take (suc n) (x ∷ xs) z = (z.0, zeros_take n xs z.1)

zeros_drop : (n : ℕ) (xs : List ℕ) → Zeros xs → Zeros (drop n xs)
zeros_drop zero xs z = z
zeros_drop (suc n) [] z = tt
zeros_drop (suc n) (x ∷ xs) z = zeros_drop n xs z.1

-- where all versions are 0, every reference but a blank one is current
current_zeros : (n : ℕ) (ts es : List ℕ) → length ts ≡ length es → Zeros es → current (replicate n 0) ts es ≡ filter (other_than blank) ts
unfolding current
current_zeros n [] es l z = refl
current_zeros n (t ∷ ts) [] l z = absurd (let k : suc (length ts) ≡ 0 = l in omega arith)
current_zeros n (t ∷ ts) (e ∷ es) l z = go (eqb t blank) (current_zeros n ts es (omega (arith, l)) z.1)
  where
    go : (q : Bool) → current (replicate n 0) ts es ≡ filter (other_than blank) ts
        → cond (not q && eqb e (get_or (replicate n 0) t 0)) (t ∷ current (replicate n 0) ts es) (current (replicate n 0) ts es)
        ≡ cond (not q) (t ∷ filter (other_than blank) ts) (filter (other_than blank) ts)
    go true ih = ih
    go false ih = rw (zero_at n t, z.0) (ap (λ (r : List ℕ). t ∷ r) ih)

-- ---- marks and lengths

given_live : (given free s : ℕ) → is_valid (replicate given 1 ++ replicate free 0) s ≡ ltb s given
unfolding is_valid
given_live zero free s = rw (zero_at free s, leb-suc-zero s)
given_live (suc given) free zero = sym (leb-suc-suc 0 given ∙ leb-zero given)
given_live (suc given) free (suc s) = given_live given free s ∙ sym (leb-suc-suc (suc s) given)

filled_up : (given capacity d n : ℕ) → given ≤ capacity → n ≡ given * d → n + (capacity - given) * d ≡ capacity * d
filled_up given capacity d n h e =
    rw e (sym (add-mul given (capacity - given) d) ∙ ap (λ k. k * d) (let z : given + (capacity - given) ≡ capacity = omega arith in z))

-- ---- the new index

-- what an accepted making says
pub record Accepted (z : Sizes) (given : ℕ) (vectors rows : List ℕ) (entry : ℕ) : Type 0 where
  pub sizes_right : sizes_ok limits z ≡ true
  pub alpha_right : alpha_ok z.alpha ≡ true
  pub entry_inside : entry < z.capacity
  pub vectors_long : length vectors ≡ given * z.dim
  pub rows_long : length rows ≡ given * z.degree
  pub room : given ≤ z.capacity

module _ (z : Sizes) (measure : Measure) (given : ℕ) (vectors rows : List ℕ) (entry : ℕ) (ok : Accepted z given vectors rows entry) where
  abbrev new_store : Store
  new_store = record { arrays = new_arrays z measure given vectors rows; capacity = z.capacity; alpha = z.alpha; entry = entry }

  sound_new : Sound (λ s. 0) new_store
  unfolding new_arrays store_view
  sound_new = record {
    sizes_right = ok.sizes_right;
    alpha_right = ok.alpha_right;
    entry_inside = ok.entry_inside;
    shaped = record {
      vectors_long = simp (length-append, length-replicate) (filled_up given z.capacity z.dim (length vectors) ok.room ok.vectors_long);
      targets_long = simp (length-append, length-replicate) (filled_up given z.capacity z.degree (length rows) ok.room ok.rows_long);
      edges_long = length-replicate (z.capacity * z.degree) 0;
      versions_long = length-replicate z.capacity 0;
      marks_long = simp (length-append, length-replicate) (omega (arith, ok.room));
    };
    fresh = fresh_zeros (replicate z.capacity 0) (rows ++ replicate ((z.capacity - given) * z.degree) blank) (z.capacity * z.degree);
    worn = λ s h. zero_at z.capacity s;
  }

  pub agree_new : Agree (λ s. 0) new_store (new_plain z measure given vectors rows entry)
  unfolding new_arrays new_plain store_view vector_of refs_of
  agree_new =
      let free = z.capacity - given in
      let ts : List ℕ = rows ++ replicate (free * z.degree) blank in
      let es : List ℕ = replicate (z.capacity * z.degree) 0 in
      let l : length ts ≡ length es = sound_new.shaped.targets_long ∙ sym sound_new.shaped.edges_long in
      record {
        sound = sound_new;
        same = λ i. record {
          sizes = z;
          entry = entry;
          live = λ s. given_live given free s i;
          space = record { measure = measure; vector = λ s. part z.dim s (vectors ++ replicate (free * z.dim) 0) };
          refs = λ s. current_zeros z.capacity (part z.degree s ts) (part z.degree s es) (simp (length-take, length-drop, l))
              (zeros_take z.degree _ (zeros_drop (s * z.degree) es (zeros (z.capacity * z.degree)))) i;
        };
      }
