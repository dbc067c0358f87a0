-- The loops over lists of candidates: the nearest, distances to a slot, distances lowered. Assumes nothing.
use Prim.Native.Nat.{ℕ, ◌+◌, ◌*◌, ◌/◌, ◌≤◌, ◌<◌, min}
use mathlib.Core.Bool.{cond}
use mathlib.Core.Path.{◌≡◌, refl, ap, sym, ◌∙◌}
use mathlib.Core.List.{List, [], ◌∷◌, ◌++◌, map, map-append}
use native.Mathlib.Omega.{arith}
use borrow.Author.Tests.{lt-ltb, le-ltb}
use lib.Dec.{ltb}
use lib.ListN.{length, get_or}
use Rattle.lists.specs.Lists.{least_from}
use Rattle.vectors.specs.Space.{Measured}
use Rattle.candidates.specs.Candidates.{Candidate, scored, ids}
use Rattle.candidates.specs.Inner.Words.{pair, cand, cands, put}
use Rattle.candidates.proofs.Words.{cands_length, front_snoc, front_push, front_each, front_at, put_length, put_outside}
use Rattle.candidates.proofs.Scored.{scored_append}
use Rattle.links.specs.Inner.Planning.{Stored, first_least, Nearest, lower_to}

-- ---- the nearest
least_from_snoc : {A : Type 0} (f : A → ℕ) (a : A) (xs : List A) (x : A) → let l = least_from f a xs in least_from f a (xs ++ (x ∷ [])) ≡ cond (ltb (f x) (f l)) x l
least_from_snoc f a [] x = refl
least_from_snoc f a (y ∷ xs) x = least_from_snoc f (cond (ltb (f y) (f a)) y a) xs x

first_snoc : (cs : List Candidate) (x : Candidate) → 0 < length cs → first_least (cs ++ (x ∷ [])) ≡ cond (ltb x.dist (first_least cs).dist) x (first_least cs)
first_snoc [] x h = absurd (omega arith)
first_snoc (c ∷ cs) x h = least_from_snoc (λ c. c.dist) c cs x

pub nearest_first : (w : List ℕ) → Nearest (cands w 0 1) 0
unfolding cands
nearest_first w = record { within = omega arith; least = refl }

module _ (w : List ℕ) (i : ℕ) {best : ℕ} (f : Nearest (cands w 0 i) best) {d e : ℕ} (p : d ≡ (cand w (2 * i)).dist) (q : e ≡ (cand w (2 * best)).dist) where
  inside : best < i
  inside = omega (arith, f.within, cands_length w 0 i)

  first_is : first_least (cands w 0 i) ≡ cand w (2 * best)
  first_is = sym f.least ∙ front_at w i best inside

  turn : first_least (cands w 0 (i + 1)) ≡ cond (ltb d e) (cand w (2 * i)) (cand w (2 * best))
  turn =
      ap first_least (front_snoc w i)
      ∙ first_snoc (cands w 0 i) (cand w (2 * i)) (omega (arith, f.within))
      ∙ rw (first_is, p, q)

  pub nearest_take : d < e → Nearest (cands w 0 (i + 1)) i
  nearest_take l = record { within = omega (arith, cands_length w 0 (i + 1)); least = front_at w (i + 1) i (omega arith) ∙ sym (turn ∙ rw (lt-ltb d e l)) }

  pub nearest_keep : e ≤ d → Nearest (cands w 0 (i + 1)) best
  nearest_keep l = record { within = omega (arith, inside, cands_length w 0 (i + 1)); least = front_at w (i + 1) best (omega (arith, inside)) ∙ sym (turn ∙ rw (le-ltb d e l)) }

-- ---- distances to a slot
-- what the distance asks
pub stored_ready : {dim : ℕ} {vectors : List ℕ} {y : ℕ} (w : List ℕ) (n : ℕ) → Stored dim vectors y (cands w 0 n) → (k : ℕ) → k < n → {x : ℕ} → x ≡ (cand w (2 * k)).id
    → (x * dim + dim ≤ length vectors) × (y * dim + dim ≤ length vectors) × (dim ≤ 256)
stored_ready {dim} {vectors} w n s k h e = (rw e (front_each (λ c. c.id * dim + dim ≤ length vectors) w n s.stored k h), s.own, s.short)

pub scored_none : (f : ℕ → ℕ) (w to : List ℕ) → cands to 0 0 ≡ scored f (ids (cands w 0 0))
unfolding cands
scored_none f w to = refl

pub scored_more : (f : ℕ → ℕ) (w to : List ℕ) (k : ℕ) {x r : ℕ} → cands to 0 k ≡ scored f (ids (cands w 0 k)) → 2 * k + 1 < length to → x ≡ (cand w (2 * k)).id → Measured (f x) r
    → cands (put to (2 * k) r x) 0 (k + 1) ≡ scored f (ids (cands w 0 (k + 1)))
scored_more f w to k {x} {r} g h e m =
    front_push to r x k h
    ∙ rw (g, m.equals, e, front_snoc w k, map-append (λ c. c.id) (cands w 0 k) (cand w (2 * k) ∷ []))
    (sym (scored_append f (ids (cands w 0 k)) ((cand w (2 * k)).id ∷ [])))

-- ---- distances lowered: the first k are
pub record Lowering (f : ℕ → ℕ) (w₀ w : List ℕ) (k : ℕ) : Type 0 where
  pub list : cands w 0 k ≡ map (lower_to f) (cands w₀ 0 k)
  pub size : length w ≡ length w₀
  pub same : (j : ℕ) → 2 * k ≤ j → get_or w j 0 ≡ get_or w₀ j 0

pub lowering_none : (f : ℕ → ℕ) (w : List ℕ) → Lowering f w w 0
unfolding cands
lowering_none f w = record { list = refl; size = refl; same = λ j h. refl }

module _ {f : ℕ → ℕ} {w₀ w : List ℕ} {k : ℕ} (g : Lowering f w₀ w k) where
  still : cand w (2 * k) ≡ cand w₀ (2 * k)
  still = rw (g.same (2 * k) (omega arith), g.same (2 * k + 1) (omega arith))

  pub lowering_id : {x : ℕ} → x ≡ (cand w (2 * k)).id → x ≡ (cand w₀ (2 * k)).id
  lowering_id e = e ∙ ap (λ (c : Candidate). c.id) still

  pub lowering_more : k < length w₀ / 2 → {x e d r : ℕ} → x ≡ (cand w (2 * k)).id → e ≡ (cand w (2 * k)).dist → Measured (f x) d → r ≡ min e d
      → Lowering f w₀ (put w (2 * k) r x) (k + 1)
  lowering_more l {x} {e} {d} {r} p q m j =
      let u : x ≡ (cand w₀ (2 * k)).id = lowering_id p in
      let v : e ≡ (cand w₀ (2 * k)).dist = q ∙ ap (λ (c : Candidate). c.dist) still in
      let t : pair r x ≡ lower_to f (cand w₀ (2 * k)) = rw (j, m.equals, v, u) in
      record {
        list = front_push w r x k (omega (arith, g.size)) ∙ rw (g.list, t, front_snoc w₀ k, map-append (lower_to f) (cands w₀ 0 k) (cand w₀ (2 * k) ∷ []));
        size = put_length w (2 * k) r x ∙ g.size;
        same = λ i h. put_outside w (2 * k) r x i (λ _. omega arith) ∙ g.same i (omega arith);
      }
