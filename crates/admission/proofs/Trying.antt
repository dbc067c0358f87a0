-- Trial walks: one, and both for each landmark of a list. Assumes nothing.
use Prim.Native.Nat.{ℕ, ◌+◌, ◌*◌, ◌≤◌, ◌<◌}
use mathlib.Core.Bool.{Bool, true, false, not, ◌&&◌, cond}
use mathlib.Core.Path.{◌≡◌, refl, ap, ◌∙◌}
use mathlib.Core.List.{List, [], ◌∷◌, ◌++◌, append_assoc, append-nil}
use native.Mathlib.Omega.{arith}
use lib.ListN.{length, drop, get_or, set, length-append, length-set, drop_of_length-le, take}
use Rattle.std.proofs.lemmas.List.{drop_more}
use Rattle.lists.specs.Lists.{filter, elem, part, put_front}
use Rattle.lists.proofs.Front.{front_snoc}
use Rattle.lists.proofs.Parts.{fits_in}
use Rattle.vectors.specs.Vector.{Bytes}
use Rattle.candidates.specs.Candidates.{Candidate, ids}
use Rattle.candidates.specs.Inner.Words.{cands_of}
use Rattle.candidates.proofs.Parts.{cands_front}
use Rattle.slots.specs.Store.{Arrays}
use Rattle.walk.specs.Inner.Scratch.{near_but, Found}
use Rattle.admission.specs.Inner.Trials.{meets, lost_of, Walks, Tried}
use Rattle.admission.proofs.Pooling.{Counting, counting_done}

-- ---- one trial walk
module _ {a : Arrays} (y : Bytes a.dim (length a.marks) a.vectors) {entry beam : ℕ} {w : List ℕ} (f : Walks a entry beam w) {landmark : ℕ} (h : landmark < length a.marks) where
  pub walks_vector : landmark * a.dim + a.dim ≤ length a.vectors
  walks_vector = fits_in a.dim (length a.marks) landmark (length a.vectors) h y.long

  pub walks_few : {query w' : List ℕ} {near : Arrays → ℕ → List ℕ} {n : ℕ} → Found a query near entry beam w w' n → 2 * n ≤ length w'
  walks_few k = omega (arith, k.few, k.size, f.beam_most, f.room)

  pub walks_meets : (out : List ℕ) {query w' : List ℕ} {n : ℕ} {r : Bool} → query ≡ part a.dim landmark a.vectors → Found a query (near_but out) entry beam w w' n
      → r ≡ elem landmark (ids (cands_of (take (2 * n) w'))) → r ≡ meets a out beam entry landmark
  unfolding meets
  walks_meets out {w' = w'} {n} g k i = i ∙ ap (λ (cs : List Candidate). elem landmark (ids cs)) (cands_front w' n (walks_few k)) ∙ rw (k.list, g)

-- ---- both for each landmark
lost_cons : (before after : ℕ → Bool) (y : ℕ) (ys : List ℕ)
    → lost_of before after (y ∷ ys) ≡ cond (before y && not (after y)) (y ∷ lost_of before after ys) (lost_of before after ys)
lost_cons before after y ys = go (before y)
  where
    go : (b : Bool) → filter (λ l. not (after l)) (cond b (y ∷ filter before ys) (filter before ys)) ≡ cond (b && not (after y)) (y ∷ lost_of before after ys) (lost_of before after ys)
    go true = refl
    go false = refl

-- of those before place i, k are lost
pub record Losing (before after : ℕ → Bool) (l : List ℕ) (lost₀ lost : List ℕ) (k i : ℕ) : Type 0 where
  pub few : k ≤ i
  pub taken : List ℕ
  pub many : k ≡ length taken
  pub list : lost ≡ put_front taken lost₀
  pub goes : taken ++ lost_of before after (drop i l) ≡ lost_of before after l
  pub size : length lost ≡ length lost₀

module _ {before after : ℕ → Bool} {l : List ℕ} {lost₀ lost : List ℕ} {k i : ℕ} (f : Losing before after l lost₀ lost k i) where
  goes_on : i < length l → f.taken ++ cond (before (get_or l i 0) && not (after (get_or l i 0))) (get_or l i 0 ∷ lost_of before after (drop (i + 1) l)) (lost_of before after (drop (i + 1) l)) ≡ lost_of before after l
  goes_on j = rw (drop_more l i 0 j, lost_cons before after (get_or l i 0) (drop (i + 1) l)) at f.goes

  pub losing_take : length l ≤ length lost₀ → i < length l → {x y : Bool} → x ≡ before (get_or l i 0) → y ≡ after (get_or l i 0) → x ≡ true → y ≡ false
      → Losing before after l lost₀ (set lost k (get_or l i 0)) (k + 1) (i + 1)
  losing_take room j u v e g =
      let q : length f.taken < length lost₀ = omega (arith, f.many, f.few) in
      record {
        few = omega (arith, f.few);
        taken = f.taken ++ (get_or l i 0 ∷ []);
        many = omega (arith, f.many, length-append f.taken (get_or l i 0 ∷ []));
        list = rw (f.list, f.many) (front_snoc f.taken (get_or l i 0) lost₀ q);
        goes = rw append_assoc (rw (← u, e, ← v, g) at goes_on j);
        size = length-set lost k (get_or l i 0) ∙ f.size;
      }

  losing_skip : i < length l → (before (get_or l i 0) && not (after (get_or l i 0))) ≡ false → Losing before after l lost₀ lost k (i + 1)
  losing_skip j e = record { few = omega (arith, f.few); taken = f.taken; many = f.many; list = f.list; goes = rw e at goes_on j; size = f.size }

  pub losing_before : i < length l → {x : Bool} → x ≡ before (get_or l i 0) → x ≡ false → Losing before after l lost₀ lost k (i + 1)
  losing_before j u e = losing_skip j (rw (← u, e))

  pub losing_after : i < length l → {x y : Bool} → x ≡ before (get_or l i 0) → y ≡ after (get_or l i 0) → x ≡ true → y ≡ true → Losing before after l lost₀ lost k (i + 1)
  losing_after j u v e g = losing_skip j (rw (← u, e, ← v, g))

  pub tried : {b r : ℕ} → Counting before l b i → Counting after l r i → length l ≤ i → Tried before after l lost₀ lost b r k
  tried p q h =
      let e : f.taken ≡ lost_of before after l = rw append-nil at (rw (drop_of_length-le l h) at f.goes) in
      record { baseline_count = counting_done p h; residual_count = counting_done q h; lost_count = f.many ∙ ap length e; list = rw (← e) f.list }
