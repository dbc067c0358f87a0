-- How many slots the live ones of some ids are: each is counted where it stands first. Assumes nothing.
use Prim.Native.Nat.{ℕ, ◌+◌, ◌≤◌, ◌<◌}
use mathlib.Core.Bool.{Bool, true, false, not, ◌&&◌, ◌||◌, cond, or-false}
use mathlib.Core.Path.{◌≡◌, refl, ap, ◌∙◌}
use mathlib.Core.List.{List, [], ◌∷◌, ◌++◌, map, map-id, append-nil}
use native.Mathlib.Numerals.{add-one}
use native.Mathlib.Omega.{arith}
use borrow.Author.Tests.{eqb-true}
use lib.Dec.{eqb}
use lib.ListN.{length, take, drop, get_or, drop_of_length-le}
use lib.Seq.{take-suc, drop-cons}
use Rattle.std.specs.Int.{from_bool}
use Rattle.lists.specs.Lists.{filter, elem, distinct_by, sorted_set}
use Rattle.lists.proofs.Alike.{self, sorted_many}
use Rattle.lists.proofs.Filter.{filter_every}
use Rattle.lists.proofs.Filtered.{filter_snoc}
use Rattle.lists.proofs.Firsts.{filter_same, fresh, fresh_first, fresh_again}
use Rattle.lists.proofs.Members.{elem_filter}
use Rattle.lists.proofs.Unique.{elem_snoc}
use Rattle.admission.proofs.Pooling.{one_of, one_few}

-- ---- of the ids before place i, those with p are c different ones
abbrev met : (ℕ → Bool) → List ℕ → ℕ → List ℕ
met p ids i = filter p (take i ids)

pub record Naming (p : ℕ → Bool) (ids : List ℕ) (c i : ℕ) : Type 0 where
  pub few : c ≤ i
  pub goes : c + length (fresh self (met p ids i) (distinct_by self (filter p (drop i ids)))) ≡ length (distinct_by self (filter p ids))

pub naming_none : (p : ℕ → Bool) (ids : List ℕ) → Naming p ids 0 0
naming_none p ids = record { few = omega arith; goes = rw (filter_every (distinct_by self (filter p ids))) (omega arith) }

met_more : (p : ℕ → Bool) (ids : List ℕ) (i : ℕ) → i < length ids → met p ids (i + 1) ≡ met p ids i ++ cond (p (get_or ids i 0)) (get_or ids i 0 ∷ []) []
met_more p ids i h = rw (add-one, take-suc ids i 0 h) (filter_snoc p (take i ids) (get_or ids i 0))

-- an element that was met once more changes nothing
fresh_met : (ks : List ℕ) (y : ℕ) (l : List ℕ) → elem y ks ≡ true → fresh self (ks ++ (y ∷ [])) l ≡ fresh self ks l
fresh_met ks y l e = filter_same _ _ (λ z. ap not (same z)) l
  where
    one : (z : ℕ) (b : Bool) → eqb z y ≡ b → (elem z ks || b) ≡ elem z ks
    one z true i = rw (eqb-true z y i, e)
    one z false i = or-false (elem z ks)

    same : (z : ℕ) → elem z (map self (ks ++ (y ∷ []))) ≡ elem z (map self ks)
    same z = rw (map-id (ks ++ (y ∷ [])), map-id ks, elem_snoc z ks y) (one z (eqb z y) refl)

module _ {p : ℕ → Bool} {ids : List ℕ} {c i : ℕ} (f : Naming p ids c i) where
  naming_by : (h : i < length ids) (a b : Bool) → p (get_or ids i 0) ≡ a → elem (get_or ids i 0) (take i ids) ≡ b
      → c + cond (a && not b) 1 0 + length (fresh self (met p ids (i + 1)) (distinct_by self (filter p (drop (i + 1) ids)))) ≡ length (distinct_by self (filter p ids))
  naming_by h false b e g =
      let k : met p ids (i + 1) ≡ met p ids i = met_more p ids i h ∙ rw (e, append-nil) in
      let z : drop i ids ≡ get_or ids i 0 ∷ drop (i + 1) ids = rw (add-one, drop-cons ids i 0 h) in
      rw k (omega (arith, rw (z, e) at f.goes))
  naming_by h true b e g = go b g
    where
      k : met p ids (i + 1) ≡ met p ids i ++ (get_or ids i 0 ∷ [])
      k = met_more p ids i h ∙ rw e

      z : drop i ids ≡ get_or ids i 0 ∷ drop (i + 1) ids
      z = rw (add-one, drop-cons ids i 0 h)

      among : (v : Bool) → elem (get_or ids i 0) (take i ids) ≡ v → elem (get_or ids i 0) (map self (met p ids i)) ≡ v
      among v q = ap (elem (get_or ids i 0)) (map-id (met p ids i)) ∙ elem_filter p (get_or ids i 0) e (take i ids) ∙ q

      was : c + length (fresh self (met p ids i) (distinct_by self (get_or ids i 0 ∷ filter p (drop (i + 1) ids)))) ≡ length (distinct_by self (filter p ids))
      was = rw (z, e) at f.goes

      go : (v : Bool) → elem (get_or ids i 0) (take i ids) ≡ v
          → c + cond (not v) 1 0 + length (fresh self (met p ids (i + 1)) (distinct_by self (filter p (drop (i + 1) ids)))) ≡ length (distinct_by self (filter p ids))
      go true q =
          rw (k, fresh_met (met p ids i) (get_or ids i 0) (distinct_by self (filter p (drop (i + 1) ids))) (elem_filter p (get_or ids i 0) e (take i ids) ∙ q))
          (omega (arith, was, ap length (fresh_again self (met p ids i) (get_or ids i 0) (filter p (drop (i + 1) ids)) (among true q))))
      go false q =
          rw k (omega (arith, was, ap length (fresh_first self (met p ids i) (get_or ids i 0) (filter p (drop (i + 1) ids)) (among false q))))

  -- the id at place i is tested against those before it
  pub naming_next : {t : Bool} {k : ℕ} → i < length ids → t ≡ (p (get_or ids i 0) && not (elem (get_or ids i 0) (take i ids))) → k ≡ from_bool t → Naming p ids (c + k) (i + 1)
  naming_next {t} h e g =
      rw g (record {
        few = one_few t f.few;
        goes = rw (one_of t, e) (naming_by h (p (get_or ids i 0)) (elem (get_or ids i 0) (take i ids)) refl refl);
      })

  pub naming_done : length ids ≤ i → c ≡ length (sorted_set (filter p ids))
  naming_done h =
      let z : drop i ids ≡ [] = drop_of_length-le ids h in
      omega (arith, rw z at f.goes, sorted_many (filter p ids))
