-- The landmark pool: what enabling writes is `landmark_pool`; those of a pool that are live, and those that stay. Assumes nothing.
use Prim.Native.Nat.{ℕ, zero, suc, ◌+◌, ◌-◌, ◌*◌, max, ◌≤◌, ◌<◌}
use mathlib.Core.Bool.{Bool, true, false, cond}
use mathlib.Core.Path.{◌≡◌, refl, ap, sym, ◌∙◌}
use mathlib.Core.List.{List, [], ◌∷◌, ◌++◌, append_assoc, append-nil}
use native.Mathlib.Omega.{arith}
use native.Mathlib.Nat.{mul-le-mul, mul-suc}
use lib.ListN.{length, take, drop, get_or, set, length-append, length-set, drop_of_length-le}
use lib.Seq.{take-nil}
use Rattle.std.specs.Prelude.{fold, count_by}
use Rattle.std.specs.Int.{from_bool}
use Rattle.std.proofs.lemmas.List.{drop_more}
use Rattle.lists.specs.Lists.{filter, put_front}
use Rattle.lists.proofs.Filtered.{count_cons}
use Rattle.lists.proofs.Front.{front_snoc}
use Rattle.vectors.specs.Space.{Measure, slot_distance, space}
use Rattle.slots.specs.Scratch.{size_answer}
use Rattle.slots.specs.View.{emptied}
use Rattle.slots.specs.Store.{Store, store_view}
use Rattle.landmarks.specs.Inner.Samples.{remains}
use Rattle.landmarks.specs.Inner.Choices.{landmarks_by, Fronted}
use Rattle.landmarks.proofs.Selecting.{landmarks_few}
use Rattle.guard.specs.Guard.{config, landmark_pool}
use Rattle.admission.specs.Inner.Pools.{guard_words, Poolable, Pooled}
use Rattle.admission.proofs.Seen.{selects_same}

-- the guard's share of the size answer is enough
pub share_enough : (capacity : ℕ) → capacity ≤ 65536 → guard_words capacity ≤ size_answer capacity
unfolding size_answer
share_enough capacity h = omega arith

-- ---- the pool that enabling writes
module _ {measure : Measure} {dim : ℕ} {vectors marks : List ℕ} {entry count multiplier sample : ℕ} {pool w : List ℕ} (f : Poolable measure dim vectors marks entry count multiplier sample pool w) where
  pub wanted_most : count * multiplier ≤ 1024
  wanted_most = mul-le-mul f.count_most f.multiplier_most

  some_wanted : max count (count * multiplier) ≡ count * multiplier
  some_wanted = go multiplier f.multiplier_some
    where
      go : (m : ℕ) → 0 < m → max count (count * m) ≡ count * m
      go zero h = absurd (omega arith)
      go (suc m) h = omega (arith, mul-suc count m)

  pool_is : (b : Store) (beam : ℕ) → b.arrays.measure ≡ measure → b.arrays.dim ≡ dim → b.arrays.vectors ≡ vectors → b.arrays.marks ≡ marks → b.capacity ≡ length marks
      → landmarks_by (slot_distance (space measure dim vectors)) (remains marks []) (length marks) entry (count * multiplier) sample [] ≡ landmark_pool (store_view b) (config count multiplier sample beam) entry
  unfolding landmark_pool emptied
  pool_is b beam m x y z u =
      rw (some_wanted, ← m, ← x, ← y, ← z)
      (ap (λ (k : ℕ → List ℕ → List ℕ). k (count * multiplier) []) (selects_same b (u ∙ ap length (sym z)) [] entry sample))

  pub pooled : {wanted : ℕ} {pool' : List ℕ} {r : ℕ} → wanted ≡ count * multiplier
      → Fronted (landmarks_by (slot_distance (space measure dim vectors)) (remains marks []) (length marks) entry wanted sample []) pool pool' r
      → Pooled measure dim vectors marks entry count multiplier sample pool pool' r
  pooled {wanted} {pool'} {r} e g =
      let k : Fronted (landmarks_by (slot_distance (space measure dim vectors)) (remains marks []) (length marks) entry (count * multiplier) sample []) pool pool' r = rw e at g in
      record {
        does = λ b beam m x y z u. rw (← pool_is b beam m x y z u) k;
        few = omega (arith, k.count, landmarks_few (slot_distance (space measure dim vectors)) (remains marks []) (length marks) entry (count * multiplier) sample [], wanted_most);
      }

-- ---- a test among the elements of a list: c of those before place i pass it
pub record Counting (p : ℕ → Bool) (l : List ℕ) (c i : ℕ) : Type 0 where
  pub few : c ≤ i
  pub goes : c + length (filter p (drop i l)) ≡ length (filter p l)

-- one more where a test holds
pub one_of : (t : Bool) → from_bool t ≡ cond t 1 0
one_of true = refl
one_of false = refl

pub one_few : (t : Bool) {c i : ℕ} → c ≤ i → c + from_bool t ≤ i + 1
one_few true h = omega arith
one_few false h = omega arith

module _ {p : ℕ → Bool} {l : List ℕ} {c i : ℕ} (f : Counting p l c i) where
  pub counting_next : {t : Bool} {k : ℕ} → i < length l → t ≡ p (get_or l i 0) → k ≡ from_bool t → Counting p l (c + k) (i + 1)
  counting_next {t} {k} h e g =
      let a : length (filter p (drop i l)) ≡ from_bool t + length (filter p (drop (i + 1) l)) = rw (drop_more l i 0 h, one_of t, e) (count_cons p (get_or l i 0) (drop (i + 1) l)) in
      rw g (record { few = one_few t f.few; goes = omega (arith, f.goes, a) })

  pub counting_done : length l ≤ i → c ≡ length (filter p l)
  counting_done h = omega (arith, rw (drop_of_length-le l h) at f.goes)

-- the library's count of the elements with p, which begins at n
counted : (p : ℕ → Bool) (n : ℕ) (l : List ℕ) → fold (λ a x. a + cond (p x) 1 0) n l ≡ n + length (filter p l)
counted p n [] = omega arith
counted p n (x ∷ l) = omega (arith, counted p (n + cond (p x) 1 0) l, count_cons p x l)

pub count_filtered : (p : ℕ → Bool) (l : List ℕ) → count_by p l ≡ length (filter p l)
count_filtered p l = omega (arith, counted p 0 l)

-- ---- of a pool those with p, `count` at most: i are looked at, m of them kept
pub record Keeping (p : ℕ → Bool) (pool : List ℕ) (count : ℕ) (l₀ l : List ℕ) (m i : ℕ) : Type 0 where
  pub most : m ≤ count
  pub taken : List ℕ
  pub many : m ≡ length taken
  pub list : l ≡ put_front taken l₀
  pub goes : taken ++ take (count - m) (filter p (drop i pool)) ≡ take count (filter p pool)
  pub size : length l ≡ length l₀

pub keeping_none : (p : ℕ → Bool) (pool : List ℕ) (count : ℕ) (l : List ℕ) → Keeping p pool count l l 0 0
keeping_none p pool count l =
    let e : count - 0 ≡ count = omega arith in
    record { most = omega arith; taken = []; many = refl; list = refl; goes = rw e; size = refl }

module _ {p : ℕ → Bool} {pool : List ℕ} {count : ℕ} {l₀ l : List ℕ} {m i : ℕ} (f : Keeping p pool count l₀ l m i) where
  pub keeping_take : {t : Bool} → count ≤ length l₀ → i < length pool → (m ≡ count → ⊥) → t ≡ p (get_or pool i 0) → t ≡ true
      → Keeping p pool count l₀ (set l m (get_or pool i 0)) (m + 1) (i + 1)
  keeping_take room k some v g =
      let id = get_or pool i 0 in
      let z : count - m ≡ suc (count - (m + 1)) = omega (arith, f.most, some) in
      let o : f.taken ++ (id ∷ take (count - (m + 1)) (filter p (drop (i + 1) pool))) ≡ take count (filter p pool) = rw (drop_more pool i 0 k, sym v ∙ g, z) at f.goes in
      let j : length f.taken < length l₀ = omega (arith, f.many, f.most, some) in
      record {
        most = omega (arith, f.most, some);
        taken = f.taken ++ (id ∷ []);
        many = omega (arith, f.many, length-append f.taken (id ∷ []));
        list = rw (f.list, f.many) (front_snoc f.taken id l₀ j);
        goes = rw append_assoc o;
        size = length-set l m id ∙ f.size;
      }

  pub keeping_skip : {t : Bool} → i < length pool → t ≡ p (get_or pool i 0) → t ≡ false → Keeping p pool count l₀ l m (i + 1)
  keeping_skip k v g = record { most = f.most; taken = f.taken; many = f.many; list = f.list; goes = rw (drop_more pool i 0 k, sym v ∙ g) at f.goes; size = f.size }

  done : f.taken ≡ take count (filter p pool) → Fronted (take count (filter p pool)) l₀ l m
  done e = rw (← e) (record { list = f.list; count = f.many })

  pub keeping_done : length pool ≤ i → Fronted (take count (filter p pool)) l₀ l m
  keeping_done h = done (rw (take-nil (count - m), append-nil) at (rw (drop_of_length-le pool h) at f.goes))
