-- Lists: the functions on lists that the other crates' definitions are written with. Assumes nothing.
use Rattle.std.specs.Prelude.{ℕ, zero, suc, ◌+◌, ◌*◌, Bool, true, false, not, ◌&&◌, ◌||◌, cond, List, [], ◌∷◌, ◌++◌, ◌⊎◌, ◌≡◌, length, take, drop, eqb, ltb}

module _ {A : Type 0} where
  abbrev pub filter : (A → Bool) → List A → List A
  filter p [] = []
  filter p (x ∷ xs) = let rest = filter p xs in cond (p x) (x ∷ rest) rest

  -- whether each element passes the test
  abbrev pub all : (A → Bool) → List A → Bool
  all p [] = true
  all p (x ∷ xs) = p x && all p xs

  -- the last element; d of an empty list
  abbrev pub last : A → List A → A
  last d [] = d
  last d (x ∷ xs) = last x xs

  -- all but the last
  abbrev pub init : List A → List A
  init [] = []
  init (x ∷ []) = []
  init (x ∷ y ∷ ys) = x ∷ init (y ∷ ys)

  -- x goes before the first element that does not come before it
  abbrev pub insert_by : (A → A → Bool) → A → List A → List A
  insert_by before x [] = x ∷ []
  insert_by before x (y ∷ ys) = let rest = insert_by before x ys in cond (before y x) (y ∷ rest) (x ∷ y ∷ ys)

  -- a stable sort: of two elements neither of which comes before the other, the first stays first
  abbrev pub sort_by : (A → A → Bool) → List A → List A
  sort_by before [] = []
  sort_by before (x ∷ xs) = insert_by before x (sort_by before xs)

  -- of the elements with one key, only the first stays
  abbrev pub distinct_by : (A → ℕ) → List A → List A
  distinct_by key [] = []
  distinct_by key (x ∷ xs) = x ∷ filter (λ y. not (eqb (key x) (key y))) (distinct_by key xs)

  -- of a and the elements of a list, the first with the least measure
  abbrev pub least_from : (A → ℕ) → A → List A → A
  least_from measure a [] = a
  least_from measure a (x ∷ xs) = least_from measure (cond (ltb (measure x) (measure a)) x a) xs

  -- the least measure of a list; 0 of an empty one
  abbrev pub least_of : (A → ℕ) → List A → ℕ
  least_of measure [] = 0
  least_of measure (x ∷ xs) = measure (least_from measure x xs)

  -- parts of n elements, the last one perhaps shorter; k bounds their number (`chunks_whole`: it never cuts)
  abbrev pub chunks : ℕ → ℕ → List A → List (List A)
  chunks zero n xs = []
  chunks (suc k) n [] = []
  chunks (suc k) n (x ∷ xs) = take n (x ∷ xs) ∷ chunks k n (drop n (x ∷ xs))

  -- a list with its first elements replaced
  abbrev pub put_front : List A → List A → List A
  put_front xs l = xs ++ drop (length xs) l

module _ {A B : Type 0} where
  abbrev pub foldl : (B → A → B) → B → List A → B
  foldl f b [] = b
  foldl f b (x ∷ xs) = foldl f (f b x) xs

  abbrev pub concat_map : (A → List B) → List A → List B
  concat_map f [] = []
  concat_map f (x ∷ xs) = f x ++ concat_map f xs

  abbrev pub zip : List A → List B → List (A × B)
  zip [] ys = []
  zip (x ∷ xs) [] = []
  zip (x ∷ xs) (y ∷ ys) = (x, y) ∷ zip xs ys

abbrev pub elem : ℕ → List ℕ → Bool
elem a [] = false
elem a (x ∷ xs) = eqb a x || elem a xs

-- how often a stands in a list
abbrev pub times : ℕ → List ℕ → ℕ
times a [] = 0
times a (x ∷ xs) = cond (eqb a x) 1 0 + times a xs

abbrev pub sum : List ℕ → ℕ
sum [] = 0
sum (x ∷ xs) = x + sum xs

-- a, a + 1, ..: n numbers
abbrev pub range : ℕ → ℕ → List ℕ
range a zero = []
range a (suc n) = a ∷ range (suc a) n

-- rising, each once
abbrev pub sorted_set : List ℕ → List ℕ
sorted_set xs = distinct_by (λ x. x) (sort_by ltb xs)

-- a list that holds d elements for each slot: those of the slot s, and the list with them replaced
abbrev pub part : ℕ → ℕ → List ℕ → List ℕ
part d s l = take d (drop (s * d) l)

abbrev pub put_part : ℕ → ℕ → List ℕ → List ℕ → List ℕ
put_part d s xs l = take (s * d) l ++ (xs ++ drop (s * d + d) l)

-- ---- what holds of a list

module _ {A : Type 0} where
  -- of each element
  abbrev pub All : (A → Type 0) → List A → Type 0
  All P [] = Unit {0}
  All P (x ∷ xs) = P x × All P xs

  -- x is one of the elements
  abbrev pub In : A → List A → Type 0
  In x [] = ⊥
  In x (y ∷ ys) = (x ≡ y) ⊎ In x ys

  -- of each element and every later one
  abbrev pub Pairwise : (A → A → Type 0) → List A → Type 0
  Pairwise R [] = Unit {0}
  Pairwise R (x ∷ xs) = All (R x) xs × Pairwise R xs

-- each element comes before every later one
abbrev pub Ordered : {A : Type 0} → (A → A → Bool) → List A → Type 0
Ordered before xs = Pairwise (λ x y. before x y ≡ true) xs
