-- Links applied one after the other leave the same rows as one queue of targets for each source, in any store of rows where a written row is read back
-- and no other changes; so do the links of one source after those of the other. Assumes nothing.
use Prim.Native.Nat.{ℕ}
use mathlib.Core.Bool.{Bool, true, false, cond, not, ◌||◌, or-true, true≢false}
use mathlib.Core.Path.{◌≡◌, refl, ap, sym, ◌∙◌, fun_ext}
use mathlib.Core.List.{List, [], ◌∷◌, map}
use mathlib.Core.Logic.{◌⊎◌, inl, inr}
use borrow.Author.Tests.{eqb-true, eqb-false, eq-eqb, ne_eqb}
use lib.Dec.{eqb, ltb}
use Rattle.lists.specs.Lists.{All, filter, foldl, elem, insert_by, sort_by, distinct_by, sorted_set}
use Rattle.slots.specs.Ops.{Row}
use Rattle.slots.proofs.Writes.{Writes, sources, write_row, absorb}
use Rattle.lists.proofs.Unique.{Unique, eqb_flip, or_false_l, or_false_r}
use Rattle.repair.specs.Repair.{Link}
use Rattle.links.specs.Inner.Linking.{from}

-- each slot of a list with its row of f
abbrev pub rows : (ℕ → List ℕ) → List ℕ → List Row
rows f ss = map (λ s. record { source = s; targets = f s }) ss

sources_are : (f : ℕ → List ℕ) (ss : List ℕ) → sources (rows f ss) ≡ ss
sources_are f [] = refl
sources_are f (s ∷ ss) = ap (λ (l : List ℕ). s ∷ l) (sources_are f ss)

module _ {B : Type 0} (Ok : B → Type 0) (write : B → ℕ → List ℕ → B) (w : Writes Ok write) (f : ℕ → List ℕ) where
  abbrev pub all : B → List ℕ → B
  all b ss = foldl (write_row Ok write w) b (rows f ss)

  abbrev put : B → ℕ → B
  put b s = write b s (f s)

  put_ok : (b : B) (s : ℕ) → Ok b → Ok (put b s)
  put_ok b s k = w.ok b s (f s) k

  one_swap : (b : B) (s t : ℕ) → Ok b → put (put b s) t ≡ put (put b t) s
  one_swap b s t k = go (eqb s t) refl
    where
      go : (c : Bool) → eqb s t ≡ c → put (put b s) t ≡ put (put b t) s
      go true e = let z : s ≡ t = eqb-true s t e in rw z
      go false e = w.swap b s t (f s) (f t) k (eqb-false s t e)

  all_insert : (b : B) (s : ℕ) (l : List ℕ) → Ok b → all b (insert_by ltb s l) ≡ all b (s ∷ l)
  all_insert b s [] k = refl
  all_insert b s (y ∷ l) k = go (ltb y s) (all_insert (put b y) s l (put_ok b y k))
    where
      go : (c : Bool) → all (put b y) (insert_by ltb s l) ≡ all (put b y) (s ∷ l) → all b (cond c (y ∷ insert_by ltb s l) (s ∷ y ∷ l)) ≡ all b (s ∷ y ∷ l)
      go true r = r ∙ ap (λ (b : B). all b l) (one_swap b y s k)
      go false r = refl

  all_sort : (b : B) (l : List ℕ) → Ok b → all b (sort_by ltb l) ≡ all b l
  all_sort b [] k = refl
  all_sort b (x ∷ l) k = all_insert b x (sort_by ltb l) k ∙ all_sort (put b x) l (put_ok b x k)

  all_drop : (b : B) (x : ℕ) (l : List ℕ) → Ok b → all (put b x) (filter (λ y. not (eqb x y)) l) ≡ all (put b x) l
  all_drop b x [] k = refl
  all_drop b x (y ∷ l) k = go (eqb x y) refl (all_drop b x l k) (all_drop (put b y) x l (put_ok b y k))
    where
      others : List ℕ
      others = filter (λ y. not (eqb x y)) l

      go : (c : Bool) → eqb x y ≡ c → all (put b x) others ≡ all (put b x) l → all (put (put b y) x) others ≡ all (put (put b y) x) l
          → all (put b x) (cond (not c) (y ∷ others) others) ≡ all (put b x) (y ∷ l)
      go true e r q = let z : x ≡ y = eqb-true x y e in r ∙ ap (λ (b : B). all b l) (sym (rw (sym z) (w.same b x (f x) (f x) k)))
      go false e r q =
          let m : put (put b x) y ≡ put (put b y) x = w.swap b x y (f x) (f y) k (eqb-false x y e) in
          ap (λ (b : B). all b others) m ∙ q ∙ sym (ap (λ (b : B). all b l) m)

  all_distinct : (b : B) (l : List ℕ) → Ok b → all b (distinct_by (λ x. x) l) ≡ all b l
  all_distinct b [] k = refl
  all_distinct b (x ∷ l) k = all_drop b x (distinct_by (λ x. x) l) k ∙ all_distinct (put b x) l (put_ok b x k)

  -- neither the order nor a repetition counts
  pub all_set : (b : B) (l : List ℕ) → Ok b → all b (sorted_set l) ≡ all b l
  all_set b l k = all_distinct b (sort_by ltb l) k ∙ all_sort b l k

-- ---- links
abbrev pub link_sources : List Link → List ℕ
link_sources es = map (λ e. e.source) es

abbrev pub targets : ℕ → List Link → List ℕ
targets s es = map (λ e. e.target) (filter (λ e. eqb e.source s) es)

targets_in : (s : ℕ) (es : List Link) → (targets s es ≡ []) ⊎ (elem s (link_sources es) ≡ true)
targets_in s [] = inl refl
targets_in s (e ∷ es) = go (eqb e.source s) refl (targets_in s es)
  where
    go : (c : Bool) → eqb e.source s ≡ c → (targets s es ≡ []) ⊎ (elem s (link_sources es) ≡ true)
        → (map (λ e. e.target) (cond c (e ∷ filter (λ e. eqb e.source s) es) (filter (λ e. eqb e.source s) es)) ≡ []) ⊎ (elem s (link_sources (e ∷ es)) ≡ true)
    go true k r = inr (rw (eq-eqb s e.source (sym (eqb-true e.source s k))))
    go false k (inl z) = inl z
    go false k (inr i) = inr (rw i (or-true (eqb s e.source)))

-- those whose source is another one
abbrev others : ℕ → List Link → List Link
others s es = filter (λ e. not (eqb e.source s)) es

from_others : (s t : ℕ) → eqb t s ≡ false → (es : List Link) → from t (others s es) ≡ from t es
from_others s t n [] = refl
from_others s t n (e ∷ es) = go (eqb e.source s) refl (from_others s t n es)
  where
    go : (c : Bool) → eqb e.source s ≡ c → from t (others s es) ≡ from t es → from t (cond (not c) (e ∷ others s es) (others s es)) ≡ from t (e ∷ es)
    go true q i =
        let z : eqb e.source t ≡ false = ne_eqb e.source t (λ (y : e.source ≡ t). eqb-false t s n (sym y ∙ eqb-true e.source s q)) in
        rw z i
    go false q i = rw i

others_in : (s : ℕ) (ss : List ℕ) (es : List Link) → All (λ e. elem e.source (s ∷ ss) ≡ true) es → All (λ e. elem e.source ss ≡ true) (others s es)
others_in s ss [] o = tt
others_in s ss (e ∷ es) o = go (eqb e.source s) o.0 (others_in s ss es o.1)
  where
    go : (c : Bool) → c || elem e.source ss ≡ true → All (λ e. elem e.source ss ≡ true) (others s es) → All (λ e. elem e.source ss ≡ true) (cond (not c) (e ∷ others s es) (others s es))
    go true q i = i
    go false q i = (q, i)

-- A row grows by each target: what was written is read back, no other row changes, and neither does the way in which rows grow.
pub record Reads {B : Type 0} (Ok : B → Type 0) (write : B → ℕ → List ℕ → B) (read : B → ℕ → List ℕ) (grow : B → ℕ → List ℕ → ℕ → List ℕ) (P : ℕ → Type 0) : Type 0 where
  pub got : (b : B) (s : ℕ) (r : List ℕ) (t : ℕ) → Ok b → P s → read (write b s (grow b s r t)) s ≡ grow b s r t
  pub kept : (b : B) (s u : ℕ) (x : List ℕ) → Ok b → (s ≡ u → ⊥) → read (write b s x) u ≡ read b u
  pub stays : (b : B) (s : ℕ) (x : List ℕ) → grow (write b s x) ≡ grow b

module _ {B : Type 0} (Ok : B → Type 0) (write : B → ℕ → List ℕ → B) (w : Writes Ok write) (read : B → ℕ → List ℕ) (grow : B → ℕ → List ℕ → ℕ → List ℕ) (P : ℕ → Type 0)
    (r : Reads Ok write read grow P) where
  abbrev pub step : B → Link → B
  step b e = write b e.source (grow b e.source (read b e.source) e.target)

  abbrev pub final : B → List Link → ℕ → List ℕ
  final b es s = foldl (grow b s) (read b s) (targets s es)

  final_step : (b : B) (e : Link) (es : List Link) → Ok b → P e.source → (u : ℕ) → final (step b e) es u ≡ final b (e ∷ es) u
  final_step b e es k p u =
      ap (λ (g : ℕ → List ℕ → ℕ → List ℕ). foldl (g u) (read (step b e) u) (targets u es)) (r.stays b e.source _) ∙ go (eqb e.source u) refl
    where
      go : (c : Bool) → eqb e.source u ≡ c
          → foldl (grow b u) (read (step b e) u) (targets u es) ≡ foldl (grow b u) (read b u) (map (λ e. e.target) (cond c (e ∷ filter (λ e. eqb e.source u) es) (filter (λ e. eqb e.source u) es)))
      go true q =
          let z : e.source ≡ u = eqb-true e.source u q in
          ap (λ (l : List ℕ). foldl (grow b u) l (targets u es)) (rw (sym z) (r.got b e.source (read b e.source) e.target k p))
      go false q = ap (λ (l : List ℕ). foldl (grow b u) l (targets u es)) (r.kept b e.source u _ k (eqb-false e.source u q))

  final_one : (b : B) (e : Link) (es : List Link) → targets e.source es ≡ [] → grow b e.source (read b e.source) e.target ≡ final b (e ∷ es) e.source
  final_one b e es z = go (eqb e.source e.source) (eq-eqb e.source e.source refl)
    where
      go : (c : Bool) → c ≡ true → grow b e.source (read b e.source) e.target
          ≡ foldl (grow b e.source) (read b e.source) (map (λ e. e.target) (cond c (e ∷ filter (λ x. eqb x.source e.source) es) (filter (λ x. eqb x.source e.source) es)))
      go true k = ap (λ (ts : List ℕ). foldl (grow b e.source) (grow b e.source (read b e.source) e.target) ts) (sym z)
      go false k = absurd (true≢false (sym k))

  pub in_order : (b : B) (es : List Link) → Ok b → All (λ e. P e.source) es → foldl step b es ≡ all Ok write w (final b es) b (link_sources es)
  in_order b [] k o = refl
  in_order b (e ∷ es) k o =
      in_order (step b e) es (w.ok b e.source _ k) o.1
      ∙ ap (λ (f : ℕ → List ℕ). all Ok write w f (step b e) (link_sources es)) (fun_ext (final_step b e es k o.0))
      ∙ go (targets_in e.source es)
    where
      -- what a row held before it is written does not count
      any : (x : List ℕ) → elem e.source (link_sources es) ≡ true → all Ok write w (final b (e ∷ es)) (write b e.source x) (link_sources es) ≡ all Ok write w (final b (e ∷ es)) b (link_sources es)
      any x i = absorb Ok write w b e.source x (rows (final b (e ∷ es)) (link_sources es)) k (ap (elem e.source) (sources_are (final b (e ∷ es)) (link_sources es)) ∙ i)

      go : (targets e.source es ≡ []) ⊎ (elem e.source (link_sources es) ≡ true) → all Ok write w (final b (e ∷ es)) (step b e) (link_sources es) ≡ all Ok write w (final b (e ∷ es)) b (link_sources (e ∷ es))
      go (inl z) = ap (λ (l : List ℕ). all Ok write w (final b (e ∷ es)) (write b e.source l) (link_sources es)) (final_one b e es z)
      go (inr i) = any _ i ∙ sym (any (final b (e ∷ es) e.source) i)

  -- ---- links by their source
  abbrev row : B → Link → List ℕ
  row b e = grow b e.source (read b e.source) e.target

  row_kept : (b : B) (e f : Link) → Ok b → (e.source ≡ f.source → ⊥) → row (step b e) f ≡ row b f
  row_kept b e f k n =
      ap (λ (g : ℕ → List ℕ → ℕ → List ℕ). g f.source (read (step b e) f.source) f.target) (r.stays b e.source _)
      ∙ ap (λ (l : List ℕ). grow b f.source l f.target) (r.kept b e.source f.source _ k n)

  -- links of two sources go in either order
  step_swap : (b : B) (e f : Link) → Ok b → (e.source ≡ f.source → ⊥) → step (step b e) f ≡ step (step b f) e
  step_swap b e f k n =
      ap (λ (x : List ℕ). write (step b e) f.source x) (row_kept b e f k n)
      ∙ w.swap b e.source f.source (row b e) (row b f) k n
      ∙ sym (ap (λ (x : List ℕ). write (step b f) e.source x) (row_kept b f e k (λ z. n (sym z))))

  steps_ok : (b : B) (es : List Link) → Ok b → Ok (foldl step b es)
  steps_ok b [] k = k
  steps_ok b (e ∷ es) k = steps_ok (step b e) es (w.ok b e.source _ k)

  step_past : (s : ℕ) (e : Link) → eqb e.source s ≡ false → (es : List Link) (b : B) → Ok b → foldl step (step b e) (from s es) ≡ step (foldl step b (from s es)) e
  step_past s e n [] b k = refl
  step_past s e n (f ∷ es) b k = go (eqb f.source s) refl (step_past s e n es (step b f) (w.ok b f.source _ k)) (step_past s e n es b k)
    where
      go : (c : Bool) → eqb f.source s ≡ c → foldl step (step (step b f) e) (from s es) ≡ step (foldl step (step b f) (from s es)) e → foldl step (step b e) (from s es) ≡ step (foldl step b (from s es)) e
          → foldl step (step b e) (cond c (f ∷ from s es) (from s es)) ≡ step (foldl step b (cond c (f ∷ from s es) (from s es))) e
      go true q i j = ap (λ (c : B). foldl step c (from s es)) (step_swap b e f k (λ z. eqb-false e.source s n (z ∙ eqb-true f.source s q))) ∙ i
      go false q i j = j

  -- one source first
  first_source : (s : ℕ) (es : List Link) (b : B) → Ok b → foldl step (foldl step b (from s es)) (others s es) ≡ foldl step b es
  first_source s [] b k = refl
  first_source s (e ∷ es) b k = go (eqb e.source s) refl (first_source s es (step b e) (w.ok b e.source _ k))
    where
      go : (c : Bool) → eqb e.source s ≡ c → foldl step (foldl step (step b e) (from s es)) (others s es) ≡ foldl step (step b e) es
          → foldl step (foldl step b (cond c (e ∷ from s es) (from s es))) (cond (not c) (e ∷ others s es) (others s es)) ≡ foldl step (step b e) es
      go true q i = i
      go false q i = ap (λ (c : B). foldl step c (others s es)) (sym (step_past s e q es b k)) ∙ i

  abbrev by : List Link → B → ℕ → B
  by es b s = foldl step b (from s es)

  by_others : (s : ℕ) (es : List Link) (ss : List ℕ) → elem s ss ≡ false → (b : B) → foldl (by (others s es)) b ss ≡ foldl (by es) b ss
  by_others s es [] e b = refl
  by_others s es (t ∷ ss) e b =
      ap (λ (l : List Link). foldl (by (others s es)) (foldl step b l) ss) (from_others s t (eqb_flip s t (or_false_l (eqb s t) (elem s ss) e)) es)
      ∙ by_others s es ss (or_false_r (eqb s t) (elem s ss) e) (foldl step b (from t es))

  -- each source in turn
  pub in_turn : (ss : List ℕ) (es : List Link) (b : B) → Ok b → Unique ss → All (λ e. elem e.source ss ≡ true) es → foldl (by es) b ss ≡ foldl step b es
  in_turn [] [] b k u o = refl
  in_turn [] (e ∷ es) b k u o = absurd (true≢false (sym o.0))
  in_turn (s ∷ ss) es b k u o =
      sym (by_others s es ss u.0 (foldl step b (from s es)))
      ∙ in_turn ss (others s es) (foldl step b (from s es)) (steps_ok b (from s es) k) u.1 (others_in s ss es o)
      ∙ first_source s es b k
