-- Links applied to the stored rows: a row is read with distances, takes a target, is pruned and written; link follows link. Assumes nothing.
use Prim.Native.Nat.{ℕ, ◌+◌, ◌*◌, ◌≤◌, ◌<◌}
use mathlib.Core.Bool.{Bool, true, false, cond}
use mathlib.Core.Path.{◌≡◌, refl, ap, sym, ◌∙◌, subst}
use mathlib.Core.List.{List, [], ◌∷◌, ◌++◌, map-append, append_assoc, append-nil}
use native.Mathlib.Omega.{arith}
use lib.Dec.{eqb}
use lib.Ieee.{Float}
use lib.ListN.{length, take, get_or}
use Rattle.lists.specs.Lists.{elem, filter, foldl, concat_map}
use Rattle.lists.proofs.Ranges.{foldl_append}
use Rattle.vectors.specs.Space.{Measure, Measured, slot_distance, space}
use Rattle.candidates.specs.Candidates.{Candidate, scored, ids}
use Rattle.candidates.specs.Inner.Words.{pair, cand, cands, cands_of, put, Small, Outside}
use Rattle.candidates.proofs.Parts.{cands_front}
use Rattle.lists.proofs.All.{all_append}
use Rattle.candidates.proofs.Words.{front_snoc, front_push}
use Rattle.candidates.proofs.Scored.{ids_scored, scored_append}
use Rattle.slots.specs.View.{live_neighbors}
use Rattle.slots.specs.Store.{Arrays, Store, vector_of, store_view, store_ops, write_neighbors}
use Rattle.slots.proofs.Writes.{Whole, after_write, store_writes}
use Rattle.prune.specs.Prune.{prune}
use Rattle.row.specs.Row.{Together, index_of, LiveScored, WrotePruned}
use Rattle.row.specs.Lent.{held}
use Rattle.row.specs.declared.pruner.Pruner.{Pruner}
use Rattle.row.proofs.Kept.{together_shaped, pruner_none, pruner_then}
use Rattle.repair.specs.Repair.{Link, insert_and_prune}
use Rattle.repair.proofs.Sources.{both_ways}
use Rattle.std.proofs.lemmas.List.{take_more}
use Rattle.links.specs.declared.span.Pair.{Pair}
use Rattle.links.specs.Inner.Linking.{between, apply_link, link, from, from_each, by_source, pairs_of, Joined, Linked, Applied, Made}

-- ---- a target is added
-- to the n candidates that were looked through
found : (t : ℕ) (w : List ℕ) (n : ℕ) {b : Bool} → 2 * n + 2 ≤ length w → b ≡ elem t (ids (cands_of (take (2 * n) w))) → b ≡ elem t (ids (cands w 0 n))
found t w n l k = k ∙ ap (λ (cs : List Candidate). elem t (ids cs)) (cands_front w n (omega arith))

module _ {measure : Measure} {dim : ℕ} {vectors : List ℕ} {s t d : ℕ} (m : Measured (between measure dim vectors s t) d) (w : List ℕ) (n : ℕ) {b : Bool} (l : 2 * n + 2 ≤ length w) (k : b ≡ elem t (ids (cands_of (take (2 * n) w)))) where
  pub joined_old : b ≡ true → Joined measure dim vectors s t w n n w
  joined_old h =
      record { list = rw (sym (found t w n l k) ∙ h); few = omega arith; near = omega (arith, m.equals, m.bound) }

  pub joined_new : b ≡ false → Joined measure dim vectors s t w n (n + 1) (put w (2 * n) d t)
  joined_new h =
      record {
        list = rw (sym (found t w n l k) ∙ h, front_push w d t n (omega arith), m.equals);
        few = omega arith;
        near = omega (arith, m.equals, m.bound);
      }

-- ---- a link is applied
abbrev with_target : ℕ → List ℕ → List ℕ
with_target t row = cond (elem t row) row (row ++ (t ∷ []))

scored_with : (d : ℕ → ℕ) (t : ℕ) (l : List ℕ) → cond (elem t (ids (scored d l))) (scored d l) (scored d l ++ (pair (d t) t ∷ [])) ≡ scored d (with_target t l)
scored_with d t l = rw (ids_scored d l) (go (elem t l))
  where
    go : (b : Bool) → cond b (scored d l) (scored d l ++ (pair (d t) t ∷ [])) ≡ scored d (cond b l (l ++ (t ∷ [])))
    go true = refl
    go false = sym (scored_append d l (t ∷ []))

-- the distances of a view
pub view_between : (alpha : Float) (entry : ℕ) (a : Arrays) → between a.measure a.dim a.vectors ≡ slot_distance (store_view (index_of alpha entry a)).space
unfolding slot_distance space store_view vector_of
view_between alpha entry a = refl

module _ {a : Arrays} {s n : ℕ} {w : List ℕ} (f : LiveScored a s n w) {t m : ℕ} {w' : List ℕ} (j : Joined a.measure a.dim a.vectors s t w n m w') (l : 2 * a.degree + 2 ≤ length w') where
  joined_list : (alpha : Float) (entry : ℕ) → let v = store_view (index_of alpha entry a) in cands w' 0 m ≡ scored (slot_distance v.space s) (with_target t (live_neighbors v s))
  joined_list alpha entry =
      let v = store_view (index_of alpha entry a) in
      j.list
      ∙ ap (λ (d : ℕ → ℕ → ℕ). cond (elem t (ids (cands w 0 n))) (cands w 0 n) (cands w 0 n ++ (pair (d s t) t ∷ []))) (view_between alpha entry a)
      ∙ rw (f.list alpha entry) (scored_with (slot_distance v.space s) t (live_neighbors v s))

  pub joined_inside : 2 * m ≤ length w'
  joined_inside = omega (arith, j.few, f.few)

  joined_front : cands_of (take (2 * m) w') ≡ cands w' 0 m
  joined_front = cands_front w' m joined_inside

  pub joined_small : Small (cands_of (take (2 * m) w'))
  joined_small = rw (joined_front, j.list) (go (elem t (ids (cands w 0 n))))
    where
      go : (b : Bool) → Small (cond b (cands w 0 n) (cands w 0 n ++ (pair (between a.measure a.dim a.vectors s t) t ∷ [])))
      go true = f.small
      go false = all_append (λ c. c.dist ≤ 16777216) (cands w 0 n) (pair (between a.measure a.dim a.vectors s t) t ∷ []) f.small (j.near, tt)

  pub linked_one : {alpha : Float} {a' : Arrays} → WrotePruned alpha a s (cands_of (take (2 * m) w')) a' → (entry : ℕ) → index_of alpha entry a' ≡ foldl apply_link (index_of alpha entry a) (link s t ∷ [])
  unfolding apply_link insert_and_prune
  linked_one {alpha} g entry =
      let b = index_of alpha entry a in
      g.row entry ∙ ap (λ (cs : List Candidate). store_ops.write b s (ids (prune (store_view b) s cs))) (joined_front ∙ joined_list alpha entry)

-- ---- link after link
-- what links leave as it is: the sizes of all slices
record Framed (a : Arrays) (b : Store) : Type 0 where
  whole : Whole b
  capacity : b.capacity ≡ length a.marks
  dim : b.arrays.dim ≡ a.dim
  degree : b.arrays.degree ≡ a.degree

framed_link : (a : Arrays) (b : Store) (l : Link) → Framed a b → Framed a (apply_link b l)
unfolding apply_link
framed_link a b l f =
    let v = store_view b in
    let x = insert_and_prune v l.source (live_neighbors v l.source) l.target in
    record {
      whole = store_writes.ok b l.source x f.whole;
      capacity = after_write (λ d. d.capacity ≡ length a.marks) b l.source x (λ h. f.capacity) f.capacity;
      dim = after_write (λ d. d.arrays.dim ≡ a.dim) b l.source x (λ h. unfold write_neighbors in f.dim) f.dim;
      degree = after_write (λ d. d.arrays.degree ≡ a.degree) b l.source x (λ h. unfold write_neighbors in f.degree) f.degree;
    }

framed_links : (a : Arrays) (b : Store) (ls : List Link) → Framed a b → Framed a (foldl apply_link b ls)
framed_links a b [] f = f
framed_links a b (l ∷ ls) f = framed_links a (apply_link b l) ls (framed_link a b l f)

-- slices that belong together still do
pub applied_together : {alpha : Float} {a a' : Arrays} {ls : List Link} {w : List ℕ} {at k : ℕ} {w' : List ℕ} → Together a → Applied alpha a ls a' w at k w' → Together a'
applied_together {alpha} {a} {a'} {ls} o f =
    let b = index_of alpha 0 a in
    let start : Framed a b = record { whole = together_shaped o; capacity = refl; dim = refl; degree = refl } in
    let g : Framed a (index_of alpha 0 a') = subst (Framed a) (sym (f.does 0)) (framed_links a b ls start) in
    record {
      bytes = record { long = g.whole.vectors_long; small = rw g.dim o.bytes.small };
      rows =
          record {
            targets_long = g.whole.targets_long;
            edges_long = g.whole.edges_long;
            versions_long = g.whole.versions_long;
            few = rw g.capacity o.rows.few;
          };
      degree_most = rw g.degree o.degree_most;
    }

pub linked_none : {table : ℕ} (p : Pruner table) → Linked p [] p
linked_none p = record { does = λ entry. refl; same = pruner_none p }

module _ {table : ℕ} {p p₁ : Pruner table} {ls : List Link} (f : Linked p ls p₁) where
  pub linked_then : {ks : List Link} {p₂ : Pruner table} → Linked p₁ ks p₂ → Linked p (ls ++ ks) p₂
  linked_then {ks} {p₂} g =
      record {
        does = λ entry. (rw f.same.alpha at g.does entry)
            ∙ ap (λ (b : Store). foldl apply_link b ks) (f.does entry)
            ∙ sym (foldl_append apply_link (index_of p.alpha entry (held p)) ls ks);
        same = pruner_then f.same g.same;
      }

  pub linked_marks : length p₁.marks.now ≡ length p.marks.now
  linked_marks = rw f.same.marks

  -- beside words of which k from `at` on were lent
  pub linked_made : {w w' : List ℕ} {at : ℕ} {words : ℕ → ℕ} → length w' ≡ length w → Outside at (words p.rows.now.degree) w w' → Made p ls w at words p₁ w'
  linked_made e o = record { applied = record { does = f.does; size = e; same = o }; same = f.same }

-- ---- links of one source
module _ (s : ℕ) where
  pub from_append : (ks ls : List Link) → from s (ks ++ ls) ≡ from s ks ++ from s ls
  from_append [] ls = refl
  from_append (k ∷ ks) ls = go (eqb k.source s) (from_append ks ls)
    where
      go : (b : Bool) → from s (ks ++ ls) ≡ from s ks ++ from s ls → cond b (k ∷ from s (ks ++ ls)) (from s (ks ++ ls)) ≡ cond b (k ∷ from s ks) (from s ks) ++ from s ls
      go true r = ap (λ (l : List Link). k ∷ l) r
      go false r = r
      -- a link from x

-- lists in a row, and one more
pub concat_append : {A B : Type 0} (f : A → List B) (xs ys : List A) → concat_map f (xs ++ ys) ≡ concat_map f xs ++ concat_map f ys
concat_append f [] ys = refl
concat_append f (x ∷ xs) ys = rw (concat_append f xs ys) (sym (append_assoc (f x) (concat_map f xs) (concat_map f ys)))

pub concat_snoc : {A B : Type 0} (f : A → List B) (xs : List A) (x : A) → concat_map f (xs ++ (x ∷ [])) ≡ concat_map f xs ++ f x
concat_snoc f xs x = concat_append f xs (x ∷ []) ∙ rw (append-nil (f x))

pub pairs_more : (s : ℕ) (ps : List Pair) (i : ℕ) (d : Pair) → i < length ps
    → from s (pairs_of (take (i + 1) ps)) ≡ from s (pairs_of (take i ps)) ++ from s (both_ways (get_or ps i d).slot (get_or ps i d).parent)
pairs_more s ps i d h =
    ap (λ (l : List Pair). from s (pairs_of l)) (take_more ps i d h)
    ∙ ap (from s) (concat_snoc (λ p. both_ways p.slot p.parent) (take i ps) (get_or ps i d))
    ∙ from_append s (pairs_of (take i ps)) _

sources_more : (ls : List Link) (w : List ℕ) (i : ℕ) → from_each ls (ids (cands w 0 (i + 1))) ≡ from_each ls (ids (cands w 0 i)) ++ from (cand w (2 * i)).id ls
sources_more ls w i =
    ap (λ (c : List Candidate). from_each ls (ids c)) (front_snoc w i)
    ∙ ap (from_each ls) (map-append (λ c. c.id) (cands w 0 i) (cand w (2 * i) ∷ []))
    ∙ concat_snoc (λ s. from s ls) (ids (cands w 0 i)) (cand w (2 * i)).id

-- one source after the other
pub by_each : (b : Store) (ls : List Link) (ss : List ℕ) → foldl apply_link b (from_each ls ss) ≡ foldl (by_source ls) b ss
by_each b ls [] = refl
by_each b ls (s ∷ ss) = foldl_append apply_link b (from s ls) (from_each ls ss) ∙ by_each (by_source ls b s) ls ss

-- ---- link after link, as the functions leave them
pub from_both : (s x p : ℕ) → {table : ℕ} {l l₁ : Pruner table} → Linked l (from s (link x p ∷ []) ++ from s (link p x ∷ [])) l₁ → Linked l (from s (both_ways x p)) l₁
from_both s x p f = rw (from_append s (link x p ∷ []) (link p x ∷ [])) f

pub source_then : (s : ℕ) (ps : List Pair) (i : ℕ) (d : Pair) → i < length ps → {table : ℕ} {l l₁ l₂ : Pruner table}
    → Linked l (from s (pairs_of (take i ps))) l₁ → Linked l₁ (from s (both_ways (get_or ps i d).slot (get_or ps i d).parent)) l₂
    → Linked l (from s (pairs_of (take (i + 1) ps))) l₂
source_then s ps i d h f g = rw (pairs_more s ps i d h) (linked_then f g)

pub each_none : (ls : List Link) {table : ℕ} (l : Pruner table) (w : List ℕ) → Linked l (from_each ls (ids (cands w 0 0))) l
unfolding cands
each_none ls l w = linked_none l

pub each_then : (ls : List Link) (w : List ℕ) (i : ℕ) {s : ℕ} {table : ℕ} {l l₁ l₂ : Pruner table} → s ≡ (cand w (2 * i)).id
    → Linked l (from_each ls (ids (cands w 0 i))) l₁ → Linked l₁ (filter (λ l. eqb l.source s) ls) l₂
    → Linked l (from_each ls (ids (cands w 0 (i + 1)))) l₂
each_then ls w i e f g = rw (sources_more ls w i, ← e) (linked_then f g)
