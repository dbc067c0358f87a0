-- Rows that are worked out and written at once leave the same index as `chunk_rows`, all worked out before the first is written. Assumes nothing.
use Prim.Native.Nat.{ℕ, zero, suc, ◌≤◌, ◌<◌}
use mathlib.Core.Bool.{Bool, true, false, cond, not, or-true, true≢false}
use mathlib.Core.Path.{◌≡◌, refl, ap, sym, ◌∙◌, fun_ext}
use mathlib.Core.List.{List, [], ◌∷◌, ◌++◌, map}
use native.Mathlib.Omega.{arith}
use lib.Dec.{eqb}
use Rattle.lists.specs.Lists.{filter, foldl, range, elem, sorted_set, concat_map}
use Rattle.lists.proofs.Ranges.{foldl_append}
use Rattle.lists.proofs.Sweep.{elem_set, set_sweep}
use Rattle.slots.specs.Ops.{Row, write_rows}
use Rattle.slots.specs.View.{View}
use Rattle.slots.specs.Store.{Store, store_view, store_ops}
use Rattle.slots.proofs.Writes.{Writes, sources, absorb, Whole, store_writes}
use Rattle.candidates.specs.Candidates.{Candidate, ids}
use Rattle.prune.specs.Prune.{prune}
use Rattle.row.specs.Row.{live_scored}
use Rattle.row.proofs.Kept.{scored_kept, prune_kept}
use Rattle.insert.specs.Insert.{Plan, incoming, outgoing_row, target_row}

-- ---- any store of rows
module _ {B : Type 0} (Ok : B → Type 0) (write : B → ℕ → List ℕ → B) (w : Writes Ok write) where
  abbrev row : B → Row → B
  row b r = write b r.source r.targets

  -- rows that are written again later may be left out
  left_out : (b : B) (rs ts : List Row) → Ok b → foldl row b (filter (λ r. not (elem r.source (sources ts))) rs ++ ts) ≡ foldl row b (rs ++ ts)
  left_out b [] ts k = refl
  left_out b (r ∷ rs) ts k = go (elem r.source (sources ts)) refl (left_out b rs ts k) (left_out (row b r) rs ts (w.ok b r.source r.targets k))
    where
      others : List Row
      others = filter (λ r. not (elem r.source (sources ts))) rs

      in_both : (s : ℕ) (rs : List Row) → elem s (sources ts) ≡ true → elem s (sources (rs ++ ts)) ≡ true
      in_both s [] e = e
      in_both s (r ∷ rs) e = rw (in_both s rs e) (or-true (eqb s r.source))

      go : (c : Bool) → elem r.source (sources ts) ≡ c → foldl row b (others ++ ts) ≡ foldl row b (rs ++ ts) → foldl row (row b r) (others ++ ts) ≡ foldl row (row b r) (rs ++ ts)
          → foldl row b (cond (not c) (r ∷ others) others ++ ts) ≡ foldl row b (r ∷ rs ++ ts)
      go true e i j = i ∙ sym (absorb Ok write w b r.source r.targets (rs ++ ts) k (in_both r.source rs e))
      go false e i j = j

  -- a row worked out from the store as it stands, and written at once
  module _ (p : ℕ → Bool) (f : B → ℕ → List ℕ) (kept : (b : B) (s t : ℕ) (x : List ℕ) → Ok b → (s ≡ t → ⊥) → f (write b s x) t ≡ f b t) where
    abbrev at_once : B → ℕ → B
    at_once b s = cond (p s) (write b s (f b s)) b

    sweep : (g : ℕ → Row) → (b : B) (a n : ℕ) → Ok b → ((s : ℕ) → a ≤ s → p s ≡ true → g s ≡ record { source = s; targets = f b s })
        → foldl at_once b (range a n) ≡ foldl row b (map g (filter p (range a n)))
    sweep g b a zero k h = refl
    sweep g b a (suc n) k h =
        go (p a) refl
        (sweep g (write b a (f b a)) (suc a) n (w.ok b a (f b a) k)
        (λ s l q. h s (omega arith) q ∙ ap (λ (x : List ℕ). record { source = s; targets = x }) (sym (kept b a s (f b a) k (λ z. omega arith)))))
        (sweep g b (suc a) n k (λ s l q. h s (omega arith) q))
      where
        go : (c : Bool) → p a ≡ c
            → foldl at_once (write b a (f b a)) (range (suc a) n) ≡ foldl row (write b a (f b a)) (map g (filter p (range (suc a) n)))
            → foldl at_once b (range (suc a) n) ≡ foldl row b (map g (filter p (range (suc a) n)))
            → foldl at_once (cond c (write b a (f b a)) b) (range (suc a) n) ≡ foldl row b (map g (cond c (a ∷ filter p (range (suc a) n)) (filter p (range (suc a) n))))
        go true e i j = rw (h a (omega arith) e) i
        go false e i j = j

-- ---- the rows of a chunk
-- the slots that plans name
abbrev pub named : List Plan → List ℕ
named plans = concat_map (λ p. ids p.outgoing) plans

-- a row whose slot no plan names
abbrev pub free_row : List Plan → Row → Bool
free_row plans r = not (elem r.source (named plans))

abbrev pub write_row : Store → Row → Store
write_row b r = store_ops.write b r.source r.targets

-- the row of s as a target, from the index as it stands, if a plan names it
abbrev pub renew : List Plan → Store → ℕ → Store
renew plans b s = cond (elem s (named plans)) (store_ops.write b s (target_row (store_view b) plans s).targets) b

module _ (plans : List Plan) where
  sources_are : (v : View) (l : List ℕ) → map (λ r. r.source) (map (target_row v plans) l) ≡ l
  unfolding target_row
  sources_are v [] = refl
  sources_are v (s ∷ l) = ap (λ (k : List ℕ). s ∷ k) (sources_are v l)

  row_is : (v : View) (s : ℕ) → target_row v plans s ≡ record { source = s; targets = (target_row v plans s).targets }
  unfolding target_row
  row_is v s = refl

  -- a row written does not change another slot's row as a target
  target_kept : (b : Store) (s t : ℕ) (x : List ℕ) → Whole b → (s ≡ t → ⊥)
      → (target_row (store_view (store_ops.write b s x)) plans t).targets ≡ (target_row (store_view b) plans t).targets
  unfolding target_row
  target_kept b s t x k n =
      ap ids (prune_kept b s t x (live_scored (store_view (store_ops.write b s x)) t ++ incoming plans t)
      ∙ ap (λ (l : List Candidate). prune (store_view b) t (l ++ incoming plans t)) (scored_kept b s t x k n))

  rows_whole : (b : Store) (rs : List Row) → Whole b → Whole (foldl write_row b rs)
  rows_whole b [] k = k
  rows_whole b (r ∷ rs) k = rows_whole (write_row b r) rs (store_writes.ok b r.source r.targets k)

  -- nor do the rows of slots that no plan names
  named_kept : (b : Store) (rs : List Row) (t : ℕ) → Whole b → elem t (named plans) ≡ true
      → (target_row (store_view (foldl write_row b (filter (free_row plans) rs))) plans t).targets ≡ (target_row (store_view b) plans t).targets
  named_kept b [] t k e = refl
  named_kept b (r ∷ rs) t k e = go (elem r.source (named plans)) refl (named_kept b rs t k e) (named_kept (write_row b r) rs t (store_writes.ok b r.source r.targets k) e)
    where
      new : Store → List ℕ
      new b = (target_row (store_view b) plans t).targets

      others : List Row
      others = filter (free_row plans) rs

      go : (c : Bool) → elem r.source (named plans) ≡ c → new (foldl write_row b others) ≡ new b → new (foldl write_row (write_row b r) others) ≡ new (write_row b r)
          → new (foldl write_row b (cond (not c) (r ∷ others) others)) ≡ new b
      go true q i j = i
      go false q i j =
          j ∙ target_kept b r.source t r.targets k
          (λ (z : r.source ≡ t). true≢false (sym e ∙ ap (λ (s : ℕ). elem s (named plans)) (sym z) ∙ q))

  -- the rows of new slots that no plan names, then in one sweep those that a plan names, each from the index as it stands
  pub rows_at_once : (b : Store) (c : ℕ) → Whole b → ((s : ℕ) → elem s (named plans) ≡ true → s < c)
      → foldl (renew plans) (foldl write_row b (filter (free_row plans) (map outgoing_row plans))) (range 0 c)
      ≡ write_rows store_ops b (map outgoing_row plans ++ map (target_row (store_view b) plans) (sorted_set (named plans)))
  rows_at_once b c k h =
      let g = target_row (store_view b) plans in
      let ts = map g (sorted_set (named plans)) in
      let us = filter (free_row plans) (map outgoing_row plans) in
      let b₂ = foldl write_row b us in
      let e : ◌≡◌ {A = Row → Bool} (λ r. not (elem r.source (map (λ r. r.source) ts))) (free_row plans) =
      fun_ext (λ r. ap not (ap (elem r.source) (sources_are (store_view b) (sorted_set (named plans))) ∙ elem_set r.source (named plans))) in
      sweep Whole store_ops.write store_writes (λ s. elem s (named plans)) (λ b s. (target_row (store_view b) plans s).targets) target_kept g b₂ 0 c (rows_whole b us k)
      (λ s l q. row_is (store_view b) s ∙ ap (λ (x : List ℕ). record { source = s; targets = x }) (sym (named_kept b (map outgoing_row plans) s k q)))
      ∙ ap (λ (l : List ℕ). foldl write_row b₂ (map g l)) (sym (set_sweep c (named plans) h))
      ∙ sym (foldl_append write_row b us ts)
      ∙ ap (λ (p : Row → Bool). foldl write_row b (filter p (map outgoing_row plans) ++ ts)) (sym e)
      ∙ left_out Whole store_ops.write store_writes b (map outgoing_row plans) ts k
