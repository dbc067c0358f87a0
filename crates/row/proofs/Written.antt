-- A selection from candidates is written as a row. Assumes nothing.
use Prim.Native.Nat.{ℕ, ◌*◌, ◌/◌, ◌≤◌, ◌<◌}
use mathlib.Core.Path.{◌≡◌, refl, ap, ◌∙◌}
use mathlib.Core.List.{List, ◌++◌}
use native.Mathlib.Omega.{arith}
use Rattle.std.proofs.lemmas.List.{take-append-le}
use lib.ListN.{length, take, drop}
use Rattle.std.proofs.lemmas.Slice.{drop-append-drop}
use lib.Ieee.{Float}
use Rattle.vectors.specs.Space.{slot_distance, space}
use Rattle.candidates.specs.Candidates.{Candidate, ids}
use Rattle.candidates.specs.Inner.Words.{cands, cands_of}
use Rattle.candidates.proofs.Parts.{part_length, cands_front}
use Rattle.slots.specs.Store.{Arrays, is_valid, store_view, store_ops, arrays}
use Rattle.prune.specs.Prune.{prune}
use Rattle.prune.specs.Inner.Selecting.{Pruned}
use Rattle.prune.proofs.Pruned.{pruned_view}
use Rattle.row.specs.Row.{Together, index_of, WrotePruned}
use Rattle.slots.specs.Inner.Writing.{Wrote}
use Rattle.row.proofs.Kept.{together_written}

-- the words w of a row's room in `out`, of which the first 2 * r are written again
module _ (degree : ℕ) (out w : List ℕ) (l : 2 * degree ≤ length out) (m : length w ≡ length (take (2 * degree) out)) {r : ℕ} (f : r ≤ length (take (2 * degree) out) / 2) where
  room : length (take (2 * degree) out) ≡ 2 * degree
  room = part_length out 0 (2 * degree) (omega arith)

  few : 2 * r ≤ length w
  few = omega arith

  chosen : take (2 * r) (w ++ drop (2 * degree) out) ≡ take (2 * r) w
  chosen = take-append-le (2 * r) w (drop (2 * degree) out) few

  -- the words behind stay
  pub behind_stays : (v : List ℕ) → length v ≡ length (take (2 * r) (w ++ drop (2 * degree) out))
      → drop (2 * degree) (v ++ drop (2 * r) (w ++ drop (2 * degree) out)) ≡ drop (2 * degree) out
  behind_stays v e =
      let n : length v ≡ 2 * r = e ∙ ap length chosen ∙ part_length w 0 (2 * r) (omega (arith, few)) in
      drop-append-drop (2 * r) (w ++ drop (2 * degree) out) v (2 * degree) (omega (arith, few, m, room)) n
      ∙ drop-append-drop (2 * degree) out w (2 * degree) (omega arith) (m ∙ room)

module _ {a : Arrays} {s : ℕ} {cs : List Candidate} (h : s < length a.marks) {alpha : Float} {r : ℕ} (out w : List ℕ) (l : 2 * a.degree ≤ length out)
    (m : length w ≡ length (take (2 * a.degree) out))
    (f : Pruned (length (take (2 * a.degree) out) / 2) alpha (is_valid a.marks) (slot_distance (space a.measure a.dim a.vectors)) s cs r w) where
  pub wrote_pruned : {targets edges : List ℕ} → Wrote a.degree a.targets a.edges a.versions s (ids (cands_of (take (2 * r) (w ++ drop (2 * a.degree) out)))) targets edges
      → WrotePruned alpha a s cs (arrays a.measure a.dim a.degree a.vectors targets edges a.versions a.marks)
  wrote_pruned g =
      let z : length (take (2 * a.degree) out) / 2 ≡ a.degree = omega (arith, room a.degree out w l m f.few) in
      let p : Pruned a.degree alpha (is_valid a.marks) (slot_distance (space a.measure a.dim a.vectors)) s cs r w = rw z at f in
      let front : ids (cands_of (take (2 * r) (w ++ drop (2 * a.degree) out))) ≡ ids (cands w 0 r) =
      ap (λ (v : List ℕ). ids (cands_of v)) (chosen a.degree out w l m f.few) ∙ ap ids (cands_front w r (few a.degree out w l m f.few)) in
      record {
        row = λ entry.
            (g.does a.measure a.dim a.vectors a.marks).does (index_of alpha entry a) refl h
            ∙ ap (store_ops.write (index_of alpha entry a) s) (front ∙ ap ids (p.list ∙ pruned_view (index_of alpha entry a) s cs));
      }

pub pruned_together : {alpha : Float} {a : Arrays} {s : ℕ} {cs : List Candidate} {a' : Arrays} → Together a → WrotePruned alpha a s cs a' → Together a'
pruned_together {alpha} {a} {s} {cs} {a'} o f = together_written alpha a a' s (ids (prune (store_view (index_of alpha 0 a)) s cs)) o (f.row 0)
