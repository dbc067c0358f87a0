-- The slots of a list of candidates, copied one word each. Assumes nothing.
use Prim.Native.Nat.{ℕ, ◌+◌, ◌-◌, ◌*◌, ◌/◌, ◌≤◌, ◌<◌}
use mathlib.Core.Path.{◌≡◌, refl, ap, sym, ◌∙◌}
use mathlib.Core.List.{List, [], ◌∷◌, ◌++◌}
use lib.ListN.{length, take, drop, get_or, set, length-set, length-drop}
use lib.Seq.{get_or-set_other, get_or-drop, take_at}
use native.Mathlib.Omega.{arith}
use Rattle.lists.specs.Lists.{put_front}
use Rattle.lists.proofs.Front as Front
use Rattle.lists.proofs.Unique.{keys_snoc}
use Rattle.candidates.specs.Candidates.{Candidate, ids}
use Rattle.candidates.specs.Inner.Words.{cand, cands, cands_of}
use Rattle.candidates.proofs.Scored.{ids_length}
use Rattle.candidates.proofs.Words.{cands_none, cands_length, front_snoc}

abbrev slot : Candidate → ℕ
slot c = c.id

-- ---- k slots are copied
pub copied_none : (w t : List ℕ) → t ≡ put_front (ids (cands w 0 0)) t
copied_none w t = rw (cands_none w 0 0 refl)

pub copied_more : (w t₀ t : List ℕ) {k id : ℕ} → k < length t₀ → id ≡ (cand w (2 * k)).id → t ≡ put_front (ids (cands w 0 k)) t₀ → set t k id ≡ put_front (ids (cands w 0 (k + 1))) t₀
copied_more w t₀ t {k} {id} h e f =
    let xs : List ℕ = ids (cands w 0 k) in
    let n : length xs ≡ k = ids_length (cands w 0 k) ∙ cands_length w 0 k in
    let next : ids (cands w 0 (k + 1)) ≡ xs ++ ((cand w (2 * k)).id ∷ []) = ap ids (front_snoc w k) ∙ keys_snoc slot (cands w 0 k) (cand w (2 * k)) in
    rw (f, e, next) (ap (λ (i : ℕ). set (put_front xs t₀) i (cand w (2 * k)).id) (sym n) ∙ Front.front_snoc xs (cand w (2 * k)).id t₀ (omega (arith, n)))

-- ---- k slots of the candidates from word `from` on are moved to the front
pub record Packing (from : ℕ) (w₀ w : List ℕ) (k : ℕ) : Type 0 where
  pub list : w ≡ put_front (ids (cands (drop from w₀) 0 k)) w₀
  pub size : length w ≡ length w₀
  pub same : (j : ℕ) → k ≤ j → get_or w j 0 ≡ get_or w₀ j 0

pub packing_none : (from : ℕ) (w : List ℕ) → Packing from w w 0
packing_none from w = record { list = copied_none (drop from w) w; size = refl; same = λ j h. refl }

pub packing_more : {from : ℕ} {w₀ w : List ℕ} {k : ℕ} → k < (length w₀ - from) / 2 → Packing from w₀ w k
    → Packing from w₀ (set w k (get_or w (from + 2 * k + 1) 0)) (k + 1)
packing_more {from} {w₀} {w} {k} h f =
    let id = get_or w (from + 2 * k + 1) 0 in
    let at : from + 2 * k + 1 ≡ from + (2 * k + 1) = omega arith in
    let e : id ≡ (cand (drop from w₀) (2 * k)).id = f.same (from + 2 * k + 1) (omega arith) ∙ (ap (λ (i : ℕ). get_or w₀ i 0) at ∙ sym (get_or-drop from w₀ (2 * k + 1) 0)) in
    record {
      list = copied_more (drop from w₀) w₀ w (omega arith) e f.list;
      size = length-set w k id ∙ f.size;
      same = λ j l. get_or-set_other w k j id 0 (λ (z : j ≡ k). absurd (omega arith)) ∙ f.same j (omega arith);
    }

-- all are moved
pub packing_done : {from : ℕ} {w₀ w : List ℕ} {k : ℕ} → k ≡ (length w₀ - from) / 2 → Packing from w₀ w k → w ≡ put_front (ids (cands_of (drop from w₀))) w₀
packing_done {from} {w₀} {w} {k} h f =
    let e : k ≡ length (drop from w₀) / 2 = simp (length-drop) (omega (arith, h)) in
    rw e at f.list

-- the slots that are laid out at the front
pub ids_front : (w t : List ℕ) → take (length w / 2) (put_front (ids (cands_of w)) t) ≡ ids (cands_of w)
ids_front w t = take_at (ids (cands_of w)) (drop (length (ids (cands_of w))) t) (length w / 2) (ids_length (cands_of w) ∙ cands_length w 0 (length w / 2))
