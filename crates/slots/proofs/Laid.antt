-- A front that is copied, one by one; and then one value. Assumes nothing.
use Rattle.std.proofs.Common.{◌≡◌, ℕ, ◌+◌, ◌-◌, ◌<◌, ◌≤◌, List, [], ◌∷◌, ◌++◌, length, get_or, set, take, drop, replicate, sym, refl, ap, ◌∙◌, add-one, arith, length-append, length-drop, length-take, drop_of_length-le}
use mathlib.Core.List.{append-nil}
use lib.Seq.{take-suc, take_at, drop_at}
use borrow.Rule.Slice.PartMut.{put_mid}
use Rattle.lists.specs.Lists.{put_front}
use Rattle.lists.proofs.Front.{front_snoc}

module _ {X : Type 0} (to from : List X) {place : ℕ} {now : List X} where
  -- one more
  pub copied_more : {x : X} → length from ≤ length to → place < length from → x ≡ get_or from place x → now ≡ put_front (take place from) to
      → set now place x ≡ put_front (take (place + 1) from) to
  copied_more {x} l h e f =
      let n : length (take place from) ≡ place = simp length-take (omega arith) in
      let t : take (place + 1) from ≡ take place from ++ (x ∷ []) = rw (add-one, take-suc from place x h, ← e) in
      ap (λ (xs : List X). set xs place x) f ∙ ap (λ k. set (put_front (take place from) to) k x) (sym n) ∙ front_snoc (take place from) x to (omega arith)
      ∙ ap (λ xs. put_front xs to) (sym t)

-- one value behind what is copied
pub laid : {X : Type 0} (to from : List X) (v : X) {now back : List X} → length from ≤ length to → now ≡ put_front from to
    → back ≡ replicate (length (take (length now - length from) (drop (length from) now))) v
    → put_mid (length from) (length now - length from) now back ≡ from ++ replicate (length to - length from) v
laid to from v {now} {back} h f b =
    let behind = drop (length from) to in
    let n : length (from ++ behind) - length from ≡ length to - length from = simp (length-append, length-drop) (omega arith) in
    let l : length (take (length to - length from) behind) ≡ length to - length from = simp (length-take, length-drop) (omega arith) in
    let k : length behind ≤ length to - length from = simp length-drop (omega arith) in
    let t = take_at from behind (length from) refl in
    let d = drop_at from behind (length from) refl in
    let b₁ : back ≡ replicate (length to - length from) v = rw (f, d, n, l) at b in
    rw (f, n, t, d, drop_of_length-le behind k, append-nil, b₁)
