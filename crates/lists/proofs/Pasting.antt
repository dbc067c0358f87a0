-- Loops that write a list over a part of a list, one element a turn. Assumes nothing.
use Prim.Native.Nat.{ℕ, ◌+◌, ◌*◌, ◌<◌}
use mathlib.Core.Path.{◌≡◌, sym, ◌∙◌}
use mathlib.Core.List.{List, append_assoc}
use native.Mathlib.Numerals.{add-one}
use native.Mathlib.Omega.{arith}
use lib.ListN.{length, get_or, set, length-set}
use lib.Seq.{paste, paste-suc, take_all}
use Rattle.lists.specs.Lists.{put_part}

-- l' is l with the first j elements of xs written from index at on
pub record Pasting (l : List ℕ) (at : ℕ) (xs : List ℕ) (j : ℕ) (l' : List ℕ) : Type 0 where
  pub list : l' ≡ paste l at xs j
  pub size : length l' ≡ length l

pub pasting_more : {l : List ℕ} {at : ℕ} {xs : List ℕ} {j : ℕ} {l' : List ℕ} {v : ℕ} → at + j < length l → j < length xs → v ≡ get_or xs j 0
    → Pasting l at xs j l' → Pasting l at xs (j + 1) (set l' (at + j) v)
pasting_more {l} {at} {xs} {j} {l'} {v} h k e p =
    record { list = rw (p.list, e, add-one) (paste-suc l at xs j 0 h k); size = length-set l' (at + j) v ∙ p.size }

pasting_done : {l : List ℕ} {at : ℕ} {xs : List ℕ} {j : ℕ} {l' : List ℕ} (n : ℕ) → j ≡ n → Pasting l at xs j l' → l' ≡ paste l at xs n
pasting_done n e p = rw e at p.list

-- where the list is as long as a part, the part is put
copied_part : (l : List ℕ) {d : ℕ} (s : ℕ) (xs : List ℕ) {l' : List ℕ} → length xs ≡ d → l' ≡ paste l (s * d) xs (length xs) → l' ≡ put_part d s xs l
copied_part l {d} s xs h e = e ∙ rw (h, take_all d xs (omega arith), append_assoc)

pub pasted_part : {l : List ℕ} {d : ℕ} (s : ℕ) {xs : List ℕ} {n : ℕ} {l' : List ℕ} → length xs ≡ d → n ≡ d → Pasting l (s * d) xs n l' → l' ≡ put_part d s xs l
pasted_part {l} s {xs} h e p = copied_part l s xs h (pasting_done (length xs) (e ∙ sym h) p)
