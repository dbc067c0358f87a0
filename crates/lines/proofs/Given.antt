-- Numbers that are read into an array: before the first, and one more.
use denote.Ref.{Bor}
use Rattle.std.proofs.Common.{◌∷◌, [], List, Option, ℕ, ◌≡◌, ◌<◌, ◌+◌, length, take, set, sym, ◌∙◌, refl, arith}
use mathlib.Core.Path.{subst}
use Rattle.std.specs.List.{FoldsTo}
use Rattle.std.proofs.lemmas.Fn.{FoldsTo-push}
use Rattle.std.proofs.lemmas.Grind.{drop_more_same}
use Rattle.std.proofs.lemmas.List.{take_more_set, drop-set-lt}
use Rattle.text.specs.Inner.Text.{Reads}
use Rattle.lines.specs.Inner.Given.{Given}

module _ {A : Type 0} (gives : ℕ → A → Type 0) where
  pub given_none : (left : Option (Bor (List ℕ))) (words : List A) → Given gives left left 0 words words
  given_none left words = record { room = omega arith; reads = refl; behind = refl }

  pub given_more : {old left rest : Option (Bor (List ℕ))} {i : ℕ} {before after : List A} (number : ℕ) (word : A) → Given gives old left i before after → i < length after → length after ≡ length before → Reads left rest number → gives number word → Given gives old rest (i + 1) before (set after i word)
  given_more {old} {left} {rest} {i} {before} {after} number word given inside long reads is =
      let R = λ (from : Option (Bor (List ℕ))) (w : A) (to : Option (Bor (List ℕ))). (n : ℕ) × Reads from to n × gives n w in
      record {
        room = omega arith;
        reads = subst (λ (words : List A). FoldsTo R old words rest) (sym (take_more_set after i word inside)) (FoldsTo-push R old (take i after) left word rest given.reads (number, reads, is));
        behind = drop-set-lt (i + 1) after i word (omega arith) ∙ drop_more_same after before i given.behind;
      }

module _ {A : Type 0} {gives gives′ : ℕ → A → Type 0} (more : (number : ℕ) (word : A) → gives number word → gives′ number word) where
  reads_weaker : (old : Option (Bor (List ℕ))) (words : List A) (new : Option (Bor (List ℕ))) → FoldsTo (λ left word rest. (number : ℕ) × Reads left rest number × gives number word) old words new → FoldsTo (λ left word rest. (number : ℕ) × Reads left rest number × gives′ number word) old words new
  reads_weaker old [] new same = same
  reads_weaker old (word ∷ words) new (left, (number, reads, is), rest) = (left, (number, reads, more number word is), reads_weaker left words new rest)

  -- what is read gives words in another way too, if each number does
  pub given_weaker : (old new : Option (Bor (List ℕ))) (n : ℕ) (before after : List A) → Given gives old new n before after → Given gives′ old new n before after
  given_weaker old new n before after given = record { room = given.room; reads = reads_weaker old (take n after) new given.reads; behind = given.behind }
