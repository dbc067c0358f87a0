-- Insert: what is written is what was answered, and the words left hold the index. Assumes nothing.
use Prim.Native.Nat.{ℕ}
use mathlib.Core.Bool.{not}
use mathlib.Core.List.{List}
use mathlib.Core.Path.{◌≡◌, ap, ◌∙◌, subst}
use lib.Dec.{T}
use lib.Ieee.{is_nan}
use Rattle.std.specs.Prelude.{Result, Ok, Err}
use Rattle.slots.specs.Sizes.{Slices}
use Rattle.calls.specs.Calls.{Insert}
use Rattle.calls.specs.Outputs.{Outputs}
use Rattle.index.specs.declared.Index.{Index}
use Rattle.index.specs.declared.Refusal.{Refusal}
use Rattle.updating.specs.declared.Changed.{Changed}
use Rattle.updating.specs.Insert.{index_after, Inserts}
use Rattle.updating.proofs.Fills.{inserted_alpha}
use Rattle.words.specs.IndexWords.{index_of}
use Rattle.words.specs.Given.{map_ok, put, changed_words, InsertsWords}
use Rattle.words.proofs.Held.{number_left, held_left}

module _ {s : Slices} {a : Insert} {outputs : Outputs} {scratch : List ℕ} {s' : Slices} {outputs' : Outputs} {scratch' : List ℕ} where
  -- the new index's alpha is a number
  pub inserted_number : {index : Index} {r : Result Changed Refusal} → Inserts index s a outputs scratch s' outputs' scratch' r → (d : Changed) → r ≡ Ok d → T (not (is_nan d.index.alpha))
  inserted_number {index} c d e = number_left d.index (inserted_alpha (subst (Inserts index s a outputs scratch s' outputs' scratch') e c))

  -- the words left hold the index
  held : (words : List ℕ) (found : ℕ) {words' : List ℕ} (r : Result Changed Refusal) → Inserts (index_of words) s a outputs scratch s' outputs' scratch' r
      → words' ≡ (put (map_ok changed_words r) (words, found)).1.0 → index_of words' ≡ index_after (index_of words) r
  unfolding index_after
  held words found (Ok d) c t = ap index_of t ∙ held_left words d.index (inserted_alpha c)
  held words found (Err e) c t = ap index_of t

  pub inserts_words : {words words' : List ℕ} {found found' status : ℕ} {i : Index} (r : Result Changed Refusal) → i ≡ index_of words → Inserts i s a outputs scratch s' outputs' scratch' r
      → (status, (words', found')) ≡ put (map_ok changed_words r) (words, found) → InsertsWords words s a outputs scratch words' s' outputs' scratch' found found' status
  inserts_words {words} {found = found} r e c p =
      let c' = subst (λ i. Inserts i s a outputs scratch s' outputs' scratch' r) e c in
      record { answer = r; does = c'; told = p; held = held words found r c' (ap (λ x. x.1.0) p) }
