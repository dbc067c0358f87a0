-- The guard's calls: what is written is what was answered, and the words left hold the index. Assumes nothing.
use Prim.Native.Nat.{ℕ}
use mathlib.Core.Bool.{true, false, not}
use mathlib.Core.List.{List}
use mathlib.Core.Option.{Option, none, some}
use mathlib.Core.Path.{◌≡◌, refl, ap, ◌∙◌, subst}
use native.Mathlib.Omega.{arith}
use lib.Dec.{T}
use lib.Ieee.{is_nan}
use Rattle.std.specs.Prelude.{Result, Ok, Err}
use Rattle.slots.specs.Sizes.{Slices, lengths_of, limits, alpha_ok}
use Rattle.slots.specs.Store.{store_view, store_ops}
use Rattle.guard.specs.Guard.{Config}
use Rattle.admission.specs.declared.report.Report.{Report}
use Rattle.calls.specs.Calls.{Assess, enable, Call, refused, standing, refused_as}
use Rattle.calls.specs.Outputs.{Outputs, no_outputs}
use Rattle.calls.specs.Refusals.{first_of, tests}
use Rattle.calls.specs.State.{stored, shown, with_guard}
use Rattle.calls.specs.Step.{perform}
use Rattle.calls.specs.Runs.{lent_of, slices_of, call_of}
use Rattle.calls.proofs.Tests.{index_finds}
use Rattle.index.specs.declared.Index.{Index}
use Rattle.index.specs.declared.Refusal.{Refusal}
use Rattle.index.specs.Index.{state_of}
use Rattle.index.proofs.Decide.{step_back, step_on}
use Rattle.guarding.specs.declared.Status.{Status}
use Rattle.guarding.specs.declared.Enabled.{Enabled}
use Rattle.guarding.specs.Guarding.{status_of, Stands, enabled_as, enabled_index, Enables, Assesses}
use Rattle.words.specs.IndexWords.{index_of}
use Rattle.words.specs.GuardWords.{report_words}
use Rattle.words.specs.Given.{map_ok, put, standing_words, StandsWords, enabled_words, EnablesWords, AssessesWords}
use Rattle.words.proofs.Held.{number_left, held_left}

-- ---- an index whose guard was enabled

abbrev enabling : Slices → Config → List ℕ → Call
enabling s c scratch = record { lent = lent_of s no_outputs scratch; operation = enable c }

module _ {index : Index} {s : Slices} {c : Config} {scratch : List ℕ} {s' : Slices} {scratch' : List ℕ} where
  -- its alpha is the one that passed row 2
  same_alpha : {n : Enabled} → Enables index s c scratch s' scratch' (Ok n) → (n.index.alpha ≡ index.alpha) × (alpha_ok index.alpha ≡ true)
  unfolding enabled_as enabled_index call_of slices_of state_of tests refused_as perform with_guard stored store_ops store_view shown
  same_alpha {n} f = go _ refl
    where
      go : (o : Option ℕ) → first_of (tests limits (enabling s c scratch).lent (shown stored (state_of index s)) (enable c)) ≡ o → (n.index.alpha ≡ index.alpha) × (alpha_ok index.alpha ≡ true)
      go (some m) e =
          let b : standing (status_of n.status) ≡ refused m = ap (λ x. x.1) (f.meets.does ∙ step_back (state_of index s) (enabling s c scratch) m e) in
          absurd (let y : ◌≡◌ {A = ℕ} 0 1 = cc in omega arith)
      go none e = (
        ap (λ x. x.0.graph.alpha) (f.meets.does ∙ step_on (state_of index s) (enabling s c scratch) e),
        (index_finds (lengths_of s) (shown stored (state_of index s)) false _ e).grown,
      )

  pub enabled_number : {r : Result Enabled Refusal} → Enables index s c scratch s' scratch' r → (n : Enabled) → r ≡ Ok n → T (not (is_nan n.index.alpha))
  enabled_number f n e = number_left n.index (same_alpha (subst (Enables index s c scratch s' scratch') e f))

-- ---- the calls

module _ (words : List ℕ) {s : Slices} {c : Config} {scratch words' : List ℕ} {s' : Slices} {scratch' : List ℕ} (place : List ℕ) where
  held : (r : Result Enabled Refusal) → Enables (index_of words) s c scratch s' scratch' r → words' ≡ (put (map_ok enabled_words r) (words, place)).1.0
      → index_of words' ≡ enabled_index (index_of words) r
  unfolding enabled_index
  held (Ok n) f t = ap index_of t ∙ held_left words n.index (same_alpha f)
  held (Err e) f t = ap index_of t

module _ (words : List ℕ) {s : Slices} (place : List ℕ) {place' : List ℕ} {status : ℕ} where
  pub stands_words : {i : Index} {r : Result Status Refusal} → i ≡ index_of words → Stands i s r → (status, place') ≡ put (map_ok standing_words r) place → StandsWords words s place place' status
  stands_words {r} e f t = record { answer = r; does = subst (λ i. Stands i s r) e f; told = t }

  module _ {c : Config} {scratch words' : List ℕ} {s' : Slices} {scratch' : List ℕ} where
    pub enables_words : {i : Index} {r : Result Enabled Refusal} → i ≡ index_of words → Enables i s c scratch s' scratch' r → (status, (words', place')) ≡ put (map_ok enabled_words r) (words, place)
        → EnablesWords words s c scratch words' s' scratch' place place' status
    enables_words {r = r} e f t =
        let g = subst (λ i. Enables i s c scratch s' scratch' r) e f in
        record { answer = r; does = g; told = t; held = held words place r g (ap (λ x. x.1.0) t) }

  module _ {a : Assess} {outputs : Outputs} {scratch : List ℕ} {outputs' : Outputs} {scratch' : List ℕ} where
    pub assesses_words : {i : Index} {r : Result Report Refusal} → i ≡ index_of words → Assesses i s a outputs scratch outputs' scratch' r → (status, place') ≡ put (map_ok report_words r) place
        → AssessesWords words s a outputs scratch outputs' scratch' place place' status
    assesses_words {r = r} e f t = record { answer = r; does = subst (λ i. Assesses i s a outputs scratch outputs' scratch' r) e f; told = t }
