-- The landmarks that are selected: the sample, drawn to the references, and the choice from it. Assumes nothing.
use Prim.Native.Nat.{ℕ, ◌≤◌, ◌<◌}
use mathlib.Core.Bool.{Bool, true, false, not}
use mathlib.Core.Path.{◌≡◌, refl}
use mathlib.Core.List.{List, [], ◌∷◌}
use native.Mathlib.Omega.{arith}
use borrow.Author.Tests.{not-true}
use lib.ListN.{length}
use Rattle.std.proofs.lemmas.Bool.{and_parts}
use Rattle.lists.specs.Lists.{All, filter, elem, range, least_of}
use Rattle.lists.proofs.All.{all_map, filter_test}
use Rattle.lists.proofs.Parts.{fits_in}
use Rattle.candidates.specs.Candidates.{scored}
use Rattle.candidates.specs.Inner.Words.{cands}
use Rattle.landmarks.specs.declared.sample.Free.{Free}
use Rattle.landmarks.specs.Inner.Samples.{far, remains, free, on_stride, sampled, stride_of, sample_by, Taken}
use Rattle.vectors.specs.Lent.{HasVector, space_of}
use Rattle.vectors.specs.Space.{slot_distance}
use Rattle.vectors.specs.declared.Space.{Space}
use Rattle.landmarks.specs.Inner.Choices.{drawn_all, chosen, landmarks_by, Listed, Selectable, Drew, Fronted}
use Rattle.landmarks.proofs.Sampling.{sample_all, sample_inside}
use Rattle.landmarks.proofs.Drawing.{drawn_sample}
use Rattle.landmarks.proofs.Choosing.{chosen_few, chosen_all}

scored_all : (P : ℕ → Type 0) (near : ℕ → ℕ) (xs : List ℕ) → All P xs → All (λ c. P c.id) (scored near xs)
scored_all P near [] h = tt
scored_all P near (x ∷ xs) h = (h.0, scored_all P near xs h.1)

-- ---- no sampled slot is a reference
sample_free : (stays : ℕ → Bool) (references : List ℕ) (capacity stride wanted : ℕ)
    → All (λ s. elem s references ≡ false) (sample_by (free stays references) capacity stride wanted)
sample_free stays references capacity stride wanted =
    sample_all (λ s. elem s references ≡ false) (free stays references) capacity stride wanted
    (λ b. all_map (λ s. sampled stride b (free stays references) s ≡ true) (λ s. elem s references ≡ false) (λ s e. not-true (elem s references) (and_parts (stays s) (not (elem s references)) (and_parts (on_stride stride b s) (free stays references s) e).1).1) (filter (sampled stride b (free stays references)) (range 0 capacity)) (filter_test (sampled stride b (free stays references)) (range 0 capacity)))

-- ---- what is asked
module _ {space : Space} {o : Free} {wanted sample : ℕ} {list w : List ℕ} (f : Selectable space o wanted sample list w) where
  abbrev capacity : ℕ
  capacity = length o.marks.now

  abbrev references : List ℕ
  references = o.entry ∷ o.kept.now

  has_vector : (s : ℕ) → s < capacity → HasVector space s
  has_vector s h = fits_in space.dim capacity s (length space.vectors.now) h f.bytes.long

  pub selectable_references : All (HasVector space) references
  selectable_references = all_map (λ s. s < capacity) (HasVector space) has_vector references f.references

  sample_vectors : (near : ℕ → ℕ) (p : ℕ → Bool) (stride : ℕ) → All (λ c. HasVector space c.id) (scored near (sample_by p capacity stride wanted))
  sample_vectors near p stride =
      scored_all (HasVector space) near (sample_by p capacity stride wanted)
      (all_map (λ s. s < capacity) (HasVector space) has_vector (sample_by p capacity stride wanted) (sample_inside p capacity stride wanted))

  pub taken_listed : {p : ℕ → Bool} {stride : ℕ} {w₀ w' : List ℕ} {r : ℕ} → Taken p capacity stride wanted w₀ w' r → Listed space w' r
  taken_listed {p} {stride} g = record { small = f.bytes.small; room = omega (arith, g.room, g.size); inside = rw g.list (sample_vectors far p stride) }

  -- ---- what is left
  abbrev d : ℕ → ℕ → ℕ
  d = slot_distance (space_of space)

  abbrev stays : ℕ → Bool
  stays = remains o.marks.now o.ids.now

  pub selected_none : wanted ≡ 0 → Fronted (landmarks_by d stays capacity o.entry wanted sample o.kept.now) list list 0
  unfolding landmarks_by chosen
  selected_none e = rw e (record { list = refl; count = refl })

  -- the sample
  abbrev taken : List ℕ
  taken = sample_by (free stays references) capacity (stride_of capacity sample) wanted

  module _ {w₀ w₁ w₂ : List ℕ} {n m : ℕ} (g : Taken (free stays references) capacity (stride_of capacity sample) wanted w₀ w₁ n)
      (h : Drew w₁ n (drawn_all d references (cands w₁ 0 n)) w₂ m) where
    drawn_is : cands w₂ 0 m ≡ scored (λ s. least_of (d s) references) taken
    drawn_is = drawn_sample d o.entry o.kept.now taken (sample_free stays references capacity (stride_of capacity sample) wanted) g.list h

    pub drawn_listed : Listed space w₂ m
    drawn_listed =
        record {
          small = f.bytes.small;
          room = omega (arith, g.room, g.size, h.size, h.within);
          inside = rw drawn_is (sample_vectors (λ s. least_of (d s) references) (free stays references) (stride_of capacity sample));
        }

    pub selected : {l' : List ℕ} {r : ℕ} → Fronted (chosen d wanted (cands w₂ 0 m)) list l' r
        → Fronted (landmarks_by d stays capacity o.entry wanted sample o.kept.now) list l' r
    unfolding landmarks_by
    selected k = rw drawn_is at k

-- ---- how many they are, and where
module _ (d : ℕ → ℕ → ℕ) (stays : ℕ → Bool) (capacity entry wanted sample : ℕ) (existing : List ℕ) where
  pub landmarks_few : length (landmarks_by d stays capacity entry wanted sample existing) ≤ wanted
  unfolding landmarks_by
  landmarks_few = chosen_few d wanted (scored (λ s. least_of (d s) (entry ∷ existing)) (sample_by (free stays (entry ∷ existing)) capacity (stride_of capacity sample) wanted))

  pub landmarks_inside : All (λ s. s < capacity) (landmarks_by d stays capacity entry wanted sample existing)
  unfolding landmarks_by
  landmarks_inside =
      chosen_all (λ s. s < capacity) d wanted (scored (λ s. least_of (d s) (entry ∷ existing)) (sample_by (free stays (entry ∷ existing)) capacity (stride_of capacity sample) wanted))
      (scored_all (λ s. s < capacity) (λ s. least_of (d s) (entry ∷ existing)) (sample_by (free stays (entry ∷ existing)) capacity (stride_of capacity sample) wanted) (sample_inside (free stays (entry ∷ existing)) capacity (stride_of capacity sample) wanted))
