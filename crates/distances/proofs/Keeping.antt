-- A table of kept distances: entries of zeros are some, an entry is read, and one is written. Assumes nothing.
use Prim.Native.Nat.{ℕ, ◌<◌}
use mathlib.Core.Path.{◌≡◌, refl, sym}
use mathlib.Core.List.{List}
use native.Mathlib.Omega.{arith}
use lib.ListN.{length, get_or, set, replicate, length-set, length-replicate, get_or-replicate}
use lib.Seq.{get_or-set_same, get_or-set_other}
use lib.Dec.{eqb}
use mathlib.Core.Bool.{Bool, true, false}
use borrow.Author.Tests.{eqb-true, eqb-false}
use Rattle.vectors.specs.Distance.{distance}
use Rattle.vectors.specs.Space.{Space, space, slot_distance, Measured}
use Rattle.vectors.proofs.Distances.{weighted_self}
use Rattle.distances.specs.Inner.Kept.{pair_of, none, Keeps}
use Rattle.distances.specs.declared.kept.Entry.{Entry}

self : (ws : List ℕ) (dim : ℕ) (vectors : List ℕ) (s : ℕ) → slot_distance (space (distance ws) dim vectors) s s ≡ 0
unfolding slot_distance space
self ws dim vectors s = weighted_self ws _

pub keeps_none : (ws : List ℕ) (dim : ℕ) (vectors : List ℕ) (n : ℕ) → Keeps (space (distance ws) dim vectors) (replicate n none)
keeps_none ws dim vectors n = record {
  each = λ i x y h p q e.
      let b : i < n = rw (length-replicate {A = Entry} n none) at h in
      let g : get_or (replicate n none) i none ≡ none = get_or-replicate n i none none b in
      let z : 0 ≡ pair_of x y = rw g at e in
      let u : x ≡ 0 = omega arith in
      let v : y ≡ 0 = omega arith in
      rw (g, u, v) (record { equals = sym (self ws dim vectors 0); bound = omega arith });
}

module _ {space : Space} {entries : List Entry} (k : Keeps space entries) (i : ℕ) {x y : ℕ} (h : i < length entries) (p : x < 65536) (q : y < 65536) where
  pub keeps_written : {dist : ℕ} → Measured (slot_distance space x y) dist → Keeps space (set entries i (record { pair = pair_of x y; dist = dist }))
  keeps_written {dist} m = record { each = λ j v w l a b e. go j v w (rw (length-set entries i written) at l) a b e (eqb j i) refl }
    where
      written : Entry
      written = record { pair = pair_of x y; dist = dist }

      go : (j v w : ℕ) → j < length entries → v < 65536 → w < 65536 → (get_or (set entries i written) j none).pair ≡ pair_of v w → (b : Bool) → eqb j i ≡ b
          → Measured (slot_distance space v w) (get_or (set entries i written) j none).dist
      go j v w l a b e true t =
          let g : j ≡ i = eqb-true j i t in
          let r : get_or (set entries i written) j none ≡ written = rw g (get_or-set_same entries i written none h) in
          let s : pair_of x y ≡ pair_of v w = rw r at e in
          let c : v ≡ x = omega arith in
          let d : w ≡ y = omega arith in
          rw (r, c, d) m
      go j v w l a b e false t =
          let g : j ≡ i → ⊥ = eqb-false j i t in
          let r : get_or (set entries i written) j none ≡ get_or entries j none = get_or-set_other entries i j written none g in
          rw r (k.each j v w l a b (rw r at e))
