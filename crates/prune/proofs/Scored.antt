-- The whole selection: what is selected from, the passes over it, and what is left. Assumes nothing.
use Prim.Native.Nat.{ℕ, ◌*◌, ◌/◌, ◌≤◌, ◌<◌}
use mathlib.Core.Path.{◌≡◌, refl, ap, sym, ◌∙◌, subst}
use mathlib.Core.Bool.{true}
use mathlib.Core.List.{List, ◌++◌}
use native.Mathlib.Omega.{arith}
use Rattle.std.proofs.lemmas.List.{take-replicate}
use lib.ListN.{length, take, drop, replicate, length-replicate}
use lib.Ieee.{Float, of_bits, of_int, binary32}
use Rattle.lists.specs.Lists.{All, filter, sort_by, distinct_by}
use Rattle.lists.proofs.All.{all_map}
use Rattle.lists.proofs.Parts.{fits_in}
use Rattle.candidates.specs.Candidates.{Candidate, nearer}
use Rattle.vectors.specs.Distance.{f32}
use Rattle.vectors.specs.Lent.{HasVector}
use Rattle.vectors.specs.declared.Space.{Space}
use Rattle.candidates.specs.Inner.Words.{cands, cands_of, kept, Remain}
use Rattle.candidates.proofs.Words.{cands_length, front_each}
use Rattle.candidates.proofs.Parts.{part_length, cands_front, cands_written}
use Rattle.slots.specs.Store.{is_valid}
use Rattle.slots.proofs.Places.{live_inside}
use Rattle.prune.specs.Prune.{passes, considered, prune_scored}
use Rattle.prune.specs.Inner.Selecting.{Given, Selected, Picked, Ready, Pruned}
use Rattle.prune.proofs.Chosen.{considered_most, considered_live, all_of_given, chosen}

-- ---- what is selected from: of a list those that pass the test remain, and of the first of its words, u once they are sorted, each slot's first
pub prepared : (most : ℕ) {w : List ℕ} (marks : List ℕ) (source : ℕ) {k r : ℕ} {v : List ℕ} (u u' : List ℕ) → most ≡ 750 → length v ≡ length w
    → length u ≡ length (take (2 * k) v) → length u' ≡ length u
    → Remain w (filter (λ c. kept marks source c.id) (cands_of w)) k v
    → cands_of u ≡ sort_by nearer (cands_of (take (2 * k) v))
    → Remain u (take most (distinct_by (λ c. c.id) (cands_of u))) r u'
    → Remain w (considered (is_valid marks) source (cands_of w)) r (u' ++ drop (2 * k) v)
unfolding considered is_valid kept
prepared most {w} marks source {k} {r} {v} u u' e o p q f g h =
    let inside : 2 * k ≤ length v = omega (arith, f.within) in
    let long : length u' ≡ 2 * k = q ∙ p ∙ part_length v 0 (2 * k) (omega arith) in
    let few : r ≤ k = omega (arith, h.within) in
    record {
      list = cands_written v u' 0 (2 * k) (omega arith) long 0 r (omega arith) ∙ (rw (g, cands_front v k inside, f.list, e) at h.list);
      within = omega (arith, f.within);
    }

-- ---- the factors begin with 0
abbrev pub zero_factor : Float
zero_factor = of_bits binary32 0

zero_is : f32 0 ≡ zero_factor
unfolding f32 of_bits of_int
zero_is = refl

as_many : (n m : ℕ) (z : Float) → m ≤ n → length (take m (replicate n z)) ≡ m
as_many n m z h = ap length (take-replicate m n z h) ∙ length-replicate m z

pub picked : {degree : ℕ} {alpha : Float} {d : ℕ → ℕ → ℕ} (w : List ℕ) (n : ℕ) {r : ℕ} {w' : List ℕ} (factors : List Float) → factors ≡ replicate n zero_factor
    → Selected degree alpha d factors (cands w 0 (length factors)) r w' → Picked degree alpha d (cands w 0 n) r w'
unfolding passes
picked w n factors e u = record { list = rw (passes, cands_length w 0 n, zero_is) (rw (e, length-replicate n zero_factor) at u.list); few = u.few }

-- ---- from one step to the next
module _ (space : Space) {marks w : List ℕ} (q : Ready space.dim space.vectors.now marks w) (source : ℕ) {m : ℕ} {v : List ℕ} (l : length v ≡ length w)
    (f : Remain w (considered (is_valid marks) source (cands_of w)) m v) where
  -- what remains, as a list of its own
  abbrev rest : List ℕ
  rest = take (2 * m) v

  abbrev count : ℕ
  count = length rest / 2

  remains : cands_of rest ≡ considered (is_valid marks) source (cands_of w)
  remains = cands_front v m (omega (arith, f.within, l)) ∙ f.list

  so : (P : List Candidate → Type 0) → P (considered (is_valid marks) source (cands_of w)) → P (cands_of rest)
  so P h = subst P (sym remains) h

  pub still_given : Given space rest count
  still_given =
      let live = is_valid marks in
      record {
        short = q.short;
        inside = omega arith;
        small = front_each (λ c. c.dist ≤ 16777216) rest count (so (All (λ c. c.dist ≤ 16777216)) (all_of_given (λ c. c.dist ≤ 16777216) live source (cands_of w) q.small));
        stored = front_each (λ c. HasVector space c.id) rest count (so (All (λ c. HasVector space c.id))
            (all_map (λ c. live c.id ≡ true) (λ c. HasVector space c.id) (λ c e. fits_in space.dim (length marks) c.id (length space.vectors.now) (live_inside marks c.id e) q.bytes)
            (considered live source (cands_of w)) (considered_live live source (cands_of w))));
        numbered = front_each (λ c. c.id < 65536) rest count (so (All (λ c. c.id < 65536))
            (all_map (λ c. live c.id ≡ true) (λ c. c.id < 65536) (λ c e. omega (arith, live_inside marks c.id e, q.few))
            (considered live source (cands_of w)) (considered_live live source (cands_of w))));
      }

  pub still_few : count ≤ 750
  still_few = omega (arith, sym (cands_length rest 0 count) ∙ ap length remains, considered_most (is_valid marks) source (cands_of w))

  pub pruned : {degree : ℕ} {alpha : Float} {d : ℕ → ℕ → ℕ} {r : ℕ} {w' : List ℕ} → Picked degree alpha d (cands_of rest) r w' → Pruned degree alpha (is_valid marks) d source (cands_of w) r w'
  unfolding prune_scored
  pruned {degree} {alpha} {d} {r} {w'} u =
      let live = is_valid marks in
      let e : cands w' 0 r ≡ prune_scored degree alpha live d source (cands_of w) = u.list ∙ ap (passes degree alpha d) remains in
      record {
        list = e;
        count = sym (cands_length w' 0 r) ∙ ap length e;
        few = u.few;
        small = rw e (chosen degree alpha live d source (cands_of w) (λ c. c.dist ≤ 16777216) q.small);
      }
