-- What holds of every candidate of a plan holds of both ends of each of its links. Assumes nothing.
use Prim.Native.Nat.{ℕ, zero, suc}
use mathlib.Core.Bool.{Bool, true, false, cond, not}
use mathlib.Core.List.{List, [], ◌∷◌, ◌++◌, map}
use lib.Dec.{eqb}
use lib.ListN.{length, take}
use Rattle.lists.specs.Lists.{All, filter, concat_map, sort_by, least_from, least_of, last, init}
use Rattle.lists.proofs.Equal.{least_has}
use Rattle.lists.proofs.All.{all_map, all_append, all_take, all_init, all_filter, all_sort}
use Rattle.candidates.specs.Candidates.{nearer, scored, ids}
use Rattle.candidates.proofs.Scored.{all_scored, all_ids}
use Rattle.repair.specs.Repair.{Link, swap_remove, links, span, repair_links}

-- links both ways
abbrev pub both_ways : ℕ → ℕ → List Link
both_ways x p = record { source = x; target = p } ∷ record { source = p; target = x } ∷ []

module _ (P : ℕ → Type 0) where
  abbrev pub Ends : Link → Type 0
  Ends l = P l.source × P l.target

  both_ends : (x : ℕ) (ps : List ℕ) → P x → All P ps → All Ends (concat_map (both_ways x) ps)
  both_ends x [] h a = tt
  both_ends x (p ∷ ps) h a = ((h, a.0), ((a.0, h), both_ends x ps h a.1))

  links_ends : (d : ℕ → ℕ → ℕ) (degree : ℕ) (con : List ℕ) (x : ℕ) → All P con → P x → All Ends (links d degree con x)
  unfolding links
  links_ends d degree con x a h =
      both_ends x (ids (take degree (sort_by nearer (scored (d x) con)))) h
      (all_ids P (take degree (sort_by nearer (scored (d x) con)))
      (all_take (λ c. P c.id) degree (sort_by nearer (scored (d x) con)) (all_sort (λ c. P c.id) nearer (scored (d x) con) (all_scored (λ c. P c.id) (d x) con a))))

  last_has : (a : ℕ) (xs : List ℕ) → P a → All P xs → P (last a xs)
  last_has a [] h k = h
  last_has a (x ∷ xs) h k = last_has x xs k.0 k.1

  all_instead : (x l : ℕ) (xs : List ℕ) → P l → All P xs → All P (map (λ y. cond (eqb y x) l y) xs)
  all_instead x l [] h a = tt
  all_instead x l (y ∷ xs) h a = (go (eqb y x), all_instead x l xs h a.1)
    where
      go : (b : Bool) → P (cond b l y)
      go true = h
      go false = a.0

  pub all_swap : (x r : ℕ) (rs : List ℕ) → P r → All P rs → All P (swap_remove x (r ∷ rs))
  all_swap x r rs h a = all_instead x (last r rs) (init (r ∷ rs)) (last_has r rs h a) (all_init P (r ∷ rs) (h, a))

  span_ends : (d : ℕ → ℕ → ℕ) (degree n : ℕ) (con rem : List ℕ) → All P con → All P rem → All Ends (span d degree n con rem)
  unfolding span
  span_ends d degree zero con rem a b = tt
  span_ends d degree (suc n) con [] a b = tt
  span_ends d degree (suc n) con (r ∷ rs) a b =
      let x = least_from (λ y. least_of (d y) con) r rs in
      let p : P x = least_has P (λ y. least_of (d y) con) r rs b.0 b.1 in
      all_append Ends (links d degree con x) (span d degree n (con ++ (x ∷ [])) (swap_remove x (r ∷ rs))) (links_ends d degree con x a p)
      (span_ends d degree n (con ++ (x ∷ [])) (swap_remove x (r ∷ rs)) (all_append P con (x ∷ []) a (p, tt)) (all_swap x r rs b.0 b.1))

  pub repair_ends : (d : ℕ → ℕ → ℕ) (degree entry : ℕ) (cs : List ℕ) → All P cs → All Ends (repair_links d degree entry cs)
  unfolding repair_links
  repair_ends d degree entry [] a = tt
  repair_ends d degree entry (c ∷ cs) a =
      let s = least_from (λ x. d x entry) c cs in
      span_ends d degree (length cs) (s ∷ []) (filter (λ x. not (eqb x s)) (c ∷ cs)) (least_has P (λ x. d x entry) c cs a.0 a.1, tt)
      (all_filter P (λ x. not (eqb x s)) (c ∷ cs) a)

  pub repair_sources : (d : ℕ → ℕ → ℕ) (degree entry : ℕ) (cs : List ℕ) → All P cs → All (λ l. P l.source) (repair_links d degree entry cs)
  repair_sources d degree entry cs a = all_map Ends (λ l. P l.source) (λ l e. e.0) (repair_links d degree entry cs) (repair_ends d degree entry cs a)
