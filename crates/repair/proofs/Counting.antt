-- How many links a plan has: the number of its candidates alone decides. Assumes nothing.
use Prim.Native.Nat.{ℕ, zero, suc, ◌+◌, ◌-◌, ◌≤◌, min}
use mathlib.Core.Bool.{Bool, true, false, cond, not, true≢false}
use mathlib.Core.Path.{◌≡◌, refl, ap, sym, ◌∙◌, subst}
use mathlib.Core.List.{List, [], ◌∷◌, ◌++◌}
use native.Mathlib.Numerals.{add-one}
use native.Mathlib.Omega.{arith}
use borrow.Author.Tests.{eqb-true, eq-eqb}
use lib.Dec.{eqb}
use lib.ListN.{length, length-map, length-take, length-append}
use Rattle.std.proofs.lemmas.Bool.{or_parts}
use Rattle.lists.specs.Lists.{elem, filter, concat_map, sort_by, least_from, least_of}
use Rattle.lists.proofs.Ordered.{length_insert}
use Rattle.lists.proofs.Unique.{Unique}
use Rattle.candidates.specs.Candidates.{Candidate, nearer}
use Rattle.repair.specs.Repair.{swap_remove, links, span, repair_links}
use Rattle.repair.proofs.Span.{one_less, others_fewer}
use Rattle.repair.proofs.Sources.{both_ways}

-- the links of a plan that connects m slots after k others
unfoldable pub links_of : ℕ → ℕ → ℕ → ℕ
links_of degree k zero = 0
links_of degree k (suc m) = (min degree k + min degree k) + links_of degree (suc k) m

sort_length : (l : List Candidate) → length (sort_by nearer l) ≡ length l
sort_length [] = refl
sort_length (x ∷ l) = length_insert nearer x (sort_by nearer l) ∙ ap suc (sort_length l)

both_length : (x : ℕ) (ps : List ℕ) → length (concat_map (both_ways x) ps) ≡ length ps + length ps
both_length x [] = refl
both_length x (p ∷ ps) = omega (arith, both_length x ps)

links_length : (d : ℕ → ℕ → ℕ) (degree : ℕ) (con : List ℕ) (x : ℕ) → length (links d degree con x) ≡ min degree (length con) + min degree (length con)
unfolding links
links_length d degree con x = simp (both_length, length-map, length-take, sort_length)

span_length : (d : ℕ → ℕ → ℕ) (degree f : ℕ) (con xs : List ℕ) → length xs ≤ f → length (span d degree f con xs) ≡ links_of degree (length con) (length xs)
unfolding span links_of
span_length d degree zero con [] h = refl
span_length d degree zero con (r ∷ rs) h = absurd (omega arith)
span_length d degree (suc f) con [] h = refl
span_length d degree (suc f) con (r ∷ rs) h =
    let x = least_from (λ y. least_of (d y) con) r rs in
    let e : length (con ++ (x ∷ [])) ≡ suc (length con) = simp length-append (add-one (length con)) in
    let z : length (swap_remove x (r ∷ rs)) ≡ length rs = one_less x r rs in
    let k : length (swap_remove x (r ∷ rs)) ≤ f = omega arith in
    rw (length-append, links_length d degree con x, span_length d degree f (con ++ (x ∷ [])) (swap_remove x (r ∷ rs)) k, e, z)

-- only one of them is left out
absent_kept : (a : ℕ) (l : List ℕ) → elem a l ≡ false → filter (λ x. not (eqb x a)) l ≡ l
absent_kept a [] e = refl
absent_kept a (x ∷ l) e = go (eqb x a) refl (absent_kept a l (or_parts (eqb a x) (elem a l) e).1)
  where
    go : (b : Bool) → eqb x a ≡ b → filter (λ y. not (eqb y a)) l ≡ l → cond (not b) (x ∷ filter (λ y. not (eqb y a)) l) (filter (λ y. not (eqb y a)) l) ≡ x ∷ l
    go true k r = absurd (true≢false (sym (eq-eqb a x (sym (eqb-true x a k))) ∙ (or_parts (eqb a x) (elem a l) e).0))
    go false k r = ap (λ (m : List ℕ). x ∷ m) r

one_out : (s : ℕ) (l : List ℕ) → Unique l → length l ≤ suc (length (filter (λ x. not (eqb x s)) l))
one_out s [] u = omega arith
one_out s (x ∷ l) u = go (eqb x s) refl (one_out s l u.1)
  where
    go : (b : Bool) → eqb x s ≡ b → length l ≤ suc (length (filter (λ y. not (eqb y s)) l))
        → suc (length l) ≤ suc (length (cond (not b) (x ∷ filter (λ y. not (eqb y s)) l) (filter (λ y. not (eqb y s)) l)))
    go true k r = let z : filter (λ y. not (eqb y s)) l ≡ l = absent_kept s l (subst (λ (t : ℕ). elem t l ≡ false) (eqb-true x s k) u.0) in rw z (omega arith)
    go false k r = omega arith

pub repair_length : (d : ℕ → ℕ → ℕ) (degree entry : ℕ) (cs : List ℕ) → Unique cs → length (repair_links d degree entry cs) ≡ links_of degree 1 (length cs - 1)
unfolding repair_links links_of
repair_length d degree entry [] u = refl
repair_length d degree entry (c ∷ cs) u =
    let s = least_from (λ x. d x entry) c cs in
    let h : length (filter (λ x. not (eqb x s)) (c ∷ cs)) ≤ length cs = others_fewer (λ x. d x entry) c cs in
    let z : length (filter (λ x. not (eqb x s)) (c ∷ cs)) ≡ length cs = omega (arith, h, one_out s (c ∷ cs) u) in
    let n : suc (length cs) - 1 ≡ length cs = omega arith in
    rw (n, span_length d degree (length cs) (s ∷ []) (filter (λ x. not (eqb x s)) (c ∷ cs)) h, z)
