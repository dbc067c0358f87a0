-- To consider a neighbour by all that was considered, as we do, or by the list, as the paper does, is the same under our other rules: what has left the
-- list, or did not enter it, never enters again. Assumes nothing.
use Prim.Native.Nat.{ℕ, zero, suc, max, ◌≤◌, ◌<◌}
use mathlib.Core.Bool.{Bool, true, false, not, ◌||◌, cond, or-true, true≢false}
use mathlib.Core.Path.{◌≡◌, refl, ap, sym, ◌∙◌, subst}
use mathlib.Core.Logic.{◌⊎◌, inl, inr}
use mathlib.Core.List.{List, [], ◌∷◌}
use native.Mathlib.Omega.{arith}
use lib.ListN.{length, take}
use lib.Dec.{eqb, ltb}
use borrow.Author.Tests.{eqb-true, eq-eqb, ltb-true, ltb-false, le-leb}
use Rattle.lists.proofs.Members.{or_swap}
use Rattle.lists.specs.Lists.{All, Ordered, filter, elem, foldl, insert_by, init, last, sort_by}
use Rattle.lists.proofs.All.{by_cases, all_map, all_init, all_insert}
use Rattle.lists.proofs.Ordered.{length_insert, length_init}
use Rattle.candidates.specs.Candidates.{Candidate, before, ids}
use Rattle.candidates.proofs.Scored.{all_ids}
use Rattle.walk.specs.Walk.{worst, enter, ends}
use Rattle.walk.specs.GreedySearch.{Rules, Search, nearest, join, visit, turn, unvisited, turns, greedy_search, paper, too_far, amended}
use Rattle.walk.proofs.Ordered.{all_enter, enter_ordered, enter_short}
use Rattle.walk.proofs.Amended.{before_near, too_far_ends, joins_enter}

-- ours, but for the paper's `considers`
unfoldable pub by_list : Rules
by_list = record {
  size = amended.size;
  closer = amended.closer;
  ends = amended.ends;
  considers = paper.considers;
  joins = amended.joins;
  stays = amended.stays;
}

all_elem : (P : ℕ → Type 0) (t : ℕ) (xs : List ℕ) → All P xs → elem t xs ≡ true → P t
all_elem P t [] h e = absurd (true≢false (sym e))
all_elem P t (x ∷ xs) h e = go (eqb t x) refl e (all_elem P t xs h.1)
  where
    go : (b : Bool) → eqb t x ≡ b → (b || elem t xs) ≡ true → (elem t xs ≡ true → P t) → P t
    go true i f rest = rw (eqb-true t x i) h.0
    go false i f rest = rest f

last_all : (P : Candidate → Type 0) (a : Candidate) (cs : List Candidate) → P a → All P cs → P (last a cs)
last_all P a [] h k = h
last_all P a (c ∷ cs) h k = last_all P c cs k.0 k.1

-- none is farther than the worst
none_worse : (cs : List Candidate) → Ordered before cs → All (λ a. a.dist ≤ worst cs) cs
none_worse [] o = tt
none_worse (c ∷ []) o = (omega arith, tt)
none_worse (c ∷ a ∷ cs) o = let rest = none_worse (a ∷ cs) o.1 in (omega (arith, before_near c a o.0.0, rest.0), rest)

elem_insert : (u : ℕ) (c : Candidate) (cs : List Candidate) → elem u (ids (insert_by before c cs)) ≡ (eqb u c.id || elem u (ids cs))
elem_insert u c [] = refl
elem_insert u c (a ∷ cs) =
    let rest = elem_insert u c cs in
    by_cases (λ l. elem u (ids l) ≡ (eqb u c.id || (eqb u a.id || elem u (ids cs)))) (before a c)
    (λ e. rw rest (or_swap (eqb u a.id) (eqb u c.id) _)) (λ e. refl)

module _ (L : ℕ) (d : ℕ → ℕ) where
  -- what leaves is as far as the worst
  elem_init : (u : ℕ) (cs : List Candidate) → All (λ c. c.dist ≡ d c.id) cs → elem u (ids cs) ≡ true
      → (elem u (ids (init cs)) ≡ true) ⊎ (worst cs ≡ d u)
  elem_init u [] h e = inl e
  elem_init u (c ∷ []) h e = go (eqb u c.id) refl e
    where
      go : (b : Bool) → eqb u c.id ≡ b → (b || false) ≡ true → (false ≡ true) ⊎ (c.dist ≡ d u)
      go true i f = inr (h.0 ∙ ap d (sym (eqb-true u c.id i)))
      go false i f = inl f
  elem_init u (c ∷ a ∷ cs) h e = go (eqb u c.id) (elem_init u (a ∷ cs) h.1) e
    where
      go : (b : Bool) → (elem u (ids (a ∷ cs)) ≡ true → (elem u (ids (init (a ∷ cs))) ≡ true) ⊎ (worst (a ∷ cs) ≡ d u)) → (b || elem u (ids (a ∷ cs))) ≡ true
          → ((b || elem u (ids (init (a ∷ cs)))) ≡ true) ⊎ (worst (a ∷ cs) ≡ d u)
      go true rest f = inl refl
      go false rest f = rest f

  -- in the list, or too far to enter it
  abbrev Known : List Candidate → ℕ → Type 0
  Known cs u = (elem u (ids cs) ≡ true) ⊎ ((L ≤ length cs) × (worst cs ≤ d u))

  module _ (cs : List Candidate) (c : Candidate) (own : c.dist ≡ d c.id) (dists : All (λ a. a.dist ≡ d a.id) cs) (order : Ordered before cs) where
    no_worse : c.dist < worst cs → worst (insert_by before c (init cs)) ≤ worst cs
    no_worse h =
        last_all (λ a. a.dist ≤ worst cs) _ (insert_by before c (init cs)) (omega arith)
        (all_insert _ before c (init cs) (omega arith) (all_init _ cs (none_worse cs order)))

    still_known : (u : ℕ) → Known cs u → Known (enter L cs c) u
    unfolding enter
    still_known u k =
        by_cases (λ l. Known l u) (ltb (length cs) L) (λ e. room e k)
        (λ e. by_cases (λ l. Known l u) (ltb c.dist (worst cs)) (λ f. full e f k) (λ f. k))
      where
        room : ltb (length cs) L ≡ true → Known cs u → Known (insert_by before c cs) u
        room e (inl i) = inl (elem_insert u c cs ∙ rw i (or-true (eqb u c.id)))
        room e (inr g) = absurd (omega (arith, ltb-true (length cs) L e, g.0))

        size : length cs ≤ length (insert_by before c (init cs))
        size = omega (arith, length_insert before c (init cs), length_init cs)

        left : L ≤ length cs → c.dist < worst cs → (elem u (ids (init cs)) ≡ true) ⊎ (worst cs ≡ d u) → Known (insert_by before c (init cs)) u
        left e f (inl i) = inl (elem_insert u c (init cs) ∙ rw i (or-true (eqb u c.id)))
        left e f (inr q) = inr (omega (arith, size), omega (arith, no_worse f))

        full : ltb (length cs) L ≡ false → ltb c.dist (worst cs) ≡ true → Known cs u → Known (insert_by before c (init cs)) u
        full e f (inl i) = left (ltb-false _ _ e) (ltb-true _ _ f) (elem_init u cs dists i)
        full e f (inr g) = inr (omega (arith, size, g.0), omega (arith, no_worse (ltb-true _ _ f), g.1))

    now_known : Known (enter L cs c) c.id
    unfolding enter
    now_known =
        let here : (l : List Candidate) → Known (insert_by before c l) c.id = λ l. inl (elem_insert c.id c l ∙ rw (eq-eqb c.id c.id refl)) in
        by_cases (λ l. Known l c.id) (ltb (length cs) L) (λ e. here cs)
        (λ e. by_cases (λ l. Known l c.id) (ltb c.dist (worst cs)) (λ f. here (init cs)) (λ f. inr (ltb-false _ _ e, rw own at (ltb-false c.dist (worst cs) f))))

    not_joined : (L ≤ length cs) × (worst cs ≤ d c.id) → amended.joins L cs c ≡ cs
    unfolding amended ends
    not_joined g =
        let h : worst cs ≤ c.dist = omega (arith, g.1) in
        rw (too_far_ends L cs c order, le-leb L (length cs) g.0, le-leb (worst cs) c.dist h)

  -- what our rules keep
  record Kept (s : Search) : Type 0 where
    within : All (λ c. elem c.id s.considered ≡ true) s.list
    dists : All (λ c. c.dist ≡ d c.id) s.list
    order : Ordered before s.list
    short : length s.list ≤ L
    known : All (Known s.list) s.considered

  record Alike (a b : Search) : Type 0 where
    list : a.list ≡ b.list
    visited : a.visited ≡ b.visited

  module _ (some : 1 ≤ L) (N : ℕ → List ℕ) where
    join_alike : (a b : Search) (t : ℕ) → Kept a → Alike a b → Kept (join amended L d N a t) × Alike (join amended L d N a t) (join by_list L d N b t)
    unfolding join amended by_list paper
    join_alike a b t f r = go (elem t a.considered) (elem t (ids b.list)) refl (ap (λ l. elem t (ids l)) r.list)
      where
        c : Candidate
        c = record { dist = d t; id = t }

        joined : Search → Search
        joined s = record { list = amended.joins L s.list c; visited = s.visited; considered = t ∷ s.considered }

        kept : elem t a.considered ≡ false → Kept (joined a)
        kept e =
            let other : All (λ x. x.id ≡ t → ⊥) a.list = all_map _ _ (λ x g i. true≢false (sym (rw i at g) ∙ e)) a.list f.within in
            rw (joins_enter L a.list c f.order other f.short) (record {
              within = all_enter _ L a.list c (all_map _ _ (λ x i. rw i (or-true (eqb x.id t))) a.list f.within) (rw (eq-eqb t t refl));
              dists = all_enter _ L a.list c f.dists refl;
              order = enter_ordered L a.list c other f.order;
              short = enter_short L a.list c some f.short;
              known = (now_known a.list c refl f.dists f.order, all_map _ _ (still_known a.list c refl f.dists f.order) a.considered f.known);
            })

        out : Known a.list t → elem t (ids a.list) ≡ false → amended.joins L a.list c ≡ a.list
        out (inl i) e = absurd (true≢false (sym i ∙ e))
        out (inr g) e = not_joined a.list c refl f.dists f.order g

        go : (p q : Bool) → elem t a.considered ≡ p → elem t (ids a.list) ≡ q
            → Kept (cond (not p) (joined a) a) × Alike (cond (not p) (joined a) a) (cond (not q) (joined b) b)
        go true true e g = (f, r)
        go true false e g =
            (f, record { list = sym (out (all_elem _ t a.considered f.known e) g) ∙ ap (λ l. amended.joins L l c) r.list; visited = r.visited })
        go false true e g = absurd (true≢false (sym (all_elem _ t (ids a.list) (all_ids _ a.list f.within) g) ∙ e))
        go false false e g = (kept e, record { list = ap (λ l. amended.joins L l c) r.list; visited = r.visited })

    joins_alike : (ts : List ℕ) (a b : Search) → Kept a → Alike a b
        → Kept (foldl (join amended L d N) a ts) × Alike (foldl (join amended L d N) a ts) (foldl (join by_list L d N) b ts)
    joins_alike [] a b f r = (f, r)
    joins_alike (t ∷ ts) a b f r = let next = join_alike a b t f r in joins_alike ts _ _ next.0 next.1

    turn_alike : (us : List Candidate) (a b : Search) → Kept a → Alike a b
        → Kept (turn amended L d N a us) × Alike (turn amended L d N a us) (turn by_list L d N b us)
    unfolding turn visit amended by_list
    turn_alike [] a b f r = (f, r)
    turn_alike (u ∷ us) a b f r = go (too_far L a.list p) (too_far L b.list p) (ap (λ l. too_far L l p) r.list)
      where
        p : Candidate
        p = nearest before u us

        go : (x y : Bool) → x ≡ y → Kept (cond x a (visit amended L d N a p)) × Alike (cond x a (visit amended L d N a p)) (cond y b (visit by_list L d N b p))
        go true true e = (f, r)
        go true false e = absurd (true≢false e)
        go false true e = absurd (true≢false (sym e))
        go false false e =
            joins_alike (N p.id) _ _ (record { within = f.within; dists = f.dists; order = f.order; short = f.short; known = f.known })
            (record { list = r.list; visited = ap (λ v. p.id ∷ v) r.visited })

    turns_alike : (n : ℕ) (a b : Search) → Kept a → Alike a b → Alike (turns amended L d N n a) (turns by_list L d N n b)
    unfolding turns unvisited
    turns_alike zero a b f r = r
    turns_alike (suc n) a b f r =
        let next = turn_alike (unvisited amended L d N a) a b f r in
        let same : unvisited amended L d N a ≡ unvisited by_list L d N b = λ i. filter (λ c. not (elem c.id (r.visited i))) (r.list i) in
        turns_alike n _ _ next.0 (subst (λ us. Alike (turn amended L d N a (unvisited amended L d N a)) (turn by_list L d N b us)) same next.1)

  start_kept : 1 ≤ L → (s : ℕ) → Kept (record { list = record { dist = d s; id = s } ∷ []; visited = []; considered = s ∷ [] })
  start_kept some s = let e : (eqb s s || false) ≡ true = rw (eq-eqb s s refl) in record { within = (e, tt); dists = (refl, tt); order = (tt, tt); short = some; known = (inl e, tt) }

pub considers_by_list : (n s k L : ℕ) (d : ℕ → ℕ) (N : ℕ → List ℕ) → greedy_search amended n s k L d N ≡ greedy_search by_list n s k L d N
unfolding greedy_search amended by_list
considers_by_list n s k L d N =
    let end = turns_alike (max 1 L) d (omega arith) N n _ _ (start_kept (max 1 L) d (omega arith) s) (record { list = refl; visited = refl }) in
    λ i. (take k (sort_by before (end.list i)), end.visited i)
