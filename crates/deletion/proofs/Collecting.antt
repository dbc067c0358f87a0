-- The candidates of one plan: slots whose rows hold the deleted one are recovered, and what was collected is the list of the definition. Assumes nothing.
use Prim.Native.Nat.{ℕ, ◌+◌, ◌-◌, ◌*◌, ◌/◌, ◌≤◌, ◌<◌}
use mathlib.Core.Bool.{Bool, true, false, not, ◌&&◌, cond}
use mathlib.Core.Path.{◌≡◌, refl, ap, ap₂, sym, ◌∙◌}
use mathlib.Core.List.{List, [], ◌∷◌, ◌++◌, map-append, map-id, append_assoc, append-nil}
use native.Mathlib.Omega.{arith}
use borrow.Author.Tests.{eqb-true}
use lib.Dec.{eqb, ltb}
use lib.Ieee.{Float}
use lib.ListN.{length, take, drop, get_or, length-drop}
use Rattle.lists.specs.Lists.{All, filter, elem, sort_by, sorted_set, part}
use Rattle.lists.proofs.All.{all_map, filter_test}
use Rattle.lists.proofs.Firsts.{filter_same}
use Rattle.lists.proofs.Unique.{Unique, unique_filter, unique_distinct}
use Rattle.vectors.specs.Distance.{f32}
use Rattle.candidates.specs.Candidates.{Candidate, ids}
use Rattle.candidates.specs.Inner.Words.{cand, cands, cands_of, put, kept, Remain}
use Rattle.candidates.proofs.Parts.{part_length, cands_front, cands_written, written_length, outside_written}
use borrow.Rule.Slice.PartMut.{put_mid}
use native.Mathlib.Decide.{dec_lt}
use Rattle.std.proofs.lemmas.List.{get_or_append_left, get_or-append_right, get_or-take, get_or-drop, length-take-le, length-append}
use Rattle.candidates.proofs.Words.{cands_length, cands_none, cands_agree, cands_moved, cands_kept, put_length, front_cons, front_each, front_split}
use Rattle.candidates.proofs.Scored.{ids_length}
use Rattle.slots.specs.Scratch.{work_at}
use Rattle.slots.specs.Store.{Arrays, Store, is_valid, vector_of, store_view}
use Rattle.slots.specs.Inner.Rows.{RowShape}
use Rattle.slots.proofs.Places.{live_inside, shape_fits}
use Rattle.walk.specs.Walk.{search_pool}
use Rattle.walk.specs.Inner.Scratch.{Pool}
use Rattle.walk.proofs.Ordered.{search_pool_found}
use Rattle.row.specs.Row.{index_of}
use Rattle.links.specs.Inner.Planning.{Plan}
use Rattle.deletion.specs.Inner.Naming.{Risen}
use Rattle.deletion.specs.Inner.Plans.{refers, RowsIn, Passed, recovered_by, Collectable, Collects}
use Rattle.deletion.proofs.Naming.{ids_push}

-- ---- slots are recovered
pub record Passing (p : ℕ → Bool) (w t₀ t : List ℕ) (m k : ℕ) : Type 0 where
  pub few : m ≤ k
  pub goes : ids (cands t 0 m) ++ filter p (ids (cands w (2 * k) (length w / 2 - k))) ≡ filter p (ids (cands_of w))
  pub size : length t ≡ length t₀

pub passing_none : (p : ℕ → Bool) (w t : List ℕ) → Passing p w t t 0 0
unfolding cands
passing_none p w t =
    let e : 2 * 0 ≡ 0 = omega arith in
    let z : length w / 2 - 0 ≡ length w / 2 = omega arith in
    record { few = omega arith; goes = rw (e, z); size = refl }

-- what `holds` asks
pub rows_ready : {a : Arrays} (w : List ℕ) → RowsIn a (cands_of w) → (k : ℕ) → k < length w / 2 → {x : ℕ} → x ≡ (cand w (2 * k)).id
    → (x * a.degree + a.degree ≤ length a.targets) × (x * a.degree + a.degree ≤ length a.edges)
rows_ready {a} w f k h e =
    let r = front_each (λ c. (c.id * a.degree + a.degree ≤ length a.targets) × (c.id * a.degree + a.degree ≤ length a.edges)) w (length w / 2) f.stored k h in
    (rw e r.0, rw e r.1)

module _ {p : ℕ → Bool} {w t₀ t : List ℕ} {m k : ℕ} (g : Passing p w t₀ t m k) where
  pub passing_more : length w ≤ length t₀ → k < length w / 2 → {x : ℕ} → x ≡ (cand w (2 * k)).id → p x ≡ true → Passing p w t₀ (put t (2 * m) x x) (m + 1) (k + 1)
  passing_more inside h {x} e o =
      let u : p (cand w (2 * k)).id ≡ true = ap p (sym e) ∙ o in
      record {
        few = omega (arith, g.few);
        goes = rw (ids_push t x x m (omega (arith, g.size, g.few)), append_assoc, e) (rw (front_cons w (length w / 2) k h, u) at g.goes);
        size = put_length t (2 * m) x x ∙ g.size;
      }

  pub passing_skip : k < length w / 2 → {x : ℕ} → x ≡ (cand w (2 * k)).id → p x ≡ false → Passing p w t₀ t m (k + 1)
  passing_skip h e o =
      let u : p (cand w (2 * k)).id ≡ false = ap p (sym e) ∙ o in
      record { few = omega (arith, g.few); goes = rw (front_cons w (length w / 2) k h, u) at g.goes; size = g.size }

  pub passing_done : k ≤ length w / 2 → length w / 2 ≤ k → Passed p (cands_of w) m t
  passing_done l h =
      let z : length w / 2 - k ≡ 0 = omega arith in
      record { list = rw (cands_none w (2 * k) (length w / 2 - k) z, append-nil) at g.goes; few = omega (arith, g.few, cands_length w 0 (length w / 2)) }

-- ---- the live ones of a rising list
-- a dead slot need not be left out by itself
kept_live : (marks : List ℕ) (id : ℕ) → is_valid marks id ≡ false → (s : ℕ) → kept marks id s ≡ is_valid marks s
unfolding kept
kept_live marks id e s = go (eqb s id) refl
  where
    go : (b : Bool) → eqb s id ≡ b → (not b && is_valid marks s) ≡ is_valid marks s
    go true k = sym (ap (is_valid marks) (eqb-true s id k) ∙ e)
    go false k = refl

ids_filter : (p : ℕ → Bool) (cs : List Candidate) → ids (filter (λ c. p c.id) cs) ≡ filter p (ids cs)
ids_filter p [] = refl
ids_filter p (c ∷ cs) = go (p c.id) (ids_filter p cs)
  where
    go : (b : Bool) → ids (filter (λ c. p c.id) cs) ≡ filter p (ids cs)
        → ids (cond b (c ∷ filter (λ c. p c.id) cs) (filter (λ c. p c.id) cs)) ≡ cond b (c.id ∷ filter p (ids cs)) (filter p (ids cs))
    go true r = ap (λ (l : List ℕ). c.id ∷ l) r
    go false r = r

-- the rising list is at the front of u, of which the live ones are at the front of x
module _ (marks : List ℕ) (s : ℕ) (dead : is_valid marks s ≡ false) {w u : List ℕ} {r : ℕ} (f : Risen w r u) (y : List ℕ) (e : cands_of y ≡ cands u 0 r)
    {m : ℕ} {x : List ℕ} (l : Remain y (filter (λ c. kept marks s c.id) (cands_of y)) m x) where
  live_left : cands x 0 m ≡ filter (λ c. is_valid marks c.id) (cands u 0 r)
  live_left = l.list ∙ ap (filter (λ c. kept marks s c.id)) e ∙ filter_same (λ c. kept marks s c.id) (λ c. is_valid marks c.id) (λ c. kept_live marks s dead c.id) (cands u 0 r)

  settled_list : ids (cands x 0 m) ≡ filter (is_valid marks) (sorted_set (ids (cands_of w)))
  settled_list = ap ids live_left ∙ ids_filter (is_valid marks) (cands u 0 r) ∙ ap (filter (is_valid marks)) f.list

  risen_once : Unique (ids (cands u 0 r))
  risen_once = rw f.list (rw (map-id (sorted_set (ids (cands_of w)))) at (unique_distinct (λ x. x) (sort_by ltb (ids (cands_of w)))))

  -- where they lie in all words
  settled_plan : {w' : List ℕ} {at : ℕ} → cands w' at m ≡ cands x 0 m → m ≤ 320 → Plan marks w' at m
  settled_plan i h =
      record {
        few = h;
        live = rw (i, live_left) (filter_test (λ c. is_valid marks c.id) (cands u 0 r));
        once = rw (i, live_left) (unique_filter (λ c. c.id) (λ c. is_valid marks c.id) (cands u 0 r) risen_once);
      }

-- ---- words of which the part from word m on is written
joined_low : (w z : List ℕ) (m j : ℕ) → m ≤ length w → j < m → get_or (take m w ++ z) j 0 ≡ get_or w j 0
joined_low w z m j h l =
    let e : length (take m w) ≡ m = length-take-le m w h in
    get_or_append_left (take m w) z 0 j (omega arith) ∙ get_or-take m w j 0 l

joined_high : (w z : List ℕ) (m j : ℕ) → m ≤ length w → get_or (take m w ++ z) (m + j) 0 ≡ get_or z j 0
joined_high w z m j h =
    let e : length (take m w) ≡ m = length-take-le m w h in
    let i : m + j - m ≡ j = omega arith in
    get_or-append_right (take m w) z m (m + j) 0 e (omega arith) ∙ ap (λ (k : ℕ). get_or z k 0) i

joined_length : (w z : List ℕ) (m : ℕ) → m ≤ length w → length z ≡ length (drop m w) → length (take m w ++ z) ≡ length w
joined_length w z m h e = length-append (take m w) z ∙ omega (arith, length-take-le m w h, e, length-drop m w)

joined_cands : (w z : List ℕ) (m n : ℕ) → m ≤ length w → cands (take m w ++ z) m n ≡ cands z 0 n
joined_cands w z m n h = let e : m + 0 ≡ m = omega arith in rw e at (cands_moved z (take m w ++ z) 0 (m + 0) n (λ j l. let i : m + 0 + j ≡ m + (0 + j) = omega arith in ap (λ (k : ℕ). get_or (take m w ++ z) k 0) i ∙ joined_high w z m (0 + j) h))

-- ---- the candidates of a plan
pool_inside : {a : Arrays} {query : List ℕ} {entry beam : ℕ} {w w' : List ℕ} {r : ℕ} → Pool a query entry beam w w' r → All (λ c. c.id < length a.marks) (cands w' 0 r)
unfolding store_view
pool_inside {a} {query} {entry} {beam} f =
    let b = index_of (f32 1) entry a in
    rw (f.list b refl refl refl)
    (all_map (λ c. is_valid a.marks c.id ≡ true) (λ c. c.id < length a.marks) (λ c. live_inside a.marks c.id) (search_pool (store_view b) query beam)
    (search_pool_found (store_view b) query beam (live_inside a.marks)).holds)

-- what a view shows, by the slices
refers_view : (b : Store) (s : ℕ) → refers b.arrays s ≡ (λ t. elem s ((store_view b).refs t))
unfolding store_view
refers_view b s = refl

vector_view : (b : Store) (s : ℕ) → part b.arrays.dim s b.arrays.vectors ≡ (store_view b).space.vector s
unfolding store_view vector_of
vector_view b s = refl

live_view : (b : Store) → is_valid b.arrays.marks ≡ (store_view b).live
unfolding store_view
live_view b = refl

module _ {a : Arrays} {s entry beam : ℕ} {w : List ℕ} {at r : ℕ} (d : Collectable a s entry beam w at r) where
  module _ {query : List ℕ} (is_query : query ≡ part a.dim s a.vectors) where
    module _ {w₁ : List ℕ} {n : ℕ} (f : Pool a query entry beam w w₁ n) where
      pool_few : n ≤ 256
      pool_few = omega (arith, f.few, d.beam_most)

      back : at ≤ length w₁
      back = omega (arith, f.size, d.inside)

      plan_long : length (drop at w₁) ≡ length w₁ - at
      plan_long = length-drop at w₁

      found : cands_of (take (2 * n) (take at w₁)) ≡ cands w₁ 0 n
      found =
          cands_front (take at w₁) n (omega (arith, length-take-le at w₁ back, pool_few, d.behind))
          ∙ cands_agree w₁ (take at w₁) 0 n (λ j _ h. get_or-take at w₁ j 0 (omega (arith, pool_few, d.behind)))

      pub collect_bounds : (at ≤ length w₁) × (2 * n ≤ length (take at w₁)) × (640 ≤ length (drop at w₁)) × (2 * r ≤ 640)
      collect_bounds = (back, omega (arith, length-take-le at w₁ back, pool_few, d.behind), omega (arith, plan_long, f.size, d.inside), omega (arith, d.few, d.low))

      pub collect_rows : RowShape a.degree a.targets a.edges a.versions a.marks → RowsIn a (cands_of (take (2 * n) (take at w₁))) × (length (take (2 * n) (take at w₁)) ≤ length (take (640 - 2 * r) (drop (2 * r) (drop at w₁))))
      collect_rows o = (
        record {
          stored = rw found (all_map (λ c. c.id < length a.marks) (λ c. (c.id * a.degree + a.degree ≤ length a.targets) × (c.id * a.degree + a.degree ≤ length a.edges))
              (λ c h. shape_fits o c.id h) (cands w₁ 0 n) (pool_inside f));
        },
        omega (arith, length-take-le (2 * n) (take at w₁) collect_bounds.1, part_length (drop at w₁) (2 * r) (640 - 2 * r) (omega (arith, collect_bounds.2, collect_bounds.3)), pool_few, d.few, d.low),
      )

      -- the recovered ones, v, are written behind the row
      module _ (v : List ℕ) (lv : length v ≡ length (take (640 - 2 * r) (drop (2 * r) (drop at w₁)))) {k : ℕ} (t : Passed (refers a s) (cands_of (take (2 * n) (take at w₁))) k v) where
        abbrev P₁ : List ℕ
        P₁ = put_mid (2 * r) (640 - 2 * r) (drop at w₁) v

        passed_few : k ≤ n
        passed_few = omega (arith, t.few, ap length found, cands_length w₁ 0 n)

        room : 2 * r + (640 - 2 * r) ≤ length (drop at w₁)
        room = omega (arith, collect_bounds.2, collect_bounds.3)

        long : length v ≡ 640 - 2 * r
        long = lv ∙ part_length (drop at w₁) (2 * r) (640 - 2 * r) room

        P₁_long : length P₁ ≡ length (drop at w₁)
        P₁_long = written_length (drop at w₁) v (2 * r) (640 - 2 * r) room long

        collect_few : r + k ≤ 320
        collect_few = omega (arith, passed_few, pool_few, d.few, d.low)

        collect_in : 2 * (r + k) ≤ length P₁
        collect_in = omega (arith, collect_few, P₁_long, collect_bounds.2)

        pub collect_fits : (r + k ≤ 320) × (2 * (r + k) ≤ length P₁)
        collect_fits = (collect_few, collect_in)

        found_list : (alpha : Float) → ids (cands v 0 k) ≡ recovered_by (store_view (index_of alpha entry a)) beam s
        found_list alpha =
            let b = index_of alpha entry a in
            t.list
            ∙ ap (λ (l : List Candidate). filter (refers a s) (ids l)) found
            ∙ ap (λ (p : ℕ → Bool). filter p (ids (cands w₁ 0 n))) (refers_view b s)
            ∙ ap (λ (l : List Candidate). filter (λ t. elem s ((store_view b).refs t)) (ids l))
            (f.list b refl refl refl ∙ ap (λ (l : List ℕ). search_pool (store_view b) l beam) (is_query ∙ vector_view b s))

        row_kept : cands P₁ 0 r ≡ cands w at r
        row_kept =
            cands_kept (2 * r) (640 - 2 * r) (drop at w₁) P₁ (outside_written (drop at w₁) v (2 * r) (640 - 2 * r) room long) 0 r (λ u. absurd (omega arith))
            ∙ cands_moved w₁ (drop at w₁) at 0 r (λ j h. get_or-drop at w₁ (0 + j) 0 ∙ (let z : at + (0 + j) ≡ at + j = omega arith in ap (λ (i : ℕ). get_or w₁ i 0) z))
            ∙ cands_kept 0 (work_at (length a.marks)) w w₁ f.same at r (λ u. omega (arith, d.behind))

        new_ones : cands P₁ (2 * r) k ≡ cands v 0 k
        new_ones =
            let z : 2 * r + 0 ≡ 2 * r = omega arith in
            rw z at (cands_written (drop at w₁) v (2 * r) (640 - 2 * r) room long 0 k (omega (arith, collect_few)))

        all_list : (alpha : Float) → ids (cands_of (take (2 * (r + k)) P₁)) ≡ ids (cands w at r) ++ recovered_by (store_view (index_of alpha entry a)) beam s
        all_list alpha =
            let e : r + k - r ≡ k = omega arith in
            ap ids (cands_front P₁ (r + k) collect_in ∙ front_split P₁ (r + k) r (omega arith) ∙ ap (λ (j : ℕ). cands P₁ 0 r ++ cands P₁ (2 * r) j) e)
            ∙ map-append (λ c. c.id) (cands P₁ 0 r) (cands P₁ (2 * r) k)
            ∙ ap₂ (λ (u v : List ℕ). u ++ v) (ap ids row_kept) (ap ids new_ones ∙ found_list alpha)

        -- sorted, as u
        module _ (u : List ℕ) (lu : length u ≡ length (take (2 * (r + k)) P₁)) {h : ℕ} (g : Risen (take (2 * (r + k)) P₁) h u) where
          abbrev P₂ : List ℕ
          P₂ = u ++ drop (2 * (r + k)) P₁

          u_long : length u ≡ 2 * (r + k)
          u_long = lu ∙ length-take-le (2 * (r + k)) P₁ collect_in

          P₂_long : length P₂ ≡ length (drop at w₁)
          P₂_long = written_length P₁ u 0 (2 * (r + k)) (omega (arith, collect_in)) u_long ∙ P₁_long

          risen_few : h ≤ r + k
          risen_few = omega (arith, g.few, lu, u_long)

          pub collect_keep : 2 * h ≤ length P₂
          collect_keep = omega (arith, risen_few, collect_few, P₂_long, collect_bounds.2)

          risen_list : cands_of (take (2 * h) P₂) ≡ cands u 0 h
          risen_list = cands_front P₂ h collect_keep ∙ cands_written P₁ u 0 (2 * (r + k)) (omega (arith, collect_in)) u_long 0 h (omega (arith, risen_few))

          -- the live ones, as x
          module _ (x : List ℕ) (lx : length x ≡ length (take (2 * h) P₂)) {m : ℕ} (l : Remain (take (2 * h) P₂) (filter (λ c. kept a.marks s c.id) (cands_of (take (2 * h) P₂))) m x) where
            abbrev P₃ : List ℕ
            P₃ = x ++ drop (2 * h) P₂

            x_long : length x ≡ 2 * h
            x_long = lx ∙ length-take-le (2 * h) P₂ collect_keep

            P₃_long : length P₃ ≡ length (drop at w₁)
            P₃_long = written_length P₂ x 0 (2 * h) (omega (arith, collect_keep)) x_long ∙ P₂_long

            left_few : m ≤ h
            left_few = omega (arith, l.within, lx, x_long)

            lies : cands (take at w₁ ++ P₃) at m ≡ cands x 0 m
            lies = joined_cands w₁ P₃ at m back ∙ cands_written P₂ x 0 (2 * h) (omega (arith, collect_keep)) x_long 0 m (omega (arith, left_few))

            -- what lies behind the plan stays
            behind : (j : ℕ) → 640 ≤ j → get_or P₃ j 0 ≡ get_or (drop at w₁) j 0
            behind j i =
                outside_written P₂ x 0 (2 * h) (omega (arith, collect_keep)) x_long j (λ _. omega (arith, risen_few, collect_few))
                ∙ outside_written P₁ u 0 (2 * (r + k)) (omega (arith, collect_in)) u_long j (λ _. omega (arith, collect_few))
                ∙ outside_written (drop at w₁) v (2 * r) (640 - 2 * r) room long j (λ _. omega (arith, collect_bounds.3))

            same : (j : ℕ) → (at ≤ j → at + 640 ≤ j) → get_or (take at w₁ ++ P₃) j 0 ≡ get_or w₁ j 0
            same j y = go (dec_lt j at)
              where
                go : Dec (j < at) → get_or (take at w₁ ++ P₃) j 0 ≡ get_or w₁ j 0
                go (yes q) = joined_low w₁ P₃ at j back q
                go (no q) =
                    let o : at + 640 ≤ j = y (omega arith) in
                    let z : at + (j - at) ≡ j = omega arith in
                    rw z at (joined_high w₁ P₃ at (j - at) back ∙ behind (j - at) (omega arith) ∙ get_or-drop at w₁ (j - at) 0)

            pub collected : Collects a s entry beam w at r k m (take at w₁ ++ P₃)
            collected =
                record {
                  counts = λ alpha. sym (cands_length v 0 k) ∙ sym (ids_length (cands v 0 k)) ∙ ap length (found_list alpha);
                  list = λ alpha.
                      let b = index_of alpha entry a in
                      ap ids lies
                      ∙ settled_list a.marks s d.dead g (take (2 * h) P₂) risen_list l
                      ∙ ap₂ (λ (p : ℕ → Bool) (xs : List ℕ). filter p (sorted_set xs)) (live_view b) (all_list alpha);
                  plan = settled_plan a.marks s d.dead g (take (2 * h) P₂) risen_list l lies (omega (arith, left_few, risen_few, collect_few));
                  found = omega (arith, passed_few, pool_few);
                  size = joined_length w₁ P₃ at back P₃_long ∙ f.size;
                  same = λ j i y. same j y ∙ f.same j (λ _. omega (arith, i));
                }
