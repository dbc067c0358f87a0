-- A row one place at a time: `live_at` finds the next live target, or that there is none at the place. Assumes nothing.
use Rattle.std.proofs.Common.{◌≡◌, ℕ, ◌+◌, ◌*◌, ◌<◌, ◌≤◌, Bool, true, false, cond, not, ◌&&◌, eqb, List, [], ◌∷◌, length, get_or, drop, sym, refl, ap, ◌∙◌, true≢false, add-one, arith, length-drop, drop_of_length-le, length-take, get_or-drop, drop-cons, get_or-take, eq-eqb, ne_eqb, eqb-true}
use mathlib.Core.Bool.{and-false, ◌||◌}
use native.Mathlib.Decide.{dec_lt}
use borrow.Author.Tests.{eqb-false}
use lib.ListN.{get_or-eq_default}
use Rattle.lists.specs.Lists.{filter, elem, part}
use Rattle.lists.proofs.Parts.{fits_in}
use Rattle.vectors.specs.Space.{Measure}
use Rattle.slots.specs.Store.{Arrays, Shaped, blank, is_valid, current, refs_of, arrays}
use Rattle.slots.specs.Inner.Rows.{RowShape, ref_of, ref_at, refs_from, live_from}
use Rattle.std.specs.List.{list_any, zip}
use Rattle.std.specs.Prelude.{Option, Some, None}

-- ---- marks

pub outside_dead : (marks : List ℕ) (s : ℕ) → length marks ≤ s → is_valid marks s ≡ false
unfolding is_valid
outside_dead marks s h = rw get_or-eq_default

pub live_inside : (marks : List ℕ) (s : ℕ) → is_valid marks s ≡ true → s < length marks
live_inside marks s e = go (dec_lt s (length marks))
  where
    go : Dec (s < length marks) → s < length marks
    go (yes h) = h
    go (no h) = absurd (true≢false (sym e ∙ outside_dead marks s (omega arith)))

-- ---- the shapes

-- the rows of well-shaped arrays can be read
pub rows_shaped : (n : ℕ) (a : Arrays) → Shaped n a → n ≤ 65536 → RowShape a.degree a.targets a.edges a.versions a.marks
rows_shaped n a f few =
    let m = f.marks_long in
    record { targets_long = rw m f.targets_long; edges_long = rw m f.edges_long; versions_long = f.versions_long ∙ sym m; few = rw m few }

-- a slot's row is inside both slices
pub shape_fits : {degree : ℕ} {targets edges versions marks : List ℕ} → RowShape degree targets edges versions marks → (s : ℕ) → s < length marks
    → (s * degree + degree ≤ length targets) × (s * degree + degree ≤ length edges)
shape_fits {degree} {targets} {edges} {marks = marks} f s h =
    (fits_in degree (length marks) s (length targets) h f.targets_long, fits_in degree (length marks) s (length edges) h f.edges_long)

-- ---- what the tests of the code say of a reference with target t

module _ (a : Arrays) (s place : ℕ) {t : ℕ} (e : t ≡ get_or a.targets (s * a.degree + place) 0) where
  pub ref_outside : length a.marks ≤ t → None ≡ ref_at a s place
  unfolding ref_at
  ref_outside h = rw (← e, outside_dead a.marks t h)

  pub ref_unmarked : get_or a.marks t 0 ≡ 0 → None ≡ ref_at a s place
  unfolding ref_at is_valid
  ref_unmarked h = rw (← e, h)

  pub ref_stale : (get_or a.edges (s * a.degree + place) 0 ≡ get_or a.versions t 0 → ⊥) → None ≡ ref_at a s place
  unfolding ref_at
  ref_stale h = rw (← e, ne_eqb (get_or a.edges (s * a.degree + place) 0) (get_or a.versions t 0) h, and-false)

  pub ref_live : (get_or a.marks t 0 ≡ 0 → ⊥) → get_or a.edges (s * a.degree + place) 0 ≡ get_or a.versions t 0 → Some t ≡ ref_at a s place
  unfolding ref_at is_valid
  ref_live h k = rw (← e, ne_eqb (get_or a.marks t 0) 0 h, eq-eqb (get_or a.edges (s * a.degree + place) 0) (get_or a.versions t 0) k)

-- ---- a row from a place on

pub refs_from_whole : (a : Arrays) (s : ℕ) → refs_from a s 0 ≡ refs_of a s
unfolding refs_from refs_of
refs_from_whole a s = refl

pub refs_from_end : (a : Arrays) (s place : ℕ) → a.degree ≤ place → refs_from a s place ≡ []
unfolding refs_from current
refs_from_end a s place h =
    let row : List ℕ = part a.degree s a.targets in
    let k : length row ≤ place = simp length-take (omega arith) in
    rw (drop_of_length-le row k)

module _ (a : Arrays) (s place : ℕ) (ft : s * a.degree + a.degree ≤ length a.targets) (fe : s * a.degree + a.degree ≤ length a.edges) (h : place < a.degree) where
  abbrev target : ℕ
  target = get_or a.targets (s * a.degree + place) 0

  abbrev edge : ℕ
  edge = get_or a.edges (s * a.degree + place) 0

  pub refs_from_step : refs_from a s place
      ≡ cond (not (eqb target blank) && eqb edge (get_or a.versions target 0)) (target ∷ refs_from a s (place + 1)) (refs_from a s (place + 1))
  unfolding refs_from current
  refs_from_step =
      let d = a.degree in
      let i : place < length (part d s a.targets) = simp (length-take, length-drop) (omega arith) in
      let j : place < length (part d s a.edges) = simp (length-take, length-drop) (omega arith) in
      let t : get_or (part d s a.targets) place 0 ≡ target = get_or-take d (drop (s * d) a.targets) place 0 h ∙ get_or-drop (s * d) a.targets place 0 in
      let e : get_or (part d s a.edges) place 0 ≡ edge =
      get_or-take d (drop (s * d) a.edges) place 0 h ∙ get_or-drop (s * d) a.edges place 0 in
      rw (add-one, drop-cons (part d s a.targets) place 0 i, drop-cons (part d s a.edges) place 0 j, t, e)

-- ---- the live targets from a place on

abbrev cons_ref : Option ℕ → List ℕ → List ℕ
cons_ref (Some t) l = t ∷ l
cons_ref None l = l

pub live_from_whole : (a : Arrays) (s : ℕ) → live_from a s 0 ≡ filter (is_valid a.marks) (refs_of a s)
unfolding live_from
live_from_whole a s = ap (filter (is_valid a.marks)) (refs_from_whole a s)

pub live_from_end : (a : Arrays) (s place : ℕ) → a.degree ≤ place → live_from a s place ≡ []
unfolding live_from
live_from_end a s place h = rw (refs_from_end a s place h)

module _ (a : Arrays) (f : RowShape a.degree a.targets a.edges a.versions a.marks) (s place : ℕ) (hs : s < length a.marks) (hp : place < a.degree) where
  live_from_step : live_from a s place ≡ cons_ref (ref_at a s place) (live_from a s (place + 1))
  unfolding live_from ref_at
  live_from_step = rw (refs_from_step a s place (shape_fits f s hs).0 (shape_fits f s hs).1 hp) (go (eqb t blank) (eqb e (get_or a.versions t 0)) (is_valid a.marks t) refl refl)
    where
      t : ℕ
      t = get_or a.targets (s * a.degree + place) 0

      e : ℕ
      e = get_or a.edges (s * a.degree + place) 0

      rest : List ℕ
      rest = refs_from a s (place + 1)

      go : (b c v : Bool) → eqb t blank ≡ b → is_valid a.marks t ≡ v
          → filter (is_valid a.marks) (cond (not b && c) (t ∷ rest) rest) ≡ cons_ref (ref_of (v && c) t) (filter (is_valid a.marks) rest)
      go true c true p q =
          let k : length a.marks ≤ t = rw (eqb-true t blank p) (omega (arith, f.few)) in
          absurd (true≢false (sym q ∙ outside_dead a.marks t k))
      go true c false p q = refl
      go false true true p q = rw q
      go false true false p q = rw q
      go false false true p q = refl
      go false false false p q = refl

  pub live_from_at : {r : Option ℕ} {t : ℕ} → r ≡ ref_at a s place → r ≡ Some t → live_from a s place ≡ t ∷ live_from a s (place + 1)
  live_from_at e h = live_from_step ∙ rw (← e, h)

  pub live_from_dead : {r : Option ℕ} → r ≡ ref_at a s place → r ≡ None → live_from a s place ≡ live_from a s (place + 1)
  live_from_dead e h = live_from_step ∙ rw (← e, h)

-- a live reference has the target that stands in the row
pub ref_target : (a : Arrays) (s place : ℕ) {t : ℕ} → Some t ≡ ref_at a s place → t ≡ get_or a.targets (s * a.degree + place) 0
unfolding ref_at
ref_target a s place {t} = go (is_valid a.marks x && eqb (get_or a.edges (s * a.degree + place) 0) (get_or a.versions x 0))
  where
    x : ℕ
    x = get_or a.targets (s * a.degree + place) 0

    go : (b : Bool) → Some t ≡ ref_of b x → t ≡ x
    go true e = cc
    go false e = absurd (let z : ◌≡◌ {A = ℕ} 0 1 = cc in omega arith)

-- a target that is found is live, and so inside
module _ (a : Arrays) (s place : ℕ) {r : Option ℕ} {t : ℕ} (e : r ≡ ref_at a s place) (h : r ≡ Some t) where
  pub ref_valid : is_valid a.marks t ≡ true
  unfolding ref_at
  ref_valid = go (is_valid a.marks x) (eqb (get_or a.edges (s * a.degree + place) 0) (get_or a.versions x 0)) refl (sym h ∙ e)
    where
      x : ℕ
      x = get_or a.targets (s * a.degree + place) 0

      go : (v c : Bool) → is_valid a.marks x ≡ v → Some t ≡ ref_of (v && c) x → is_valid a.marks t ≡ true
      go true true l k = let q : t ≡ x = cc in rw q l
      go true false l k = absurd (let z : ◌≡◌ {A = ℕ} 0 1 = cc in omega arith)
      go false c l k = absurd (let z : ◌≡◌ {A = ℕ} 0 1 = cc in omega arith)

  pub ref_inside : t < length a.marks
  ref_inside = live_inside a.marks t ref_valid

-- ---- looking for a reference

-- a row holds id where one of its references has it as target and its version
pub looking_any : (versions : List ℕ) (id v : ℕ) → (id ≡ blank → ⊥) → v ≡ get_or versions id 0 → (ts es : List ℕ)
    → list_any (λ r. eqb r.0 id && eqb r.1 v) (zip ts es) ≡ elem id (current versions ts es)
unfolding current
looking_any versions id v b e [] es = refl
looking_any versions id v b e (t ∷ ts) [] = refl
looking_any versions id v b e (t ∷ ts) (x ∷ es) = go (eqb t id) refl (looking_any versions id v b e ts es)
  where
    rest : List ℕ
    rest = current versions ts es

    go : (q : Bool) → eqb t id ≡ q → list_any (λ r. eqb r.0 id && eqb r.1 v) (zip ts es) ≡ elem id rest
        → ((q && eqb x v) || list_any (λ r. eqb r.0 id && eqb r.1 v) (zip ts es)) ≡ elem id (cond (not (eqb t blank) && eqb x (get_or versions t 0)) (t ∷ rest) rest)
    go true q ih =
        let z : t ≡ id = eqb-true t id q in
        rw (z, ne_eqb id blank b, ← e) (same (eqb x v))
      where
        same : (c : Bool) → (c || list_any (λ r. eqb r.0 id && eqb r.1 v) (zip ts es)) ≡ elem id (cond c (id ∷ rest) rest)
        same true = rw (eq-eqb id id refl)
        same false = ih
    go false q ih = ih ∙ sym (other (not (eqb t blank) && eqb x (get_or versions t 0)))
      where
        other : (c : Bool) → elem id (cond c (t ∷ rest) rest) ≡ elem id rest
        other true = rw (ne_eqb id t (λ z. eqb-false t id q (sym z)))
        other false = refl

-- no row holds a blank one
no_blank : (versions ts es : List ℕ) → false ≡ elem blank (current versions ts es)
unfolding current
no_blank versions [] es = refl
no_blank versions (t ∷ ts) [] = refl
no_blank versions (t ∷ ts) (e ∷ es) = go (eqb t blank) (eqb e (get_or versions t 0)) refl (no_blank versions ts es)
  where
    go : (b c : Bool) → eqb t blank ≡ b → false ≡ elem blank (current versions ts es)
        → false ≡ elem blank (cond (not b && c) (t ∷ current versions ts es) (current versions ts es))
    go true c p ih = ih
    go false true p ih = rw (ne_eqb blank t (λ q. eqb-false t blank p (sym q))) ih
    go false false p ih = ih

pub looking_blank : {id : ℕ} → id ≡ blank → (degree : ℕ) (targets edges versions : List ℕ) (s : ℕ)
    → (measure : Measure) (dim : ℕ) (vectors marks : List ℕ) → false ≡ elem id (refs_of (arrays measure dim degree vectors targets edges versions marks) s)
unfolding refs_of
looking_blank e degree targets edges versions s measure dim vectors marks = rw e (no_blank versions (part degree s targets) (part degree s edges))
