-- References draw a sample near: one after the other, candidate by candidate. Assumes nothing.
use Prim.Native.Nat.{ℕ, ◌+◌, ◌-◌, ◌*◌, ◌/◌, min, ◌≤◌, ◌<◌}
use mathlib.Core.Bool.{Bool, true, false, not, cond}
use mathlib.Core.Path.{◌≡◌, refl, ap, sym, ◌∙◌}
use mathlib.Core.List.{List, [], ◌∷◌, ◌++◌, append_assoc, append-nil}
use native.Mathlib.Omega.{arith}
use borrow.Author.Tests.{eq-eqb, ne_eqb}
use lib.Dec.{eqb}
use lib.ListN.{length, take, drop, get_or}
use Rattle.lists.specs.Lists.{All, filter, elem, least_of}
use Rattle.lists.proofs.All.{by_cases, all_append}
use Rattle.lists.proofs.Filtered.{filter_all}
use Rattle.lists.proofs.Least.{least_with, least_cons, least_min}
use Rattle.std.proofs.lemmas.List.{at_drop_more, length-take-le}
use Rattle.lists.proofs.Unique.{or_false_l, or_false_r}
use Rattle.vectors.specs.Space.{Measured}
use Rattle.candidates.specs.Candidates.{Candidate, scored}
use Rattle.candidates.specs.Inner.Words.{pair, cands, cands_of, put}
use Rattle.candidates.proofs.Parts.{cands_front, cands_written, written_length}
use Rattle.candidates.proofs.Words.{cands_none, front_cons, cands_put, put_length, front_push}
use Rattle.landmarks.specs.Inner.Samples.{far}
use Rattle.vectors.specs.Lent.{HasVector}
use Rattle.vectors.specs.declared.Space.{Space}
use Rattle.landmarks.specs.Inner.Choices.{drawn, drawn_all, Listed, Drew}

pub all_drawn : (P : ℕ → Type 0) (d : ℕ → ℕ → ℕ) (next : ℕ) (cs : List Candidate) → All (λ c. P c.id) cs → All (λ c. P c.id) (drawn d next cs)
all_drawn P d next [] h = tt
all_drawn P d next (c ∷ cs) h =
    let rest = all_drawn P d next cs h.1 in
    by_cases (All (λ c. P c.id)) (eqb c.id next) (λ e. rest) (λ e. (h.0, rest))

-- ---- one reference: k candidates are looked at, m of them kept
pub record Drawing (space : Space) (d : ℕ → ℕ → ℕ) (next : ℕ) (w₀ : List ℕ) (n : ℕ) (w : List ℕ) (m k : ℕ) : Type 0 where
  pub within : m ≤ k
  pub goes : cands w 0 m ++ drawn d next (cands w (2 * k) (n - k)) ≡ drawn d next (cands w₀ 0 n)
  pub inside : All (λ c. HasVector space c.id) (cands w (2 * k) (n - k))
  pub near : All (λ c. c.dist ≤ 16646400) (cands w 0 m)
  pub size : length w ≡ length w₀

pub drawing_none : {space : Space} (d : ℕ → ℕ → ℕ) (next : ℕ) {w : List ℕ} {n : ℕ} → Listed space w n
    → Drawing space d next w n w 0 0
drawing_none d next {w} {n} f =
    let e : n - 0 ≡ n = omega arith in
    let g : 2 * 0 ≡ 0 = omega arith in
    record { within = omega arith; goes = rw (cands_none w 0 0 refl, e, g); inside = rw (e, g) f.inside; near = rw (cands_none w 0 0 refl) tt; size = refl }

module _ {space : Space} {d : ℕ → ℕ → ℕ} {next : ℕ} {w₀ : List ℕ} {n : ℕ} {w : List ℕ} {m k : ℕ} (f : Drawing space d next w₀ n w m k) where
  pub drawing_inside : {id : ℕ} → k < n → id ≡ get_or w (2 * k + 1) 0 → HasVector space id
  drawing_inside h e = rw e (rw (front_cons w n k h) at f.inside).0

  pub drawing_take : {dist id y x : ℕ} → 2 * n ≤ length w₀ → k < n → dist ≡ get_or w (2 * k) 0 → id ≡ get_or w (2 * k + 1) 0 → (id ≡ next → ⊥)
      → Measured (d id next) y → x ≡ min dist y → Drawing space d next w₀ n (put w (2 * m) x id) (m + 1) (k + 1)
  drawing_take {dist} {id} {y} {x} l h e g q p r =
      let i : 2 * m + 1 < length w = omega (arith, f.within, f.size) in
      let z : eqb (get_or w (2 * k + 1) 0) next ≡ false = ne_eqb _ next (λ o. q (g ∙ o)) in
      let y_is : y ≡ d (get_or w (2 * k + 1) 0) next = p.equals ∙ rw g in
      let x_is : x ≡ min (get_or w (2 * k) 0) (d (get_or w (2 * k + 1) 0) next) = rw (r, y_is, e) in
      let small : x ≤ 16646400 = omega (arith, p.bound) in
      let o : cands (put w (2 * m) x id) (2 * (k + 1)) (n - (k + 1)) ≡ cands w (2 * (k + 1)) (n - (k + 1)) = cands_put w (2 * m) x id (2 * (k + 1)) (n - (k + 1)) (λ _. omega (arith, f.within)) in
      record {
        within = omega (arith, f.within);
        goes = rw (front_push w x id m i, append_assoc, o, x_is, g) (rw (front_cons w n k h, z) at f.goes);
        inside = rw o (rw (front_cons w n k h) at f.inside).1;
        near = rw (front_push w x id m i) (all_append (λ c. c.dist ≤ 16646400) (cands w 0 m) (pair x id ∷ []) f.near (small, tt));
        size = put_length w (2 * m) x id ∙ f.size;
      }

  pub drawing_skip : {id : ℕ} → k < n → id ≡ get_or w (2 * k + 1) 0 → id ≡ next → Drawing space d next w₀ n w m (k + 1)
  drawing_skip {id} h g q =
      let z : eqb (get_or w (2 * k + 1) 0) next ≡ true = eq-eqb _ next (sym g ∙ q) in
      record {
        within = omega (arith, f.within);
        goes = rw (front_cons w n k h, z) at f.goes;
        inside = (rw (front_cons w n k h) at f.inside).1;
        near = f.near;
        size = f.size;
      }

  pub drawing_done : k ≤ n → n ≤ k → Drew w₀ n (drawn d next (cands w₀ 0 n)) w m
  drawing_done b h =
      let z : n - k ≡ 0 = omega arith in
      record { list = rw (cands_none w (2 * k) (n - k) z, append-nil) at f.goes; within = omega (arith, f.within); near = f.near; size = f.size }

-- ---- the first m candidates of some words as a list
pub part_is : (w : List ℕ) (m : ℕ) → 2 * m ≤ length w → cands_of (take (2 * m) w) ≡ cands w 0 m
part_is w m h = cands_front w m h

part_half : (w : List ℕ) (m : ℕ) → 2 * m ≤ length w → length (take (2 * m) w) / 2 ≡ m
part_half w m h = omega (arith, length-take-le (2 * m) w h)

pub part_listed : {space : Space} {w : List ℕ} {m : ℕ} → Listed space w m → Listed space (take (2 * m) w) (length (take (2 * m) w) / 2)
part_listed {space} {w} {m} f = record { small = f.small; room = omega arith; inside = rw (cands_front w m f.room) f.inside }

drew_part : {l : List Candidate} (w : List ℕ) (m : ℕ) (v : List ℕ) {r : ℕ} → 2 * m ≤ length w → length v ≡ length (take (2 * m) w) → Drew (take (2 * m) w) (length (take (2 * m) w) / 2) l v r → Drew w m l (v ++ drop (2 * m) w) r
drew_part w m v {r} h e g =
    let long : length v ≡ 2 * m = e ∙ length-take-le (2 * m) w h in
    let few : r ≤ m = omega (arith, g.within, part_half w m h) in
    let same : cands (v ++ drop (2 * m) w) 0 r ≡ cands v 0 r = cands_written w v 0 (2 * m) (omega arith) long 0 r (omega arith) in
    record { list = same ∙ g.list; within = few; near = rw same g.near; size = written_length w v 0 (2 * m) (omega arith) long }

pub part_drew : (d : ℕ → ℕ → ℕ) (next : ℕ) (w : List ℕ) (m : ℕ) (v : List ℕ) {r : ℕ} → 2 * m ≤ length w → length v ≡ length (take (2 * m) w)
    → Drew (take (2 * m) w) (length (take (2 * m) w) / 2) (drawn d next (cands_of (take (2 * m) w))) v r → Drew w m (drawn d next (cands w 0 m)) (v ++ drop (2 * m) w) r
part_drew d next w m v h e g = let f = drew_part w m v h e g in record { list = f.list ∙ ap (drawn d next) (cands_front w m h); within = f.within; near = f.near; size = f.size }

pub part_drew_all : (d : ℕ → ℕ → ℕ) (references : List ℕ) (w : List ℕ) (m : ℕ) (v : List ℕ) {r : ℕ} → 2 * m ≤ length w → length v ≡ length (take (2 * m) w)
    → Drew (take (2 * m) w) (length (take (2 * m) w) / 2) (drawn_all d references (cands_of (take (2 * m) w))) v r → Drew w m (drawn_all d references (cands w 0 m)) (v ++ drop (2 * m) w) r
part_drew_all d references w m v h e g = let f = drew_part w m v h e g in record { list = f.list ∙ ap (drawn_all d references) (cands_front w m h); within = f.within; near = f.near; size = f.size }

-- what is left can be drawn to the next one
pub drew_listed : {space : Space} (d : ℕ → ℕ → ℕ) (next : ℕ) {w : List ℕ} {n : ℕ} {w' : List ℕ} {r : ℕ} → Listed space w n
    → Drew w n (drawn d next (cands w 0 n)) w' r → Listed space w' r
drew_listed {space} d next {w} {n} f g =
    record { small = f.small; room = omega (arith, f.room, g.within, g.size); inside = rw g.list (all_drawn (HasVector space) d next (cands w 0 n) f.inside) }

-- ---- all references: the first one, and those of the list before place i, have drawn near
pub record DrawingAll (space : Space) (d : ℕ → ℕ → ℕ) (l : List ℕ) (w₀ : List ℕ) (n : ℕ) (w : List ℕ) (m i : ℕ) : Type 0 where
  pub goes : drawn_all d (drop i l) (cands w 0 m) ≡ drawn_all d l (cands w₀ 0 n)
  pub listed : Listed space w m
  pub within : m ≤ n
  pub near : All (λ c. c.dist ≤ 16646400) (cands w 0 m)
  pub size : length w ≡ length w₀

-- the first reference has
pub drawing_first : {space : Space} (d : ℕ → ℕ → ℕ) (l : List ℕ) (next : ℕ) {w : List ℕ} {n : ℕ} {w' : List ℕ} {r : ℕ} → Listed space w n
    → Drew w n (drawn d next (cands w 0 n)) w' r → DrawingAll space d l w' r w' r 0
drawing_first d l next f g = record { goes = refl; listed = drew_listed d next f g; within = omega arith; near = g.near; size = refl }

module _ {space : Space} {d : ℕ → ℕ → ℕ} {l : List ℕ} {w₀ : List ℕ} {n : ℕ} {w : List ℕ} {m i : ℕ} (f : DrawingAll space d l w₀ n w m i) where
  pub drawing_next : {w' : List ℕ} {r : ℕ} → i < length l → Drew w m (drawn d (get_or l i 0) (cands w 0 m)) w' r → DrawingAll space d l w₀ n w' r (i + 1)
  drawing_next h g =
      record {
        goes = rw g.list (sym (at_drop_more (λ (z : List ℕ). drawn_all d z (cands w 0 m)) l i 0 h) ∙ f.goes);
        listed = drew_listed d (get_or l i 0) f.listed g;
        within = omega (arith, f.within, g.within);
        near = g.near;
        size = g.size ∙ f.size;
      }

-- ---- a sample that is drawn to some references has its least distances to them
pub drawn_scored : (d : ℕ → ℕ → ℕ) (near : ℕ → ℕ) (next : ℕ) (xs : List ℕ)
    → drawn d next (scored near xs) ≡ scored (λ s. min (near s) (d s next)) (filter (λ y. not (eqb y next)) xs)
drawn_scored d near next [] = refl
drawn_scored d near next (x ∷ xs) = go (eqb x next) (drawn_scored d near next xs)
  where
    go : (b : Bool) → drawn d next (scored near xs) ≡ scored (λ s. min (near s) (d s next)) (filter (λ y. not (eqb y next)) xs)
        → cond b (drawn d next (scored near xs)) (pair (min (near x) (d x next)) x ∷ drawn d next (scored near xs))
        ≡ scored (λ s. min (near s) (d s next)) (cond (not b) (x ∷ filter (λ y. not (eqb y next)) xs) (filter (λ y. not (eqb y next)) xs))
    go true f = f
    go false f = ap (λ (cs : List Candidate). pair (min (near x) (d x next)) x ∷ cs) f

all_parts : (r : ℕ) (rs xs : List ℕ) → All (λ s. elem s (r ∷ rs) ≡ false) xs → All (λ s. not (eqb s r) ≡ true) xs × All (λ s. elem s rs ≡ false) xs
all_parts r rs [] h = (tt, tt)
all_parts r rs (x ∷ xs) h =
    let rest = all_parts r rs xs h.1 in
    ((ap not (or_false_l (eqb x r) (elem x rs) h.0), rest.0), (or_false_r (eqb x r) (elem x rs) h.0, rest.1))

drawn_least : (d : ℕ → ℕ → ℕ) (near : ℕ → ℕ) (rs xs : List ℕ) → All (λ s. elem s rs ≡ false) xs
    → drawn_all d rs (scored near xs) ≡ scored (λ s. least_with (d s) (near s) rs) xs
drawn_least d near [] xs h = refl
drawn_least d near (r ∷ rs) xs h =
    let both = all_parts r rs xs h in
    ap (drawn_all d rs) (drawn_scored d near r xs ∙ ap (scored (λ s. min (near s) (d s r))) (filter_all (λ y. not (eqb y r)) xs both.0))
    ∙ drawn_least d (λ s. min (near s) (d s r)) rs xs both.1

pub scored_among : (f g : ℕ → ℕ) (xs : List ℕ) → All (λ s. f s ≡ g s) xs → scored f xs ≡ scored g xs
scored_among f g [] h = refl
scored_among f g (x ∷ xs) h = rw (h.0, scored_among f g xs h.1)

-- measured distances are below the one that a sampled slot begins with
below_far : (d : ℕ → ℕ → ℕ) (entry : ℕ) (rs xs : List ℕ) → All (λ c. c.dist ≤ 16646400) (scored (λ s. least_with (d s) (far s) (entry ∷ rs)) xs)
    → All (λ s. least_with (d s) (far s) (entry ∷ rs) ≡ least_of (d s) (entry ∷ rs)) xs
below_far d entry rs [] h = tt
below_far d entry rs (x ∷ xs) h = (one, below_far d entry rs xs h.1)
  where
    one : least_with (d x) (far x) (entry ∷ rs) ≡ least_of (d x) (entry ∷ rs)
    one =
        let e : min (far x) (d x entry) ≡ min (d x entry) (far x) = omega arith in
        let g : least_with (d x) (min (far x) (d x entry)) rs ≡ min (least_with (d x) (d x entry) rs) (far x) = ap (λ (k : ℕ). least_with (d x) k rs) e ∙ least_min (d x) (d x entry) (far x) rs in
        omega (arith, h.0, g, least_cons (d x) entry rs)

pub drawn_sample : (d : ℕ → ℕ → ℕ) (entry : ℕ) (rs xs : List ℕ) {w : List ℕ} {n : ℕ} {w' : List ℕ} {r : ℕ} → All (λ s. elem s (entry ∷ rs) ≡ false) xs
    → cands w 0 n ≡ scored far xs → Drew w n (drawn_all d (entry ∷ rs) (cands w 0 n)) w' r → cands w' 0 r ≡ scored (λ s. least_of (d s) (entry ∷ rs)) xs
drawn_sample d entry rs xs {w} {n} {w'} {r} h e f =
    let g : cands w' 0 r ≡ scored (λ s. least_with (d s) (far s) (entry ∷ rs)) xs = f.list ∙ ap (drawn_all d (entry ∷ rs)) e ∙ drawn_least d far (entry ∷ rs) xs h in
    g ∙ scored_among _ _ xs (below_far d entry rs xs (rw g at f.near))
