-- What holds of every index that calls have reached (`Reached`), kept by the operations of the plain index. Assumes nothing.
use Rattle.std.proofs.Common.{◌≡◌, ℕ, ◌<◌, Bool, true, false, cond, not, ◌&&◌, ◌||◌, eqb, ltb, List, [], ◌∷◌, take, sym, refl, ap, ◌∙◌, true≢false, arith, ltb-true, lt-ltb, eqb-true}
use Rattle.std.proofs.lemmas.Bool.{and_parts, or_left}
use Rattle.lists.specs.Lists.{filter, foldl, elem, All}
use Rattle.lists.proofs.All.{by_cases, all_map, all_both, all_take, all_filter, filter_test}
use Rattle.slots.specs.View.{View, Reached}
use Rattle.slots.specs.Ops.{Row, write_rows}
use Rattle.slots.specs.Store.{blank}
use Rattle.slots.specs.Plain.{other_than, plain_ops}

-- ---- a slot is filled

module _ (v : View) (r : Reached v) (s : ℕ) (vector : List ℕ) where
  filled_inside : (t : ℕ) (b : Bool) → (ltb s v.sizes.capacity && eqb t s) ≡ b → cond b true (v.live t) ≡ true → t < v.sizes.capacity
  filled_inside t true e h =
      let k = and_parts (ltb s v.sizes.capacity) (eqb t s) e in
      omega (arith, ltb-true s v.sizes.capacity k.0, eqb-true t s k.1)
  filled_inside t false e h = r.live_inside t h

  pub reached_filled : Reached (plain_ops.fill v s vector)
  unfolding plain_ops
  reached_filled = record {
    live_inside = λ t h. filled_inside t (ltb s v.sizes.capacity && eqb t s) refl h;
    live_targets = λ t. by_cases (All (λ u. cond (ltb s v.sizes.capacity && eqb u s) true (v.live u) ≡ true)) (ltb s v.sizes.capacity && eqb t s) (λ e. tt)
        (λ e. all_map _ _ (λ u h. by_cases (λ (x : Bool). x ≡ true) (ltb s v.sizes.capacity && eqb u s) (λ g. refl) (λ g. h)) (v.refs t) (r.live_targets t));
  }

-- ---- while slots are being deleted: a reference leads to a live slot or to one that is `gone`

abbrev pub Held : List ℕ → View → Type 0
Held gone v = (s : ℕ) → All (λ t. (v.live t || elem t gone) ≡ true) (v.refs s)

pub held_reached : (v : View) → Reached v → Held [] v
held_reached v r s = all_map _ _ (λ t h. or_left (v.live t) false h) (v.refs s) (r.live_targets s)

pub none_gone : (v : View) → Held [] v → (s : ℕ) → All (λ t. v.live t ≡ true) (v.refs s)
none_gone v h s = all_map _ _ (λ t e. go (v.live t) e) (v.refs s) (h s)
  where
    go : (b : Bool) → (b || false) ≡ true → b ≡ true
    go true e = refl
    go false e = e

-- ---- rows are written

-- the live slots, the entry and the sizes stay
pub record Rewritten (v u : View) : Type 0 where
  pub live : u.live ≡ v.live
  pub entry : u.entry ≡ v.entry
  pub sizes : u.sizes ≡ v.sizes

pub rows_rewritten : (v : View) (rows : List Row) → Rewritten v (write_rows plain_ops v rows)
unfolding plain_ops
rows_rewritten v [] = record { live = refl; entry = refl; sizes = refl }
rows_rewritten v (row ∷ rows) = let w = rows_rewritten (plain_ops.write v row.source row.targets) rows in record { live = w.live; entry = w.entry; sizes = w.sizes }

pub held_rows : (gone : List ℕ) (rows : List Row) (v : View) → All (λ (row : Row). All (λ t. v.live t ≡ true) row.targets) rows → Held gone v → Held gone (write_rows plain_ops v rows)
unfolding plain_ops
held_rows gone [] v h held = held
held_rows gone (row ∷ rows) v h held =
    held_rows gone rows (plain_ops.write v row.source row.targets) h.1
    (λ s. by_cases (All (λ t. (v.live t || elem t gone) ≡ true)) (ltb row.source v.sizes.capacity && eqb s row.source)
    (λ e. all_filter _ (other_than blank) (take v.sizes.degree row.targets) (all_take _ v.sizes.degree row.targets
    (all_map _ _ (λ t l. or_left (v.live t) (elem t gone) l) row.targets h.0))) (λ e. held s))

-- rows of live slots
pub reached_rows : (v : View) (rows : List Row) → Reached v → All (λ (row : Row). All (λ t. v.live t ≡ true) row.targets) rows
    → Reached (write_rows plain_ops v rows)
reached_rows v rows r live =
    let u = write_rows plain_ops v rows in
    let w = rows_rewritten v rows in
    record {
      live_inside = λ t h. let i = r.live_inside t (sym (ap (λ (f : ℕ → Bool). f t) w.live) ∙ h) in rw w.sizes i;
      live_targets = none_gone u (held_rows [] rows v live (held_reached v r));
    }

-- ---- slots are killed

-- a live slot stays live, unless it is one of them
kill_live : (v : View) (ss : List ℕ) (t : ℕ) → v.live t ≡ true → ((foldl plain_ops.kill v ss).live t || elem t ss) ≡ true
unfolding plain_ops
kill_live v [] t h = or_left (v.live t) false h
kill_live v (x ∷ xs) t h = go (ltb x v.sizes.capacity && eqb t x) refl (λ l. kill_live (plain_ops.kill v x) xs t l)
  where
    later : (a b c : Bool) → (a || c) ≡ true → (a || (b || c)) ≡ true
    later true b c e = refl
    later false true c e = refl
    later false false c e = e

    named : (a b c : Bool) → b ≡ true → (a || (b || c)) ≡ true
    named true b c e = refl
    named false true c e = refl
    named false false c e = absurd (true≢false (sym e))

    go : (b : Bool) → (ltb x v.sizes.capacity && eqb t x) ≡ b
        → ((plain_ops.kill v x).live t ≡ true → ((foldl plain_ops.kill (plain_ops.kill v x) xs).live t || elem t xs) ≡ true)
        → ((foldl plain_ops.kill (plain_ops.kill v x) xs).live t || (eqb t x || elem t xs)) ≡ true
    go true e rest = named ((foldl plain_ops.kill (plain_ops.kill v x) xs).live t) (eqb t x) (elem t xs) (and_parts (ltb x v.sizes.capacity) (eqb t x) e).1
    go false e rest = later ((foldl plain_ops.kill (plain_ops.kill v x) xs).live t) (eqb t x) (elem t xs) (rest (rw e h))

-- what is live after was live before
pub killed_less : (v : View) (ss : List ℕ) (t : ℕ) → (foldl plain_ops.kill v ss).live t ≡ true → v.live t ≡ true
unfolding plain_ops
killed_less v [] t h = h
killed_less v (x ∷ xs) t h = go (ltb x v.sizes.capacity && eqb t x) (killed_less (plain_ops.kill v x) xs t h)
  where
    go : (b : Bool) → cond b false (v.live t) ≡ true → v.live t ≡ true
    go true e = absurd (true≢false (sym e))
    go false e = e

-- all else stays
pub record Killed (v u : View) : Type 0 where
  pub refs : u.refs ≡ v.refs
  pub entry : u.entry ≡ v.entry
  pub sizes : u.sizes ≡ v.sizes

pub slots_killed : (v : View) (ss : List ℕ) → Killed v (foldl plain_ops.kill v ss)
unfolding plain_ops
slots_killed v [] = record { refs = refl; entry = refl; sizes = refl }
slots_killed v (x ∷ xs) = let k = slots_killed (plain_ops.kill v x) xs in record { refs = k.refs; entry = k.entry; sizes = k.sizes }

pub held_killed : (v : View) (ss : List ℕ) → Reached v → Held ss (foldl plain_ops.kill v ss)
held_killed v ss r s =
    let k : (foldl plain_ops.kill v ss).refs s ≡ v.refs s = ap (λ (f : ℕ → List ℕ). f s) (slots_killed v ss).refs in
    rw k (all_map _ _ (λ t h. kill_live v ss t h) (v.refs s) (r.live_targets s))

-- ---- deleted slots are finished

pub slots_finished : (v : View) (ss : List ℕ) → Rewritten v (foldl plain_ops.finish v ss)
unfolding plain_ops
slots_finished v [] = record { live = refl; entry = refl; sizes = refl }
slots_finished v (x ∷ xs) = let w = slots_finished (plain_ops.finish v x) xs in record { live = w.live; entry = w.entry; sizes = w.sizes }

-- each is struck out of every row
pub held_finished : (v : View) (ss : List ℕ) → All (λ s. s < v.sizes.capacity) ss → Held ss v → Held [] (foldl plain_ops.finish v ss)
unfolding plain_ops
held_finished v [] inside held = held
held_finished v (x ∷ xs) inside held =
    held_finished (plain_ops.finish v x) xs inside.1
    (λ s. rw (lt-ltb x v.sizes.capacity inside.0) (by_cases (All (λ t. (v.live t || elem t xs) ≡ true)) (eqb s x) (λ e. tt)
    (λ e. all_map _ _ (λ t h. drop_first (v.live t) (eqb t x) (elem t xs) h.0 h.1) (filter (other_than x) (v.refs s))
    (all_both _ _ (filter (other_than x) (v.refs s)) (all_filter _ (other_than x) (v.refs s) (held s)) (filter_test (other_than x) (v.refs s))))))
  where
    drop_first : (a b c : Bool) → (a || (b || c)) ≡ true → not b ≡ true → (a || c) ≡ true
    drop_first true b c e n = refl
    drop_first false true c e n = absurd (true≢false (sym n))
    drop_first false false c e n = e
