-- Delete: what is written is what was answered, the words left hold the index, and the records are the stats. Assumes nothing.
use Prim.Native.Nat.{ℕ, suc, ◌+◌, ◌*◌, ◌≤◌}
use mathlib.Core.Bool.{true, not, ◌||◌}
use mathlib.Core.List.{List, [], ◌∷◌, map, map-append}
use mathlib.Core.Option.{Option, none, some}
use mathlib.Core.Path.{◌≡◌, refl, sym, ap, ◌∙◌, subst}
use native.Mathlib.Omega.{arith}
use borrow.Author.Tests.{ltb-false}
use lib.Dec.{T, eqb, ltb}
use lib.Ieee.{is_nan}
use lib.ListN.{length, length-map}
use Rattle.std.proofs.lemmas.Bool.{or_parts}
use Rattle.lists.specs.Lists.{filter, range, distinct_by, put_front}
use Rattle.lists.proofs.Filter.{filter_length}
use Rattle.lists.proofs.Alike.{self, sorted_many}
use Rattle.lists.proofs.Ranges.{length_range}
use Rattle.std.specs.Prelude.{Result, Ok, Err}
use Rattle.slots.specs.Sizes.{Slices, lengths_of, limits, alpha_ok}
use Rattle.slots.specs.Scratch.{size_answer}
use Rattle.slots.specs.View.{View, emptied}
use Rattle.slots.specs.Store.{Store, store_view, store_ops}
use Rattle.slots.proofs.Live.{MarksFit, store_marking}
use Rattle.repair.specs.Delete.{Stats, snapshot, delete_slots, delete_batch}
use Rattle.repair.proofs.Count.{sizes_after_delete}
use Rattle.deletion.specs.declared.stats.DeleteStats.{DeleteStats}
use Rattle.deletion.specs.Batch.{stats_at, stats_of, records_of, stats_in}
use Rattle.deletion.proofs.Records.{records_are}
use Rattle.calls.specs.Calls.{Delete, delete, Call, deleted, refused_as}
use Rattle.calls.specs.Outputs.{room_of, written}
use Rattle.calls.specs.Refusals.{first_of, tests}
use Rattle.calls.specs.State.{State, stored, shown, with_graph}
use Rattle.calls.specs.Step.{named, deletion, perform}
use Rattle.calls.specs.Runs.{lent_of, slices_of, call_of}
use Rattle.calls.proofs.Tests.{passed_lengths, first_none, index_finds}
use Rattle.calls.proofs.Labelled.{named_many}
use Rattle.index.specs.declared.Index.{Index}
use Rattle.index.specs.declared.Refusal.{Refusal}
use Rattle.index.specs.Index.{sizes_of, state_of}
use Rattle.index.proofs.Decide.{step_back, step_on}
use Rattle.updating.specs.declared.Changed.{Changed}
use Rattle.updating.specs.Delete.{stats_outputs, deleted_as, index_left, Deletes}
use Rattle.words.specs.declared.deleting.Left.{Left}
use Rattle.words.specs.IndexWords.{index_of}
use Rattle.words.specs.Given.{map_ok, put, changed_words, DeletesWords}
use Rattle.words.specs.Inner.Putting.{stats_left, LeavesStats}
use Rattle.words.proofs.Held.{number_left, held_left}

-- ---- how many are emptied

distinct_few : (l : List ℕ) → length (distinct_by self l) ≤ length l
distinct_few [] = omega arith
distinct_few (x ∷ l) = omega (arith, distinct_few l, filter_length (λ y. not (eqb x y)) (distinct_by self l))

emptied_few : (v : View) (ids : List ℕ) → length (emptied v ids) ≤ length ids
unfolding emptied
emptied_few v ids = omega (arith, sorted_many (filter v.live ids), distinct_few (filter v.live ids), filter_length v.live ids)

maps_many : {A B C D : Type 0} (h : C → D) (g : B → C) (f : A → B) (l : List A) → length (map h (map g (map f l))) ≡ length l
maps_many h g f [] = refl
maps_many h g f (x ∷ l) = ap suc (maps_many h g f l)

-- one record for each
stats_many : (beam degree : ℕ) (b : Store) (ids : List ℕ) → length (delete_batch store_ops beam degree b ids).1 ≡ length (emptied (store_view b) ids)
unfolding delete_batch delete_slots store_ops
stats_many beam degree b ids = maps_many _ _ (snapshot (store_view b)) (emptied (store_view b) ids)

-- ---- a delete that was carried out: alpha is the one that was accepted, and the stats stand inside the scratch

record Accepted (index : Index) (d : Changed) (scratch : List ℕ) : Type 0 where
  pub alpha : (d.index.alpha ≡ index.alpha) × (alpha_ok index.alpha ≡ true)
  pub inside : stats_at index.capacity + 4 * d.count ≤ length scratch

module _ {index : Index} {s : Slices} {a : Delete} {room : ℕ} {scratch : List ℕ} {s' : Slices} {scratch' : List ℕ} {d : Changed}
    (c : Deletes index s a room scratch s' scratch' (Ok d)) where
  -- a list of that room
  abbrev before : List Stats
  before = map (stats_of [] 0) (range 0 room)

  abbrev on : State Store
  on = state_of index s

  abbrev call : Call
  call = record { lent = lent_of s (stats_outputs before) scratch; operation = delete a }

  long : length before ≡ room
  long = length-map (range 0 room) (stats_of [] 0) ∙ length_range 0 room

  accepted : Accepted index d scratch
  unfolding tests perform deletion with_graph refused_as deleted_as index_left state_of stored store_ops store_view shown room_of call_of slices_of limits size_answer
  accepted = go _ refl
    where
      go : (o : Option ℕ) → first_of (tests limits call.lent (shown stored on) (delete a)) ≡ o → Accepted index d scratch
      go (some k) e =
          let b : deleted c.stats ≡ refused_as k (delete a) = ap (λ x. x.1) ((c.meets before long).does ∙ step_back on call k e) in
          absurd (let z : ◌≡◌ {A = ℕ} 0 1 = cc in omega arith)
      go none e =
          let over = ltb 256 a.repair_beam || ltb 16 a.repair_degree in
          let many = ltb 256 (length a.names) in
          let short = ltb (length scratch) (size_answer index.capacity) in
          let p = index_finds (lengths_of s) (shown stored on) (ltb (length before) (length a.names)) ((7, over || many) ∷ (8, short) ∷ []) e in
          let g = on.graph in
          let ids = named on a in
          let b = delete_batch store_ops a.repair_beam a.repair_degree g ids in
          let r = (c.meets before long).does ∙ step_on on call e in
          let w : state_of d.index s' ≡ (deletion stored on a).0 = ap (λ x. x.0) r in
          let f : deleted c.stats ≡ deleted b.1 = ap (λ x. x.1) r in
          let t : c.stats ≡ b.1 = cc in
          let o₇ = first_none 7 (over || many) ((8, short) ∷ []) p.own in
          let counted : d.count ≡ length b.1 =
          sym (ap length (c.words d refl) ∙ length-map (range 0 d.count) (stats_of scratch' (stats_at index.capacity)) ∙ length_range 0 d.count) ∙ ap length t in
          let fit = ap (λ l. l.marks) (passed_lengths (sizes_of index) (lengths_of s) p.long) in
          record {
            alpha = (ap (λ x. x.graph.alpha) w ∙ ap (λ z. z.alpha) (sizes_after_delete store_ops MarksFit store_marking g fit a.repair_beam a.repair_degree ids), p.grown);
            inside = omega (
              arith,
              counted,
              stats_many a.repair_beam a.repair_degree g ids,
              emptied_few (store_view g) ids,
              named_many s.numbers a.naming a.names,
              ltb-false 256 (length a.names) (or_parts over many o₇.0).1,
              ltb-false (length scratch) (size_answer index.capacity) (first_none 8 short [] o₇.1).0,
            );
          }

-- the new index's alpha is a number
pub deleted_number : {index : Index} {s : Slices} {a : Delete} {room : ℕ} {scratch : List ℕ} {s' : Slices} {scratch' : List ℕ} {r : Result Changed Refusal}
    → Deletes index s a room scratch s' scratch' r → (d : Changed) → r ≡ Ok d → T (not (is_nan d.index.alpha))
deleted_number {index} {s} {a} {room} {scratch} {s'} {scratch'} c d e = number_left d.index (accepted (subst (Deletes index s a room scratch s' scratch') e c)).alpha

-- ---- all but the records

module _ (words : List ℕ) (found : ℕ) {s : Slices} {a : Delete} {room : ℕ} {scratch : List ℕ} {s' : Slices} {scratch' : List ℕ} where
  held : {words' : List ℕ} (r : Result Changed Refusal) → Deletes (index_of words) s a room scratch s' scratch' r → words' ≡ (put (map_ok changed_words r) (words, found)).1.0
      → index_of words' ≡ index_left (index_of words) r
  unfolding index_left
  held (Ok d) c t = ap index_of t ∙ held_left words d.index (accepted c).alpha
  held (Err e) c t = ap index_of t

  inside : {at count : ℕ} (r : Result Changed Refusal) → Deletes (index_of words) s a room scratch s' scratch' r → length scratch' ≡ length scratch
      → (at, count) ≡ stats_left r (stats_at (index_of words).capacity) → at + 4 * count ≤ length scratch'
  inside (Ok d) c l e = omega (arith, ap (λ x. x.0) e, ap (λ x. x.1) e, l, (accepted c).inside)
  inside (Err k) c l e = omega (arith, ap (λ x. x.0) e, ap (λ x. x.1) e)

  pub leaves_stats : {i : Index} {place : ℕ} {r : Result Changed Refusal} {words' : List ℕ} {found' : ℕ} {l : Left} → i ≡ index_of words → place ≡ stats_at i.capacity
      → Deletes i s a room scratch s' scratch' r → length scratch' ≡ length scratch
      → ((l.status, (words', found')) ≡ put (map_ok changed_words r) (words, found)) × ((l.at, l.count) ≡ stats_left r place)
      → LeavesStats words s a room scratch words' s' scratch' found found' l
  leaves_stats {r = r} e p c l t =
      let c' = subst (λ i. Deletes i s a room scratch s' scratch' r) e c in
      let q = t.1 ∙ ap (λ x. stats_left r x) (p ∙ ap (λ i. stats_at i.capacity) e) in
      record { answer = r; does = c'; told = t.0; held = held r c' (ap (λ x. x.1.0) t.0); place = q; inside = inside r c' l q }

-- ---- the records

pub front_of : {A B : Type 0} (f : A → B) (xs l : List A) → map f (put_front xs l) ≡ put_front (map f xs) (map f l)
front_of f [] l = refl
front_of f (x ∷ xs) [] = ap (λ r. f x ∷ r) (map-append f xs [])
front_of f (x ∷ xs) (y ∷ l) = ap (λ r. f x ∷ r) (front_of f xs l)

listed : (place : ℕ) (w : List ℕ) {at count : ℕ} (ys vs : List DeleteStats) → vs ≡ put_front (records_of w at count) ys → (r : Result Changed Refusal) (ts : List Stats)
    → ((d : Changed) → r ≡ Ok d → ts ≡ map (stats_of w place) (range 0 d.count)) → (at, count) ≡ stats_left r place
    → stats_outputs (map stats_in vs) ≡ written (deleted_as r ts) (stats_outputs (map stats_in ys))
unfolding deleted_as written
listed place w ys vs f (Err k) ts g e = ap (λ l. stats_outputs (map stats_in l)) (f ∙ ap (λ (x : ℕ × ℕ). put_front (records_of w x.0 x.1) ys) e)
listed place w ys vs f (Ok d) ts g e =
    ap (λ l. stats_outputs (map stats_in l)) (f ∙ ap (λ (x : ℕ × ℕ). put_front (records_of w x.0 x.1) ys) e)
    ∙ ap stats_outputs (front_of stats_in (records_of w place d.count) ys)
    ∙ ap (λ (l : List Stats). stats_outputs (put_front l (map stats_in ys))) (records_are w place d.count ∙ sym (g d refl))

module _ {words : List ℕ} {s : Slices} {a : Delete} {scratch words' : List ℕ} {s' : Slices} {scratch' : List ℕ} {found found' : ℕ} {r : Left} where
  -- what `write_stats` asks
  pub asked : {room : ℕ} → LeavesStats words s a room scratch words' s' scratch' found found' r → (r.count ≤ room) × (r.at + 4 * r.count ≤ length scratch')
  asked {room} c = (go c.answer c.does.fits c.place, c.inside)
    where
      go : (q : Result Changed Refusal) → ((d : Changed) → q ≡ Ok d → d.count ≤ room) → (r.at, r.count) ≡ stats_left q (stats_at (index_of words).capacity) → r.count ≤ room
      go (Ok d) f e = omega (arith, ap (λ x. x.1) e, f d refl)
      go (Err k) f e = omega (arith, ap (λ x. x.1) e)

  pub deletes_words : (ys : List DeleteStats) {vs : List DeleteStats} → vs ≡ put_front (records_of scratch' r.at r.count) ys
      → LeavesStats words s a (length ys) scratch words' s' scratch' found found' r
      → DeletesWords words s a (stats_outputs (map stats_in ys)) scratch words' s' (stats_outputs (map stats_in vs)) scratch' found found' r.status
  deletes_words ys {vs} f c =
      let k : length (map stats_in ys) ≡ length ys = length-map ys stats_in in
      let d = c.does in
      record {
        answer = c.answer;
        does = record { stats = d.stats; words = d.words; fits = λ x e. rw k (d.fits x e); meets = λ l e. d.meets l (e ∙ k) };
        told = c.told;
        held = c.held;
        listed = listed (stats_at (index_of words).capacity) scratch' ys vs f c.answer d.stats d.words c.place;
      }
