-- The stored index and the plain one agree: what a view of the stored one shows is the plain one, and each operation of `Ops` keeps that as long as no
-- slot is emptied more than 65,535 times. Assumes nothing.
use Rattle.std.proofs.Common.{◌≡◌, ℕ, suc, ◌+◌, ◌*◌, ◌%◌, ◌<◌, ◌≤◌, Bool, true, false, cond, ◌&&◌, eqb, ltb, ◌≢◌, List, [], ◌∷◌, ◌++◌, length, get_or, take, drop, set, sym, refl, ap, ◌∙◌, mod-eq_of_lt, arith, length-take, ltb-false, ltb-true, ne_eqb, eqb-true}
use Rattle.lists.specs.Lists.{filter, part, put_part}
use Rattle.slots.specs.Sizes.{limits, sizes_ok, alpha_ok}
use Rattle.slots.specs.View.{View}
use Rattle.slots.specs.Ops.{Row, write_rows}
use Rattle.slots.specs.Store.{Shaped, Store, blank, is_valid, current, vector_of, refs_of, store_view, padded, write_neighbors, write_vector, set_mark, next_version, with_arrays, store_ops}
use Rattle.slots.specs.Plain.{other_than, with_slots, plain_ops}
use Rattle.slots.proofs.Written.{new_edges, length_new_edges, shaped_written, refs_written, refs_emptied}
use Rattle.slots.proofs.Changes.{valid_set, shaped_marked, shaped_stepped, shaped_vector, vector_written}
use Rattle.slots.proofs.Current.{length_padded, Fresh, fresh_append, fresh_take, fresh_drop, fresh_written, raised, raised_at, raised_other, fresh_raised, current_raised}

-- what holds of a reached index. `emptied s` is how often the slot s was emptied since the index was made.
pub record Sound (emptied : ℕ → ℕ) (b : Store) : Type 0 where
  pub sizes_right : sizes_ok limits (store_view b).sizes ≡ true
  pub alpha_right : alpha_ok b.alpha ≡ true
  pub entry_inside : b.entry < b.capacity
  pub shaped : Shaped b.capacity b.arrays
  pub fresh : Fresh b.arrays.versions b.arrays.targets b.arrays.edges
  pub worn : (s : ℕ) → s < b.capacity → get_or b.arrays.versions s 0 ≡ emptied s

-- the stored index is sound, and shows the plain one
pub record Agree (emptied : ℕ → ℕ) (b : Store) (v : View) : Type 0 where
  pub sound : Sound emptied b
  pub same : store_view b ≡ v

-- it matters only how often the slots inside were emptied
pub recount : (emptied emptied' : ℕ → ℕ) (b : Store) (v : View) → ((s : ℕ) → s < b.capacity → emptied s ≡ emptied' s) → Agree emptied b v → Agree emptied' b v
recount emptied emptied' b v e a = record {
  sound = record {
    sizes_right = a.sound.sizes_right;
    alpha_right = a.sound.alpha_right;
    entry_inside = a.sound.entry_inside;
    shaped = a.sound.shaped;
    fresh = a.sound.fresh;
    worn = λ s h. a.sound.worn s h ∙ e s h;
  };
  same = a.same;
}

-- ---- `write_neighbors`

module _ (versions ts es xs ys : List ℕ) (d s : ℕ) where
  fresh_put : Fresh versions ts es → Fresh versions xs ys → length ts ≡ length es → length xs ≡ length ys → Fresh versions (put_part d s xs ts) (put_part d s ys es)
  fresh_put f g l m =
      fresh_append versions (take (s * d) ts) (xs ++ drop (s * d + d) ts) (take (s * d) es) (ys ++ drop (s * d + d) es) (simp (length-take, l)) (fresh_take versions (s * d) ts es f)
      (fresh_append versions xs (drop (s * d + d) ts) ys (drop (s * d + d) es) m g (fresh_drop versions (s * d + d) ts es f))

module _ (emptied : ℕ → ℕ) (b : Store) (ok : Sound emptied b) (s : ℕ) (h : s < b.capacity) (ids : List ℕ) where
  sound_written : Sound emptied (with_arrays b (write_neighbors b.arrays s ids))
  unfolding write_neighbors store_view
  sound_written =
      let d = b.arrays.degree in
      let versions = b.arrays.versions in
      record {
        sizes_right = ok.sizes_right;
        alpha_right = ok.alpha_right;
        entry_inside = ok.entry_inside;
        shaped = shaped_written b.capacity b.arrays ok.shaped s h ids;
        fresh = fresh_put versions b.arrays.targets b.arrays.edges (padded d ids) (new_edges d versions ids) d s
            ok.fresh (fresh_written versions (padded d ids)) (ok.shaped.targets_long ∙ sym ok.shaped.edges_long) (length_padded d ids ∙ sym (length_new_edges d versions ids));
        worn = ok.worn;
      }

-- ---- the version step

module _ (emptied : ℕ → ℕ) (b : Store) (ok : Sound emptied b) (s : ℕ) (h : s < b.capacity) (few : emptied s < 65535) where
  abbrev stepped : Store
  stepped = with_arrays b (next_version b.arrays s)

  abbrev once : ℕ → ℕ
  once t = cond (eqb t s) 1 0 + emptied t

  inside : s < length b.arrays.versions
  inside = rw ok.shaped.versions_long h

  abbrev versions' : List ℕ
  versions' = raised b.arrays.versions s inside

  no_turn : suc (get_or b.arrays.versions s 0) % 65536 ≡ suc (get_or b.arrays.versions s 0)
  no_turn = mod-eq_of_lt (let e : get_or b.arrays.versions s 0 ≡ emptied s = ok.worn s h in omega arith)

  stepped_versions : stepped.arrays.versions ≡ versions'
  unfolding next_version
  stepped_versions = ap (λ n. set b.arrays.versions s n) no_turn

  worn_stepped : (t : ℕ) → t < b.capacity → get_or versions' t 0 ≡ once t
  worn_stepped t k = go (eqb t s) refl
    where
      go : (q : Bool) → eqb t s ≡ q → get_or versions' t 0 ≡ cond q 1 0 + emptied t
      go true e = omega (arith, raised_at b.arrays.versions s inside t e, ok.worn t k, ap (λ j. get_or b.arrays.versions j 0) (eqb-true t s e))
      go false e = omega (arith, raised_other b.arrays.versions s inside t e, ok.worn t k)

  sound_stepped : Sound once stepped
  unfolding next_version store_view
  sound_stepped = record {
    sizes_right = ok.sizes_right;
    alpha_right = ok.alpha_right;
    entry_inside = ok.entry_inside;
    shaped = shaped_stepped b.capacity b.arrays ok.shaped s;
    fresh = rw stepped_versions (fresh_raised b.arrays.versions s inside b.arrays.targets b.arrays.edges ok.fresh);
    worn = λ t k. rw stepped_versions (worn_stepped t k);
  }

  refs_stepped : (t : ℕ) → refs_of (next_version b.arrays s) t ≡ filter (other_than s) (refs_of b.arrays t)
  unfolding refs_of next_version
  refs_stepped t =
      let d = b.arrays.degree in
      ap (λ vs. current vs (part d t b.arrays.targets) (part d t b.arrays.edges)) stepped_versions
      ∙ current_raised b.arrays.versions s inside (part d t b.arrays.targets) (part d t b.arrays.edges)
      (fresh_take b.arrays.versions d (drop (t * d) b.arrays.targets) (drop (t * d) b.arrays.edges)
      (fresh_drop b.arrays.versions (t * d) b.arrays.targets b.arrays.edges ok.fresh))

-- ---- the marks and the vectors

-- a mark changes nothing else
sound_marked : (emptied : ℕ → ℕ) (b : Store) → Sound emptied b → (s mark : ℕ) → Sound emptied (with_arrays b (set_mark b.arrays s mark))
unfolding set_mark store_view
sound_marked emptied b ok s mark = record {
  sizes_right = ok.sizes_right;
  alpha_right = ok.alpha_right;
  entry_inside = ok.entry_inside;
  shaped = shaped_marked b.capacity b.arrays ok.shaped s mark;
  fresh = ok.fresh;
  worn = ok.worn;
}

sound_vector : (emptied : ℕ → ℕ) (b : Store) → Sound emptied b → (s : ℕ) → s < b.capacity → (vector : List ℕ) → length vector ≡ b.arrays.dim
    → Sound emptied (with_arrays b (write_vector b.arrays s vector))
unfolding write_vector store_view
sound_vector emptied b ok s h vector l = record {
  sizes_right = ok.sizes_right;
  alpha_right = ok.alpha_right;
  entry_inside = ok.entry_inside;
  shaped = shaped_vector b.capacity b.arrays ok.shaped s h vector l;
  fresh = ok.fresh;
  worn = ok.worn;
}

-- ---- each operation

-- the plain index may be taken for what the view shows
from_view : (emptied emptied' : ℕ → ℕ) (b b' : Store) (v : View) (f : View → View) → Agree emptied b v → Agree emptied' b' (f (store_view b)) → Agree emptied' b' (f v)
from_view emptied emptied' b b' v f a k = record { sound = k.sound; same = k.same ∙ ap f a.same }

-- a slot inside, and one outside
by_slot : (P : Bool → Type 0) (s c : ℕ) → (s < c → P true) → (c ≤ s → P false) → P (ltb s c)
by_slot P s c inside outside = go (ltb s c) refl
  where
    go : (q : Bool) → ltb s c ≡ q → P (ltb s c)
    go true e = rw e (inside (ltb-true s c e))
    go false e = rw e (outside (ltb-false s c e))

module _ (emptied : ℕ → ℕ) (b : Store) (v : View) (a : Agree emptied b v) (s : ℕ) where
  pub agree_write : (ids : List ℕ) → Agree emptied (store_ops.write b s ids) (plain_ops.write v s ids)
  unfolding store_ops plain_ops store_view write_neighbors
  agree_write ids =
      from_view emptied emptied b (store_ops.write b s ids) v (λ w. plain_ops.write w s ids) a
      (by_slot
      (λ q. Agree emptied (cond q (with_arrays b (write_neighbors b.arrays s ids)) b)
      (with_slots (store_view b) (is_valid b.arrays.marks) (vector_of b.arrays)
      (λ t. cond (q && eqb t s) (filter (other_than blank) (take b.arrays.degree ids)) (refs_of b.arrays t))))
      s b.capacity
      (λ h. record {
        sound = sound_written emptied b a.sound s h ids;
        same = unfold vector_of in λ i. with_slots (store_view b) (is_valid b.arrays.marks) (vector_of b.arrays) (λ t. refs_written b.capacity b.arrays a.sound.shaped s h ids t i);
      })
      (λ h. record { sound = a.sound; same = refl }))

  pub agree_kill : Agree emptied (store_ops.kill b s) (plain_ops.kill v s)
  unfolding store_ops plain_ops store_view set_mark
  agree_kill =
      from_view emptied emptied b (store_ops.kill b s) v (λ w. plain_ops.kill w s) a
      (by_slot
      (λ q. Agree emptied (cond q (with_arrays b (set_mark b.arrays s 0)) b)
      (with_slots (store_view b) (λ t. cond (q && eqb t s) false (is_valid b.arrays.marks t)) (vector_of b.arrays) (refs_of b.arrays)))
      s b.capacity
      (λ h. record {
        sound = sound_marked emptied b a.sound s 0;
        same = unfold vector_of refs_of in λ i. with_slots (store_view b) (λ t. valid_set b.arrays.marks s 0 (rw a.sound.shaped.marks_long h) t i) (vector_of b.arrays) (refs_of b.arrays);
      })
      (λ h. record { sound = a.sound; same = refl }))

  pub agree_enter : s < b.capacity → Agree emptied (store_ops.enter b s) (plain_ops.enter v s)
  unfolding store_ops plain_ops store_view
  agree_enter h =
      from_view emptied emptied b (store_ops.enter b s) v (λ w. plain_ops.enter w s) a
      (record {
        sound = record {
          sizes_right = a.sound.sizes_right;
          alpha_right = a.sound.alpha_right;
          entry_inside = h;
          shaped = a.sound.shaped;
          fresh = a.sound.fresh;
          worn = a.sound.worn;
        };
        same = refl;
      })

  pub agree_fill : (vector : List ℕ) → length vector ≡ b.arrays.dim → Agree emptied (store_ops.fill b s vector) (plain_ops.fill v s vector)
  unfolding store_ops plain_ops store_view
  agree_fill vector l =
      from_view emptied emptied b (store_ops.fill b s vector) v (λ w. plain_ops.fill w s vector) a
      (by_slot
      (λ q. Agree emptied (cond q (with_arrays b (set_mark (write_neighbors (write_vector b.arrays s vector) s []) s 1)) b)
      (with_slots (store_view b) (λ t. cond (q && eqb t s) true (is_valid b.arrays.marks t)) (λ t. cond (q && eqb t s) vector (vector_of b.arrays t))
      (λ t. cond (q && eqb t s) [] (refs_of b.arrays t))))
      s b.capacity
      (λ h.
      let ok₁ = sound_vector emptied b a.sound s h vector l in
      let b₁ = with_arrays b (write_vector b.arrays s vector) in
      let ok₂ = sound_written emptied b₁ ok₁ s (unfold write_vector in h) [] in
      record {
        sound = sound_marked emptied (with_arrays b (write_neighbors b₁.arrays s [])) ok₂ s 1;
        same = unfold vector_of refs_of set_mark write_neighbors write_vector in λ i. with_slots (store_view b)
            (λ t. valid_set b.arrays.marks s 1 (rw a.sound.shaped.marks_long h) t i)
            (λ t. vector_written b.capacity b.arrays a.sound.shaped s h vector l t i)
            (λ t. refs_emptied b.capacity b₁.arrays ok₁.shaped s h t i);
      })
      (λ h. record { sound = a.sound; same = refl }))

  pub agree_finish : emptied s < 65535 → Agree (λ t. cond (eqb t s) 1 0 + emptied t) (store_ops.finish b s) (plain_ops.finish v s)
  unfolding store_ops plain_ops store_view
  agree_finish few =
      from_view emptied (λ t. cond (eqb t s) 1 0 + emptied t) b (store_ops.finish b s) v (λ w. plain_ops.finish w s) a
      (by_slot
      (λ q. Agree (λ t. cond (eqb t s) 1 0 + emptied t) (cond q (with_arrays b (write_neighbors (next_version b.arrays s) s [])) b)
      (with_slots (store_view b) (is_valid b.arrays.marks) (vector_of b.arrays)
      (λ t. cond q (cond (eqb t s) [] (filter (other_than s) (refs_of b.arrays t))) (refs_of b.arrays t))))
      s b.capacity
      (λ h.
      let ok₁ = sound_stepped emptied b a.sound s h few in
      let b₁ = with_arrays b (next_version b.arrays s) in
      record {
        sound = sound_written (λ t. cond (eqb t s) 1 0 + emptied t) b₁ ok₁ s h [];
        same = unfold vector_of write_neighbors next_version in λ i. with_slots (store_view b) (is_valid b.arrays.marks) (vector_of b.arrays)
            (λ t. (refs_emptied b.capacity b₁.arrays ok₁.shaped s h t
            ∙ ap (λ (r : List ℕ). cond (eqb t s) [] r) (refs_stepped emptied b a.sound s h few t)) i);
      })
      (λ h. recount emptied (λ t. cond (eqb t s) 1 0 + emptied t) b (store_view b) (λ t k. sym (not_it t (omega arith))) (record { sound = a.sound; same = refl })))
    where
      not_it : (t : ℕ) → t ≢ s → cond (eqb t s) 1 0 + emptied t ≡ emptied t
      not_it t n = rw (ne_eqb t s n) (omega arith)

-- ---- rows

pub agree_writes : (emptied : ℕ → ℕ) (b : Store) (v : View) → Agree emptied b v → (rows : List Row) → Agree emptied (write_rows store_ops b rows) (write_rows plain_ops v rows)
agree_writes emptied b v a [] = a
agree_writes emptied b v a (r ∷ rows) =
    agree_writes emptied (store_ops.write b r.source r.targets) (plain_ops.write v r.source r.targets) (agree_write emptied b v a r.source r.targets) rows

pub writes_sizes : (v : View) (rows : List Row) → (write_rows plain_ops v rows).sizes ≡ v.sizes
unfolding plain_ops
writes_sizes v [] = refl
writes_sizes v (r ∷ rows) = writes_sizes (plain_ops.write v r.source r.targets) rows
