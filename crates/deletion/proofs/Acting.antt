-- The acts of a delete: slots taken and marked dead; plans made, applied and finished. Assumes nothing.
use Prim.Native.Nat.{ℕ, ◌+◌, ◌-◌, ◌*◌, ◌/◌, ◌≤◌, ◌<◌}
use mathlib.Core.Bool.{true}
use mathlib.Core.List.{List, [], ◌∷◌}
use mathlib.Core.Path.{◌≡◌, refl, ap, ap₂, sym, ◌∙◌, subst}
use native.Mathlib.Omega.{arith}
use lib.Dec.{ltb}
use lib.Ieee.{Float}
use lib.ListN.{length, take, drop}
use Rattle.lists.specs.Lists.{All, filter, foldl, sort_by}
use Rattle.lists.proofs.All.{all_map, all_sort, filter_test}
use Rattle.lists.proofs.Unique.{all_distinct}
use Rattle.vectors.specs.Space.{Measure}
use Rattle.candidates.specs.Candidates.{Candidate, ids}
use Rattle.candidates.specs.Inner.Words.{cand, cands, cands_of}
use Rattle.candidates.proofs.Parts.{whole_part}
use Rattle.candidates.proofs.Words.{cands_none, cands_agree, front_cons, front_each}
use Rattle.slots.specs.Scratch.{work_at}
use Rattle.slots.specs.Store.{Arrays, Store, arrays, is_valid, store_ops}
use Rattle.slots.specs.Inner.Rows.{HasRow}
use Rattle.slots.specs.Inner.Writing.{Finished}
use Rattle.slots.specs.Lent.{rows_mut_of, SameSlices}
use Rattle.slots.specs.declared.graph.RowsMut.{RowsMut}
use Rattle.slots.proofs.Places.{live_inside, shape_fits}
use Rattle.row.specs.Row.{Together, index_of}
use Rattle.repair.specs.Repair.{Link}
use Rattle.links.specs.Inner.Linking.{between, Applied}
use Rattle.links.proofs.Linking.{applied_together}
use Rattle.links.specs.Inner.Planning.{plan_words, plans_at}
use Rattle.deletion.specs.declared.layout.Layout.{Layout}
use Rattle.deletion.specs.declared.plans.Repair.{Repair}
use Rattle.deletion.specs.Inner.Layout.{layout_of}
use Rattle.deletion.specs.Inner.Naming.{Emptied, Inside, cleared, entry_after}
use Rattle.deletion.specs.Inner.Plans.{Table, RowsTaken, PlansMade}
use Rattle.deletion.specs.Inner.Acts.{Takeable, AllFinished, Repairable, Repaired}

all_by_ids : (P : ℕ → Type 0) (cs : List Candidate) → All P (ids cs) → All (λ c. P c.id) cs
all_by_ids P [] h = tt
all_by_ids P (c ∷ cs) h = (h.0, all_by_ids P cs h.1)

-- the list of n slots from word p on
pub list_part : (w : List ℕ) (p n : ℕ) → p + 2 * n ≤ length w → cands_of (take (p + 2 * n - p) (drop p w)) ≡ cands w p n
list_part w p n h = whole_part w p (p + 2 * n - p) n (omega arith) (omega arith)

-- ---- the first acts
-- the slots of the layout stood in the words `taken`; their rows are taken, their marks are cleared, and e is the entry
pub record Marked (a : Arrays) (entry : ℕ) (named w : List ℕ) (at : Layout) (e : ℕ) (marks' w' : List ℕ) : Type 0 where
  pub taken : List ℕ
  pub list : Emptied a.marks named w at.from at.count taken
  pub rows : RowsTaken a taken at w'
  pub marks_are : marks' ≡ cleared a.marks (ids (cands taken at.from at.count))
  pub entry_is : e ≡ entry_after marks' entry (ids (cands taken at.from at.count))

pub emptied_live : {marks named w : List ℕ} {at r : ℕ} {w' : List ℕ} → Emptied marks named w at r w' → All (λ c. is_valid marks c.id ≡ true) (cands w' at r)
emptied_live {marks} {named} {at = at} {r = r} {w' = w'} l =
    all_by_ids (λ s. is_valid marks s ≡ true) (cands w' at r)
    (rw l.list (all_distinct (λ x. x) (λ s. is_valid marks s ≡ true) (sort_by ltb (filter (is_valid marks) named))
    (all_sort (λ s. is_valid marks s ≡ true) ltb (filter (is_valid marks) named) (filter_test (is_valid marks) named))))

-- the words of the layout hold a slot for each id
pub taken_room : {a : Arrays} {named w : List ℕ} → Takeable a named w → work_at (length a.marks) + 2 * length named ≤ length w
taken_room d = omega (arith, d.ids_most, d.room)

module _ {a : Arrays} {named w : List ℕ} {p : ℕ} {w₁ : List ℕ} (d : Takeable a named w) (l : Emptied a.marks named w (work_at (length a.marks)) p w₁) where
  abbrev at : Layout
  at = layout_of (length a.marks) p

  pub taken_inside : Inside (length a.marks) w₁ at.from p
  taken_inside =
      record {
        each = all_map (λ c. is_valid a.marks c.id ≡ true) (λ c. c.id < length a.marks) (λ c h. live_inside a.marks c.id h) (cands w₁ at.from p) (emptied_live l);
        words = omega (arith, l.few, l.size, d.ids_most, d.room);
      }

  pub taken_table : Table a.degree w₁ at
  taken_table =
      record {
        first = omega (arith, l.few, d.ids_most);
        second = omega (arith, l.few, d.ids_most);
        third = omega (arith, l.few, l.size, d.ids_most, d.room);
        few = omega (arith, l.few, d.ids_most);
        low = d.low;
      }

  module _ {w₂ : List ℕ} (r : RowsTaken a w₁ at w₂) where
    pub taken_stay : cands w₂ at.from p ≡ cands w₁ at.from p
    taken_stay = cands_agree w₁ w₂ at.from p (λ j x y. r.same j (omega (arith, taken_table.first)))

    pub taken_clear : Inside (length a.marks) w₂ at.from p
    taken_clear =
        record {
          each = subst (λ (cs : List Candidate). All (λ c. c.id < length a.marks) cs) (sym taken_stay) taken_inside.each;
          words = omega (arith, taken_inside.words, r.size);
        }

    pub marked : {marks' : List ℕ} {entry e : ℕ} → marks' ≡ cleared a.marks (ids (cands w₂ at.from p)) → e ≡ entry_after marks' entry (ids (cands w₂ at.from p))
        → Marked a entry named w at e marks' w₂
    marked em ee = record { taken = w₁; list = l; rows = r; marks_are = rw taken_stay at em; entry_is = rw taken_stay at ee }

-- ---- the last act
-- of the slots of a list k are finished: the arrays a₀ have come to a
pub record Finishing (a₀ : Arrays) (w : List ℕ) (a : Arrays) (k : ℕ) : Type 0 where
  pub goes : (alpha : Float) (entry : ℕ) → foldl store_ops.finish (index_of alpha entry a) (ids (cands w (2 * k) (length w / 2 - k))) ≡ foldl store_ops.finish (index_of alpha entry a₀) (ids (cands_of w))
  pub together : Together a
  pub marks_long : length a.marks ≡ length a₀.marks

module _ {a₀ : Arrays} {w : List ℕ} {a : Arrays} {k : ℕ} (f : Finishing a₀ w a k) where
  module _ (v : All (λ c. c.id < length a₀.marks) (cands_of w)) (h : k < length w / 2) {u : ℕ} (the_slot : u ≡ (cand w (2 * k)).id) where
    slot_in : (cand w (2 * k)).id < length a.marks
    slot_in = rw f.marks_long (front_each (λ c. c.id < length a₀.marks) w (length w / 2) v k h)

    pub finishing_asks : HasRow a.degree a.targets a.edges u × (u < length a.versions)
    finishing_asks = let r = shape_fits f.together.rows (cand w (2 * k)).id slot_in in rw the_slot (r, rw f.together.rows.versions_long slot_in)

    pub finishing_more : {targets' edges' versions' : List ℕ} → Finished a.degree a.targets a.edges a.versions u targets' edges' versions'
        → length targets' ≡ length a.targets → length edges' ≡ length a.edges → length versions' ≡ length a.versions
        → Finishing a₀ w (arrays a.measure a.dim a.degree a.vectors targets' edges' versions' a.marks) (k + 1)
    finishing_more {targets'} {edges'} {versions'} d lt le lv =
        record {
          goes = λ alpha entry.
              let b = index_of alpha entry a in
              let y : index_of alpha entry (arrays a.measure a.dim a.degree a.vectors targets' edges' versions' a.marks) ≡ store_ops.finish b (cand w (2 * k)).id =
              (d.does a.measure a.dim a.vectors a.marks).does b refl (rw the_slot slot_in) ∙ ap (store_ops.finish b) the_slot in
              ap (λ (c : Store). foldl store_ops.finish c (ids (cands w (2 * (k + 1)) (length w / 2 - (k + 1))))) y ∙ (rw (front_cons w (length w / 2) k h) at (f.goes alpha entry));
          together =
              record {
                bytes = f.together.bytes;
                rows =
                    record {
                      targets_long = lt ∙ f.together.rows.targets_long;
                      edges_long = le ∙ f.together.rows.edges_long;
                      versions_long = lv ∙ f.together.rows.versions_long;
                      few = f.together.rows.few;
                    };
                degree_most = f.together.degree_most;
              };
          marks_long = f.marks_long;
        }

  pub finishing_done : length w / 2 ≤ k → AllFinished a₀ (cands_of w) a
  finishing_done h =
      let z : length w / 2 - k ≡ 0 = omega arith in
      record { does = λ alpha entry. rw (cands_none w (2 * k) (length w / 2 - k) z) at (f.goes alpha entry) }

-- ---- the later acts
-- what links make of the slices that rows were built from
pub settled : {alpha : Float} {measure : Measure} {dim : ℕ} {vectors marks : List ℕ} {rows rows' : RowsMut} {ls : List Link} {w w' : List ℕ} {at k : ℕ} {targets edges : List ℕ} → SameSlices rows rows'
    → Applied alpha (rows_mut_of measure dim vectors rows marks) ls (rows_mut_of measure dim vectors rows' marks) w at k w' → targets ≡ rows'.targets.now → edges ≡ rows'.edges.now
    → Applied alpha (rows_mut_of measure dim vectors rows marks) ls (arrays measure dim rows.degree vectors targets edges rows.versions.now marks) w at k w'
settled x s t e = rw (t, e) (rw (x.degree, x.versions) at s)

module _ {a : Arrays} {how : Repair} {w : List ℕ} {at : Layout} {w₁ : List ℕ}
    (o : Together a) (f : Repairable a how w at) (m : PlansMade a how w at w₁) where
  module _ {a₁ : Arrays} {w₂ : List ℕ} (s : Applied how.alpha a (plans_at (between a.measure a.dim a.vectors) how.degree how.entry w₁ at.stats at.plans at.count) a₁ w₁ at.base (plan_words a.degree) w₂) where
    slots_stay : cands w₂ at.from at.count ≡ cands w at.from at.count
    slots_stay =
        cands_agree w₁ w₂ at.from at.count (λ j l h. s.same j (λ q. omega (arith, f.placed, f.makes.table.first, f.makes.table.second)))
        ∙ cands_agree w w₁ at.from at.count (λ j l h. m.same j (omega (arith, f.makes.behind)) (omega (arith, f.makes.table.first)))

    pub repaired_finish : length a₁.marks ≡ length a.marks → Together a₁ × All (λ c. c.id < length a₁.marks) (cands_of (take (at.from + 2 * at.count - at.from) (drop at.from w₂)))
    repaired_finish e = (
      applied_together o s,
      rw (e, list_part w₂ at.from at.count (omega (arith, f.makes.inside.words, m.size, s.size)))
          (subst (λ (cs : List Candidate). All (λ c. c.id < length a.marks) cs) (sym slots_stay) f.makes.inside.each),
    )

    pub repaired : {a₂ : Arrays} → AllFinished a₁ (cands_of (take (at.from + 2 * at.count - at.from) (drop at.from w₂))) a₂ → Repaired a how w at a₂ w₂
    repaired g =
        record {
          made = w₁;
          plan = m;
          does =
              g.does how.alpha how.entry
              ∙ ap₂ (λ (b : Store) (ss : List ℕ). foldl store_ops.finish b ss) (s.does how.entry) (ap ids (list_part w₂ at.from at.count (omega (arith, f.makes.inside.words, m.size, s.size)) ∙ slots_stay));
          size = s.size ∙ m.size;
          same = λ i h. s.same i (λ q. omega arith);
        }
