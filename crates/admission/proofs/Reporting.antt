-- The report: the landmarks that an assessment checks, and what it says of them, are those of the definition. Assumes nothing.
use Prim.Native.Nat.{ℕ, ◌+◌, ◌-◌, ◌≤◌, ◌<◌}
use mathlib.Core.Bool.{Bool, true, false, ◌&&◌}
use mathlib.Core.Path.{◌≡◌, refl, ap, sym, ◌∙◌, subst}
use mathlib.Core.List.{List, [], ◌∷◌, ◌++◌, append_assoc}
use mathlib.Core.Option.{none, some}
use mathlib.Core.Option as Math
use Rattle.std.specs.Prelude.{Option, Some, None}
use Rattle.std.proofs.lemmas.Option.{none-some, same_Some}
use native.Mathlib.Omega.{arith}
use lib.Dec.{eqb, ltb}
use lib.ListN.{length, take, drop, length-append, length-take, length-drop}
use lib.Seq.{take-append_seam, drop-append_seam, drop-drop}
use Rattle.lists.specs.Lists.{All, filter, sorted_set, put_front}
use Rattle.lists.proofs.All.{all_map, all_append, all_take, filter_test}
use Rattle.vectors.specs.Vector.{Bytes}
use Rattle.vectors.specs.Space.{slot_distance, space}
use Rattle.vectors.specs.declared.Space as lent
use Rattle.slots.specs.View.{View, emptied}
use Rattle.slots.specs.Store.{Arrays, Store, is_valid, store_view}
use Rattle.landmarks.specs.declared.sample.Free.{Free}
use Rattle.landmarks.specs.Inner.Samples.{remains}
use Rattle.landmarks.specs.Inner.Choices.{landmarks_by, Selectable, Fronted}
use Rattle.landmarks.proofs.Selecting.{landmarks_few, landmarks_inside}
use Rattle.guard.specs.Guard.{Config, config, Report, no_landmarks, stays, residual_entry, select_landmarks, reaches, probe, assess_slots, assess_delete_admission}
use Rattle.guard.specs.Lent.{entry_of}
use Rattle.admission.specs.Inner.Pools.{Entered}
use Rattle.admission.specs.Inner.Trials.{meets, Tried}
use Rattle.admission.specs.Inner.Reports.{kept_by, others_by, probe_by, Reports, Checkable, Checks, Assessed}
use Rattle.admission.specs.declared.report.Report as Value
use Rattle.admission.proofs.Seen.{stays_same, selects_same, reaches_same, reaches_all}
use Rattle.admission.proofs.Entering.{remains_live, remains_inside}

-- ---- the landmarks that are checked
front_of : {xs l l' : List ℕ} {r : ℕ} → Fronted xs l l' r → take r l' ≡ xs
front_of {xs} {l} f = rw (f.count, f.list) (take-append_seam xs (drop (length xs) l))

rest_of : {xs l l' : List ℕ} {r : ℕ} → Fronted xs l l' r → drop r l' ≡ drop (length xs) l
rest_of {xs} {l} f = rw (f.count, f.list) (drop-append_seam xs (drop (length xs) l))

-- one list behind the other
front_both : (xs ys l : List ℕ) → xs ++ put_front ys (drop (length xs) l) ≡ put_front (xs ++ ys) l
front_both xs ys l = rw (length-append xs ys, append_assoc, drop-drop (length ys) (length xs) l)

module _ (d : ℕ → ℕ → ℕ) (marks ids : List ℕ) (start sample count : ℕ) (pool : List ℕ) where
  abbrev selects : ℕ → List ℕ → List ℕ
  selects wanted existing = landmarks_by d (remains marks ids) (length marks) start wanted sample existing

  abbrev kept : List ℕ
  kept = kept_by (remains marks ids) count pool

  abbrev others : List ℕ
  others = others_by (remains marks ids) selects count pool

  kept_inside : All (λ s. s < length marks) kept
  kept_inside =
      all_take (λ s. s < length marks) count (filter (remains marks ids) pool)
      (all_map (λ s. remains marks ids s ≡ true) (λ s. s < length marks) (remains_inside marks ids) (filter (remains marks ids) pool) (filter_test (remains marks ids) pool))

  module _ {l l₁ : List ℕ} {k : ℕ} (f : Fronted kept l l₁ k) where
    pub kept_most : k ≤ count
    kept_most = omega (arith, f.count, length-take count (filter (remains marks ids) pool))

    pub check_selectable : {w : List ℕ} → Checkable (length marks) start count sample l w → {space : lent.Space} → Bytes space.dim (length marks) space.vectors.now → length marks ≤ 65536
        → length l₁ ≡ length l → {o : Free} → o.marks.now ≡ marks → o.entry ≡ start → o.kept.now ≡ take k l₁ → {wanted : ℕ} → wanted ≡ count - k → {rest : List ℕ} → rest ≡ drop k l₁
        → Selectable space o wanted sample rest w
    check_selectable h y few e {o = o} m s i n j =
        record {
          bytes = rw m y;
          few = rw m few;
          references = subst (λ (l : List ℕ). All (λ t. t < length l) (o.entry ∷ o.kept.now)) (sym m) (rw (s, i, front_of f) (h.entry_inside, kept_inside));
          wanted_most = omega (arith, n, h.count_most);
          sample_some = h.sample_some;
          list_long = omega (arith, ap length j, length-drop k l₁, n, e, h.checked_long, kept_most);
          room = rw m h.room;
        }

    pub checks : {l₂ rest' : List ℕ} {m n : ℕ} → Fronted (landmarks_by d (remains marks ids) (length marks) start (count - k) sample (take k l₁)) (drop k l₁) rest' m → l₂ ≡ take k l₁ ++ rest' → n ≡ k + m
        → Checks (length marks) (remains marks ids) selects count pool l l₂ n m
    checks {l₂} {rest'} {m} {n} g e x =
        let g' : Fronted others (drop (length kept) l) rest' m = rw (front_of f, rest_of f, f.count) at g in
        record {
          list = e ∙ rw (front_of f, g'.list) (front_both kept others l);
          many = omega (arith, x, f.count, g'.count, length-append kept others);
          added = g'.count;
          few = omega (arith, x, kept_most, f.count, g'.count, landmarks_few d (remains marks ids) (length marks) start (count - length kept) sample kept);
          inside = all_append (λ s. s < length marks) kept others kept_inside (landmarks_inside d (remains marks ids) (length marks) start (count - length kept) sample kept);
        }

module _ {slots : ℕ} {stays : ℕ → Bool} {select : ℕ → List ℕ → List ℕ} {count : ℕ} {pool l l' : List ℕ} {n more : ℕ} (g : Checks slots stays select count pool l l' n more) where
  abbrev chosen : List ℕ
  chosen = kept_by stays count pool ++ others_by stays select count pool

  pub checked_front : take n l' ≡ chosen
  checked_front = rw (g.many, g.list) (take-append_seam chosen (drop (length chosen) l))

  -- the numbers of a report
  pub probed : {before after : ℕ → Bool} {lost lost' : List ℕ} {b r o start n' more' : ℕ} {admitted : Bool} → Tried before after (take n l') lost lost' b r o
      → admitted ≡ (ltb 0 b && eqb o 0) → n' ≡ n → more' ≡ more
      → Reports (probe_by stays before after select count pool 0 start) l l' lost lost'
      (record { admitted = admitted; requested = 0; entry = Some start; checked = n'; baseline = b; residual = r; lost = o; supplemental = more' })
  unfolding probe_by
  probed h e x y =
      let t = rw checked_front at h in
      record {
        admits = e ∙ rw (t.baseline_count, t.lost_count);
        requests = refl;
        enters = refl;
        checks = x ∙ g.many;
        meets_before = t.baseline_count;
        meets_after = t.residual_count;
        loses = t.lost_count;
        adds = y ∙ g.added;
        checked_list = g.list;
        lost_list = t.list;
      }

-- how many slots are named stands in a report alone
pub names : (stays before after : ℕ → Bool) (select : ℕ → List ℕ → List ℕ) (count start : ℕ) (pool : List ℕ) {l l' lost lost' : List ℕ} (requested : ℕ) {v v' : Value.Report}
    → Reports (probe_by stays before after select count pool 0 start) l l' lost lost' v → v' ≡ record { admitted = v.admitted; requested = requested; entry = v.entry; checked = v.checked; baseline = v.baseline; residual = v.residual; lost = v.lost; supplemental = v.supplemental }
    → Reports (probe_by stays before after select count pool requested start) l l' lost lost' v'
unfolding probe_by
names stays before after select count start pool requested f e =
    rw e (record { admits = f.admits; requests = refl; enters = f.enters; checks = f.checks; meets_before = f.meets_before; meets_after = f.meets_after; loses = f.loses; adds = f.adds; checked_list = f.checked_list; lost_list = f.lost_list })

-- ---- the report of the view
none_named : (v : View) (c : Config) (pool deleted : List ℕ) → length deleted ≡ 0 → assess_slots v c pool deleted ≡ no_landmarks true 0
unfolding assess_slots
none_named v c pool [] e = refl
none_named v c pool (s ∷ ss) e = absurd (omega arith)

some_named : (v : View) (c : Config) (pool deleted : List ℕ) → (length deleted ≡ 0 → ⊥) → assess_slots v c pool deleted ≡ probe v c pool deleted (residual_entry v deleted)
unfolding assess_slots
some_named v c pool [] h = absurd (h refl)
some_named v c pool (s ∷ ss) h = refl

probe_view : (v : View) (count multiplier sample beam start : ℕ) (pool deleted : List ℕ) → probe v (config count multiplier sample beam) pool deleted (some start)
    ≡ probe_by (stays v deleted) (reaches v [] beam start) (reaches v deleted beam start) (λ wanted existing. select_landmarks v deleted start wanted sample existing) count pool (length deleted) start
unfolding probe probe_by
probe_view v count multiplier sample beam start pool deleted = refl

-- the tests and the choice over slices are those of the view of them
probe_same : (b : Store) → b.capacity ≡ length b.arrays.marks → (count multiplier sample beam start : ℕ) (pool out : List ℕ) {requested : ℕ}
    → remains b.arrays.marks out start ≡ true → requested ≡ length (emptied (store_view b) out)
    → probe (store_view b) (config count multiplier sample beam) pool (emptied (store_view b) out) (some start)
    ≡ probe_by (remains b.arrays.marks out) (meets b.arrays [] beam start) (meets b.arrays out beam start) (λ wanted existing. landmarks_by (slot_distance (space b.arrays.measure b.arrays.dim b.arrays.vectors)) (remains b.arrays.marks out) (length b.arrays.marks) start wanted sample existing) count pool requested start
probe_same b whole count multiplier sample beam start pool out {requested} h q =
    let deleted = emptied (store_view b) out in
    let after = reaches (store_view b) deleted beam start in
    let selects : ℕ → List ℕ → List ℕ = λ wanted existing. select_landmarks (store_view b) deleted start wanted sample existing in
    probe_view (store_view b) count multiplier sample beam start pool deleted
    ∙ ap (λ (n : ℕ). probe_by (stays (store_view b) deleted) (reaches (store_view b) [] beam start) after selects count pool n start) (sym q)
    ∙ ap (λ (p : ℕ → Bool). probe_by p (reaches (store_view b) [] beam start) after selects count pool requested start) (sym (stays_same b out))
    ∙ ap (λ (p : ℕ → Bool). probe_by (remains b.arrays.marks out) p after selects count pool requested start) (sym (reaches_all b whole beam start (remains_live b.arrays.marks out start h)))
    ∙ ap (λ (p : ℕ → Bool). probe_by (remains b.arrays.marks out) (meets b.arrays [] beam start) p selects count pool requested start) (sym (reaches_same b whole beam start out h))
    ∙ ap (λ (k : ℕ → List ℕ → List ℕ). probe_by (remains b.arrays.marks out) (meets b.arrays [] beam start) (meets b.arrays out beam start) k count pool requested start) (sym (selects_same b whole out start sample))

-- an entry of the code is that of the view
entry_none : (o : Math.Option ℕ) {r : Option ℕ} → r ≡ entry_of o → r ≡ None → o ≡ none
entry_none none e h = refl
entry_none (some s) e h = absurd (none-some s (sym h ∙ e))

entry_some : (o : Math.Option ℕ) {r : Option ℕ} (s : ℕ) → r ≡ entry_of o → r ≡ Some s → o ≡ some s
entry_some none s e h = absurd (none-some s (sym e ∙ h))
entry_some (some t) s e h = ap some (same_Some t s (sym e ∙ h))

-- a report that looks at no landmark, by value
abbrev pub Blank : Bool → ℕ → Value.Report → Type 0
Blank admitted requested r =
    (r.admitted ≡ admitted) × (r.requested ≡ requested) × (r.entry ≡ None) × (r.checked ≡ 0) × (r.baseline ≡ 0) × (r.residual ≡ 0) × (r.lost ≡ 0) × (r.supplemental ≡ 0)

no_reports : (admitted : Bool) (requested : ℕ) (checked lost : List ℕ) {r : Value.Report} → Blank admitted requested r → Reports (no_landmarks admitted requested) checked checked lost lost r
no_reports admitted requested checked lost h =
    record { admits = h.0; requests = h.1; enters = h.2; checks = h.3; meets_before = h.4; meets_after = h.5; loses = h.6; adds = h.7; checked_list = refl; lost_list = refl }

module _ (a : Arrays) (entry count sample beam : ℕ) (pool out : List ℕ) {requested : ℕ} (q : requested ≡ length (sorted_set (filter (is_valid a.marks) out))) where
  abbrev Says : Store → ℕ → Report → Type 0
  Says b multiplier report = assess_delete_admission (store_view b) (config count multiplier sample beam) pool out ≡ report

  -- how many are named
  named : (b : Store) → b.arrays ≡ a → requested ≡ length (emptied (store_view b) out)
  unfolding emptied store_view
  named b x = q ∙ rw x

  none_said : (b : Store) (multiplier : ℕ) → b.arrays ≡ a → requested ≡ 0 → Says b multiplier (no_landmarks true 0)
  unfolding assess_delete_admission
  none_said b multiplier x h = none_named (store_view b) (config count multiplier sample beam) pool (emptied (store_view b) out) (sym (named b x) ∙ h)

  some_said : (b : Store) (multiplier : ℕ) → b.arrays ≡ a → (requested ≡ 0 → ⊥)
      → Says b multiplier (probe (store_view b) (config count multiplier sample beam) pool (emptied (store_view b) out) (residual_entry (store_view b) (emptied (store_view b) out)))
  unfolding assess_delete_admission
  some_said b multiplier x h = some_named (store_view b) (config count multiplier sample beam) pool (emptied (store_view b) out) (λ e. h (named b x ∙ e))

  pub assessed_none : (checked lost : List ℕ) {r : Value.Report} → requested ≡ 0 → Blank true 0 r → Assessed a entry count sample beam pool out checked checked lost lost r
  assessed_none checked lost h k = record { does = λ b multiplier x y z. rw (none_said b multiplier x h) (no_reports true 0 checked lost k) }

  module _ (some_one : requested ≡ 0 → ⊥) {found : Option ℕ} (e : Entered a.marks out entry found) where
    module _ (b : Store) (x : b.arrays ≡ a) (y : b.capacity ≡ length a.marks) (z : b.entry ≡ entry) where
      entry_is : found ≡ entry_of (residual_entry (store_view b) (emptied (store_view b) out))
      entry_is = e.does b (ap (λ (a : Arrays). a.marks) x) y z

      whole : b.capacity ≡ length b.arrays.marks
      whole = rw x y

    pub assessed_gone : (checked lost : List ℕ) {r : Value.Report} → found ≡ None → Blank false requested r → Assessed a entry count sample beam pool out checked checked lost lost r
    unfolding probe
    assessed_gone checked lost h k =
        record {
          does = λ b multiplier x y z.
              rw (some_said b multiplier x some_one, entry_none _ (entry_is b x y z) h, ← named b x) (no_reports false requested checked lost k);
        }

    module _ {start : ℕ} (h : found ≡ Some start) where
      -- what `probe` makes of the slices
      abbrev looks : Report
      looks = probe_by (remains a.marks out) (meets a [] beam start) (meets a out beam start) (λ wanted existing. landmarks_by (slot_distance (space a.measure a.dim a.vectors)) (remains a.marks out) (length a.marks) start wanted sample existing) count pool requested start

      pub start_stays : remains a.marks out start ≡ true
      start_stays = e.found start h

      probe_said : (b : Store) (multiplier : ℕ) → b.arrays ≡ a → b.capacity ≡ length a.marks → b.entry ≡ entry → Says b multiplier looks
      probe_said b multiplier x y z =
          let s : remains b.arrays.marks out start ≡ true = rw x start_stays in
          some_said b multiplier x some_one
          ∙ ap (probe (store_view b) (config count multiplier sample beam) pool (emptied (store_view b) out)) (entry_some _ start (entry_is b x y z) h)
          ∙ rw (← x) (probe_same b (whole b x y z) count multiplier sample beam start pool out s (named b x))

      pub assessed_some : {checked checked' lost lost' : List ℕ} {r : Value.Report} → Reports looks checked checked' lost lost' r
          → Assessed a entry count sample beam pool out checked checked' lost lost' r
      assessed_some {checked} {checked'} {lost} {lost'} {r} f =
          record { does = λ b multiplier x y z. subst (λ (report : Report). Reports report checked checked' lost lost' r) (sym (probe_said b multiplier x y z)) f }
