-- A guarded delete: what the code decides, reports and writes is what the definitions say. Assumes nothing.
use Prim.Native.Nat.{ℕ, ◌+◌, ◌*◌, ◌≤◌, min}
use mathlib.Core.Bool.{Bool, true, false, ◌||◌}
use mathlib.Core.Path.{◌≡◌, refl, sym, ap, ◌∙◌, subst}
use mathlib.Core.List.{List, [], ◌∷◌, map}
use mathlib.Core.Option.{Option, none, some}
use native.Mathlib.Omega.{arith}
use borrow.Author.Tests.{ltb-false}
use lib.Dec.{ltb}
use lib.ListN.{length, replicate, length-replicate}
use Rattle.lists.specs.Lists.{range, put_front}
use Rattle.vectors.specs.Weights.{Weighing}
use Rattle.slots.specs.Sizes.{Slices, limits, alpha_ok}
use Rattle.slots.specs.Store.{Store, store_view, store_ops}
use Rattle.slots.proofs.Live.{MarksFit, store_marking}
use Rattle.repair.specs.Delete.{Stats}
use Rattle.repair.proofs.Count.{sizes_after_delete}
use Rattle.guard.specs.Guard.{no_landmarks}
use Rattle.guard.specs.Guard as Guard
use Rattle.admission.specs.Inner.Reports.{Reports}
use Rattle.admission.specs.declared.report.Report.{Report}
use Rattle.deletion.specs.Batch.{stats_at, stats_of, Deletable, BatchDeleted}
use Rattle.index.specs.declared.Index.{Index}
use Rattle.calls.specs.Calls.{Delete, Lent, Call, guarded_delete, applied, deferred, refused_as}
use Rattle.calls.specs.Outputs.{room_of, written}
use Rattle.calls.specs.Refusals.{Test, first_of, is_off, scratch_short, lists_short, index_tests, tests, delete_over}
use Rattle.calls.specs.State.{State, stored, shown, with_graph}
use Rattle.calls.specs.Step.{slots_of, named, deletion, refusal, perform, guarded, report_of, step}
use Rattle.calls.specs.Runs.{lent_of, slices_of, call_of, run_refusal}
use Rattle.std.proofs.lemmas.Bool.{or_parts}
use Rattle.calls.proofs.Tests.{first_none, index_finds}
use Rattle.calls.proofs.Labelled.{same_guarded, same_guarded_refusal}
use Rattle.index.specs.Index.{state_of, arrays_of}
use Rattle.index.specs.Inner.Deciding.{Passed}
use Rattle.index.proofs.Decide.{shared_none, passed_none, passed_marks, passed_weighing, step_back, step_on}
use Rattle.numbers.specs.Inner.Listed.{Struck}
use Rattle.updating.specs.Inner.Emptying.{slot_delete, fewer, BySlots}
use Rattle.updating.proofs.Named.{same_named, slots_asked}
use Rattle.updating.proofs.Empties.{delete_able, strike_able, fewer_fits, state_left}
use Rattle.guarding.specs.declared.Guarded.{Guarded}
use Rattle.guarding.specs.declared.Guarded.TheVariants.{Applied, Deferred}
use Rattle.index.specs.declared.Refusal.{Refusal}
use Rattle.index.specs.Refusal.{number_of}
use Rattle.std.specs.Prelude.{Result, Ok, Err}
use Rattle.updating.specs.declared.Changed.{Changed}
use Rattle.guarding.specs.Guarded.{guarded_outputs, guarded_as, index_kept, Guards}
use Rattle.guarding.proofs.Shared.{numbers_are}
use Rattle.guarding.proofs.Tested.{Testable, Tested, number_given, none_given, able, lists_right, own}

-- ---- a guarded delete of slots

-- the call's own part of 3, for a list of n records
abbrev lists_wrong : List ℕ → List ℕ → List ℕ → ℕ → Bool
lists_wrong ids checked lost n = ltb n (length ids) || ltb (min (length checked) (length lost)) limits.landmarks

pub guarded_testable : (ids : List ℕ) (beam degree room : ℕ) (checked lost : List ℕ) → Testable (lists_wrong ids checked lost room) (delete_over limits (slot_delete ids beam degree)) ids checked lost
unfolding limits
guarded_testable ids beam degree room checked lost =
    record {
      long = λ e. ltb-false (min (length checked) (length lost)) 64 (or_parts (ltb room (length ids)) _ e).1;
      few = λ e. ltb-false 256 (length ids) (or_parts (ltb 256 beam || ltb 16 degree) _ e).1;
    }

-- a guarded delete of slots, with its slices read as s₀, whose report was asked for
pub record Reported (index : Index) (s₀ s : Slices) (ids : List ℕ) (beam degree room : ℕ) (checked lost scratch checked' lost' scratch₁ : List ℕ) (r : Result Report Refusal) : Type 0 where
  pub read : s₀ ≡ s
  pub tested : Tested index s₀ (lists_wrong ids checked lost room) (delete_over limits (slot_delete ids beam degree)) ids checked lost scratch checked' lost' scratch₁ r

module _ {index : Index} {s₀ s : Slices} {ids : List ℕ} {beam degree room : ℕ} {checked lost scratch checked' lost' scratch₁ : List ℕ} {r : Result Report Refusal}
    (known : Reported index s₀ s ids beam degree room checked lost scratch checked' lost' scratch₁ r) where
  abbrev a : Delete
  a = slot_delete ids beam degree

  abbrev wrong : ℕ → Bool
  wrong = lists_wrong ids checked lost

  abbrev over : Bool
  over = delete_over limits a

  abbrev call : List Stats → Call
  call before = record { lent = lent_of s (guarded_outputs before checked lost) scratch; operation = guarded_delete a }

  abbrev report : Guard.Report
  report = report_of (shown stored (state_of index s)) ids

  t : Tested index s (wrong room) over ids checked lost scratch checked' lost' scratch₁ r
  t = subst (λ (x : Slices). Tested index x (wrong room) over ids checked lost scratch checked' lost' scratch₁ r) known.read known.tested

  -- for a list of that room, by the tests as the definitions have them
  with_list : {q : Result Report Refusal} → r ≡ q → (before : List Stats) → length before ≡ room
      → Tested index s (wrong (length before)) over ids checked lost scratch checked' lost' scratch₁ q
  with_list e before l =
      subst (λ (x : Result Report Refusal). Tested index s (wrong (length before)) over ids checked lost scratch checked' lost' scratch₁ x) e
      (subst (λ (n : ℕ). Tested index s (wrong n) over ids checked lost scratch checked' lost' scratch₁ r) (sym l) t)

  pub guards_back : {x : Refusal} → r ≡ Err x → Guards index s a room checked lost scratch s checked' lost' scratch₁ (Err x)
  unfolding tests refused_as guarded_as index_kept written state_of stored store_ops store_view shown room_of call_of slices_of slots_of
  guards_back {x} e =
      let k = t.back x e in
      record {
        report = no_landmarks false 0;
        stats = [];
        numbers_applied = λ c w h. cc;
        numbers_deferred = λ w h. cc;
        words = λ c w h. cc;
        there = λ c w h. cc;
        fits = λ c w h. cc;
        meets = λ before l. record {
          does = sym (step_back (state_of index s) (call before) (number_of x) (number_given index s _ _ scratch (with_list e before l).decided refl));
          writes = λ i. guarded_outputs before (k.0 i) (k.1 i);
          keeps = λ m h. k.2;
        };
      }

  module _ {v : Report} (e : r ≡ Ok v) where
    reports : Reports report checked checked' lost lost' v
    reports = t.on v e

    -- the list does not matter: one of that room
    on_list : (before : List Stats) → length before ≡ room → step stored (state_of index s) (call before) ≡ perform stored (state_of index s) (guarded_delete a)
    unfolding tests state_of stored store_ops store_view shown room_of
    on_list before l = step_on (state_of index s) (call before) (none_given index s _ _ scratch (with_list e before l).decided refl)

    not_refused : (before : List Stats) → length before ≡ room → (m : ℕ) → refusal stored (state_of index s) (call before) ≡ some m → ⊥
    unfolding refusal tests state_of stored store_ops store_view shown room_of
    not_refused before l m h = let g = sym (none_given index s _ _ scratch (with_list e before l).decided refl) ∙ h in let x : ◌≡◌ {A = ℕ} 0 1 = cc in omega arith

    pub passes : Passed index s
    passes = able index s (wrong room) over scratch (subst (λ (x : Result Report Refusal). Tested index s (wrong room) over ids checked lost scratch checked' lost' scratch₁ x) e t).decided refl

    pub guards_deferred : v.admitted ≡ false → Guards index s a room checked lost scratch s checked' lost' scratch₁ (Ok (Deferred v))
    unfolding perform guarded guarded_as index_kept written call_of slices_of run_refusal state_of slots_of
    guards_deferred f =
        let g = reports in
        record {
          report = report;
          stats = [];
          numbers_applied = λ c w h. cc;
          numbers_deferred = λ x h. let i : v ≡ x = cc in sym i ∙ numbers_are g;
          words = λ c w h. cc;
          there = λ c w h. cc;
          fits = λ c w h. cc;
          meets = λ before l. record {
            does = sym (on_list before l ∙ ap (guarded stored (state_of index s) a report) (sym g.admits ∙ f));
            writes = λ i. guarded_outputs before (g.checked_list i) (g.lost_list i);
            keeps = λ m h. absurd (not_refused before l m h);
          };
        }

    pub guards_able : length scratch₁ ≡ length scratch
        → Deletable (arrays_of index s) index.entry beam degree ids scratch₁
        × Weighing s.weights × (length s.weights ≡ index.dim) × (length s.numbers ≡ length s.marks) × (index.live ≤ length s.summary)
    guards_able k =
        let d = (subst (λ (x : Result Report Refusal). Tested index s (wrong room) over ids checked lost scratch checked' lost' scratch₁ x) e t).decided in
        let p = own index s (wrong room) over scratch d refl in
        let f = strike_able passes ids beam degree in
        (delete_able passes ids beam degree scratch₁ p.0 (rw k p.1), passed_weighing passes, passes.weights_long, f.0, f.1)

    -- of the slices that the batch leaves
    module _ (s' : Slices) {scratch' : List ℕ} {entry' n : ℕ} (b : BatchDeleted (arrays_of index s) index.alpha index.entry beam degree ids (arrays_of index s') entry' n scratch')
        (k : Struck s'.marks s.numbers s.summary index.live s'.numbers s'.summary) where
      pub guards_few : n ≤ index.live
      guards_few = (fewer_fits passes ids beam degree s' b k).0

      enough : n ≤ room
      enough =
          let d = (subst (λ (x : Result Report Refusal). Tested index s (wrong room) over ids checked lost scratch checked' lost' scratch₁ x) e t).decided in
          let q = (or_parts (ltb room (length ids)) _ (lists_right index s (wrong room) over scratch d refl)).0 in
          omega (arith, b.few, ltb-false room (length ids) q)

      inside : length scratch₁ ≡ length scratch → length scratch' ≡ length scratch₁ → stats_at index.capacity + 4 * n ≤ length scratch'
      inside q l = let d = (guards_able q).0 in omega (arith, rw (passed_marks passes) at d.enough, b.few, d.ids_most, l)

      pub guards_applied : {c : Changed} → s'.pool ≡ s.pool → s'.weights ≡ s.weights → length scratch₁ ≡ length scratch → length scratch' ≡ length scratch₁ → v.admitted ≡ true → c ≡ fewer index entry' n
          → Guards index s a room checked lost scratch s' checked' lost' scratch' (Ok (Applied c v))
      unfolding perform guarded guarded_as index_kept written call_of slices_of run_refusal state_of stored slots_of
      guards_applied {c} p w q ls f e =
          let g = reports in
          let u = state_left passes ids beam degree s' b k p w (ap (λ x. x.index) e) in
          record {
            report = report;
            stats = map (stats_of scratch' (stats_at index.capacity)) (range 0 n);
            numbers_applied = λ d x h. let j : v ≡ x = cc in sym j ∙ numbers_are g;
            numbers_deferred = λ w h. cc;
            words = λ d x h. ap (λ (y : ℕ). map (stats_of scratch' (stats_at index.capacity)) (range 0 y)) (many d x h);
            there = λ d x h. omega (arith, many d x h, inside q ls);
            fits = λ d x h. omega (arith, many d x h, enough);
            meets = λ before l. record {
              does =
                  ap (λ (y : State Store × List Stats). (y.0, applied y.1 report)) u
                  ∙ sym (on_list before l ∙ ap (guarded stored (state_of index s) a report) (sym g.admits ∙ f));
              writes = λ i. guarded_outputs (put_front (map (stats_of scratch' (stats_at index.capacity)) (range 0 n)) before) (g.checked_list i) (g.lost_list i);
              keeps = λ m h. absurd (not_refused before l m h);
            };
          }
        where
          many : (d : Changed) (x : Report) → ◌≡◌ {A = Result Guarded Refusal} (Ok (Applied c v)) (Ok (Applied d x)) → n ≡ d.count
          many d x h = let j : c ≡ d = cc in sym (ap (λ y. y.count) e) ∙ ap (λ y. y.count) j

-- ---- by other names

-- none of the tests holds: no limit is passed, nor do the tests hold that calls share
accepted : (w : State Store) (lent : Lent) (a : Delete) → refusal stored w (record { lent = lent; operation = guarded_delete a }) ≡ none
    → (delete_over limits a ≡ false) × (first_of (index_tests limits lent.slices (shown stored w) false []) ≡ none)
unfolding refusal tests
accepted w lent a e =
    let after : List Test = (8, scratch_short limits lent (shown stored w)) ∷ (11, is_off (shown stored w).guard) ∷ [] in
    let rest : List Test = (7, delete_over limits a) ∷ after in
    let wrong = ltb lent.room.stats (length a.names) || lists_short limits lent.room in
    ((first_none 7 (delete_over limits a) after (index_finds lent.slices (shown stored w) wrong rest e).own).0, shared_none lent.slices (shown stored w) wrong rest e)

-- the guarded delete by slots is the one by names, of slices that are read as s₀
pub guards_named : {index : Index} {s₀ s : Slices} {a b : Delete} {room : ℕ} {checked lost scratch : List ℕ} {s' : Slices} {checked' lost' scratch' : List ℕ} {r : Result Guarded Refusal}
    → s₀ ≡ s → BySlots index s₀ a b → Guards index s (slot_delete b.names b.repair_beam b.repair_degree) room checked lost scratch s' checked' lost' scratch' r
    → Guards index s a room checked lost scratch s' checked' lost' scratch' r
unfolding call_of run_refusal slices_of state_of
guards_named {index} {s = s} {a} {b} {room} {checked} {lost} {scratch} {s'} {checked'} {lost'} {scratch'} {r} same k₀ by =
    let k = subst (λ (x : Slices). BySlots index x a b) same k₀ in
    let d = subst (λ (x : Delete). Guards index s x room checked lost scratch s' checked' lost' scratch' r) (slots_asked k) by in
    let w = state_of index s in
    let beam = ap (λ (x : Delete). x.repair_beam) k.rest in
    let degree = ap (λ (x : Delete). x.repair_degree) k.rest in
    record {
      report = d.report;
      stats = d.stats;
      numbers_applied = d.numbers_applied;
      numbers_deferred = d.numbers_deferred;
      words = d.words;
      there = d.there;
      fits = d.fits;
      meets = λ before l.
          let m = d.meets before l in
          record {
            does = m.does ∙ same_guarded w _ a b k.many beam degree (λ e. let h = accepted w _ a e in same_named k h.0 h.1);
            writes = m.writes;
            keeps = λ n e. m.keeps n (same_guarded_refusal w _ a b k.many beam degree ∙ e);
          };
    }

-- ---- the new index's alpha: the one that was accepted

module _ {index : Index} {s : Slices} {a : Delete} {room : ℕ} {checked lost scratch : List ℕ} {s' : Slices} {checked' lost' scratch' : List ℕ} {new : Changed} {v : Report}
    (c : Guards index s a room checked lost scratch s' checked' lost' scratch' (Ok (Applied new v))) where
  abbrev on : State Store
  on = state_of index s

  -- some list of that room
  abbrev any_list : List Stats
  any_list = replicate room (record { outgoing_seeds = 0; recovered_in_neighbors = 0; repair_candidates = 0; repair_edges_attempted = 0 })

  abbrev asked : Call
  asked = record { lent = lent_of s (guarded_outputs any_list checked lost) scratch; operation = guarded_delete a }

  abbrev Same : Type 0
  Same = (new.index.alpha ≡ index.alpha) × (alpha_ok index.alpha ≡ true)

  -- what is done is a delete, since it was applied
  when : Passed index s → (r : Guard.Report) (q : Bool) → (state_of new.index s', applied c.stats c.report) ≡ guarded stored on a r q → Same
  unfolding guarded deletion with_graph state_of stored store_ops store_view
  when p r true e =
      (ap (λ x. x.0.graph.alpha) e ∙ ap (λ z. z.alpha) (sizes_after_delete store_ops MarksFit store_marking on.graph (passed_marks p) a.repair_beam a.repair_degree (named on a)), p.alpha_right)
  when p r false e = let b : applied c.stats c.report ≡ deferred r = ap (λ x. x.1) e in absurd (let z : ◌≡◌ {A = ℕ} 0 1 = cc in omega arith)

  pub applied_alpha : Same
  unfolding tests perform refused_as guarded_as index_kept state_of stored store_ops store_view shown room_of call_of slices_of
  applied_alpha = go _ refl
    where
      go : (o : Option ℕ) → first_of (tests limits asked.lent (shown stored on) (guarded_delete a)) ≡ o → Same
      go (some m) e =
          let b : applied c.stats c.report ≡ refused_as m (guarded_delete a) = ap (λ x. x.1) ((c.meets any_list (length-replicate room _)).does ∙ step_back on asked m e) in
          absurd (let z : ◌≡◌ {A = ℕ} 0 1 = cc in omega arith)
      go none e =
          let p = passed_none index s _ _ e in
          let r = report_of (shown stored on) (named on a) in
          when p r r.admitted ((c.meets any_list (length-replicate room _)).does ∙ step_on on asked e)
