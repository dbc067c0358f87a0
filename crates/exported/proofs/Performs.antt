-- What a run of each exported function does: the proof of `ExportedPerforms`. Assumes nothing.
use Prim.Native.Nat.{ℕ}
use mathlib.Core.Bool.{Bool, true, false, cond}
use mathlib.Core.List.{List, [], ◌∷◌, map}
use mathlib.Core.Logic.{◌⊎◌, inl, inr, ⊎_elim}
use mathlib.Core.Option.{Option, none, some}
use mathlib.Core.Path.{◌≡◌, refl, sym, ap, ◌∙◌, subst}
use borrow.Author.Tests.{eqb-true, eqb-false}
use lib.Dec.{eqb}
use lib.Ieee.{Float}
use lib.ListN.{length, get_or, length-map}
use Rattle.std.specs.Prelude.{Some, None, Result, Ok, Err}
use Rattle.lists.specs.Lists.{range}
use Rattle.lists.proofs.Ranges.{length_range}
use Rattle.vectors.specs.Distance.{f32}
use Rattle.candidates.specs.Candidates.{Candidate}
use Rattle.slots.specs.Store.{Store, or_blank, store_view}
use Rattle.calls.specs.Calls.{Making, Search, Insert, Delete, Operation, create, read, read_vector, search, insert, delete, Answer, refused, created, alpha, vector, refused_as, Assess, enable, assess, guarded_delete}
use Rattle.guard.specs.Guard.{Config, config, off, on}
use Rattle.guard.specs.Guard as Guard
use Rattle.guard.specs.Lent.{entry_of}
use Rattle.admission.specs.declared.report.Report.{Report}
use Rattle.calls.specs.Calls as Answers
use Rattle.calls.specs.Outputs.{no_outputs, written}
use Rattle.calls.specs.State.{State, state, stored}
use Rattle.calls.specs.Step.{refusal, settle, step}
use Rattle.calls.specs.Runs.{slices_of, value_of, call_of, run_refusal, Meets}
use Rattle.calls.specs.Runs as Runs
use Rattle.index.specs.declared.Index.{Index}
use Rattle.index.specs.declared.Refusal.{Refusal}
use Rattle.index.specs.Index.{guard_of, index_value, state_of}
use Rattle.index.specs.Create.{created_as, left_by, create_run}
use Rattle.index.proofs.Calls.{create_meets}
use Rattle.reading.specs.declared.Reading.{Reading}
use Rattle.reading.specs.declared.Reading.TheVariants.{Dim, Capacity, Degree, Alpha, Entry, Live, Mark, Version, Number, Target}
use Rattle.reading.specs.declared.Value.{Value}
use Rattle.reading.specs.declared.Value.TheVariants.{Alpha as Factor}
use Rattle.reading.specs.Read.{reading_of, answer_of, Reads}
use Rattle.reading.specs.Search.{found_as, search_outputs}
use Rattle.updating.specs.declared.Changed.{Changed}
use Rattle.updating.specs.Insert.{insert_outputs, inserted_as, index_after}
use Rattle.updating.specs.Delete.{stats_outputs, deleted_as, index_left}
use Rattle.repair.specs.Delete.{Stats}
use Rattle.deletion.specs.Batch.{stats_of, stats_at}
use Rattle.words.specs.IndexWords.{index_of, value_words, words_of}
use Rattle.words.specs.IndexWords.{guard_of as guard_in}
use Rattle.words.specs.Given.{map_ok, CreatesWords, value_in, ReadsNumber, ReadsLength, SearchesWords, changed_words, InsertsWords, DeletesWords, standing_words, StandsWords, enabled_words, EnablesWords, AssessesWords, guarded_words, GuardsWords}
use Rattle.words.specs.Given as Given
use Rattle.exported.specs.Runs.{Memory, bytes_from, Places, places, nowhere, in_value, ExportedRun, making, changing, looking, Exported, finder_create, finder_dim, finder_capacity, finder_degree, finder_entry, finder_live, finder_mark, finder_slot_version, finder_number, finder_target, finder_alpha, finder_vector, finder_search, finder_insert, finder_delete, in_guard, finder_guard_enable, finder_guard_status, finder_assess, finder_guarded_delete}
use Rattle.guarding.specs.declared.Guarded.{Guarded}
use Rattle.guarding.specs.declared.Guarded.TheVariants.{Applied, Deferred}
use Rattle.guarding.specs.Guarded.{guarded_outputs, guarded_as, index_kept}
use Rattle.guarding.specs.declared.Status.{Status}
use Rattle.guarding.specs.declared.Enabled.{Enabled}
use Rattle.guarding.specs.Guarding.{standing_as, enabled_as, enabled_index, report_outputs, numbers_of, assessed_as}
use Rattle.words.specs.GuardWords.{flag, report_words}
use Rattle.exported.specs.Performs.{value_held, state_in, call_in, numbers, put, Rewrites, by_create, by_insert, by_delete, by_enable, by_guarded_delete, Gives, Untouched, Performs, ExportedPerforms}

-- ---- the index that words hold

-- as the contracts say it
abbrev held_in : Memory → State Store
held_in a = state_of (index_of a.words) a.slices

abbrev Rightly : Memory → Type 0
Rightly a = a.words ≡ words_of (index_of a.words)

same_value : (w : List ℕ) → index_value (index_of w) ≡ value_held w
unfolding index_of guard_in guard_of value_held
same_value w =
    let g = go (eqb (get_or w 6 0) 0) in
    λ i. record { sizes = (value_held w).sizes; entry = get_or w 4 0; live = get_or w 5 0; guard = g i }
  where
    go : (b : Bool)
        → guard_of (cond b None (Some (record { config = record { count = get_or w 7 0; multiplier = get_or w 8 0; sample = get_or w 9 0; beam = get_or w 10 0 }; pool = get_or w 11 0 })))
        ≡ cond b off (on (config (get_or w 7 0) (get_or w 8 0) (get_or w 9 0) (get_or w 10 0)) (get_or w 11 0))
    go true = refl
    go false = refl

same_state : held_in ≡ state_in
unfolding state_of
same_state = λ i a. state (same_value a.words i) a.slices

right : (a : Memory) → Rightly a → a.words ≡ value_words (value_of (state_in a))
unfolding value_of store_view
right a h = h ∙ ap value_words (same_value a.words)

-- ---- the words that a run leaves

abbrev Words : ExportedRun → Answer → Type 0
Words r a = (Rewrites r.operation a × Rightly r.left) ⊎ ((Rewrites r.operation a → ⊥) × (r.left.words ≡ r.lent.words))

not_refused : {o : Operation} {n : ℕ} → Rewrites o (refused n) → ⊥
not_refused h = elim h [ ]

-- a call that is turned back keeps them
not_back : (n : ℕ) (o : Operation) → Rewrites o (refused_as n o) → ⊥
unfolding refused_as
not_back n (create m) h = not_refused h
not_back n (read q) h = not_refused h
not_back n (read_vector s) h = elim h [ ]
not_back n (search a) h = not_refused h
not_back n (insert a) h = not_refused h
not_back n (delete a) h = not_refused h
not_back n (enable c) h = not_refused h
not_back n Answers.status h = not_refused h
not_back n (assess a) h = not_refused h
not_back n (guarded_delete a) h = not_refused h

-- a run as the theorem over runs of the calls takes it
abbrev pub as_run : (Memory → State Store) → ExportedRun → Answer → Runs.Run
as_run state_of r answer =
    record {
      operation = r.operation;
      before = state_of r.lent;
      after = state_of r.left;
      answer = answer;
      outputs_before = r.before.outputs;
      outputs_after = r.after.outputs;
      scratch_before = r.scratch;
      scratch_after = r.scratch';
    }

-- ---- a status tells whether the call is carried out

-- the answer of a call that answers `a` where the status is 0
abbrev by_status : ℕ → Answer → Answer
by_status status a = cond (eqb status 0) a (refused status)

module _ (status : ℕ) (a : Answer) (before after : Places) where
  status_tells : (status ≡ 0 → put a before ≡ (0, after)) → ((status ≡ 0 → ⊥) → after ≡ before) → (status, after) ≡ put (by_status status a) before
  unfolding put
  status_tells done kept = go (eqb status 0) refl
    where
      go : (b : Bool) → eqb status 0 ≡ b → (status, after) ≡ put (cond b a (refused status)) before
      go true e = let z = eqb-true status 0 e in ap (λ n. (n, after)) z ∙ sym (done z)
      go false e = ap (λ o. (status, o)) (kept (eqb-false status 0 e))

-- ---- the run of a call

module _ (r : ExportedRun) (answer : Answer) (c : Meets (as_run held_in r answer)) (t : (r.returned, r.after) ≡ put answer r.before) where
  f : Meets (as_run state_in r answer)
  f = subst (λ h. Meets (as_run h r answer)) same_state c

  abbrev stepped : State Store × Answer
  stepped = step stored (state_in r.lent) (call_in r)

  as_stepped : ◌≡◌ {A = State Store × Answer} (state_in r.left, answer) stepped
  unfolding call_of slices_of state_of
  as_stepped = f.does

  answered : answer ≡ stepped.1
  answered = ap (λ (q : State Store × Answer). q.1) as_stepped

  gives : Words r answer → Gives r stepped
  gives w =
      let leaves = ap (λ (q : State Store × Answer). q.0) as_stepped in
      record {
        leaves = leaves;
        tells = t ∙ ap (λ a. put a r.before) answered;
        words = ⊎_elim
            (λ x. inl (subst (Rewrites r.operation) answered x.0, right r.left x.1 ∙ ap (λ w. value_words (value_of w)) leaves))
            (λ x. inr (λ h. x.0 (subst (Rewrites r.operation) (sym answered) h), x.1))
            w;
      }

  -- where it is turned back
  module _ (n : ℕ) (h : refusal stored (state_in r.lent) (call_in r) ≡ some n) where
    back : stepped ≡ (state_in r.lent, refused_as n r.operation)
    unfolding step settle
    back = ap (settle stored (state_in r.lent) (call_in r)) h

    kept : Words r answer → r.left.words ≡ r.lent.words
    kept (inl x) = absurd (not_back n r.operation (subst (Rewrites r.operation) (answered ∙ ap (λ (q : State Store × Answer). q.1) back) x.0))
    kept (inr x) = x.1

    untouched : (put (refused_as n r.operation) r.before).1 ≡ r.before → Words r answer → Untouched r
    unfolding run_refusal call_of slices_of state_of
    untouched stays w =
        let k = kept w in
        let s = ap (λ (q : State Store × Answer). slices_of q.0) (as_stepped ∙ back) in
        record {
          memory = λ i. record { words = k i; slices = s i };
          scratch = f.keeps n h;
          places = ap (λ (x : ℕ × Places). x.1) t ∙ ap (λ (q : State Store × Answer). (put q.1 r.before).1) (as_stepped ∙ back) ∙ stays;
        }

  performed : ((n : ℕ) → (put (refused_as n r.operation) r.before).1 ≡ r.before) → Words r answer → Performs r
  performed stays w = record { does = gives w; refused = λ n h. untouched n h (stays n) w }

performs_looking : {o : Operation} {lent : Memory} {scratch scratch' : List ℕ} {before after : Places} {returned : ℕ} → ((a : Answer) → Rewrites o a → ⊥) → (answer : Answer)
    → Meets (as_run held_in (looking o lent scratch scratch' before after returned) answer) → (returned, after) ≡ put answer before → ((n : ℕ) → (put (refused_as n o) before).1 ≡ before)
    → Performs (looking o lent scratch scratch' before after returned)
performs_looking looks answer f t stays = performed _ answer f t stays (inr (looks answer, refl))

-- ---- making

module _ {m : Making} {lent left : Memory} {status : ℕ} (c : CreatesWords m lent.slices left.slices lent.words left.words status) where
  abbrev making_run : ExportedRun
  making_run = making m lent left status

  abbrev Told : Result Index Refusal → Type 0
  Told r = (status, left.words) ≡ Given.put (map_ok words_of r) lent.words

  abbrev Held : Result Index Refusal → Type 0
  Held r = (i : Index) → r ≡ Ok i → index_of left.words ≡ i

  made_left : (r : Result Index Refusal) → Told r → Held r → left_by r (held_in lent) left.slices ≡ held_in left
  unfolding left_by state_of value_of store_view
  made_left (Ok i) e h = ap (λ j. state_of j left.slices) (sym (h i refl))
  made_left (Err k) e h = ap (λ w. state_of (index_of w) left.slices) (sym (ap (λ x. x.1) e))

  made_run : create_run m (held_in lent) lent.slices left.slices c.answer ≡ as_run held_in making_run (created_as c.answer)
  unfolding state_of value_of store_view
  made_run = λ i. record {
    operation = create m;
    before = held_in lent;
    after = made_left c.answer c.told c.held i;
    answer = created_as c.answer;
    outputs_before = no_outputs;
    outputs_after = no_outputs;
    scratch_before = [];
    scratch_after = [];
  }

  made_tells : (r : Result Index Refusal) → Told r → (status, nowhere) ≡ put (created_as r) nowhere
  unfolding put created_as
  made_tells (Ok i) e = λ j. ((e j).0, nowhere)
  made_tells (Err k) e = λ j. ((e j).0, nowhere)

  made_words : (r : Result Index Refusal) → Told r → Held r → Words making_run (created_as r)
  unfolding created_as
  made_words (Ok i) e h = inl (by_create, ap (λ x. x.1) e ∙ ap words_of (sym (h i refl)))
  made_words (Err k) e h = inr (not_refused, ap (λ x. x.1) e)

  performs_making : Performs making_run
  unfolding put refused_as
  performs_making =
      performed making_run (created_as c.answer) (subst Meets made_run (create_meets (held_in lent) c.answer c.does)) (made_tells c.answer c.told) (λ n. refl)
      (made_words c.answer c.told c.held)

-- ---- readings

-- what is read is put where the answer is written
module _ {A : Type 0} (value : A → ℕ) (alpha : A → Float) (version : A → ℕ) where
  abbrev at : A → Places
  at a = places (value a) (alpha a) (version a) [] [] no_outputs

  reading_tells : (q : A → Value) (before after : A) {status : ℕ} (r : Result A Refusal) → ◌≡◌ {A = ℕ × A} (status, after) (Given.put r before)
      → ((a : A) → put (answer_of (Ok (q a))) (at before) ≡ (0, at a)) → (status, at after) ≡ put (answer_of (map_ok q r)) (at before)
  unfolding put answer_of
  reading_tells q before after (Ok a) e g = (λ i. ((e i).0, at (e i).1)) ∙ sym (g a)
  reading_tells q before after (Err k) e g = λ i. ((e i).0, at (e i).1)

  performs_reading : {lent : Memory} (before after : A) {status : ℕ} (q : Reading) (v : A → Value) (r : Result A Refusal) → Reads (index_of lent.words) lent.slices q (map_ok v r)
      → ◌≡◌ {A = ℕ × A} (status, after) (Given.put r before) → ((a : A) → put (answer_of (Ok (v a))) (at before) ≡ (0, at a))
      → Performs (looking (read (reading_of q)) lent [] [] (at before) (at after) status)
  unfolding put refused_as
  performs_reading before after q v r c e g = performs_looking (λ a h. elim h [ ]) (answer_of (map_ok v r)) c.meets (reading_tells v before after r e g) (λ n. refl)

-- a number that is no version
performs_number : {lent : Memory} {before after status : ℕ} (q : Reading) (c : ReadsNumber lent.words lent.slices q before after status)
    → ((n : ℕ) → put (answer_of (Ok (value_in q n))) (in_value before) ≡ (0, in_value n))
    → Performs (looking (read (reading_of q)) lent [] [] (in_value before) (in_value after) status)
performs_number q c = performs_reading (λ n. n) (λ n. f32 0) (λ n. 0) _ _ q (value_in q) c.answer c.does c.told

-- where it is turned back, the part is empty
performs_vector : {lent : Memory} {slot n : ℕ} → ReadsLength lent.words lent.slices slot n
    → Performs (looking (read_vector slot) lent [] [] nowhere (places 0 (f32 0) 0 (bytes_from lent slot n) [] no_outputs) n)
unfolding put refused_as index_of
performs_vector {lent} {slot} {n} c =
    let l = bytes_from lent slot n in
    performs_looking (λ a h. elim h [ ]) (vector l) c.does.meets (ap (λ k. (k, places 0 (f32 0) 0 l [] no_outputs)) c.there) (λ n. refl)

-- ---- search

module _ {lent : Memory} {a : Search} {slots slots' : List ℕ} {dists dists' : List Float} {numbers numbers' scratch scratch' : List ℕ} {found found' status : ℕ}
    (c : SearchesWords lent.words lent.slices a (search_outputs slots dists numbers) scratch (search_outputs slots' dists' numbers') scratch' found found' status) where
  abbrev before : Places
  before = places found (f32 0) 0 [] [] (search_outputs slots dists numbers)

  abbrev after : Places
  after = places found' (f32 0) 0 [] [] (search_outputs slots' dists' numbers')

  search_tells : (r : Result ℕ Refusal) (cs : List Candidate) (ns : List ℕ) → (status, found') ≡ Given.put r found → ((n : ℕ) → r ≡ Ok n → n ≡ length cs)
      → search_outputs slots' dists' numbers' ≡ written (found_as r cs ns) (search_outputs slots dists numbers) → (status, after) ≡ put (found_as r cs ns) before
  unfolding put written found_as
  search_tells (Ok n) cs ns e h o = let m = ap (λ x. x.1) e ∙ h n refl in λ i. ((e i).0, places (m i) (f32 0) 0 [] [] (o i))
  search_tells (Err k) cs ns e h o = λ i. ((e i).0, places (e i).1 (f32 0) 0 [] [] (o i))

  performs_search : Performs (looking (search a) lent scratch scratch' before after status)
  unfolding put refused_as
  performs_search =
      let d = c.does in
      performs_looking (λ a h. elim h [ ]) (found_as c.answer d.nearest d.numbers) d.meets (search_tells c.answer d.nearest d.numbers c.told d.counts d.meets.writes) (λ n. refl)

-- ---- insert

module _ {lent left : Memory} {a : Insert} {slots slots' scratch scratch' : List ℕ} {found found' status : ℕ}
    (c : InsertsWords lent.words lent.slices a (insert_outputs slots) scratch left.words left.slices (insert_outputs slots') scratch' found found' status) where
  abbrev before_insert : Places
  before_insert = places found (f32 0) 0 [] [] (insert_outputs slots)

  abbrev after_insert : Places
  after_insert = places found' (f32 0) 0 [] [] (insert_outputs slots')

  abbrev insert_run : ExportedRun
  insert_run = changing (insert a) lent left scratch scratch' before_insert after_insert status

  abbrev filled : List ℕ
  filled = c.does.filled

  abbrev insert_answer : Answer
  insert_answer = inserted_as c.answer filled

  insert_meets : Meets (as_run held_in insert_run insert_answer)
  insert_meets =
      subst Meets
      (λ i. record {
        operation = insert a;
        before = held_in lent;
        after = state_of (sym c.held i) left.slices;
        answer = insert_answer;
        outputs_before = insert_outputs slots;
        outputs_after = insert_outputs slots';
        scratch_before = scratch;
        scratch_after = scratch';
      })
      c.does.meets

  insert_tells : (r : Result Changed Refusal) (ss : List ℕ) → (status, (left.words, found')) ≡ Given.put (map_ok changed_words r) (lent.words, found)
      → ((d : Changed) → r ≡ Ok d → d.count ≡ length ss) → insert_outputs slots' ≡ written (inserted_as r ss) (insert_outputs slots)
      → (status, after_insert) ≡ put (inserted_as r ss) before_insert
  unfolding put written inserted_as
  insert_tells (Ok d) ss e h o = let m = ap (λ x. x.1.1) e ∙ h d refl in λ i. ((e i).0, places (m i) (f32 0) 0 [] [] (o i))
  insert_tells (Err k) ss e h o = λ i. ((e i).0, places (e i).1.1 (f32 0) 0 [] [] (o i))

  insert_words : (r : Result Changed Refusal) (ss : List ℕ) → (status, (left.words, found')) ≡ Given.put (map_ok changed_words r) (lent.words, found)
      → index_of left.words ≡ index_after (index_of lent.words) r → Words insert_run (inserted_as r ss)
  unfolding index_after inserted_as
  insert_words (Ok d) ss e g = inl (by_insert, ap (λ x. x.1.0) e ∙ ap words_of (sym g))
  insert_words (Err k) ss e g = inr (not_refused, ap (λ x. x.1.0) e)

  performs_insert : Performs insert_run
  unfolding put refused_as
  performs_insert =
      performed insert_run insert_answer insert_meets (insert_tells c.answer filled c.told c.does.counts insert_meets.writes)
      (λ n. refl) (insert_words c.answer filled c.told c.held)

-- ---- delete

module _ {lent left : Memory} {a : Delete} {stats stats' : List Stats} {scratch scratch' : List ℕ} {found found' status : ℕ}
    (c : DeletesWords lent.words lent.slices a (stats_outputs stats) scratch left.words left.slices (stats_outputs stats') scratch' found found' status) where
  abbrev delete_run : ExportedRun
  delete_run = changing (delete a) lent left scratch scratch' (places found (f32 0) 0 [] [] (stats_outputs stats)) (places found' (f32 0) 0 [] [] (stats_outputs stats')) status

  abbrev delete_answer : Answer
  delete_answer = deleted_as c.answer c.does.stats

  delete_meets : Meets (as_run held_in delete_run delete_answer)
  delete_meets =
      subst Meets
      (λ i. record {
        operation = delete a;
        before = held_in lent;
        after = state_of (sym c.held i) left.slices;
        answer = delete_answer;
        outputs_before = stats_outputs stats;
        outputs_after = sym c.listed i;
        scratch_before = scratch;
        scratch_after = scratch';
      })
      (c.does.meets stats refl)

  delete_tells : (r : Result Changed Refusal) (ts : List Stats) → (status, (left.words, found')) ≡ Given.put (map_ok changed_words r) (lent.words, found)
      → ((d : Changed) → r ≡ Ok d → ts ≡ map (stats_of scratch' (stats_at (index_of lent.words).capacity)) (range 0 d.count))
      → stats_outputs stats' ≡ written (deleted_as r ts) (stats_outputs stats)
      → (status, places found' (f32 0) 0 [] [] (stats_outputs stats')) ≡ put (deleted_as r ts) (places found (f32 0) 0 [] [] (stats_outputs stats))
  unfolding put written deleted_as
  delete_tells (Ok d) ts e w o =
      let many : length ts ≡ d.count = ap length (w d refl) ∙ length-map (range 0 d.count) (stats_of scratch' (stats_at (index_of lent.words).capacity)) ∙ length_range 0 d.count in
      let f = ap (λ x. x.1.1) e ∙ sym many in
      λ i. ((e i).0, places (f i) (f32 0) 0 [] [] (o i))
  delete_tells (Err k) ts e w o = λ i. ((e i).0, places (e i).1.1 (f32 0) 0 [] [] (o i))

  delete_words : (r : Result Changed Refusal) (ts : List Stats) → (status, (left.words, found')) ≡ Given.put (map_ok changed_words r) (lent.words, found)
      → index_of left.words ≡ index_left (index_of lent.words) r → Words delete_run (deleted_as r ts)
  unfolding index_left deleted_as
  delete_words (Ok d) ts e g = inl (by_delete, ap (λ x. x.1.0) e ∙ ap words_of (sym g))
  delete_words (Err k) ts e g = inr (not_refused, ap (λ x. x.1.0) e)

  performs_delete : Performs delete_run
  unfolding put refused_as
  performs_delete =
      performed delete_run delete_answer delete_meets (delete_tells c.answer c.does.stats c.told c.does.words c.listed)
      (λ n. refl) (delete_words c.answer c.does.stats c.told c.held)

-- ---- the guard

standing_tells : (place : List ℕ) {place' : List ℕ} {status : ℕ} (r : Result Status Refusal) → (status, place') ≡ Given.put (map_ok standing_words r) place
    → (status, in_guard place' no_outputs) ≡ put (standing_as r) (in_guard place no_outputs)
unfolding put standing_as
standing_tells place (Ok s) e = λ i. ((e i).0, in_guard (e i).1 no_outputs)
standing_tells place (Err k) e = λ i. ((e i).0, in_guard (e i).1 no_outputs)

performs_status : {lent : Memory} {place place' : List ℕ} {status : ℕ} → StandsWords lent.words lent.slices place place' status
    → Performs (looking Answers.status lent [] [] (in_guard place no_outputs) (in_guard place' no_outputs) status)
unfolding put refused_as
performs_status c =
    performs_looking (λ a h. elim h [ ]) (standing_as c.answer) c.does.meets (standing_tells _ c.answer c.told) (λ n. refl)

-- the words of a report's numbers
report_told : (r : Guard.Report) → report_words (numbers_of r) ≡ numbers r
unfolding report_words
report_told r = go r.entry
  where
    go : (o : Option ℕ)
        → report_words (record {
          admitted = r.admitted;
          requested = r.requested;
          entry = entry_of o;
          checked = length r.checked;
          baseline = r.baseline;
          residual = r.residual;
          lost = length r.lost;
          supplemental = r.supplemental;
        })
        ≡ flag r.admitted ∷ r.requested ∷ or_blank o ∷ length r.checked ∷ r.baseline ∷ r.residual ∷ length r.lost ∷ r.supplemental ∷ []
    go none = refl
    go (some s) = refl

module _ {lent : Memory} {a : Assess} {checked checked' lost lost' scratch scratch' place place' : List ℕ} {status : ℕ}
    (c : AssessesWords lent.words lent.slices a (report_outputs checked lost) scratch (report_outputs checked' lost') scratch' place place' status) where
  assess_tells : (r : Result Report Refusal) → (status, place') ≡ Given.put (map_ok report_words r) place → ((n : Report) → r ≡ Ok n → n ≡ numbers_of c.does.report)
      → report_outputs checked' lost' ≡ written (assessed_as r c.does.report) (report_outputs checked lost)
      → (status, in_guard place' (report_outputs checked' lost')) ≡ put (assessed_as r c.does.report) (in_guard place (report_outputs checked lost))
  unfolding put written assessed_as report_words
  assess_tells (Ok n) e h o =
      let w = ap (λ x. x.1) e ∙ ap report_words (h n refl) ∙ report_told c.does.report in
      λ i. ((e i).0, in_guard (w i) (o i))
  assess_tells (Err k) e h o = λ i. ((e i).0, in_guard (e i).1 (o i))

  performs_assess : Performs (looking (assess a) lent scratch scratch' (in_guard place (report_outputs checked lost)) (in_guard place' (report_outputs checked' lost')) status)
  unfolding put refused_as
  performs_assess =
      performs_looking (λ a h. elim h [ ]) (assessed_as c.answer c.does.report) c.does.meets
      (assess_tells c.answer c.told c.does.numbers c.does.meets.writes) (λ n. refl)

module _ {lent left : Memory} {config : Config} {scratch scratch' place place' : List ℕ} {status : ℕ}
    (c : EnablesWords lent.words lent.slices config scratch left.words left.slices scratch' place place' status) where
  abbrev enable_run : ExportedRun
  enable_run = changing (enable config) lent left scratch scratch' (in_guard place no_outputs) (in_guard place' no_outputs) status

  enable_meets : Meets (as_run held_in enable_run (enabled_as c.answer))
  enable_meets = subst (λ i. Meets (enabled_run i)) (sym c.held) c.does.meets
    where
      enabled_run : Index → Runs.Run
      enabled_run i =
          record {
            operation = enable config;
            before = held_in lent;
            after = state_of i left.slices;
            answer = enabled_as c.answer;
            outputs_before = no_outputs;
            outputs_after = no_outputs;
            scratch_before = scratch;
            scratch_after = scratch';
          }

  enable_tells : (r : Result Enabled Refusal) → (status, (left.words, place')) ≡ Given.put (map_ok enabled_words r) (lent.words, place)
      → (status, in_guard place' no_outputs) ≡ put (enabled_as r) (in_guard place no_outputs)
  unfolding put enabled_as
  enable_tells (Ok n) e = λ i. ((e i).0, in_guard (e i).1.1 no_outputs)
  enable_tells (Err k) e = λ i. ((e i).0, in_guard (e i).1.1 no_outputs)

  enable_words : (r : Result Enabled Refusal) → (status, (left.words, place')) ≡ Given.put (map_ok enabled_words r) (lent.words, place)
      → index_of left.words ≡ enabled_index (index_of lent.words) r → Words enable_run (enabled_as r)
  unfolding enabled_index enabled_as
  enable_words (Ok n) e g = inl (by_enable, ap (λ x. x.1.0) e ∙ ap words_of (sym g))
  enable_words (Err k) e g = inr (not_refused, ap (λ x. x.1.0) e)

  performs_enable : Performs enable_run
  unfolding put refused_as
  performs_enable =
      performed enable_run (enabled_as c.answer) enable_meets (enable_tells c.answer c.told) (λ n. refl) (enable_words c.answer c.told c.held)

-- ---- the guarded delete

module _ {lent left : Memory} {a : Delete} {stats stats' : List Stats} {checked checked' lost lost' scratch scratch' place place' : List ℕ} {found found' status : ℕ}
    (c : GuardsWords lent.words lent.slices a (guarded_outputs stats checked lost) scratch left.words left.slices (guarded_outputs stats' checked' lost') scratch' found found' place place' status) where
  abbrev guarded_run : ExportedRun
  guarded_run =
      changing (guarded_delete a) lent left scratch scratch' (places found (f32 0) 0 [] place (guarded_outputs stats checked lost)) (places found' (f32 0) 0 [] place' (guarded_outputs stats' checked' lost')) status

  abbrev guarded_answer : Answer
  guarded_answer = guarded_as c.answer c.does.stats c.does.report

  guarded_meets : Meets (as_run held_in guarded_run guarded_answer)
  guarded_meets =
      subst Meets
      (λ i. record {
        operation = guarded_delete a;
        before = held_in lent;
        after = state_of (sym c.held i) left.slices;
        answer = guarded_answer;
        outputs_before = guarded_outputs stats checked lost;
        outputs_after = guarded_outputs (sym c.listed i).stats checked' lost';
        scratch_before = scratch;
        scratch_after = scratch';
      })
      (c.does.meets stats refl)

  abbrev TellsOf : Result Guarded Refusal → Type 0
  TellsOf r = (status, (left.words, found', place')) ≡ Given.put (map_ok (guarded_words lent.words) r) (lent.words, found, place)

  guarded_tells : (r : Result Guarded Refusal) (ts : List Stats) → TellsOf r
      → ((d : Changed) (v : Report) → r ≡ Ok (Applied d v) → ts ≡ map (stats_of scratch' (stats_at (index_of lent.words).capacity)) (range 0 d.count))
      → ((d : Changed) (v : Report) → r ≡ Ok (Applied d v) → v ≡ numbers_of c.does.report) → ((v : Report) → r ≡ Ok (Deferred v) → v ≡ numbers_of c.does.report)
      → guarded_outputs stats' checked' lost' ≡ written (guarded_as r ts c.does.report) (guarded_outputs stats checked lost)
      → (status, places found' (f32 0) 0 [] place' (guarded_outputs stats' checked' lost')) ≡ put (guarded_as r ts c.does.report) (places found (f32 0) 0 [] place (guarded_outputs stats checked lost))
  unfolding put written guarded_as report_words
  guarded_tells (Ok (Applied d v)) ts e w g h o =
      let many : length ts ≡ d.count = ap length (w d v refl) ∙ length-map (range 0 d.count) (stats_of scratch' (stats_at (index_of lent.words).capacity)) ∙ length_range 0 d.count in
      let f = ap (λ x. x.1.1) e ∙ sym many in
      let p = ap (λ x. x.1.2) e ∙ ap report_words (g d v refl) ∙ report_told c.does.report in
      λ i. ((e i).0, places (f i) (f32 0) 0 [] (p i) (o i))
  guarded_tells (Ok (Deferred v)) ts e w g h o =
      let p = ap (λ x. x.1.2) e ∙ ap report_words (h v refl) ∙ report_told c.does.report in
      λ i. ((e i).0, places (e i).1.1 (f32 0) 0 [] (p i) (o i))
  guarded_tells (Err k) ts e w g h o = λ i. ((e i).0, places (e i).1.1 (f32 0) 0 [] (e i).1.2 (o i))

  words_guarded : (r : Result Guarded Refusal) (ts : List Stats) → TellsOf r → index_of left.words ≡ index_kept (index_of lent.words) r → Words guarded_run (guarded_as r ts c.does.report)
  unfolding index_kept guarded_as
  words_guarded (Ok (Applied d v)) ts e g = inl (by_guarded_delete, ap (λ x. x.1.0) e ∙ ap words_of (sym g))
  words_guarded (Ok (Deferred v)) ts e g = inr (λ h. elim h [ ], ap (λ x. x.1.0) e)
  words_guarded (Err k) ts e g = inr (not_refused, ap (λ x. x.1.0) e)

  performs_guarded : Performs guarded_run
  unfolding put refused_as
  performs_guarded =
      performed guarded_run guarded_answer guarded_meets
      (guarded_tells c.answer c.does.stats c.told c.does.words c.does.numbers_applied c.does.numbers_deferred c.listed)
      (λ n. refl) (words_guarded c.answer c.does.stats c.told c.held)

-- ---- every exported function

performs : {r : ExportedRun} → Exported r → Performs r
unfolding reading_of answer_of value_in put
performs (finder_create c) = performs_making c
performs (finder_dim c) = performs_number Dim c (λ n. refl)
performs (finder_capacity c) = performs_number Capacity c (λ n. refl)
performs (finder_degree c) = performs_number Degree c (λ n. refl)
performs (finder_entry c) = performs_number Entry c (λ n. refl)
performs (finder_live c) = performs_number Live c (λ n. refl)
performs (finder_mark {slot} c) = performs_number (Mark slot) c (λ n. refl)
performs (finder_slot_version {slot} c) = performs_reading (λ n. 0) (λ n. f32 0) (λ n. n) _ _ (Version slot) (value_in (Version slot)) c.answer c.does c.told (λ n. refl)
performs (finder_number {slot} c) = performs_number (Number slot) c (λ n. refl)
performs (finder_target {slot} {place} c) = performs_number (Target slot place) c (λ n. refl)
performs (finder_alpha c) = performs_reading (λ a. 0) (λ a. a) (λ a. 0) _ _ Alpha Factor c.answer c.does c.told (λ a. refl)
performs (finder_vector c) = performs_vector c
performs (finder_search c) = performs_search c
performs (finder_insert c) = performs_insert c
performs (finder_delete stats stats' c) = performs_delete c
performs (finder_guard_enable c) = performs_enable c
performs (finder_guard_status c) = performs_status c
performs (finder_assess c) = performs_assess c
performs (finder_guarded_delete stats stats' c) = performs_guarded c

pub exported_performs : ExportedPerforms
exported_performs r x = performs x
