-- Demand 3 over lists of calls: the proof of `History`. Assumes nothing.
use Prim.Native.Nat.{ℕ, zero, suc, ◌+◌, ◌-◌, ◌*◌, ◌/◌, ◌≤◌, max}
use mathlib.Core.Bool.{Bool, true, false, not, ◌||◌, cond}
use mathlib.Core.Option.{Option, none, some}
use mathlib.Core.Path.{◌≡◌, refl, sym, ap, ap₂, ◌∙◌, subst}
use mathlib.Core.List.{List, [], ◌∷◌, ◌++◌, map}
use native.Mathlib.Omega.{arith}
use native.Mathlib.Nat.{div-mul-le_self, mul-le-mul, le_trans, max-le}
use borrow.Author.Tests.{ltb-false}
use lib.ListN.{length, take, drop, get_or, replicate, length-drop, length-append, length-replicate}
use lib.Seq.{length-take-le, take-append-le}
use lib.Dec.{eqb, ltb}
use Rattle.std.proofs.lemmas.Bool.{or_parts}
use Rattle.lists.specs.Lists.{filter, range, part, times, least_of}
use Rattle.lists.proofs.Parts.{before_next}
use Rattle.lists.proofs.Counts.{times_append}
use Rattle.vectors.specs.Distance.{distance}
use Rattle.vectors.specs.Space.{slot_distance}
use Rattle.slots.specs.Sizes.{Sizes, Lengths, limits}
use Rattle.slots.specs.View.{View, live_neighbors, live_slots, free_slots, emptied}
use Rattle.slots.specs.Store.{Store, blank, store_view, store_ops, new_arrays}
use Rattle.slots.specs.Plain.{plain_ops}
use Rattle.slots.proofs.Agree.{Agree, recount}
use Rattle.slots.proofs.New.{agree_new}
use Rattle.slots.proofs.Live.{MarksFit, store_marking}
use Rattle.candidates.specs.Candidates.{ids}
use Rattle.numbers.specs.Numbers.{number_of, write_numbers, live_numbers, summary_of}
use Rattle.numbers.proofs.Kept.{summary_long, write_numbers_long}
use Rattle.numbers.proofs.Writes.{live_numbers_long}
use Rattle.walk.specs.Walk.{search_pool}
use Rattle.insert.specs.Insert.{insert_entering}
use Rattle.insert.proofs.Agree.{Long, agree_insert}
use Rattle.insert.proofs.Free.{sizes_after_insert}
use Rattle.repair.specs.Delete.{Stats, delete_batch}
use Rattle.repair.proofs.Agree.{agree_delete}
use Rattle.repair.proofs.Count.{sizes_after_delete}
use Rattle.guard.specs.Guard.{Config, on, Report, normalized, pool_of, guard_status, landmark_pool, select_landmarks, greatest_from, farthest}
use Rattle.calls.specs.Calls.{Making, Reading, read_dim, read_capacity, read_degree, read_alpha, read_entry, read_live, read_mark, read_version, read_number, read_target, Insert, Delete, Operation, create, read, read_vector, search, insert, delete, enable, status, assess, guarded_delete, Lent, Call, Answer, number, alpha, vector, found, inserted, deleted, standing, assessed, applied, created}
use Rattle.calls.specs.Refusals.{Test, first_of, making_tests, config_over, new_pool, scratch_short, tests}
use Rattle.calls.specs.State.{State, Kind, stored, plain, shown, made, with_graph, with_guard}
use Rattle.calls.specs.Step.{vectors_of, report_of, slots_of, named, reading, deletion, guarded, perform, refusal, settle, step}
use Rattle.calls.specs.History.{hide, look, seen, compared, log_performed, log_settled, Few, log_after, Within, trace, History}
use Rattle.calls.proofs.Tests.{first_none, accepted, numbers_given, weights_given, index_finds}

-- ---- the two states agree

pub record Same (log : List ℕ) (w : State Store) (p : State View) : Type 0 where
  pub agree : Agree (λ s. times s log) w.graph p.graph
  pub live : w.live ≡ p.live
  pub guard : w.guard ≡ p.guard
  pub pool_long : length w.pool ≡ limits.pool
  pub pool : pool_of w.guard w.pool ≡ pool_of p.guard p.pool
  pub numbers : w.numbers ≡ p.numbers
  pub summary : w.summary ≡ p.summary
  pub weights : w.weights ≡ p.weights
  pub numbers_long : length w.numbers ≡ w.graph.capacity
  pub summary_long : length w.summary ≡ w.graph.capacity
  pub weights_long : length w.weights ≡ w.graph.arrays.dim

-- so a call sees the same of both
pub same_shown : {log : List ℕ} {w : State Store} {p : State View} → Same log w p → shown stored w ≡ shown plain p
unfolding shown stored plain store_ops plain_ops
same_shown e = λ i. record {
  graph = e.agree.same i;
  live = e.live i;
  guard = e.guard i;
  pool = e.pool i;
  numbers = e.numbers i;
  summary = e.summary i;
  weights = e.weights i;
}

-- the two states agree, and the answers, but for a version
pub record Both (log : List ℕ) (r : State Store × Answer) (q : State View × Answer) : Type 0 where
  pub same : Same log r.0 q.0
  pub answer : hide r.1 ≡ hide q.1

-- ---- the pool fits its slice

farthest_few : (v : View) (gone : List ℕ) (n : ℕ) (refs s : List ℕ) → length (farthest v gone n refs s) ≤ n
unfolding farthest
farthest_few v gone zero refs s = omega arith
farthest_few v gone (suc n) refs [] = omega arith
farthest_few v gone (suc n) refs (x ∷ xs) =
    let next = greatest_from (λ s. least_of (slot_distance v.space s) refs) x xs in
    let h = farthest_few v gone n (refs ++ (next ∷ [])) (filter (λ y. not (eqb y next)) (x ∷ xs)) in
    omega arith

product_small : (c m : ℕ) → c ≤ 64 → m ≤ 16 → max (max 1 c) (max 1 c * max 1 m) ≤ 1024
product_small c m h k =
    let a : max 1 c ≤ 64 = omega arith in
    let b : max 1 m ≤ 16 = omega arith in
    let p : max 1 c * max 1 m ≤ 64 * 16 = mul-le-mul a b in
    max-le (omega arith) p

pool_fits : (v : View) (c : Config) → config_over limits c ≡ false → length (new_pool v c) ≤ limits.pool
unfolding new_pool landmark_pool normalized select_landmarks limits
pool_fits v c e =
    let o₁ = or_parts (ltb 64 c.landmark_count || ltb 16 c.multiplier || ltb 65536 c.sample_size) (ltb 1024 c.beam) e in
    let o₂ = or_parts (ltb 64 c.landmark_count || ltb 16 c.multiplier) (ltb 65536 c.sample_size) o₁.0 in
    let o₃ = or_parts (ltb 64 c.landmark_count) (ltb 16 c.multiplier) o₂.0 in
    le_trans (farthest_few v [] _ _ _)
    (product_small c.landmark_count c.multiplier (ltb-false 64 c.landmark_count o₃.0) (ltb-false 16 c.multiplier o₃.1))

-- ---- a call that is carried out

pub made_both : (lent : Lengths) (m : Making) → first_of (making_tests limits lent m) ≡ none → Both [] (made stored m, created) (made plain m, created)
unfolding made stored plain store_ops plain_ops pool_of store_view new_arrays
made_both lent m acc =
    let a = agree_new m.sizes (distance m.weights) m.count m.bytes m.rows m.entry (accepted lent m acc) in
    record {
      same = record {
        agree = a;
        live = ap (λ u. length (live_slots u)) a.same;
        guard = refl;
        pool_long = length-replicate limits.pool 0;
        pool = refl;
        numbers = refl;
        summary = ap (λ u. summary_of u.live u.sizes.capacity (m.numbers ++ replicate (m.sizes.capacity - m.count) 0)) a.same;
        numbers_long = simp (length-append, length-replicate) (omega (arith, (numbers_given lent m acc).0, (accepted lent m acc).room));
        summary_long = summary_long _ _ _;
        weights = refl;
        weights_long = (weights_given lent m acc).0;
      };
      answer = refl;
    }

-- whole vectors are dim long
whole : (d a n : ℕ) (bytes : List ℕ) → (a + n) * d ≤ length bytes → Long d (map (λ i. part d i bytes) (range a n))
whole d a zero bytes h = tt
whole d a (suc n) bytes h =
    let k : a * d + d ≤ (a + suc n) * d = before_next d a (a + suc n) (omega arith) in (
      length-take-le d (drop (a * d) bytes) (simp length-drop (omega arith)),
      whole d (suc a) n bytes (let z : suc a + n ≡ a + suc n = omega arith in rw z h),
    )

pub whole_vectors : (d : ℕ) (bytes : List ℕ) → Long d (vectors_of d bytes)
whole_vectors d bytes =
    whole d 0 (length bytes / d) bytes
    (let h : length bytes / d * d ≤ length bytes = div-mul-le_self (length bytes) d in let z : 0 + length bytes / d ≡ length bytes / d = omega arith in rw z h)

-- the slots that an insert fills
abbrev filled_by : View → Insert → List ℕ
filled_by v a = take (length (vectors_of v.sizes.dim a.bytes)) (free_slots v)

module _ (log : List ℕ) (w : State Store) (p : State View) (e : Same log w p) where
  -- a call that only looks
  looks : (f : State View → Answer) → Both log (w, f (shown stored w)) (p, f (shown plain p))
  looks f = record { same = e; answer = ap (λ s. hide (f s)) (same_shown e) }

  -- the state after a call that changes the graph
  changed : (log' : List ℕ) (b : Store) (v : View) (ns ms : List ℕ) → Agree (λ s. times s log') b v → ns ≡ ms → length ns ≡ b.capacity
      → (store_view b).sizes ≡ (store_view w.graph).sizes
      → Same log' (with_graph stored w b ns) (with_graph plain p v ms)
  unfolding with_graph stored plain store_ops plain_ops store_view
  changed log' b v ns ms a q long z = record {
    agree = a;
    live = ap (λ u. length (live_slots u)) a.same;
    guard = e.guard;
    pool_long = e.pool_long;
    pool = e.pool;
    numbers = q;
    summary = ap₂ (λ (u : View) (l : List ℕ). summary_of u.live u.sizes.capacity l) a.same q;
    numbers_long = long;
    summary_long = summary_long _ _ ns;
    weights = e.weights;
    weights_long = e.weights_long ∙ sym (ap (λ (x : Sizes). x.dim) z);
  }

  same_named : (a : Delete) → named w a ≡ named p a
  same_named a = ap (λ ns. slots_of ns a.naming a.names) e.numbers

  deletes : (a : Delete) (f : List Stats → Answer) → Few (emptied p.graph (named p a) ++ log)
      → let d = deletion stored w a in let q = deletion plain p a in Both (emptied p.graph (named p a) ++ log) (d.0, f d.1) (q.0, f q.1)
  unfolding deletion stored plain store_ops plain_ops store_view
  deletes a f few =
      let ss = emptied p.graph (named p a) in
      let d = agree_delete a.repair_beam a.repair_degree (λ s. times s log) w.graph p.graph e.agree (named p a) (λ s. rw (← (times_append s ss log)) (few s)) in
      subst (λ slots. Both (ss ++ log) ((left slots).0, f (left slots).1) ((deletion plain p a).0, f (deletion plain p a).1)) (sym (same_named a))
      (record {
        same = changed (ss ++ log) _ _ _ _ (recount _ _ _ _ (λ s h. sym (times_append s ss log)) d.agree)
            (ap₂ (λ (u : View) (l : List ℕ). live_numbers u.live u.sizes.capacity l) d.agree.same e.numbers) (live_numbers_long _ _ _)
            (sizes_after_delete store_ops MarksFit store_marking w.graph e.agree.sound.shaped.marks_long a.repair_beam a.repair_degree (named p a));
        answer = ap (λ x. hide (f x)) d.stats;
      })
    where
      left : List ℕ → State Store × List Stats
      left slots =
          let d = delete_batch store_ops a.repair_beam a.repair_degree w.graph slots in
          (with_graph stored w d.0 (live_numbers (store_view d.0).live (store_view d.0).sizes.capacity w.numbers), d.1)

  guarded_both : (a : Delete) (r : Report) (q : Bool) → Few (cond q (emptied p.graph (named p a) ++ log) log)
      → Both (cond q (emptied p.graph (named p a) ++ log) log) (guarded stored w a r q) (guarded plain p a r q)
  unfolding guarded stored plain
  guarded_both a r true few = deletes a (λ d. applied d r) few
  guarded_both a r false few = record { same = e; answer = refl }

  inserts : (bytes : List ℕ) (beam : ℕ) → Agree (λ s. times s log)
      (insert_entering store_ops beam w.graph (vectors_of (store_view w.graph).sizes.dim bytes))
      (insert_entering plain_ops beam p.graph (vectors_of p.graph.sizes.dim bytes))
  inserts bytes beam =
      let d = p.graph.sizes.dim in
      subst (λ (u : View). Agree (λ s. times s log) (insert_entering store_ops beam w.graph (vectors_of u.sizes.dim bytes)) (insert_entering plain_ops beam p.graph (vectors_of d bytes))) (sym e.agree.same)
      (agree_insert beam (λ s. times s log) w.graph p.graph e.agree (vectors_of d bytes) (whole_vectors d bytes))

  kept_sizes : (a : Insert) → (store_view (insert_entering store_ops a.beam w.graph (vectors_of (store_view w.graph).sizes.dim a.bytes))).sizes ≡ (store_view w.graph).sizes
  unfolding insert_entering store_ops
  kept_sizes a = sizes_after_insert store_ops MarksFit store_marking w.graph e.agree.sound.shaped.marks_long a.beam (vectors_of (store_view w.graph).sizes.dim a.bytes)

  kept_capacity : (a : Insert) → (insert_entering store_ops a.beam w.graph (vectors_of (store_view w.graph).sizes.dim a.bytes)).capacity ≡ w.graph.capacity
  unfolding store_view
  kept_capacity a = ap (λ (z : Sizes). z.capacity) (kept_sizes a)

  -- a pool that is written: its slice holds it, and the words past it stay
  enables : (c : Config) (pool : List ℕ) → length pool ≤ limits.pool → Same log (with_guard stored w c pool) (with_guard plain p c pool)
  unfolding with_guard stored plain pool_of
  enables c pool h = record {
    agree = e.agree;
    live = e.live;
    guard = refl;
    pool_long = simp (length-append, length-drop, e.pool_long) (omega arith);
    pool = take-append-le (length pool) pool (drop (length pool) w.pool) (omega arith);
    numbers = e.numbers;
    summary = e.summary;
    numbers_long = e.numbers_long;
    summary_long = e.summary_long;
    weights = e.weights;
    weights_long = e.weights_long;
  }

  not_over : (lent : Lent) (c : Config) → refusal plain p (record { lent = lent; operation = enable c }) ≡ none → config_over limits c ≡ false
  unfolding refusal tests
  not_over lent c r =
      let s = shown plain p in
      let v = s.graph in
      let after : List Test = (8, scratch_short limits lent s) ∷ (12, eqb (length (live_slots v)) 0) ∷ (13, eqb (length (new_pool v c)) 0) ∷ [] in
      (first_none 7 (config_over limits c) after (index_finds lent.slices s false ((7, config_over limits c) ∷ after) r).own).0

  reading_both : (r : Reading) → Both log (w, reading stored w r) (p, reading plain p r)
  unfolding reading shown
  reading_both read_dim = looks (λ s. number s.graph.sizes.dim)
  reading_both read_capacity = looks (λ s. number s.graph.sizes.capacity)
  reading_both read_degree = looks (λ s. number s.graph.sizes.degree)
  reading_both read_alpha = looks (λ s. alpha s.graph.sizes.alpha)
  reading_both read_entry = looks (λ s. number s.graph.entry)
  reading_both read_live = looks (λ s. number s.live)
  reading_both (read_mark t) = looks (λ s. number (cond (s.graph.live t) 1 0))
  reading_both (read_version t) = record { same = e; answer = unfold hide in refl }
  reading_both (read_number t) = looks (λ s. number (number_of s.numbers t))
  reading_both (read_target t place) = looks (λ s. number (get_or (live_neighbors s.graph t) place blank))

  perform_both : (lent : Lent) (o : Operation) → refusal plain p (record { lent = lent; operation = o }) ≡ none
      → Few (log_performed log p o) → Both (log_performed log p o) (perform stored w o) (perform plain p o)
  unfolding refusal tests perform log_performed shown stored plain store_ops plain_ops
  perform_both lent (create m) r few = made_both lent.slices m r
  perform_both lent (read q) r few = reading_both q
  perform_both lent (read_vector t) r few = looks (λ s. vector (cond (s.graph.live t) (s.graph.space.vector t) []))
  perform_both lent (search a) r few =
      looks (λ s. let cs = take a.k (search_pool s.graph a.query a.beam) in found cs (map (number_of s.numbers) (ids cs)))
  perform_both lent (insert a) r few = record {
    same = changed log _ _ _ _ (inserts a.bytes a.beam)
        (ap₂ (λ (u : View) (l : List ℕ). write_numbers (filled_by u a) a.numbers l) e.agree.same e.numbers)
        (write_numbers_long (filled_by (store_view w.graph) a) a.numbers w.numbers ∙ e.numbers_long ∙ sym (kept_capacity a)) (kept_sizes a);
    answer = ap (λ u. hide (inserted (filled_by u a))) e.agree.same;
  }
  perform_both lent (delete a) r few = deletes a deleted few
  perform_both lent (enable c) r few =
      let pool = new_pool p.graph c in
      record {
        same = subst (λ u. Same log (with_guard stored w (normalized c) (new_pool u c)) (with_guard plain p (normalized c) pool))
            (sym e.agree.same) (enables (normalized c) pool (pool_fits p.graph c (not_over lent c r)));
        answer = ap (λ u. hide (standing (guard_status u (on (normalized c) (length (new_pool u c))) (new_pool u c)))) e.agree.same;
      }
  perform_both lent status r few = looks (λ s. standing (guard_status s.graph s.guard s.pool))
  perform_both lent (assess a) r few = looks (λ s. assessed (report_of s a.ids))
  perform_both lent (guarded_delete a) r few =
      let q = report_of (shown plain p) (named p a) in
      let log' = cond q.admitted (emptied p.graph (named p a) ++ log) log in
      let both : State View → List ℕ → Type 0 = λ s ns. Both log' (guarded stored w a (report_of s ns) (report_of s ns).admitted) (guarded plain p a q q.admitted) in
      subst (λ s. both s (named w a)) (sym (same_shown e)) (subst (both (shown plain p)) (sym (same_named a)) (guarded_both a q q.admitted few))

  -- ---- one call

  pub same_refusal : (c : Call) → refusal stored w c ≡ refusal plain p c
  unfolding refusal
  same_refusal c = ap (λ s. first_of (tests limits c.lent s c.operation)) (same_shown e)

  settle_both : (c : Call) (q : Option ℕ) → refusal plain p c ≡ q → Few (log_settled log p c q)
      → Both (log_settled log p c q) (settle stored w c q) (settle plain p c q)
  unfolding settle log_settled
  settle_both c (some n) r few = record { same = e; answer = refl }
  settle_both c none r few = perform_both c.lent c.operation r few

  pub step_both : (c : Call) → Few (log_after log p c) → Both (log_after log p c) (step stored w c) (step plain p c)
  unfolding step log_after
  step_both c few =
      let q = refusal plain p c in
      subst (λ x. Both (log_settled log p c q) (settle stored w c x) (settle plain p c q)) (sym (same_refusal c)) (settle_both c q refl few)

-- ---- every history

pub same_seen : (log : List ℕ) (w : State Store) (p : State View) → Same log w p → seen stored w ≡ seen plain p
same_seen log w p e = ap look (same_shown e)

pub same_compared : (log : List ℕ) (r : State Store × Answer) (q : State View × Answer) → Both log r q → compared stored r ≡ compared plain q
same_compared log r q e = λ i. (same_seen log r.0 q.0 e.same i, e.answer i)

pub traces : (log : List ℕ) (w : State Store) (p : State View) → Same log w p → (cs : List Call) → Within log p cs → trace stored w cs ≡ trace plain p cs
traces log w p e [] h = refl
traces log w p e (c ∷ cs) h =
    let b = step_both log w p e c h.0 in
    ap₂ (λ x y. x ∷ y) (same_compared (log_after log p c) (step stored w c) (step plain p c) b)
    (traces (log_after log p c) (step stored w c).0 (step plain p c).0 b.same cs h.1)

-- the making with which a history begins
pub made_step : {B : Type 0} (K : Kind B) (w : State B) (lent : Lent) (m : Making) → first_of (making_tests limits lent.slices m) ≡ none
    → step K w (record { lent = lent; operation = create m }) ≡ (made K m, created)
unfolding step refusal settle tests perform
made_step K w lent m acc = ap (settle K w (record { lent = lent; operation = create m })) acc

pub history : History
history w p lent m cs acc h =
    let b = made_both lent.slices m acc in
    ap (λ (x : State Store × Answer). compared stored x ∷ trace stored x.0 cs) (made_step stored w lent m acc)
    ∙ ap₂ (λ x y. x ∷ y) (same_compared [] _ _ b) (traces [] _ _ b.same cs h)
    ∙ sym (ap (λ (x : State View × Answer). compared plain x ∷ trace plain x.0 cs) (made_step plain p lent m acc))
