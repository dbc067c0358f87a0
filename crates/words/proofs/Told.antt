-- What is written is what was answered: of a status and numbers, the size answer, a making, the readings and a search. Assumes nothing.
use Prim.Native.Nat.{ℕ, zero, suc, ◌*◌}
use mathlib.Core.Bool.{Bool, true, false, not, cond}
use mathlib.Core.List.{List, [], ◌∷◌}
use mathlib.Core.Option.{Option, none, some}
use mathlib.Core.Path.{◌≡◌, refl, sym, ap, ◌∙◌, subst}
use native.Mathlib.Omega.{arith}
use lib.Dec.{T}
use lib.Ieee.{Float, binary32, is_nan, fits}
use lib.ListN.{length, take, drop}
use Rattle.std.specs.Prelude.{Result, Ok, Err, MatchResult, IsOkAnd}
use Rattle.std.specs.Int.{from_bool}
use Rattle.slots.specs.Sizes.{Slices, limits, alpha_ok}
use Rattle.slots.specs.Store.{Store, is_valid, vector_of, store_view, store_ops}
use Rattle.calls.specs.Calls.{Making, read, read_vector, Call, Answer, refused, created, number, alpha, version, vector, found, inserted, deleted, standing, assessed, applied, deferred, refused_as}
use Rattle.calls.specs.Outputs.{no_outputs}
use Rattle.calls.specs.Refusals.{first_of, tests}
use Rattle.calls.specs.State.{State, stored, view_of, shown, made}
use Rattle.calls.specs.Step.{reading, perform}
use Rattle.calls.specs.Runs.{lent_of, slices_of, call_of}
use Rattle.calls.proofs.Tests.{accepted}
use Rattle.index.specs.declared.Index.{Index}
use Rattle.index.specs.declared.Refusal.{Refusal}
use Rattle.index.specs.Index.{state_of}
use Rattle.index.specs.Create.{Creates}
use Rattle.index.proofs.Decide.{step_back, step_on}
use Rattle.reading.specs.declared.Reading.{Reading}
use Rattle.reading.specs.declared.Reading.TheVariants.{Dim, Capacity, Degree, Alpha, Entry, Live, Mark, Version, Number as Figure, Target}
use Rattle.reading.specs.declared.Value.{Value}
use Rattle.reading.specs.declared.Value.TheVariants.{Number, Alpha as Factor, Version as Stamp}
use Rattle.reading.specs.Read.{reading_of, answer_of, Reads, ReadsVector}
use Rattle.words.specs.IndexWords.{index_of, words_of}
use Rattle.words.specs.GuardWords.{flag}
use Rattle.words.specs.Given.{map_ok, put, CreatesWords, value_in, ReadsNumber, ReadsAlpha, ReadsLength}
use Rattle.words.specs.Inner.Putting.{gives_number, number_in, alpha_in}
use Rattle.words.proofs.Held.{alpha_right, words_hold}

-- ---- an answer for C

-- what `Result::map` says
mapped : {A B : Type 0} (f : A → B) (r : Result A Refusal) (m : Result B Refusal) → MatchResult r (λ x. IsOkAnd m (λ y. y ≡ f x)) (λ e. m ≡ Err e) → m ≡ map_ok f r
mapped f (Ok x) (Ok y) e = ap Ok e
mapped f (Ok x) (Err d) e = absurd e
mapped f (Err d) m e = e

pub put_mapped : {A B : Type 0} (f : A → B) (r : Result A Refusal) (m : Result B Refusal) (before : B) {after : B} {status : ℕ}
    → MatchResult r (λ x. IsOkAnd m (λ y. y ≡ f x)) (λ e. m ≡ Err e) → ◌≡◌ {A = ℕ × B} (status, after) (put m before)
    → ◌≡◌ {A = ℕ × B} (status, after) (put (map_ok f r) before)
put_mapped {B = B} f r m before e p = p ∙ ap (λ (q : Result B Refusal). put q before) (mapped f r m e)

pub flag_is : (b : Bool) → from_bool b ≡ flag b
flag_is true = refl
flag_is false = refl

-- ---- making

module _ {m : Making} {s s' : Slices} where
  module _ {i : Index} {r : Result Index Refusal} (c : Creates m s s' r) (e : r ≡ Ok i) where
    same_alpha : i.alpha ≡ m.sizes.alpha
    unfolding state_of made stored
    same_alpha = ap (λ s. s.graph.alpha) (c.done i e).new

    pub made_number : T (not (is_nan i.alpha))
    made_number = alpha_right i.alpha (ap alpha_ok same_alpha ∙ (accepted _ m (c.done i e).accepted).alpha_right)

  pub creates_words : {words words' : List ℕ} {status : ℕ} (r : Result Index Refusal) → fits binary32 m.sizes.alpha ≡ true → Creates m s s' r
      → (status, words') ≡ put (map_ok words_of r) words → CreatesWords m s s' words words' status
  creates_words {words} {words'} r f c p = record {
    answer = r;
    does = c;
    told = p;
    held = λ i e.
        let l : words' ≡ words_of i = ap (λ x. x.1) (p ∙ ap (λ x. put (map_ok words_of x) words) e) in
        ap index_of l ∙ words_hold i (subst T (sym f ∙ ap (fits binary32) (sym (same_alpha c e))) tt) (made_number c e);
  }

-- ---- readings

-- the answer tells the value
told_value : Answer → Value
told_value (number n) = Number n
told_value (alpha a) = Factor a
told_value (version n) = Stamp n
told_value (refused n) = Number 0
told_value created = Number 0
told_value (vector l) = Number 0
told_value (found l ns) = Number 0
told_value (inserted l) = Number 0
told_value (deleted l) = Number 0
told_value (standing s) = Number 0
told_value (assessed r) = Number 0
told_value (applied l r) = Number 0
told_value (deferred r) = Number 0

value_is : (v : Value) → told_value (answer_of (Ok v)) ≡ v
unfolding told_value answer_of
value_is (Number n) = refl
value_is (Factor a) = refl
value_is (Stamp n) = refl

same_value : (u v : Value) → answer_of (Ok u) ≡ answer_of (Ok v) → u ≡ v
same_value u v e = sym (value_is u) ∙ ap told_value e ∙ value_is v

not_back : (v : Value) (n : ℕ) → answer_of (Ok v) ≡ refused n → ⊥
unfolding answer_of
not_back (Number m) n e = let z : ◌≡◌ {A = ℕ} 0 1 = cc in omega arith
not_back (Factor a) n e = let z : ◌≡◌ {A = ℕ} 0 1 = cc in omega arith
not_back (Stamp m) n e = let z : ◌≡◌ {A = ℕ} 0 1 = cc in omega arith

-- a value that was read is what the index shows
shows : {i : Index} {s : Slices} {q : Reading} {v : Value} → Reads i s q (Ok v) → answer_of (Ok v) ≡ reading stored (state_of i s) (reading_of q)
unfolding call_of perform refused_as
shows {i} {s} {q} {v} r = go _ refl
  where
    w : State Store
    w = state_of i s

    call : Call
    call = record { lent = lent_of (slices_of w) no_outputs []; operation = read (reading_of q) }

    go : (o : Option ℕ) → first_of (tests limits call.lent (shown stored w) (read (reading_of q))) ≡ o → answer_of (Ok v) ≡ reading stored w (reading_of q)
    go (some n) e = absurd (not_back v n (ap (λ x. x.1) (r.meets.does ∙ step_back w call n e)))
    go none e = ap (λ x. x.1) (r.meets.does ∙ step_on w call e)

-- what is read, where it is a number
record Shape (w : State Store) (q : Reading) : Type 0 where
  pub n : ℕ
  pub says : reading stored w (reading_of q) ≡ answer_of (Ok (value_in q n))

shape : (w : State Store) (q : Reading) → gives_number q ≡ true → Shape w q
unfolding reading reading_of answer_of value_in
shape w Dim e = record { n = _; says = refl }
shape w Capacity e = record { n = _; says = refl }
shape w Degree e = record { n = _; says = refl }
shape w Alpha e = absurd (let y : ◌≡◌ {A = ℕ} 0 1 = cc in omega arith)
shape w Entry e = record { n = _; says = refl }
shape w Live e = record { n = _; says = refl }
shape w (Mark s) e = record { n = _; says = refl }
shape w (Version s) e = record { n = _; says = refl }
shape w (Figure s) e = record { n = _; says = refl }
shape w (Target s place) e = record { n = _; says = refl }

value_number : (q : Reading) (n : ℕ) → number_in (value_in q n) ≡ n
unfolding value_in
value_number Dim n = refl
value_number Capacity n = refl
value_number Degree n = refl
value_number Alpha n = refl
value_number Entry n = refl
value_number Live n = refl
value_number (Mark s) n = refl
value_number (Version s) n = refl
value_number (Figure s) n = refl
value_number (Target s place) n = refl

-- a value that was read is the number in it
number_read : {i : Index} {s : Slices} {q : Reading} (r : Result Value Refusal) → gives_number q ≡ true → Reads i s q r → r ≡ map_ok (value_in q) (map_ok number_in r)
number_read {i} {s} {q} (Ok v) g c =
    let h = shape (state_of i s) q g in
    let e : v ≡ value_in q h.n = same_value v (value_in q h.n) (shows c ∙ h.says) in
    ap Ok (e ∙ ap (value_in q) (sym (value_number q h.n) ∙ ap number_in (sym e)))
number_read (Err d) g c = refl

-- or the alpha
alpha_read : {i : Index} {s : Slices} (before : Float) (r : Result Value Refusal) → Reads i s Alpha r → r ≡ map_ok Factor (map_ok (alpha_in before) r)
unfolding reading reading_of answer_of
alpha_read {i} {s} before (Ok v) c =
    let x = (view_of stored (state_of i s)).sizes.alpha in
    let e : v ≡ Factor x = same_value v (Factor x) (shows c) in
    ap Ok (e ∙ ap Factor (sym (ap (alpha_in before) e)))
alpha_read before (Err d) c = refl

module _ {words : List ℕ} {s : Slices} {r : Result Value Refusal} where
  pub reads_number : {q : Reading} {value value' status : ℕ} → gives_number q ≡ true → Reads (index_of words) s q r
      → (status, value') ≡ put (map_ok number_in r) value → ReadsNumber words s q value value' status
  reads_number {q} g c p = record { answer = map_ok number_in r; does = subst (Reads (index_of words) s q) (number_read r g c) c; told = p }

  pub reads_alpha : {value value' : Float} {status : ℕ} → Reads (index_of words) s Alpha r → (status, value') ≡ put (map_ok (alpha_in value) r) value → ReadsAlpha words s value value' status
  reads_alpha {value} c p = record { answer = map_ok (alpha_in value) r; does = subst (Reads (index_of words) s Alpha) (alpha_read value r c) c; told = p }

-- ---- the vector of a slot

take-length : (d : ℕ) (l : List ℕ) → take d l ≡ take (length (take d l)) l
take-length zero l = refl
take-length (suc d) [] = refl
take-length (suc d) (x ∷ l) = ap (λ t. x ∷ t) (take-length d l)

-- a part that is empty or the slot's vector is that many bytes from the slot's place on
module _ (d : ℕ) (l : List ℕ) where
  part_none : {p : List ℕ} → p ≡ [] → p ≡ take (length p) l
  part_none e = rw e

  part_some : (q : Bool) {p : List ℕ} → p ≡ cond q (take d l) [] → p ≡ take (length p) l
  part_some true e = rw e (take-length d l)
  part_some false e = rw e

module _ {words : List ℕ} {s : Slices} {slot : ℕ} {p : List ℕ} where
  pub reads_length : ReadsVector (index_of words) s slot p → ReadsLength words s slot (length p)
  unfolding refused_as perform stored store_ops store_view vector_of state_of call_of
  reads_length r = let e = go _ refl in record { does = subst (ReadsVector (index_of words) s slot) e r; there = ap length e }
    where
      on : State Store
      on = state_of (index_of words) s

      asked : Call
      asked = record { lent = lent_of (slices_of on) no_outputs []; operation = read_vector slot }

      l : List ℕ
      l = drop (slot * (index_of words).dim) s.vectors

      go : (o : Option ℕ) → first_of (tests limits asked.lent (shown stored on) (read_vector slot)) ≡ o → p ≡ take (length p) l
      go (some n) e =
          let a : vector p ≡ vector [] = ap (λ x. x.1) (r.meets.does ∙ step_back on asked n e) in
          part_none (index_of words).dim l (let y : p ≡ [] = cc in y)
      go none e =
          let v = cond (is_valid s.marks slot) (take (index_of words).dim l) [] in
          let a : vector p ≡ vector v = ap (λ x. x.1) (r.meets.does ∙ step_on on asked e) in
          part_some (index_of words).dim l (is_valid s.marks slot) (let y : p ≡ v = cc in y)
