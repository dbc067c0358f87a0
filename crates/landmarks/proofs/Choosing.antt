-- Choosing landmarks, one a turn: the farthest candidate, and what is left of the others. Assumes nothing.
use Prim.Native.Nat.{ℕ, zero, suc, ◌+◌, ◌-◌, ◌*◌, ◌≤◌, ◌<◌}
use mathlib.Core.Bool.{Bool, true, false, cond}
use mathlib.Core.Path.{◌≡◌, refl, ap, sym, ◌∙◌, subst}
use mathlib.Core.List.{List, [], ◌∷◌, ◌++◌, append_assoc, append-nil}
use native.Mathlib.Omega.{arith}
use borrow.Author.Tests.{lt-ltb, le-ltb}
use lib.Dec.{ltb}
use lib.ListN.{length, get_or, set, length-append, length-set}
use Rattle.lists.specs.Lists.{All, put_front}
use Rattle.lists.proofs.All.{by_cases}
use Rattle.lists.proofs.Front.{front_snoc}
use Rattle.candidates.specs.Candidates.{Candidate}
use Rattle.candidates.specs.Inner.Words.{pair, cand, cands}
use Rattle.candidates.proofs.Words.{cands_none, front_cons, cands_length}
use Rattle.vectors.specs.Lent.{HasVector}
use Rattle.vectors.specs.declared.Space.{Space}
use Rattle.landmarks.specs.Inner.Choices.{farthest_from, farthest, drawn, chosen, Listed, Drew, Fronted}
use Rattle.landmarks.proofs.Drawing.{all_drawn, drew_listed}

-- ---- the farthest: of the candidates before place i it is the pair of best and id
pub record Comparing (w : List ℕ) (n best id i : ℕ) : Type 0 where
  pub goes : (farthest_from (pair best id) (cands w (2 * i) (n - i))).id ≡ farthest (cands w 0 n)

pub step_farther : (a c : Candidate) (cs : List Candidate) → ltb c.dist a.dist ≡ false → farthest_from a (c ∷ cs) ≡ farthest_from c cs
step_farther a c cs e = ap (λ (b : Bool). farthest_from (cond b a c) cs) e

step_nearer : (a c : Candidate) (cs : List Candidate) → ltb c.dist a.dist ≡ true → farthest_from a (c ∷ cs) ≡ farthest_from a cs
step_nearer a c cs e = ap (λ (b : Bool). farthest_from (cond b a c) cs) e

module _ {w : List ℕ} {n best id i : ℕ} (f : Comparing w n best id i) where
  later : i < n → (farthest_from (pair best id) (cand w (2 * i) ∷ cands w (2 * (i + 1)) (n - (i + 1)))).id ≡ farthest (cands w 0 n)
  later h = ap (λ (cs : List Candidate). (farthest_from (pair best id) cs).id) (sym (front_cons w n i h)) ∙ f.goes

  pub comparing_farther : {d s : ℕ} → i < n → d ≡ get_or w (2 * i) 0 → s ≡ get_or w (2 * i + 1) 0 → best ≤ d → Comparing w n d s (i + 1)
  comparing_farther {d} {s} h e g l =
      let k : best ≤ get_or w (2 * i) 0 = omega arith in
      record {
        goes = rw (e, g) (ap (λ (c : Candidate). c.id) (sym (step_farther (pair best id) (cand w (2 * i)) (cands w (2 * (i + 1)) (n - (i + 1))) (le-ltb (get_or w (2 * i) 0) best k))) ∙ later h);
      }

  pub comparing_nearer : {d : ℕ} → i < n → d ≡ get_or w (2 * i) 0 → d < best → Comparing w n best id (i + 1)
  comparing_nearer {d} h e l =
      let k : get_or w (2 * i) 0 < best = omega arith in
      record {
        goes = ap (λ (c : Candidate). c.id) (sym (step_nearer (pair best id) (cand w (2 * i)) (cands w (2 * (i + 1)) (n - (i + 1))) (lt-ltb (get_or w (2 * i) 0) best k))) ∙ later h;
      }

  pub comparing_done : n ≤ i → id ≡ farthest (cands w 0 n)
  comparing_done h =
      let z : n - i ≡ 0 = omega arith in
      rw (cands_none w (2 * i) (n - i) z) at f.goes

farthest_all : (P : Candidate → Type 0) (c : Candidate) (cs : List Candidate) → P c → All P cs → P (farthest_from c cs)
farthest_all P c [] h k = h
farthest_all P c (x ∷ cs) h k = farthest_all P (cond (ltb x.dist c.dist) c x) cs (by_cases P (ltb x.dist c.dist) (λ e. h) (λ e. k.0)) k.1

-- it is one of the candidates, where there is one
pub farthest_in : (P : ℕ → Type 0) (cs : List Candidate) → 0 < length cs → All (λ c. P c.id) cs → P (farthest cs)
farthest_in P [] h k = absurd (omega arith)
farthest_in P (c ∷ cs) h k =
    subst (λ (x : Candidate). P x.id) (sym (step_farther (pair 0 0) c cs (le-ltb c.dist 0 (omega arith)))) (farthest_all (λ c. P c.id) c cs k.0 k.1)

pub farthest_inside : {space : Space} {w : List ℕ} {m next : ℕ} → Listed space w m → (m ≡ 0 → ⊥) → next ≡ farthest (cands w 0 m) → HasVector space next
farthest_inside {space} {w} {m} f h e = rw e (farthest_in (HasVector space) (cands w 0 m) (omega (arith, cands_length w 0 m, h)) f.inside)

-- ---- k landmarks are chosen, m candidates left
pub record Choosing (space : Space) (d : ℕ → ℕ → ℕ) (wanted n : ℕ) (l₀ w₀ l w : List ℕ) (m k : ℕ) : Type 0 where
  pub taken : List ℕ
  pub count : k ≡ length taken
  pub list : l ≡ put_front taken l₀
  pub goes : taken ++ chosen d (wanted - k) (cands w 0 m) ≡ chosen d wanted (cands w₀ 0 n)
  pub listed : Listed space w m
  pub list_size : length l ≡ length l₀
  pub size : length w ≡ length w₀

chosen_none : (d : ℕ → ℕ → ℕ) (n : ℕ) → chosen d n [] ≡ []
unfolding chosen
chosen_none d zero = refl
chosen_none d (suc n) = refl

chosen_zero : (d : ℕ → ℕ → ℕ) (cs : List Candidate) → chosen d 0 cs ≡ []
unfolding chosen
chosen_zero d cs = refl

chosen_next : (d : ℕ → ℕ → ℕ) (wanted k : ℕ) (cs : List Candidate) → k < wanted → 0 < length cs
    → chosen d (wanted - k) cs ≡ farthest cs ∷ chosen d (wanted - (k + 1)) (drawn d (farthest cs) cs)
unfolding chosen
chosen_next d wanted k [] h l = absurd (omega arith)
chosen_next d wanted k (c ∷ cs) h l =
    let g : wanted - k ≡ suc (wanted - (k + 1)) = omega arith in
    rw g

module _ {space : Space} {d : ℕ → ℕ → ℕ} {wanted n : ℕ} {l₀ w₀ l w : List ℕ} {m k : ℕ} (f : Choosing space d wanted n l₀ w₀ l w m k) where
  pub choosing_more : {next r : ℕ} {w' : List ℕ} → wanted ≤ length l₀ → k < wanted → (m ≡ 0 → ⊥) → next ≡ farthest (cands w 0 m)
      → Drew w m (drawn d next (cands w 0 m)) w' r → Choosing space d wanted n l₀ w₀ (set l k next) w' r (k + 1)
  choosing_more {next} {r} {w'} room h some e g =
      let c : length (f.taken ++ (next ∷ [])) ≡ length f.taken + 1 = length-append f.taken (next ∷ []) in
      let o : f.taken ++ (next ∷ chosen d (wanted - (k + 1)) (drawn d next (cands w 0 m))) ≡ chosen d wanted (cands w₀ 0 n) = rw e (rw (chosen_next d wanted k (cands w 0 m) h (omega (arith, cands_length w 0 m, some))) at f.goes) in
      record {
        taken = f.taken ++ (next ∷ []);
        count = omega (arith, f.count, c);
        list = rw (f.list, f.count) (front_snoc f.taken next l₀ (omega (arith, f.count)));
        goes = rw (g.list, append_assoc) o;
        listed = drew_listed d next f.listed g;
        list_size = length-set l k next ∙ f.list_size;
        size = g.size ∙ f.size;
      }

  done : f.taken ≡ chosen d wanted (cands w₀ 0 n) → Fronted (chosen d wanted (cands w₀ 0 n)) l₀ l k
  done e = rw (← e) (record { list = f.list; count = f.count })

  pub choosing_empty : m ≡ 0 → Fronted (chosen d wanted (cands w₀ 0 n)) l₀ l k
  choosing_empty z = done (rw (cands_none w 0 m z, chosen_none d (wanted - k), append-nil) at f.goes)

  pub choosing_done : k ≤ wanted → wanted ≤ k → Fronted (chosen d wanted (cands w₀ 0 n)) l₀ l wanted
  choosing_done b h =
      let z : wanted - k ≡ 0 = omega arith in
      let e : k ≡ wanted = omega arith in
      rw e at (done (rw (z, chosen_zero d (cands w 0 m), append-nil) at f.goes))

-- ---- how many are chosen, and what holds of them
pub chosen_few : (d : ℕ → ℕ → ℕ) (n : ℕ) (cs : List Candidate) → length (chosen d n cs) ≤ n
unfolding chosen
chosen_few d zero cs = omega arith
chosen_few d (suc n) [] = omega arith
chosen_few d (suc n) (c ∷ cs) = omega (arith, chosen_few d n (drawn d (farthest (c ∷ cs)) (c ∷ cs)))

pub chosen_all : (P : ℕ → Type 0) (d : ℕ → ℕ → ℕ) (n : ℕ) (cs : List Candidate) → All (λ c. P c.id) cs → All P (chosen d n cs)
unfolding chosen
chosen_all P d zero cs h = tt
chosen_all P d (suc n) [] h = tt
chosen_all P d (suc n) (c ∷ cs) h =
    (farthest_in P (c ∷ cs) (omega arith) h, chosen_all P d n (drawn d (farthest (c ∷ cs)) (c ∷ cs)) (all_drawn P d (farthest (c ∷ cs)) (c ∷ cs) h))
