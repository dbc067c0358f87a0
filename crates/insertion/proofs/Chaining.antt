-- Chains of candidates in the words: how they are made, and how one is followed. Assumes nothing.
use Prim.Native.Nat.{ℕ, zero, suc, ◌+◌, ◌-◌, ◌*◌, ◌≤◌, ◌<◌}
use mathlib.Core.Bool.{Bool, true, false, cond}
use mathlib.Core.Path.{◌≡◌, refl, ap, sym, ◌∙◌}
use mathlib.Core.List.{List, [], ◌∷◌, ◌++◌, append_assoc, append-nil}
use native.Mathlib.Omega.{arith}
use borrow.Author.Tests.{eq-eqb, ne_eqb, eqb-true, eqb-false}
use lib.Dec.{eqb}
use borrow.Rule.Slice.PartMut.{put_mid}
use Rattle.std.proofs.Common.{rules}
use Rattle.std.proofs.lemmas.List.{places}
use Rattle.std.proofs.lemmas.Grind.{common_steps}
use lib.ListN.{length, take, drop, get_or, set, replicate, length-set}
use lib.Seq.{get_or-set_same, get_or-set_other}
use Rattle.slots.specs.Scratch.{marks_at}
use Rattle.candidates.specs.Inner.Words.{cand, cands, put, Outside}
use Rattle.candidates.specs.Candidates.{Candidate}
use Rattle.candidates.proofs.Parts.{cand_part, put_part}
use Rattle.candidates.proofs.Words.{cands_push, put_length, put_outside, outside_put}
use Rattle.insertion.specs.declared.layout.Layout.{Layout}
use Rattle.insertion.specs.Inner.Chains.{Repeated, head, at_slot, Chain, end, link, Chainable, Chained, incoming_at, Takeable, Took}

-- ---- a word repeated: k words from word p on are filled with x
filled_in : (p k x j : ℕ) (w : List ℕ) → p + k ≤ length w → j < k → get_or (put_mid p k w (replicate k x)) (p + j) 0 ≡ x
filled_in p k x j w h l = search (rules, places)

filled_out : (p k x j : ℕ) (w : List ℕ) → p + k ≤ length w → (p ≤ j → p + k ≤ j) → get_or (put_mid p k w (replicate k x)) j 0 ≡ get_or w j 0
filled_out p k x j w h l = search (rules, places)

filled_length : (p k x : ℕ) (w : List ℕ) → p + k ≤ length w → length (put_mid p k w (replicate k x)) ≡ length w
filled_length p k x w h = search (rules, places)

taken_length : (p k : ℕ) (w : List ℕ) → p + k ≤ length w → length (take k (drop p w)) ≡ k
taken_length p k w h = grind (arith, common_steps)

pub repeated : {p k m x : ℕ} {w zs : List ℕ} → m ≡ k → p + k ≤ length w → zs ≡ replicate (length (take m (drop p w))) x → Repeated w p k x (put_mid p m w zs)
repeated {p} {k} {m} {x} {w} {zs} q h e =
    let l : length (take k (drop p w)) ≡ k = taken_length p k w h in
    let f : zs ≡ replicate k x = e ∙ rw (q, l) in
    rw (q, f) (record { all = λ j i. filled_in p k x j w h i; size = filled_length p k x w h; same = λ j o. filled_out p k x j w h o })

-- ---- one chain
chain_low : {w : List ℕ} {at : Layout} {n : ℕ} (a b x : ℕ) (l : List ℕ) → b ≤ a → Chain w at n a x l → Chain w at n b x l
chain_low a b x [] h end = end
chain_low a b x (y ∷ l) h (link g m c) = link (let k : b ≤ x = omega arith in k) m c

-- words before a chain's first may change
chain_kept : {w : List ℕ} {at : Layout} {n : ℕ} (w' : List ℕ) (a x : ℕ) (l : List ℕ) → ((j : ℕ) → a ≤ j → j < n → get_or w' (at.nexts + j) 0 ≡ get_or w (at.nexts + j) 0)
    → Chain w at n a x l → Chain w' at n a x l
chain_kept w' a x [] h end = end
chain_kept {w} {at} {n} w' a x (y ∷ l) h (link g m c) =
    let k : Chain w' at n (suc x) (get_or w (at.nexts + x) 0) l = chain_kept w' (suc x) (get_or w (at.nexts + x) 0) l (λ j q r. h j (omega arith) r) c in
    link g m (let u : Chain w' at n (suc x) (get_or w' (at.nexts + x) 0) l = rw (h x g m) k in u)

chain_on : {w : List ℕ} {at : Layout} {n : ℕ} (from x : ℕ) (l : List ℕ) → from ≤ n → Chain w at n from x l → from ≤ x
chain_on from x [] h end = h
chain_on from x (y ∷ l) h (link g m c) = g

chain_split : {w : List ℕ} {at : Layout} {n : ℕ} (from x : ℕ) (l : List ℕ) → x < n → Chain w at n from x l
    → (k : List ℕ) × (l ≡ x ∷ k) × (from ≤ x) × Chain w at n (suc x) (get_or w (at.nexts + x) 0) k
chain_split from x [] h end = absurd (omega arith)
chain_split from x (y ∷ l) h (link g m c) = (l, refl, g, c)

chain_ends : {w : List ℕ} {at : Layout} {n : ℕ} (from x : ℕ) (l : List ℕ) → n ≤ x → Chain w at n from x l → l ≡ []
chain_ends from x [] h end = refl
chain_ends from x (y ∷ l) h (link g m c) = absurd (omega arith)

-- ---- the candidates that name a slot
at_slot_agree : (w w' : List ℕ) (at : Layout) (t i k : ℕ) → ((j : ℕ) → i ≤ j → j < i + k → get_or w' (at.plans + 2 * j + 1) 0 ≡ get_or w (at.plans + 2 * j + 1) 0)
    → at_slot w' at t i k ≡ at_slot w at t i k
unfolding at_slot
at_slot_agree w w' at t i zero h = refl
at_slot_agree w w' at t i (suc k) h =
    let e : at_slot w' at t (suc i) k ≡ at_slot w at t (suc i) k = at_slot_agree w w' at t (suc i) k (λ j l m. h j (omega arith) (omega arith)) in
    rw (h i (omega arith) (omega arith), e)

at_slot_in : (w : List ℕ) (at : Layout) (t i k : ℕ) → get_or w (at.plans + 2 * i + 1) 0 ≡ t → at_slot w at t i (suc k) ≡ i ∷ at_slot w at t (suc i) k
unfolding at_slot
at_slot_in w at t i k e = rw (eq-eqb _ _ e)

at_slot_out : (w : List ℕ) (at : Layout) (t i k : ℕ) → (get_or w (at.plans + 2 * i + 1) 0 ≡ t → ⊥) → at_slot w at t i (suc k) ≡ at_slot w at t (suc i) k
unfolding at_slot
at_slot_out w at t i k e = rw (ne_eqb _ _ e)

at_slot_none : (w : List ℕ) (at : Layout) (t i k : ℕ) → k ≡ 0 → at_slot w at t i k ≡ []
unfolding at_slot
at_slot_none w at t i k e = rw e

-- the words of n candidates and of their sources are the same
pub record Agrees (w w' : List ℕ) (at : Layout) (n : ℕ) : Type 0 where
  pub plans : (j : ℕ) → j < 2 * n → get_or w' (at.plans + j) 0 ≡ get_or w (at.plans + j) 0
  pub sources : (j : ℕ) → j < n → get_or w' (at.sources + j) 0 ≡ get_or w (at.sources + j) 0

module _ {w w' : List ℕ} {at : Layout} {n : ℕ} (f : Agrees w w' at n) where
  slot_same : (j : ℕ) → j < n → get_or w' (at.plans + 2 * j + 1) 0 ≡ get_or w (at.plans + 2 * j + 1) 0
  slot_same j h =
      let e : at.plans + (2 * j + 1) ≡ at.plans + 2 * j + 1 = omega arith in
      rw e at (f.plans (2 * j + 1) (omega arith))

  pub slots_agree : (t : ℕ) → at_slot w' at t 0 n ≡ at_slot w at t 0 n
  slots_agree t = at_slot_agree w w' at t 0 n (λ j _ m. slot_same j (omega arith))

  incoming_some : (t i k : ℕ) → i + k ≤ n → incoming_at w' at (at_slot w at t i k) ≡ incoming_at w at (at_slot w at t i k)
  unfolding at_slot
  incoming_some t i zero h = refl
  incoming_some t i (suc k) h = go (eqb (get_or w (at.plans + 2 * i + 1) 0) t) (incoming_some t (suc i) k (omega arith))
    where
      go : (c : Bool) → incoming_at w' at (at_slot w at t (suc i) k) ≡ incoming_at w at (at_slot w at t (suc i) k)
          → incoming_at w' at (cond c (i ∷ at_slot w at t (suc i) k) (at_slot w at t (suc i) k)) ≡ incoming_at w at (cond c (i ∷ at_slot w at t (suc i) k) (at_slot w at t (suc i) k))
      go true r = rw (f.plans (2 * i) (omega arith), f.sources i (omega arith), r)
      go false r = r

  pub incoming_agree : (t : ℕ) → incoming_at w' at (at_slot w' at t 0 n) ≡ incoming_at w at (at_slot w at t 0 n)
  incoming_agree t = ap (incoming_at w' at) (slots_agree t) ∙ incoming_some t 0 n (omega arith)

  pub chain_agree : ((j : ℕ) → j < n → get_or w' (at.nexts + j) 0 ≡ get_or w (at.nexts + j) 0) → (t : ℕ) → head w' t ≡ head w t
      → Chain w at n 0 (head w t) (at_slot w at t 0 n) → Chain w' at n 0 (head w' t) (at_slot w' at t 0 n)
  chain_agree x t e c = rw (slots_agree t, e) (chain_kept w' 0 (head w t) (at_slot w at t 0 n) (λ j _ m. x j m) c)

-- ---- every slot's chain
pub record Linking (w₀ : List ℕ) (at : Layout) (n capacity : ℕ) (w : List ℕ) (k : ℕ) : Type 0 where
  pub bound : k ≤ n
  pub chains : (t : ℕ) → t < capacity → Chain w at n k (head w t) (at_slot w₀ at t k (n - k))
  pub size : length w ≡ length w₀
  pub same : (j : ℕ) → (marks_at ≤ j → marks_at + capacity ≤ j) → (at.nexts ≤ j → at.nexts + n ≤ j) → get_or w j 0 ≡ get_or w₀ j 0

pub linking_none : (w : List ℕ) (at : Layout) (n capacity : ℕ) → ((t : ℕ) → t < capacity → head w t ≡ n) → Linking w at n capacity w n
linking_none w at n capacity h =
    record {
      bound = omega arith;
      chains = λ t l. rw (h t l, at_slot_none w at t n (n - n) (omega arith)) end;
      size = refl;
      same = λ j x y. refl;
    }

module _ {w₀ : List ℕ} {at : Layout} {n capacity : ℕ} {w : List ℕ} {k : ℕ} (o : Chainable w₀ at n capacity) (f : Linking w₀ at n capacity w k) where
  module _ (m : 0 < k) (i : ℕ) (e : i ≡ k - 1) (h : ℕ) (g : h ≡ get_or w (at.plans + 2 * i + 1) 0) where
    word : h ≡ get_or w₀ (at.plans + 2 * i + 1) 0
    word =
        g ∙ f.same (at.plans + 2 * i + 1) (λ _. omega (arith, o.heads_in))
        (λ (x : at.nexts ≤ at.plans + 2 * i + 1). absurd (omega (arith, o.spread.plans_in, o.spread.sources_in, f.bound)))

    slot_in : h < capacity
    slot_in = rw word (o.inside i (omega (arith, f.bound)))

    abbrev x₀ : ℕ
    x₀ = head w h

    abbrev w₁ : List ℕ
    w₁ = set w (at.nexts + i) x₀

    abbrev w₂ : List ℕ
    w₂ = set w₁ (marks_at + h) i

    next_word : get_or w₂ (at.nexts + i) 0 ≡ x₀
    next_word =
        get_or-set_other w₁ (marks_at + h) (at.nexts + i) i 0 (λ (z : at.nexts + i ≡ marks_at + h). absurd (omega (arith, o.spread.plans_in, o.spread.sources_in, o.heads_in, slot_in)))
        ∙ get_or-set_same w (at.nexts + i) x₀ 0 (omega (arith, f.size, o.spread.nexts_in, o.room, f.bound))

    next_kept : (j : ℕ) → k ≤ j → j < n → get_or w₂ (at.nexts + j) 0 ≡ get_or w (at.nexts + j) 0
    next_kept j a b =
        get_or-set_other w₁ (marks_at + h) (at.nexts + j) i 0 (λ (z : at.nexts + j ≡ marks_at + h). absurd (omega (arith, o.spread.plans_in, o.spread.sources_in, o.heads_in, slot_in)))
        ∙ get_or-set_other w (at.nexts + i) (at.nexts + j) x₀ 0 (λ (z : at.nexts + j ≡ at.nexts + i). absurd (omega arith))

    head_same : head w₂ h ≡ i
    head_same = get_or-set_same w₁ (marks_at + h) i 0 (rw (length-set w (at.nexts + i) x₀) (omega (arith, f.size, o.heads_in, o.spread.plans_in, o.spread.sources_in, o.spread.nexts_in, o.room, slot_in)))

    head_other : (t : ℕ) → t < capacity → (h ≡ t → ⊥) → head w₂ t ≡ head w t
    head_other t l d =
        get_or-set_other w₁ (marks_at + h) (marks_at + t) i 0 (λ (z : marks_at + t ≡ marks_at + h). d (omega arith))
        ∙ get_or-set_other w (at.nexts + i) (marks_at + t) x₀ 0 (λ (z : marks_at + t ≡ at.nexts + i). absurd (omega (arith, o.spread.plans_in, o.spread.sources_in, o.heads_in)))

    chains_on : (t : ℕ) → t < capacity → Chain w₂ at n i (head w₂ t) (at_slot w₀ at t i (n - i))
    chains_on t l = go (eqb h t) refl
      where
        z : n - i ≡ suc (n - k)
        z = omega (arith, f.bound)

        y : suc i ≡ k
        y = omega arith

        go : (c : Bool) → eqb h t ≡ c → Chain w₂ at n i (head w₂ t) (at_slot w₀ at t i (n - i))
        go true b =
            let a : h ≡ t = eqb-true h t b in
            let u : Chain w₂ at n k x₀ (at_slot w₀ at h k (n - k)) = chain_kept w₂ k x₀ (at_slot w₀ at h k (n - k)) next_kept (f.chains h slot_in) in
            let v : Chain w₂ at n (suc i) (get_or w₂ (at.nexts + i) 0) (at_slot w₀ at h (suc i) (n - k)) = rw (next_word, y) u in
            let r : i < n = omega (arith, f.bound) in
            let r₂ : i ≤ i = omega arith in
            let x : Chain w₂ at n i i (i ∷ at_slot w₀ at h (suc i) (n - k)) = link r₂ r v in
            rw (← a, z, at_slot_in w₀ at h i (n - k) (sym word), head_same) x
        go false b =
            let d : h ≡ t → ⊥ = eqb-false h t b in
            let u : Chain w₂ at n k (head w t) (at_slot w₀ at t k (n - k)) = chain_kept w₂ k (head w t) (at_slot w₀ at t k (n - k)) next_kept (f.chains t l) in
            rw (z, at_slot_out w₀ at t i (n - k) (λ a. d (word ∙ a)), head_other t l d, y) (chain_low k i (head w t) (at_slot w₀ at t k (n - k)) (omega arith) u)

    linking_more : Linking w₀ at n capacity w₂ i
    linking_more =
        record {
          bound = omega (arith, f.bound);
          chains = chains_on;
          size = length-set w₁ (marks_at + h) i ∙ length-set w (at.nexts + i) x₀ ∙ f.size;
          same = λ j a b.
              get_or-set_other w₁ (marks_at + h) j i 0 (λ (u : j ≡ marks_at + h). absurd (omega (arith, a (omega arith), slot_in)))
              ∙ get_or-set_other w (at.nexts + i) j x₀ 0 (λ (u : j ≡ at.nexts + i). absurd (omega (arith, b (omega arith), f.bound)))
              ∙ f.same j a b;
        }

  -- as the code has it: j is k - 1 as an index, h the slot of its candidate as one
  module _ (m : 0 < k) {j : ℕ} (e : j ≡ k - 1) where
    pub link_in : at.plans + 2 * j + 1 < length w
    link_in = omega (arith, f.bound, f.size, o.spread.plans_in, o.spread.sources_in, o.spread.nexts_in, o.room)

    -- it is read of the words from the plans on
    module _ {x h : ℕ} (g : x ≡ (cand (take (length w - at.plans) (drop at.plans w)) (2 * j)).id) (q : h ≡ x) where
      slot_read : h ≡ (cand w (at.plans + 2 * j)).id
      slot_read = q ∙ g ∙ ap (λ (c : Candidate). c.id) (cand_part w at.plans (length w - at.plans) j (omega (arith, link_in)))

      pub link_words : (marks_at + h < at.plans) × (at.plans ≤ at.nexts) × (at.nexts + j < at.ends) × (at.ends ≤ length w)
      link_words =
          let s : h < capacity = slot_in m j e h slot_read in
          (omega (arith, o.heads_in), omega (arith, o.spread.plans_in, o.spread.sources_in), omega (arith, f.bound, o.spread.nexts_in), omega (arith, f.size, o.room))

      pub link_set : (x y : ℕ) → marks_at + h < length (set w x y)
      link_set x y = rw (length-set w x y) (omega (arith, link_words.0, link_words.1, link_words.2, link_words.3))

      pub link_turn : Linking w₀ at n capacity (set (set w (at.nexts + j) (get_or w (marks_at + h) 0)) (marks_at + h) (k - 1)) (k - 1)
      link_turn = let z : k - 1 ≡ j = sym e in rw z (linking_more m j e h slot_read)

pub chain_fits : {w : List ℕ} {at : Layout} {n capacity : ℕ} → Chainable w at n capacity → marks_at + capacity ≤ length w
chain_fits o = omega (arith, o.heads_in, o.spread.plans_in, o.spread.sources_in, o.spread.nexts_in, o.room)

-- the heads are evened, then the candidates are linked
module _ {w₀ w₁ : List ℕ} {at : Layout} {n capacity : ℕ} (o : Chainable w₀ at n capacity) (e : Repeated w₀ marks_at capacity n w₁) where
  even_slots : (j : ℕ) → get_or w₁ (at.plans + 2 * j + 1) 0 ≡ get_or w₀ (at.plans + 2 * j + 1) 0
  even_slots j = e.same (at.plans + 2 * j + 1) (λ _. omega (arith, o.heads_in))

  pub even_chainable : Chainable w₁ at n capacity
  even_chainable =
      record {
        heads_in = o.heads_in;
        spread = o.spread;
        room = omega (arith, e.size, o.room);
        inside = λ j h. rw (even_slots j) (o.inside j h);
      }

  pub even_chained : {w₂ : List ℕ} → Chained w₁ at n capacity w₂ → Chained w₀ at n capacity w₂
  even_chained c =
      record {
        chains = λ t l. rw (at_slot_agree w₀ w₁ at t 0 n (λ j _ _. even_slots j)) at (c.chains t l);
        size = c.size ∙ e.size;
        same = λ j a b. c.same j a b ∙ e.same j a;
      }

-- ---- a chain is followed
pub record Taking (w₀ : List ℕ) (at : Layout) (n t m : ℕ) (w : List ℕ) (r k : ℕ) : Type 0 where
  pub from : ℕ
  pub rest : List ℕ
  pub chain : Chain w₀ at n from k rest
  pub goes : cands w at.list r ++ incoming_at w₀ at rest ≡ cands w₀ at.list m ++ incoming_at w₀ at (at_slot w₀ at t 0 n)
  pub first : m ≤ r
  pub few : r + (n - from) ≤ m + n
  pub size : length w ≡ length w₀
  pub same : Outside (at.list + 2 * m) (2 * n) w₀ w

module _ {w₀ : List ℕ} {at : Layout} {n t m : ℕ} {w : List ℕ} {r k : ℕ} (q : Takeable w₀ at n t m) (f : Taking w₀ at n t m w r k) where
  pub taking_done : n ≤ k → Took w₀ at n t m r w
  taking_done h =
      record {
        list = rw (chain_ends f.from k f.rest h f.chain, append-nil) at f.goes;
        few = omega (arith, f.few);
        size = f.size;
        same = f.same;
      }

  module _ (h : k < n) where
    before_list : (j : ℕ) → j < at.list → get_or w j 0 ≡ get_or w₀ j 0
    before_list j l = f.same j (λ (z : at.list + 2 * m ≤ j). absurd (omega arith))

    pub room_for : at.list + 2 * r + 1 < length w
    room_for =
        let u = chain_split f.from k f.rest h f.chain in
        let g : f.from ≤ k = u.2 in
        omega (arith, f.size, f.few, q.room)

    pub taking_in : {j : ℕ} → j ≡ k → (at.plans + 2 * j + 1 < at.list) × (at.sources + j < at.list) × (at.nexts + j < at.list) × (at.list ≤ length w)
    taking_in e =
        let o = q.spread in
        (omega (arith, o.plans_in, o.sources_in, o.nexts_in, o.ends_in), omega (arith, o.sources_in, o.nexts_in, o.ends_in), omega (arith, o.nexts_in, o.ends_in), omega (arith, f.size, q.room))

    -- words from the plans on are read, and words from the list on written
    plans_dist : {j : ℕ} → j ≡ k → (cand (take (length w - at.plans) (drop at.plans w)) (2 * j)).dist ≡ (cand w (at.plans + 2 * j)).dist
    plans_dist {j} e = ap (λ (c : Candidate). c.dist) (cand_part w at.plans (length w - at.plans) j (omega (arith, (taking_in e).0, (taking_in e).3)))

    pub list_put : (d s : ℕ) → put_mid at.list (length w - at.list) w (put (take (length w - at.list) (drop at.list w)) (2 * r) d s) ≡ put w (at.list + 2 * r) d s
    list_put d s = put_part w at.list (length w - at.list) r d s (omega (arith, room_for)) (omega (arith, room_for))

    module _ {j d : ℕ} (e : j ≡ k) (y : d ≡ (cand (take (length w - at.plans) (drop at.plans w)) (2 * j)).dist) where
      abbrev appended : List ℕ
      appended = put w (at.list + 2 * r) d (get_or w (at.sources + j) 0)

      pub taking_more : Taking w₀ at n t m appended (r + 1) (get_or appended (at.nexts + j) 0)
      taking_more =
          let u = chain_split f.from k f.rest h f.chain in
          let l = u.0 in
          let g : f.from ≤ k = u.2 in
          let b = taking_in e in
          let c : d ≡ get_or w₀ (at.plans + 2 * k) 0 = y ∙ plans_dist e ∙ before_list (at.plans + 2 * j) (omega (arith, b.0)) ∙ rw e in
          let i : get_or w (at.sources + j) 0 ≡ get_or w₀ (at.sources + k) 0 = before_list (at.sources + j) b.1 ∙ rw e in
          let x : get_or appended (at.nexts + j) 0 ≡ get_or w₀ (at.nexts + k) 0 =
          put_outside w (at.list + 2 * r) d (get_or w (at.sources + j) 0) (at.nexts + j) (λ (z : at.list + 2 * r ≤ at.nexts + j). absurd (omega (arith, b.2)))
          ∙ before_list (at.nexts + j) b.2
          ∙ rw e in
          record {
            from = suc k;
            rest = l;
            chain = rw x u.3;
            goes = rw (cands_push w d (get_or w (at.sources + j) 0) at.list r room_for, append_assoc, c, i) (rw u.1 at f.goes);
            first = omega (arith, f.first);
            few = omega (arith, f.few);
            size = put_length w (at.list + 2 * r) d (get_or w (at.sources + j) 0) ∙ f.size;
            same = outside_put (at.list + 2 * m) (2 * n) w₀ w (at.list + 2 * r) d (get_or w (at.sources + j) 0) f.same (omega (arith, f.first)) (omega (arith, f.few));
          }

      pub taking_less : n - get_or appended (at.nexts + j) 0 < n - k
      unfolding taking_more
      taking_less =
          let v : suc k ≤ get_or appended (at.nexts + j) 0 = chain_on taking_more.from _ taking_more.rest (omega arith) taking_more.chain in
          omega arith
