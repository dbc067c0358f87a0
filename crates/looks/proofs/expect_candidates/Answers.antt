use Rattle.std.proofs.Common.{rules, ap, sym, ◌∙◌, ◌≡◌, ◌∷◌, true, Float, pos}
use Rattle.std.specs.Float.{binary32}
use Rattle.std.specs.Float.Ieee.{eq, ne, of_int}
use mathlib.Core.Logic.{inl, inr}
use Rattle.text.specs.Inner.Text.{Reads}
use Rattle.looks.proofs.Candidates.{equal_from_ne, no_slots, no_dists, no_figures}
use Rattle.looks.proofs.expect_candidates.Goals as goal

pub loop-slot-preserved : goal.loop-slot-preserved
loop-slot-preserved c =
    let s : c.loop-slot.slot-iterator.a.a.rest.now ≡ c.in-Some.slot.now ∷ c.next.new.self.a.a.rest.now = search rules in
    let d : c.loop-slot.slot-iterator.a.b.rest.now ≡ c.in-Some.dist.now ∷ c.next.new.self.a.b.rest.now = search rules in
    let f : c.loop-slot.slot-iterator.b.rest.now ≡ c.in-Some.figure.now ∷ c.next.new.self.b.rest.now = search rules in
    let named : Reads c.loop-slot.line.rest c.expect.new.self.rest c.in-Some.slot.now = search rules in
    let measured : Reads c.expect.new.self.rest c.number.new.self.rest c.in_ok-number.field-0 = search rules in
    let equal : eq c.in-Some.dist.now (of_int binary32 (pos c.in_ok-number.field-0)) ≡ true = equal_from_ne _ _ (ap (λ (x : Float). ne c.in-Some.dist.now x) (sym c.nearest_u32_to_f32.ensures) ∙ c.if-nearest_u32_to_f32.false) in
    let left : Reads c.number.new.self.rest c.expect-in-loop-slot.new.self.rest c.in-Some.figure.now = search rules in
    λ end later. c.loop-slot.invariant end (rw (s, d, f) (c.expect.new.self.rest, named, c.number.new.self.rest, c.in_ok-number.field-0, measured, equal, c.expect-in-loop-slot.new.self.rest, left, later))

pub returns : goal.returns
returns c =
    elim c.in-None.ensures.steps [
      | inl p ↦ c.loop-slot.invariant _ (elim p.1 [ inl q ↦ no_slots _ _ _ _ q.1.0 | inr q ↦ no_dists _ _ _ _ q.1.0 ])
      | inr q ↦ c.loop-slot.invariant _ (no_figures _ _ _ _ q.1.0)
    ]
