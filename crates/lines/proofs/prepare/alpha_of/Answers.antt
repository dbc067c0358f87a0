use Rattle.std.proofs.Common.{rules, ◌≡◌, ◌∙◌, ap, sym, true, false, cond, eqb, pos, Float}
use Rattle.std.specs.Float.{binary32}
use Rattle.std.specs.Float.Ieee.{div, of_bits, of_int}
use Rattle.lines.proofs.prepare.alpha_of.Goals as goal

pub returns-then-n-eq4294967295 : goal.returns-then-n-eq4294967295
returns-then-n-eq4294967295 c =
    let e : eqb c.args.n 4294967295 ≡ true = search rules in
    sym (ap (λ b. cond b (of_bits binary32 0x7fc0_0000) (div binary32 (of_int binary32 (pos c.args.n)) (of_bits binary32 0x4b80_0000))) e)

pub returns : goal.returns
returns c =
    let e : eqb c.args.n 4294967295 ≡ false = search rules in
    ap (λ (x : Float). div binary32 x (of_bits binary32 0x4b80_0000)) c.nearest_u32_to_f32.ensures
    ∙ sym (ap (λ b. cond b (of_bits binary32 0x7fc0_0000) (div binary32 (of_int binary32 (pos c.args.n)) (of_bits binary32 0x4b80_0000))) e)
