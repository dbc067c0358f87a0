use Rattle.std.proofs.Common.{◌≡◌, ◌+◌, ◌-◌, ◌*◌, arith, ◌&&◌, ◌∙◌, eqb, get_or, rules}
use Rattle.std.proofs.lemmas.Iterator.{YieldsList-from_slice, YieldsList-from_zip}
use Rattle.std.proofs.lemmas.Iterator.Search.{any_from_yields_List}
use Rattle.lists.specs.Lists.{part}
use Rattle.slots.specs.Store.{refs_of}
use Rattle.slots.proofs.Places.{looking_any, looking_blank}
use Rattle.slots.proofs.graph.Rows.holds.Goals as goal

pub returns-then-id : goal.returns-then-id
returns-then-id c = λ measure dim vectors. looking_blank c.if-id.true _ _ _ _ _ _ _ _ _

pub returns : goal.returns
unfolding refs_of
returns c =
    let r = c.args.self.now in
    let version = c.unwrap_or-version.result in
    let e : version ≡ get_or r.versions.now c.args.id 0 = search rules in
    let z : c.args.s * r.degree + r.degree - c.args.s * r.degree ≡ r.degree = omega arith in
    let first : c.zip.result.a.rest.now ≡ part r.degree c.args.s r.targets.now = rw (c.zip.ensures.first, c.iter.ensures.rest, z) in
    let second : c.zip.result.b.rest.now ≡ part r.degree c.args.s r.edges.now = rw (c.zip.ensures.second, c.iter-2.ensures.rest, z) in
    λ measure dim vectors. any_from_yields_List (λ p. eqb p.0 c.args.id && eqb p.1 version) c.any.new.self _ c.any.result c.any.ensures.ran
    (YieldsList-from_zip (YieldsList-from_slice (part r.degree c.args.s r.targets.now) first) (YieldsList-from_slice (part r.degree c.args.s r.edges.now) second)) (λ x b q k. search rules)
    ∙ looking_any r.versions.now c.args.id version c.if-id.false e _ _
