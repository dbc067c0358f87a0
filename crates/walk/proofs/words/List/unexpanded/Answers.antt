use Prim.Native.Nat.{◌*◌, ◌<◌}
use mathlib.Core.Path.{◌≡◌}
use lib.ListN.{length}
use native.Mathlib.Omega.{arith}
use Rattle.std.proofs.Common.{rules}
use Rattle.std.proofs.lemmas.Iterator.{serves_from_Range, first_from_Range}
use Rattle.candidates.proofs.Words.{front_each}
use Rattle.walk.specs.Inner.Scratch.{mark, mark_word}
use Rattle.candidates.specs.Inner.Words.{cand}
use Rattle.walk.proofs.Entering.{scanned}
use Rattle.walk.proofs.words.List.unexpanded.Goals as goal

pub find-requires-clause-callable : goal.find-requires-clause-callable
find-requires-clause-callable c =
    let w = c.args.self.now.words.now in
    let r = c.requires in
    serves_from_Range (λ x q k. search rules)
    (λ x a b y e. (λ l p h f g t m. omega (arith, e, b, r.long, r.most), λ l p n h f g t id_at. search rules, λ l p n h f g t id_at m. rw (id_at.ensures, e) (front_each (λ z. mark_word z.id < length w) _ _ r.inside x b)))

pub returns : goal.returns
returns c =
    let w = c.args.self.now.words.now in
    scanned c.requires c.find.result (first_from_Range _ _ _ c.find.result (λ i. mark w (cand w (2 * i)).id ≡ 2 → ⊥) (λ i. mark w (cand w (2 * i)).id ≡ 2) c.find.ensures.ran (λ x q k. search rules) (λ x q k. search rules))
