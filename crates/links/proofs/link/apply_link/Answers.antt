use native.Mathlib.Omega.{arith}
use mathlib.Core.Path.{◌∙◌}
use Rattle.links.proofs.Linking.{joined_small, linked_one}
use Rattle.links.proofs.link.apply_link.Goals as goal

pub write_pruned-requires : goal.write_pruned-requires
write_pruned-requires c =
    let n = rw c.graph-graph.ensures at c.live_scored-n.ensures.0 in
    let parts = c.split_at_mut-list.ensures in
    let long = c.add_target-m.auto.list ∙ c.live_scored-n.auto.list ∙ parts.front_len in
    let room = parts.back_len in
    (omega arith, (c.requires.0, joined_small n c.add_target-m.ensures (omega (arith, long)), omega (arith, room, c.requires.2)))

pub returns : goal.returns
returns c =
    let n = rw c.graph-graph.ensures at c.live_scored-n.ensures.0 in
    let parts = c.split_at_mut-list.ensures in
    let long = c.add_target-m.auto.list ∙ c.live_scored-n.auto.list ∙ parts.front_len in
    record { does = λ entry. linked_one n c.add_target-m.ensures (omega (arith, long)) c.write_pruned.ensures.0 entry; same = c.write_pruned.ensures.1 }
