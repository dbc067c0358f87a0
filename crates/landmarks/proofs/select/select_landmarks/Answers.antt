use mathlib.Core.List.{◌∷◌}
use Rattle.vectors.specs.Space.{slot_distance}
use Rattle.vectors.specs.Lent.{space_of}
use Rattle.landmarks.proofs.Drawing.{part_listed, part_is, part_drew_all}
use Rattle.landmarks.proofs.Selecting.{selectable_references, taken_listed, selected_none, drawn_listed, selected}
use Rattle.landmarks.proofs.select.select_landmarks.Goals as goal

pub returns-then-wanted-eq0 : goal.returns-then-wanted-eq0
returns-then-wanted-eq0 c = selected_none c.requires c.if-wanted-eq0.true

pub draw_all-m-requires : goal.draw_all-m-requires
draw_all-m-requires c = (part_listed (taken_listed c.requires c.take_sample-n.ensures), (selectable_references c.requires).0, (selectable_references c.requires).1)

pub choose-requires : goal.choose-requires
choose-requires c =
    let taken = taken_listed c.requires c.take_sample-n.ensures in
    let drew = part_drew_all (slot_distance (space_of c.args.space.now)) (c.args.free.now.entry ∷ c.args.free.now.kept.now) _ _ _ taken.room c.draw_all-m.auto.list c.draw_all-m.ensures in
    (part_listed (drawn_listed c.requires c.take_sample-n.ensures drew), c.requires.list_long)

pub returns : goal.returns
returns c =
    let taken = taken_listed c.requires c.take_sample-n.ensures in
    let drew = part_drew_all (slot_distance (space_of c.args.space.now)) (c.args.free.now.entry ∷ c.args.free.now.kept.now) _ _ _ taken.room c.draw_all-m.auto.list c.draw_all-m.ensures in
    let listed = drawn_listed c.requires c.take_sample-n.ensures drew in
    selected c.requires c.take_sample-n.ensures drew (rw (part_is _ _ listed.room) at c.choose.ensures)
