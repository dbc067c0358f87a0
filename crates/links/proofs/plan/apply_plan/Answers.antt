use mathlib.Core.Path.{refl, ◌∙◌}
use native.Mathlib.Omega.{arith}
use lib.ListN.{length}
use Rattle.std.proofs.lemmas.List.{length-take-le}
use Rattle.candidates.proofs.Parts.{written_length}
use Rattle.row.specs.Row.{index_of}
use Rattle.row.specs.Lent.{held}
use Rattle.row.proofs.Kept.{together_shaped}
use Rattle.links.proofs.Planning.{Begun, Parted, plan_none, plan_ready, start_within, plan_remain, plan_planned, plan_pairs, plan_done}
use Rattle.links.proofs.plan.apply_plan.Goals.{After-id_at-start, After-keep_valid-m}
use Rattle.links.proofs.plan.apply_plan.Goals as goal

pub returns-then-list-lt2 : goal.returns-then-list-lt2
returns-then-list-lt2 c = plan_none _ _ _ _ _ c.if-list-lt2.true

pub score-requires : goal.score-requires
score-requires c =
    (plan_ready (record { together = c.args.pruner.now.together; entry_in = c.requires.0; plan = c.requires.1; some = c.if-list-lt2.false }), length-take-le (length c.args.list.now) c.split_at_mut-near.result.0.now (omega (arith, c.split_at_mut-near.ensures.front_len, c.requires.2)))

pub id_at-start-requires : goal.id_at-start-requires
id_at-start-requires c = omega (arith, start_within _ c.nearest-i.ensures)

-- the start is found
begun : (c : After-id_at-start) → Begun (held c.args.pruner.now) c.args.list.now c.args.table.entry c.score.new.to c.nearest-i.result c.id_at-start.result
begun c =
    record {
      asked = record { together = c.args.pruner.now.together; entry_in = c.requires.0; plan = c.requires.1; some = c.if-list-lt2.false };
      long = c.score.auto.to ∙ length-take-le (length c.args.list.now) c.split_at_mut-near.result.0.now (omega (arith, c.split_at_mut-near.ensures.front_len, c.requires.2));
      distances = c.score.ensures;
      nearest = c.nearest-i.ensures;
      read = c.id_at-start.ensures;
    }

pub score-requires-2 : goal.score-requires-2
score-requires-2 c =
    (plan_remain (begun (goal.at.score-requires-2 c).After-id_at-start), length-take-le (length c.args.list.now) c.split_at_mut-remaining.result.0.now (omega (arith, c.split_at_mut-remaining.ensures.front_len, c.requires.2)))

-- those connected and those that remain are apart
parted : (c : After-keep_valid-m)
    → Parted (held c.args.pruner.now) c.args.list.now c.id_at-start.result c.split_at_mut-connected.result.0.now c.put.new.list c.score-2.new.to c.keep_valid-m.result c.keep_valid-m.new.list
parted c =
    record {
      room = omega (arith, c.split_at_mut-connected.ensures.front_len);
      placed = c.put.ensures;
      distances = c.score-2.ensures;
      remain = c.keep_valid-m.ensures;
      within = omega (arith, c.keep_valid-m.ensures.within, c.keep_valid-m.auto.list);
    }

pub span-t-requires : goal.span-t-requires
span-t-requires c =
    let near = c.split_at_mut-near.ensures in
    let first = c.split_at_mut-connected.ensures in (
      plan_planned (begun (goal.at.span-t-requires c).After-id_at-start) (parted (goal.at.span-t-requires c).After-keep_valid-m),
      c.put.auto.list ∙ first.front_len,
      written_length c.split_at_mut-near.result.0.now c.score.new.to 0 (length c.args.list.now) (omega (arith, near.front_len, c.requires.2)) (begun (goal.at.span-t-requires c).After-id_at-start).long ∙ near.front_len,
      c.requires.4,
    )

pub apply_sources-requires : goal.apply_sources-requires
apply_sources-requires c =
    let near = c.split_at_mut-near.ensures in
    let first = c.split_at_mut-connected.ensures in
    let second = c.split_at_mut-remaining.ensures in
    (plan_pairs (begun (goal.at.apply_sources-requires c).After-id_at-start) (parted (goal.at.apply_sources-requires c).After-keep_valid-m) c.span-t.ensures, omega (arith, near.front_len, near.back_len, second.front_len, second.back_len, first.front_len, first.back_len, c.requires.3))

pub returns : goal.returns
returns c =
    let p = c.args.pruner.now in
    record {
      does = λ entry. plan_done (begun (goal.at.returns c).After-id_at-start) (parted (goal.at.returns c).After-keep_valid-m) c.span-t.ensures (index_of p.alpha entry (held p)) refl (together_shaped p.together) p.together.rows.few (c.apply_sources.ensures.does entry);
      same = c.apply_sources.ensures.same;
    }
