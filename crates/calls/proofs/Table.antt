-- The table holds: each case, computed. Assumes nothing.
use mathlib.Core.List.{map}
use mathlib.Core.Path.{◌≡◌, refl}
use Rattle.calls.specs.State.{made, stored}
use Rattle.calls.specs.Table.{shelf, table, outcome_of, summaries, left_after}

pub table_holds : map (λ c. outcome_of c.start c.calls) table ≡ map (λ c. c.outcome) table
unfolding Rattle.slots.specs.Sizes.weights_ok Rattle.vectors.specs.Distance.squared_difference Rattle.vectors.specs.Distance.distance Rattle.vectors.specs.Distance.f32 Rattle.candidates.specs.Quotient.largest Rattle.candidates.specs.Quotient.quotient Rattle.slots.specs.Plain.plain_ops Rattle.slots.specs.Plain.new_plain Rattle.slots.specs.Sizes.limits Rattle.slots.specs.Sizes.sizes_ok Rattle.slots.specs.Sizes.alpha_ok Rattle.slots.specs.Sizes.lengths_ok Rattle.slots.specs.Store.is_valid Rattle.slots.specs.Store.current Rattle.slots.specs.Store.vector_of Rattle.slots.specs.Store.refs_of Rattle.slots.specs.Store.store_view Rattle.slots.specs.Store.write_neighbors Rattle.slots.specs.Store.write_vector Rattle.slots.specs.Store.set_mark Rattle.slots.specs.Store.next_version Rattle.slots.specs.Store.store_ops Rattle.slots.specs.Store.new_arrays Rattle.vectors.specs.Space.slot_distance Rattle.vectors.specs.Space.query_distance Rattle.walk.specs.Walk.unexpanded Rattle.walk.specs.Walk.enter Rattle.walk.specs.Walk.ends Rattle.walk.specs.Walk.meet Rattle.walk.specs.Walk.expand Rattle.walk.specs.Walk.turn Rattle.walk.specs.Walk.turns Rattle.walk.specs.Walk.graph_search Rattle.walk.specs.Walk.search_pool Rattle.prune.specs.Prune.growth Rattle.prune.specs.Prune.thresholds_from Rattle.prune.specs.Prune.thresholds Rattle.prune.specs.Prune.raise Rattle.prune.specs.Prune.select Rattle.prune.specs.Prune.consider Rattle.prune.specs.Prune.pass Rattle.prune.specs.Prune.passes Rattle.prune.specs.Prune.considered Rattle.prune.specs.Prune.prune_scored Rattle.insert.specs.Insert.fillings Rattle.insert.specs.Insert.plan Rattle.insert.specs.Insert.incoming Rattle.insert.specs.Insert.outgoing_row Rattle.insert.specs.Insert.target_row Rattle.insert.specs.Insert.chunk_rows Rattle.insert.specs.Insert.insert_chunk Rattle.insert.specs.Insert.insert_batch Rattle.insert.specs.Insert.first_entry Rattle.insert.specs.Insert.insert_entering Rattle.repair.specs.Delete.snapshot Rattle.repair.specs.Delete.new_entry Rattle.repair.specs.Delete.plan Rattle.slots.specs.View.emptied Rattle.repair.specs.Delete.delete_slots Rattle.repair.specs.Delete.delete_batch Rattle.repair.specs.Repair.links Rattle.repair.specs.Repair.span Rattle.repair.specs.Repair.repair_links Rattle.repair.specs.Repair.insert_and_prune Rattle.repair.specs.Repair.repaired_row Rattle.repair.specs.Repair.repaired_rows Rattle.guard.specs.Guard.normalized Rattle.guard.specs.Guard.pool_of Rattle.guard.specs.Guard.guard_status Rattle.guard.specs.Guard.residual_entry Rattle.guard.specs.Guard.sample Rattle.guard.specs.Guard.farthest Rattle.guard.specs.Guard.select_landmarks Rattle.guard.specs.Guard.virtual_search_pool Rattle.guard.specs.Guard.reaches Rattle.guard.specs.Guard.landmark_pool Rattle.guard.specs.Guard.probe Rattle.guard.specs.Guard.assess_slots Rattle.guard.specs.Guard.assess_delete_admission Rattle.numbers.specs.Numbers.slot_of Rattle.numbers.specs.Numbers.live_numbers Rattle.numbers.specs.Numbers.summary_of Rattle.numbers.specs.Numbers.labels_ok Rattle.calls.specs.Step.slots_of Rattle.calls.specs.Step.deletion Rattle.calls.specs.Calls.refused_as Rattle.calls.specs.Refusals.making_tests Rattle.calls.specs.Refusals.guard_fault Rattle.calls.specs.Refusals.is_off Rattle.calls.specs.Refusals.new_pool Rattle.calls.specs.Refusals.index_tests Rattle.calls.specs.Refusals.tests Rattle.slots.specs.Scratch.size_answer Rattle.calls.specs.State.stored Rattle.calls.specs.State.shown Rattle.calls.specs.State.with_graph Rattle.calls.specs.State.with_guard Rattle.calls.specs.State.made Rattle.calls.specs.Runs.slices_of Rattle.calls.specs.Step.report_by Rattle.calls.specs.Step.reading Rattle.calls.specs.Step.guarded Rattle.calls.specs.Step.perform Rattle.calls.specs.Step.refusal Rattle.calls.specs.Step.settle Rattle.calls.specs.Step.step Rattle.calls.specs.Table.shelf Rattle.calls.specs.Table.wide Rattle.calls.specs.Table.nothing Rattle.calls.specs.Table.refusals Rattle.calls.specs.Table.table lib.Ieee.mul lib.Ieee.div lib.Ieee.lt lib.Ieee.le lib.Ieee.of_int lib.Ieee.of_bits
table_holds = refl

pub summaries_hold : map (λ c. (left_after (made stored shelf) c.calls).summary) summaries ≡ map (λ c. c.summary) summaries
unfolding Rattle.slots.specs.Sizes.weights_ok Rattle.vectors.specs.Distance.squared_difference Rattle.vectors.specs.Distance.distance Rattle.vectors.specs.Distance.f32 Rattle.candidates.specs.Quotient.largest Rattle.candidates.specs.Quotient.quotient Rattle.slots.specs.Plain.plain_ops Rattle.slots.specs.Plain.new_plain Rattle.slots.specs.Sizes.limits Rattle.slots.specs.Sizes.sizes_ok Rattle.slots.specs.Sizes.alpha_ok Rattle.slots.specs.Sizes.lengths_ok Rattle.slots.specs.Store.is_valid Rattle.slots.specs.Store.current Rattle.slots.specs.Store.vector_of Rattle.slots.specs.Store.refs_of Rattle.slots.specs.Store.store_view Rattle.slots.specs.Store.write_neighbors Rattle.slots.specs.Store.write_vector Rattle.slots.specs.Store.set_mark Rattle.slots.specs.Store.next_version Rattle.slots.specs.Store.store_ops Rattle.slots.specs.Store.new_arrays Rattle.vectors.specs.Space.slot_distance Rattle.vectors.specs.Space.query_distance Rattle.walk.specs.Walk.unexpanded Rattle.walk.specs.Walk.enter Rattle.walk.specs.Walk.ends Rattle.walk.specs.Walk.meet Rattle.walk.specs.Walk.expand Rattle.walk.specs.Walk.turn Rattle.walk.specs.Walk.turns Rattle.walk.specs.Walk.graph_search Rattle.walk.specs.Walk.search_pool Rattle.prune.specs.Prune.growth Rattle.prune.specs.Prune.thresholds_from Rattle.prune.specs.Prune.thresholds Rattle.prune.specs.Prune.raise Rattle.prune.specs.Prune.select Rattle.prune.specs.Prune.consider Rattle.prune.specs.Prune.pass Rattle.prune.specs.Prune.passes Rattle.prune.specs.Prune.considered Rattle.prune.specs.Prune.prune_scored Rattle.insert.specs.Insert.fillings Rattle.insert.specs.Insert.plan Rattle.insert.specs.Insert.incoming Rattle.insert.specs.Insert.outgoing_row Rattle.insert.specs.Insert.target_row Rattle.insert.specs.Insert.chunk_rows Rattle.insert.specs.Insert.insert_chunk Rattle.insert.specs.Insert.insert_batch Rattle.insert.specs.Insert.first_entry Rattle.insert.specs.Insert.insert_entering Rattle.repair.specs.Delete.snapshot Rattle.repair.specs.Delete.new_entry Rattle.repair.specs.Delete.plan Rattle.slots.specs.View.emptied Rattle.repair.specs.Delete.delete_slots Rattle.repair.specs.Delete.delete_batch Rattle.repair.specs.Repair.links Rattle.repair.specs.Repair.span Rattle.repair.specs.Repair.repair_links Rattle.repair.specs.Repair.insert_and_prune Rattle.repair.specs.Repair.repaired_row Rattle.repair.specs.Repair.repaired_rows Rattle.guard.specs.Guard.normalized Rattle.guard.specs.Guard.pool_of Rattle.guard.specs.Guard.guard_status Rattle.guard.specs.Guard.residual_entry Rattle.guard.specs.Guard.sample Rattle.guard.specs.Guard.farthest Rattle.guard.specs.Guard.select_landmarks Rattle.guard.specs.Guard.virtual_search_pool Rattle.guard.specs.Guard.reaches Rattle.guard.specs.Guard.landmark_pool Rattle.guard.specs.Guard.probe Rattle.guard.specs.Guard.assess_slots Rattle.guard.specs.Guard.assess_delete_admission Rattle.numbers.specs.Numbers.slot_of Rattle.numbers.specs.Numbers.live_numbers Rattle.numbers.specs.Numbers.summary_of Rattle.numbers.specs.Numbers.labels_ok Rattle.calls.specs.Step.slots_of Rattle.calls.specs.Step.deletion Rattle.calls.specs.Calls.refused_as Rattle.calls.specs.Refusals.making_tests Rattle.calls.specs.Refusals.guard_fault Rattle.calls.specs.Refusals.is_off Rattle.calls.specs.Refusals.new_pool Rattle.calls.specs.Refusals.index_tests Rattle.calls.specs.Refusals.tests Rattle.slots.specs.Scratch.size_answer Rattle.calls.specs.State.stored Rattle.calls.specs.State.shown Rattle.calls.specs.State.with_graph Rattle.calls.specs.State.with_guard Rattle.calls.specs.State.made Rattle.calls.specs.Runs.slices_of Rattle.calls.specs.Step.report_by Rattle.calls.specs.Step.reading Rattle.calls.specs.Step.guarded Rattle.calls.specs.Step.perform Rattle.calls.specs.Step.refusal Rattle.calls.specs.Step.settle Rattle.calls.specs.Step.step Rattle.calls.specs.Table.shelf Rattle.calls.specs.Table.wide Rattle.calls.specs.Table.nothing Rattle.calls.specs.Table.summaries lib.Ieee.mul lib.Ieee.div lib.Ieee.lt lib.Ieee.le lib.Ieee.of_int lib.Ieee.of_bits
summaries_hold = refl
