use mathlib.Core.Path.{refl}
use Rattle.index.proofs.Decide.{passed, passed_bytes, passed_weighing, passed_rows, handed_on}
use Rattle.reading.proofs.Finds.{searches_back, search_ready, search_inside, search_list, search_fits, search_named, search_first, search_copies, searches_on}
use Rattle.reading.proofs.searching.search.Goals as goal

pub returns-in_err-check_search : goal.returns-in_err-check_search
returns-in_err-check_search c =
    rw (handed_on c.from_residual.result c.from_residual.ensures.1) (searches_back c.args.asked.now c.args.found.now c.args.scratch.now c.check_search.ensures c.in_err-check_search.was, record { slots = refl; dists = refl; numbers = refl })

pub graph-graph-requires-clause-bytes : goal.graph-graph-requires-clause-bytes
graph-graph-requires-clause-bytes c = passed_bytes (passed c.check_search.ensures c.in_ok-check_search.was)

pub graph-graph-requires-clause-weighing : goal.graph-graph-requires-clause-weighing
graph-graph-requires-clause-weighing c = passed_weighing (passed c.check_search.ensures c.in_ok-check_search.was)

pub graph-graph-requires-clause-weighted : goal.graph-graph-requires-clause-weighted
graph-graph-requires-clause-weighted c = (passed c.check_search.ensures c.in_ok-check_search.was).weights_long

pub graph-graph-requires-clause-shape : goal.graph-graph-requires-clause-shape
graph-graph-requires-clause-shape c = passed_rows (passed c.check_search.ensures c.in_ok-check_search.was)

pub search_pool-pool-requires : goal.search_pool-pool-requires
search_pool-pool-requires c = search_ready c.args.asked.now c.args.found.now c.args.scratch.now c.check_search.ensures c.in_ok-check_search.was c.graph-graph.ensures

pub slice_bounds-show-end : goal.slice_bounds-show-end
slice_bounds-show-end c = search_inside c.args.asked.now c.args.found.now c.args.scratch.now c.check_search.ensures c.in_ok-check_search.was c.graph-graph.ensures c.search_pool-pool.ensures c.min-n.ensures

pub slice_bounds-show-end-2 : goal.slice_bounds-show-end-2
slice_bounds-show-end-2 c = search_list c.args.asked.now c.args.found.now c.args.scratch.now c.check_search.ensures c.in_ok-check_search.was c.graph-graph.ensures c.search_pool-pool.ensures c.min-n.ensures

pub show-requires : goal.show-requires
show-requires c = search_fits c.args.asked.now c.args.found.now c.args.scratch.now c.check_search.ensures c.in_ok-check_search.was c.graph-graph.ensures c.search_pool-pool.ensures c.min-n.ensures

pub slice_bounds-copy_numbers-end : goal.slice_bounds-copy_numbers-end
slice_bounds-copy_numbers-end c = search_named c.args.asked.now c.args.found.now c.args.scratch.now c.check_search.ensures c.in_ok-check_search.was c.graph-graph.ensures c.search_pool-pool.ensures c.min-n.ensures

pub slice_bounds-copy_numbers-end-2 : goal.slice_bounds-copy_numbers-end-2
slice_bounds-copy_numbers-end-2 c = search_first c.args.asked.now c.args.found.now c.args.scratch.now c.check_search.ensures c.in_ok-check_search.was c.graph-graph.ensures c.search_pool-pool.ensures c.min-n.ensures

pub copy_numbers-requires : goal.copy_numbers-requires
copy_numbers-requires c = search_copies c.args.asked.now c.args.found.now c.args.scratch.now c.check_search.ensures c.in_ok-check_search.was c.graph-graph.ensures c.search_pool-pool.ensures c.min-n.ensures c.show.auto.slots

pub returns : goal.returns
returns c = (
  searches_on c.args.asked.now c.args.found.now c.args.scratch.now c.check_search.ensures c.in_ok-check_search.was c.graph-graph.ensures c.search_pool-pool.ensures c.min-n.ensures c.show.ensures c.copy_numbers.ensures,
  record { slots = refl; dists = refl; numbers = refl },
)
