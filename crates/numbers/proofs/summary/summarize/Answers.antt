use native.Mathlib.Omega.{arith}
use Rattle.sorting.proofs.Settling.{placed_front, sorted_front}
use Rattle.numbers.proofs.Listing.{summary_placed, summarized}
use Rattle.numbers.proofs.Loops.{counted_front, counted_blank}
use Rattle.numbers.proofs.summary.summarize.Goals as goal

pub sort-requires : goal.sort-requires
sort-requires c =
    placed_front
    (summary_placed _ _ c.requires.0 (counted_blank c.args.count _ c.args.summary.now c.requires.1 (omega arith) (counted_front 0 c.args.count c.args.summary.now (omega arith) c.count_up.ensures) (c.fill.ensures.after (λ y e. e))))

pub returns : goal.returns
returns c =
    let e = counted_blank c.args.count _ c.args.summary.now c.requires.1 (omega arith) (counted_front 0 c.args.count c.args.summary.now (omega arith) c.count_up.ensures) (c.fill.ensures.after (λ y e. e)) in
    summarized c.requires.0 (sorted_front (summary_placed _ _ c.requires.0 e).long c.sort.ensures) e
