use Rattle.insertion.proofs.Chaining.{repeated, chain_fits, even_chainable, even_chained}
use Rattle.insertion.specs.Inner.Chains.{Repeated}
use native.Mathlib.Omega.{arith}
use Rattle.insertion.proofs.chains.chain.Goals as goal

pub link-requires : goal.link-requires
link-requires c = let e : Repeated c.args.scratch.now 2048 c.args.capacity c.args.n _ = repeated (omega arith) (chain_fits c.requires) (c.fill.ensures.after (λ y e. e)) in (even_chainable c.requires e, e.all)

pub returns : goal.returns
returns c = even_chained c.requires (repeated (omega arith) (chain_fits c.requires) (c.fill.ensures.after (λ y e. e))) c.link.ensures
