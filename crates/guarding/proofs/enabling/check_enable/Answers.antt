use Rattle.index.proofs.Decide.{handed_on}
use Rattle.guard.specs.Lent.{config_of}
use Rattle.guarding.proofs.Enables.{turns_before, turns_over, turns_short, turns_empty, turns_one, turns_none}
use Rattle.guarding.proofs.enabling.check_enable.Goals as goal

pub returns-in_err-check_index : goal.returns-in_err-check_index
returns-in_err-check_index c =
    rw (handed_on c.from_residual.result c.from_residual.ensures.1) (turns_before (config_of c.args.config) c.args.scratch c.check_index.ensures c.in_err-check_index.was)

pub returns-then-config_over : goal.returns-then-config_over
returns-then-config_over c = turns_over (config_of c.args.config) c.args.scratch c.check_index.ensures c.in_ok-check_index.was c.config_over.ensures c.if-config_over.true

pub returns-then-scratch_short : goal.returns-then-scratch_short
returns-then-scratch_short c = turns_short (config_of c.args.config) c.args.scratch c.check_index.ensures c.in_ok-check_index.was c.config_over.ensures c.if-config_over.false c.scratch_short.ensures c.if-scratch_short.true

pub returns-then-index-eq0 : goal.returns-then-index-eq0
returns-then-index-eq0 c = turns_empty (config_of c.args.config) c.args.scratch c.check_index.ensures c.in_ok-check_index.was c.config_over.ensures c.if-config_over.false c.scratch_short.ensures c.if-scratch_short.false c.if-index-eq0.true

pub returns-then-index-eq1 : goal.returns-then-index-eq1
returns-then-index-eq1 c = turns_one (config_of c.args.config) c.args.scratch c.check_index.ensures c.in_ok-check_index.was c.config_over.ensures c.if-config_over.false c.scratch_short.ensures c.if-scratch_short.false c.if-index-eq0.false c.if-index-eq1.true

pub returns : goal.returns
returns c = turns_none (config_of c.args.config) c.args.scratch c.check_index.ensures c.in_ok-check_index.was c.config_over.ensures c.if-config_over.false c.scratch_short.ensures c.if-scratch_short.false c.if-index-eq0.false c.if-index-eq1.false
