use Rattle.std.proofs.Common.{◌≡◌, true, false, length, arith, rules}
use Rattle.landmarks.specs.Inner.Samples.{free_of, on_stride, stride_of}
use Rattle.landmarks.proofs.Sampling.{taken_few, taken_more}
use Rattle.landmarks.proofs.sample.take_sample.Goals as goal

pub overflow_add-result : goal.overflow_add-result
overflow_add-result c =
    let g = c.sample_slots.ensures (on_stride c.max-stride.result true) (λ s r h p. search rules) in
    omega (arith, c.if-n-wanted.true, c.requires.2, c.requires.0, g.within)

pub returns-then-n-wanted : goal.returns-then-n-wanted
returns-then-n-wanted c =
    let e : c.max-stride.result ≡ stride_of (length c.args.free.now.marks.now) c.args.sample = omega arith in
    let f = c.sample_slots-n.ensures (on_stride c.max-stride.result false) (λ s r h p. search rules) in
    let g = c.sample_slots.ensures (on_stride c.max-stride.result true) (λ s r h p. search rules) in
    taken_more (free_of c.args.free.now) e f c.requires.2 c.requires.3 c.if-n-wanted.true g

pub returns : goal.returns
returns c =
    let e : c.max-stride.result ≡ stride_of (length c.args.free.now.marks.now) c.args.sample = omega arith in
    let f = c.sample_slots-n.ensures (on_stride c.max-stride.result false) (λ s r h p. search rules) in
    taken_few (free_of c.args.free.now) e f c.requires.3 c.if-n-wanted.false
