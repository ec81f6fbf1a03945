use Rattle.std.proofs.Common.{arith, refl}
use Rattle.words.proofs.is_old.Goals as goal
use Rattle.words.proofs.Section.{seeking_start, old-none, old-fault, old-short, old-here, old-further, end_fits}

pub loop-init : goal.loop-init
loop-init c = seeking_start (omega arith)

pub returns-in_default : goal.returns-in_default
returns-in_default c = old-fault c.loop.invariant (omega arith) c.word_length.ensures c.in_default.is

pub overflow_add-to : goal.overflow_add-to
overflow_add-to c = end_fits _ _ c.loop.invariant.within c.word_length.ensures c.in-Ok.is c.requires

pub returns-then-section-to : goal.returns-then-section-to
returns-then-section-to c = old-short c.loop.invariant (omega arith) c.word_length.ensures c.in-Ok.is refl c.if-section-to.true

pub returns-then-same_bytes : goal.returns-then-same_bytes
returns-then-same_bytes c = old-here c.loop.invariant (omega arith) c.word_length.ensures c.in-Ok.is refl c.same_bytes.ensures c.if-same_bytes.true

pub loop-preserved : goal.loop-preserved
loop-preserved c = old-further c.loop.invariant (omega arith) c.word_length.ensures c.in-Ok.is refl c.same_bytes.ensures (omega arith) c.if-same_bytes.false c.if-section-to.false

pub returns : goal.returns
returns c = old-none c.loop.invariant (omega arith)
