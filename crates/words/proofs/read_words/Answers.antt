use Rattle.std.proofs.Common.{arith, refl}
use Rattle.words.proofs.read_words.Goals as goal
use Rattle.words.proofs.read_words.Goals.{then-s-to-via-then-s-to, then-s-to-via-else-s-to+then-not-may_stand}
use Rattle.refusals.proofs.Handing.{handed_on}
use Rattle.words.proofs.Section.{reading_start, words-none, section-fault, section-short, section-bad, section-good, end_fits}

pub loop-passed-init : goal.loop-passed-init
loop-passed-init c = reading_start c.requires (omega arith)

pub returns-in_err-n : goal.returns-in_err-n
returns-in_err-n c = section-fault c.loop-passed.invariant (omega arith) c.word_length.ensures c.in_err-n.was (handed_on c.from_residual.ensures.1 refl)

pub overflow_add-to : goal.overflow_add-to
overflow_add-to c = end_fits _ _ c.loop-passed.invariant.midway.within c.word_length.ensures c.in_ok-n.was c.requires.small

pub returns-then-s-to : goal.returns-then-s-to
returns-then-s-to c =
    elim c.then-s-to.branch [
      | then-s-to-via-then-s-to w ↦ section-short c.loop-passed.invariant (omega arith) c.word_length.ensures c.in_ok-n.was refl w.if-s-to.true
      | then-s-to-via-else-s-to+then-not-may_stand w ↦ section-bad c.loop-passed.invariant (omega arith) c.word_length.ensures c.in_ok-n.was refl w.if-s-to.false w.may_stand.ensures w.if-not-may_stand.true
    ]

pub loop-passed-preserved : goal.loop-passed-preserved
loop-passed-preserved c = section-good c.loop-passed.invariant (omega arith) c.word_length.ensures c.in_ok-n.was refl c.if-s-to.false c.may_stand.ensures (omega arith) c.if-not-may_stand.false

pub returns : goal.returns
returns c = words-none c.loop-passed.invariant (omega arith)
