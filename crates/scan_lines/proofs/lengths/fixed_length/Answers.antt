use Rattle.std.proofs.lemmas.List.{get_or-take}
use Rattle.bits.specs.Meeting.{points}
use Rattle.scan_lines.proofs.Driven.{below-all, past-all}
use Rattle.scan_lines.proofs.Counting.{counting_begun, counting_more, counted}
use Rattle.scan_lines.proofs.lengths.fixed_length.Goals as goal

pub loop-point-init : goal.loop-point-init
loop-point-init c = counting_begun

pub point_length-n-requires : goal.point_length-n-requires
point_length-n-requires c = below-all _ c.requires c.loop-point-test.true

pub loop-point-preserved : goal.loop-point-preserved
loop-point-preserved c =
    let h = below-all _ c.requires c.loop-point-test.true in
    counting_more c.loop-point.invariant h (rw (get_or-take points c.args.marks.now c.loop-point.point 0 h) at c.point_length-n.ensures.is) c.point_length-n.ensures.few

pub returns-clause-is : goal.returns-clause-is
returns-clause-is c = counted c.loop-point.invariant (past-all _ c.requires c.loop-point-test.false)
