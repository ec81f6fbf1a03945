use Rattle.text_image.proofs.PlaceLaws.{count_line, count_column, counted}
use Rattle.text_image.proofs.positions.past.Goals as goal
use Rattle.text_image.proofs.positions.past.Goals.{then-ends_line, else-ends_line}

pub loop-i-preserved : goal.loop-i-preserved
loop-i-preserved c =
    let so_far = c.loop-i.invariant in
    elim c.if-ends_line.branch [
      | then-ends_line w ↦ rw (w.line-is, w.column-is) (count_line so_far c.loop-i-test.true c.byte_at.ensures c.ends_line.ensures w.if-ends_line.true)
      | else-ends_line w ↦ rw (w.line-is, w.column-is) (count_column so_far c.loop-i-test.true c.byte_at.ensures c.ends_line.ensures w.if-ends_line.false)
    ]

pub returns : goal.returns
returns c = counted c.loop-i.invariant c.loop-i-test.false
