use Rattle.scan_lines.proofs.Showing.{point-room, showing_more, showing_ended}
use Rattle.scan_lines.proofs.put_points.Goals as goal

pub put_point-to-requires : goal.put_point-to-requires
put_point-to-requires c = point-room c.loop-place.invariant c.requires.room c.loop-place-test.true

pub loop-place-preserved : goal.loop-place-preserved
loop-place-preserved c = showing_more c.loop-place.invariant c.loop-place-test.true c.put_point-to.ensures

pub returns : goal.returns
returns c = showing_ended c.loop-place.invariant c.loop-place-test.false
