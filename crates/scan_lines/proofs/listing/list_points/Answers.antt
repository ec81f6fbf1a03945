use Rattle.std.proofs.lemmas.List.{get_or-take}
use Rattle.bits.specs.Meeting.{points}
use Rattle.scan_lines.proofs.Driven.{below-all, past-all, listing_begun, place-free, listing_more, listing_ended}
use Rattle.scan_lines.proofs.listing.list_points.Goals as goal

pub loop-point-init : goal.loop-point-init
loop-point-init c = listing_begun

pub list_point-n-requires : goal.list_point-n-requires
list_point-n-requires c = place-free c.loop-point.invariant c.requires.1 (below-all _ c.requires.0 c.loop-point-test.true)

pub loop-point-preserved : goal.loop-point-preserved
loop-point-preserved c =
    let h = below-all _ c.requires.0 c.loop-point-test.true in
    listing_more c.loop-point.invariant h (rw (get_or-take points c.args.marks.now c.loop-point.point 0 h) at c.list_point-n.ensures)

pub returns : goal.returns
returns c = listing_ended c.loop-point.invariant c.requires.1 (past-all _ c.requires.0 c.loop-point-test.false)
