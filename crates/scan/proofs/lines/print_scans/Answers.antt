use Rattle.scan.proofs.Printing.{line_room, waiting_on, print_laws}
use Rattle.std.proofs.Common.{rules}
use Rattle.scan.proofs.lines.print_scans.Goals as goal

pub scan_once-here-requires : goal.scan_once-here-requires
scan_once-here-requires g c = search (print_laws, rules)

pub put_line-end-requires-clause-room : goal.put_line-end-requires-clause-room
put_line-end-requires-clause-room g c = let once = c.scan_once-here in
    line_room c.loop-done.invariant c.loop-done-test.true c.after-s.ensures once.ensures once.auto.points once.auto.bits

pub slice_bounds-write_all-end : goal.slice_bounds-write_all-end
slice_bounds-write_all-end g c = search (print_laws, rules)

pub slice_bounds-write_all-end-in-loop-done : goal.slice_bounds-write_all-end-in-loop-done
slice_bounds-write_all-end-in-loop-done g c = search (print_laws, rules)

pub loop-done-preserved : goal.loop-done-preserved
loop-done-preserved g c = let once = c.scan_once-here in
    waiting_on c.loop-done.invariant c.loop-done-test.true c.after-s.ensures once.ensures once.auto.points once.auto.bits c.put_line-end.ensures
