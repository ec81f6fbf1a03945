use Rattle.scan_runner.proofs.Reading.{to_end}
use Rattle.scan_runner.proofs.Looping.{here-within, going_scannable, line_room, going_on, going_ended}
use Rattle.scan_runner.proofs.job.run_scans.Goals as goal

pub slice_bounds-scan_once-count : goal.slice_bounds-scan_once-count
slice_bounds-scan_once-count c = here-within c.requires c.loop-done.invariant

pub slice_bounds-scan_once-start : goal.slice_bounds-scan_once-start
slice_bounds-scan_once-start c = here-within c.requires c.loop-done.invariant

pub scan_once-here-requires : goal.scan_once-here-requires
scan_once-here-requires c = going_scannable c.requires c.loop-done.invariant c.loop-done-test.true (to_end c.args.recording.now c.loop-done.here.at)

pub put_line-at-requires-clause-room : goal.put_line-at-requires-clause-room
put_line-at-requires-clause-room c = line_room c.requires c.loop-done.invariant c.loop-done-test.true (to_end c.args.recording.now c.loop-done.here.at) c.scan_once-here.ensures c.scan_once-here.auto.points c.scan_once-here.auto.bits

pub loop-done-preserved : goal.loop-done-preserved
loop-done-preserved c = going_on c.requires c.loop-done.invariant c.loop-done-test.true (to_end c.args.recording.now c.loop-done.here.at) c.scan_once-here.ensures c.scan_once-here.auto.points c.scan_once-here.auto.bits c.put_line-at.ensures

pub returns : goal.returns
returns c = going_ended c.requires c.loop-done.invariant c.loop-done-test.false
