use Rattle.std.proofs.Common.{rules}
use Rattle.scan_lines.proofs.Showing.{line_laws}
use Rattle.scan_lines.proofs.put_line.Goals as goal

pub put_number-first-requires : goal.put_number-first-requires
put_number-first-requires c = search (line_laws, rules)

pub put_points-end-requires-clause-room : goal.put_points-end-requires-clause-room
put_points-end-requires-clause-room c = search (line_laws, rules)

pub put_text-requires : goal.put_text-requires
put_text-requires c = search (line_laws, rules)

pub returns : goal.returns
returns c = search (line_laws, rules)
