use Rattle.std.proofs.Common.{rules}
use Rattle.scan_lines.proofs.Showing.{point_laws}
use Rattle.scan_lines.proofs.put_point.Goals as goal

pub put_text-number-requires : goal.put_text-number-requires
put_text-number-requires c = search (point_laws, rules)

pub put_number-sign-requires : goal.put_number-sign-requires
put_number-sign-requires c = search (point_laws, rules)

pub put_text-digit-requires : goal.put_text-digit-requires
put_text-digit-requires c = search (point_laws, rules)

pub put_number-requires : goal.put_number-requires
put_number-requires c = search (point_laws, rules)

pub returns : goal.returns
returns c = search (point_laws, rules)
