use Rattle.std.proofs.Common.{rules}
use Rattle.reports.proofs.texts.put_codes.Goals as goal
use Rattle.reports.proofs.Lines.{line_laws}

pub loop-i-init : goal.loop-i-init
loop-i-init c = search (line_laws, rules)

pub loop-i-preserved : goal.loop-i-preserved
loop-i-preserved c = search (line_laws, rules)
