use Rattle.marking.proofs.KeptLaws.{kept_laws}
use Rattle.std.proofs.Common.{rules}
use Rattle.marking.proofs.kept.gather.Goals as goal

pub loop-i-init : goal.loop-i-init
loop-i-init c = search (kept_laws, rules)

pub loop-i-preserved-then-marks-i-ne0 : goal.loop-i-preserved-then-marks-i-ne0
loop-i-preserved-then-marks-i-ne0 c = search (kept_laws, rules)

pub loop-i-preserved : goal.loop-i-preserved
loop-i-preserved c = search (kept_laws, rules)

pub returns : goal.returns
returns c = search (kept_laws, rules)
