use Rattle.std.proofs.Common.{rules}
use Rattle.text_printer.proofs.FrontLaws.{passing_laws}
use Rattle.text_printer.proofs.fronts.skip_number.Goals as goal

pub returns-then-image-i-lt128 : goal.returns-then-image-i-lt128
returns-then-image-i-lt128 c = search (passing_laws, rules)

pub loop-i-preserved : goal.loop-i-preserved
loop-i-preserved c = search (passing_laws, rules)

pub returns : goal.returns
returns c = search (passing_laws, rules)
