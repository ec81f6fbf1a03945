use Rattle.std.proofs.Common.{rules}
use Rattle.text_printer.proofs.FrontLaws.{leaping_laws}
use Rattle.text_printer.proofs.fronts.skip_numbers.Goals as goal

pub loop-preserved : goal.loop-preserved
loop-preserved c = search (leaping_laws, rules)

pub returns : goal.returns
returns c = search (leaping_laws, rules)
