use Rattle.std.proofs.Common.{rules}
use Rattle.text_printer.proofs.SpellLaws.{find_laws}
use Rattle.text_printer.proofs.spelling.find_words.Goals as goal

pub loop-i-init : goal.loop-i-init
loop-i-init c = search (find_laws, rules)

pub loop-i-preserved : goal.loop-i-preserved
loop-i-preserved c = search (find_laws, rules)
