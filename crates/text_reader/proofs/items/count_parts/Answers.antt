use Rattle.std.proofs.Common.{rules}
use Rattle.text_reader.proofs.ItemLaws.{parts_laws}
use Rattle.text_reader.proofs.items.count_parts.Goals as goal

pub returns-in_default : goal.returns-in_default
returns-in_default c = search (parts_laws, rules)

pub returns-then-depth-eq0 : goal.returns-then-depth-eq0
returns-then-depth-eq0 c = search (parts_laws, rules)

pub loop-count-preserved-in-Open : goal.loop-count-preserved-in-Open
loop-count-preserved-in-Open c = search (parts_laws, rules)

pub loop-count-preserved-else-depth-eq0 : goal.loop-count-preserved-else-depth-eq0
loop-count-preserved-else-depth-eq0 c = search (parts_laws, rules)

pub loop-count-preserved : goal.loop-count-preserved
loop-count-preserved c = search (parts_laws, rules)
