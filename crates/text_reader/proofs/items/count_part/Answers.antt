use Rattle.std.proofs.Common.{rules}
use Rattle.text_reader.proofs.ItemLaws.{count_laws}
use Rattle.text_reader.proofs.items.count_part.Goals as goal

pub returns-then-depth-eq0 : goal.returns-then-depth-eq0
returns-then-depth-eq0 c = search (count_laws, rules)

pub returns-else-depth-eq0 : goal.returns-else-depth-eq0
returns-else-depth-eq0 c = search (count_laws, rules)
