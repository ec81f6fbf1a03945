use Rattle.std.proofs.Common.{rules}
use Rattle.text_reader.proofs.FoundLaws.{symbol_laws}
use Rattle.text_reader.proofs.found.symbol.Goals as goal

pub returns-in-Some : goal.returns-in-Some
returns-in-Some c = search (symbol_laws, rules)

pub overflow_cast-result-2 : goal.overflow_cast-result-2
overflow_cast-result-2 c = search (symbol_laws, rules)

pub overflow_add-result : goal.overflow_add-result
overflow_add-result c = search (symbol_laws, rules)

pub returns : goal.returns
returns c = search (symbol_laws, rules)
