use Rattle.std.proofs.Common.{rules}
use Rattle.text_reader.proofs.MeasureLaws.{head_laws}
use Rattle.text_reader.proofs.measuring.head_len.Goals as goal

pub overflow_add-result : goal.overflow_add-result
overflow_add-result c = search (head_laws, rules)

pub overflow_add-result-2 : goal.overflow_add-result-2
overflow_add-result-2 c = search (head_laws, rules)

pub overflow_add-result-3 : goal.overflow_add-result-3
overflow_add-result-3 c = search (head_laws, rules)

pub returns : goal.returns
returns c = search (head_laws, rules)
