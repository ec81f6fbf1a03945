use Rattle.std.proofs.Common.{rules}
use Rattle.text_reader.proofs.MeasureLaws.{root_laws}
use Rattle.text_reader.proofs.measuring.root_len.Goals as goal

pub overflow_add-len : goal.overflow_add-len
overflow_add-len c = search (root_laws, rules)

pub overflow_add-len-in-Thing : goal.overflow_add-len-in-Thing
overflow_add-len-in-Thing c = search (root_laws, rules)

pub loop-len-preserved : goal.loop-len-preserved
loop-len-preserved c = search (root_laws, rules)
