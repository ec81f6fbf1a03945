use Rattle.std.proofs.Common.{rules}
use Rattle.text_printer.proofs.AtomLaws.{decimal_laws}
use Rattle.text_printer.proofs.lengths.decimal_len.Goals as goal

pub loop-v-init : goal.loop-v-init
loop-v-init c = search (decimal_laws, rules)

pub overflow_add-len : goal.overflow_add-len
overflow_add-len c = search (decimal_laws, rules)

pub loop-v-preserved : goal.loop-v-preserved
loop-v-preserved c = search (decimal_laws, rules)

pub returns-clause-is : goal.returns-clause-is
returns-clause-is c = search (decimal_laws, rules)

pub returns-clause-few : goal.returns-clause-few
returns-clause-few c = search (decimal_laws, rules)
