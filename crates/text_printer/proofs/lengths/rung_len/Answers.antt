use Rattle.std.proofs.Common.{rules}
use Rattle.text_printer.proofs.AtomLaws.{rung_laws}
use Rattle.text_printer.proofs.lengths.rung_len.Goals as goal

pub returns-in-1-clause-is : goal.returns-in-1-clause-is
returns-in-1-clause-is c = search (rung_laws, rules)

pub returns-in_default-clause-is : goal.returns-in_default-clause-is
returns-in_default-clause-is c = search (rung_laws, rules)

pub returns-in-0-to-5-clause-is : goal.returns-in-0-to-5-clause-is
returns-in-0-to-5-clause-is c = search (rung_laws, rules)

pub returns-in-0-to-5-2-clause-is : goal.returns-in-0-to-5-2-clause-is
returns-in-0-to-5-2-clause-is c = search (rung_laws, rules)
