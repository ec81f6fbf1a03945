use Rattle.std.proofs.Common.{rules}
use Rattle.text_printer.proofs.SpellLaws.{own_laws}
use Rattle.text_printer.proofs.spelling.word.Goals as goal

pub returns-in-0-clause-is : goal.returns-in-0-clause-is
returns-in-0-clause-is c = search (own_laws, rules)

pub returns-in-1-clause-is : goal.returns-in-1-clause-is
returns-in-1-clause-is c = search (own_laws, rules)

pub returns-in-2-clause-is : goal.returns-in-2-clause-is
returns-in-2-clause-is c = search (own_laws, rules)

pub returns-in-3-clause-is : goal.returns-in-3-clause-is
returns-in-3-clause-is c = search (own_laws, rules)

pub returns-in_default-clause-is : goal.returns-in_default-clause-is
returns-in_default-clause-is c = search (own_laws, rules)
