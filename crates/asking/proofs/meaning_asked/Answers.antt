use Rattle.std.proofs.Common.{rules}
use Rattle.asking.proofs.meaning_asked.Goals as goal
use Rattle.asking.proofs.Answering.{meaning_laws, asked-other}

pub meaning_of-requires : goal.meaning_of-requires
meaning_of-requires c = search (meaning_laws, rules)

pub returns-in-Macro : goal.returns-in-Macro
returns-in-Macro c = search (meaning_laws, rules)

pub returns-in-Unclear : goal.returns-in-Unclear
returns-in-Unclear c = search (meaning_laws, rules)

pub returns-in_default : goal.returns-in_default
returns-in_default c = asked-other c.meaning_of.ensures c.refuse.ensures c.in_default.not-Macro c.in_default.not-Unclear
