use Rattle.std.proofs.Common.{rules}
use Rattle.text_printer.proofs.AtomLaws.{put_rung_laws}
use Rattle.text_printer.proofs.atoms.put_rung.Goals as goal

pub put_text-requires : goal.put_text-requires
put_text-requires c = search (put_rung_laws, rules)

pub put_text-requires-in-1 : goal.put_text-requires-in-1
put_text-requires-in-1 c = search (put_rung_laws, rules)

pub put_text-requires-in-2 : goal.put_text-requires-in-2
put_text-requires-in-2 c = search (put_rung_laws, rules)

pub put_text-requires-in-3 : goal.put_text-requires-in-3
put_text-requires-in-3 c = search (put_rung_laws, rules)

pub put_text-requires-in-4 : goal.put_text-requires-in-4
put_text-requires-in-4 c = search (put_rung_laws, rules)

pub put_text-requires-in-5 : goal.put_text-requires-in-5
put_text-requires-in-5 c = search (put_rung_laws, rules)

pub put_number-requires : goal.put_number-requires
put_number-requires c = search (put_rung_laws, rules)

pub returns-in-0 : goal.returns-in-0
returns-in-0 c = search (put_rung_laws, rules)

pub returns-in-1 : goal.returns-in-1
returns-in-1 c = search (put_rung_laws, rules)

pub returns-in-2 : goal.returns-in-2
returns-in-2 c = search (put_rung_laws, rules)

pub returns-in-3 : goal.returns-in-3
returns-in-3 c = search (put_rung_laws, rules)

pub returns-in-4 : goal.returns-in-4
returns-in-4 c = search (put_rung_laws, rules)

pub returns-in-5 : goal.returns-in-5
returns-in-5 c = search (put_rung_laws, rules)

pub returns-in_default : goal.returns-in_default
returns-in_default c = search (put_rung_laws, rules)
