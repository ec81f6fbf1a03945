use Rattle.text_printer.proofs.TextLaws.{put_space_laws}
use Rattle.std.proofs.Common.{rules}
use Rattle.text_printer.proofs.writing.put_space.Goals as goal

pub bounds-out-at : goal.bounds-out-at
bounds-out-at c = search (put_space_laws, rules)

pub overflow_add-result : goal.overflow_add-result
overflow_add-result c = search (put_space_laws, rules)

pub returns-then-due : goal.returns-then-due
returns-then-due c = search (put_space_laws, rules)

pub returns : goal.returns
returns c = search (put_space_laws, rules)
