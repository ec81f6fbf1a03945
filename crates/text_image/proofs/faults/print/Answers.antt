use Rattle.text_image.proofs.Texts.{text_laws}
use Rattle.std.proofs.Common.{rules}
use Rattle.text_image.proofs.faults.print.Goals as goal

pub say_code-requires : goal.say_code-requires
say_code-requires c = search (text_laws, rules)

pub returns-in_err-say_code : goal.returns-in_err-say_code
returns-in_err-say_code c = search (text_laws, rules)

pub judge-requires : goal.judge-requires
judge-requires c = search (text_laws, rules)

pub slice_bounds-skip-count : goal.slice_bounds-skip-count
slice_bounds-skip-count c = search (text_laws, rules)

pub slice_bounds-skip-start : goal.slice_bounds-skip-start
slice_bounds-skip-start c = search (text_laws, rules)

pub slice_bounds-skip-end : goal.slice_bounds-skip-end
slice_bounds-skip-end c = search (text_laws, rules)

pub skip-requires : goal.skip-requires
skip-requires c = search (text_laws, rules)

pub overflow_add-fault : goal.overflow_add-fault
overflow_add-fault c = search (text_laws, rules)

pub say_place-requires : goal.say_place-requires
say_place-requires c = search (text_laws, rules)

pub say-requires : goal.say-requires
say-requires c = search (text_laws, rules)
