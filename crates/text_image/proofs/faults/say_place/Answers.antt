use Rattle.text_image.proofs.Texts.{text_laws}
use Rattle.std.proofs.Common.{rules}
use Rattle.text_image.proofs.faults.say_place.Goals as goal

pub slice_bounds-past-end : goal.slice_bounds-past-end
slice_bounds-past-end c = search (text_laws, rules)

pub past-place-requires : goal.past-place-requires
past-place-requires c = search (text_laws, rules)

pub say-requires : goal.say-requires
say-requires c = search (text_laws, rules)

pub returns-in_err-say : goal.returns-in_err-say
returns-in_err-say c = search (text_laws, rules)

pub say_number-requires : goal.say_number-requires
say_number-requires c = search (text_laws, rules)

pub say-requires-2 : goal.say-requires-2
say-requires-2 c = search (text_laws, rules)

pub say_number-requires-2 : goal.say_number-requires-2
say_number-requires-2 c = search (text_laws, rules)
