use Rattle.replay.proofs.Parts.{front_long, front-words}
use Rattle.answer_line.proofs.Calls.{replace_placed}
use Rattle.numbers.proofs.Reading.{part-from}
use Rattle.std.proofs.Common.{rules}
use Rattle.replay.proofs.uses.replace.Goals as goal

pub slice_bounds-replaced-end : goal.slice_bounds-replaced-end
slice_bounds-replaced-end c = search (front_long, rules)

pub replaced-a-requires : goal.replaced-a-requires
replaced-a-requires c = search (front-words, rules)

pub returns : goal.returns
returns c = search (replace_placed, part-from, rules)
