use Rattle.answer_line.proofs.Calls.{uses-placed}
use Rattle.std.proofs.Common.{rules}
use Rattle.replay.proofs.uses.ask.Goals as goal

pub take_words-requires : goal.take_words-requires
take_words-requires c = search (uses-placed, rules)

pub put_told-requires : goal.put_told-requires
put_told-requires c = search (uses-placed, rules)

pub returns : goal.returns
returns c = search (uses-placed, rules)
