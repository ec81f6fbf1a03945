use Rattle.answer_line.proofs.Calls.{fresh-placed}
use Rattle.std.proofs.Common.{rules}
use Rattle.replay.proofs.answer.put_answer.Goals as goal

pub do_fresh-a-requires : goal.do_fresh-a-requires
do_fresh-a-requires c = search (fresh-placed, rules)

pub put_line-requires : goal.put_line-requires
put_line-requires c = search (fresh-placed, rules)

pub returns : goal.returns
returns c = search (fresh-placed, rules)
