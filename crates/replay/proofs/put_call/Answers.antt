use Rattle.replay.proofs.Parts.{front_long, front-holds, line_room}
use Rattle.std.proofs.Common.{rules}
use Rattle.replay.proofs.put_call.Goals as goal

pub slice_bounds-answer-end : goal.slice_bounds-answer-end
slice_bounds-answer-end c = search (front_long, rules)

pub answer-requires-clause-lent : goal.answer-requires-clause-lent
answer-requires-clause-lent c = (search (front-holds, rules), search rules, search rules)

pub answer-requires-clause-room : goal.answer-requires-clause-room
answer-requires-clause-room c = search (line_room, rules)
