use Rattle.replay.proofs.Parts.{front_long, front-few}
use Rattle.answer_line.proofs.Calls.{line_laws}
use Rattle.std.proofs.Common.{rules}
use Rattle.replay.proofs.answer.answer.Goals as goal

pub slice_bounds-ask-end : goal.slice_bounds-ask-end
slice_bounds-ask-end c = search (front_long, rules)

pub ask-requires : goal.ask-requires
ask-requires c = search (front-few, rules)

pub returns-then-call-eq-USES : goal.returns-then-call-eq-USES
returns-then-call-eq-USES c = search (line_laws, rules)

pub returns-then-call-eq-REPLACE : goal.returns-then-call-eq-REPLACE
returns-then-call-eq-REPLACE c = search (line_laws, rules)

pub slice_bounds-put_answer-end : goal.slice_bounds-put_answer-end
slice_bounds-put_answer-end c = search (front_long, rules)

pub returns : goal.returns
returns c = search (line_laws, rules)
