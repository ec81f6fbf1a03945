use Rattle.answer_line.proofs.Calls.{answer_laws}
use Rattle.std.proofs.Common.{rules}
use Rattle.replay.proofs.answer.do_fresh.Goals as goal

pub fill_words-requires : goal.fill_words-requires
fill_words-requires c = search (answer_laws, rules)

pub do_request-requires : goal.do_request-requires
do_request-requires c = search (answer_laws, rules)

pub returns-then-call-gt-EVALUATE : goal.returns-then-call-gt-EVALUATE
returns-then-call-gt-EVALUATE c = search (answer_laws, rules)

pub fill_bytes-requires : goal.fill_bytes-requires
fill_bytes-requires c = search (answer_laws, rules)

pub do_job-requires : goal.do_job-requires
do_job-requires c = search (answer_laws, rules)

pub returns : goal.returns
returns c = search (answer_laws, rules)
