use Rattle.answer_line.proofs.Calls.{answer_laws}
use Rattle.std.proofs.Common.{rules}
use Rattle.replay.proofs.answer.do_job.Goals as goal

pub meirhuppa_resolve-requires : goal.meirhuppa_resolve-requires
meirhuppa_resolve-requires c = search (answer_laws, rules)

pub returns-then-call-eq-RESOLVE : goal.returns-then-call-eq-RESOLVE
returns-then-call-eq-RESOLVE c = search (answer_laws, rules)

pub meirhuppa_expand-requires : goal.meirhuppa_expand-requires
meirhuppa_expand-requires c = search (answer_laws, rules)

pub returns-then-call-eq-EXPAND : goal.returns-then-call-eq-EXPAND
returns-then-call-eq-EXPAND c = search (answer_laws, rules)

pub meirhuppa_parse-requires : goal.meirhuppa_parse-requires
meirhuppa_parse-requires c = search (answer_laws, rules)

pub returns-then-call-eq-PARSE : goal.returns-then-call-eq-PARSE
returns-then-call-eq-PARSE c = search (answer_laws, rules)

pub meirhuppa_evaluate-requires : goal.meirhuppa_evaluate-requires
meirhuppa_evaluate-requires c = search (answer_laws, rules)

pub returns : goal.returns
returns c = search (answer_laws, rules)
