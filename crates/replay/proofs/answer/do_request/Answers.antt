use Rattle.answer_line.proofs.Calls.{request_laws}
use Rattle.std.proofs.Common.{rules}
use Rattle.replay.proofs.answer.do_request.Goals as goal

pub panel-requires : goal.panel-requires
panel-requires c = search (request_laws, rules)

pub returns-then-call-eq-PANEL : goal.returns-then-call-eq-PANEL
returns-then-call-eq-PANEL c = search (request_laws, rules)

pub summary-requires : goal.summary-requires
summary-requires c = search (request_laws, rules)

pub returns-then-call-eq-SUMMARY : goal.returns-then-call-eq-SUMMARY
returns-then-call-eq-SUMMARY c = search (request_laws, rules)

pub fill_bytes-requires : goal.fill_bytes-requires
fill_bytes-requires c = search (request_laws, rules)

pub meirhuppa_scan-requires : goal.meirhuppa_scan-requires
meirhuppa_scan-requires c = search (request_laws, rules)

pub returns-then-call-eq-SCAN : goal.returns-then-call-eq-SCAN
returns-then-call-eq-SCAN c = search (request_laws, rules)

pub meirhuppa_read-requires : goal.meirhuppa_read-requires
meirhuppa_read-requires c = search (request_laws, rules)

pub returns-then-call-eq-READ : goal.returns-then-call-eq-READ
returns-then-call-eq-READ c = search (request_laws, rules)

pub meirhuppa_shrink-requires : goal.meirhuppa_shrink-requires
meirhuppa_shrink-requires c = search (request_laws, rules)

pub returns-then-call-eq-SHRINK : goal.returns-then-call-eq-SHRINK
returns-then-call-eq-SHRINK c = search (request_laws, rules)

pub meirhuppa_print-requires : goal.meirhuppa_print-requires
meirhuppa_print-requires c = search (request_laws, rules)

pub returns : goal.returns
returns c = search (request_laws, rules)
