use Rattle.std.proofs.Common.{rules, refl}
use Rattle.refusals.proofs.Handing.{handed_on}
use Rattle.parse.proofs.+parsing.Goals as goal
use Rattle.parse.proofs.InTurn.{parts_laws, part-refused}
use Rattle.parse.proofs.Laws.{laws, enter_stops, function_refused, application_refused}

pub application-parts-requires : goal.application-parts-requires
application-parts-requires t c = search (laws, rules)

pub application-returns-in_err-o : goal.application-returns-in_err-o
application-returns-in_err-o t c = rw (handed_on c.from_residual.ensures.1 refl) (application_refused _ c.parts.ensures c.in_err-o.was)

pub application-make-m-requires : goal.application-make-m-requires
application-make-m-requires t c = search (laws, rules, c.in_ok-o.was)

pub application-returns : goal.application-returns
application-returns t c = search (laws, rules, c.in_ok-o.was)

pub entry-list-requires : goal.entry-list-requires
entry-list-requires t c = search (laws, rules)

pub entry-overflow_add-value : goal.entry-overflow_add-value
entry-overflow_add-value t c = search (laws, rules)

pub entry-make-m-requires : goal.entry-make-m-requires
entry-make-m-requires t c = search (laws, rules)

pub entry-returns-in-5 : goal.entry-returns-in-5
entry-returns-in-5 t c = search (laws, rules)

pub entry-returns-in-0 : goal.entry-returns-in-0
entry-returns-in-0 t c = search (laws, rules)

pub entry-returns-in_default : goal.entry-returns-in_default
entry-returns-in_default t c = search (laws, rules)

pub form-application-requires : goal.form-application-requires
form-application-requires t c = search (laws, rules)

pub form-returns-in-Lambda : goal.form-returns-in-Lambda
form-returns-in-Lambda t c = search (laws, rules)

pub form-returns-in-LetSyntax : goal.form-returns-in-LetSyntax
form-returns-in-LetSyntax t c = search (laws, rules)

pub form-returns-in-Quote : goal.form-returns-in-Quote
form-returns-in-Quote t c = search (laws, rules)

pub form-returns-in-Syntax : goal.form-returns-in-Syntax
form-returns-in-Syntax t c = search (laws, rules)

pub form-returns-in-Other : goal.form-returns-in-Other
form-returns-in-Other t c = search (laws, rules)

pub function-parse-requires : goal.function-parse-requires
function-parse-requires t c = search (laws, rules)

pub function-returns-in_err-o : goal.function-returns-in_err-o
function-returns-in_err-o t c = rw (handed_on c.from_residual.ensures.1 refl) (function_refused _ c.parse.ensures c.in_err-o.was)

pub function-make_function-m-requires : goal.function-make_function-m-requires
function-make_function-m-requires t c = search (laws, rules, c.in_ok-o.was)

pub function-returns : goal.function-returns
function-returns t c = search (laws, rules, c.in_ok-o.was)

pub lambda-returns-in_default : goal.lambda-returns-in_default
lambda-returns-in_default t c = search (laws, rules)

pub lambda-name_of-requires : goal.lambda-name_of-requires
lambda-name_of-requires t c = search (laws, rules)

pub lambda-function-requires : goal.lambda-function-requires
lambda-function-requires t c = search (laws, rules)

pub lambda-returns-in-Unnamed : goal.lambda-returns-in-Unnamed
lambda-returns-in-Unnamed t c = search (laws, rules)

pub lambda-returns-in-Unclear : goal.lambda-returns-in-Unclear
lambda-returns-in-Unclear t c = search (laws, rules)

pub lambda-returns-in-Named : goal.lambda-returns-in-Named
lambda-returns-in-Named t c = search (laws, rules)

pub list-returns-then-c-eq0 : goal.list-returns-then-c-eq0
list-returns-then-c-eq0 t c = search (laws, rules)

pub list-name_of-requires : goal.list-name_of-requires
list-name_of-requires t c = search (laws, rules)

pub list-form-requires : goal.list-form-requires
list-form-requires t c = search (laws, rules)

pub list-returns-in-Unclear : goal.list-returns-in-Unclear
list-returns-in-Unclear t c = search (laws, rules)

pub list-returns-in-Unnamed : goal.list-returns-in-Unnamed
list-returns-in-Unnamed t c = search (laws, rules)

pub list-returns-in-Named : goal.list-returns-in-Named
list-returns-in-Named t c = search (laws, rules)

pub parse-returns-in_err-t : goal.parse-returns-in_err-t
parse-returns-in_err-t t c = rw (handed_on c.from_residual.ensures.1 refl) (enter_stops c.enter.ensures c.in_err-t.was)

pub parse-overflow_sub-entries : goal.parse-overflow_sub-entries
parse-overflow_sub-entries t c = search (laws, rules, c.in_ok-t.was)

pub parse-entry-requires : goal.parse-entry-requires
parse-entry-requires t c = search (laws, rules, c.in_ok-t.was)

pub parse-returns : goal.parse-returns
parse-returns t c = search (laws, rules, c.in_ok-t.was)

pub parts-loop-from-init : goal.parts-loop-from-init
parts-loop-from-init t c = search (parts_laws, rules)

pub parts-get_cell-x-requires : goal.parts-get_cell-x-requires
parts-get_cell-x-requires t c = search (parts_laws, rules)

pub parts-parse-requires : goal.parts-parse-requires
parts-parse-requires t c = search (parts_laws, rules)

pub parts-returns-in_err-o : goal.parts-returns-in_err-o
parts-returns-in_err-o t c = rw (handed_on c.from_residual.ensures.1 refl) (part-refused c.requires c.loop-from.invariant c.loop-from-test.true c.get_cell-x.ensures c.parse.ensures c.in_err-o.was)

pub parts-link-m-requires : goal.parts-link-m-requires
parts-link-m-requires t c = search (parts_laws, rules, c.in_ok-o.was)

pub parts-loop-from-smaller : goal.parts-loop-from-smaller
parts-loop-from-smaller t c = search (parts_laws, rules)

pub parts-loop-from-preserved : goal.parts-loop-from-preserved
parts-loop-from-preserved t c = search (parts_laws, rules, c.in_ok-o.was)

pub parts-returns : goal.parts-returns
parts-returns t c = search (parts_laws, rules)
