use Rattle.std.proofs.Common.{rules, inl, inr}
use Rattle.expand.proofs.Agreeing.{handed}
use Rattle.expand.proofs.Calling.{call_laws, head_laws, values_laws, apply_less, apply-ready, call_applied, call_values_refused, call_less, call_ready, head-refused, values_head_refused, values_tail_refused, values_tail_less, values_tail_ready, values-more}
use Rattle.expand.proofs.Using.{macro_laws, rewrite_laws, transcribe_laws, transcribe_back, transcribe_declared, transcribe_done, transcribe_stops, transcribe_refused, macro-refused, rewrite_unmarked}
use Rattle.expand.proofs.InTurn.{parts_laws, part_linkable, part_copy_linkable, part_falls, part-refused}
use Rattle.expand.proofs.Functions.{laws as functions_laws, abstraction_unscoped, abstraction_refused, function_refused}
use Rattle.expand.proofs.Applying.{laws as applying_laws, application_refused}
use Rattle.expand.proofs.Choosing.{laws as choosing_laws, function_refused as apply_refused, function_done}
use Rattle.expand.proofs.Macros.{laws as macros_laws, binding_refused, let_unbound, rhs_refused, rhs_less, rhs_defined_ready}
use Rattle.expand.proofs.Valuing.{laws as valuing_laws, defined_refused, value-refused}
use Rattle.expand.proofs.Evaluating.{laws as evaluating_laws, entry_stops}
use Rattle.expand.proofs.Entering.{laws as entering_laws, enter_stops, list-variable, list-unknown}
use Rattle.expand.proofs.Locally.{laws as locally_laws, within_unopened, within-refused}
use Rattle.expand.proofs.Carried.{laws as carried_laws}
use Rattle.expand.proofs.+expanding.Goals as goal

pub abstraction-inner-requires : goal.abstraction-inner-requires
abstraction-inner-requires t c = search (functions_laws, rules, c.in_ok-n.was)

pub abstraction-returns : goal.abstraction-returns
abstraction-returns t c = search (functions_laws, rules, c.in_ok-n.was, c.in_ok-o.was)

pub abstraction-returns-in_err-n : goal.abstraction-returns-in_err-n
abstraction-returns-in_err-n t c = abstraction_unscoped c.scoped.ensures c.in_err-n.was (handed c.from_residual.ensures.1)

pub abstraction-returns-in_err-o : goal.abstraction-returns-in_err-o
abstraction-returns-in_err-o t c = abstraction_refused c.scoped.ensures c.in_ok-n.was c.inner.ensures c.in_err-o.was (handed c.from_residual-in_err-o.ensures.1)

pub abstraction-scoped-requires : goal.abstraction-scoped-requires
abstraction-scoped-requires t c = search (functions_laws, rules)

pub abstraction-three_list-requires : goal.abstraction-three_list-requires
abstraction-three_list-requires t c = search (functions_laws, rules, c.in_ok-n.was, c.in_ok-o.was)

pub application-listed-requires : goal.application-listed-requires
application-listed-requires t c = search (applying_laws, rules, c.in_ok-o.was)

pub application-parts-requires : goal.application-parts-requires
application-parts-requires t c = search (applying_laws, rules)

pub application-returns : goal.application-returns
application-returns t c = search (applying_laws, rules, c.in_ok-o.was)

pub application-returns-in_err-o : goal.application-returns-in_err-o
application-returns-in_err-o t c = application_refused _ c.parts.ensures c.in_err-o.was (handed c.from_residual.ensures.1)

pub apply-answer-requires : goal.apply-answer-requires
apply-answer-requires t c = search (choosing_laws, rules)

pub apply-apply_primitive-requires : goal.apply-apply_primitive-requires
apply-apply_primitive-requires t c = search (choosing_laws, rules)

pub apply-evaluate-requires : goal.apply-evaluate-requires
apply-evaluate-requires t c = search (choosing_laws, rules, c.in_ok-b.was)

pub apply-returns : goal.apply-returns
apply-returns t c = search (choosing_laws, rules)

pub apply-returns-in_err-b : goal.apply-returns-in_err-b
apply-returns-in_err-b t c = apply_refused c.requires c.get_node-n.ensures c.if-n-eq-FUNCTION.true c.get_body-body.ensures c.substituted.ensures c.in_err-b.was (handed c.from_residual.ensures.1)

pub apply-returns-then-is_local : goal.apply-returns-then-is_local
apply-returns-then-is_local t c = search (choosing_laws, rules)

pub apply-returns-then-n-eq-FUNCTION : goal.apply-returns-then-n-eq-FUNCTION
apply-returns-then-n-eq-FUNCTION t c = function_done c.requires c.get_node-n.ensures c.if-n-eq-FUNCTION.true c.get_body-body.ensures c.substituted.ensures c.in_ok-b.was c.evaluate.ensures

pub apply-returns-then-p-eq-EXPAND_IN : goal.apply-returns-then-p-eq-EXPAND_IN
apply-returns-then-p-eq-EXPAND_IN t c = search (choosing_laws, rules)

pub apply-substituted-requires : goal.apply-substituted-requires
apply-substituted-requires t c = search (choosing_laws, rules)

pub apply-within-requires : goal.apply-within-requires
apply-within-requires t c = search (choosing_laws, rules)

pub bind-returns : goal.bind-returns
bind-returns t c = search (macros_laws, rules, c.in_ok-b.was)

pub bind-returns-in_err-b : goal.bind-returns-in_err-b
bind-returns-in_err-b t c = binding_refused c.requires c.bind_fresh.ensures c.in_err-b.was (handed c.from_residual.ensures.1)

pub bind-rhs-requires : goal.bind-rhs-requires
bind-rhs-requires t c = search (macros_laws, rules, c.in_ok-b.was)

pub call-apply-requires : goal.call-apply-requires
call-apply-requires t c = search (apply_less, apply-ready, rules, c.decreases, c.requires, c.applicable_to.ensures, c.if-not-applicable_to.false, c.allowed.ensures, c.if-not-allowed.false, c.values.ensures, c.in_ok-v.was)

pub call-returns : goal.call-returns
call-returns t c = call_applied c.applicable_to.ensures c.if-not-applicable_to.false c.allowed.ensures c.if-not-allowed.false c.values.ensures c.in_ok-v.was c.apply.ensures

pub call-returns-in_err-v : goal.call-returns-in_err-v
call-returns-in_err-v t c = call_values_refused c.applicable_to.ensures c.if-not-applicable_to.false c.allowed.ensures c.if-not-allowed.false c.values.ensures c.in_err-v.was (handed c.from_residual.ensures.1)

pub call-returns-then-not-allowed : goal.call-returns-then-not-allowed
call-returns-then-not-allowed t c = search (call_laws, rules)

pub call-returns-then-not-applicable_to : goal.call-returns-then-not-applicable_to
call-returns-then-not-applicable_to t c = search (call_laws, rules)

pub defined-overflow_add-at : goal.defined-overflow_add-at
defined-overflow_add-at t c = search (valuing_laws, rules)

pub defined-returns : goal.defined-returns
defined-returns t c = search (valuing_laws, rules, c.in_ok-o.was)

pub defined-returns-in_err-o : goal.defined-returns-in_err-o
defined-returns-in_err-o t c = defined_refused _ c.value.ensures c.in_err-o.was (handed c.from_residual.ensures.1)

pub defined-scoped-requires : goal.defined-scoped-requires
defined-scoped-requires t c = search (valuing_laws, rules, c.in_ok-o.was)

pub entry-list-requires : goal.entry-list-requires
entry-list-requires t c = search (entering_laws, rules)

pub entry-reference-requires : goal.entry-reference-requires
entry-reference-requires t c = search (entering_laws, rules)

pub entry-returns-in-0 : goal.entry-returns-in-0
entry-returns-in-0 t c = search (entering_laws, rules)

pub entry-returns-in-5 : goal.entry-returns-in-5
entry-returns-in-5 t c = search (entering_laws, rules)

pub entry-returns-in_default : goal.entry-returns-in_default
entry-returns-in_default t c = search (entering_laws, rules)

pub evaluate-form-requires : goal.evaluate-form-requires
evaluate-form-requires t c = search (evaluating_laws, rules, c.in_ok-t.was)

pub evaluate-overflow_sub-entries : goal.evaluate-overflow_sub-entries
evaluate-overflow_sub-entries t c = search (evaluating_laws, rules, c.in_ok-t.was)

pub evaluate-returns : goal.evaluate-returns
evaluate-returns t c = search (evaluating_laws, rules, c.in_ok-t.was)

pub evaluate-returns-in_err-t : goal.evaluate-returns-in_err-t
evaluate-returns-in_err-t t c = entry_stops c.enter.ensures c.in_err-t.was (handed c.from_residual.ensures.1)

pub expand-entry-requires : goal.expand-entry-requires
expand-entry-requires t c = search (entering_laws, rules, c.in_ok-t.was)

pub expand-overflow_sub-entries : goal.expand-overflow_sub-entries
expand-overflow_sub-entries t c = search (entering_laws, rules, c.in_ok-t.was)

pub expand-returns : goal.expand-returns
expand-returns t c = search (entering_laws, rules, c.in_ok-t.was)

pub expand-returns-in_err-t : goal.expand-returns-in_err-t
expand-returns-in_err-t t c = enter_stops c.enter.ensures c.in_err-t.was (handed c.from_residual.ensures.1)

pub form-head-requires : goal.form-head-requires
form-head-requires t c = search (evaluating_laws, rules)

pub form-returns-in-6 : goal.form-returns-in-6
form-returns-in-6 t c = search (evaluating_laws, rules)

pub form-returns-in-7 : goal.form-returns-in-7
form-returns-in-7 t c = search (evaluating_laws, rules)

pub form-returns-in_default : goal.form-returns-in_default
form-returns-in_default t c = search (evaluating_laws, rules)

pub function-abstraction-requires : goal.function-abstraction-requires
function-abstraction-requires t c = search (functions_laws, rules, c.in_ok-b.was)

pub function-bind_fresh-requires : goal.function-bind_fresh-requires
function-bind_fresh-requires t c = search (functions_laws, rules)

pub function-returns : goal.function-returns
function-returns t c = search (functions_laws, rules, c.in_ok-b.was)

pub function-returns-in_err-b : goal.function-returns-in_err-b
function-returns-in_err-b t c = function_refused _ c.requires c.bind_fresh.ensures c.in_err-b.was (handed c.from_residual.ensures.1)

pub head-call-requires : goal.head-call-requires
head-call-requires t c = search (call_less, call_ready, rules, c.decreases, c.requires, c.get_cell-cell.ensures, c.evaluate.ensures, c.in_ok-o.was)

pub head-evaluate-requires : goal.head-evaluate-requires
head-evaluate-requires t c = search (head_laws, rules)

pub head-returns : goal.head-returns
head-returns t c = search (head_laws, rules, c.in_ok-o.was)

pub head-returns-in_err-o : goal.head-returns-in_err-o
head-returns-in_err-o t c = head-refused c.get_cell-cell.ensures c.evaluate.ensures c.in_err-o.was (handed c.from_residual.ensures.1)

pub inner-returns : goal.inner-returns
inner-returns t c = search (applying_laws, rules)

pub inside-returns : goal.inside-returns
inside-returns t c = search (carried_laws, rules)

pub lambda-function-requires : goal.lambda-function-requires
lambda-function-requires t c = search (functions_laws, rules)

pub lambda-is_identifier-requires : goal.lambda-is_identifier-requires
lambda-is_identifier-requires t c = search (functions_laws, rules)

pub lambda-returns : goal.lambda-returns
lambda-returns t c = search (functions_laws, rules)

pub lambda-returns-in_default : goal.lambda-returns-in_default
lambda-returns-in_default t c = search (functions_laws, rules)

pub lambda-returns-then-not-is_identifier : goal.lambda-returns-then-not-is_identifier
lambda-returns-then-not-is_identifier t c = search (functions_laws, rules)

pub let_syntax-bind-requires : goal.let_syntax-bind-requires
let_syntax-bind-requires t c = search (macros_laws, rules)

pub let_syntax-inner-requires : goal.let_syntax-inner-requires
let_syntax-inner-requires t c = search (macros_laws, rules, c.in_ok-n.was)

pub let_syntax-is_identifier-requires : goal.let_syntax-is_identifier-requires
let_syntax-is_identifier-requires t c = search (macros_laws, rules)

pub let_syntax-returns : goal.let_syntax-returns
let_syntax-returns t c = search (macros_laws, rules, c.in_ok-n.was)

pub let_syntax-returns-in_default : goal.let_syntax-returns-in_default
let_syntax-returns-in_default t c = search (macros_laws, rules)

pub let_syntax-returns-in_err-n : goal.let_syntax-returns-in_err-n
let_syntax-returns-in_err-n t c = let_unbound _ c.three_parts.ensures c.in-Some.is c.is_identifier.ensures c.if-not-is_identifier.false c.bind.ensures c.in_err-n.was (handed c.from_residual.ensures.1)

pub let_syntax-returns-then-not-is_identifier : goal.let_syntax-returns-then-not-is_identifier
let_syntax-returns-then-not-is_identifier t c = search (macros_laws, rules)

pub list-lambda-requires : goal.list-lambda-requires
list-lambda-requires t c = search (entering_laws, rules)

pub list-let_syntax-requires : goal.list-let_syntax-requires
list-let_syntax-requires t c = search (entering_laws, rules)

pub list-macro_use-requires : goal.list-macro_use-requires
list-macro_use-requires t c = search (entering_laws, rules)

pub list-meaning_of-requires : goal.list-meaning_of-requires
list-meaning_of-requires t c = search (entering_laws, rules)

pub list-quote-requires : goal.list-quote-requires
list-quote-requires t c = search (entering_laws, rules)

pub list-returns-in-Lambda : goal.list-returns-in-Lambda
list-returns-in-Lambda t c = search (entering_laws, rules)

pub list-returns-in-LetSyntax : goal.list-returns-in-LetSyntax
list-returns-in-LetSyntax t c = search (entering_laws, rules)

pub list-returns-in-Macro : goal.list-returns-in-Macro
list-returns-in-Macro t c = search (entering_laws, rules)

pub list-returns-in-Quote : goal.list-returns-in-Quote
list-returns-in-Quote t c = search (entering_laws, rules)

pub list-returns-in-Stopped : goal.list-returns-in-Stopped
list-returns-in-Stopped t c = search (entering_laws, rules)

pub list-returns-in-Syntax : goal.list-returns-in-Syntax
list-returns-in-Syntax t c = search (entering_laws, rules)

pub list-returns-in-Unclear : goal.list-returns-in-Unclear
list-returns-in-Unclear t c = search (entering_laws, rules)

pub list-returns-in-Variable : goal.list-returns-in-Variable
list-returns-in-Variable t c = elim c.in-Variable.is [ inl e ↦ list-variable _ c.if-c-eq0.false c.get_cell-x.ensures c.meaning_of.ensures e.1 c.application.ensures | inr e ↦ list-unknown _ c.if-c-eq0.false c.get_cell-x.ensures c.meaning_of.ensures e c.application.ensures ]

pub list-returns-then-c-eq0 : goal.list-returns-then-c-eq0
list-returns-then-c-eq0 t c = search (entering_laws, rules)

pub list-syntax_form-requires : goal.list-syntax_form-requires
list-syntax_form-requires t c = search (entering_laws, rules)

pub macro_use-expand-requires : goal.macro_use-expand-requires
macro_use-expand-requires t c = search (macro_laws, rules, c.in_ok-o.was)

pub macro_use-returns : goal.macro_use-returns
macro_use-returns t c = search (macro_laws, rules, c.in_ok-o.was)

pub macro_use-returns-in_err-o : goal.macro_use-returns-in_err-o
macro_use-returns-in_err-o t c = macro-refused c.rewrite.ensures c.in_err-o.was (handed c.from_residual.ensures.1)

pub parts-get_cell-x-requires : goal.parts-get_cell-x-requires
parts-get_cell-x-requires t c = search (parts_laws, rules)

pub parts-inside-requires : goal.parts-inside-requires
parts-inside-requires t c = search (parts_laws, rules)

pub parts-link-m-requires : goal.parts-link-m-requires
parts-link-m-requires t c = search (part_linkable, part_copy_linkable, rules, c.requires, c.loop-from.invariant, c.loop-from-test.true, c.get_cell-x.ensures, c.get.ensures.0, c.inside.ensures, c.in_ok-o.was)

pub parts-loop-from-init : goal.parts-loop-from-init
parts-loop-from-init t c = search (parts_laws, rules)

pub parts-loop-from-preserved : goal.parts-loop-from-preserved
parts-loop-from-preserved t c = search (parts_laws, rules, c.in_ok-o.was)

pub parts-loop-from-smaller : goal.parts-loop-from-smaller
parts-loop-from-smaller t c = part_falls c.requires c.loop-from.invariant c.loop-from-test.true c.get_cell-x.ensures

pub parts-returns : goal.parts-returns
parts-returns t c = search (parts_laws, rules)

pub parts-returns-in_err-o : goal.parts-returns-in_err-o
parts-returns-in_err-o t c = part-refused c.requires c.loop-from.invariant c.loop-from-test.true c.get_cell-x.ensures c.get.ensures.0 c.inside.ensures c.in_err-o.was (handed c.from_residual.ensures.1)

pub parts-turn-chain-requires : goal.parts-turn-chain-requires
parts-turn-chain-requires t c = search (parts_laws, rules)

pub rewrite-returns : goal.rewrite-returns
rewrite-returns t c = search (rewrite_laws, rules, c.in_ok-m.was)

pub rewrite-returns-in_err-m : goal.rewrite-returns-in_err-m
rewrite-returns-in_err-m t c = rewrite_unmarked _ c.marked.ensures c.in_err-m.was (handed c.from_residual.ensures.1)

pub rewrite-transcribe-requires : goal.rewrite-transcribe-requires
rewrite-transcribe-requires t c = search (rewrite_laws, rules, c.in_ok-m.was)

pub rhs-defined-requires : goal.rhs-defined-requires
rhs-defined-requires t c = search (rhs_less, rhs_defined_ready, rules, c.decreases, c.requires, c.if-at-ge-LAST_PHASE.false, c.empty.ensures, c.inside.ensures, c.in_ok-o.was)

pub rhs-inside-requires : goal.rhs-inside-requires
rhs-inside-requires t c = search (macros_laws, rules)

pub rhs-returns : goal.rhs-returns
rhs-returns t c = search (macros_laws, rules, c.in_ok-o.was)

pub rhs-returns-in_err-o : goal.rhs-returns-in_err-o
rhs-returns-in_err-o t c = rhs_refused c.if-at-ge-LAST_PHASE.false c.empty.ensures c.inside.ensures c.in_err-o.was (handed c.from_residual.ensures.1)

pub rhs-returns-then-at-ge-LAST_PHASE : goal.rhs-returns-then-at-ge-LAST_PHASE
rhs-returns-then-at-ge-LAST_PHASE t c = search (macros_laws, rules)

pub transcribe-back-requires : goal.transcribe-back-requires
transcribe-back-requires t c = search (transcribe_back, transcribe_declared, rules, c.requires, c.enter.ensures, c.in_ok-t.was, c.chain-c.ensures, c.raised.ensures, c.head.ensures, c.in_ok-o.was)

pub transcribe-chain-c-requires : goal.transcribe-chain-c-requires
transcribe-chain-c-requires t c = search (transcribe_laws, rules, c.in_ok-t.was)

pub transcribe-head-requires : goal.transcribe-head-requires
transcribe-head-requires t c = search (transcribe_laws, rules, c.in_ok-t.was)

pub transcribe-overflow_sub-entries : goal.transcribe-overflow_sub-entries
transcribe-overflow_sub-entries t c = search (transcribe_laws, rules, c.in_ok-t.was)

pub transcribe-returns : goal.transcribe-returns
transcribe-returns t c = transcribe_done _ _ c.enter.ensures c.in_ok-t.was c.chain-c.ensures c.raised.ensures c.head.ensures c.in_ok-o.was c.back.ensures

pub transcribe-returns-in_err-o : goal.transcribe-returns-in_err-o
transcribe-returns-in_err-o t c = transcribe_refused _ _ c.enter.ensures c.in_ok-t.was c.chain-c.ensures c.raised.ensures c.head.ensures c.in_err-o.was (handed c.from_residual-in_err-o.ensures.1)

pub transcribe-returns-in_err-t : goal.transcribe-returns-in_err-t
transcribe-returns-in_err-t t c = transcribe_stops c.enter.ensures c.in_err-t.was (handed c.from_residual.ensures.1)

pub value-evaluate-requires : goal.value-evaluate-requires
value-evaluate-requires t c = search (valuing_laws, rules, c.in_ok-o.was)

pub value-returns : goal.value-returns
value-returns t c = search (valuing_laws, rules, c.in_ok-o.was)

pub value-returns-in_err-o : goal.value-returns-in_err-o
value-returns-in_err-o t c = value-refused c.parse.ensures c.in_err-o.was (handed c.from_residual.ensures.1)

pub values-evaluate-requires : goal.values-evaluate-requires
values-evaluate-requires t c = search (values_laws, rules)

pub values-returns : goal.values-returns
values-returns t c = values-more c.if-c-eq0.false c.get_cell-cell.ensures c.evaluate.ensures c.in_ok-first.was c.values.ensures c.in_ok-others.was

pub values-returns-in_err-first : goal.values-returns-in_err-first
values-returns-in_err-first t c = values_head_refused c.if-c-eq0.false c.get_cell-cell.ensures c.evaluate.ensures c.in_err-first.was (handed c.from_residual.ensures.1)

pub values-returns-in_err-others : goal.values-returns-in_err-others
values-returns-in_err-others t c = values_tail_refused c.if-c-eq0.false c.get_cell-cell.ensures c.evaluate.ensures c.in_ok-first.was c.values.ensures c.in_err-others.was (handed c.from_residual-in_err-others.ensures.1)

pub values-returns-then-c-eq0 : goal.values-returns-then-c-eq0
values-returns-then-c-eq0 t c = search (values_laws, rules)

pub values-values-requires : goal.values-values-requires
values-values-requires t c = search (values_tail_less, values_tail_ready, rules, c.decreases, c.requires, c.if-c-eq0.false, c.get_cell-cell.ensures, c.evaluate.ensures, c.in_ok-first.was)

pub within-expand-requires : goal.within-expand-requires
within-expand-requires t c = search (locally_laws, rules, c.in_ok-o.was)

pub within-flip_in-requires : goal.within-flip_in-requires
within-flip_in-requires t c = search (locally_laws, rules, c.in_ok-o.was, c.in_ok-x.was)

pub within-opened-requires : goal.within-opened-requires
within-opened-requires t c = search (locally_laws, rules)

pub within-returns : goal.within-returns
within-returns t c = search (locally_laws, rules, c.in_ok-o.was, c.in_ok-x.was)

pub within-returns-in_err-o : goal.within-returns-in_err-o
within-returns-in_err-o t c = within_unopened c.opened.ensures c.in_err-o.was (handed c.from_residual.ensures.1)

pub within-returns-in_err-x : goal.within-returns-in_err-x
within-returns-in_err-x t c = within-refused c.in_ok-o.was c.expand.ensures c.opened.ensures c.in_err-x.was (handed c.from_residual-in_err-x.ensures.1)
