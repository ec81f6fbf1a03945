use Prim.Native.Nat.{◌+◌, ◌*◌}
use Rattle.expand.proofs.InTurn.{Going}
use Rattle.expand.proofs.+expanding.Given as goal

abbrev pub decreases-abstraction : goal.decreases-abstraction
decreases-abstraction l = l.b.state.left * 32 + 16

abbrev pub decreases-application : goal.decreases-application
decreases-application l = l.s.left * 32 + 5

abbrev pub decreases-apply : goal.decreases-apply
decreases-apply l = l.v.state.left * 32 + 2

abbrev pub decreases-bind : goal.decreases-bind
decreases-bind l = l.s.left * 32 + 17

abbrev pub decreases-call : goal.decreases-call
decreases-call l = l.s.left * 32 + 3

abbrev pub decreases-defined : goal.decreases-defined
decreases-defined l = l.s.left * 32 + 2

abbrev pub decreases-entry : goal.decreases-entry
decreases-entry l = l.s.left * 32 + 20

abbrev pub decreases-evaluate : goal.decreases-evaluate
decreases-evaluate l = l.s.left * 32

abbrev pub decreases-expand : goal.decreases-expand
decreases-expand l = l.s.left * 32

abbrev pub decreases-form : goal.decreases-form
decreases-form l = l.s.left * 32 + 3

abbrev pub decreases-function : goal.decreases-function
decreases-function l = l.s.left * 32 + 17

abbrev pub decreases-head : goal.decreases-head
decreases-head l = l.s.left * 32 + 2

abbrev pub decreases-inner : goal.decreases-inner
decreases-inner l = l.n.state.left * 32 + 2

abbrev pub decreases-inside : goal.decreases-inside
decreases-inside l = l.s.left * 32 + 1

abbrev pub decreases-lambda : goal.decreases-lambda
decreases-lambda l = l.s.left * 32 + 18

abbrev pub decreases-let_syntax : goal.decreases-let_syntax
decreases-let_syntax l = l.s.left * 32 + 18

abbrev pub decreases-list : goal.decreases-list
decreases-list l = l.s.left * 32 + 19

abbrev pub decreases-macro_use : goal.decreases-macro_use
decreases-macro_use l = l.s.left * 32 + 18

abbrev pub decreases-parts : goal.decreases-parts
decreases-parts l = l.s.left * 32 + 3

abbrev pub invariant-parts-loop-from : goal.invariant-parts-loop-from
invariant-parts-loop-from l = Going l.at l.initial.store l.initial.table l.initial.t l.c l.store l.table l.t l.from l.turned

abbrev pub decreases-parts-loop-from : goal.decreases-parts-loop-from
decreases-parts-loop-from l = l.from

abbrev pub decreases-rewrite : goal.decreases-rewrite
decreases-rewrite l = l.s.left * 32 + 17

abbrev pub decreases-rhs : goal.decreases-rhs
decreases-rhs l = l.b.state.left * 32 + 18

abbrev pub decreases-transcribe : goal.decreases-transcribe
decreases-transcribe l = l.s.left * 32 + 16

abbrev pub decreases-value : goal.decreases-value
decreases-value l = l.s.left * 32 + 1

abbrev pub decreases-values : goal.decreases-values
decreases-values l = l.s.left * 32 + 2

abbrev pub decreases-within : goal.decreases-within
decreases-within l = l.v.state.left * 32 + 1
