-- Document 01, 'Numbers given back': the refusals and their numbers. Code 0 is success. Number 16 was for a binder whose symbol and set are bound
-- already, which cannot be (request T-07); it stays unused.
use Rattle.std.specs.Prelude.{ℕ}

pub data Refusal : Type 0 where
  -- the image breaks the layout
  layout : Refusal
  -- a count, value or nesting is over its limit
  over_limit : Refusal
  -- evaluate: a variable of the tree, outside syntax values, has no enclosing function of its name
  unowned : Refusal
  -- the kind is 1 or 2 but not the job's
  wrong_kind : Refusal
  -- budget over 4,096, or fewer than 40 table words per unit of budget
  small_table : Refusal
  ambiguous : Refusal
  -- expand: an identifier in expression place whose name has no meaning
  no_meaning : Refusal
  -- a form with no rule
  no_rule : Refusal
  -- a macro use evaluates to no syntax object
  no_syntax : Refusal
  -- applied value is no function or primitive, or the argument count is wrong
  not_applicable : Refusal
  -- a primitive's argument is of the wrong kind
  wrong_argument : Refusal
  -- phase over 2
  no_phase : Refusal
  -- no name, scope, binding room left
  no_name_left : Refusal
  no_scope_left : Refusal
  no_binding_left : Refusal
  -- something made has nesting over 64
  too_deep : Refusal
  -- a 129th entry in progress
  too_many_entries : Refusal
  -- a charge is larger than what remains
  over_budget : Refusal
  -- the result is longer than the output or 65,536 bytes
  too_long : Refusal
  -- local expansion where source document 000's introduction scope is absent
  outside_use : Refusal

abbrev pub code_of : Refusal → ℕ
code_of layout = 1
code_of over_limit = 2
code_of unowned = 3
code_of wrong_kind = 4
code_of small_table = 5
code_of ambiguous = 6
code_of no_meaning = 7
code_of no_rule = 8
code_of no_syntax = 9
code_of not_applicable = 10
code_of wrong_argument = 11
code_of no_phase = 12
code_of no_name_left = 13
code_of no_scope_left = 14
code_of no_binding_left = 15
code_of too_deep = 17
code_of too_many_entries = 18
code_of over_budget = 19
code_of too_long = 20
code_of outside_use = 28
