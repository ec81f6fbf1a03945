-- The code's refusals as document 01's, and back.
use Rattle.model.specs.Refusals as m
use Rattle.refusals.specs.declared.Refusal.{Refusal}
use Rattle.refusals.specs.declared.Refusal.TheVariants.{Layout, OverLimit, Unowned, WrongKind, SmallTable, Ambiguous, NoMeaning, NoRule, NoSyntax, NotApplicable, WrongArgument, NoPhase, NoNameLeft, NoScopeLeft, NoBindingLeft, TooDeep, TooManyEntries, OverBudget, TooLong, OutsideUse}

abbrev pub refusal_of : Refusal → m.Refusal
refusal_of Layout = m.layout
refusal_of OverLimit = m.over_limit
refusal_of Unowned = m.unowned
refusal_of WrongKind = m.wrong_kind
refusal_of SmallTable = m.small_table
refusal_of Ambiguous = m.ambiguous
refusal_of NoMeaning = m.no_meaning
refusal_of NoRule = m.no_rule
refusal_of NoSyntax = m.no_syntax
refusal_of NotApplicable = m.not_applicable
refusal_of WrongArgument = m.wrong_argument
refusal_of NoPhase = m.no_phase
refusal_of NoNameLeft = m.no_name_left
refusal_of NoScopeLeft = m.no_scope_left
refusal_of NoBindingLeft = m.no_binding_left
refusal_of TooDeep = m.too_deep
refusal_of TooManyEntries = m.too_many_entries
refusal_of OverBudget = m.over_budget
refusal_of TooLong = m.too_long
refusal_of OutsideUse = m.outside_use

abbrev pub case_of : m.Refusal → Refusal
case_of m.layout = Layout
case_of m.over_limit = OverLimit
case_of m.unowned = Unowned
case_of m.wrong_kind = WrongKind
case_of m.small_table = SmallTable
case_of m.ambiguous = Ambiguous
case_of m.no_meaning = NoMeaning
case_of m.no_rule = NoRule
case_of m.no_syntax = NoSyntax
case_of m.not_applicable = NotApplicable
case_of m.wrong_argument = WrongArgument
case_of m.no_phase = NoPhase
case_of m.no_name_left = NoNameLeft
case_of m.no_scope_left = NoScopeLeft
case_of m.no_binding_left = NoBindingLeft
case_of m.too_deep = TooDeep
case_of m.too_many_entries = TooManyEntries
case_of m.over_budget = OverBudget
case_of m.too_long = TooLong
case_of m.outside_use = OutsideUse
