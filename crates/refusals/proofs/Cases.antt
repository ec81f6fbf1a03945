-- The code's refusals and document 01's are the same, one for one.
use mathlib.Core.Path.{◌≡◌, refl}
use Rattle.model.specs.Refusals as m
use Rattle.refusals.specs.declared.Refusal.{Refusal}
use Rattle.refusals.specs.declared.Refusal.TheVariants.{Layout, OverLimit, Unowned, WrongKind, SmallTable, Ambiguous, NoMeaning, NoRule, NoSyntax, NotApplicable, WrongArgument, NoPhase, NoNameLeft, NoScopeLeft, NoBindingLeft, TooDeep, TooManyEntries, OverBudget, TooLong, OutsideUse}
use Rattle.refusals.specs.Refusing.{refusal_of, case_of}

pub case_back : (r : Refusal) → case_of (refusal_of r) ≡ r
case_back Layout = refl
case_back OverLimit = refl
case_back Unowned = refl
case_back WrongKind = refl
case_back SmallTable = refl
case_back Ambiguous = refl
case_back NoMeaning = refl
case_back NoRule = refl
case_back NoSyntax = refl
case_back NotApplicable = refl
case_back WrongArgument = refl
case_back NoPhase = refl
case_back NoNameLeft = refl
case_back NoScopeLeft = refl
case_back NoBindingLeft = refl
case_back TooDeep = refl
case_back TooManyEntries = refl
case_back OverBudget = refl
case_back TooLong = refl
case_back OutsideUse = refl

pub refusal_back : (r : m.Refusal) → refusal_of (case_of r) ≡ r
refusal_back m.layout = refl
refusal_back m.over_limit = refl
refusal_back m.unowned = refl
refusal_back m.wrong_kind = refl
refusal_back m.small_table = refl
refusal_back m.ambiguous = refl
refusal_back m.no_meaning = refl
refusal_back m.no_rule = refl
refusal_back m.no_syntax = refl
refusal_back m.not_applicable = refl
refusal_back m.wrong_argument = refl
refusal_back m.no_phase = refl
refusal_back m.no_name_left = refl
refusal_back m.no_scope_left = refl
refusal_back m.no_binding_left = refl
refusal_back m.too_deep = refl
refusal_back m.too_many_entries = refl
refusal_back m.over_budget = refl
refusal_back m.too_long = refl
refusal_back m.outside_use = refl
