-- What comes back, and what output and table hold, of every job: each is `lent` of how it ends (`resolve_job-is`, `expand_job-is`, `parse_job-is`
-- and `evaluate_job-is` of addresses/proofs/Endings).
use mathlib.Core.Path.{◌≡◌, refl, sym, ap, ◌∙◌, subst}
use Prim.Native.Nat.{ℕ, ◌+◌, ◌-◌, ◌*◌, ◌≤◌, zero-le}
use native.Mathlib.Nat.{sub-le}
use native.Mathlib.Omega.{arith}
use mathlib.Core.Bool.{Bool, true, false, ◌&&◌}
use mathlib.Core.List.{List, [], ◌++◌}
use lib.Dec.{leb}
use lib.ListN.{length, drop, replicate, length-append, length-drop, length-replicate}
use Rattle.model.specs.Choice.{when◌then◌else◌}
use Rattle.model.specs.Refusals.{Refusal, layout, over_limit, unowned, wrong_kind, small_table, ambiguous, no_meaning, no_rule, no_syntax, not_applicable, wrong_argument, no_phase, no_name_left, no_scope_left, no_binding_left, too_deep, too_many_entries, over_budget, too_long, outside_use, code_of}
use Rattle.model.specs.Competing.{Rivals, no_rivals}
use Rattle.model.specs.Reading.{Read, got, fault, Image, read_syntax, read_tree_image, read_image}
use Rattle.model.specs.Writing.{syntax_bytes, tree_image_bytes}
use Rattle.model.specs.Steps.{State, Out, ok, no}
use Rattle.model.specs.Jobs.{Ending, refused, named, written, answer_of, output_after, cleared, Result, budget_fits, lent, at_phase, with_image, start, worked, fitted, reached, resolve_root, expand_root, parse_root, evaluate_root, closed, resolve_ending, expand_ending, parse_ending, evaluate_ending, resolve_job, expand_job, parse_job, evaluate_job}
use borrow.Author.Tests.{leb-true}
use Rattle.laws.proofs.Tests.{and_both}
use Rattle.addresses.proofs.Endings.{after-ending, untouched, lent_cases, expand_work, parse_work, evaluate_work, expand_ending-is, parse_ending-is, evaluate_ending-is, expand_job-is, parse_job-is, evaluate_job-is}

-- ---- refusals

-- every refusal leaves the output untouched and gives name 0 and length 0
pub refusals_leave_the_output : (budget : ℕ) (table output : List ℕ) (r : Refusal) (p : Rivals) (u : ℕ)
    → ((lent budget table output (refused r p u)).output ≡ output) × ((lent budget table output (refused r p u)).answer.name ≡ 0)
    × ((lent budget table output (refused r p u)).answer.len ≡ 0)
unfolding answer_of output_after
refusals_leave_the_output budget table output r p u =
    lent_cases (λ (z : Result). (z.output ≡ output) × (z.answer.name ≡ 0) × (z.answer.len ≡ 0)) budget table output (refused r p u)
    (refl, refl, refl) (refl, refl, refl)

-- ---- number 16 is no refusal's, and no job answers it

pub no_refusal_has_16 : (r : Refusal) → code_of r ≡ 16 → ⊥
no_refusal_has_16 layout e = omega arith
no_refusal_has_16 over_limit e = omega arith
no_refusal_has_16 unowned e = omega arith
no_refusal_has_16 wrong_kind e = omega arith
no_refusal_has_16 small_table e = omega arith
no_refusal_has_16 ambiguous e = omega arith
no_refusal_has_16 no_meaning e = omega arith
no_refusal_has_16 no_rule e = omega arith
no_refusal_has_16 no_syntax e = omega arith
no_refusal_has_16 not_applicable e = omega arith
no_refusal_has_16 wrong_argument e = omega arith
no_refusal_has_16 no_phase e = omega arith
no_refusal_has_16 no_name_left e = omega arith
no_refusal_has_16 no_scope_left e = omega arith
no_refusal_has_16 no_binding_left e = omega arith
no_refusal_has_16 too_deep e = omega arith
no_refusal_has_16 too_many_entries e = omega arith
no_refusal_has_16 over_budget e = omega arith
no_refusal_has_16 too_long e = omega arith
no_refusal_has_16 outside_use e = omega arith

ending_not_16 : (e : Ending) → (answer_of e).code ≡ 16 → ⊥
unfolding answer_of
ending_not_16 (refused r p u) q = no_refusal_has_16 r q
ending_not_16 (named n u) q = omega arith
ending_not_16 (written b u) q = omega arith

pub no_job_answers_16 : (budget : ℕ) (table output : List ℕ) (e : Ending) → (lent budget table output e).answer.code ≡ 16 → ⊥
no_job_answers_16 budget table output e =
    lent_cases (λ (z : Result). z.answer.code ≡ 16 → ⊥) budget table output e (ending_not_16 e) (ending_not_16 (refused small_table no_rivals 0))

-- ---- the table

-- code 5: nothing is touched, whatever the job would have done
pub code_5_touches_nothing : (budget : ℕ) (table output : List ℕ) (e : Ending) → budget_fits budget (length table) ≡ false
    → lent budget table output e ≡ record { answer = record { code = 5; units = 0; name = 0; len = 0; first = 0; second = 0 }; output = output; table = table }
unfolding lent answer_of
code_5_touches_nothing budget table output e q = rw q

-- after all else the words that the budget wants are zero and the rest untouched
pub all_else_clears_the_table : (budget : ℕ) (table output : List ℕ) (e : Ending) → budget_fits budget (length table) ≡ true
    → (lent budget table output e).table ≡ replicate (40 * budget) 0 ++ drop (40 * budget) table
unfolding lent cleared
all_else_clears_the_table budget table output e q = rw q

enough-words : (budget n : ℕ) → budget_fits budget n ≡ true → (budget ≤ 4096) × (40 * budget ≤ n)
unfolding budget_fits
enough-words budget n q =
    let w = and_both (leb budget 4096) (leb (40 * budget) n) q in
    (leb-true budget 4096 w.0, leb-true (40 * budget) n w.1)

pub the_table_keeps_its_length : (budget : ℕ) (table output : List ℕ) (e : Ending) → length (lent budget table output e).table ≡ length table
unfolding lent cleared
the_table_keeps_its_length budget table output e = go (budget_fits budget (length table)) refl
  where
    whole : (a b : ℕ) → a ≤ b → a + (b - a) ≡ b
    whole a b h = omega arith

    go : (b : Bool) → budget_fits budget (length table) ≡ b
        → length (when b then after-ending budget table output e else untouched table output).table ≡ length table
    go true q =
        length-append (replicate (40 * budget) 0) (drop (40 * budget) table)
        ∙ ap (λ (n : ℕ). n + length (drop (40 * budget) table)) (length-replicate (40 * budget) 0)
        ∙ ap (λ (n : ℕ). 40 * budget + n) (length-drop (40 * budget) table)
        ∙ whole (40 * budget) (length table) (enough-words budget (length table) q).1
    go false q = refl

-- ---- success

-- the image stands at the start of the output and no byte after it is touched
pub success_writes_from_the_start : (budget : ℕ) (table output b : List ℕ) (u : ℕ) → budget_fits budget (length table) ≡ true
    → ((lent budget table output (written b u)).output ≡ b ++ drop (length b) output)
    × ((lent budget table output (written b u)).answer ≡ record { code = 0; units = u; name = 0; len = length b; first = 0; second = 0 })
unfolding lent answer_of output_after
success_writes_from_the_start budget table output b u q = (rw q, rw q)

-- ---- units never exceed the budget

abbrev Within : ℕ → Ending → Type 0
Within budget (refused r p u) = u ≤ budget
Within budget (named n u) = u ≤ budget
Within budget (written b u) = u ≤ budget

worked-within : {A : Type 0} (budget : ℕ) (o : Out A) (f : A → State → Ending) → ((a : A) (s : State) → Within budget (f a s)) → Within budget (worked budget o f)
unfolding worked
worked-within budget (ok a s) f h = h a s
worked-within budget (no r p u) f h = sub-le budget u

image-within : {R : Type 0} (budget : ℕ) (o : Read (Image R)) (f : Image R → Ending) → ((i : Image R) → Within budget (f i)) → Within budget (with_image o f)
unfolding with_image
image-within budget (got i s) f h = h i
image-within budget (fault r) f h = zero-le

if_within : (budget : ℕ) (b : Bool) (x y : Ending) → Within budget x → Within budget y → Within budget (when b then x else y)
if_within budget true x y p q = p
if_within budget false x y p q = q

fitted-within : (budget room : ℕ) (b : List ℕ) (u : ℕ) → u ≤ budget → Within budget (fitted room b u)
unfolding fitted
fitted-within budget room b u h = if_within budget (leb (length b) room && leb (length b) 65536) (written b u) (refused too_long no_rivals u) h h

phase-within : (budget ph : ℕ) (e : Ending) → Within budget e → Within budget (at_phase ph e)
unfolding at_phase
phase-within budget ph e h = if_within budget (leb ph 2) e (refused no_phase no_rivals 0) h zero-le

lent-within : (budget : ℕ) (table output : List ℕ) (e : Ending) → Within budget e → (lent budget table output e).answer.units ≤ budget
unfolding answer_of
lent-within budget table output e h =
    lent_cases (λ (z : Result). z.answer.units ≤ budget) budget table output e (units_of e h) zero-le
  where
    units_of : (e : Ending) → Within budget e → (answer_of e).units ≤ budget
    units_of (refused r p u) q = q
    units_of (named n u) q = q
    units_of (written b u) q = q

pub resolve_units_are_within_the_budget : (image : List ℕ) (ph budget : ℕ) (table : List ℕ) → (resolve_job image ph budget table).answer.units ≤ budget
unfolding resolve_job resolve_ending
resolve_units_are_within_the_budget image ph budget table =
    lent-within budget table [] (resolve_ending image ph budget)
    (phase-within budget ph _ (image-within budget (read_image read_syntax image) _ (λ i. worked-within budget (resolve_root ph i.root (start budget i)) _ (λ n s. sub-le budget s.left))))

pub expand_units_are_within_the_budget : (image : List ℕ) (ph budget : ℕ) (table output : List ℕ)
    → (expand_job image ph budget table output).answer.units ≤ budget
expand_units_are_within_the_budget image ph budget table output =
    subst (λ (z : Result). z.answer.units ≤ budget) (sym (expand_job-is image ph budget table output))
    (lent-within budget table output (expand_ending image ph budget (length output))
    (subst (Within budget) (sym (expand_ending-is image ph budget (length output)))
    (phase-within budget ph (with_image (read_image read_syntax image) (expand_work ph budget (length output)))
    (image-within budget (read_image read_syntax image) (expand_work ph budget (length output)) (λ i.
    worked-within budget (expand_root ph i.root (start budget i)) _ (λ r s.
    fitted-within budget (length output) (syntax_bytes (reached i.head s) s.binds r) (budget - s.left) (sub-le budget s.left)))))))

pub parse_units_are_within_the_budget : (image : List ℕ) (budget : ℕ) (table output : List ℕ) → (parse_job image budget table output).answer.units ≤ budget
parse_units_are_within_the_budget image budget table output =
    subst (λ (z : Result). z.answer.units ≤ budget) (sym (parse_job-is image budget table output))
    (lent-within budget table output (parse_ending image budget (length output))
    (subst (Within budget) (sym (parse_ending-is image budget (length output)))
    (image-within budget (read_image read_syntax image) (parse_work budget (length output)) (λ i.
    worked-within budget (parse_root i.root (start budget i)) _ (λ r s.
    fitted-within budget (length output) (tree_image_bytes (reached i.head s) r) (budget - s.left) (sub-le budget s.left))))))

pub evaluate_units_are_within_the_budget : (image : List ℕ) (budget : ℕ) (table output : List ℕ)
    → (evaluate_job image budget table output).answer.units ≤ budget
evaluate_units_are_within_the_budget image budget table output =
    subst (λ (z : Result). z.answer.units ≤ budget) (sym (evaluate_job-is image budget table output))
    (lent-within budget table output (evaluate_ending image budget (length output))
    (subst (Within budget) (sym (evaluate_ending-is image budget (length output)))
    (image-within budget (read_image read_tree_image image) (evaluate_work budget (length output)) (λ i.
    if_within budget (closed [] i.root) _ (refused unowned no_rivals 0)
    (worked-within budget (evaluate_root i.root (start budget i)) _ (λ r s.
    fitted-within budget (length output) (tree_image_bytes (reached i.head s) r) (budget - s.left) (sub-le budget s.left))) zero-le))))
