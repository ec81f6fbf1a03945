-- The shams of document 01 do not meet the contract of the expand job: condition 2 rejects each on an image of a few bytes, and units
-- invented or left at the budget as well. Condition 3 alone would let the first sham pass. (The third sham is in RulesRefuted.)
use mathlib.Core.Path.{◌≡◌, sym, ap, ◌∙◌}
use Prim.Native.Nat.{ℕ}
use native.Mathlib.Omega.{arith}
use mathlib.Core.List.{List}
use lib.ListN.{length, drop}
use Rattle.model.specs.Refusals.{no_rule}
use Rattle.model.specs.Competing.{no_rivals}
use Rattle.model.specs.Jobs.{refused, written, answer_of, output_after, Result, lent}
use Rattle.addresses.specs.OneNameOneAddress.{image_written}
use Rattle.addresses.proofs.Endings.{lent_cases, take_whole}
use Rattle.proof_bench.specs.Meeting.{Call, Expanding, MeetsExpand}
use Rattle.proof_bench.specs.Shams.{RefusesAll, GivesOnly, ReturnsInput, refuser, fixed_tree, returner, UnitsAtBudget, UnitsInvented, Condition3Of}
use Rattle.proof_bench.proofs.Samples.{seven, identity, words, room, expanded, seven_code, seven_units, seven_image, identity_code, identity_units, identity_image, seven_call, identity_call, code_is, image-is, units-are}

lengths : {a b : List ℕ} → a ≡ b → length a ≡ length b
lengths e = ap length e

-- 1. one that refuses all
pub refusing_all_is_rejected : (f : Expanding) → RefusesAll f → MeetsExpand f → ⊥
refusing_all_is_rejected f sham meets = sham seven 0 32 words room seven_call (code_is f meets seven seven_call seven_code)

-- 2. one that gives one fixed tree
pub a_fixed_tree_is_rejected : (f : Expanding) (fixed : List ℕ) → GivesOnly fixed f → MeetsExpand f → ⊥
a_fixed_tree_is_rejected f fixed sham meets = differ (lengths (sym (gives seven seven_call seven_code) ∙ gives identity identity_call identity_code))
  where
    gives : (image : List ℕ) → Call image 0 32 words room → (expanded image).answer.code ≡ 0 → fixed ≡ image_written (expanded image)
    gives image c e = sym (sham image 0 32 words room c (code_is f meets image c e)) ∙ image-is f meets image c

    differ : length (image_written (expanded seven)) ≡ length (image_written (expanded identity)) → ⊥
    differ e = clash (sym (lengths seven_image) ∙ e ∙ lengths identity_image)
      where
        clash : ◌≡◌ {A = ℕ} 10 33 → ⊥
        clash q = omega arith

not_itself : length identity ≡ 33 → ⊥
unfolding identity
not_itself e = clash e
  where
    clash : ◌≡◌ {A = ℕ} 27 33 → ⊥
    clash q = omega arith

-- 4. one that returns its input
pub returning_the_input_is_rejected : (f : Expanding) → ReturnsInput f → MeetsExpand f → ⊥
returning_the_input_is_rejected f sham meets =
    not_itself (lengths (sym (sham identity 0 32 words room identity_call (code_is f meets identity identity_call identity_code)) ∙ image-is f meets identity identity_call ∙ identity_image))

-- ---- units

pub units_at_the_budget_are_rejected : (f : Expanding) → UnitsAtBudget f → MeetsExpand f → ⊥
units_at_the_budget_are_rejected f sham meets = clash (sym (sham seven 0 32 words room seven_call) ∙ units-are f meets seven seven_call ∙ seven_units)
  where
    clash : ◌≡◌ {A = ℕ} 32 2 → ⊥
    clash q = omega arith

pub invented_units_are_rejected : (f : Expanding) (units : ℕ) → UnitsInvented units f → MeetsExpand f → ⊥
invented_units_are_rejected f units sham meets = clash (given seven 2 seven_call seven_units) (given identity 8 identity_call identity_units)
  where
    given : (image : List ℕ) (n : ℕ) → Call image 0 32 words room → (expanded image).answer.units ≡ n → units ≡ n
    given image n c e = sym (sham image 0 32 words room c) ∙ units-are f meets image c ∙ e

    clash : units ≡ 2 → units ≡ 8 → ⊥
    clash p q = omega arith

-- ---- the functions named for these kinds are of them, so each is rejected

refuser_refuses : RefusesAll refuser
unfolding refuser answer_of
refuser_refuses image ph budget table output c =
    lent_cases (λ (z : Result). z.answer.code ≡ 0 → ⊥) budget table output (refused no_rule no_rivals 0) (λ e. omega arith) (λ e. omega arith)

-- what is lent and written is there
written_is : (budget : ℕ) (table output b : List ℕ) → (lent budget table output (written b 0)).answer.code ≡ 0
    → image_written (lent budget table output (written b 0)) ≡ b
unfolding answer_of output_after image_written
written_is budget table output b =
    lent_cases (λ (z : Result). z.answer.code ≡ 0 → image_written z ≡ b) budget table output (written b 0)
    (λ e. take_whole b (drop (length b) output)) (λ e. absurd (five e))
  where
    five : ◌≡◌ {A = ℕ} 5 0 → ⊥
    five p = omega arith

fixed_tree-gives : (fixed : List ℕ) → GivesOnly fixed (fixed_tree fixed)
unfolding fixed_tree
fixed_tree-gives fixed image ph budget table output c q = written_is budget table output fixed q

returner_returns : ReturnsInput returner
unfolding returner
returner_returns image ph budget table output c q = written_is budget table output image q

pub refuser_is_rejected : MeetsExpand refuser → ⊥
refuser_is_rejected meets = refusing_all_is_rejected refuser refuser_refuses meets

pub fixed_tree_is_rejected : (fixed : List ℕ) → MeetsExpand (fixed_tree fixed) → ⊥
fixed_tree_is_rejected fixed meets = a_fixed_tree_is_rejected (fixed_tree fixed) fixed (fixed_tree-gives fixed) meets

pub returner_is_rejected : MeetsExpand returner → ⊥
returner_is_rejected meets = returning_the_input_is_rejected returner returner_returns meets

-- ---- condition 3 alone lets the first sham pass

pub condition_3_lets_refusing_all_pass : (f : Expanding) → RefusesAll f → Condition3Of f
condition_3_lets_refusing_all_pass f sham image budget table output c q = absurd (sham image 0 budget table output c q)
