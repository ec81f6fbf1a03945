-- Condition 3 of whatever meets the contracts: one theorem for each job that it speaks of.
use mathlib.Core.Path.{◌≡◌, refl, sym, ap, ◌∙◌, subst}
use Prim.Native.Nat.{ℕ, ◌≤◌}
use mathlib.Core.Bool.{true}
use mathlib.Core.List.{List}
use lib.ListN.{length}
use Rattle.model.specs.Writing.{tree_image_bytes}
use Rattle.model.specs.Jobs.{Result, written, lent, budget_fits, expand_job, parse_job, evaluate_job}
use Rattle.addresses.specs.Charge.{parse_charge}
use Rattle.addresses.specs.OneNameOneAddress.{image_written, OneNameOneAddress}
use Rattle.addresses.proofs.Condition3.{one_name_one_address}
use Rattle.proof_bench.specs.Meeting.{Call, Meets, Expanding, Working, MeetsExpand, MeetsParse, MeetsEvaluate}
use Rattle.proof_bench.specs.Shams.{Condition3Of}
use Rattle.proof_bench.proofs.Uniqueness.{one-result}
use Rattle.proof_bench.proofs.Samples.{identity, words, room, expanded, identity_code, identity_call}

-- a result that is the expected one is it
is_expected : (expected result : Result) → Meets expected result → result ≡ expected
is_expected expected result m = one-result expected result expected m (record { answer-is = refl; output-is = refl; table_is = refl })

-- expand: what it answers with code 0 at phase 0 has one address for each name
pub expanding_meets_condition_3 : (f : Expanding) → MeetsExpand f → Condition3Of f
expanding_meets_condition_3 f meets image budget table output c q =
    let e = is_expected (expand_job image 0 budget table output) (f image 0 budget table output) (meets image 0 budget table output c) in
    subst (λ (z : Result). OneNameOneAddress image (image_written z)) (sym e)
    (one_name_one_address image c.image-bytes budget table output (ap (λ (z : Result). z.answer.code) (sym e) ∙ q))

-- parse: on such an image, with enough of everything, it writes the tree for exactly its charge
pub parsing_meets_condition_3 : (g : Working) → MeetsParse g → (image expanded : List ℕ) (o : OneNameOneAddress image expanded)
    → (budget : ℕ) (table output : List ℕ) → Call expanded 0 budget table output → budget_fits budget (length table) ≡ true
    → length (tree_image_bytes o.result.head o.tree) ≤ length output → parse_charge o.result.binds o.result.root ≤ budget
    → g expanded budget table output
    ≡ lent budget table output (written (tree_image_bytes o.result.head o.tree) (parse_charge o.result.binds o.result.root))
parsing_meets_condition_3 g meets image expanded o budget table output c fits room enough =
    is_expected (parse_job expanded budget table output) (g expanded budget table output) (meets expanded budget table output c)
    ∙ o.parses budget table output fits room enough

-- evaluate: on that tree's image it never answers 3
pub evaluating_meets_condition_3 : (h : Working) → MeetsEvaluate h → (image expanded : List ℕ) (o : OneNameOneAddress image expanded)
    → (budget : ℕ) (table output : List ℕ) → Call (tree_image_bytes o.result.head o.tree) 0 budget table output
    → (h (tree_image_bytes o.result.head o.tree) budget table output).answer.code ≡ 3 → ⊥
evaluating_meets_condition_3 h meets image expanded o budget table output c q =
    let b = tree_image_bytes o.result.head o.tree in
    let e = is_expected (evaluate_job b budget table output) (h b budget table output) (meets b budget table output c) in
    o.never_unowned budget table output (ap (λ (z : Result). z.answer.code) (sym e) ∙ q)

-- the theorem at work: (lambda x x), the image that document 01 shows whole
pub identity_meets_condition_3 : OneNameOneAddress identity (image_written (expanded identity))
unfolding expanded
identity_meets_condition_3 = one_name_one_address identity identity_call.image-bytes 32 words room identity_code
