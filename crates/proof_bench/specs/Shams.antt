-- The shams of document 01, 'The proof bench', as what a function in place of the expand job might do.
use Rattle.std.specs.Prelude.{ℕ, ◌≡◌, List}
use Rattle.model.specs.Refusals.{no_rule}
use Rattle.model.specs.Competing.{no_rivals}
use Rattle.model.specs.Jobs.{refused, written, lent}
use Rattle.addresses.specs.OneNameOneAddress.{image_written, OneNameOneAddress}
use Rattle.proof_bench.specs.Meeting.{Call, Expanding}
use Rattle.proof_bench.specs.Rules.{ruled, copies_others}

-- 1. refuses all
abbrev pub RefusesAll : Expanding → Type 0
RefusesAll f =
    (image : List ℕ) (ph budget : ℕ) (table output : List ℕ) → Call image ph budget table output → (f image ph budget table output).answer.code ≡ 0 → ⊥

-- 2. gives one fixed tree: whatever it is given, what it writes is the same image
abbrev pub GivesOnly : List ℕ → Expanding → Type 0
GivesOnly fixed f =
    (image : List ℕ) (ph budget : ℕ) (table output : List ℕ) → Call image ph budget table output → (f image ph budget table output).answer.code ≡ 0
    → image_written (f image ph budget table output) ≡ fixed

-- 4. returns its input
abbrev pub ReturnsInput : Expanding → Type 0
ReturnsInput f =
    (image : List ℕ) (ph budget : ℕ) (table output : List ℕ) → Call image ph budget table output → (f image ph budget table output).answer.code ≡ 0
    → image_written (f image ph budget table output) ≡ image

-- one function of each of these kinds

unfoldable pub refuser : Expanding
unfolding lent
refuser image ph budget table output = lent budget table output (refused no_rule no_rivals 0)

unfoldable pub fixed_tree : List ℕ → Expanding
unfolding lent
fixed_tree fixed image ph budget table output = lent budget table output (written fixed 0)

unfoldable pub returner : Expanding
unfolding lent
returner image ph budget table output = lent budget table output (written image 0)

-- units left at the budget, and units invented: always the same
abbrev pub UnitsAtBudget : Expanding → Type 0
UnitsAtBudget f = (image : List ℕ) (ph budget : ℕ) (table output : List ℕ) → Call image ph budget table output → (f image ph budget table output).answer.units ≡ budget

abbrev pub UnitsInvented : ℕ → Expanding → Type 0
UnitsInvented units f = (image : List ℕ) (ph budget : ℕ) (table output : List ℕ) → Call image ph budget table output → (f image ph budget table output).answer.units ≡ units

-- 3. expands the first part of an application and copies the others: `copies_others`, of Rules; or writes what it writes, for any units
abbrev pub WritesCopies : Expanding → Type 0
WritesCopies f =
    (image : List ℕ) (ph budget : ℕ) (table output : List ℕ) → Call image ph budget table output → (f image ph budget table output).answer.code ≡ 0
    → image_written (f image ph budget table output) ≡ image_written (ruled copies_others image ph budget table output)

-- ---- condition 3, said of any function in place of the expand job

abbrev pub Condition3Of : Expanding → Type 0
Condition3Of f =
    (image : List ℕ) (budget : ℕ) (table output : List ℕ) → Call image 0 budget table output → (f image 0 budget table output).answer.code ≡ 0
    → OneNameOneAddress image (image_written (f image 0 budget table output))
