-- Condition 3, of the answers that the public functions give.
use Rattle.std.specs.Prelude.{ℕ, ◌≤◌, ◌≡◌, true, List, length, take}
use Rattle.model.specs.Writing.{tree_image_bytes}
use Rattle.model.specs.Jobs.{Answer, budget_fits}
use Rattle.addresses.specs.Charge.{parse_charge}
use Rattle.addresses.specs.OneNameOneAddress.{OneNameOneAddress}

-- a program that is accepted, and the image written for it
pub record Keeps (image output : List ℕ) (a : Answer) : Type 0 where
  pub kept : a.code ≡ 0 → OneNameOneAddress image (take a.len output)
  pub within : a.len ≤ length output

-- the image written for such a program, parsed: with enough of everything it is accepted, and its tree is written for exactly its charge
pub record Parses (expanded : List ℕ) (budget : ℕ) (table output output' : List ℕ) (a : Answer) : Type 0 where
  pub parsed : {image : List ℕ} (o : OneNameOneAddress image expanded) → budget_fits budget (length table) ≡ true
      → length (tree_image_bytes o.result.head o.tree) ≤ length output → parse_charge o.result.binds o.result.root ≤ budget
      → (a.code ≡ 0) × (a.units ≡ parse_charge o.result.binds o.result.root) × (take a.len output' ≡ tree_image_bytes o.result.head o.tree)

-- that tree's image, evaluated
pub record NeverUnowned (tree : List ℕ) (a : Answer) : Type 0 where
  pub owned : {image expanded : List ℕ} (o : OneNameOneAddress image expanded) → tree ≡ tree_image_bytes o.result.head o.tree → a.code ≡ 3 → ⊥
