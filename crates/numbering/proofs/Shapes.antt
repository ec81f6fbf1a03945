-- What is tested of a thing made, and of the shape of a form, is the same of things alike.
use mathlib.Core.Path.{ap}
use Prim.Native.Nat.{ℕ}
use lib.Dec.{leb}
use Rattle.model.specs.Limits.{most_nesting}
use Rattle.model.specs.Refusals.{no_rule, too_deep}
use Rattle.model.specs.Objects.{symbol, number, point, prim, rung, Sets, Stx, Stxs, nesting}
use Rattle.model.specs.Trees.{Tree, tnesting}
use Rattle.model.specs.Steps.{Step, made, made_tree, parts1, parts2, parts3, identifier}
use Rattle.alike.proofs.Alike.{NewNumbers, SetsAlike, StxAlike, atoms, lists, StxsAlike, nils, conses, TreeAlike}
use Rattle.alike.proofs.Things.{nesting_alike}
use Rattle.alike.proofs.Runs.{Pairing, StepAlike, then_same, done_alike, refuse_alike, unless_alike}
use Rattle.numbering.proofs.Values.{tnesting_alike}

pub made_alike : {w : Pairing} (ρ : NewNumbers) (x y : Stx) → StxAlike ρ x y → StepAlike w (StxAlike ρ) (made x) (made y)
unfolding made
made_alike ρ x y h =
    then_same _ _
    (unless_alike too_deep (leb (nesting x) most_nesting) (leb (nesting y) most_nesting) (ap (λ (n : ℕ). leb n most_nesting) (nesting_alike ρ h)))
    (λ u. done_alike h)

pub made_tree_alike : {w : Pairing} (ρ : NewNumbers) (x y : Tree) → TreeAlike ρ x y → StepAlike w (TreeAlike ρ) (made_tree x) (made_tree y)
unfolding made_tree
made_tree_alike ρ x y h =
    then_same _ _
    (unless_alike too_deep (leb (tnesting x) most_nesting) (leb (tnesting y) most_nesting) (ap (λ (n : ℕ). leb n most_nesting) (tnesting_alike ρ h)))
    (λ u. done_alike h)

-- ---- shapes

pub parts1_alike : {w : Pairing} {A : Type 0} {R : A → A → Type 0} (ρ : NewNumbers) (f g : Stx → Step A) {l r : Stxs} → StxsAlike ρ l r
    → ((a b : Stx) → StxAlike ρ a b → StepAlike w R (f a) (g b)) → StepAlike w R (parts1 l f) (parts1 r g)
unfolding parts1
parts1_alike ρ f g nils k = refuse_alike no_rule
parts1_alike ρ f g (conses {x} {y} h nils) k = k x y h
parts1_alike ρ f g (conses h (conses i j)) k = refuse_alike no_rule

pub parts2_alike : {w : Pairing} {A : Type 0} {R : A → A → Type 0} (ρ : NewNumbers) (f g : Stx → Stx → Step A) {l r : Stxs} → StxsAlike ρ l r
    → ((a b : Stx) → StxAlike ρ a b → (c d : Stx) → StxAlike ρ c d → StepAlike w R (f a c) (g b d)) → StepAlike w R (parts2 l f) (parts2 r g)
unfolding parts2
parts2_alike ρ f g nils k = refuse_alike no_rule
parts2_alike ρ f g (conses h nils) k = refuse_alike no_rule
parts2_alike ρ f g (conses h (conses i nils)) k = k _ _ h _ _ i
parts2_alike ρ f g (conses h (conses i (conses j l))) k = refuse_alike no_rule

pub parts3_alike : {w : Pairing} {A : Type 0} {R : A → A → Type 0} (ρ : NewNumbers) (f g : Stx → Stx → Stx → Step A) {l r : Stxs} → StxsAlike ρ l r
    → ((a b : Stx) → StxAlike ρ a b → (c d : Stx) → StxAlike ρ c d → (e z : Stx) → StxAlike ρ e z → StepAlike w R (f a c e) (g b d z))
    → StepAlike w R (parts3 l f) (parts3 r g)
unfolding parts3
parts3_alike ρ f g nils k = refuse_alike no_rule
parts3_alike ρ f g (conses h nils) k = refuse_alike no_rule
parts3_alike ρ f g (conses h (conses i nils)) k = refuse_alike no_rule
parts3_alike ρ f g (conses h (conses i (conses j nils))) k = k _ _ h _ _ i _ _ j
parts3_alike ρ f g (conses h (conses i (conses j (conses m l)))) k = refuse_alike no_rule

pub identifier_alike : {w : Pairing} {A : Type 0} {R : A → A → Type 0} (ρ : NewNumbers) (f g : Sets → ℕ → Step A) {x y : Stx} → StxAlike ρ x y
    → ((c d : Sets) → SetsAlike ρ c d → (n : ℕ) → StepAlike w R (f c n) (g d n)) → StepAlike w R (identifier x f) (identifier y g)
unfolding identifier
identifier_alike ρ f g (atoms (symbol n) h) k = k _ _ h n
identifier_alike ρ f g (atoms (number n) h) k = refuse_alike no_rule
identifier_alike ρ f g (atoms (point n) h) k = refuse_alike no_rule
identifier_alike ρ f g (atoms (prim n) h) k = refuse_alike no_rule
identifier_alike ρ f g (atoms (rung n) h) k = refuse_alike no_rule
identifier_alike ρ f g (lists h i) k = refuse_alike no_rule
