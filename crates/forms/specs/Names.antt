-- The name of an object at a phase, where it is an identifier, and the core form of a name.
use Rattle.std.specs.Prelude.{◌≡◌, List, ℕ}
use Rattle.std.proofs.Math.Option.{Option, none, some}
use Rattle.model.specs.Objects.{symbol, number, point, prim, rung, Stx, atom, list, set_at}
use Rattle.model.specs.Trees.{stx}
use Rattle.model.specs.Resolving.{Bind}
use Rattle.model.specs.Meanings as p
use Rattle.store.specs.Words.{binds_of}
use Rattle.store.specs.Rivalry as d
use Rattle.store.specs.Rivalry.{Decision, several, rivals_of, decided}
use Rattle.things.specs.Rep.{Rep}
use Rattle.forms.specs.declared.Form.{Form}
use Rattle.forms.specs.declared.Form.TheVariants.{Lambda, LetSyntax, Quote, Syntax, Other}
use Rattle.forms.specs.declared.Naming.{Naming}
use Rattle.forms.specs.declared.Naming.TheVariants.{Named, Unclear, Unnamed}

unfoldable pub name_found : ℕ → List Bind → Stx → Option Decision
name_found ph bs (atom c (symbol x)) = some (decided x (set_at ph c) bs)
name_found ph bs (atom c (number x)) = none
name_found ph bs (atom c (point x)) = none
name_found ph bs (atom c (prim x)) = none
name_found ph bs (atom c (rung x)) = none
name_found ph bs (list c l) = none

abbrev pub naming_of : Naming → Option Decision
naming_of (Named n) = some (d.means n.0)
naming_of (Unclear p) = some (several (rivals_of p))
naming_of Unnamed = none

-- by the first n bindings of the store st
pub record Names (ph : ℕ) (st : List ℕ) (n : ℕ) (l : List ℕ) (i : ℕ) (r : Naming) : Type 0 where
  pub means : (top : ℕ) (x : Stx) → Rep l top i (stx x) → naming_of r ≡ name_found ph (binds_of st n) x

abbrev pub formed : Form → Option p.Form
formed Lambda = some p.lambda
formed LetSyntax = some p.let_syntax
formed Quote = some p.quote
formed Syntax = some p.syntax
formed Other = none
