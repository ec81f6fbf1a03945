-- Document 02, T-11 and T-12: scopes renumbered in a set, an object and a binding; and what two jobs have in common that differ in this alone.
use Rattle.std.specs.Prelude.{ℕ, ◌≡◌, List, [], ◌∷◌}
use Rattle.model.specs.Scopes.{Scope, Scopes, no_scopes, add, members}
use Rattle.model.specs.Objects.{Sets, Stx, on_sets}
use Rattle.model.specs.Resolving.{Bind}
use Rattle.model.specs.Jobs.{Result}
use Rattle.addresses.specs.OneNameOneAddress.{image_written}

-- ---- a set, by its members: scope k becomes scope f k

unfoldable pub mapped : (Scope → Scope) → List Scope → List Scope
mapped f [] = []
mapped f (k ∷ l) = f k ∷ mapped f l

unfoldable pub set_of : List Scope → Scopes
unfolding add
set_of [] = no_scopes
set_of (k ∷ l) = add k (set_of l)

unfoldable pub renumber_set : (Scope → Scope) → Scopes → Scopes
unfolding set_of mapped members
renumber_set f m = set_of (mapped f (members m))

unfoldable pub renumber_sets : (Scope → Scope) → Sets → Sets
unfolding renumber_set
renumber_sets f c = record { at0 = renumber_set f c.at0; at1 = renumber_set f c.at1; at2 = renumber_set f c.at2 }

-- ---- every part of an object, and a binding

unfoldable pub renumber_stx : (Scope → Scope) → Stx → Stx
unfolding on_sets renumber_sets
renumber_stx f x = on_sets (renumber_sets f) x

unfoldable pub renumber_bind : (Scope → Scope) → Bind → Bind
unfolding renumber_set
renumber_bind f b = record { symb = b.symb; target = b.target; set = renumber_set f b.set }

-- ---- two jobs: all is the same but what they wrote, and h makes the second image of the first. The two bindings of T-04 are left out: they go
-- by image order.

pub record SameBut (h : List ℕ → List ℕ) (one two : Result) : Type 0 where
  pub code_is : two.answer.code ≡ one.answer.code
  pub units-is : two.answer.units ≡ one.answer.units
  pub name-is : two.answer.name ≡ one.answer.name
  pub table_is : two.table ≡ one.table
  pub result-is : one.answer.code ≡ 0 → image_written two ≡ h (image_written one)
