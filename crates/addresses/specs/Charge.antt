-- What parse charges, exactly: the size of the object for loading it; then one unit for each entry, and the size of quoted data.
use Rattle.std.specs.Prelude.{ℕ, ◌+◌, List, [], ◌∷◌}
use Rattle.std.proofs.Math.Option.{Option, none, some}
use Rattle.model.specs.Scopes.{no_scopes}
use Rattle.model.specs.Objects.{Stx, atom, list, Stxs, nil, cons, size, sizes}
use Rattle.model.specs.Resolving.{Bind}
use Rattle.model.specs.Meanings.{Form, lambda, let_syntax, quote, syntax}
use Rattle.model.specs.Steps.{Out, ok, no}
use Rattle.model.specs.Parsing.{head_form}

-- the form that the head of a list makes with these bindings; none where it cannot be resolved
unfoldable pub form_made : Out (Option Form) → Option Form
form_made (ok f s) = f
form_made (no r p u) = none

unfoldable pub form_at : ℕ → List Bind → Stxs → Option Form
unfolding form_made head_form
form_at ph bs nil = none
form_at ph bs (cons h l) = form_made (head_form ph h (record { left = 0; names = 0; scopes = 0; binds = bs; prunable = no_scopes; uses = no_scopes }))

unfoldable pub sum_of : List ℕ → ℕ
sum_of [] = 0
sum_of (n ∷ l) = n + sum_of l

unfoldable pub last_of : List ℕ → ℕ
last_of [] = 0
last_of (n ∷ []) = n
last_of (n ∷ m ∷ l) = last_of (m ∷ l)

unfoldable pub size_after_head : Stxs → ℕ
unfolding sizes
size_after_head nil = 0
size_after_head (cons h l) = sizes l

-- inside a list, by its form: every part of an application; a function's body; a quote's data. `charges` has the charge of each part.
unfoldable pub inside_charge : Option Form → List ℕ → Stxs → ℕ
unfolding sum_of last_of size_after_head
inside_charge none charges l = sum_of charges
inside_charge (some lambda) charges l = last_of charges
inside_charge (some let_syntax) charges l = 0
inside_charge (some quote) charges l = size_after_head l
inside_charge (some syntax) charges l = 0

unfoldable mutual
  unfolding form_at inside_charge

  pub entry_charge : ℕ → List Bind → Stx → ℕ
  entry_charge ph bs (atom c a) = 1
  entry_charge ph bs (list c l) = 1 + inside_charge (form_at ph bs l) (entry_charges ph bs l) l

  pub entry_charges : ℕ → List Bind → Stxs → List ℕ
  entry_charges ph bs nil = []
  entry_charges ph bs (cons s l) = entry_charge ph bs s ∷ entry_charges ph bs l

-- the parse job, on an object with these bindings
unfoldable pub parse_charge : List Bind → Stx → ℕ
unfolding size entry_charge
parse_charge bs r = size r + entry_charge 0 bs r
