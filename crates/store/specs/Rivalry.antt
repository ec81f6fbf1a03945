-- What resolving decides, with those that compete where it is ambiguous; and the next that competes.
use Rattle.std.specs.Prelude.{Option, Some, None, Result, Ok, Err, ◌≡◌, List, [], ◌∷◌, ℕ, suc, ◌-◌, ◌≤◌}
use Rattle.model.specs.Scopes.{Scopes}
use Rattle.model.specs.Resolving as model
use Rattle.model.specs.Resolving.{Bind, resolve}
use Rattle.model.specs.Competing as m
use Rattle.model.specs.Competing.{competing, rivals}
use Rattle.scopes.specs.declared.Name.{Name}
use Rattle.store.specs.declared.rivals.Rivals.{Rivals}
use Rattle.store.specs.Words.{binds_from, binds_of}

abbrev pub rivals_of : Rivals → m.Rivals
rivals_of r = record { first = r.first; second = r.second }

-- a name, or those that compete
pub data Decision : Type 0 where
  means : ℕ → Decision
  several : m.Rivals → Decision

abbrev pub decision : m.Rivals → model.Found → Decision
decision p (model.means n) = means n
decision p model.several = several p

-- document 01's answer, and request T-04's beside it
unfoldable pub decided : ℕ → Scopes → List Bind → Decision
unfolding resolve rivals
decided x s bs = decision (rivals x s bs) (resolve x s bs)

-- the code's answer
abbrev pub found_of : Result Name Rivals → Decision
found_of (Ok n) = means n.0
found_of (Err p) = several (rivals_of p)

-- those that compete, of the bindings behind the first i of n
abbrev pub competing_from : ℕ → Scopes → List ℕ → ℕ → ℕ → List ℕ
competing_from x s l n i = competing x s (binds_of l n) (suc i) (binds_from l i (n - i))

-- r is the place of the first of them, and behind it come the others; there is none where r is None
pub record NextRival (x : ℕ) (s : Scopes) (l : List ℕ) (n i : ℕ) (r : Option ℕ) : Type 0 where
  pub none : r ≡ None → competing_from x s l n i ≡ []
  pub some : (k : ℕ) → r ≡ Some k → (k ≤ n) × (competing_from x s l n i ≡ k ∷ competing_from x s l n k)
