-- What it is for two sets, bindings, objects and trees to be alike: the same but for the numbers of their scopes. A relation and no function, so
-- that one walk through the rules shows what two runs have in common, and nothing need be known of bounds or of an inverse.
use Prim.Native.Nat.{ℕ}
use mathlib.Core.Path.{◌≡◌}
use mathlib.Core.Bool.{true}
use Rattle.model.specs.Scopes.{Scope, Scopes, has}
use Rattle.model.specs.Objects.{Atom, Sets, Stx, atom, list, Stxs, nil, cons}
use Rattle.model.specs.Trees.{Tree, var, app, fun, datum, lst, stx, Trees, tnil, tcons}
use Rattle.model.specs.Resolving.{Bind}

-- each scope's new number, no two the same
pub record NewNumbers : Type 0 where
  pub to : Scope → Scope
  pub one_to_one : (j k : Scope) → to j ≡ to k → j ≡ k

-- the members of b are the new numbers of those of a
pub record SetAlike (ρ : NewNumbers) (a b : Scopes) : Type 0 where
  pub same : (k : Scope) → has k a ≡ has (ρ.to k) b
  pub comes : (j : Scope) → has j b ≡ true → (k : Scope) × (ρ.to k ≡ j)

pub record SetsAlike (ρ : NewNumbers) (c d : Sets) : Type 0 where
  pub alike0 : SetAlike ρ c.at0 d.at0
  pub alike1 : SetAlike ρ c.at1 d.at1
  pub alike2 : SetAlike ρ c.at2 d.at2

pub record BindAlike (ρ : NewNumbers) (b c : Bind) : Type 0 where
  pub symb-is : b.symb ≡ c.symb
  pub target_is : b.target ≡ c.target
  pub set_like : SetAlike ρ b.set c.set

-- ---- objects and trees: one case for each pair, so that a law goes by cases of both at once

mutual
  pub data StxAlike (ρ : NewNumbers) : Stx → Stx → Type 0 where
    atoms : {c d : Sets} (a : Atom) → SetsAlike ρ c d → StxAlike ρ (atom c a) (atom d a)
    lists : {c d : Sets} {l r : Stxs} → SetsAlike ρ c d → StxsAlike ρ l r → StxAlike ρ (list c l) (list d r)

  pub data StxsAlike (ρ : NewNumbers) : Stxs → Stxs → Type 0 where
    nils : StxsAlike ρ nil nil
    conses : {x y : Stx} {l r : Stxs} → StxAlike ρ x y → StxsAlike ρ l r → StxsAlike ρ (cons x l) (cons y r)

mutual
  pub data TreeAlike (ρ : NewNumbers) : Tree → Tree → Type 0 where
    vars : {n : ℕ} → TreeAlike ρ (var n) (var n)
    apps : {f g : Tree} {l r : Trees} → TreeAlike ρ f g → TreesAlike ρ l r → TreeAlike ρ (app f l) (app g r)
    funs : {n : ℕ} {b c : Tree} → TreeAlike ρ b c → TreeAlike ρ (fun n b) (fun n c)
    datums : {a : Atom} → TreeAlike ρ (datum a) (datum a)
    lsts : {l r : Trees} → TreesAlike ρ l r → TreeAlike ρ (lst l) (lst r)
    stxs : {x y : Stx} → StxAlike ρ x y → TreeAlike ρ (stx x) (stx y)

  pub data TreesAlike (ρ : NewNumbers) : Trees → Trees → Type 0 where
    tnils : TreesAlike ρ tnil tnil
    tconses : {t u : Tree} {l r : Trees} → TreeAlike ρ t u → TreesAlike ρ l r → TreesAlike ρ (tcons t l) (tcons u r)

-- ---- the same, as a case

pub data Same {A : Type 0} : A → A → Type 0 where
  same : {a : A} → Same a a
