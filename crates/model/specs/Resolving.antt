-- Document 01, 'Resolving': bindings, their order, and what an identifier's name is.
use Rattle.std.specs.Prelude.{Bool, true, ◌&&◌, List, [], ◌∷◌, eqb, ltb}
use Rattle.model.specs.Choice.{when◌then◌else◌}
use Rattle.model.specs.Scopes.{Scopes, within, less_then, set_before}
use Rattle.model.specs.Objects.{Name, Symbol}

pub record Bind : Type 0 where
  pub symb : Symbol
  pub target : Name
  pub set : Scopes

-- ascending by symbol and then set
unfoldable pub bind_before : Bind → Bind → Bool
unfolding set_before less_then
bind_before a b = less_then (ltb a.symb b.symb) (eqb a.symb b.symb) (set_before a.set b.set)

-- b put in its place in an ascending list
unfoldable pub insert : Bind → List Bind → List Bind
unfolding bind_before
insert b [] = b ∷ []
insert b (c ∷ l) = when bind_before b c then b ∷ c ∷ l else c ∷ insert b l

-- ---- resolving: a name, or several candidates none of which contains every other

pub data Found : Type 0 where
  means : Name → Found
  several : Found

-- the candidates for symbol x with set s: the bindings of x whose set is contained in s
unfoldable pub candidate : Symbol → Scopes → Bind → Bool
unfolding within
candidate x s b = eqb b.symb x && within b.set s

unfoldable pub candidates : Symbol → Scopes → List Bind → List Bind
unfolding candidate
candidates x s [] = []
candidates x s (b ∷ l) = when candidate x s b then b ∷ candidates x s l else candidates x s l

-- b contains every one of l
unfoldable pub over : Bind → List Bind → Bool
unfolding within
over b [] = true
over b (c ∷ l) = within c.set b.set && over b l

-- one candidate must contain every other; its target is the name
unfoldable pub largest : List Bind → List Bind → Found
unfolding over
largest [] all = several
largest (b ∷ l) all = when over b all then means b.target else largest l all

-- no candidate: the name is the symbol itself
unfoldable pub choose : Symbol → List Bind → Found
unfolding largest
choose x [] = means x
choose x (b ∷ l) = largest (b ∷ l) (b ∷ l)

unfoldable pub resolve : Symbol → Scopes → List Bind → Found
unfolding choose candidates
resolve x s bs = choose x (candidates x s bs)
