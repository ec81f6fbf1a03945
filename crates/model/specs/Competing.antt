-- Document 02, T-04: who competes. With code 6 come the places of two bindings, in image order and counted from 1: the first two of those
-- candidates that no other candidate contains.
use Rattle.std.specs.Prelude.{ℕ, suc, Bool, true, not, ◌&&◌, List, [], ◌∷◌}
use Rattle.model.specs.Choice.{when◌then◌else◌}
use Rattle.model.specs.Scopes.{Scopes, within}
use Rattle.model.specs.Objects.{Symbol}
use Rattle.model.specs.Resolving.{Bind, candidate, candidates}

pub record Rivals : Type 0 where
  pub first : ℕ
  pub second : ℕ

-- zero otherwise
abbrev pub no_rivals : Rivals
no_rivals = record { first = 0; second = 0 }

-- c contains b, and is another: candidates for one symbol differ in their sets
unfoldable pub contained : Bind → Bind → Bool
unfolding within
contained b c = within b.set c.set && not (within c.set b.set)

-- no other of l contains b
unfoldable pub uncontained : Bind → List Bind → Bool
unfolding contained
uncontained b [] = true
uncontained b (c ∷ l) = not (contained b c) && uncontained b l

-- b is a candidate for symbol x with set s, by the bindings bs, and no other candidate contains it
unfoldable pub competes : Symbol → Scopes → List Bind → Bind → Bool
unfolding candidate candidates uncontained
competes x s bs b = candidate x s b && uncontained b (candidates x s bs)

-- the places of those of l that compete, where the first of l has place n
unfoldable pub competing : Symbol → Scopes → List Bind → ℕ → List Bind → List ℕ
unfolding competes
competing x s bs n [] = []
competing x s bs n (b ∷ l) = when competes x s bs b then n ∷ competing x s bs (suc n) l else competing x s bs (suc n) l

-- where there are fewer than two nothing is ambiguous
unfoldable pub first_two : List ℕ → Rivals
first_two [] = no_rivals
first_two (a ∷ []) = no_rivals
first_two (a ∷ (b ∷ l)) = record { first = a; second = b }

unfoldable pub rivals : Symbol → Scopes → List Bind → Rivals
unfolding competing first_two
rivals x s bs = first_two (competing x s bs 1 bs)
