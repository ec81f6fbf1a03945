-- Resolving in one pass: what is kept of the candidates seen, and what the next one makes of it.
use Rattle.std.specs.Prelude.{List, [], ◌∷◌, ℕ}
use Rattle.std.specs.Int.Bits.{bit_or}
use Rattle.model.specs.Choice.{when◌then◌else◌}
use Rattle.model.specs.Scopes.{Scopes, within}
use Rattle.model.specs.Resolving as model
use Rattle.model.specs.Resolving.{Bind, candidate, means, several}
use Rattle.scopes.specs.Sets.{scopes_of}
use Rattle.store.specs.declared.resolving.Standing.{Standing}
use Rattle.store.specs.declared.resolving.Standing.TheVariants.{Free, Clear, Unclear}
use Rattle.store.specs.declared.resolving.Resolving.{Resolving}

-- how the candidates seen stand to each other: there is none; one with this target contains every other; none does
pub data Order : Type 0 where
  free : Order
  clear : ℕ → Order
  unclear : Order

-- with the union of the candidates' sets
pub record Seen : Type 0 where
  pub order : Order
  pub union : Scopes

abbrev pub order_of : Standing → Order
order_of Free = free
order_of (Clear n) = clear n.0
order_of Unclear = unclear

abbrev pub seen_of : Resolving → Seen
seen_of r = record { order = order_of r.standing; union = scopes_of r.union }

abbrev pub none_seen : Seen
none_seen = record { order = free; union = 0 }

-- b contains every other
abbrev pub alone : Bind → Seen
alone b = record { order = clear b.target; union = b.set }

abbrev pub joined : Scopes → Bind → Seen
joined u b = record { order = unclear; union = bit_or u b.set }

-- b is not contained in u
unfoldable pub beyond_all : Scopes → Bind → Seen
beyond_all u b = when within u b.set then alone b else joined u b

unfoldable pub taking_by : Order → Scopes → Bind → Seen
unfolding beyond_all
taking_by free u b = alone b
taking_by (clear n) u b = when within b.set u then record { order = clear n; union = u } else beyond_all u b
taking_by unclear u b = beyond_all u b

-- the candidate b seen too
unfoldable pub taking : Seen → Bind → Seen
unfolding taking_by
taking s b = taking_by s.order s.union b

-- the binding b seen too: it counts where it is a candidate for symbol x with set s
unfoldable pub seeing : ℕ → Scopes → Seen → Bind → Seen
unfolding taking candidate
seeing x s seen b = when candidate x s b then taking seen b else seen

-- those of l seen too, in turn
unfoldable pub passing : ℕ → Scopes → Seen → List Bind → Seen
unfolding seeing
passing x s seen [] = seen
passing x s seen (b ∷ l) = passing x s (seeing x s seen b) l

-- what the candidates seen make of symbol x
abbrev pub meaning_by : ℕ → Order → model.Found
meaning_by x free = means x
meaning_by x (clear n) = means n
meaning_by x unclear = several

abbrev pub meaning : ℕ → Seen → model.Found
meaning x s = meaning_by x s.order
