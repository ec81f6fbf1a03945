-- A tree's bytes as its things, one after another.
use Rattle.std.specs.Prelude.{ℕ, zero, suc, List, [], ◌∷◌, eqb}
use Rattle.model.specs.Choice.{when◌then◌else◌}
use Rattle.model.specs.Limits.{most_nesting}
use Rattle.model.specs.Reading as m
use Rattle.model.specs.Reading.{got, fault, Reader, ◌>>=◌, ◌>>◌, give, num}
use Rattle.requests.specs.Uses as u
use Rattle.head.specs.declared.Counts.{Counts}
use Rattle.roots.specs.MeasuredObjects.{measure_stx}
use Rattle.places.specs.declared.Thing.{Thing}

abbrev pub thing : ℕ → ℕ → Thing
thing tag x = record { tag = tag; content = x }

unfoldable pub read_content : ℕ → Reader Thing
unfolding num
read_content tag = do
  x ← num
  give (thing tag x)

-- behind an atom's tag and kind
unfoldable pub read_held : Reader Thing
unfolding num
read_held = do
  num
  give (thing 3 0)

unfoldable pub read_atom : Reader Thing
unfolding num read_held
read_atom = do
  num
  read_held

-- behind a syntax value's tag
unfoldable pub read_object : Counts → Reader Thing
unfolding measure_stx most_nesting
read_object k = do
  measure_stx k.symbols k.scopes most_nesting
  give (thing 5 0)

unfoldable pub read_behind : Counts → ℕ → Reader Thing
unfolding read_atom read_object read_content
read_behind k tag = when eqb tag 3 then read_atom else when eqb tag 5 then read_object k else read_content tag

unfoldable pub read_thing : Counts → Reader Thing
unfolding num read_behind
read_thing k = do
  tag ← num
  read_behind k tag

-- how many parts follow
unfoldable pub parts_of : Thing → ℕ
parts_of t = when eqb t.tag 1 then t.content else when eqb t.tag 2 then 1 else when eqb t.tag 4 then t.content else 0

-- as the definition has it
unfoldable pub thing_of : Thing → u.Thing
thing_of t = when eqb t.tag 0 then u.variable t.content else u.other

abbrev pub onward : m.Read Thing → (Thing → List ℕ → List u.Thing) → List u.Thing
onward (got t rest) k = k t rest
onward (fault r) k = []

-- the next n things, as far as there are any
unfoldable pub along : Counts → ℕ → List ℕ → List u.Thing
unfolding read_thing thing_of
along k zero s = []
along k (suc n) s = onward (read_thing k s) (λ t rest. thing_of t ∷ along k n rest)
