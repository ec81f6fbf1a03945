-- How nodes, sets, bodies, cells and entries lie in the words of the table.
use Rattle.std.specs.Prelude.{◌≡◌, List, [], ◌∷◌, ℕ, ◌+◌, ◌*◌, ◌/◌, ◌%◌, ◌<◌, get_or}
use Rattle.std.proofs.lemmas.List.Edits.{sets}
use Rattle.model.specs.Objects as m
use Rattle.scopes.specs.Sets.{scopes_of}
use Rattle.scopes.specs.declared.ScopeSet.{ScopeSet}
use Rattle.table.specs.Sizes.{place_of1, place_of2}
use Rattle.table.specs.Tags.{function_tag}
use Rattle.table.specs.declared.Node.{Node}
use Rattle.table.specs.declared.Sets.{Sets}
use Rattle.table.specs.declared.Object.{Object}
use Rattle.table.specs.declared.Body.{Body}
use Rattle.table.specs.declared.Cell.{Cell}
use Rattle.table.specs.declared.Entry.{Entry}

-- ---- a word of 64 bits: its low half, then its high half

unfoldable pub join : ℕ → ℕ → ℕ
join low high = high * 4294967296 + low

unfoldable pub get_word : List ℕ → ℕ → ℕ
unfolding join
get_word l i = join (get_or l i 0) (get_or l (i + 1) 0)

unfoldable pub halves : ℕ → List ℕ
halves w = w % 4294967296 ∷ w / 4294967296 ∷ []

unfoldable pub put_word : List ℕ → ℕ → ℕ → List ℕ
unfolding halves
put_word l i w = sets l i (halves w)

-- ---- a scope set: its four words, the low one first

unfoldable pub get_set : List ℕ → ℕ → ScopeSet
unfolding get_word
get_set l i = record { words = get_word l i ∷ get_word l (i + 2) ∷ get_word l (i + 4) ∷ get_word l (i + 6) ∷ [] }

unfoldable pub put_set : List ℕ → ℕ → ScopeSet → List ℕ
unfolding put_word
put_set l i s =
    put_word (put_word (put_word (put_word l i (get_or s.words 0 0)) (i + 2) (get_or s.words 1 0)) (i + 4) (get_or s.words 2 0)) (i + 6) (get_or s.words 3 0)

-- ---- a node

unfoldable pub get_node : List ℕ → ℕ → Node
get_node l i = record { tag = get_or l i 0; content = get_or l (i + 1) 0 }

unfoldable pub node_words : Node → List ℕ
node_words n = n.tag ∷ n.content ∷ []

unfoldable pub put_node : List ℕ → ℕ → Node → List ℕ
unfolding node_words
put_node l i n = sets l i (node_words n)

-- ---- a syntax object: its node, then the sets of phases 0, 1 and 2

unfoldable pub get_sets : List ℕ → ℕ → Sets
unfolding get_set
get_sets l i = record { at0 = get_set l (i + 2); at1 = get_set l (i + place_of1); at2 = get_set l (i + place_of2) }

unfoldable pub put_sets : List ℕ → ℕ → Sets → List ℕ
unfolding put_set
put_sets l i c = put_set (put_set (put_set l (i + 2) c.at0) (i + place_of1) c.at1) (i + place_of2) c.at2

unfoldable pub put_object : List ℕ → ℕ → Object → List ℕ
unfolding put_node put_sets
put_object l i o = put_sets (put_node l i o.node) i o.sets

-- the sets that they stand for
abbrev pub sets_of : Sets → m.Sets
sets_of c = record { at0 = scopes_of c.at0; at1 = scopes_of c.at1; at2 = scopes_of c.at2 }

-- ---- a function: its node, then its body

unfoldable pub get_body : List ℕ → ℕ → Body
get_body l i = record { at = get_or l (i + 2) 0; size = get_or l (i + 3) 0; nesting = get_or l (i + 4) 0 }

unfoldable pub function_words : ℕ → Body → List ℕ
function_words n b = function_tag ∷ n ∷ b.at ∷ b.size ∷ b.nesting ∷ []

unfoldable pub put_function : List ℕ → ℕ → ℕ → Body → List ℕ
unfolding function_words
put_function l i n b = sets l i (function_words n b)

-- ---- a cell

unfoldable pub get_cell : List ℕ → ℕ → Cell
get_cell l i = record { head = get_or l i 0; tail = get_or l (i + 1) 0; weight = get_or l (i + 2) 0; size = get_or l (i + 3) 0; nesting = get_or l (i + 4) 0 }

unfoldable pub cell_words : Cell → List ℕ
cell_words c = c.head ∷ c.tail ∷ c.weight ∷ c.size ∷ c.nesting ∷ []

unfoldable pub put_cell : List ℕ → ℕ → Cell → List ℕ
unfolding cell_words
put_cell l i c = sets l i (cell_words c)

-- ---- an entry of the meanings

unfoldable pub get_entry : List ℕ → ℕ → Entry
get_entry l i = record { at = get_or l i 0; next = get_or l (i + 1) 0; name = record { 0 = get_or l (i + 2) 0 }; kind = get_or l (i + 3) 0 }

unfoldable pub entry_words : Entry → List ℕ
entry_words e = e.at ∷ e.next ∷ e.name.0 ∷ e.kind ∷ []

unfoldable pub put_entry : List ℕ → ℕ → Entry → List ℕ
unfolding entry_words
put_entry l i e = sets l i (entry_words e)

-- ---- the two tables agree below n

unfoldable pub Same : ℕ → List ℕ → List ℕ → Type 0
Same n l l' = (k : ℕ) → k < n → get_or l' k 0 ≡ get_or l k 0
