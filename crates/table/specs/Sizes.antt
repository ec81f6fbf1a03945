-- How many words of the table things take, and what a unit of budget pays for. Contracts name these sizes, and every other number of words in
-- them is a sum of these.
use Rattle.std.specs.Prelude.{ℕ, ◌+◌, ◌-◌, ◌*◌}
use Rattle.scopes.specs.Sets.{set_words}

-- a scope set: two words of 32 bits for each of its words of 64
abbrev pub set_size : ℕ
set_size = 2 * set_words

-- where a node has the sets of phases 1 and 2; that of phase 0 follows tag and content
abbrev pub place_of1 : ℕ
place_of1 = 2 + set_size

abbrev pub place_of2 : ℕ
place_of2 = 2 + 2 * set_size

-- a node: tag and content, then three scope sets, or a function's body, or nothing
abbrev pub node_size : ℕ
node_size = 2 + 3 * set_size

-- a cell of a chain: thing, next cell, weight, size, nesting
abbrev pub cell_size : ℕ
cell_size = 5

-- an entry of the meanings, with the room of a cell: what the name means, next entry, name, kind of meaning
abbrev pub entry_size : ℕ
entry_size = cell_size

-- a part of a list: its node, and the cell that holds it
abbrev pub part_size : ℕ
part_size = node_size + cell_size

-- the cells of a part of a list that is made with its last part first and then turned round
abbrev pub two_cells : ℕ
two_cells = 2 * cell_size

-- a part of a list that is made with its last part first and then turned round: its node, and a cell for either time
abbrev pub turned_size : ℕ
turned_size = node_size + two_cells

-- a list's own node with the cells of two parts, and of three
abbrev pub pair_size : ℕ
pair_size = node_size + 2 * cell_size

abbrev pub triple_size : ℕ
triple_size = node_size + 3 * cell_size

-- ---- what is paid

-- a unit of budget pays for this many words: the model's words_per_unit
abbrev pub unit_size : ℕ
unit_size = 40

-- units: the model's most_budget
abbrev pub most_budget : ℕ
most_budget = 4096

-- the longest table that is lent to the work: that of the largest budget
abbrev pub table_size : ℕ
table_size = unit_size * most_budget

-- sizes are kept up to this: a charge of so much is over any budget
abbrev pub most_size : ℕ
most_size = most_budget + 1

-- what a unit leaves over where it paid for a node, and for a cell
abbrev pub node_spare : ℕ
node_spare = unit_size - node_size

abbrev pub cell_spare : ℕ
cell_spare = unit_size - cell_size

-- what two units leave over where they paid for a list of two parts, and of three
abbrev pub pair_spare : ℕ
pair_spare = 2 * unit_size - pair_size

abbrev pub triple_spare : ℕ
triple_spare = 2 * unit_size - triple_size
