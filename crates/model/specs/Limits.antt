-- Document 01, 'Things and their numbers': the limits, each named once.
use Rattle.std.specs.Prelude.{ℕ}

unfoldable pub most_scopes : ℕ
most_scopes = 256

-- core names and words counted
unfoldable pub most_names : ℕ
most_names = 1024

unfoldable pub core_names : ℕ
core_names = 4

unfoldable pub most_bindings : ℕ
most_bindings = 512

-- of any object, value or tree read or made
unfoldable pub most_nesting : ℕ
most_nesting = 64

-- in progress
unfoldable pub most_entries : ℕ
most_entries = 128

unfoldable pub most_budget : ℕ
most_budget = 4096

unfoldable pub most_word_length : ℕ
most_word_length = 32

-- bytes
unfoldable pub most_image : ℕ
most_image = 65536

unfoldable pub last_phase : ℕ
last_phase = 2

unfoldable pub last_point : ℕ
last_point = 1023

unfoldable pub last_primitive : ℕ
last_primitive = 9

unfoldable pub last_rung_word : ℕ
last_rung_word = 15

-- words of the table, 32 bits each, per unit of budget
unfoldable pub words_per_unit : ℕ
words_per_unit = 40

-- the program gives each job this budget
unfoldable pub program_budget : ℕ
program_budget = 400
