-- How many words of 64 bits the store has.
use Rattle.std.specs.Prelude.{ℕ, ◌+◌, ◌*◌}
use Rattle.scopes.specs.Sets.{set_words}

-- a binding: symbol, target, and the words of its set
abbrev pub binding_size : ℕ
binding_size = 2 + set_words

-- of a job: the model's most_bindings
abbrev pub most_bindings : ℕ
most_bindings = 512

abbrev pub store_size : ℕ
store_size = most_bindings * binding_size

-- with the prunable set and the use scopes behind the bindings
abbrev pub held_size : ℕ
held_size = store_size + 2 * set_words
