-- How long written bindings can be.
use Rattle.std.specs.Prelude.{ℕ, ◌+◌, ◌*◌}
use Rattle.store.specs.Sizes.{most_bindings}
use Rattle.numbers.specs.Weights.{longest_number}
use Rattle.sets.specs.Writing.{longest_set}

-- symbol, target, set
abbrev pub longest_binding : ℕ
longest_binding = 2 * longest_number + longest_set

abbrev pub longest_bindings : ℕ
longest_bindings = most_bindings * longest_binding
