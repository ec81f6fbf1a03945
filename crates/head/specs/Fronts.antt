-- An image whose head was read.
use Rattle.std.specs.Prelude.{ℕ, ◌+◌, ◌≤◌, ◌<◌, ◌≡◌, List, ◌++◌, length}
use Rattle.model.specs.Reading as m
use Rattle.model.specs.Writing.{head_bytes}
use Rattle.numbers.specs.Limits.{most_image, one_byte_bound}
use Rattle.head.specs.declared.Head.{Head}
use Rattle.head.specs.declared.Front.{Front}

-- core names and words counted: the model's most_names
abbrev pub most_names : ℕ
most_names = 1024

-- the definitions' head, of the words and the code's counts
abbrev pub whole_head : List (List ℕ) → Head → m.Head
whole_head ws h = record { words = ws; names = h.names; scopes = h.scopes }

-- s begins with the front f
pub record Headed (s : List ℕ) (f : Front) : Type 0 where
  pub kind : ℕ
  pub words : List (List ℕ)
  pub rest : List ℕ
  pub one_byte : kind < one_byte_bound
  pub is : s ≡ head_bytes kind (whole_head words f.head) ++ rest
  pub count : f.head.words ≡ length words
  pub ends : f.end ≡ length (head_bytes kind (whole_head words f.head))
  pub names-from : 4 + f.head.words ≤ f.head.names
  pub small : length s ≤ most_image
