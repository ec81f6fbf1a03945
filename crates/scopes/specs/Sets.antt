-- What the code's scope sets stand for.
use Rattle.std.specs.Prelude.{ℕ, zero, suc, ◌+◌, ◌-◌, ◌*◌, ◌/◌, ◌^◌, ◌≤◌, List, get_or}
use Rattle.model.specs.Scopes.{Scopes, members_from}
use Rattle.scopes.specs.declared.Scope.{Scope}
use Rattle.scopes.specs.declared.ScopeSet.{ScopeSet}

-- the number that n words of w bits make, those of l from place i on, the low word first
unfoldable pub words_from : ℕ → ℕ → List ℕ → ℕ → ℕ
words_from w zero l i = 0
words_from w (suc n) l i = words_from w n l (suc i) * 2 ^ w + get_or l i 0

-- digits of a word
abbrev pub word_digits : ℕ
word_digits = 64

-- a set is this many words: the code's ScopeSet::WORDS
abbrev pub set_words : ℕ
set_words = 4

-- so it has a digit for this many scopes: the model's most_scopes
abbrev pub set_scopes : ℕ
set_scopes = set_words * word_digits

abbrev pub scopes_of : ScopeSet → Scopes
scopes_of s = words_from word_digits set_words s.words 0

-- a scope's number is counted from 1
pub record Declared (k : Scope) : Type 0 where
  pub from_one : 1 ≤ k.0
  pub most : k.0 ≤ set_scopes

-- the members whose numbers take two groups in an image: those from 128 on
abbrev pub most_long : ℕ
most_long = set_scopes - 127

abbrev pub long_members : Scopes → List ℕ
long_members m = members_from most_long 128 (m / 2 ^ 127)
