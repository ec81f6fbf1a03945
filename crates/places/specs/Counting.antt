-- What the words of a summary hold of some things, and where a name is found among them.
use Rattle.std.specs.Prelude.{ℕ, ◌+◌, ◌*◌, ◌≤◌, ◌<◌, ◌≡◌, Bool, ◌&&◌, List, [], ◌∷◌, ◌++◌, eqb, length, get_or, Option, Some, None}
use Rattle.model.specs.Choice.{when◌then◌else◌}
use Rattle.requests.specs.Uses as u
use Rattle.requests.specs.Uses.{uses, first_use}
use Rattle.head.specs.Fronts.{most_names}
use Rattle.places.specs.declared.Thing.{Thing}
use Rattle.places.specs.Reading.{thing_of}

-- a variable with this name
unfoldable pub is_use_of : ℕ → Thing → Bool
is_use_of n t = eqb t.tag 0 && eqb t.content n

-- room for the entries of so many names
pub record Room (names : ℕ) (words : List ℕ) : Type 0 where
  pub few : names ≤ most_names
  pub long : 2 + 2 * names ≤ length words

-- the entries of the things l
pub record Holds (names : ℕ) (l : List u.Thing) (words : List ℕ) : Type 0 where
  pub counts : (n : ℕ) → n < names → get_or words (2 + 2 * n) 0 ≡ uses n l
  pub firsts : (n : ℕ) → n < names → get_or words (3 + 2 * n) 0 ≡ first_use n l

-- no entry has more uses than this
abbrev pub Few : ℕ → List ℕ → ℕ → Type 0
Few names words most = (n : ℕ) → n < names → get_or words (2 + 2 * n) 0 ≤ most

-- what stands before and behind the entries is kept
pub record Kept (names : ℕ) (words words' : List ℕ) : Type 0 where
  pub long : length words' ≡ length words
  pub before : (i : ℕ) → i < 2 → get_or words' i 0 ≡ get_or words i 0
  pub behind : (i : ℕ) → 2 + 2 * names ≤ i → get_or words' i 0 ≡ get_or words i 0

-- what was held of the things before is held of them and this one
pub record Notes (names place : ℕ) (t : Thing) (words words' : List ℕ) : Type 0 where
  pub kept : Kept names words words'
  pub holds : (l : List u.Thing) → length l ≡ place → Holds names l words → Holds names (l ++ thing_of t ∷ []) words'

-- the entries are those of no things at all
abbrev pub Clear : ℕ → List ℕ → Type 0
Clear names words = Holds names [] words

pub record Tallied (names : ℕ) (l : List u.Thing) (words words' : List ℕ) : Type 0 where
  pub kept : Kept names words words'
  pub holds : Holds names l words'

-- the place of the first use of n
unfoldable pub found : ℕ → List u.Thing → Option ℕ
unfolding uses first_use
found n l = when eqb (uses n l) 0 then None else Some (first_use n l)
