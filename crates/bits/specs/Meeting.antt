-- What is met along the tokens, as lists, and what the code keeps of it.
use Rattle.std.specs.Prelude.{ℕ, zero, suc, ◌+◌, ◌≤◌, ◌<◌, ◌≡◌, Bool, false, not, ◌&&◌, List, [], ◌∷◌, ◌++◌, eqb, ltb, length, get_or, set, take}
use Rattle.model.specs.Choice.{when◌then◌else◌}
use Rattle.model.specs.Reading.{Read, got, fault}
use Rattle.model.specs.Meanings.{is_among}
use Rattle.model.specs.Trees.{Tree}
use Rattle.requests.specs.Panel.{all_differ, bits_of, driven}
use Rattle.bits.specs.Tokens.{read_token}
use Rattle.bits.specs.declared.Token.{Token}
use Rattle.bits.specs.declared.Gathered.{Gathered}

-- names that are kept
abbrev pub room : ℕ
room = 256

-- the last point's mark, and how many marks there are
abbrev pub last_mark : ℕ
last_mark = 1023

abbrev pub points : ℕ
points = last_mark + 1

-- ---- as lists

pub record Met : Type 0 where
  -- of the functions
  pub names : List ℕ
  -- the points driven
  pub seen : List ℕ
  -- the token before was the word `out`
  pub driving : Bool

abbrev pub none : Met
none = record { names = []; seen = []; driving = false }

unfoldable pub is_out : Token → Bool
is_out t = eqb t.tag 3 && (eqb t.kind 4 && eqb t.content 3)

unfoldable pub meet : Met → Token → Met
unfolding is_out
meet m t = record {
  names = when eqb t.tag 2 then m.names ++ t.content ∷ [] else m.names;
  seen = when m.driving && ltb t.content points then m.seen ++ t.content ∷ [] else m.seen;
  driving = is_out t;
}

abbrev pub go_on : Met → Read Token → (Token → List ℕ → Met) → Met
go_on m (got t rest) k = k t rest
go_on m (fault r) k = m

-- at most n tokens, as far as there are any
unfoldable pub along : ℕ → Met → List ℕ → Met
unfolding read_token meet
along zero m s = m
along (suc n) m s = go_on m (read_token s) (λ t rest. along n (meet m t) rest)

-- along the bytes of a program
abbrev pub met_in : Tree → Met
met_in t = record { names = bits_of t; seen = driven t; driving = false }

-- ---- as the code keeps it

unfoldable pub marked_at : List ℕ → Bool → ℕ → List ℕ
marked_at marks driving x = when driving && ltb x points then set marks x 1 else marks

unfoldable pub driven_before : List ℕ → Bool → ℕ → Bool
driven_before marks driving x = driving && ltb x points && not (eqb (get_or marks x 0) 0)

unfoldable pub counted_at : ℕ → Token → ℕ
counted_at bits t = when eqb t.tag 2 then bits + 1 else bits

unfoldable pub named_at : List ℕ → ℕ → Token → List ℕ
named_at names bits t = when eqb t.tag 2 && ltb bits room then set names bits t.content else names

pub record NoMarks (marks : List ℕ) : Type 0 where
  pub long : points ≤ length marks
  pub clear : (x : ℕ) → x < points → get_or marks x 0 ≡ 0

pub record Holds (m : Met) (marks names : List ℕ) (g : Gathered) : Type 0 where
  pub counted : g.bits ≡ length m.names
  -- where there is room for all
  pub named : length m.names ≤ room → take g.bits names ≡ m.names
  pub twice-is : g.twice ≡ not (all_differ m.seen)
  pub marked : (x : ℕ) → x < points → get_or marks x 0 ≡ (when is_among x m.seen then 1 else 0)
  pub driving-is : g.driving ≡ m.driving

-- whatever the code kept before of something met, it keeps of that and this token
pub record Noted (marks₀ names₀ : List ℕ) (g₀ : Gathered) (t : Token) (marks names : List ℕ) (g : Gathered) : Type 0 where
  pub more : g.bits ≤ g₀.bits + 1
  pub keeps : (m : Met) → Holds m marks₀ names₀ g₀ → Holds (meet m t) marks names g
