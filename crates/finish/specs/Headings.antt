-- The head of the image that is written after one whose head was read.
use Rattle.std.specs.Prelude.{ℕ, ◌+◌, ◌≤◌, ◌<◌, ◌≡◌, List, ◌++◌, length}
use Rattle.model.specs.Reading as m
use Rattle.model.specs.Writing.{num_bytes, words_bytes, head_bytes}
use Rattle.steps.specs.declared.State.{State}
use Rattle.numbers.specs.Limits.{one_byte_bound}
use Rattle.head.specs.declared.Front.{Front}
use Rattle.head.specs.Fronts.{Headed}
use Rattle.writer.specs.Putting.{Wrote}

-- the words read, and the counts reached
abbrev pub head_after : List (List ℕ) → State → m.Head
head_after ws t = record { words = ws; names = t.names; scopes = t.scopes }

-- a count and its words
abbrev pub section : List (List ℕ) → List ℕ
section ws = num_bytes (length ws) ++ words_bytes ws

pub record WordsEnd (s : List ℕ) (f : Front) (r : ℕ) : Type 0 where
  pub means : (g : Headed s f) → r ≡ 1 + length (section g.words)

-- more names may have been made since
pub record Longer (s : List ℕ) (f : Front) (t : State) : Type 0 where
  pub headed : Headed s f
  pub more : f.head.names ≤ t.names

-- the length is that of either kind
pub record HeadLength (s : List ℕ) (f : Front) (t : State) (r : ℕ) : Type 0 where
  pub means : (g : Headed s f) (kind : ℕ) → kind < one_byte_bound → r ≡ length (head_bytes kind (head_after g.words t))

pub record Fitting (s : List ℕ) (f : Front) (kind : ℕ) (t : State) (out : List ℕ) : Type 0 where
  pub longer : Longer s f t
  pub one_byte : kind < one_byte_bound
  pub fits : length (head_bytes kind (head_after longer.headed.words t)) ≤ length out

pub record PutsHead (s : List ℕ) (f : Front) (kind : ℕ) (t : State) (out out' : List ℕ) (r : ℕ) : Type 0 where
  pub means : (g : Headed s f) → Wrote (head_bytes kind (head_after g.words t)) out out' 0 r
