-- A tree of an image read as code: the words of an expression, and the words and start values of a program. `table` has the addresses of
-- the bits around, by their names. What is no program is read somehow, or not at all: the image has been checked.
use Rattle.std.specs.Prelude.{ℕ, zero, suc, ◌+◌, ◌-◌, ◌*◌, ◌≤◌, ◌≡◌, true, List, [], ◌∷◌, ◌++◌, map, eqb, ltb, leb, length, set, take, replicate, Result}
use Rattle.std.proofs.lemmas.List.Edits.{sets}
use Rattle.model.specs.Choice.{when◌then◌else◌}
use Rattle.model.specs.Limits.{most_nesting}
use Rattle.model.specs.Refusals.{layout}
use Rattle.model.specs.Trees.{Tree}
use Rattle.model.specs.Reading as m
use Rattle.model.specs.Reading.{Reader, ◌>>=◌, ◌>>◌, give, fail, need, got, read_tree}
use Rattle.codec_laws.specs.WellFormed.{Bytes, HeadFits}
use Rattle.requests.specs.Panel.{is_program, bits_of}
use Rattle.requests.specs.Scanning.{starts}
use Rattle.ladder.specs.Code.{word_of, rungs}
use Rattle.numbers.specs.declared.Cursor.{Cursor}
use Rattle.refusals.specs.declared.Refusal.{Refusal}
use Rattle.numbers.specs.Limits.{most_image}
use Rattle.numbers.specs.Answers.{read_at, kept}
use Rattle.bits.specs.declared.Token.{Token}
use Rattle.bits.specs.Tokens.{read_token}
use Rattle.bits.specs.Meeting.{room}
use Rattle.wiring.specs.declared.Wired.{Wired}
use Rattle.wiring.specs.Words.{operands, most_words, place_word, others_of, ending_of}

-- ---- expressions: `part` reads a part whose value is taken as it is told

-- the first is taken as j says, the others as `others` says; `before` is the words of those before
unfoldable pub wire_parts : (ℕ → Reader (List ℕ)) → ℕ → ℕ → List ℕ → ℕ → Reader (List ℕ)
wire_parts part j others before zero = give before
wire_parts part j others before (suc n) = do
  w ← part j
  wire_parts part others others (before ++ w) n

-- a head and its parts, n in all
unfoldable pub wire_application : (ℕ → Reader (List ℕ)) → ℕ → ℕ → Reader (List ℕ)
unfolding read_token wire_parts others_of ending_of
wire_application part j n = do
  h ← read_token
  w ← wire_parts part 0 (others_of h.content) [] (n - 1)
  give (w ++ ending_of h.content j)

unfoldable pub wire_contact : List ℕ → ℕ → Token → Reader (List ℕ)
unfolding place_word
wire_contact table j t = do
  need layout (ltb t.content operands)
  give (place_word table j (j + 3) t ∷ [])

unfoldable pub wire_token : (ℕ → Reader (List ℕ)) → List ℕ → ℕ → Token → Reader (List ℕ)
unfolding wire_application wire_contact
wire_token part table j t = when eqb t.tag 1 then wire_application part j t.content else wire_contact table j t

-- an expression where l levels are left
unfoldable pub wire_tree : List ℕ → ℕ → ℕ → Reader (List ℕ)
unfolding read_token wire_token
wire_tree table zero j = fail layout
wire_tree table (suc l) j = do
  t ← read_token
  wire_token (wire_tree table l) table j t

-- ---- programs

pub record Given : Type 0 where
  pub words : List ℕ
  pub starts : List ℕ

abbrev pub nothing : Given
nothing = record { words = []; starts = [] }

abbrev pub both : Given → Given → Given
both a b = record { words = a.words ++ b.words; starts = a.starts ++ b.starts }

unfoldable pub wire_coil : List ℕ → Token → List ℕ → Reader Given
unfolding place_word
wire_coil table t w = do
  need layout (ltb t.content operands)
  give (record { words = w ++ place_word table 9 10 t ∷ []; starts = [] })

-- the place driven, and the expression
unfoldable pub wire_rung : List ℕ → ℕ → Reader Given
unfolding read_token wire_tree wire_coil
wire_rung table l = do
  t ← read_token
  w ← wire_tree table l 0
  wire_coil table t w

-- the start value behind a function's body
unfoldable pub start_number : Reader ℕ
unfolding read_token
start_number = do
  t ← read_token
  need layout (leb t.content 1)
  give t.content

-- `part` reads a program, with the table and the next address
unfoldable pub wire_bit : (List ℕ → ℕ → Reader Given) → List ℕ → ℕ → ℕ → Reader Given
unfolding start_number
wire_bit part table next name = do
  need layout (ltb name operands)
  need layout (ltb next room)
  g ← part (set table name next) (next + 1)
  v ← start_number
  give (record { words = g.words; starts = v ∷ g.starts })

unfoldable pub wire_programs : (ℕ → Reader Given) → ℕ → Given → ℕ → Reader Given
wire_programs part next before zero = give before
wire_programs part next before (suc n) = do
  g ← part (next + length before.starts)
  wire_programs part next (both before g) n

-- by the head, of n parts in all
unfoldable pub wire_by : (List ℕ → ℕ → Reader Given) → Reader Given → List ℕ → ℕ → ℕ → Token → Reader Given
unfolding wire_bit wire_programs
wire_by part rung table next n h =
    when eqb h.tag 2 then wire_bit part table next h.content
    else when eqb h.content 5 then wire_programs (part table) next nothing (n - 1)
    else rung

unfoldable pub wire_head : (List ℕ → ℕ → Reader Given) → Reader Given → List ℕ → ℕ → ℕ → Reader Given
unfolding read_token wire_by
wire_head part rung table next n = do
  h ← read_token
  wire_by part rung table next n h

unfoldable pub wire_program : ℕ → List ℕ → ℕ → Reader Given
unfolding read_token wire_head wire_rung
wire_program zero table next = fail layout
wire_program (suc l) table next = do
  t ← read_token
  wire_head (wire_program l) (wire_rung table l) table next t.content

-- ---- what the code says of it

-- words so far
abbrev pub counted_at : ℕ → ℕ → m.Read (List ℕ) → Result (ℕ × Cursor) Refusal
counted_at count end g = read_at end (kept (λ (w : List ℕ). count + length w) g)

pub record Wrote (count end : ℕ) (g : m.Read (List ℕ)) (code code' : List ℕ) (r : Result (ℕ × Cursor) Refusal) : Type 0 where
  pub place : r ≡ counted_at count end g
  pub written : (w rest : List ℕ) → g ≡ got w rest → code' ≡ sets code count w

abbrev pub after : Wired → Given → Wired
after at g = record { words = at.words + length g.words; bits = at.bits + length g.starts }

abbrev pub wired_at : Wired → ℕ → m.Read Given → Result (Wired × Cursor) Refusal
wired_at at end g = read_at end (kept (after at) g)

pub record Wires (at : Wired) (end : ℕ) (g : m.Read Given) (code bits code' bits' : List ℕ) (r : Result (Wired × Cursor) Refusal) : Type 0 where
  pub place : r ≡ wired_at at end g
  pub written : (x : Given) (rest : List ℕ) → g ≡ got x rest → code' ≡ sets code at.words x.words
  pub started : (x : Given) (rest : List ℕ) → g ≡ got x rest → bits' ≡ sets bits at.bits x.starts

-- a rung starts no bit
abbrev pub WiresRung : Wired → ℕ → m.Read Given → List ℕ → List ℕ → Result (Wired × Cursor) Refusal → Type 0
WiresRung at end g code code' r = (bits : List ℕ) → Wires at end g code bits code' bits r

-- the next bit is met
abbrev pub inside : Wired → Wired
inside at = record { words = at.words; bits = at.bits + 1 }

-- no name has an address yet
abbrev pub none_around : List ℕ
none_around = replicate operands 0

-- what is asked: the image is short, there are no more words than half of its bytes so far, and there is room
pub record Fits (at : ℕ) (s around code : List ℕ) (count : ℕ) : Type 0 where
  pub short : at + length s ≤ most_image
  pub half : 2 * count ≤ at
  pub named : operands ≤ length around
  pub long : most_words ≤ length code

-- ---- what it says of the bytes of a program

pub record Holds (t : Tree) (code bits : List ℕ) (r : Wired) : Type 0 where
  pub words_are : r.words ≡ length (rungs [] 0 t)
  pub code_is : take r.words code ≡ map word_of (rungs [] 0 t)
  pub counted : r.bits ≡ length (bits_of t)
  pub bits_are : take r.bits bits ≡ starts t

abbrev pub Tells : List ℕ → List ℕ → List ℕ → Wired → Type 0
Tells s code bits r = (h : m.Head) (t : Tree) → HeadFits h → Bytes s → read_tree most_nesting h 0 s ≡ got t [] → is_program t ≡ true → length (bits_of t) ≤ room → Holds t code bits r
