-- The code that a panel program is wired into: contacts in series and in parallel, inverses, and coils; as numbers; and the code of a
-- tree.
use Rattle.std.specs.Prelude.{ℕ, suc, ◌+◌, ◌*◌, List, [], ◌∷◌, ◌++◌, length}
use Rattle.model.specs.Objects.{Atom, symbol, number, point, prim, rung}
use Rattle.model.specs.Trees.{Tree, var, app, fun, datum, lst, stx, Trees, tnil, tcons}
use Rattle.requests.specs.Panel as p
use Rattle.requests.specs.Panel.{Word, bit, and, or, out, all, free, head_word, bits_of}
use Rattle.requests.specs.Scanning.{Bit, address_in}

-- how a value is taken: it starts a branch, or it is joined to the value before it
pub data Join : Type 0 where
  load series parallel : Join

pub data Instruction : Type 0 where
  -- of a point, and of a bit by its address
  contact bit_contact : Join → ℕ → Instruction
  -- the last branch is joined to the one before it
  join : Join → Instruction
  inverse : Instruction
  -- the last value is written to a point, or to a bit
  coil bit_coil : ℕ → Instruction

-- ---- as numbers: what it is, and a point or an address below 1,024

abbrev pub operands : ℕ
operands = 1024

unfoldable pub join_number : Join → ℕ
join_number load = 0
join_number series = 1
join_number parallel = 2

-- in the code of a tree there is no `join load`
unfoldable pub join_what : Join → ℕ
join_what load = 11
join_what series = 6
join_what parallel = 7

unfoldable pub what_of : Instruction → ℕ
unfolding join_number join_what
what_of (contact j x) = join_number j
what_of (bit_contact j a) = 3 + join_number j
what_of (join j) = join_what j
what_of inverse = 8
what_of (coil x) = 9
what_of (bit_coil a) = 10

unfoldable pub operand_of : Instruction → ℕ
operand_of (contact j x) = x
operand_of (bit_contact j a) = a
operand_of (join j) = 0
operand_of inverse = 0
operand_of (coil x) = x
operand_of (bit_coil a) = a

unfoldable pub word_of : Instruction → ℕ
unfolding what_of operand_of
word_of i = what_of i * operands + operand_of i

-- ---- the code of an expression, whose value is taken as j says

unfoldable pub join_of : Join → List Instruction
join_of load = []
join_of series = join series ∷ []
join_of parallel = join parallel ∷ []

-- how the parts behind the first are taken; `not` has none
unfoldable pub others_join : Word → Join
others_join bit = load
others_join and = series
others_join or = parallel
others_join p.not = parallel
others_join out = load
others_join p.set = load
others_join all = load
others_join free = load

-- behind the code of the parts
unfoldable pub wired_by : Word → Join → List Instruction → List Instruction
unfolding join_of
wired_by bit j parts = []
wired_by and j parts = parts ++ join_of j
wired_by or j parts = parts ++ join_of j
wired_by p.not j parts = parts ++ inverse ∷ join_of j
wired_by out j parts = []
wired_by p.set j parts = []
wired_by all j parts = []
wired_by free j parts = []

unfoldable pub wired_atom : Join → Atom → List Instruction
wired_atom j (symbol x) = []
wired_atom j (number x) = []
wired_atom j (point x) = contact j x ∷ []
wired_atom j (prim x) = []
wired_atom j (rung x) = []

unfoldable mutual
  unfolding address_in head_word others_join wired_by wired_atom

  pub wired : Join → List Bit → Tree → List Instruction
  wired j around (var n) = bit_contact j (address_in around n) ∷ []
  wired j around (app h l) = wired_by (head_word h) j (wired_all load (others_join (head_word h)) around l)
  wired j around (fun n b) = []
  wired j around (datum a) = wired_atom j a
  wired j around (lst l) = []
  wired j around (stx s) = []

  -- the first as `j` says, the others as `others` says
  pub wired_all : Join → Join → List Bit → Trees → List Instruction
  wired_all j others around tnil = []
  wired_all j others around (tcons t l) = wired j around t ++ wired_all others others around l

-- of a rung's only expression
unfoldable pub wired_first : List Bit → Trees → List Instruction
unfolding wired
wired_first around tnil = []
wired_first around (tcons e l) = wired load around e

-- ---- the code of a program: its rungs in turn, each an expression and a coil

unfoldable pub driven_by : Tree → List Instruction → List Instruction
driven_by (var n) e = []
driven_by (app h k) e = []
driven_by (fun n b) e = []
driven_by (datum (symbol x)) e = []
driven_by (datum (number x)) e = []
driven_by (datum (point x)) e = e ++ coil x ∷ []
driven_by (datum (prim x)) e = []
driven_by (datum (rung x)) e = []
driven_by (lst k) e = []
driven_by (stx s) e = []

unfoldable pub assigned_by : List Bit → Tree → List Instruction → List Instruction
unfolding address_in
assigned_by around (var n) e = e ++ bit_coil (address_in around n) ∷ []
assigned_by around (app h k) e = []
assigned_by around (fun n b) e = []
assigned_by around (datum a) e = []
assigned_by around (lst k) e = []
assigned_by around (stx s) e = []

unfoldable pub out_code : List Bit → Trees → List Instruction
unfolding driven_by wired_first
out_code around tnil = []
out_code around (tcons q l) = driven_by q (wired_first around l)

unfoldable pub set_code : List Bit → Trees → List Instruction
unfolding assigned_by wired_first
set_code around tnil = []
set_code around (tcons q l) = assigned_by around q (wired_first around l)

-- of the arguments l, with the code of the function's body and of the arguments as programs
unfoldable pub rungs_of : Word → List Bit → Trees → List Instruction → List Instruction → List Instruction
unfolding out_code set_code
rungs_of bit around l body parts = body
rungs_of and around l body parts = []
rungs_of or around l body parts = []
rungs_of p.not around l body parts = []
rungs_of out around l body parts = out_code around l
rungs_of p.set around l body parts = set_code around l
rungs_of all around l body parts = parts
rungs_of free around l body parts = []

-- `next` is the address of the next function to be met
unfoldable mutual
  unfolding head_word bits_of rungs_of

  pub rungs : List Bit → ℕ → Tree → List Instruction
  rungs around next (var n) = []
  rungs around next (app h l) = rungs_of (head_word h) around l (rungs_inside around next h) (rungs_all around next l)
  rungs around next (fun n b) = []
  rungs around next (datum a) = []
  rungs around next (lst l) = []
  rungs around next (stx s) = []

  pub rungs_inside : List Bit → ℕ → Tree → List Instruction
  rungs_inside around next (var n) = []
  rungs_inside around next (app h l) = []
  rungs_inside around next (fun n b) = rungs (record { name = n; address = next } ∷ around) (suc next) b
  rungs_inside around next (datum a) = []
  rungs_inside around next (lst l) = []
  rungs_inside around next (stx s) = []

  pub rungs_all : List Bit → ℕ → Trees → List Instruction
  rungs_all around next tnil = []
  rungs_all around next (tcons t l) = rungs around next t ++ rungs_all around (next + length (bits_of t)) l
