-- Document 02, T-02, scan runner: the state, which is each point's value and each bit's; what contacts come to, what coils write, and one
-- scan over the rungs.
use Rattle.std.specs.Prelude.{ℕ, zero, suc, ◌+◌, List, [], ◌∷◌, ◌++◌, eqb, length, get_or, set, replicate}
use Rattle.model.specs.Choice.{when◌then◌else◌}
use Rattle.model.specs.Limits.{last_point}
use Rattle.model.specs.Objects.{Atom, symbol, number, point, prim, rung}
use Rattle.model.specs.Trees.{Tree, var, app, fun, datum, lst, stx, Trees, tnil, tcons}
use Rattle.requests.specs.Panel as p
use Rattle.requests.specs.Panel.{Word, bit, and, or, out, all, free, head_word, bits_of}
use Rattle.requests.specs.Recording.{Change}

-- ---- the state: each point's value, and each bit's by its address. Points start at 0, bits at their start value.

pub record State : Type 0 where
  pub points : List ℕ
  pub bits : List ℕ

-- the start value, which is a function's only argument
unfoldable pub start_value : Trees → ℕ
start_value tnil = 0
start_value (tcons (var n) l) = 0
start_value (tcons (app h k) l) = 0
start_value (tcons (fun n b) l) = 0
start_value (tcons (datum (symbol x)) l) = 0
start_value (tcons (datum (number x)) l) = x
start_value (tcons (datum (point x)) l) = 0
start_value (tcons (datum (prim x)) l) = 0
start_value (tcons (datum (rung x)) l) = 0
start_value (tcons (lst k) l) = 0
start_value (tcons (stx s) l) = 0

unfoldable pub starts_of : Word → Trees → List ℕ → List ℕ → List ℕ
unfolding start_value
starts_of bit l body parts = start_value l ∷ body
starts_of and l body parts = []
starts_of or l body parts = []
starts_of p.not l body parts = []
starts_of out l body parts = []
starts_of p.set l body parts = []
starts_of all l body parts = parts
starts_of free l body parts = []

unfoldable mutual
  unfolding head_word starts_of

  pub starts : Tree → List ℕ
  starts (var n) = []
  starts (app h l) = starts_of (head_word h) l (starts_inside h) (starts_all l)
  starts (fun n b) = []
  starts (datum a) = []
  starts (lst l) = []
  starts (stx s) = []

  pub starts_inside : Tree → List ℕ
  starts_inside (var n) = []
  starts_inside (app h l) = []
  starts_inside (fun n b) = starts b
  starts_inside (datum a) = []
  starts_inside (lst l) = []
  starts_inside (stx s) = []

  pub starts_all : Trees → List ℕ
  starts_all tnil = []
  starts_all (tcons t l) = starts t ++ starts_all l

unfoldable pub at_start : Tree → State
unfolding last_point starts
at_start t = record { points = replicate (suc last_point) 0; bits = starts t }

-- ---- the bits in scope: the functions around a place, the innermost first, each with its address

pub record Bit : Type 0 where
  pub name : ℕ
  pub address : ℕ

unfoldable pub address_in : List Bit → ℕ → ℕ
address_in [] n = 0
address_in (b ∷ around) n = when eqb n b.name then b.address else address_in around n

-- ---- contacts: the value of an expression, 0 or 1. `and` is contacts in series, `or` in parallel, `not` a contact that is closed at rest.

unfoldable pub both : ℕ → ℕ → ℕ
both zero b = 0
both (suc a) b = b

unfoldable pub either : ℕ → ℕ → ℕ
either zero b = b
either (suc a) b = 1

unfoldable pub opposite : ℕ → ℕ
opposite zero = 1
opposite (suc a) = 0

unfoldable pub value_of_atom : State → Atom → ℕ
value_of_atom s (symbol x) = 0
value_of_atom s (number x) = 0
value_of_atom s (point x) = get_or s.points x 0
value_of_atom s (prim x) = 0
value_of_atom s (rung x) = 0

unfoldable pub all_of : List ℕ → ℕ
unfolding both
all_of [] = 1
all_of (v ∷ l) = both v (all_of l)

unfoldable pub any_of : List ℕ → ℕ
unfolding either
any_of [] = 0
any_of (v ∷ l) = either v (any_of l)

-- of the values of the parts; `not` has one
unfoldable pub value_by : Word → List ℕ → ℕ
unfolding all_of any_of opposite
value_by bit l = 0
value_by and l = all_of l
value_by or l = any_of l
value_by p.not l = opposite (any_of l)
value_by out l = 0
value_by p.set l = 0
value_by all l = 0
value_by free l = 0

unfoldable mutual
  unfolding address_in value_by value_of_atom head_word

  pub value_of : List Bit → State → Tree → ℕ
  value_of around s (var n) = get_or s.bits (address_in around n) 0
  value_of around s (app h l) = value_by (head_word h) (values_of around s l)
  value_of around s (fun n b) = 0
  value_of around s (datum a) = value_of_atom s a
  value_of around s (lst l) = 0
  value_of around s (stx x) = 0

  pub values_of : List Bit → State → Trees → List ℕ
  values_of around s tnil = []
  values_of around s (tcons t l) = value_of around s t ∷ values_of around s l

-- of a rung's only expression
unfoldable pub value_of_first : List Bit → State → Trees → ℕ
unfolding value_of
value_of_first around s tnil = 0
value_of_first around s (tcons e l) = value_of around s e

-- ---- coils: the rungs, left to right. What one writes, every later one sees.

unfoldable pub write_point : ℕ → ℕ → State → State
write_point x v s = record { points = set s.points x v; bits = s.bits }

unfoldable pub write_bit : ℕ → ℕ → State → State
write_bit a v s = record { points = s.points; bits = set s.bits a v }

-- `out` and `set`, by the place driven
unfoldable pub drive : Tree → ℕ → State → State
unfolding write_point
drive (var n) v s = s
drive (app h k) v s = s
drive (fun n b) v s = s
drive (datum (symbol x)) v s = s
drive (datum (number x)) v s = s
drive (datum (point x)) v s = write_point x v s
drive (datum (prim x)) v s = s
drive (datum (rung x)) v s = s
drive (lst k) v s = s
drive (stx x) v s = s

unfoldable pub assign : List Bit → Tree → ℕ → State → State
unfolding write_bit address_in
assign around (var n) v s = write_bit (address_in around n) v s
assign around (app h k) v s = s
assign around (fun n b) v s = s
assign around (datum a) v s = s
assign around (lst k) v s = s
assign around (stx x) v s = s

unfoldable pub out_rung : List Bit → Trees → State → State
unfolding drive value_of_first
out_rung around tnil s = s
out_rung around (tcons q l) s = drive q (value_of_first around s l) s

unfoldable pub set_rung : List Bit → Trees → State → State
unfolding assign value_of_first
set_rung around tnil s = s
set_rung around (tcons q l) s = assign around q (value_of_first around s l) s

-- of the arguments l, after the function's body or after the arguments as programs
unfoldable pub work_of : Word → List Bit → Trees → State → State → State → State
unfolding out_rung set_rung
work_of bit around l s body parts = body
work_of and around l s body parts = s
work_of or around l s body parts = s
work_of p.not around l s body parts = s
work_of out around l s body parts = out_rung around l s
work_of p.set around l s body parts = set_rung around l s
work_of all around l s body parts = parts
work_of free around l s body parts = s

-- `next` is the address of the next function to be met
unfoldable mutual
  unfolding head_word bits_of work_of

  pub work : List Bit → ℕ → Tree → State → State
  work around next (var n) s = s
  work around next (app h l) s = work_of (head_word h) around l s (work_inside around next h s) (work_all around next l s)
  work around next (fun n b) s = s
  work around next (datum a) s = s
  work around next (lst l) s = s
  work around next (stx x) s = s

  pub work_inside : List Bit → ℕ → Tree → State → State
  work_inside around next (var n) s = s
  work_inside around next (app h l) s = s
  work_inside around next (fun n b) s = work (record { name = n; address = next } ∷ around) (suc next) b s
  work_inside around next (datum a) s = s
  work_inside around next (lst l) s = s
  work_inside around next (stx x) s = s

  pub work_all : List Bit → ℕ → Trees → State → State
  work_all around next tnil s = s
  work_all around next (tcons t l) s = work_all around (next + length (bits_of t)) l (work around next t s)

-- ---- a scan applies the changes, then works the rungs

unfoldable pub changed : List Change → List ℕ → List ℕ
changed [] points = points
changed (c ∷ l) points = changed l (set points c.place c.value)

unfoldable pub change : List Change → State → State
unfolding changed
change l s = record { points = changed l s.points; bits = s.bits }

unfoldable pub scan : Tree → List Change → State → State
unfolding change work
scan t c s = work [] 0 t (change c s)

unfoldable pub scans : Tree → List (List Change) → State → State
unfolding scan
scans t [] s = s
scans t (c ∷ l) s = scans t l (scan t c s)
