-- Document 02, T-01, panel profile: which trees are programs, the bits in order of address, the points driven, and the check of a
-- tree image.
use Rattle.std.specs.Prelude.{ℕ, zero, suc, ◌*◌, Bool, true, false, ◌&&◌, List, [], ◌∷◌, ◌++◌, eqb, leb, length, drop}
use Rattle.std.proofs.Math.Bool as b
use Rattle.model.specs.Choice.{when◌then◌else◌}
use Rattle.model.specs.Refusals.{Refusal, unowned, too_long, code_of}
use Rattle.model.specs.Objects.{Atom, symbol, number, point, prim, rung}
use Rattle.model.specs.Trees.{Tree, var, app, fun, datum, lst, stx, Trees, tnil, tcons, tcount}
use Rattle.model.specs.Reading.{Read, got, fault, Image, read_tree_image, read_image}
use Rattle.model.specs.Meanings.{is_among}
use Rattle.model.specs.Jobs.{Answer, closed}
use Rattle.addresses.specs.OneNameOneAddress.{function_names}

unfoldable pub most_bits : ℕ
most_bits = 256

-- ---- what stands at the head of an application: a function, which is a bit; rung words 0 and, 1 or, 2 not, 3 out, 4 set, 5 all; or
-- anything else, the free rung words among it

pub data Word : Type 0 where
  bit and or not out set all free : Word

unfoldable pub word_numbered : ℕ → Word
word_numbered zero = and
word_numbered (suc zero) = or
word_numbered (suc (suc zero)) = not
word_numbered (suc (suc (suc zero))) = out
word_numbered (suc (suc (suc (suc zero)))) = set
word_numbered (suc (suc (suc (suc (suc zero))))) = all
word_numbered (suc (suc (suc (suc (suc (suc n)))))) = free

unfoldable pub word_of : Atom → Word
unfolding word_numbered
word_of (symbol x) = free
word_of (number x) = free
word_of (point x) = free
word_of (prim x) = free
word_of (rung x) = word_numbered x

unfoldable pub head_word : Tree → Word
unfolding word_of
head_word (var n) = free
head_word (app h l) = free
head_word (fun n b) = bit
head_word (datum a) = word_of a
head_word (lst l) = free
head_word (stx s) = free

-- ---- one part of a tree, as points, bits, and start values

unfoldable pub is_point : Atom → Bool
is_point (symbol x) = false
is_point (number x) = false
is_point (point x) = true
is_point (prim x) = false
is_point (rung x) = false

unfoldable pub is_point_tree : Tree → Bool
unfolding is_point
is_point_tree (var n) = false
is_point_tree (app h l) = false
is_point_tree (fun n b) = false
is_point_tree (datum a) = is_point a
is_point_tree (lst l) = false
is_point_tree (stx s) = false

unfoldable pub is_variable : Tree → Bool
is_variable (var n) = true
is_variable (app h l) = false
is_variable (fun n b) = false
is_variable (datum a) = false
is_variable (lst l) = false
is_variable (stx s) = false

-- the number 0 or 1
unfoldable pub is_binary : Tree → Bool
is_binary (var n) = false
is_binary (app h l) = false
is_binary (fun n b) = false
is_binary (datum (symbol x)) = false
is_binary (datum (number x)) = leb x 1
is_binary (datum (point x)) = false
is_binary (datum (prim x)) = false
is_binary (datum (rung x)) = false
is_binary (lst l) = false
is_binary (stx s) = false

-- exactly one argument, the number 0 or 1
unfoldable pub is_start : Trees → Bool
unfolding tcount is_binary
is_start tnil = false
is_start (tcons v l) = is_binary v && eqb (tcount l) 0

-- ---- an expression is a point, a bit in scope (code 3 has settled that there is one), `and` or `or` of at least two expressions,
-- or `not` of one

-- of `count` parts, which are expressions or not
unfoldable pub is_expression_of : Word → ℕ → Bool → Bool
is_expression_of bit count parts = false
is_expression_of and count parts = leb 2 count && parts
is_expression_of or count parts = leb 2 count && parts
is_expression_of not count parts = eqb count 1 && parts
is_expression_of out count parts = false
is_expression_of set count parts = false
is_expression_of all count parts = false
is_expression_of free count parts = false

unfoldable mutual
  unfolding is_point tcount head_word is_expression_of

  pub is_expression : Tree → Bool
  is_expression (var n) = true
  is_expression (app h l) = is_expression_of (head_word h) (tcount l) (are_expressions l)
  is_expression (fun n b) = false
  is_expression (datum a) = is_point a
  is_expression (lst l) = false
  is_expression (stx s) = false

  pub are_expressions : Trees → Bool
  are_expressions tnil = true
  are_expressions (tcons t l) = is_expression t && are_expressions l

-- a place that `is` takes, and exactly one expression
unfoldable pub is_rung : (Tree → Bool) → Trees → Bool
unfolding tcount are_expressions
is_rung is tnil = false
is_rung is (tcons p l) = is p && eqb (tcount l) 1 && are_expressions l

-- ---- a program is a function applied to number 0 or 1 whose body is a program; `all` of one or more programs; `out` of a point and
-- an expression; or `set` of a bit and an expression

-- of the arguments l, where the function's body and the arguments are programs or not
unfoldable pub is_program_of : Word → Trees → Bool → Bool → Bool
unfolding tcount is_start is_rung is_point_tree is_variable
is_program_of bit l body parts = body && is_start l
is_program_of and l body parts = false
is_program_of or l body parts = false
is_program_of not l body parts = false
is_program_of out l body parts = is_rung is_point_tree l
is_program_of set l body parts = is_rung is_variable l
is_program_of all l body parts = leb 1 (tcount l) && parts
is_program_of free l body parts = false

unfoldable mutual
  unfolding head_word is_program_of

  pub is_program : Tree → Bool
  is_program (var n) = false
  is_program (app h l) = is_program_of (head_word h) l (is_program_inside h) (are_programs l)
  is_program (fun n b) = false
  is_program (datum a) = false
  is_program (lst l) = false
  is_program (stx s) = false

  -- a function's body
  pub is_program_inside : Tree → Bool
  is_program_inside (var n) = false
  is_program_inside (app h l) = false
  is_program_inside (fun n b) = is_program b
  is_program_inside (datum a) = false
  is_program_inside (lst l) = false
  is_program_inside (stx s) = false

  pub are_programs : Trees → Bool
  are_programs tnil = true
  are_programs (tcons t l) = is_program t && are_programs l

-- ---- the bits: the names of the functions, outermost and leftmost first. A bit's address is its place here, from 0.
unfoldable pub bits_of : Tree → List ℕ
unfolding function_names
bits_of t = function_names t

-- ---- the points that `out` drives, in that order too

unfoldable pub point_of : Tree → List ℕ
point_of (var n) = []
point_of (app h l) = []
point_of (fun n b) = []
point_of (datum (symbol x)) = []
point_of (datum (number x)) = []
point_of (datum (point x)) = x ∷ []
point_of (datum (prim x)) = []
point_of (datum (rung x)) = []
point_of (lst l) = []
point_of (stx s) = []

unfoldable pub first_point : Trees → List ℕ
unfolding point_of
first_point tnil = []
first_point (tcons p l) = point_of p

unfoldable pub driven_of : Word → Trees → List ℕ → List ℕ → List ℕ
unfolding first_point
driven_of bit l body parts = body
driven_of and l body parts = []
driven_of or l body parts = []
driven_of not l body parts = []
driven_of out l body parts = first_point l
driven_of set l body parts = []
driven_of all l body parts = parts
driven_of free l body parts = []

unfoldable mutual
  unfolding head_word driven_of

  pub driven : Tree → List ℕ
  driven (var n) = []
  driven (app h l) = driven_of (head_word h) l (driven_inside h) (driven_all l)
  driven (fun n b) = []
  driven (datum a) = []
  driven (lst l) = []
  driven (stx s) = []

  pub driven_inside : Tree → List ℕ
  driven_inside (var n) = []
  driven_inside (app h l) = []
  driven_inside (fun n b) = driven b
  driven_inside (datum a) = []
  driven_inside (lst l) = []
  driven_inside (stx s) = []

  pub driven_all : Trees → List ℕ
  driven_all tnil = []
  driven_all (tcons t l) = driven t ++ driven_all l

unfoldable pub all_differ : List ℕ → Bool
unfolding is_among
all_differ [] = true
all_differ (n ∷ l) = b.not (is_among n l) && all_differ l

-- ---- the refusals: those of document 01, 21 outside the profile, 22 point driven twice, 23 too many bits

pub data PanelRefusal : Type 0 where
  base : Refusal → PanelRefusal
  outside driven_twice too_many_bits : PanelRefusal

abbrev pub panel_code : PanelRefusal → ℕ
panel_code (base r) = code_of r
panel_code outside = 21
panel_code driven_twice = 22
panel_code too_many_bits = 23

-- ---- the check: each over the whole tree, so that the smallest number counts

pub data PanelEnding : Type 0 where
  refused : PanelRefusal → PanelEnding
  -- each bit's name, in order of address
  listed : List ℕ → PanelEnding

unfoldable pub profile : Tree → PanelEnding
unfolding closed is_program all_differ driven bits_of most_bits
profile t =
    when closed [] t then
    when is_program t then
    when all_differ (driven t) then
    when leb (length (bits_of t)) most_bits then listed (bits_of t) else refused too_many_bits
    else refused driven_twice
    else refused outside
    else refused (base unowned)

unfoldable pub of_image : Read (Image Tree) → PanelEnding
unfolding profile
of_image (got i s) = profile i.root
of_image (fault r) = refused (base r)

-- 2 for the length, the image from the front, 3, 21, 22, 23
unfoldable pub panel_of : List ℕ → PanelEnding
unfolding of_image read_image read_tree_image
panel_of image = of_image (read_image read_tree_image image)

-- and last 20, where there is no room for so many words
unfoldable pub room_for : ℕ → PanelEnding → PanelEnding
room_for room (refused r) = refused r
room_for room (listed l) = when leb (length l) room then listed l else refused (base too_long)

unfoldable pub panel_answer : PanelEnding → Answer
panel_answer (refused r) = record { code = panel_code r; units = 0; name = 0; len = 0; first = 0; second = 0 }
-- the length counts bytes, four for each bit
panel_answer (listed l) = record { code = 0; units = 0; name = 0; len = 4 * length l; first = 0; second = 0 }

-- every refusal leaves `bits` as it was
unfoldable pub bits_after : PanelEnding → List ℕ → List ℕ
bits_after (refused r) bits = bits
bits_after (listed l) bits = l ++ drop (length l) bits

pub record PanelResult : Type 0 where
  pub answer : Answer
  pub bits : List ℕ

unfoldable pub panel_job : List ℕ → List ℕ → PanelResult
unfolding panel_answer bits_after room_for panel_of
panel_job image bits = let e = room_for (length bits) (panel_of image) in record { answer = panel_answer e; bits = bits_after e bits }
