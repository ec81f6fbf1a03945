-- What is written of a thing, in the order in which the code writes it: a prefix, a number, the parts.
use Rattle.std.specs.Prelude.{ℕ, suc, Bool, true, false, List, [], ◌++◌}
use Rattle.model.specs.Objects.{tag_of, content_of, Stx, atom, list, count}
use Rattle.model.specs.Trees.{Tree, Trees, var, app, fun, datum, lst, stx, tnil, tcons, tcount}
use Rattle.model.specs.Writing.{num_bytes, sets_bytes, stxs_bytes, tree_bytes, trees_bytes}

-- within a tree a syntax value is led by a tag of its own, within an object its parts are not
unfoldable pub leading : Bool → List ℕ
unfolding num_bytes
leading true = num_bytes 5
leading false = []

unfoldable pub prefix_stx : Stx → List ℕ
unfolding num_bytes tag_of sets_bytes
prefix_stx (atom c a) = num_bytes (tag_of a) ++ sets_bytes c
prefix_stx (list c l) = num_bytes 5 ++ sets_bytes c

unfoldable pub prefix : Bool → Tree → List ℕ
unfolding num_bytes tag_of leading prefix_stx
prefix lead (var n) = num_bytes 0
prefix lead (app h l) = num_bytes 1
prefix lead (fun n b) = num_bytes 2
prefix lead (datum a) = num_bytes 3 ++ num_bytes (tag_of a)
prefix lead (lst l) = num_bytes 4
prefix lead (stx s) = leading lead ++ prefix_stx s

unfoldable pub number_stx : Stx → ℕ
unfolding content_of count
number_stx (atom c a) = content_of a
number_stx (list c l) = count l

unfoldable pub number : Tree → ℕ
unfolding content_of tcount number_stx
number (var n) = n
number (app h l) = suc (tcount l)
number (fun n b) = n
number (datum a) = content_of a
number (lst l) = tcount l
number (stx s) = number_stx s

unfoldable pub front : Bool → Tree → List ℕ
unfolding prefix number num_bytes
front lead t = prefix lead t ++ num_bytes (number t)

unfoldable pub parts_stx : Stx → List ℕ
unfolding stxs_bytes
parts_stx (atom c a) = []
parts_stx (list c l) = stxs_bytes l

unfoldable pub parts : Tree → List ℕ
unfolding trees_bytes tree_bytes parts_stx
parts (var n) = []
parts (app h l) = trees_bytes (tcons h l)
parts (fun n b) = tree_bytes b
parts (datum a) = []
parts (lst l) = trees_bytes l
parts (stx s) = parts_stx s

unfoldable pub written : Bool → Tree → List ℕ
unfolding front parts
written lead t = front lead t ++ parts t

unfoldable pub written_all : Bool → Trees → List ℕ
unfolding written
written_all lead tnil = []
written_all lead (tcons t l) = written lead t ++ written_all lead l
