-- What is written as a prefix, a number and the parts is what the definitions write.
use mathlib.Core.Path.{◌≡◌, refl, sym, ap, ap₂}
use mathlib.Core.Bool.{Bool, true, false}
use mathlib.Core.List.{List, [], ◌++◌, append_assoc, append-nil}
use Prim.Native.Nat.{ℕ, suc, ◌+◌}
use native.Mathlib.Omega.{arith}
use lib.ListN.{length, length-append}
use Rattle.model.specs.Objects as m
use Rattle.model.specs.Objects.{Atom, tag_of, Sets, Stx, Stxs, atom, list, nil, cons}
use Rattle.model.specs.Trees.{Tree, Trees, var, app, fun, datum, lst, stx, tnil, tcons, tcount, from_stxs}
use Rattle.model.specs.Writing.{groups_of, num_bytes, sets_bytes, stx_bytes, stxs_bytes, tree_bytes, trees_bytes}
use Rattle.writer.specs.Bytes.{leading, prefix_stx, prefix, number_stx, number, front, parts_stx, parts, written, written_all}

-- ---- the definitions' bytes

pub written-stx : (s : Stx) → written false (stx s) ≡ stx_bytes s
unfolding written front prefix leading prefix_stx number number_stx parts parts_stx stx_bytes
written-stx (atom c a) = simp (append_assoc, append-nil)
written-stx (list c l) = simp append_assoc

pub written-tree : (t : Tree) → written true t ≡ tree_bytes t
unfolding written front prefix leading prefix_stx number number_stx parts parts_stx stx_bytes tree_bytes
written-tree (var n) = simp (append_assoc, append-nil)
written-tree (app h l) = simp append_assoc
written-tree (fun n b) = simp append_assoc
written-tree (datum a) = simp (append_assoc, append-nil)
written-tree (lst l) = simp append_assoc
written-tree (stx (atom c a)) = simp (append_assoc, append-nil)
written-tree (stx (list c l)) = simp append_assoc

pub all-trees : (ts : Trees) → written_all true ts ≡ trees_bytes ts
unfolding written_all trees_bytes
all-trees tnil = refl
all-trees (tcons t ts) = ap₂ (λ (a b : List ℕ). a ++ b) (written-tree t) (all-trees ts)

pub all_stxs : (ps : Stxs) → written_all false (from_stxs ps) ≡ stxs_bytes ps
unfolding written_all stxs_bytes from_stxs
all_stxs nil = refl
all_stxs (cons s ps) = ap₂ (λ (a b : List ℕ). a ++ b) (written-stx s) (all_stxs ps)

pub count-from : (ps : Stxs) → tcount (from_stxs ps) ≡ m.count ps
unfolding tcount from_stxs m.count
count-from nil = refl
count-from (cons s ps) = ap suc (count-from ps)

-- ---- how long

tag_one : (a : Atom) → length (num_bytes (tag_of a)) ≡ 1
unfolding num_bytes groups_of tag_of
tag_one (m.symbol x) = refl
tag_one (m.number x) = refl
tag_one (m.point x) = refl
tag_one (m.prim x) = refl
tag_one (m.rung x) = refl

pub prefix-atom : (lead : Bool) (c : Sets) (a : Atom) → length (prefix lead (stx (atom c a))) ≡ length (leading lead) + 1 + length (sets_bytes c)
unfolding prefix prefix_stx
prefix-atom lead c a = simp length-append (omega (arith, tag_one a))

pub prefix-list : (lead : Bool) (c : Sets) (ps : Stxs) → length (prefix lead (stx (list c ps))) ≡ length (leading lead) + 1 + length (sets_bytes c)
unfolding prefix prefix_stx num_bytes groups_of
prefix-list lead c ps = simp length-append (omega arith)

pub leading-yes : {lead : Bool} → lead ≡ true → length (leading lead) ≡ 1
unfolding leading num_bytes groups_of
leading-yes e = rw e refl

pub leading-no : {lead : Bool} → lead ≡ false → length (leading lead) ≡ 0
unfolding leading
leading-no e = rw e refl

pub prefix-datum : (lead : Bool) (a : Atom) → length (prefix lead (datum a)) ≡ 2
unfolding prefix num_bytes groups_of
prefix-datum lead a = simp length-append (omega (arith, tag_one a))

pub front_long : (lead : Bool) (t : Tree) → length (front lead t) ≡ length (prefix lead t) + length (num_bytes (number t))
unfolding front
front_long lead t = length-append (prefix lead t) (num_bytes (number t))

pub written-long : (lead : Bool) (t : Tree) → length (written lead t) ≡ length (front lead t) + length (parts t)
unfolding written
written-long lead t = length-append (front lead t) (parts t)

pub all_none : (lead : Bool) → written_all lead tnil ≡ []
unfolding written_all
all_none lead = refl

pub all-long : (lead : Bool) (t : Tree) (ts : Trees) → length (written_all lead (tcons t ts)) ≡ length (written lead t) + length (written_all lead ts)
unfolding written_all
all-long lead t ts = length-append (written lead t) (written_all lead ts)

-- ---- the parts, by kind

pub parts-list : (c : Sets) (ps : Stxs) → parts (stx (list c ps)) ≡ written_all false (from_stxs ps)
unfolding parts parts_stx
parts-list c ps = sym (all_stxs ps)

pub parts-app : (h : Tree) (l : Trees) → parts (app h l) ≡ written_all true (tcons h l)
unfolding parts
parts-app h l = sym (all-trees (tcons h l))

pub parts-lst : (l : Trees) → parts (lst l) ≡ written_all true l
unfolding parts
parts-lst l = sym (all-trees l)

pub parts-fun : (n : ℕ) (b : Tree) → parts (fun n b) ≡ written true b
unfolding parts
parts-fun n b = sym (written-tree b)
