-- How long what is written is: nothing takes no byte, and a whole is at least as long as its parts.
use Prim.Native.Nat.{ℕ, suc, ◌+◌, ◌%◌, ◌/◌, ◌≤◌, ◌<◌, zero-le, suc-le-suc}
use mathlib.Core.Path.{◌≡◌}
use borrow.Author.Tests.{lt-ltb}
use native.Mathlib.Nat.{le_refl}
use native.Mathlib.Omega.{arith}
use mathlib.Core.Bool.{Bool, true, false}
use mathlib.Core.List.{List, [], ◌∷◌, ◌++◌}
use lib.Dec.{ltb}
use lib.ListN.{length, length-append}
use Rattle.model.specs.Choice.{when◌then◌else◌}
use Rattle.model.specs.Objects.{tag_of, content_of, Stx, atom, list, Stxs, nil, cons, count}
use Rattle.model.specs.Trees.{Tree, var, app, fun, datum, lst, stx, Trees, tnil, tcons, tcount}
use Rattle.model.specs.Writing.{groups_of, num_bytes, sets_bytes, stx_bytes, stxs_bytes, tree_bytes, trees_bytes}

-- the first or the second of two is no longer than both
pub left_le : (n : ℕ) (a b : List ℕ) → length (a ++ b) ≤ n → length a ≤ n
left_le n a b h = omega (arith, length-append a b)

pub right_le : (n : ℕ) (a b : List ℕ) → length (a ++ b) ≤ n → length b ≤ n
right_le n a b h = omega (arith, length-append a b)

pub num-some : (n : ℕ) → 1 ≤ length (num_bytes n)
unfolding num_bytes groups_of
num-some n = go (ltb n 128)
  where
    go : (t : Bool) → 1 ≤ length (when t then n ∷ [] else (n % 128 + 128) ∷ groups_of 3 (n / 128))
    go true = le_refl 1
    go false = suc-le-suc zero-le

pub num-one : (n : ℕ) → n < 128 → length (num_bytes n) ≡ 1
unfolding num_bytes groups_of
num-one n h = rw (lt-ltb n 128 h)

starts : (a b : List ℕ) → 1 ≤ length a → 1 ≤ length (a ++ b)
starts a b h = omega (arith, length-append a b)

stx-some : (x : Stx) → 1 ≤ length (stx_bytes x)
unfolding stx_bytes
stx-some (atom c a) =
    starts (num_bytes (tag_of a) ++ sets_bytes c) (num_bytes (content_of a)) (starts (num_bytes (tag_of a)) (sets_bytes c) (num-some (tag_of a)))
stx-some (list c p) =
    starts (num_bytes 5 ++ sets_bytes c ++ num_bytes (count p)) (stxs_bytes p)
    (starts (num_bytes 5 ++ sets_bytes c) (num_bytes (count p)) (starts (num_bytes 5) (sets_bytes c) (num-some 5)))

pub count_le : (p : Stxs) → count p ≤ length (stxs_bytes p)
unfolding stx_bytes count
count_le nil = zero-le
count_le (cons x p) = omega (arith, length-append (stx_bytes x) (stxs_bytes p), stx-some x, count_le p)

tree-some : (t : Tree) → 1 ≤ length (tree_bytes t)
unfolding tree_bytes
tree-some (var n) = starts (num_bytes 0) (num_bytes n) (num-some 0)
tree-some (app h l) =
    starts (num_bytes 1 ++ num_bytes (suc (tcount l)) ++ tree_bytes h) (trees_bytes l)
    (starts (num_bytes 1 ++ num_bytes (suc (tcount l))) (tree_bytes h) (starts (num_bytes 1) (num_bytes (suc (tcount l))) (num-some 1)))
tree-some (fun n b) = starts (num_bytes 2 ++ num_bytes n) (tree_bytes b) (starts (num_bytes 2) (num_bytes n) (num-some 2))
tree-some (datum a) =
    starts (num_bytes 3 ++ num_bytes (tag_of a)) (num_bytes (content_of a)) (starts (num_bytes 3) (num_bytes (tag_of a)) (num-some 3))
tree-some (lst l) =
    starts (num_bytes 4 ++ num_bytes (tcount l)) (trees_bytes l) (starts (num_bytes 4) (num_bytes (tcount l)) (num-some 4))
tree-some (stx s) = starts (num_bytes 5) (stx_bytes s) (num-some 5)

pub tcount_le : (l : Trees) → tcount l ≤ length (trees_bytes l)
unfolding tree_bytes tcount
tcount_le tnil = zero-le
tcount_le (tcons t l) = omega (arith, length-append (tree_bytes t) (trees_bytes l), tree-some t, tcount_le l)
