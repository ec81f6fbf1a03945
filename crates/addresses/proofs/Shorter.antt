-- A tree takes no more bytes than the object that it is parsed from.
use mathlib.Core.Path.{◌≡◌, refl, sym, ap, ◌∙◌}
use Prim.Native.Nat.{ℕ, suc, ◌+◌, ◌-◌, ◌/◌, ◌%◌, ◌≤◌, ◌<◌, zero-le}
use native.Mathlib.Omega.{arith}
use mathlib.Core.Bool.{Bool, true, false}
use mathlib.Core.List.{List, [], ◌∷◌, ◌++◌}
use lib.Dec.{ltb}
use lib.ListN.{length, length-append}
use Rattle.model.specs.Choice.{when◌then◌else◌}
use Rattle.model.specs.Scopes.{Scopes, members}
use Rattle.model.specs.Objects.{Atom, symbol, tag_of, content_of, Sets, Stx, atom, list, Stxs, nil, cons, count}
use Rattle.model.specs.Trees.{Tree, var, app, fun, datum, lst, stx, Trees, tnil, tcons, tcount, strip, strip_all}
use Rattle.model.specs.Resolving.{Bind}
use Rattle.model.specs.Reading.{Head}
use Rattle.model.specs.Writing.{groups_of, num_bytes, nums_bytes, list_bytes, set_bytes, sets_bytes, stx_bytes, stxs_bytes, tree_bytes, trees_bytes, words_bytes, binds_bytes, head_bytes, syntax_bytes, tree_image_bytes}
use borrow.Author.Tests.{lt-ltb}
use Rattle.codec_laws.proofs.Lengths.{num-some, num-one}

-- ---- numbers and sets

num-two : (n : ℕ) → n < 16384 → length (num_bytes n) ≤ 2
unfolding num_bytes groups_of
num-two n h = go (ltb n 128)
  where
    rest : length (groups_of 3 (n / 128)) ≡ 1
    rest = rw (lt-ltb (n / 128) 128 (omega arith))

    go : (t : Bool) → length (when t then n ∷ [] else (n % 128 + 128) ∷ groups_of 3 (n / 128)) ≤ 2
    go true = omega arith
    go false = omega (arith, rest)

set-some : (a : Scopes) → 1 ≤ length (set_bytes a)
unfolding set_bytes list_bytes
set-some a =
    omega (arith, length-append (num_bytes (length (members a))) (nums_bytes (members a)), num-some (length (members a)))

sets-some : (c : Sets) → 3 ≤ length (sets_bytes c)
unfolding sets_bytes
sets-some c =
    omega (
      arith,
      length-append (set_bytes c.at0 ++ set_bytes c.at1) (set_bytes c.at2),
      length-append (set_bytes c.at0) (set_bytes c.at1),
      set-some c.at0,
      set-some c.at1,
      set-some c.at2,
    )

-- ---- the lengths of objects and trees, as sums

atom-length : (c : Sets) (a : Atom) → length (stx_bytes (atom c a)) ≡ length (num_bytes (tag_of a)) + length (sets_bytes c) + length (num_bytes (content_of a))
unfolding stx_bytes
atom-length c a =
    length-append (num_bytes (tag_of a) ++ sets_bytes c) (num_bytes (content_of a))
    ∙ ap (λ (z : ℕ). z + length (num_bytes (content_of a))) (length-append (num_bytes (tag_of a)) (sets_bytes c))

list_length : (c : Sets) (l : Stxs) → length (stx_bytes (list c l)) ≡ 1 + length (sets_bytes c) + length (num_bytes (count l)) + length (stxs_bytes l)
unfolding stx_bytes
list_length c l =
    length-append (num_bytes 5 ++ sets_bytes c ++ num_bytes (count l)) (stxs_bytes l)
    ∙ ap (λ (z : ℕ). z + length (stxs_bytes l))
    (length-append (num_bytes 5 ++ sets_bytes c) (num_bytes (count l))
    ∙ ap (λ (z : ℕ). z + length (num_bytes (count l)))
    (length-append (num_bytes 5) (sets_bytes c) ∙ ap (λ (z : ℕ). z + length (sets_bytes c)) (num-one 5 (omega arith))))

cons-length : (x : Stx) (l : Stxs) → length (stxs_bytes (cons x l)) ≡ length (stx_bytes x) + length (stxs_bytes l)
unfolding stx_bytes
cons-length x l = length-append (stx_bytes x) (stxs_bytes l)

-- ---- each kind of result

pub var_shorter : (n : ℕ) (c : Sets) (x : ℕ) → n < 16384 → length (tree_bytes (var n)) ≤ length (stx_bytes (atom c (symbol x)))
unfolding tree_bytes
var_shorter n c x h =
    omega (
      arith,
      length-append (num_bytes 0) (num_bytes n),
      num-one 0 (omega arith),
      num-two n h,
      atom-length c (symbol x),
      sets-some c,
    )

pub datum_shorter : (c : Sets) (a : Atom) → length (tree_bytes (datum a)) ≤ length (stx_bytes (atom c a))
unfolding tree_bytes
datum_shorter c a =
    omega (
      arith,
      length-append (num_bytes 3 ++ num_bytes (tag_of a)) (num_bytes (content_of a)),
      length-append (num_bytes 3) (num_bytes (tag_of a)),
      num-one 3 (omega arith),
      atom-length c a,
      sets-some c,
    )

strip-count : (l : Stxs) → tcount (strip_all l) ≡ count l
unfolding strip tcount count
strip-count nil = refl
strip-count (cons x l) = ap suc (strip-count l)

lst-length : (l : Trees) → length (tree_bytes (lst l)) ≡ 1 + length (num_bytes (tcount l)) + length (trees_bytes l)
unfolding tree_bytes
lst-length l =
    length-append (num_bytes 4 ++ num_bytes (tcount l)) (trees_bytes l)
    ∙ ap (λ (z : ℕ). z + length (trees_bytes l))
    (length-append (num_bytes 4) (num_bytes (tcount l)) ∙ ap (λ (z : ℕ). z + length (num_bytes (tcount l))) (num-one 4 (omega arith)))

tcons-length : (t : Tree) (l : Trees) → length (trees_bytes (tcons t l)) ≡ length (tree_bytes t) + length (trees_bytes l)
unfolding tree_bytes
tcons-length t l = length-append (tree_bytes t) (trees_bytes l)

pub none_shorter : length (trees_bytes tnil) ≤ length (stxs_bytes nil)
unfolding tree_bytes stx_bytes
none_shorter = zero-le

mutual
  unfolding strip

  strip_shorter : (x : Stx) → length (tree_bytes (strip x)) ≤ length (stx_bytes x)
  strip_shorter (atom c a) = datum_shorter c a
  strip_shorter (list c l) =
      omega (
        arith,
        lst-length (strip_all l),
        list_length c l,
        ap (λ (z : ℕ). length (num_bytes z)) (strip-count l),
        strip_all_shorter l,
      )

  strip_all_shorter : (l : Stxs) → length (trees_bytes (strip_all l)) ≤ length (stxs_bytes l)
  strip_all_shorter nil = none_shorter
  strip_all_shorter (cons x l) =
      omega (arith, tcons-length (strip x) (strip_all l), cons-length x l, strip_shorter x, strip_all_shorter l)

-- a part is no longer than its list
second_shorter : (c : Sets) (h x : Stx) (l : Stxs) → 1 + length (stx_bytes x) + length (stxs_bytes l) ≤ length (stx_bytes (list c (cons h (cons x l))))
second_shorter c h x l = omega (arith, list_length c (cons h (cons x l)), cons-length h (cons x l), cons-length x l)

pub quote_shorter : (c : Sets) (h x : Stx) → length (tree_bytes (strip x)) ≤ length (stx_bytes (list c (cons h (cons x nil))))
quote_shorter c h x = omega (arith, strip_shorter x, second_shorter c h x nil)

pub syntax_shorter : (c : Sets) (h x : Stx) → length (tree_bytes (stx x)) ≤ length (stx_bytes (list c (cons h (cons x nil))))
unfolding tree_bytes
syntax_shorter c h x = omega (arith, length-append (num_bytes 5) (stx_bytes x), num-one 5 (omega arith), second_shorter c h x nil)

pub function_shorter : (c : Sets) (h i out : Stx) (n : ℕ) (b : Tree) → n < 16384 → length (tree_bytes b) ≤ length (stx_bytes out)
    → length (tree_bytes (fun n b)) ≤ length (stx_bytes (list c (cons h (cons i (cons out nil)))))
unfolding tree_bytes
function_shorter c h i out n b q r =
    omega (
      arith,
      length-append (num_bytes 2 ++ num_bytes n) (tree_bytes b),
      length-append (num_bytes 2) (num_bytes n),
      num-one 2 (omega arith),
      num-two n q,
      list_length c (cons h (cons i (cons out nil))),
      sets-some c,
      cons-length h (cons i (cons out nil)),
      cons-length i (cons out nil),
      cons-length out nil,
    )

app-length : (f : Tree) (l : Trees) → length (tree_bytes (app f l)) ≡ 1 + length (num_bytes (suc (tcount l))) + length (tree_bytes f) + length (trees_bytes l)
unfolding tree_bytes
app-length f l =
    length-append (num_bytes 1 ++ num_bytes (suc (tcount l)) ++ tree_bytes f) (trees_bytes l)
    ∙ ap (λ (z : ℕ). z + length (trees_bytes l))
    (length-append (num_bytes 1 ++ num_bytes (suc (tcount l))) (tree_bytes f)
    ∙ ap (λ (z : ℕ). z + length (tree_bytes f))
    (length-append (num_bytes 1) (num_bytes (suc (tcount l))) ∙ ap (λ (z : ℕ). z + length (num_bytes (suc (tcount l)))) (num-one 1 (omega arith))))

pub application_shorter : (c : Sets) (h : Stx) (p : Stxs) (f : Tree) (l : Trees) → tcount l ≡ count p → length (tree_bytes f) ≤ length (stx_bytes h)
    → length (trees_bytes l) ≤ length (stxs_bytes p) → length (tree_bytes (app f l)) ≤ length (stx_bytes (list c (cons h p)))
unfolding count
application_shorter c h p f l e q r =
    omega (
      arith,
      app-length f l,
      list_length c (cons h p),
      cons-length h p,
      ap (λ (z : ℕ). length (num_bytes (suc z))) e,
    )

pub trees_shorter : (x : Stx) (p : Stxs) (t : Tree) (l : Trees) → length (tree_bytes t) ≤ length (stx_bytes x) → length (trees_bytes l) ≤ length (stxs_bytes p)
    → length (trees_bytes (tcons t l)) ≤ length (stxs_bytes (cons x p))
trees_shorter x p t l q r = omega (arith, tcons-length t l, cons-length x p)

-- ---- whole images

head-same : (h : Head) → length (head_bytes 2 h) ≡ length (head_bytes 1 h)
unfolding head_bytes
head-same h = go (num_bytes (length h.words)) (words_bytes h.words) (num_bytes (h.names - 4 - length h.words)) (num_bytes h.scopes)
  where
    sum : (k b c d e : List ℕ) → length (k ++ b ++ c ++ d ++ e) ≡ length k + length b + length c + length d + length e
    sum k b c d e =
        length-append (k ++ b ++ c ++ d) e
        ∙ ap (λ (z : ℕ). z + length e) (length-append (k ++ b ++ c) d ∙ ap (λ (z : ℕ). z + length d) (length-append (k ++ b) c ∙ ap (λ (z : ℕ). z + length c) (length-append k b)))

    go : (b c d e : List ℕ) → length (num_bytes 2 ++ b ++ c ++ d ++ e) ≡ length (num_bytes 1 ++ b ++ c ++ d ++ e)
    go b c d e =
        sum (num_bytes 2) b c d e
        ∙ ap (λ (z : ℕ). z + length b + length c + length d + length e) (num-one 2 (omega arith) ∙ sym (num-one 1 (omega arith)))
        ∙ sym (sum (num_bytes 1) b c d e)

pub image_shorter : (h : Head) (l : List Bind) (r : Stx) (t : Tree) → length (tree_bytes t) ≤ length (stx_bytes r)
    → length (tree_image_bytes h t) ≤ length (syntax_bytes h l r)
unfolding tree_image_bytes syntax_bytes
image_shorter h l r t q =
    omega (
      arith,
      length-append (head_bytes 2 h) (tree_bytes t),
      head-same h,
      length-append (head_bytes 1 h ++ num_bytes (length l) ++ binds_bytes l) (stx_bytes r),
      length-append (head_bytes 1 h ++ num_bytes (length l)) (binds_bytes l),
      length-append (head_bytes 1 h) (num_bytes (length l)),
    )
