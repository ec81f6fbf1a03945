-- What is left after a measuring is a tail, and a tree is no larger than the bytes taken.
use Prim.Native.Nat.{ℕ, zero, suc, ◌+◌, ◌≤◌}
use mathlib.Core.Path.{◌≡◌, ap}
use mathlib.Core.Bool.{Bool, true, not}
use mathlib.Core.List.{List}
use native.Mathlib.Omega.{arith}
use lib.Dec.{eqb, leb}
use lib.ListN.{length, get_or, set}
use Rattle.model.specs.Refusals.{Refusal, layout}
use Rattle.model.specs.Reading as m
use Rattle.model.specs.Reading.{Reader, got, fault, next}
use Rattle.numbers.proofs.Tails.{Tail, tail_got, tail_fault, tail_give, tail_next, tail_need, num_tail, below_tail, Shrinks, shrinks_got, shrinks_fault, num_shrinks, behind-short}
use Rattle.roots.proofs.ObjectSizes.{content_tail, object_tail, Sized, sized-got, sized-fault, object-sized}
use Rattle.head.specs.declared.Counts.{Counts}
use Rattle.roots.specs.declared.Extent.{Extent}
use Rattle.roots.specs.Measuring.{nothing, one_more, joined, measure_variable, measure_atom, measure_object, measure_all, measure_several, function_with, body_with, measure_tree}

-- ---- tails

variable_tail : (names : ℕ) (around s : List ℕ) → Tail s (measure_variable names around s)
unfolding measure_variable
variable_tail names around s = tail_next _ (below_tail names s) (λ n t. tail_give (record { size = 1; owned = not (eqb (get_or around n 0) 0) }) t)

atom_tail : (symbols : ℕ) (s : List ℕ) → Tail s (measure_atom symbols s)
unfolding measure_atom
atom_tail symbols s = tail_next _ (num_tail s) (λ t u. tail_next _ (content_tail symbols t u) (λ x v. tail_give (record { size = 1; owned = true }) v))

object_value_tail : (symbols scopes l : ℕ) (s : List ℕ) → Tail s (measure_object symbols scopes l s)
unfolding measure_object
object_value_tail symbols scopes l s = tail_next _ (object_tail symbols scopes l s) (λ n t. tail_give (record { size = n; owned = true }) t)

module _ (part : Reader Extent) (h : (s : List ℕ) → Tail s (part s)) where
  pub all_tail : (c : ℕ) (sum : Extent) (s : List ℕ) → Tail s (measure_all c sum part s)
  unfolding measure_all
  all_tail zero sum s = tail_give sum s
  all_tail (suc c) sum s = tail_next _ (h s) (λ e t. all_tail c (joined sum e) t)

  several_tail : (least : ℕ) (s : List ℕ) → Tail s (measure_several least part s)
  unfolding measure_several
  several_tail least s =
      tail_next _ (num_tail s) (λ c t. tail_next _ (tail_need layout (leb least c) t) (λ x u. tail_next _ (all_tail c nothing u) (λ e v. tail_give (one_more e) v)))

function_tail : (names : ℕ) (inside : ℕ → Reader Extent) → ((n : ℕ) (s : List ℕ) → Tail s (inside n s)) → (s : List ℕ) → Tail s (function_with names inside s)
unfolding function_with
function_tail names inside h s = tail_next _ (below_tail names s) (λ n t. tail_next _ (h n t) (λ e u. tail_give (one_more e) u))

body_tail : (k : Counts) (around : List ℕ) (tree value : Reader Extent) (inside : ℕ → Reader Extent) (object : Reader Extent)
    → ((s : List ℕ) → Tail s (tree s)) → ((s : List ℕ) → Tail s (value s)) → ((n : ℕ) (s : List ℕ) → Tail s (inside n s)) → ((s : List ℕ) → Tail s (object s))
    → (t : ℕ) (s : List ℕ) → Tail s (body_with k around tree value inside object t s)
unfolding body_with
body_tail k around tree value inside object a b c d zero s = variable_tail k.names around s
body_tail k around tree value inside object a b c d (suc zero) s = several_tail tree a 1 s
body_tail k around tree value inside object a b c d (suc (suc zero)) s = function_tail k.names inside c s
body_tail k around tree value inside object a b c d (suc (suc (suc zero))) s = atom_tail k.symbols s
body_tail k around tree value inside object a b c d (suc (suc (suc (suc zero)))) s = several_tail value b 0 s
body_tail k around tree value inside object a b c d (suc (suc (suc (suc (suc zero))))) s = d s
body_tail k around tree value inside object a b c d (suc (suc (suc (suc (suc (suc n)))))) s = tail_fault

pub tree_tail : (k : Counts) (l low : ℕ) (around s : List ℕ) → Tail s (measure_tree k l low around s)
unfolding measure_tree
tree_tail k zero low around s = tail_fault
tree_tail k (suc l) low around s =
    tail_next _ (num_tail s) (λ t u. tail_next _ (tail_need layout (leb low t) u) (λ x v.
    body_tail k around (measure_tree k l 0 around) (measure_tree k l 2 around) (λ n. measure_tree k l 0 (set around n 1)) (measure_object k.symbols k.scopes (suc l))
    (tree_tail k l 0 around) (tree_tail k l 2 around) (λ n. tree_tail k l 0 (set around n 1)) (object_value_tail k.symbols k.scopes (suc l)) t v))

pub all_trees_tail : (k : Counts) (l low : ℕ) (around : List ℕ) (c : ℕ) (s : List ℕ) → Tail s (measure_all c nothing (measure_tree k l low around) s)
all_trees_tail k l low around c s = all_tail (measure_tree k l low around) (tree_tail k l low around) c nothing s

-- ---- sizes

-- a size is no larger than the bytes taken, and a more
data Spans (a : ℕ) (s : List ℕ) : m.Read Extent → Type 0 where
  spans_got : {e : Extent} {rest : List ℕ} → e.size + length rest ≤ a + length s → Spans a s (got e rest)
  spans_fault : {r : Refusal} → Spans a s (fault r)

spans_more : {a b : ℕ} {s t : List ℕ} {g : m.Read Extent} → a + length t ≤ b + length s → Spans a t g → Spans b s g
spans_more {b = b} {s = s} h (spans_got {e = e} {rest = rest} l) = let k : e.size + length rest ≤ b + length s = omega arith in spans_got k
spans_more h spans_fault = spans_fault

spans_next : {A : Type 0} {a : ℕ} {s : List ℕ} {g : m.Read A} (f : A → Reader Extent) → Tail s g → ((x : A) (t : List ℕ) → Spans a t (f x t)) → Spans a s (next g f)
spans_next {a = a} {s = s} f (tail_got {a = x} {rest = t} b) h = let l = behind-short b in let k : a + length t ≤ a + length s = omega arith in spans_more k (h x t)
spans_next f tail_fault h = spans_fault

spans_shrunk : {A : Type 0} {a : ℕ} {s : List ℕ} {g : m.Read A} (f : A → Reader Extent) → Shrinks s g → ((x : A) (t : List ℕ) → Spans (suc a) t (f x t)) → Spans a s (next g f)
spans_shrunk {a = a} {s = s} f (shrinks_got {a = x} {rest = t} l) h = let k : suc a + length t ≤ a + length s = omega arith in spans_more k (h x t)
spans_shrunk f shrinks_fault h = spans_fault

spans_sum : {a : ℕ} {s : List ℕ} {g : m.Read Extent} (f : Extent → Reader Extent) → Spans 0 s g → ((e : Extent) (t : List ℕ) → Spans (a + e.size) t (f e t)) → Spans a s (next g f)
spans_sum {a = a} {s = s} f (spans_got {e = e} {rest = t} l) h = let k : a + e.size + length t ≤ a + length s = omega arith in spans_more k (h e t)
spans_sum f spans_fault h = spans_fault

one : (b : Bool) (s : List ℕ) → Spans 1 s (got (record { size = 1; owned = b }) s)
one b s = let k : 1 + length s ≤ 1 + length s = omega arith in spans_got k

spans_one : {s : List ℕ} {g : m.Read Extent} → Spans 0 s g → Spans 1 s (next g (λ e v. got (one_more e) v))
spans_one {s = s} (spans_got {e = e} {rest = rest} l) = let k : e.size + 1 + length rest ≤ 1 + length s = omega arith in spans_got k
spans_one spans_fault = spans_fault

module _ (part : Reader Extent) (h : (s : List ℕ) → Spans 0 s (part s)) where
  all_spans : (c : ℕ) (sum : Extent) (s : List ℕ) → Spans sum.size s (measure_all c sum part s)
  unfolding measure_all
  all_spans zero sum s = let k : sum.size + length s ≤ sum.size + length s = omega arith in spans_got k
  all_spans (suc c) sum s = spans_sum _ (h s) (λ e t. all_spans c (joined sum e) t)

  several_spans : (least : ℕ) (s : List ℕ) → Spans 1 s (measure_several least part s)
  unfolding measure_several
  several_spans least s = spans_next _ (num_tail s) (λ c t. spans_next _ (tail_need layout (leb least c) t) (λ x u. spans_one (all_spans c nothing u)))

function_spans : (names : ℕ) (inside : ℕ → Reader Extent) → ((n : ℕ) (s : List ℕ) → Spans 0 s (inside n s)) → (s : List ℕ) → Spans 1 s (function_with names inside s)
unfolding function_with
function_spans names inside h s = spans_next _ (below_tail names s) (λ n t. spans_one (h n t))

object-from : {s : List ℕ} {g : m.Read ℕ} → Sized 0 s g → Spans 1 s (next g (λ n t. got (record { size = n; owned = true }) t))
object-from {s} (sized-got {n = n} {rest = rest} l) = let k : n + length rest ≤ 1 + length s = omega arith in spans_got k
object-from sized-fault = spans_fault

object_spans : (symbols scopes l : ℕ) (s : List ℕ) → Spans 1 s (measure_object symbols scopes l s)
unfolding measure_object
object_spans symbols scopes l s = object-from (object-sized symbols scopes l s)

body_spans : (k : Counts) (around : List ℕ) (tree value : Reader Extent) (inside : ℕ → Reader Extent) (object : Reader Extent)
    → ((s : List ℕ) → Spans 0 s (tree s)) → ((s : List ℕ) → Spans 0 s (value s)) → ((n : ℕ) (s : List ℕ) → Spans 0 s (inside n s)) → ((s : List ℕ) → Spans 1 s (object s))
    → (t : ℕ) (s : List ℕ) → Spans 1 s (body_with k around tree value inside object t s)
unfolding body_with measure_variable measure_atom
body_spans k around tree value inside object a b c d zero s = spans_next _ (below_tail k.names s) (λ n t. one (not (eqb (get_or around n 0) 0)) t)
body_spans k around tree value inside object a b c d (suc zero) s = several_spans tree a 1 s
body_spans k around tree value inside object a b c d (suc (suc zero)) s = function_spans k.names inside c s
body_spans k around tree value inside object a b c d (suc (suc (suc zero))) s = spans_next _ (num_tail s) (λ t u. spans_next _ (content_tail k.symbols t u) (λ x v. one true v))
body_spans k around tree value inside object a b c d (suc (suc (suc (suc zero)))) s = several_spans value b 0 s
body_spans k around tree value inside object a b c d (suc (suc (suc (suc (suc zero))))) s = d s
body_spans k around tree value inside object a b c d (suc (suc (suc (suc (suc (suc n)))))) s = spans_fault

tree_spans : (k : Counts) (l low : ℕ) (around s : List ℕ) → Spans 0 s (measure_tree k l low around s)
unfolding measure_tree
tree_spans k zero low around s = spans_fault
tree_spans k (suc l) low around s =
    spans_shrunk _ (num_shrinks s) (λ t u. spans_next _ (tail_need layout (leb low t) u) (λ x v.
    body_spans k around (measure_tree k l 0 around) (measure_tree k l 2 around) (λ n. measure_tree k l 0 (set around n 1)) (measure_object k.symbols k.scopes (suc l))
    (tree_spans k l 0 around) (tree_spans k l 2 around) (λ n. tree_spans k l 0 (set around n 1)) (object_spans k.symbols k.scopes (suc l)) t v))

spans_is : {s : List ℕ} {g : m.Read Extent} {e : Extent} {rest : List ℕ} → Spans 0 s g → g ≡ got e rest → e.size + length rest ≤ length s
spans_is {e = e} {rest = rest} (spans_got {e = d} {rest = t} l) h =
    let p : d ≡ e = cc in
    let q : t ≡ rest = cc in
    let r = ap length q in
    let n = ap (λ (x : Extent). x.size) p in
    omega arith
spans_is spans_fault h = let z : ◌≡◌ {A = ℕ} 0 1 = cc in absurd (omega arith)

pub tree-small : (k : Counts) (l low : ℕ) (around s : List ℕ) {e : Extent} {rest : List ℕ} → measure_tree k l low around s ≡ got e rest → e.size + length rest ≤ length s
tree-small k l low around s h = spans_is (tree_spans k l low around s) h

pub all_small : (k : Counts) (l low : ℕ) (around : List ℕ) (c : ℕ) (s : List ℕ) {e : Extent} {rest : List ℕ} → measure_all c nothing (measure_tree k l low around) s ≡ got e rest → e.size + length rest ≤ length s
all_small k l low around c s h = spans_is (all_spans (measure_tree k l low around) (tree_spans k l low around) c nothing s) h
