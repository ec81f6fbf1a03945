-- T-02: a program has as many start values as bits, each 0 or 1.
use mathlib.Core.Path.{◌≡◌, refl, sym, ap, ◌∙◌}
use Prim.Native.Nat.{ℕ, suc, ◌≤◌}
use native.Mathlib.Omega.{arith}
use mathlib.Core.Bool.{Bool, true, ◌&&◌, false≢true}
use mathlib.Core.List.{List, [], ◌∷◌, ◌++◌}
use lib.Dec.{eqb, leb, eqb-suc-zero}
use lib.ListN.{length, length-append}
use borrow.Author.Tests.{leb-true}
use Rattle.model.specs.Objects.{symbol, number, point, prim, rung}
use Rattle.model.specs.Trees.{Tree, var, app, fun, datum, lst, stx, Trees, tnil, tcons, tcount}
use Rattle.laws.proofs.Tests.{and_both}
use Rattle.addresses.specs.OneNameOneAddress.{function_names, function_names_all}
use Rattle.requests.specs.Panel as p
use Rattle.requests.specs.Panel.{Word, bit, and, or, out, all, free, head_word, is_point_tree, is_variable, is_binary, is_start, is_expression_of, is_expression, are_expressions, is_rung, is_program_of, is_program, is_program_inside, are_programs}
use Rattle.requests.specs.Scanning.{at_start, start_value, starts_of, starts, starts_inside, starts_all}
use Rattle.requests.proofs.Binary.{Binary, BinaryState, starts_binary_of}

-- ---- no function stands in an expression

in_expression : (w : Word) (k : ℕ) (b : Bool) → is_expression_of w k b ≡ true → b ≡ true
unfolding is_expression_of
in_expression bit k b e = absurd (false≢true e)
in_expression and k b e = (and_both (leb 2 k) b e).1
in_expression or k b e = (and_both (leb 2 k) b e).1
in_expression p.not k b e = (and_both (eqb k 1) b e).1
in_expression out k b e = absurd (false≢true e)
in_expression p.set k b e = absurd (false≢true e)
in_expression all k b e = absurd (false≢true e)
in_expression free k b e = absurd (false≢true e)

head-names : (h : Tree) (k : ℕ) (b : Bool) → is_expression_of (head_word h) k b ≡ true → function_names h ≡ []
unfolding head_word is_expression_of function_names
head-names (var x) k b e = refl
head-names (app f l) k b e = absurd (false≢true e)
head-names (fun x f) k b e = absurd (false≢true e)
head-names (datum a) k b e = refl
head-names (lst l) k b e = absurd (false≢true e)
head-names (stx y) k b e = refl

mutual
  unfolding function_names function_names_all is_expression are_expressions

  expression_names : (t : Tree) → is_expression t ≡ true → function_names t ≡ []
  expression_names (var x) e = refl
  expression_names (app h l) e =
      ap (λ (z : List ℕ). z ++ function_names_all l) (head-names h (tcount l) (are_expressions l) e)
      ∙ expressions_names l (in_expression (head_word h) (tcount l) (are_expressions l) e)
  expression_names (fun x b) e = absurd (false≢true e)
  expression_names (datum a) e = refl
  expression_names (lst l) e = absurd (false≢true e)
  expression_names (stx y) e = absurd (false≢true e)

  expressions_names : (l : Trees) → are_expressions l ≡ true → function_names_all l ≡ []
  expressions_names tnil e = refl
  expressions_names (tcons t l) e =
      let r = and_both (is_expression t) (are_expressions l) e in
      ap (λ (z : List ℕ). z ++ function_names_all l) (expression_names t r.0) ∙ expressions_names l r.1

-- ---- a rung's parts are expressions

pub point_expression : (t : Tree) → is_point_tree t ≡ true → is_expression t ≡ true
unfolding is_point_tree is_expression
point_expression (var x) e = refl
point_expression (app f l) e = absurd (false≢true e)
point_expression (fun x b) e = absurd (false≢true e)
point_expression (datum a) e = e
point_expression (lst l) e = absurd (false≢true e)
point_expression (stx y) e = absurd (false≢true e)

pub variable_expression : (t : Tree) → is_variable t ≡ true → is_expression t ≡ true
unfolding is_variable is_expression
variable_expression (var x) e = refl
variable_expression (app f l) e = absurd (false≢true e)
variable_expression (fun x b) e = absurd (false≢true e)
variable_expression (datum a) e = absurd (false≢true e)
variable_expression (lst l) e = absurd (false≢true e)
variable_expression (stx y) e = absurd (false≢true e)

pub rung_expressions : (is : Tree → Bool) → ((t : Tree) → is t ≡ true → is_expression t ≡ true) → (l : Trees) → is_rung is l ≡ true → are_expressions l ≡ true
unfolding is_rung are_expressions
rung_expressions is f tnil e = absurd (false≢true e)
rung_expressions is f (tcons q l) e =
    let r = and_both (is q && eqb (tcount l) 1) (are_expressions l) e in
    let x = and_both (is q) (eqb (tcount l) 1) r.0 in
    ap (λ (z : Bool). z && are_expressions l) (f q x.0) ∙ r.1

-- ---- as many start values as bits, each 0 or 1

record Fits (o names : List ℕ) : Type 0 where
  many : length o ≡ length names
  binary : Binary o

binary-join : (a b : List ℕ) → Binary a → Binary b → Binary (a ++ b)
binary-join [] b h k = k
binary-join (v ∷ a) b h k = (h.0, binary-join a b h.1 k)

fits-join : (a b x y : List ℕ) → Fits a x → Fits b y → Fits (a ++ b) (x ++ y)
fits-join a b x y h k = record {
  many = let p = h.many in let q = k.many in omega (arith, length-append a b, length-append x y);
  binary = binary-join a b h.binary k.binary;
}

nothing-fits : (names : List ℕ) → names ≡ [] → Fits [] names
nothing-fits names e = record { many = ap length (sym e); binary = tt }

-- the only argument, 0 or 1, and no function in it
record OneStart (l : Trees) : Type 0 where
  small : start_value l ≤ 1
  none : function_names_all l ≡ []

start-binary : (l : Trees) → is_start l ≡ true → OneStart l
unfolding is_start is_binary start_value function_names_all function_names tcount
start-binary tnil e = absurd (false≢true e)
start-binary (tcons (var x) l) e = absurd (false≢true e)
start-binary (tcons (app h k) l) e = absurd (false≢true e)
start-binary (tcons (fun x b) l) e = absurd (false≢true e)
start-binary (tcons (datum (symbol x)) l) e = absurd (false≢true e)
start-binary (tcons (datum (number x)) tnil) e = record { small = leb-true x 1 (and_both (leb x 1) true e).0; none = refl }
start-binary (tcons (datum (number x)) (tcons t l)) e = absurd (false≢true (sym (eqb-suc-zero (tcount l)) ∙ (and_both (leb x 1) (eqb (suc (tcount l)) 0) e).1))
start-binary (tcons (datum (point x)) l) e = absurd (false≢true e)
start-binary (tcons (datum (prim x)) l) e = absurd (false≢true e)
start-binary (tcons (datum (rung x)) l) e = absurd (false≢true e)
start-binary (tcons (lst k) l) e = absurd (false≢true e)
start-binary (tcons (stx s) l) e = absurd (false≢true e)

abbrev Rung : Word → Type 0
Rung bit = ⊥
Rung and = ⊥
Rung or = ⊥
Rung p.not = ⊥
Rung out = Unit {0}
Rung p.set = Unit {0}
Rung all = Unit {0}
Rung free = ⊥

rung-names : (h : Tree) → Rung (head_word h) → function_names h ≡ []
unfolding head_word function_names
rung-names (var x) r = absurd r
rung-names (app f l) r = absurd r
rung-names (fun x b) r = absurd r
rung-names (datum a) r = refl
rung-names (lst l) r = absurd r
rung-names (stx y) r = absurd r

-- by the head: `names` are its names, `body` the start values in its body and `inner` the names there
by_word : (w : Word) (l : Trees) (b r : Bool) (names body parts : List ℕ) → (Rung w → names ≡ [])
    → (w ≡ bit → b ≡ true → (v : ℕ) → v ≤ 1 → Fits (v ∷ body) names) → (r ≡ true → Fits parts (function_names_all l))
    → is_program_of w l b r ≡ true → Fits (starts_of w l body parts) (names ++ function_names_all l)
unfolding is_program_of starts_of
by_word bit l b r names body parts f g k e =
    let x = and_both b (is_start l) e in
    let o = start-binary l x.1 in
    fits-ended (start_value l ∷ body) names (function_names_all l) o.none (g refl x.0 (start_value l) o.small)
  where
    fits-ended : (a x y : List ℕ) → y ≡ [] → Fits a x → Fits a (x ++ y)
    fits-ended a x y q h = record { many = (let m = h.many in let z = ap length q in omega (arith, length-append x y)); binary = h.binary }
by_word and l b r names body parts f g k e = absurd (false≢true e)
by_word or l b r names body parts f g k e = absurd (false≢true e)
by_word p.not l b r names body parts f g k e = absurd (false≢true e)
by_word out l b r names body parts f g k e =
    nothing-fits (names ++ function_names_all l)
    (ap (λ (z : List ℕ). z ++ function_names_all l) (f tt) ∙ expressions_names l (rung_expressions is_point_tree point_expression l e))
by_word p.set l b r names body parts f g k e =
    nothing-fits (names ++ function_names_all l)
    (ap (λ (z : List ℕ). z ++ function_names_all l) (f tt) ∙ expressions_names l (rung_expressions is_variable variable_expression l e))
by_word all l b r names body parts f g k e = fits-join [] parts names (function_names_all l) (nothing-fits names (f tt)) (k (and_both (leb 1 (tcount l)) r e).1)
by_word free l b r names body parts f g k e = absurd (false≢true e)

more-fits : (v : ℕ) (o : List ℕ) (n : ℕ) (names : List ℕ) → v ≤ 1 → Fits o names → Fits (v ∷ o) (n ∷ names)
more-fits v o n names h f = record { many = ap suc f.many; binary = (h, f.binary) }

mutual
  unfolding is_program is_program_inside are_programs starts starts_inside starts_all function_names function_names_all

  program-fits : (t : Tree) → is_program t ≡ true → Fits (starts t) (function_names t)
  program-fits (var x) e = absurd (false≢true e)
  program-fits (app h l) e =
      by_word (head_word h) l (is_program_inside h) (are_programs l) (function_names h) (starts_inside h) (starts_all l) (rung-names h)
      (λ w q v s. inside-fits h q v s) (λ q. programs_fit l q) e
  program-fits (fun x b) e = absurd (false≢true e)
  program-fits (datum a) e = absurd (false≢true e)
  program-fits (lst l) e = absurd (false≢true e)
  program-fits (stx y) e = absurd (false≢true e)

  inside-fits : (h : Tree) → is_program_inside h ≡ true → (v : ℕ) → v ≤ 1 → Fits (v ∷ starts_inside h) (function_names h)
  inside-fits (var x) e v s = absurd (false≢true e)
  inside-fits (app f l) e v s = absurd (false≢true e)
  inside-fits (fun x b) e v s = more-fits v (starts b) x (function_names b) s (program-fits b e)
  inside-fits (datum a) e v s = absurd (false≢true e)
  inside-fits (lst l) e v s = absurd (false≢true e)
  inside-fits (stx y) e v s = absurd (false≢true e)

  programs_fit : (l : Trees) → are_programs l ≡ true → Fits (starts_all l) (function_names_all l)
  programs_fit tnil e = record { many = refl; binary = tt }
  programs_fit (tcons t l) e =
      let r = and_both (is_program t) (are_programs l) e in
      fits-join (starts t) (starts_all l) (function_names t) (function_names_all l) (program-fits t r.0) (programs_fit l r.1)

pub as_many_starts : (t : Tree) → is_program t ≡ true → length (starts t) ≡ length (function_names t)
as_many_starts t e = (program-fits t e).many

pub starts-binary : (t : Tree) → is_program t ≡ true → BinaryState (at_start t)
starts-binary t e = starts_binary_of t (program-fits t e).binary
