-- What is measured is the size of what the definition reads.
use Prim.Native.Nat.{ℕ, zero, suc, ◌+◌}
use mathlib.Core.Path.{◌≡◌, refl, ap, ◌∙◌}
use mathlib.Core.Bool.{Bool, true, false}
use mathlib.Core.List.{List}
use native.Mathlib.Omega.{arith}
use lib.Dec.{eqb}
use Rattle.model.specs.Limits.{last_point, last_primitive, last_rung_word}
use Rattle.model.specs.Refusals.{layout, over_limit}
use Rattle.model.specs.Objects.{Atom, symbol, number, point, prim, rung, content_of, Sets, Stx, atom, list, Stxs, cons, size, sizes}
use Rattle.model.specs.Reading as m
use Rattle.model.specs.Reading.{Reader, got, fault, next, num, num_up_to, num_below, symbols, read_sets, read_atom, read_parts, read_content, read_stx}
use Rattle.numbers.specs.Answers.{kept}
use Rattle.roots.specs.MeasuredObjects.{read_content_of, read_top, measure_parts, measure_content, measure_stx}

-- an atom's content
given : (a : ℕ → Atom) → ((x : ℕ) → content_of (a x) ≡ x) → (g : m.Read ℕ) → kept content_of (next g (λ x s. got (a x) s)) ≡ g
given a h (got x s) = ap (λ (y : ℕ). got y s) (h x)
given a h (fault c) = refl

pub content-is : (h : m.Head) (t : ℕ) (s : List ℕ) → kept content_of (read_atom h t s) ≡ read_content_of (symbols h) t s
unfolding read_atom read_content_of content_of
content-is h zero s = given symbol (λ x. refl) (num_below (symbols h) s)
content-is h (suc zero) s = given number (λ x. refl) (num s)
content-is h (suc (suc zero)) s = given point (λ x. refl) (num_up_to over_limit last_point s)
content-is h (suc (suc (suc zero))) s = given prim (λ x. refl) (num_up_to over_limit last_primitive s)
content-is h (suc (suc (suc (suc zero)))) s = given rung (λ x. refl) (num_up_to over_limit last_rung_word s)
content-is h (suc (suc (suc (suc (suc t))))) s = refl

-- the parts
module _ (sum : ℕ) where
  one-part : (x : Stx) (g : m.Read Stxs) → kept (λ (l : Stxs). sum + sizes l) (next g (λ r u. got (cons x r) u)) ≡ kept (λ (l : Stxs). (sum + size x) + sizes l) g
  unfolding sizes
  one-part x (got r u) = let e : sum + (size x + sizes r) ≡ (sum + size x) + sizes r = omega arith in ap (λ (n : ℕ). got n u) e
  one-part x (fault d) = refl

  first_part : (j : Reader Stxs) (k : ℕ → Reader ℕ) → ((x : Stx) (t : List ℕ) → kept (λ (l : Stxs). (sum + size x) + sizes l) (j t) ≡ k (size x) t) → (g : m.Read Stx) {q : m.Read ℕ} → kept size g ≡ q
      → kept (λ (l : Stxs). sum + sizes l) (next g (λ x t. next (j t) (λ r u. got (cons x r) u))) ≡ next q k
  first_part j k h (got x t) e = one-part x (j t) ∙ h x t ∙ ap (λ (g : m.Read ℕ). next g k) e
  first_part j k h (fault d) e = ap (λ (g : m.Read ℕ). next g k) e

parts_are : (part : Reader Stx) (measure : Reader ℕ) → ((s : List ℕ) → kept size (part s) ≡ measure s) → (c sum : ℕ) (s : List ℕ)
    → kept (λ (l : Stxs). sum + sizes l) (read_parts c part s) ≡ measure_parts c sum measure s
unfolding read_parts measure_parts sizes
parts_are part measure h zero sum s = let e : sum + 0 ≡ sum = omega arith in ap (λ (n : ℕ). got n s) e
parts_are part measure h (suc c) sum s =
    first_part sum (read_parts c part) (λ n. measure_parts c (sum + n) measure) (λ x t. parts_are part measure h c (sum + size x) t) (part s) (h s)

list_of : (c : Sets) (g : m.Read Stxs) {q : m.Read ℕ} → kept (λ (l : Stxs). 0 + sizes l) g ≡ q → kept size (next g (λ r x. got (list c r) x)) ≡ next q (λ n x. got (n + 1) x)
unfolding size
list_of c (got r x) e = (let d : suc (sizes r) ≡ 0 + sizes r + 1 = omega arith in ap (λ (n : ℕ). got n x) d) ∙ ap (λ (g : m.Read ℕ). next g (λ n x. got (n + 1) x)) e
list_of c (fault d) e = ap (λ (g : m.Read ℕ). next g (λ n x. got (n + 1) x)) e

atom_of_lem : (c : Sets) (g : m.Read Atom) {q : m.Read ℕ} → kept content_of g ≡ q → kept size (next g (λ a x. got (atom c a) x)) ≡ next q (λ n x. got 1 x)
unfolding size
atom_of_lem c (got a x) e = ap (λ (g : m.Read ℕ). next g (λ n x. got 1 x)) e
atom_of_lem c (fault d) e = ap (λ (g : m.Read ℕ). next g (λ n x. got 1 x)) e

counted : (c : Sets) (part : Reader Stx) (measure : Reader ℕ) → ((s : List ℕ) → kept size (part s) ≡ measure s) → (g : m.Read ℕ)
    → kept size (next g (λ k w. next (read_parts k part w) (λ r x. got (list c r) x))) ≡ next g (λ k w. next (measure_parts k 0 measure w) (λ n x. got (n + 1) x))
counted c part measure h (got k w) = list_of c (read_parts k part w) (parts_are part measure h k 0 w)
counted c part measure h (fault d) = refl

body_is : (h : m.Head) (part : Reader Stx) (measure : Reader ℕ) → ((s : List ℕ) → kept size (part s) ≡ measure s) → (c : Sets) (t : ℕ) (b : Bool) (s : List ℕ)
    → kept size (read_content h part c t b s) ≡ measure_content (symbols h) measure t b s
unfolding read_content measure_content
body_is h part measure e c t true s = counted c part measure e (num s)
body_is h part measure e c t false s = atom_of_lem c (read_atom h t s) (content-is h t s)

-- the sets behind a tag
after-sets : (t : ℕ) (j : Sets → Reader Stx) (k : ℕ → Reader ℕ) → ((c : Sets) (v : List ℕ) → kept size (j c v) ≡ k t v) → (g : m.Read Sets)
    → kept size (next g j) ≡ next (next g (λ c v. got t v)) k
after-sets t j k h (got c v) = h c v
after-sets t j k h (fault d) = refl

after_tag : (sets : Reader Sets) (j : ℕ → Sets → Reader Stx) (k : ℕ → Reader ℕ) → ((t : ℕ) (c : Sets) (v : List ℕ) → kept size (j t c v) ≡ k t v) → (g : m.Read ℕ)
    → kept size (next g (λ t u. next (sets u) (j t))) ≡ next (next g (λ t u. next (sets u) (λ c v. got t v))) k
after_tag sets j k h (got t u) = after-sets t (j t) k (h t) (sets u)
after_tag sets j k h (fault d) = refl

pub stx-is : (h : m.Head) (l : ℕ) (s : List ℕ) → kept size (read_stx l h s) ≡ measure_stx (symbols h) h.scopes l s
unfolding read_stx measure_stx read_top
stx-is h zero s = refl
stx-is h (suc l) s =
    after_tag (read_sets h.scopes) (λ t c. read_content h (read_stx l h) c t (eqb t 5)) (λ t. measure_content (symbols h) (measure_stx (symbols h) h.scopes l) t (eqb t 5))
    (λ t c v. body_is h (read_stx l h) (measure_stx (symbols h) h.scopes l) (stx-is h l) c t (eqb t 5) v) (num_up_to layout 5 s)
