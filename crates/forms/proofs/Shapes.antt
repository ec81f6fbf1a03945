-- Shapes: one law for each way out; and what a caller knows of each.
use mathlib.Core.Path.{◌≡◌, refl, ap, ◌∙◌}
use mathlib.Core.List.{List}
use mathlib.Core.Bool.{true, false}
use Prim.Native.Nat.{ℕ, suc}
use native.Mathlib.Omega.{arith}
use borrow.Author.Tests.{eq-eqb, ne_eqb}
use lib.Dec.{eqb}
use Rattle.std.specs.Prelude.{Option, Some, None}
use Rattle.model.specs.Refusals.{no_rule}
use Rattle.model.specs.Objects.{symbol, number, point, prim, rung, tag_of, Sets, Stx, atom, list, Stxs, nil, cons, count}
use Rattle.model.specs.Trees.{stx, from_stxs}
use Rattle.model.specs.Competing.{no_rivals}
use Rattle.model.specs.Steps.{State, Step, no, parts1, parts2, parts3, identifier}
use Rattle.table.specs.Words.{get_node, get_cell}
use Rattle.table.specs.declared.Node.{Node}
use Rattle.table.specs.declared.Cell.{Cell}
use Rattle.things.specs.Rep.{Rep, RepP, is-atom, is-list}
use Rattle.things.proofs.ByTag.{tag_is, ConsAt, cons-at}
pub use Rattle.things.proofs.ByTag.{nil-at}
use Rattle.things.proofs.Measuring.{cell_inside, tail_seen, node-inside}
use Rattle.forms.specs.Shapes.{OneAt, TwoAt, ThreeAt, OneAs, TwoAs, ThreeAs, OneIs, TwoAre, ThreeAre, Single, Double, Triple, is_identifier, Identifies}

-- ---- chains of syntax objects

pub record FirstAt (l : List ℕ) (top c : ℕ) (x : Cell) (ps : Stxs) : Type 0 where
  pub first : Stx
  pub others : Stxs
  pub is : ps ≡ cons first others
  pub cell : ConsAt l top c x (stx first) (from_stxs others)

no_cell : {l : List ℕ} {top c : ℕ} {T : Type 0} → RepP l top c (from_stxs nil) → ¬ (c ≡ 0) → T
unfolding from_stxs
no_cell Rattle.things.specs.Rep.is_none h = absurd (h refl)

pub first-at : {l : List ℕ} {top c : ℕ} {x : Cell} (ps : Stxs) → RepP l top c (from_stxs ps) → ¬ (c ≡ 0) → x ≡ get_cell l c → FirstAt l top c x ps
unfolding from_stxs
first-at nil r h e = no_cell r h
first-at (cons y ps) r h e = record { first = y; others = ps; is = refl; cell = cons-at r e }

nil-count : (n : ℕ) {ps : Stxs} → ps ≡ nil → ¬ (count ps ≡ suc n)
unfolding count
nil-count n e h = omega (arith, ap count e, h)

cons-count : {ps qs : Stxs} {x : Stx} (n : ℕ) → ps ≡ cons x qs → ¬ (count qs ≡ n) → ¬ (count ps ≡ suc n)
unfolding count
cons-count {ps} {qs} n e k h = k (let z : count ps ≡ suc (count qs) = ap count e in omega (arith, z, h))

module _ {l : List ℕ} {c : ℕ} where
  pub none-single : c ≡ 0 → Single l c None
  unfolding OneAs
  none-single h = record { means = λ top ps r. record { told = nil-count 0 (nil-at ps r h) } }

  pub none_double : c ≡ 0 → Double l c None
  unfolding TwoAs
  none_double h = record { means = λ top ps r. record { told = nil-count 1 (nil-at ps r h) } }

  pub none_triple : c ≡ 0 → Triple l c None
  unfolding ThreeAs
  none_triple h = record { means = λ top ps r. record { told = nil-count 2 (nil-at ps r h) } }

  module _ {x : Cell} (h : ¬ (c ≡ 0)) (e : x ≡ get_cell l c) where
    pub is-single : x.tail ≡ 0 → Single l c (Some x.head)
    unfolding OneAs
    is-single z =
        record {
          means = λ top ps r.
              let p = first-at ps r h e in
              let n : p.others ≡ nil = nil-at p.others p.cell.shown-others z in
              record { told = record { first = p.first; is = p.is ∙ ap (cons p.first) n; shown = p.cell.shown } };
        }

    some-count : (ps : Stxs) {top d : ℕ} → RepP l top d (from_stxs ps) → ¬ (d ≡ 0) → ¬ (count ps ≡ 0)
    unfolding count
    some-count nil r k z = no_cell r k
    some-count (cons y ps) r k z = omega arith

    pub more-single : ¬ (x.tail ≡ 0) → Single l c None
    unfolding OneAs
    more-single z = record { means = λ top ps r. let p = first-at ps r h e in record { told = cons-count 0 p.is (some-count p.others p.cell.shown-others z) } }

-- ---- what a caller knows

module _ {l : List ℕ} {top : ℕ} {ps : Stxs} where
  pub on_one : {r : Option ℕ} {i : ℕ} → OneIs l top ps r → r ≡ Some i → OneAt l top i ps
  unfolding OneAs
  on_one a e = rw e at a.told

  pub on_not_one : {r : Option ℕ} → OneIs l top ps r → r ≡ None → ¬ (count ps ≡ 1)
  unfolding OneAs
  on_not_one a e = rw e at a.told

  pub on_two : {r : Option (ℕ × ℕ)} {i j : ℕ} → TwoAre l top ps r → r ≡ Some (i, j) → TwoAt l top i j ps
  unfolding TwoAs
  on_two a e = rw e at a.told

  pub on_not_two : {r : Option (ℕ × ℕ)} → TwoAre l top ps r → r ≡ None → ¬ (count ps ≡ 2)
  unfolding TwoAs
  on_not_two a e = rw e at a.told

  pub on_three : {r : Option (ℕ × ℕ × ℕ)} {i j k : ℕ} → ThreeAre l top ps r → r ≡ Some (i, j, k) → ThreeAt l top i j k ps
  unfolding ThreeAs
  on_three a e = rw e at a.told

  pub on_not_three : {r : Option (ℕ × ℕ × ℕ)} → ThreeAre l top ps r → r ≡ None → ¬ (count ps ≡ 3)
  unfolding ThreeAs
  on_not_three a e = rw e at a.told

module _ {l : List ℕ} {c : ℕ} {x : Cell} (h : ¬ (c ≡ 0)) (e : x ≡ get_cell l c) where
  module _ {o : Option ℕ} (k : Single l x.tail o) where
    pub is_double : {j : ℕ} → o ≡ Some j → Double l c (Some (x.head, j))
    unfolding TwoAs
    is_double z =
        record {
          means = λ top ps r.
              let p = first-at ps r h e in
              let q = on_one (k.means top p.others p.cell.shown-others) z in
              record { told = record { first = p.first; second = q.first; is = p.is ∙ ap (cons p.first) q.is; shown = p.cell.shown; shown-second = q.shown } };
        }

    pub other_double : o ≡ None → Double l c None
    unfolding TwoAs
    other_double z =
        record { means = λ top ps r. let p = first-at ps r h e in record { told = cons-count 1 p.is (on_not_one (k.means top p.others p.cell.shown-others) z) } }

  module _ {o : Option (ℕ × ℕ)} (k : Double l x.tail o) where
    pub is_triple : {i j : ℕ} → o ≡ Some (i, j) → Triple l c (Some (x.head, i, j))
    unfolding ThreeAs
    is_triple z =
        record {
          means = λ top ps r.
              let p = first-at ps r h e in
              let q = on_two (k.means top p.others p.cell.shown-others) z in
              record {
                told = record {
                  first = p.first;
                  second = q.first;
                  third = q.second;
                  is = p.is ∙ ap (cons p.first) q.is;
                  shown = p.cell.shown;
                  shown-second = q.shown;
                  shown-third = q.shown-second;
                };
              };
        }

    pub other_triple : o ≡ None → Triple l c None
    unfolding ThreeAs
    other_triple z =
        record { means = λ top ps r. let p = first-at ps r h e in record { told = cons-count 2 p.is (on_not_two (k.means top p.others p.cell.shown-others) z) } }

-- ---- refusals

pub not-parts1 : {A : Type 0} (ps : Stxs) (f : Stx → Step A) (y : State) → ¬ (count ps ≡ 1) → parts1 ps f y ≡ no no_rule no_rivals y.left
unfolding parts1 count
not-parts1 nil f y h = refl
not-parts1 (cons a nil) f y h = absurd (h refl)
not-parts1 (cons a (cons b l)) f y h = refl

pub not-parts2 : {A : Type 0} (ps : Stxs) (f : Stx → Stx → Step A) (y : State) → ¬ (count ps ≡ 2) → parts2 ps f y ≡ no no_rule no_rivals y.left
unfolding parts2 count
not-parts2 nil f y h = refl
not-parts2 (cons a nil) f y h = refl
not-parts2 (cons a (cons b nil)) f y h = absurd (h refl)
not-parts2 (cons a (cons b (cons c l))) f y h = refl

pub not-parts3 : {A : Type 0} (ps : Stxs) (f : Stx → Stx → Stx → Step A) (y : State) → ¬ (count ps ≡ 3) → parts3 ps f y ≡ no no_rule no_rivals y.left
unfolding parts3 count
not-parts3 nil f y h = refl
not-parts3 (cons a nil) f y h = refl
not-parts3 (cons a (cons b nil)) f y h = refl
not-parts3 (cons a (cons b (cons c nil))) f y h = absurd (h refl)
not-parts3 (cons a (cons b (cons c (cons d l)))) f y h = refl

-- ---- identifiers

pub identified : {l : List ℕ} {i : ℕ} {o : Node} → o ≡ get_node l i → Identifies l i (eqb o.tag 0)
unfolding is_identifier tag_of
identified {l} {i} {o} e = record { means = λ top x r. by r }
  where
    by : {top : ℕ} {x : Stx} → Rep l top i (stx x) → eqb o.tag 0 ≡ is_identifier x
    by (is-atom {a = symbol n} a q y) = eq-eqb o.tag 0 (tag_is e q)
    by (is-atom {a = number n} a q y) = ne_eqb o.tag 0 (λ z. omega (arith, tag_is e q, z))
    by (is-atom {a = point n} a q y) = ne_eqb o.tag 0 (λ z. omega (arith, tag_is e q, z))
    by (is-atom {a = prim n} a q y) = ne_eqb o.tag 0 (λ z. omega (arith, tag_is e q, z))
    by (is-atom {a = rung n} a q y) = ne_eqb o.tag 0 (λ z. omega (arith, tag_is e q, z))
    by (is-list a q y r) = ne_eqb o.tag 0 (λ z. omega (arith, tag_is e q, z))

pub not-identifier : {A : Type 0} (x : Stx) (f : Sets → ℕ → Step A) (y : State) → is_identifier x ≡ false → identifier x f y ≡ no no_rule no_rivals y.left
unfolding identifier is_identifier
not-identifier (atom c (symbol n)) f y h = let z : ◌≡◌ {A = ℕ} 0 1 = cc in absurd (omega arith)
not-identifier (atom c (number n)) f y h = refl
not-identifier (atom c (point n)) f y h = refl
not-identifier (atom c (prim n)) f y h = refl
not-identifier (atom c (rung n)) f y h = refl
not-identifier (list c l) f y h = refl

pub record IdentifierIs (x : Stx) : Type 0 where
  pub sets : Sets
  pub symb : ℕ
  pub is : x ≡ atom sets (symbol symb)

pub is-identifier : (x : Stx) → is_identifier x ≡ true → IdentifierIs x
unfolding is_identifier
is-identifier (atom c (symbol n)) h = record { sets = c; symb = n; is = refl }
is-identifier (atom c (number n)) h = let z : ◌≡◌ {A = ℕ} 0 1 = cc in absurd (omega arith)
is-identifier (atom c (point n)) h = let z : ◌≡◌ {A = ℕ} 0 1 = cc in absurd (omega arith)
is-identifier (atom c (prim n)) h = let z : ◌≡◌ {A = ℕ} 0 1 = cc in absurd (omega arith)
is-identifier (atom c (rung n)) h = let z : ◌≡◌ {A = ℕ} 0 1 = cc in absurd (omega arith)
is-identifier (list c l) h = let z : ◌≡◌ {A = ℕ} 0 1 = cc in absurd (omega arith)

pub ruleset laws = (cell_inside, node-inside, none-single, none_double, none_triple, tail_seen, is-single, more-single, is_double, other_double, is_triple, other_triple, identified)
