-- Running the code of an expression takes its value, as its join says.
use Prim.Native.Nat.{ℕ, zero, suc, ◌≤◌}
use mathlib.Core.Path.{◌≡◌, refl, sym, ap, ◌∙◌}
use mathlib.Core.Bool.{true, false≢true}
use mathlib.Core.List.{List, [], ◌∷◌, ◌++◌}
use native.Mathlib.Omega.{arith}
use lib.Dec.{leb, eqb}
use borrow.Author.Tests.{leb-true, eqb-true}
use Rattle.model.specs.Objects.{Atom, symbol, number, point, prim, rung}
use Rattle.model.specs.Trees.{Tree, var, app, fun, datum, lst, stx, Trees, tnil, tcons, tcount}
use Rattle.laws.proofs.Tests.{and_both}
use Rattle.requests.specs.Panel as p
use Rattle.requests.specs.Panel.{Word, bit, and, or, out, all, free, head_word, is_point, is_expression_of, is_expression, are_expressions}
use Rattle.requests.specs.Scanning.{State, Bit, both, either, opposite, all_of, any_of, value_of_atom, value_by, value_of, values_of}
use Rattle.requests.proofs.Binary.{BinaryState, both-binary, either-binary, value-binary}
use Rattle.ladder.specs.Code.{Join, load, series, parallel, Instruction, inverse, join_of, others_join, wired_by, wired_atom, wired, wired_all}
use Rattle.ladder.specs.Running.{Running, top_of, rest_of, taken, step, run}

pub run-both : (a b : List Instruction) (r : Running) → run (a ++ b) r ≡ run b (run a r)
unfolding run
run-both [] b r = refl
run-both (i ∷ a) b r = run-both a b (step i r)

-- ---- values joined one by one come to the value of them all

record Gathers (o : Join) (f : List ℕ → ℕ) (g : ℕ → ℕ → ℕ) : Type 0 where
  joins : (x a : ℕ) (v : List ℕ) → taken o x (a ∷ v) ≡ g a x ∷ v
  small : (a x : ℕ) → x ≤ 1 → g a x ≤ 1
  none : (a : ℕ) → a ≤ 1 → g a (f []) ≡ a
  more : (a x : ℕ) (l : List ℕ) → g (g a x) (f l) ≡ g a (f (x ∷ l))
  first : (x : ℕ) (l : List ℕ) → g x (f l) ≡ f (x ∷ l)

series_gathers : Gathers series all_of both
unfolding taken top_of rest_of all_of both
series_gathers = record { joins = λ x a v. refl; small = both-binary; none = none; more = more; first = λ x l. refl }
  where
    none : (a : ℕ) → a ≤ 1 → both a 1 ≡ a
    none zero h = refl
    none (suc a) h = omega arith

    more : (a x : ℕ) (l : List ℕ) → both (both a x) (all_of l) ≡ both a (both x (all_of l))
    more zero x l = refl
    more (suc a) x l = refl

parallel_gathers : Gathers parallel any_of either
unfolding taken top_of rest_of any_of either
parallel_gathers = record { joins = λ x a v. refl; small = either-binary; none = none; more = more; first = λ x l. refl }
  where
    none : (a : ℕ) → a ≤ 1 → either a 0 ≡ a
    none zero h = refl
    none (suc a) h = omega arith

    more : (a x : ℕ) (l : List ℕ) → either (either a x) (any_of l) ≡ either a (either x (any_of l))
    more zero x l = refl
    more (suc a) x l = refl

module _ (around : List Bit) (s : State) (h : BinaryState s) where
  abbrev at : List ℕ → Running
  at v = record { values = v; state = s }

  join_runs : (j : Join) (x : ℕ) (v : List ℕ) → run (join_of j) (at (x ∷ v)) ≡ at (taken j x v)
  unfolding run step join_of taken top_of rest_of
  join_runs load x v = refl
  join_runs series x v = refl
  join_runs parallel x v = refl

  atom_runs : (j : Join) (a : Atom) → is_point a ≡ true → (v : List ℕ) → run (wired_atom j a) (at v) ≡ at (taken j (value_of_atom s a) v)
  unfolding run step wired_atom value_of_atom is_point
  atom_runs j (symbol x) e v = absurd (false≢true e)
  atom_runs j (number x) e v = absurd (false≢true e)
  atom_runs j (point x) e v = refl
  atom_runs j (prim x) e v = absurd (false≢true e)
  atom_runs j (rung x) e v = absurd (false≢true e)

  abbrev Parts : Trees → Type 0
  Parts l = (o : Join) (f : List ℕ → ℕ) (g : ℕ → ℕ → ℕ) → Gathers o f g → are_expressions l ≡ true → 1 ≤ tcount l → (v : List ℕ)
      → run (wired_all load o around l) (at v) ≡ at (f (values_of around s l) ∷ v)

  word_runs : (w : Word) (j : Join) (l : Trees) → is_expression_of w (tcount l) (are_expressions l) ≡ true → Parts l → (v : List ℕ)
      → run (wired_by w j (wired_all load (others_join w) around l)) (at v) ≡ at (taken j (value_by w (values_of around s l)) v)
  unfolding wired_by others_join value_by is_expression_of run step top_of rest_of
  word_runs bit j l e k v = absurd (false≢true e)
  word_runs and j l e k v =
      let b = and_both (leb 2 (tcount l)) (are_expressions l) e in
      run-both (wired_all load series around l) (join_of j) (at v)
      ∙ ap (run (join_of j)) (k series all_of both series_gathers b.1 (omega (arith, leb-true 2 (tcount l) b.0)) v)
      ∙ join_runs j (all_of (values_of around s l)) v
  word_runs or j l e k v =
      let b = and_both (leb 2 (tcount l)) (are_expressions l) e in
      run-both (wired_all load parallel around l) (join_of j) (at v)
      ∙ ap (run (join_of j)) (k parallel any_of either parallel_gathers b.1 (omega (arith, leb-true 2 (tcount l) b.0)) v)
      ∙ join_runs j (any_of (values_of around s l)) v
  word_runs p.not j l e k v =
      let b = and_both (eqb (tcount l) 1) (are_expressions l) e in
      run-both (wired_all load parallel around l) (inverse ∷ join_of j) (at v)
      ∙ ap (run (inverse ∷ join_of j)) (k parallel any_of either parallel_gathers b.1 (omega (arith, eqb-true (tcount l) 1 b.0)) v)
      ∙ join_runs j (opposite (any_of (values_of around s l))) v
  word_runs out j l e k v = absurd (false≢true e)
  word_runs p.set j l e k v = absurd (false≢true e)
  word_runs all j l e k v = absurd (false≢true e)
  word_runs free j l e k v = absurd (false≢true e)

  mutual
    unfolding wired wired_all value_of values_of is_expression are_expressions run step

    pub expression_runs : (t : Tree) → is_expression t ≡ true → (j : Join) (v : List ℕ) → run (wired j around t) (at v) ≡ at (taken j (value_of around s t) v)
    expression_runs (var n) e j v = refl
    expression_runs (app f l) e j v = word_runs (head_word f) j l e (λ o f g G a n u. parts-run l o f g G a n u) v
    expression_runs (fun n b) e j v = absurd (false≢true e)
    expression_runs (datum a) e j v = atom_runs j a e v
    expression_runs (lst l) e j v = absurd (false≢true e)
    expression_runs (stx x) e j v = absurd (false≢true e)

    parts-run : (l : Trees) → Parts l
    parts-run tnil o f g G e n v = absurd (omega arith)
    parts-run (tcons t l) o f g G e n v =
        let b = and_both (is_expression t) (are_expressions l) e in
        run-both (wired load around t) (wired_all o o around l) (at v)
        ∙ ap (run (wired_all o o around l)) (expression_runs t b.0 load v)
        ∙ others-run l b.1 o f g G (value_of around s t) (value-binary around s h t) v
        ∙ ap (λ (x : ℕ). at (x ∷ v)) (G.first (value_of around s t) (values_of around s l))

    others-run : (l : Trees) → are_expressions l ≡ true → (o : Join) (f : List ℕ → ℕ) (g : ℕ → ℕ → ℕ) → Gathers o f g → (a : ℕ) → a ≤ 1 → (v : List ℕ)
        → run (wired_all o o around l) (at (a ∷ v)) ≡ at (g a (f (values_of around s l)) ∷ v)
    others-run tnil e o f g G a k v = ap (λ (x : ℕ). at (x ∷ v)) (sym (G.none a k))
    others-run (tcons t l) e o f g G a k v =
        let b = and_both (is_expression t) (are_expressions l) e in
        let x = value_of around s t in
        run-both (wired o around t) (wired_all o o around l) (at (a ∷ v))
        ∙ ap (run (wired_all o o around l)) (expression_runs t b.0 o (a ∷ v) ∙ ap at (G.joins x a v))
        ∙ others-run l b.1 o f g G (g a x) (G.small a x (value-binary around s h t)) v
        ∙ ap (λ (y : ℕ). at (y ∷ v)) (G.more a x (values_of around s l))
