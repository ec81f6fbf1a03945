-- The code of a program that was read, and whose variables are owned, fits: each level of nesting holds at most one value more.
use Prim.Native.Nat.{ℕ, suc, ◌+◌, ◌-◌, ◌≤◌, ◌<◌}
use mathlib.Core.Path.{◌≡◌, refl}
use mathlib.Core.Bool.{Bool, true, false, ◌&&◌, ◌||◌, false≢true}
use mathlib.Core.List.{List, [], ◌∷◌, ◌++◌, append_assoc, append-nil}
use native.Mathlib.Omega.{arith}
use native.Mathlib.Nat.{le-max_left, le-max_right}
use lib.Dec.{leb, eqb}
use lib.ListN.{length, length-append}
use borrow.Author.Tests.{leb-true, eqb-true}
use Rattle.model.specs.Choice.{when◌then◌else◌}
use Rattle.model.specs.Limits.{most_nesting, last_point}
use Rattle.model.specs.Objects.{Atom, symbol, number, point, prim, rung}
use Rattle.model.specs.Trees.{Tree, var, app, fun, datum, lst, stx, Trees, tnil, tcons, tcount, tnesting, tnestings}
use Rattle.model.specs.Meanings.{is_among}
use Rattle.model.specs.Jobs.{closed, closed_all}
use Rattle.laws.proofs.Tests.{and_both}
use Rattle.codec_laws.specs.WellFormed.{AtomFits, TreeFits, TreesFit}
use Rattle.addresses.specs.OneNameOneAddress.{function_names, function_names_all}
use Rattle.requests.specs.Panel as p
use Rattle.requests.specs.Panel.{Word, bit, and, or, out, all, free, head_word, bits_of, is_point, is_point_tree, is_variable, is_start, is_expression_of, is_expression, are_expressions, is_rung, is_program_of, is_program, is_program_inside, are_programs}
use Rattle.requests.specs.Scanning.{Bit, address_in}
use Rattle.ladder.specs.Code.{Join, load, series, parallel, Instruction, coil, bit_coil, inverse, join_of, others_join, wired_by, wired_atom, wired, wired_all, wired_first, driven_by, assigned_by, out_code, set_code, rungs_of, rungs, rungs_inside, rungs_all}
use Rattle.ladder.specs.Running.{most_values, height_after_join, height_after, TakesJoin, Fits}

-- joined to a value before it
abbrev Joined : Join → Type 0
Joined load = ⊥
Joined series = Unit {0}
Joined parallel = Unit {0}

joined-takes : (o : Join) → Joined o → (height : ℕ) → 0 < height → TakesJoin o height
joined-takes load q height h = absurd q
joined-takes series q height h = h
joined-takes parallel q height h = h

joined_height : (o : Join) → Joined o → (height : ℕ) → height_after_join o height ≡ height
unfolding height_after_join
joined_height load q height = absurd q
joined_height series q height = refl
joined_height parallel q height = refl

-- so many symbols, names and scopes are declared
module _ (bits k n m : ℕ) where
  join-fits : (j : Join) (height : ℕ) (c : List Instruction) → TakesJoin j height → Fits bits (height_after_join j height) c → Fits bits (suc height) (join_of j ++ c)
  unfolding join_of height_after_join height_after
  join-fits load height c h f = f
  join-fits series height c h f = let e : suc height - 1 ≡ height = omega arith in (tt, omega arith, rw e f)
  join-fits parallel height c h f = let e : suc height - 1 ≡ height = omega arith in (tt, omega arith, rw e f)

  -- the functions around a place, by name and as bits
  module _ (names : List ℕ) (around : List Bit) (owned : (x : ℕ) → is_among x names ≡ true → address_in around x < bits) where
    atom-fits : (a : Atom) → is_point a ≡ true → AtomFits k a → (j : Join) (height : ℕ) (c : List Instruction) → TakesJoin j height → Fits bits (height_after_join j height) c
        → Fits bits height (wired_atom j a ++ c)
    unfolding is_point wired_atom height_after last_point
    atom-fits (symbol x) e i j height c h f = absurd (false≢true e)
    atom-fits (number x) e i j height c h f = absurd (false≢true e)
    atom-fits (point x) e i j height c h f = (omega arith, h, f)
    atom-fits (prim x) e i j height c h f = absurd (false≢true e)
    atom-fits (rung x) e i j height c h f = absurd (false≢true e)

    abbrev Parts : Trees → ℕ → Type 0
    Parts l height = (o : Join) → Joined o → are_expressions l ≡ true → 1 ≤ tcount l → (c : List Instruction) → Fits bits (suc height) c → Fits bits height (wired_all load o around l ++ c)

    word_fits : (w : Word) (l : Trees) (j : Join) (height : ℕ) (c : List Instruction) → is_expression_of w (tcount l) (are_expressions l) ≡ true → Parts l height → TakesJoin j height → Fits bits (height_after_join j height) c
        → Fits bits height (wired_by w j (wired_all load (others_join w) around l) ++ c)
    unfolding is_expression_of wired_by others_join height_after
    word_fits bit l j height c e q h f = absurd (false≢true e)
    word_fits and l j height c e q h f =
        let b = and_both (leb 2 (tcount l)) (are_expressions l) e in
        rw (append_assoc (wired_all load series around l) (join_of j) c) (q series tt b.1 (omega (arith, leb-true 2 (tcount l) b.0)) (join_of j ++ c) (join-fits j height c h f))
    word_fits or l j height c e q h f =
        let b = and_both (leb 2 (tcount l)) (are_expressions l) e in
        rw (append_assoc (wired_all load parallel around l) (join_of j) c) (q parallel tt b.1 (omega (arith, leb-true 2 (tcount l) b.0)) (join_of j ++ c) (join-fits j height c h f))
    word_fits p.not l j height c e q h f =
        let b = and_both (eqb (tcount l) 1) (are_expressions l) e in
        rw (append_assoc (wired_all load parallel around l) (inverse ∷ join_of j) c)
        (q parallel tt b.1 (omega (arith, eqb-true (tcount l) 1 b.0)) (inverse ∷ (join_of j ++ c)) (tt, omega arith, join-fits j height c h f))
    word_fits out l j height c e q h f = absurd (false≢true e)
    word_fits p.set l j height c e q h f = absurd (false≢true e)
    word_fits all l j height c e q h f = absurd (false≢true e)
    word_fits free l j height c e q h f = absurd (false≢true e)

    mutual
      unfolding is_expression are_expressions closed closed_all wired wired_all height_after tnesting tnestings

      expression_fits : (t : Tree) → is_expression t ≡ true → TreeFits k n m t → closed names t ≡ true → (j : Join) (height : ℕ) → height + tnesting t ≤ most_values → TakesJoin j height
          → (c : List Instruction) → Fits bits (height_after_join j height) c → Fits bits height (wired j around t ++ c)
      expression_fits (var x) e i o j height d h c f = (owned x o, h, f)
      expression_fits (app g l) e i o j height d h c f =
          word_fits (head_word g) l j height c e
          (λ q u v z y w. parts-fit l v i.1 (and_both (closed names g) (closed_all names l) o).1 height (omega (arith, le-max_right (tnesting g) (tnestings l))) q u z y w) h f
      expression_fits (fun x b) e i o j height d h c f = absurd (false≢true e)
      expression_fits (datum a) e i o j height d h c f = atom-fits a e i j height c h f
      expression_fits (lst l) e i o j height d h c f = absurd (false≢true e)
      expression_fits (stx x) e i o j height d h c f = absurd (false≢true e)

      parts-fit : (l : Trees) → are_expressions l ≡ true → TreesFit k n m l → closed_all names l ≡ true → (height : ℕ) → suc height + tnestings l ≤ most_values → (q : Join) → Joined q → 1 ≤ tcount l
          → (c : List Instruction) → Fits bits (suc height) c → Fits bits height (wired_all load q around l ++ c)
      parts-fit tnil e i o height d q u z c f = absurd (omega arith)
      parts-fit (tcons t l) e i o height d q u z c f =
          let b = and_both (is_expression t) (are_expressions l) e in
          let w = and_both (closed names t) (closed_all names l) o in
          rw (append_assoc (wired load around t) (wired_all q q around l) c)
          (expression_fits t b.0 i.0 w.0 load height (omega (arith, le-max_left (tnesting t) (tnestings l))) (omega arith) (wired_all q q around l ++ c)
          (others-fit l b.1 i.1 w.1 (suc height) (omega (arith, le-max_right (tnesting t) (tnestings l))) q u (omega arith) c f))

      others-fit : (l : Trees) → are_expressions l ≡ true → TreesFit k n m l → closed_all names l ≡ true → (height : ℕ) → height + tnestings l ≤ most_values → (q : Join) → Joined q → 0 < height
          → (c : List Instruction) → Fits bits height c → Fits bits height (wired_all q q around l ++ c)
      others-fit tnil e i o height d q u z c f = f
      others-fit (tcons t l) e i o height d q u z c f =
          let b = and_both (is_expression t) (are_expressions l) e in
          let w = and_both (closed names t) (closed_all names l) o in
          rw (append_assoc (wired q around t) (wired_all q q around l) c)
          (expression_fits t b.0 i.0 w.0 q height (omega (arith, le-max_left (tnesting t) (tnestings l))) (joined-takes q u height z) (wired_all q q around l ++ c)
          (rw (joined_height q u height) (others-fit l b.1 i.1 w.1 height (omega (arith, le-max_right (tnesting t) (tnestings l))) q u z c f)))

    abbrev Expression : Trees → Type 0
    Expression l = (eqb (tcount l) 1 ≡ true) × (are_expressions l ≡ true) × TreesFit k n m l × (closed_all names l ≡ true) × (tnestings l ≤ most_values)

    first_fits : (l : Trees) → Expression l → (c : List Instruction) → Fits bits 1 c → Fits bits 0 (wired_first around l ++ c)
    unfolding tcount wired_first are_expressions closed_all tnestings height_after_join
    first_fits tnil e c f = absurd (false≢true e.0)
    first_fits (tcons t l) e c f =
        expression_fits t (and_both (is_expression t) (are_expressions l) e.1).0 e.2.0 (and_both (closed names t) (closed_all names l) e.3).0 load 0
        (omega (arith, e.4, le-max_left (tnesting t) (tnestings l))) (omega arith) c f

    driven-fits : (q : Tree) → is_point_tree q ≡ true → TreeFits k n m q → (l : Trees) → Expression l → (c : List Instruction) → Fits bits 0 c
        → Fits bits 0 (driven_by q (wired_first around l) ++ c)
    unfolding is_point_tree is_point driven_by height_after last_point
    driven-fits (var x) i w l e c f = absurd (false≢true i)
    driven-fits (app g r) i w l e c f = absurd (false≢true i)
    driven-fits (fun x b) i w l e c f = absurd (false≢true i)
    driven-fits (datum (symbol x)) i w l e c f = absurd (false≢true i)
    driven-fits (datum (number x)) i w l e c f = absurd (false≢true i)
    driven-fits (datum (point x)) i w l e c f =
        rw (append_assoc (wired_first around l) (coil x ∷ []) c) (first_fits l e (coil x ∷ c) (omega arith, omega arith, f))
    driven-fits (datum (prim x)) i w l e c f = absurd (false≢true i)
    driven-fits (datum (rung x)) i w l e c f = absurd (false≢true i)
    driven-fits (lst r) i w l e c f = absurd (false≢true i)
    driven-fits (stx x) i w l e c f = absurd (false≢true i)

    assigned-fits : (q : Tree) → is_variable q ≡ true → closed names q ≡ true → (l : Trees) → Expression l → (c : List Instruction) → Fits bits 0 c
        → Fits bits 0 (assigned_by around q (wired_first around l) ++ c)
    unfolding is_variable closed assigned_by height_after
    assigned-fits (var x) i o l e c f =
        rw (append_assoc (wired_first around l) (bit_coil (address_in around x) ∷ []) c) (first_fits l e (bit_coil (address_in around x) ∷ c) (owned x o, omega arith, f))
    assigned-fits (app g r) i o l e c f = absurd (false≢true i)
    assigned-fits (fun x b) i o l e c f = absurd (false≢true i)
    assigned-fits (datum a) i o l e c f = absurd (false≢true i)
    assigned-fits (lst r) i o l e c f = absurd (false≢true i)
    assigned-fits (stx x) i o l e c f = absurd (false≢true i)

    out-fits : (l : Trees) → is_rung is_point_tree l ≡ true → TreesFit k n m l → closed_all names l ≡ true → tnestings l ≤ most_values → (c : List Instruction) → Fits bits 0 c
        → Fits bits 0 (out_code around l ++ c)
    unfolding is_rung out_code closed_all tnestings
    out-fits tnil e w o d c f = absurd (false≢true e)
    out-fits (tcons q l) e w o d c f =
        let b = and_both (is_point_tree q && eqb (tcount l) 1) (are_expressions l) e in
        let i = and_both (is_point_tree q) (eqb (tcount l) 1) b.0 in
        let r = and_both (closed names q) (closed_all names l) o in
        driven-fits q i.0 w.0 l (i.1, b.1, w.1, r.1, omega (arith, le-max_right (tnesting q) (tnestings l))) c f

    set-fits : (l : Trees) → is_rung is_variable l ≡ true → TreesFit k n m l → closed_all names l ≡ true → tnestings l ≤ most_values → (c : List Instruction) → Fits bits 0 c
        → Fits bits 0 (set_code around l ++ c)
    unfolding is_rung set_code closed_all tnestings
    set-fits tnil e w o d c f = absurd (false≢true e)
    set-fits (tcons q l) e w o d c f =
        let b = and_both (is_variable q && eqb (tcount l) 1) (are_expressions l) e in
        let i = and_both (is_variable q) (eqb (tcount l) 1) b.0 in
        let r = and_both (closed names q) (closed_all names l) o in
        assigned-fits q i.0 r.0 l (i.1, b.1, w.1, r.1, omega (arith, le-max_right (tnesting q) (tnestings l))) c f

    rungs-fit : (w : Word) (l : Trees) (body parts : Bool) (inside those c : List Instruction) → is_program_of w l body parts ≡ true → TreesFit k n m l → closed_all names l ≡ true
        → tnestings l ≤ most_values → (body ≡ true → Fits bits 0 (inside ++ c)) → (parts ≡ true → Fits bits 0 (those ++ c)) → Fits bits 0 c → Fits bits 0 (rungs_of w around l inside those ++ c)
    unfolding is_program_of rungs_of
    rungs-fit bit l body parts inside those c e w o d i q f = i (and_both body (is_start l) e).0
    rungs-fit and l body parts inside those c e w o d i q f = absurd (false≢true e)
    rungs-fit or l body parts inside those c e w o d i q f = absurd (false≢true e)
    rungs-fit p.not l body parts inside those c e w o d i q f = absurd (false≢true e)
    rungs-fit out l body parts inside those c e w o d i q f = out-fits l e w o d c f
    rungs-fit p.set l body parts inside those c e w o d i q f = set-fits l e w o d c f
    rungs-fit all l body parts inside those c e w o d i q f = q (and_both (leb 1 (tcount l)) parts e).1
    rungs-fit free l body parts inside those c e w o d i q f = absurd (false≢true e)

  abbrev Owned : List ℕ → List Bit → Type 0
  Owned names around = (x : ℕ) → is_among x names ≡ true → address_in around x < bits

  owned-more : (names : List ℕ) (around : List Bit) (y next : ℕ) → Owned names around → next < bits → Owned (y ∷ names) (record { name = y; address = next } ∷ around)
  unfolding is_among address_in
  owned-more names around y next o h x = go (eqb x y)
    where
      go : (t : Bool) → (t || is_among x names) ≡ true → (when t then next else address_in around x) < bits
      go true e = h
      go false e = o x e

  -- `next` is the address of the next function to be met
  mutual
    unfolding is_program is_program_inside are_programs rungs rungs_inside rungs_all closed closed_all tnesting tnestings bits_of function_names function_names_all

    fits : (t : Tree) → is_program t ≡ true → TreeFits k n m t → tnesting t ≤ suc most_values → (names : List ℕ) → closed names t ≡ true → (around : List Bit) → Owned names around
        → (next : ℕ) → next + length (bits_of t) ≤ bits → (c : List Instruction) → Fits bits 0 c → Fits bits 0 (rungs around next t ++ c)
    fits (var x) e w d names o around a next b c f = absurd (false≢true e)
    fits (app g l) e w d names o around a next b c f =
        let r = and_both (closed names g) (closed_all names l) o in
        let z = length-append (function_names g) (function_names_all l) in
        rungs-fit names around a (head_word g) l (is_program_inside g) (are_programs l) (rungs_inside around next g) (rungs_all around next l) c e w.1 r.1
        (omega (arith, le-max_right (tnesting g) (tnestings l)))
        (λ q. inside-fits g q w.0 (omega (arith, le-max_left (tnesting g) (tnestings l))) names r.0 around a next (omega arith) c f)
        (λ q. all_fit l q w.1 (omega (arith, le-max_right (tnesting g) (tnestings l))) names r.1 around a next (omega arith) c f) f
    fits (fun x b) e w d names o around a next h c f = absurd (false≢true e)
    fits (datum x) e w d names o around a next b c f = absurd (false≢true e)
    fits (lst l) e w d names o around a next b c f = absurd (false≢true e)
    fits (stx x) e w d names o around a next b c f = absurd (false≢true e)

    inside-fits : (t : Tree) → is_program_inside t ≡ true → TreeFits k n m t → tnesting t ≤ most_values → (names : List ℕ) → closed names t ≡ true → (around : List Bit) → Owned names around
        → (next : ℕ) → next + length (function_names t) ≤ bits → (c : List Instruction) → Fits bits 0 c → Fits bits 0 (rungs_inside around next t ++ c)
    inside-fits (var x) e w d names o around a next b c f = absurd (false≢true e)
    inside-fits (app g l) e w d names o around a next b c f = absurd (false≢true e)
    inside-fits (fun x b) e w d names o around a next h c f =
        fits b e w.1 (omega arith) (x ∷ names) o (record { name = x; address = next } ∷ around) (owned-more names around x next a (omega arith)) (suc next) (omega arith) c f
    inside-fits (datum x) e w d names o around a next b c f = absurd (false≢true e)
    inside-fits (lst l) e w d names o around a next b c f = absurd (false≢true e)
    inside-fits (stx x) e w d names o around a next b c f = absurd (false≢true e)

    all_fit : (l : Trees) → are_programs l ≡ true → TreesFit k n m l → tnestings l ≤ most_values → (names : List ℕ) → closed_all names l ≡ true → (around : List Bit) → Owned names around
        → (next : ℕ) → next + length (function_names_all l) ≤ bits → (c : List Instruction) → Fits bits 0 c → Fits bits 0 (rungs_all around next l ++ c)
    all_fit tnil e w d names o around a next b c f = f
    all_fit (tcons t l) e w d names o around a next b c f =
        let i = and_both (is_program t) (are_programs l) e in
        let r = and_both (closed names t) (closed_all names l) o in
        let z = length-append (function_names t) (function_names_all l) in
        rw (append_assoc (rungs around next t) (rungs_all around (next + length (bits_of t)) l) c)
        (fits t i.0 w.0 (omega (arith, le-max_left (tnesting t) (tnestings l))) names r.0 around a next (omega arith) (rungs_all around (next + length (bits_of t)) l ++ c)
        (all_fit l i.1 w.1 (omega (arith, le-max_right (tnesting t) (tnestings l))) names r.1 around a (next + length (bits_of t)) (omega arith) c f))

  pub program-fits : (t : Tree) → is_program t ≡ true → TreeFits k n m t → tnesting t ≤ most_nesting → closed [] t ≡ true → length (bits_of t) ≤ bits → Fits bits 0 (rungs [] 0 t)
  unfolding most_nesting is_among
  program-fits t e w d o b = rw append-nil at (fits t e w d [] o [] (λ x q. absurd (false≢true q)) 0 (omega arith) [] tt)
