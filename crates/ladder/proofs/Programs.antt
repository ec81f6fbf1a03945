-- Running the code of a program works its rungs, and leaves no value behind.
use Prim.Native.Nat.{ℕ, suc, ◌+◌}
use mathlib.Core.Path.{◌≡◌, refl, ap, ◌∙◌}
use mathlib.Core.Bool.{Bool, true, ◌&&◌, false≢true}
use mathlib.Core.List.{List, [], ◌∷◌}
use lib.Dec.{leb, eqb}
use lib.ListN.{length}
use Rattle.model.specs.Objects.{symbol, number, point, prim, rung}
use Rattle.model.specs.Trees.{Tree, var, app, fun, datum, lst, stx, Trees, tnil, tcons, tcount}
use Rattle.laws.proofs.Tests.{and_both}
use Rattle.requests.specs.Panel as p
use Rattle.requests.specs.Panel.{Word, bit, and, or, out, all, free, head_word, bits_of, is_point, is_point_tree, is_variable, is_start, is_expression, are_expressions, is_rung, is_program_of, is_program, is_program_inside, are_programs}
use Rattle.requests.specs.Scanning.{State, Bit, address_in, value_of_first, drive, assign, out_rung, set_rung, work_of, work, work_inside, work_all}
use Rattle.requests.proofs.Binary.{BinaryState, work-binary}
use Rattle.ladder.specs.Code.{load, Instruction, coil, bit_coil, wired_first, driven_by, assigned_by, out_code, set_code, rungs_of, rungs, rungs_inside, rungs_all}
use Rattle.ladder.specs.Running.{Running, top_of, rest_of, taken, step, run}
use Rattle.ladder.proofs.Expressions.{run-both, expression_runs}

abbrev from : List ℕ → State → Running
from v s = record { values = v; state = s }

module _ (around : List Bit) (s : State) (h : BinaryState s) (v : List ℕ) where
  -- a rung's expressions are one
  first_runs : (l : Trees) → eqb (tcount l) 1 ≡ true → are_expressions l ≡ true → run (wired_first around l) (from v s) ≡ from (value_of_first around s l ∷ v) s
  unfolding tcount wired_first value_of_first are_expressions taken
  first_runs tnil n e = absurd (false≢true n)
  first_runs (tcons t l) n e = expression_runs around s h t (and_both (is_expression t) (are_expressions l) e).0 load v

  module _ (e : List Instruction) (x : ℕ) (r : run e (from v s) ≡ from (x ∷ v) s) where
    driven_runs : (q : Tree) → is_point_tree q ≡ true → run (driven_by q e) (from v s) ≡ from v (drive q x s)
    unfolding is_point_tree is_point driven_by drive run step top_of rest_of
    driven_runs (var n) i = absurd (false≢true i)
    driven_runs (app f k) i = absurd (false≢true i)
    driven_runs (fun n b) i = absurd (false≢true i)
    driven_runs (datum (symbol y)) i = absurd (false≢true i)
    driven_runs (datum (number y)) i = absurd (false≢true i)
    driven_runs (datum (point y)) i = run-both e (coil y ∷ []) (from v s) ∙ ap (run (coil y ∷ [])) r
    driven_runs (datum (prim y)) i = absurd (false≢true i)
    driven_runs (datum (rung y)) i = absurd (false≢true i)
    driven_runs (lst k) i = absurd (false≢true i)
    driven_runs (stx y) i = absurd (false≢true i)

    assigned_runs : (q : Tree) → is_variable q ≡ true → run (assigned_by around q e) (from v s) ≡ from v (assign around q x s)
    unfolding is_variable assigned_by assign run step top_of rest_of
    assigned_runs (var n) i = run-both e (bit_coil (address_in around n) ∷ []) (from v s) ∙ ap (run (bit_coil (address_in around n) ∷ [])) r
    assigned_runs (app f k) i = absurd (false≢true i)
    assigned_runs (fun n b) i = absurd (false≢true i)
    assigned_runs (datum a) i = absurd (false≢true i)
    assigned_runs (lst k) i = absurd (false≢true i)
    assigned_runs (stx y) i = absurd (false≢true i)

  out_runs : (l : Trees) → is_rung is_point_tree l ≡ true → run (out_code around l) (from v s) ≡ from v (out_rung around l s)
  unfolding is_rung out_code out_rung
  out_runs tnil e = absurd (false≢true e)
  out_runs (tcons q l) e =
      let b = and_both (is_point_tree q && eqb (tcount l) 1) (are_expressions l) e in
      let c = and_both (is_point_tree q) (eqb (tcount l) 1) b.0 in
      driven_runs (wired_first around l) (value_of_first around s l) (first_runs l c.1 b.1) q c.0

  set_runs : (l : Trees) → is_rung is_variable l ≡ true → run (set_code around l) (from v s) ≡ from v (set_rung around l s)
  unfolding is_rung set_code set_rung
  set_runs tnil e = absurd (false≢true e)
  set_runs (tcons q l) e =
      let b = and_both (is_variable q && eqb (tcount l) 1) (are_expressions l) e in
      let c = and_both (is_variable q) (eqb (tcount l) 1) b.0 in
      assigned_runs (wired_first around l) (value_of_first around s l) (first_runs l c.1 b.1) q c.0

  word_runs : (w : Word) (l : Trees) (body parts : Bool) (inside those : List Instruction) (s₁ s₂ : State) → is_program_of w l body parts ≡ true
      → (body ≡ true → run inside (from v s) ≡ from v s₁) → (parts ≡ true → run those (from v s) ≡ from v s₂)
      → run (rungs_of w around l inside those) (from v s) ≡ from v (work_of w around l s s₁ s₂)
  unfolding is_program_of rungs_of work_of
  word_runs bit l body parts inside those s₁ s₂ e i k = i (and_both body (is_start l) e).0
  word_runs and l body parts inside those s₁ s₂ e i k = absurd (false≢true e)
  word_runs or l body parts inside those s₁ s₂ e i k = absurd (false≢true e)
  word_runs p.not l body parts inside those s₁ s₂ e i k = absurd (false≢true e)
  word_runs out l body parts inside those s₁ s₂ e i k = out_runs l e
  word_runs p.set l body parts inside those s₁ s₂ e i k = set_runs l e
  word_runs all l body parts inside those s₁ s₂ e i k = k (and_both (leb 1 (tcount l)) parts e).1
  word_runs free l body parts inside those s₁ s₂ e i k = absurd (false≢true e)

mutual
  unfolding is_program is_program_inside are_programs rungs rungs_inside rungs_all work work_inside work_all run

  pub program_runs : (t : Tree) → is_program t ≡ true → (around : List Bit) (next : ℕ) (s : State) → BinaryState s → (v : List ℕ)
      → run (rungs around next t) (record { values = v; state = s }) ≡ record { values = v; state = work around next t s }
  program_runs (var n) e around next s h v = absurd (false≢true e)
  program_runs (app f l) e around next s h v =
      word_runs around s h v (head_word f) l (is_program_inside f) (are_programs l) (rungs_inside around next f) (rungs_all around next l) (work_inside around next f s) (work_all around next l s) e
      (λ q. inside_runs f q around next s h v) (λ q. programs_run l q around next s h v)
  program_runs (fun n b) e around next s h v = absurd (false≢true e)
  program_runs (datum a) e around next s h v = absurd (false≢true e)
  program_runs (lst l) e around next s h v = absurd (false≢true e)
  program_runs (stx x) e around next s h v = absurd (false≢true e)

  inside_runs : (f : Tree) → is_program_inside f ≡ true → (around : List Bit) (next : ℕ) (s : State) → BinaryState s → (v : List ℕ)
      → run (rungs_inside around next f) (from v s) ≡ from v (work_inside around next f s)
  inside_runs (var n) e around next s h v = absurd (false≢true e)
  inside_runs (app f l) e around next s h v = absurd (false≢true e)
  inside_runs (fun n b) e around next s h v = program_runs b e (record { name = n; address = next } ∷ around) (suc next) s h v
  inside_runs (datum a) e around next s h v = absurd (false≢true e)
  inside_runs (lst l) e around next s h v = absurd (false≢true e)
  inside_runs (stx x) e around next s h v = absurd (false≢true e)

  programs_run : (l : Trees) → are_programs l ≡ true → (around : List Bit) (next : ℕ) (s : State) → BinaryState s → (v : List ℕ)
      → run (rungs_all around next l) (from v s) ≡ from v (work_all around next l s)
  programs_run tnil e around next s h v = refl
  programs_run (tcons t l) e around next s h v =
      let b = and_both (is_program t) (are_programs l) e in
      let z = next + length (bits_of t) in
      run-both (rungs around next t) (rungs_all around z l) (from v s)
      ∙ ap (run (rungs_all around z l)) (program_runs t b.0 around next s h v)
      ∙ programs_run l b.1 around z (work around next t s) (work-binary around next t s h) v
