-- Trees measured, by the tests that the code makes.
use Rattle.std.specs.Prelude.{Result, Ok, Err}
use Prim.Native.Nat.{ℕ, zero, suc, ◌+◌, ◌-◌, ◌*◌, ◌≤◌, ◌<◌}
use mathlib.Core.Path.{◌≡◌, refl, sym, ap, ◌∙◌}
use mathlib.Core.Bool.{Bool, true, false, not, ◌&&◌}
use mathlib.Core.List.{List, [], ◌∷◌}
use native.Mathlib.Omega.{arith}
use lib.Dec.{eqb, ltb, leb}
use lib.ListN.{length, get_or, set, drop, replicate, length-drop, length-set}
use lib.Seq.{drop-drop, set-set, set-get_or}
use borrow.Author.Tests.{le-leb, lt-leb, ltb-true}
use mir.Syntax.{w32}
use mir.Val.{Fits}
use Rattle.model.specs.Refusals.{layout}
use Rattle.model.specs.Reading as m
use Rattle.model.specs.Reading.{Reader, got, fault, next, need, num, num_below, at_end}
use Rattle.refusals.specs.declared.Refusal.{Refusal}
use Rattle.refusals.specs.declared.Refusal.TheVariants.{Layout, OverLimit}
use Rattle.refusals.proofs.Cases.{case_back}
use Rattle.numbers.specs.declared.Cursor.{Cursor}
use Rattle.numbers.specs.Answers.{read_at, beside}
use Rattle.numbers.proofs.Tails.{Tail, num_tail, below_tail}
use Rattle.numbers.proofs.Answering.{Took, took, refused, read_shape, goes, gives, refuses, stops}
use Rattle.roots.specs.MeasuredObjects.{read_content_of, measure_stx}
use Rattle.roots.proofs.ObjectSizes.{content_tail, object_tail, Inside}
use Rattle.head.specs.declared.Counts.{Counts}
use Rattle.roots.specs.declared.Extent.{Extent}
use Rattle.roots.specs.Measuring.{nothing, joined, measure_variable, measure_atom, measure_object, measure_all, measure_several, function_with, body_with, measure_tree, measure_body, measure_function, then_end, whole_syntax, none_around, whole_tree}
use Rattle.roots.proofs.Spans.{tree_tail, all_trees_tail, tree-small, all_small}

-- ---- what has no parts

module _ (at names : ℕ) (around s : List ℕ) {r : Result (ℕ × Cursor) Refusal} (h : r ≡ read_at (at + length s) (num_below names s)) where
  pub variable-stops : {f : Refusal} → r ≡ Err f → Err f ≡ read_at (at + length s) (measure_variable names around s)
  unfolding measure_variable
  variable-stops e = stops read_shape beside (at + length s) (num_below names s) _ h e

  pub variable-read : {n : ℕ} {past : Cursor} → r ≡ Ok (n, past) → Ok ((record { size = 1; owned = not (eqb (get_or around n 0) 0) }), past) ≡ read_at (at + length s) (measure_variable names around s)
  unfolding measure_variable
  variable-read e = gives read_shape beside at (num_below names s) _ h e (below_tail names s) (λ u. refl)

below-is : (most : ℕ) (g : m.Read ℕ) (n : ℕ) (rest : List ℕ) → next g (λ k t. next (need layout (ltb k most) t) (λ x. λ u. got k u)) ≡ got n rest → n < most
below-is most (got k t) n rest e = go (ltb k most) refl e
  where
    go : (b : Bool) → ltb k most ≡ b → next (need layout b t) (λ x. λ u. got k u) ≡ got n rest → n < most
    go true q e = let v : k ≡ n = cc in let l = ltb-true k most q in omega arith
    go false q e = let z : ◌≡◌ {A = ℕ} 0 1 = cc in absurd (omega arith)
below-is most (fault c) n rest e = let z : ◌≡◌ {A = ℕ} 0 1 = cc in absurd (omega arith)

pub name-inside : (at names : ℕ) (around s : List ℕ) {r : Result (ℕ × Cursor) Refusal} {n : ℕ} {past : Cursor} → r ≡ read_at (at + length s) (num_below names s) → r ≡ Ok (n, past) → names ≤ length around
    → n < length around
unfolding num_below
name-inside at names around s {n = n} {past = past} h e l =
    let T : Took at s (num_below names s) n past.at = took read_shape h e (below_tail names s) in
    let k = below-is names (num s) n _ T.is in
    omega arith

module _ (at symbols : ℕ) (s : List ℕ) {r : Result (ℕ × Cursor) Refusal} (h : r ≡ read_at (at + length s) (num s)) where
  pub atom-stops : {f : Refusal} → r ≡ Err f → Err f ≡ read_at (at + length s) (measure_atom symbols s)
  unfolding measure_atom
  atom-stops e = stops read_shape beside (at + length s) (num s) _ h e

  module _ {t : ℕ} {past : Cursor} {u : List ℕ} {x : Result (ℕ × Cursor) Refusal} (e : r ≡ Ok (t, past)) (i : u ≡ drop (past.at - at) s) (k : x ≡ read_at (past.at + length u) (read_content_of symbols t u)) where
    pub content-stops : {f : Refusal} → x ≡ Err f → Err f ≡ read_at (at + length s) (measure_atom symbols s)
    unfolding measure_atom
    content-stops d = goes read_shape beside at (num s) _ h e (num_tail s) i (stops read_shape beside (past.at + length u) (read_content_of symbols t u) _ k d)

    pub atom-read : {v : ℕ} {end : Cursor} → x ≡ Ok (v, end) → Ok ((record { size = 1; owned = true }), end) ≡ read_at (at + length s) (measure_atom symbols s)
    unfolding measure_atom
    atom-read d =
        goes read_shape beside at (num s) _ h e (num_tail s) i
        (gives read_shape beside past.at (read_content_of symbols t u) _ k d (content_tail symbols t u) (λ w. refl))

module _ (at symbols scopes levels : ℕ) (s : List ℕ) {r : Result (ℕ × Cursor) Refusal} (h : r ≡ read_at (at + length s) (measure_stx symbols scopes levels s)) where
  pub object-stops : {f : Refusal} → r ≡ Err f → Err f ≡ read_at (at + length s) (measure_object symbols scopes levels s)
  unfolding measure_object
  object-stops e = stops read_shape beside (at + length s) (measure_stx symbols scopes levels s) _ h e

  pub object-read : {n : ℕ} {past : Cursor} → r ≡ Ok (n, past) → Ok ((record { size = n; owned = true }), past) ≡ read_at (at + length s) (measure_object symbols scopes levels s)
  unfolding measure_object
  object-read e = gives read_shape beside at (measure_stx symbols scopes levels s) _ h e (object_tail symbols scopes levels s) (λ u. refl)

-- ---- a tree

pub tree_deep : (end : ℕ) (k : Counts) (levels low : ℕ) (around s : List ℕ) → levels ≡ 0 → Err OverLimit ≡ read_at end (measure_tree k levels low around s)
unfolding measure_tree
tree_deep end k levels low around s e = rw e

tree_is : (k : Counts) (levels low : ℕ) (around s : List ℕ) → (levels ≡ 0 → ⊥)
    → measure_tree k levels low around s ≡ next (num s) (λ t u. next (need layout (leb low t) u) (λ x. measure_body k levels around t))
unfolding measure_tree measure_body
tree_is k zero low around s h = absurd (h refl)
tree_is k (suc l) low around s h =
    let e : l ≡ suc l - 1 = omega arith in
    ap (λ (j : ℕ). next (num s) (λ t u. next (need layout (leb low t) u) (λ x. body_with k around (measure_tree k j 0 around) (measure_tree k j 2 around) (λ n. measure_tree k j 0 (set around n 1)) (measure_object k.symbols k.scopes (suc l)) t))) e

module _ (at : ℕ) (k : Counts) (levels low : ℕ) (around s : List ℕ) (some : levels ≡ 0 → ⊥) {r : Result (ℕ × Cursor) Refusal} (h : r ≡ read_at (at + length s) (num s)) where
  pub tree-stops : {f : Refusal} → r ≡ Err f → Err f ≡ read_at (at + length s) (measure_tree k levels low around s)
  tree-stops e = rw (tree_is k levels low around s some) (stops read_shape beside (at + length s) (num s) _ h e)

  module _ {t : ℕ} {past : Cursor} (e : r ≡ Ok (t, past)) where
    pub tree-low : t < low → Err Layout ≡ read_at (at + length s) (measure_tree k levels low around s)
    tree-low l = rw (tree_is k levels low around s some) (refuses read_shape beside at (num s) _ h e (num_tail s) (λ u. rw (lt-leb low t l)))

    pub tree-goes : {u : List ℕ} {x : Result (Extent × Cursor) Refusal} → low ≤ t → u ≡ drop (past.at - at) s → x ≡ read_at (past.at + length u) (measure_body k levels around t u)
        → x ≡ read_at (at + length s) (measure_tree k levels low around s)
    tree-goes l i a = rw (tree_is k levels low around s some) (goes read_shape beside at (num s) _ h e (num_tail s) i (rw (le-leb low t l) a))

pub positive : {levels : ℕ} → (levels ≡ 0 → ⊥) → 1 ≤ levels
positive h = omega arith

module _ (end : ℕ) (k : Counts) (levels : ℕ) (around : List ℕ) (t : ℕ) (s : List ℕ) where
  pub body_variable : {x : Result (Extent × Cursor) Refusal} → t ≡ 0 → x ≡ read_at end (measure_variable k.names around s) → x ≡ read_at end (measure_body k levels around t s)
  unfolding measure_body body_with
  body_variable e a = rw e a

  pub body_application : {x : Result (Extent × Cursor) Refusal} → t ≡ 1 → x ≡ read_at end (measure_several 1 (measure_tree k (levels - 1) 0 around) s) → x ≡ read_at end (measure_body k levels around t s)
  unfolding measure_body body_with
  body_application e a = rw e a

  pub body_function : {x : Result (Extent × Cursor) Refusal} → t ≡ 2 → x ≡ read_at end (measure_function k (levels - 1) around s) → x ≡ read_at end (measure_body k levels around t s)
  unfolding measure_body body_with measure_function
  body_function e a = rw e a

  pub body_atom : {x : Result (Extent × Cursor) Refusal} → t ≡ 3 → x ≡ read_at end (measure_atom k.symbols s) → x ≡ read_at end (measure_body k levels around t s)
  unfolding measure_body body_with
  body_atom e a = rw e a

  pub body_list : {x : Result (Extent × Cursor) Refusal} → t ≡ 4 → x ≡ read_at end (measure_several 0 (measure_tree k (levels - 1) 2 around) s) → x ≡ read_at end (measure_body k levels around t s)
  unfolding measure_body body_with
  body_list e a = rw e a

  pub body_object : {x : Result (Extent × Cursor) Refusal} → t ≡ 5 → x ≡ read_at end (measure_object k.symbols k.scopes levels s) → x ≡ read_at end (measure_body k levels around t s)
  unfolding measure_body body_with
  body_object e a = rw e a

  pub body_none : (t ≡ 0 → ⊥) → (t ≡ 1 → ⊥) → (t ≡ 2 → ⊥) → (t ≡ 3 → ⊥) → (t ≡ 4 → ⊥) → (t ≡ 5 → ⊥) → Err Layout ≡ read_at end (measure_body k levels around t s)
  unfolding measure_body body_with
  body_none a b c d e f = go t a b c d e f
    where
      go : (t : ℕ) → (t ≡ 0 → ⊥) → (t ≡ 1 → ⊥) → (t ≡ 2 → ⊥) → (t ≡ 3 → ⊥) → (t ≡ 4 → ⊥) → (t ≡ 5 → ⊥) → Err Layout ≡ read_at end (measure_body k levels around t s)
      go zero a b c d e f = absurd (a refl)
      go (suc zero) a b c d e f = absurd (b refl)
      go (suc (suc zero)) a b c d e f = absurd (c refl)
      go (suc (suc (suc zero))) a b c d e f = absurd (d refl)
      go (suc (suc (suc (suc zero)))) a b c d e f = absurd (e refl)
      go (suc (suc (suc (suc (suc zero))))) a b c d e f = absurd (f refl)
      go (suc (suc (suc (suc (suc (suc t)))))) a b c d e f = refl

-- ---- several trees

module _ (at least : ℕ) (k : Counts) (levels low : ℕ) (around s : List ℕ) {r : Result (ℕ × Cursor) Refusal} (h : r ≡ read_at (at + length s) (num s)) where
  pub several-stops : {f : Refusal} → r ≡ Err f → Err f ≡ read_at (at + length s) (measure_several least (measure_tree k levels low around) s)
  unfolding measure_several
  several-stops e = stops read_shape beside (at + length s) (num s) _ h e

  module _ {c : ℕ} {past : Cursor} (e : r ≡ Ok (c, past)) where
    pub several-few : c < least → Err Layout ≡ read_at (at + length s) (measure_several least (measure_tree k levels low around) s)
    unfolding measure_several
    several-few l = refuses read_shape beside at (num s) _ h e (num_tail s) (λ u. rw (lt-leb least c l))

    module _ {u : List ℕ} {x : Result (Extent × Cursor) Refusal} (l : least ≤ c) (i : u ≡ drop (past.at - at) s) (q : x ≡ read_at (past.at + length u) (measure_all c nothing (measure_tree k levels low around) u)) where
      pub several_all_stop : {f : Refusal} → x ≡ Err f → Err f ≡ read_at (at + length s) (measure_several least (measure_tree k levels low around) s)
      unfolding measure_several
      several_all_stop d =
          goes read_shape beside at (num s) _ h e (num_tail s) i
          (rw (le-leb least c l) (stops read_shape beside (past.at + length u) (measure_all c nothing (measure_tree k levels low around) u) _ q d))

      pub several-read : {x' : Extent} {end : Cursor} → x ≡ Ok (x', end) → Ok ((record { size = x'.size + 1; owned = x'.owned }), end) ≡ read_at (at + length s) (measure_several least (measure_tree k levels low around) s)
      unfolding measure_several
      several-read d =
          goes read_shape beside at (num s) _ h e (num_tail s) i
          (rw (le-leb least c l) (gives read_shape beside past.at (measure_all c nothing (measure_tree k levels low around) u) _ q d (all_trees_tail k levels low around c u) (λ w. refl)))

pub all-fits : (at : ℕ) (k : Counts) (levels low : ℕ) (around : List ℕ) (c : ℕ) (u : List ℕ) {x : Result (Extent × Cursor) Refusal} {e : Extent} {end : Cursor}
    → x ≡ read_at (at + length u) (measure_all c nothing (measure_tree k levels low around) u) → x ≡ Ok (e, end) → at + length u ≤ 65536 → Fits w32 (e.size + 1)
all-fits at k levels low around c u {e = e} {end = end} q d l =
    let T : Took at u (measure_all c nothing (measure_tree k levels low around) u) e end.at = took read_shape q d (all_trees_tail k levels low around c u) in
    let z = all_small k levels low around c u T.is in
    omega arith

pub tree-fits : (at : ℕ) (k : Counts) (levels low : ℕ) (around u : List ℕ) {x : Result (Extent × Cursor) Refusal} {e : Extent} {end : Cursor}
    → x ≡ read_at (at + length u) (measure_tree k levels low around u) → x ≡ Ok (e, end) → at + length u ≤ 65536 → Fits w32 (e.size + 1)
tree-fits at k levels low around u {e = e} {end = end} q d l =
    let T : Took at u (measure_tree k levels low around u) e end.at = took read_shape q d (tree_tail k levels low around u) in
    let z = tree-small k levels low around u T.is in
    omega arith

-- ---- one tree after another

pub record All (at : ℕ) (k : Counts) (levels low : ℕ) (s around₀ : List ℕ) (count : ℕ) (around : List ℕ) (place left size : ℕ) (owned : Bool) : Type 0 where
  pub same : around ≡ around₀
  pub moved : at ≤ place
  pub within : place ≤ at + length s
  pub small : at + size ≤ place
  pub is : measure_all count nothing (measure_tree k levels low around₀) s ≡ measure_all left (record { size = size; owned = owned }) (measure_tree k levels low around₀) (drop (place - at) s)

pub all_start : {at : ℕ} {k : Counts} {levels low : ℕ} {s around : List ℕ} {count left : ℕ} → left ≡ count → All at k levels low s around count around at left 0 true
all_start {at} q = let e : at - at ≡ 0 = omega arith in record { same = refl; moved = omega arith; within = omega arith; small = omega arith; is = rw (e, q) }

all_more_is : (part : Reader Extent) (left : ℕ) (sum : Extent) (s : List ℕ) → 0 < left → measure_all left sum part s ≡ next (part s) (λ e. measure_all (left - 1) (joined sum e) part)
unfolding measure_all
all_more_is part zero sum s h = absurd (omega arith)
all_more_is part (suc left) sum s h = let e : left ≡ suc left - 1 = omega arith in ap (λ (k : ℕ). next (part s) (λ e. measure_all k (joined sum e) part)) e

module _ {at : ℕ} {k : Counts} {levels low : ℕ} {s around₀ : List ℕ} {count : ℕ} {around : List ℕ} {place left size : ℕ} {owned : Bool} (c : All at k levels low s around₀ count around place left size owned) where
  pub all-inside : Inside at s place
  all-inside = record { moved = c.moved; within = c.within }

  pub all-names : {names : ℕ} → names ≤ length around₀ → names ≤ length around
  all-names h = let e = ap length c.same in omega arith

  pub all_read : {p : Cursor} → place ≡ p.at → left ≤ 0 → Ok ((record { size = size; owned = owned }), p) ≡ read_at (at + length s) (measure_all count nothing (measure_tree k levels low around₀) s)
  unfolding measure_all
  all_read {p} q h =
      let x = c.moved in
      let y = c.within in
      let e : left ≡ 0 = omega arith in
      let l = length-drop (place - at) s in
      let z : at + length s - length (drop (place - at) s) ≡ p.at = omega arith in
      sym (ap (read_at (at + length s)) c.is ∙ rw (e, z))

  module _ (some : 0 < left) {u : List ℕ} (i : u ≡ drop (place - at) s) {r : Result (Extent × Cursor) Refusal} (h : r ≡ read_at (place + length u) (measure_tree k levels low around u)) where
    there : r ≡ read_at (place + length u) (measure_tree k levels low around₀ u)
    there = h ∙ ap (λ (l : List ℕ). read_at (place + length u) (measure_tree k levels low l u)) c.same

    step : measure_all count nothing (measure_tree k levels low around₀) s ≡ next (measure_tree k levels low around₀ u) (λ e. measure_all (left - 1) (joined (record { size = size; owned = owned }) e) (measure_tree k levels low around₀))
    step = c.is ∙ ap (measure_all left (record { size = size; owned = owned }) (measure_tree k levels low around₀)) (sym i) ∙ all_more_is (measure_tree k levels low around₀) left (record { size = size; owned = owned }) u some

    pub part-stops : {f : Refusal} → r ≡ Err f → Err f ≡ read_at (at + length s) (measure_all count nothing (measure_tree k levels low around₀) s)
    part-stops {f} e = sym (ap (read_at (at + length s)) step ∙ rw (refused read_shape (place + length u) (measure_tree k levels low around₀ u) there e, case_back))

    module _ {x : Extent} {past : Cursor} (e : r ≡ Ok (x, past)) where
      T : Took place u (measure_tree k levels low around₀ u) x past.at
      T = took read_shape there e (tree_tail k levels low around₀ u)

      long : length u ≡ length s - (place - at)
      long = ap length i ∙ length-drop (place - at) s

      rest : drop (past.at - place) u ≡ drop (past.at - at) s
      rest =
          let y = T.moved in
          let z = c.moved in
          let q : place - at + (past.at - place) ≡ past.at - at = omega arith in
          ap (drop (past.at - place)) i ∙ drop-drop (past.at - place) (place - at) s ∙ ap (λ (j : ℕ). drop j s) q

      spent : place + x.size ≤ past.at
      spent =
          let z = tree-small k levels low around₀ u T.is in
          let y = T.ends in
          omega arith

      pub part-fits : at + length s ≤ 65536 → Fits w32 (size + x.size)
      part-fits l =
          let z = spent in
          let a = c.small in
          let b = c.within in
          let w = T.within in
          let v = long in
          let o = c.moved in
          omega arith

      pub part-more : {around' : List ℕ} {b : Bool} {next : ℕ} → next + 1 ≡ left → around' ≡ around → b ≡ (owned && x.owned) → All at k levels low s around₀ count around' past.at next (size + x.size) b
      part-more {around'} {b} {next} q f g =
          let j : left - 1 ≡ next = omega arith in
          let z = spent in
          let a = c.small in
          let d = c.within in
          let w = T.within in
          let v = long in
          let o = c.moved in
          record {
            same = f ∙ c.same;
            moved = omega arith;
            within = omega arith;
            small = omega arith;
            is = step ∙ rw (T.is, rest, g, j);
          }

pub all_same : {at : ℕ} {k : Counts} {levels low : ℕ} {s around₀ : List ℕ} {count : ℕ} {around : List ℕ} {place left size : ℕ} {owned : Bool} {around' : List ℕ}
    → All at k levels low s around₀ count around place left size owned → around' ≡ around → around' ≡ around₀
all_same c e = e ∙ c.same

pub all-long : {at : ℕ} {k : Counts} {levels low : ℕ} {s around₀ : List ℕ} {count : ℕ} {around : List ℕ} {place left size : ℕ} {owned : Bool} {around' : List ℕ}
    → All at k levels low s around₀ count around place left size owned → around' ≡ around → length around' ≡ length around₀
all-long c e = ap length (e ∙ c.same)

-- ---- a function

module _ (at : ℕ) (k : Counts) (levels : ℕ) (around s : List ℕ) {r : Result (ℕ × Cursor) Refusal} (h : r ≡ read_at (at + length s) (num_below k.names s)) where
  pub function_stops : {f : Refusal} → r ≡ Err f → Err f ≡ read_at (at + length s) (measure_function k levels around s)
  unfolding measure_function function_with
  function_stops e = stops read_shape beside (at + length s) (num_below k.names s) _ h e

  module _ {n : ℕ} {past : Cursor} {u : List ℕ} {x : Result (Extent × Cursor) Refusal} (e : r ≡ Ok (n, past)) (i : u ≡ drop (past.at - at) s) (q : x ≡ read_at (past.at + length u) (measure_tree k levels 0 (set around n 1) u)) where
    pub function_body_stops : {f : Refusal} → x ≡ Err f → Err f ≡ read_at (at + length s) (measure_function k levels around s)
    unfolding measure_function function_with
    function_body_stops d =
        goes read_shape beside at (num_below k.names s) _ h e (below_tail k.names s) i
        (stops read_shape beside (past.at + length u) (measure_tree k levels 0 (set around n 1) u) _ q d)

    pub function_read : {x' : Extent} {end : Cursor} → x ≡ Ok (x', end) → Ok ((record { size = x'.size + 1; owned = x'.owned }), end) ≡ read_at (at + length s) (measure_function k levels around s)
    unfolding measure_function function_with
    function_read d =
        goes read_shape beside at (num_below k.names s) _ h e (below_tail k.names s) i
        (gives read_shape beside past.at (measure_tree k levels 0 (set around n 1) u) _ q d (tree_tail k levels 0 (set around n 1) u) (λ w. refl))

-- the name is around the body alone
pub around_back : {around after : List ℕ} (n : ℕ) {before : ℕ} → after ≡ set around n 1 → before ≡ get_or around n 0 → set after n before ≡ around
around_back {around} {after} n {before} e f = rw (e, f) (set-set around n 1 (get_or around n 0) ∙ set-get_or around n 0)

pub around-long : (around after : List ℕ) (n before : ℕ) → after ≡ set around n 1 → length (set after n before) ≡ length around
around-long around after n before e = length-set after n before ∙ ap length e ∙ length-set around n 1

pub still_inside : {n : ℕ} (around after : List ℕ) → after ≡ set around n 1 → n < length around → n < length after
still_inside {n} around after e h = let l = ap length e ∙ length-set around n 1 in omega arith

pub names-inside : (names n : ℕ) (around : List ℕ) → names ≤ length around → names ≤ length (set around n 1)
names-inside names n around h = let l = length-set around n 1 in omega arith

-- ---- levels fall

pub body_less : {levels t : ℕ} → 4 * levels ≡ t → (levels ≡ 0 → ⊥) → 4 * levels - 1 < t
body_less e h = omega arith

pub several_less : {levels t : ℕ} → 4 * levels - 1 ≡ t → 1 ≤ levels → 4 * (levels - 1) + 2 < t
several_less e h = omega arith

pub function_less : {levels t : ℕ} → 4 * levels - 1 ≡ t → 1 ≤ levels → 4 * (levels - 1) + 1 < t
function_less e h = omega arith

pub all_less : (levels : ℕ) {t : ℕ} → 4 * levels + 2 ≡ t → 4 * levels + 1 < t
all_less levels e = omega arith

pub tree_less : (levels : ℕ) {t : ℕ} → 4 * levels + 1 ≡ t → 4 * levels < t
tree_less levels e = omega arith

-- ---- roots

end_is : (s : List ℕ) → length s ≡ 0 → at_end s ≡ got tt s
unfolding at_end
end_is [] e = refl
end_is (b ∷ s) e = absurd (omega arith)

end-not : (s : List ℕ) → (length s ≡ 0 → ⊥) → at_end s ≡ fault layout
unfolding at_end
end-not [] e = absurd (e refl)
end-not (b ∷ s) e = refl

module _ {A : Type 0} (at : ℕ) (root : Reader A) (s : List ℕ) (tail : Tail s (root s)) {r : Result (A × Cursor) Refusal} (h : r ≡ read_at (at + length s) (root s)) where
  root-stops : {f : Refusal} → r ≡ Err f → Err f ≡ read_at (at + length s) (then_end root s)
  unfolding then_end
  root-stops e = stops read_shape beside (at + length s) (root s) _ h e

  module _ {a : A} {past : Cursor} {u : List ℕ} (e : r ≡ Ok (a, past)) (i : u ≡ drop (past.at - at) s) where
    root_ends : length u ≡ 0 → Ok (a, past) ≡ read_at (at + length s) (then_end root s)
    unfolding then_end
    root_ends z =
        let p : past.at + length u - length u ≡ past.at = omega arith in
        goes read_shape beside at (root s) _ h e tail i (rw (end_is u z, p))

    root-more : (length u ≡ 0 → ⊥) → Err Layout ≡ read_at (at + length s) (then_end root s)
    unfolding then_end
    root-more z = goes read_shape beside at (root s) _ h e tail i (rw (end-not u z))

module _ (at : ℕ) (k : Counts) (s : List ℕ) {r : Result (ℕ × Cursor) Refusal} (h : r ≡ read_at (at + length s) (measure_stx k.symbols k.scopes 64 s)) where
  pub syntax-stops : {f : Refusal} → r ≡ Err f → Err f ≡ read_at (at + length s) (whole_syntax k s)
  unfolding whole_syntax
  syntax-stops e = root-stops at (measure_stx k.symbols k.scopes 64) s (object_tail k.symbols k.scopes 64 s) h e

  module _ {n : ℕ} {past : Cursor} {u : List ℕ} (e : r ≡ Ok (n, past)) (i : u ≡ drop (past.at - at) s) where
    pub syntax-ends : length u ≡ 0 → Ok (n, past) ≡ read_at (at + length s) (whole_syntax k s)
    unfolding whole_syntax
    syntax-ends z = root_ends at (measure_stx k.symbols k.scopes 64) s (object_tail k.symbols k.scopes 64 s) h e i z

    pub syntax-more : (length u ≡ 0 → ⊥) → Err Layout ≡ read_at (at + length s) (whole_syntax k s)
    unfolding whole_syntax
    syntax-more z = root-more at (measure_stx k.symbols k.scopes 64) s (object_tail k.symbols k.scopes 64 s) h e i z

pub none_is : replicate 1024 0 ≡ none_around
unfolding none_around
none_is = refl

module _ (levels low at : ℕ) (k : Counts) (around s : List ℕ) (none : around ≡ none_around) {r : Result (Extent × Cursor) Refusal} (h : r ≡ read_at (at + length s) (measure_tree k levels low around s)) where
  from-none : r ≡ read_at (at + length s) (measure_tree k levels low none_around s)
  from-none = h ∙ ap (λ (l : List ℕ). read_at (at + length s) (measure_tree k levels low l s)) none

  pub whole-stops : {f : Refusal} → r ≡ Err f → Err f ≡ read_at (at + length s) (whole_tree k levels low s)
  unfolding whole_tree
  whole-stops e = root-stops at (measure_tree k levels low none_around) s (tree_tail k levels low none_around s) from-none e

  module _ {x : Extent} {past : Cursor} {u : List ℕ} (e : r ≡ Ok (x, past)) (i : u ≡ drop (past.at - at) s) where
    pub whole-ends : length u ≡ 0 → Ok (x, past) ≡ read_at (at + length s) (whole_tree k levels low s)
    unfolding whole_tree
    whole-ends z = root_ends at (measure_tree k levels low none_around) s (tree_tail k levels low none_around s) from-none e i z

    pub whole-more : (length u ≡ 0 → ⊥) → Err Layout ≡ read_at (at + length s) (whole_tree k levels low s)
    unfolding whole_tree
    whole-more z = root-more at (measure_tree k levels low none_around) s (tree_tail k levels low none_around s) from-none e i z
