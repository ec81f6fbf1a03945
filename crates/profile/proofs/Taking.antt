-- Trees taken as what is wanted, by the tests that the code makes.
use Prim.Native.Nat.{ℕ, zero, suc, ◌+◌, ◌-◌, ◌≤◌, ◌<◌}
use mathlib.Core.Path.{◌≡◌, refl, sym, ap, ◌∙◌}
use mathlib.Core.Bool.{Bool, true, false, false≢true}
use mathlib.Core.List.{List}
use native.Mathlib.Omega.{arith}
use lib.ListN.{length, drop, get_or, set, length-drop}
use lib.Seq.{drop-drop}
use Rattle.std.specs.Prelude.{Option, Some, None, Result, Ok, Err}
use borrow.Author.Tests.{eq-eqb, ne_eqb}
use Rattle.model.specs.Limits.{last_rung_word}
use Rattle.model.specs.Refusals.{layout, over_limit}
use Rattle.model.specs.Reading as m
use Rattle.model.specs.Reading.{Reader, next, num, num_up_to, num_below}
use Rattle.requests.specs.Panel.{word_numbered}
use Rattle.refusals.specs.declared.Refusal.{Refusal}
use Rattle.refusals.specs.declared.Refusal.TheVariants.{Layout}
use Rattle.refusals.proofs.Cases.{case_back}
use Rattle.numbers.specs.declared.Cursor.{Cursor}
use Rattle.numbers.specs.Answers.{read_at, beside, placed}
use Rattle.numbers.proofs.Tails.{num_tail, up_to_tail, below_tail}
use Rattle.numbers.proofs.Answering.{Took, took, refused, err_same, ok_same, ok-err, read_shape, place_shape, goes, gives, refuses, stops, moved_on, kept-within, fits_after}
use Rattle.profile.specs.declared.rules.Wanted.{Wanted}
use Rattle.profile.specs.declared.rules.Wanted.TheVariants.{Program}
use Rattle.profile.specs.declared.rules.Rule.{Rule}
use Rattle.profile.specs.Rules.{rule_of, bit_rule, takes_count, takes_variable, takes_atom}
use Rattle.roots.proofs.Trees.{name-inside, around_back, around-long, still_inside, names-inside}
use Rattle.profile.specs.Taking.{taken_at, rule_at, take_variable, take_atom, take_word, take_all, take_arguments, bit_with, take_bit, head_by, take_head, take_application, take_body, take_tree}
use Rattle.profile.proofs.Tails.{head_tail, tree_tail}

-- ---- what has no parts

module _ (at names : ℕ) (around : List ℕ) (w : Wanted) (s : List ℕ) {r : Result (ℕ × Cursor) Refusal} (h : r ≡ read_at (at + length s) (num_below names s)) where
  pub variable-stops : {f : Refusal} → r ≡ Err f → Err f ≡ taken_at (at + length s) (take_variable names around w s)
  unfolding take_variable
  variable-stops e = stops read_shape placed (at + length s) (num_below names s) _ h e

  module _ {n : ℕ} {past : Cursor} (e : r ≡ Ok (n, past)) where
    pub variable-unowned : get_or around n 0 ≡ 0 → Err Layout ≡ taken_at (at + length s) (take_variable names around w s)
    unfolding take_variable
    variable-unowned z = refuses read_shape placed at (num_below names s) _ h e (below_tail names s) (λ u. rw (eq-eqb (get_or around n 0) 0 z))

    module _ (some : get_or around n 0 ≡ 0 → ⊥) {b : Bool} (a : b ≡ takes_variable w) where
      pub variable-taken : b ≡ true → Ok past ≡ taken_at (at + length s) (take_variable names around w s)
      unfolding take_variable
      variable-taken t = gives read_shape placed at (num_below names s) _ h e (below_tail names s) {l = tt} (λ u. rw (ne_eqb (get_or around n 0) 0 some, sym a ∙ t))

      pub variable-refused : b ≡ false → Err Layout ≡ taken_at (at + length s) (take_variable names around w s)
      unfolding take_variable
      variable-refused t = refuses read_shape placed at (num_below names s) _ h e (below_tail names s) (λ u. rw (ne_eqb (get_or around n 0) 0 some, sym a ∙ t))

module _ (at : ℕ) (w : Wanted) (s : List ℕ) {r : Result (ℕ × Cursor) Refusal} (h : r ≡ read_at (at + length s) (num s)) where
  pub atom-stops : {f : Refusal} → r ≡ Err f → Err f ≡ taken_at (at + length s) (take_atom w s)
  unfolding take_atom
  atom-stops e = stops read_shape placed (at + length s) (num s) _ h e

  module _ {k : ℕ} {past : Cursor} {u : List ℕ} {q : Result (ℕ × Cursor) Refusal} (e : r ≡ Ok (k, past)) (i : u ≡ drop (past.at - at) s) (g : q ≡ read_at (past.at + length u) (num u)) where
    pub content-stops : {f : Refusal} → q ≡ Err f → Err f ≡ taken_at (at + length s) (take_atom w s)
    unfolding take_atom
    content-stops d = goes read_shape placed at (num s) _ h e (num_tail s) i (stops read_shape placed (past.at + length u) (num u) _ g d)

    module _ {x : ℕ} {end : Cursor} (d : q ≡ Ok (x, end)) where
      pub atom-taken : {b : Bool} → b ≡ takes_atom w k x → b ≡ true → Ok end ≡ taken_at (at + length s) (take_atom w s)
      unfolding take_atom
      atom-taken a t = goes read_shape placed at (num s) _ h e (num_tail s) i (gives read_shape placed past.at (num u) _ g d (num_tail u) {l = tt} (λ v. rw (sym a ∙ t)))

      pub atom-refused : {b : Bool} → b ≡ takes_atom w k x → b ≡ false → Err Layout ≡ taken_at (at + length s) (take_atom w s)
      unfolding take_atom
      atom-refused a t = goes read_shape placed at (num s) _ h e (num_tail s) i (refuses read_shape placed past.at (num u) _ g d (num_tail u) (λ v. rw (sym a ∙ t)))

  pub word-stops : {f : Refusal} → r ≡ Err f → Err f ≡ read_at (at + length s) (take_word w s)
  unfolding take_word
  word-stops e = stops read_shape beside (at + length s) (num s) _ h e

  module _ {k : ℕ} {past : Cursor} (e : r ≡ Ok (k, past)) where
    pub word-refused : (k ≡ 4 → ⊥) → Err Layout ≡ read_at (at + length s) (take_word w s)
    unfolding take_word
    word-refused t = refuses read_shape beside at (num s) _ h e (num_tail s) (λ v. rw (ne_eqb k 4 t))

    module _ (t : k ≡ 4) {u : List ℕ} {q : Result (ℕ × Cursor) Refusal} (i : u ≡ drop (past.at - at) s) (g : q ≡ read_at (past.at + length u) (num_up_to over_limit 15 u)) where
      pub word_content_stops : {f : Refusal} → q ≡ Err f → Err f ≡ read_at (at + length s) (take_word w s)
      unfolding take_word last_rung_word
      word_content_stops d =
          goes read_shape beside at (num s) _ h e (num_tail s) i (rw (eq-eqb k 4 t) (stops read_shape beside (past.at + length u) (num_up_to over_limit 15 u) _ g d))

      pub word-taken : {x : ℕ} {end : Cursor} {y : Option Rule} → q ≡ Ok (x, end) → y ≡ rule_of w (word_numbered x) → Ok (y, end) ≡ read_at (at + length s) (take_word w s)
      unfolding take_word last_rung_word
      word-taken d a =
          rw a (goes read_shape beside at (num s) _ h e (num_tail s) i
          (rw (eq-eqb k 4 t) (gives read_shape beside past.at (num_up_to over_limit 15 u) _ g d (up_to_tail over_limit 15 u) (λ v. refl))))

-- ---- what is read of a head, with the rule that is to follow or none

pub head_refused : (end : ℕ) (g : m.Read (Option Rule)) {f : Refusal} → Err f ≡ read_at end g → Err f ≡ rule_at end g
head_refused end (m.got o rest) e = absurd (ok-err (sym e))
head_refused end (m.fault r) e = ap (λ (x : Refusal). Err x) (err_same e)

pub head_no_rule : (end : ℕ) (g : m.Read (Option Rule)) {o : Option Rule} {p : Cursor} → Ok (o, p) ≡ read_at end g → o ≡ None → Err Layout ≡ rule_at end g
head_no_rule end (m.got o' rest) e n =
    let z : o' ≡ None = sym (ap (λ (t : Option Rule × Cursor). t.0) (ok_same e)) ∙ n in
    rw z
head_no_rule end (m.fault r) e n = absurd (ok-err e)

pub head_with_rule : (end : ℕ) (g : m.Read (Option Rule)) {o : Option Rule} {y : Rule} {p : Cursor} → Ok (o, p) ≡ read_at end g → o ≡ Some y → Ok (y, p) ≡ rule_at end g
head_with_rule end (m.got o' rest) {y = y} e n =
    let z : o' ≡ Some y = sym (ap (λ (t : Option Rule × Cursor). t.0) (ok_same e)) ∙ n in
    rw z (ap (λ (t : Option Rule × Cursor). Ok (y, t.1)) (ok_same e))
head_with_rule end (m.fault r) e n = absurd (ok-err e)

rule_read : (end : ℕ) (g : m.Read (Option Rule)) {y : Rule} {p : Cursor} → Ok (y, p) ≡ rule_at end g → Ok (Some y, p) ≡ read_at end g
rule_read end (m.got None rest) e = absurd (ok-err e)
rule_read end (m.got (Some x) rest) e = ap (λ (t : Rule × Cursor). Ok (Some t.0, t.1)) (ok_same e)
rule_read end (m.fault r) e = absurd (ok-err e)

rule_stops : (end : ℕ) (g : m.Read (Option Rule)) (j : Option Rule → Reader (Unit {0})) {f : Refusal} → ((u : List ℕ) → j None u ≡ m.fault layout) → Err f ≡ rule_at end g → Err f ≡ taken_at end (next g j)
rule_stops end (m.got None rest) j n e = rw (n rest) (ap (λ (x : Refusal). Err x) (err_same e))
rule_stops end (m.got (Some y) rest) j n e = absurd (ok-err (sym e))
rule_stops end (m.fault r) j n e = ap (λ (x : Refusal). Err x) (err_same e)

-- ---- a tree

pub tree_deep : (end names l : ℕ) (around : List ℕ) (w : Wanted) (s : List ℕ) → l ≡ 0 → Err Layout ≡ taken_at end (take_tree names l around w s)
unfolding take_tree
tree_deep end names l around w s e = rw e

tree_is : (names l : ℕ) (around : List ℕ) (w : Wanted) (s : List ℕ) → (l ≡ 0 → ⊥)
    → take_tree names l around w s ≡ next (num s) (λ t. take_body names around (take_tree names (l - 1) around) (take_head names (l - 1) around) w t)
unfolding take_tree
tree_is names zero around w s h = absurd (h refl)
tree_is names (suc l) around w s h =
    let e : l ≡ suc l - 1 = omega arith in
    ap (λ (j : ℕ). next (num s) (λ t. take_body names around (take_tree names j around) (take_head names j around) w t)) e

module _ (at names l : ℕ) (around : List ℕ) (w : Wanted) (s : List ℕ) (some : l ≡ 0 → ⊥) {r : Result (ℕ × Cursor) Refusal} (h : r ≡ read_at (at + length s) (num s)) where
  pub tree-stops : {f : Refusal} → r ≡ Err f → Err f ≡ taken_at (at + length s) (take_tree names l around w s)
  tree-stops e = rw (tree_is names l around w s some) (stops read_shape placed (at + length s) (num s) _ h e)

  pub tree-goes : {t : ℕ} {past : Cursor} {u : List ℕ} {x : Result Cursor Refusal} → r ≡ Ok (t, past) → u ≡ drop (past.at - at) s
      → x ≡ taken_at (past.at + length u) (take_body names around (take_tree names (l - 1) around) (take_head names (l - 1) around) w t u) → x ≡ taken_at (at + length s) (take_tree names l around w s)
  tree-goes e i a = rw (tree_is names l around w s some) (goes read_shape placed at (num s) _ h e (num_tail s) i a)

module _ (end names : ℕ) (around : List ℕ) (part : Wanted → Reader (Unit {0})) (head : Wanted → Reader (Option Rule)) (w : Wanted) (t : ℕ) (s : List ℕ) {x : Result Cursor Refusal} where
  pub body_variable : t ≡ 0 → x ≡ taken_at end (take_variable names around w s) → x ≡ taken_at end (take_body names around part head w t s)
  unfolding take_body
  body_variable e a = rw e a

  pub body_application : t ≡ 1 → x ≡ taken_at end (take_application part head w s) → x ≡ taken_at end (take_body names around part head w t s)
  unfolding take_body
  body_application e a = rw e a

  pub body_atom : t ≡ 3 → x ≡ taken_at end (take_atom w s) → x ≡ taken_at end (take_body names around part head w t s)
  unfolding take_body
  body_atom e a = rw e a

pub body_none : (end names : ℕ) (around : List ℕ) (part : Wanted → Reader (Unit {0})) (head : Wanted → Reader (Option Rule)) (w : Wanted) (t : ℕ) (s : List ℕ) → (t ≡ 0 → ⊥) → (t ≡ 1 → ⊥) → (t ≡ 3 → ⊥)
    → Err Layout ≡ taken_at end (take_body names around part head w t s)
unfolding take_body
body_none end names around part head w zero s a b c = absurd (a refl)
body_none end names around part head w (suc zero) s a b c = absurd (b refl)
body_none end names around part head w (suc (suc zero)) s a b c = refl
body_none end names around part head w (suc (suc (suc zero))) s a b c = absurd (c refl)
body_none end names around part head w (suc (suc (suc (suc t)))) s a b c = refl

-- ---- an application

module _ (at names l : ℕ) (around : List ℕ) (w : Wanted) (s : List ℕ) {r : Result (ℕ × Cursor) Refusal} (h : r ≡ read_at (at + length s) (num s)) where
  pub application_stops : {f : Refusal} → r ≡ Err f → Err f ≡ taken_at (at + length s) (take_application (take_tree names l around) (take_head names l around) w s)
  unfolding take_application
  application_stops e = stops read_shape placed (at + length s) (num s) _ h e

  module _ {n : ℕ} {past : Cursor} (e : r ≡ Ok (n, past)) where
    pub application_empty : n ≡ 0 → Err Layout ≡ taken_at (at + length s) (take_application (take_tree names l around) (take_head names l around) w s)
    unfolding take_application
    application_empty z = refuses read_shape placed at (num s) _ h e (num_tail s) (λ u. rw (eq-eqb n 0 z))

    module _ (some : n ≡ 0 → ⊥) {u : List ℕ} {q : Result (Rule × Cursor) Refusal} (i : u ≡ drop (past.at - at) s) (g : q ≡ rule_at (past.at + length u) (take_head names l around w u)) where
      pub head-stops : {f : Refusal} → q ≡ Err f → Err f ≡ taken_at (at + length s) (take_application (take_tree names l around) (take_head names l around) w s)
      unfolding take_application take_arguments
      head-stops d =
          goes read_shape placed at (num s) _ h e (num_tail s) i
          (rw (ne_eqb n 0 some) (rule_stops (past.at + length u) (take_head names l around w u) _ (λ v. refl) (sym d ∙ g)))

      pub application_goes : {y : Rule} {behind : Cursor} {v around' : List ℕ} {x : Result Cursor Refusal} → q ≡ Ok (y, behind) → v ≡ drop (behind.at - past.at) u → around' ≡ around
          → x ≡ taken_at (behind.at + length v) (take_arguments (take_tree names l around') (Some y) (n - 1) v) → x ≡ taken_at (at + length s) (take_application (take_tree names l around) (take_head names l around) w s)
      unfolding take_application
      application_goes {y} {behind} {v} {around'} {x} d j b a =
          let a' : x ≡ taken_at (behind.at + length v) (take_arguments (take_tree names l around) (Some y) (n - 1) v) =
          a ∙ ap (λ (z : List ℕ). taken_at (behind.at + length v) (take_arguments (take_tree names l z) (Some y) (n - 1) v)) b in
          goes read_shape placed at (num s) _ h e (num_tail s) i
          (rw (ne_eqb n 0 some) (goes read_shape placed past.at (take_head names l around w u) _ (rule_read _ _ (sym d ∙ g)) refl (head_tail names l around w u) j a'))

-- ---- its head

pub head_deep : (end names l : ℕ) (around : List ℕ) (w : Wanted) (s : List ℕ) → l ≡ 0 → Err Layout ≡ rule_at end (take_head names l around w s)
unfolding take_head
head_deep end names l around w s e = rw e

head-is : (names l : ℕ) (around : List ℕ) (w : Wanted) (s : List ℕ) → (l ≡ 0 → ⊥)
    → take_head names l around w s ≡ next (num s) (λ t. head_by names (λ n. take_tree names (l - 1) (set around n 1) Program) w t)
unfolding take_head
head-is names zero around w s h = absurd (h refl)
head-is names (suc l) around w s h =
    let e : l ≡ suc l - 1 = omega arith in
    ap (λ (j : ℕ). next (num s) (λ t. head_by names (λ n. take_tree names j (set around n 1) Program) w t)) e

none-by : (names : ℕ) (inside : ℕ → Reader (Unit {0})) (w : Wanted) (n : ℕ) (u : List ℕ) → (n ≡ 2 → ⊥) → (n ≡ 3 → ⊥) → head_by names inside w n u ≡ m.fault layout
unfolding head_by
none-by names inside w zero u a b = refl
none-by names inside w (suc zero) u a b = refl
none-by names inside w (suc (suc zero)) u a b = absurd (a refl)
none-by names inside w (suc (suc (suc zero))) u a b = absurd (b refl)
none-by names inside w (suc (suc (suc (suc n)))) u a b = refl

module _ (at names l : ℕ) (around : List ℕ) (w : Wanted) (s : List ℕ) (some : l ≡ 0 → ⊥) {r : Result (ℕ × Cursor) Refusal} (h : r ≡ read_at (at + length s) (num s)) where
  pub head_number_stops : {f : Refusal} → r ≡ Err f → Err f ≡ rule_at (at + length s) (take_head names l around w s)
  head_number_stops e = rw (head-is names l around w s some) (head_refused _ _ (stops read_shape beside (at + length s) (num s) _ h e))

  module _ {t : ℕ} {past : Cursor} (e : r ≡ Ok (t, past)) where
    head-goes : {u : List ℕ} {x : Result (Rule × Cursor) Refusal} (j : ℕ → Reader (Option Rule)) → u ≡ drop (past.at - at) s → x ≡ rule_at (past.at + length u) (j t u) → x ≡ rule_at (at + length s) (next (num s) j)
    head-goes j i a = let T : Took at s (num s) t past.at = took read_shape h e (num_tail s) in rw (T.is, ← T.ends, ← i) a

    pub head-bit : {u : List ℕ} {x : Result (Rule × Cursor) Refusal} → t ≡ 2 → u ≡ drop (past.at - at) s → x ≡ rule_at (past.at + length u) (take_bit names (l - 1) around w u) → x ≡ rule_at (at + length s) (take_head names l around w s)
    unfolding head_by take_bit
    head-bit z i a = rw (head-is names l around w s some) (head-goes _ i (rw z a))

    pub head-word : {u : List ℕ} {x : Result (Rule × Cursor) Refusal} → t ≡ 3 → u ≡ drop (past.at - at) s → x ≡ rule_at (past.at + length u) (take_word w u) → x ≡ rule_at (at + length s) (take_head names l around w s)
    unfolding head_by
    head-word z i a = rw (head-is names l around w s some) (head-goes _ i (rw z a))

    pub head-none : (t ≡ 2 → ⊥) → (t ≡ 3 → ⊥) → Err Layout ≡ rule_at (at + length s) (take_head names l around w s)
    head-none a b =
        rw (head-is names l around w s some)
        (head_refused _ _ (refuses read_shape beside at (num s) _ h e (num_tail s) (λ u. none-by names (λ n. take_tree names (l - 1) (set around n 1) Program) w t u a b)))

module _ (at names l : ℕ) (around : List ℕ) (w : Wanted) (s : List ℕ) {r : Result (ℕ × Cursor) Refusal} (h : r ≡ read_at (at + length s) (num_below names s)) where
  pub bit-stops : {f : Refusal} → r ≡ Err f → Err f ≡ read_at (at + length s) (take_bit names l around w s)
  unfolding take_bit bit_with
  bit-stops e = stops read_shape beside (at + length s) (num_below names s) _ h e

  module _ {n : ℕ} {past : Cursor} (e : r ≡ Ok (n, past)) {u around' : List ℕ} {q : Result Cursor Refusal} (i : u ≡ drop (past.at - at) s) (b : around' ≡ set around n 1)
      (g : q ≡ taken_at (past.at + length u) (take_tree names l around' Program u)) where
    body_at : q ≡ taken_at (past.at + length u) (take_tree names l (set around n 1) Program u)
    body_at = g ∙ ap (λ (z : List ℕ). taken_at (past.at + length u) (take_tree names l z Program u)) b

    pub bit_body_stops : {f : Refusal} → q ≡ Err f → Err f ≡ read_at (at + length s) (take_bit names l around w s)
    unfolding take_bit bit_with
    bit_body_stops d =
        goes read_shape beside at (num_below names s) _ h e (below_tail names s) i
        (stops place_shape beside (past.at + length u) (take_tree names l (set around n 1) Program u) _ body_at d)

    pub bit-taken : {y : Option Rule} {end : Cursor} → q ≡ Ok end → y ≡ bit_rule w → Ok (y, end) ≡ read_at (at + length s) (take_bit names l around w s)
    unfolding take_bit bit_with
    bit-taken d a =
        rw a (goes read_shape beside at (num_below names s) _ h e (below_tail names s) i
        (gives place_shape beside past.at (take_tree names l (set around n 1) Program u) {k = tt} _ body_at d (tree_tail names l (set around n 1) Program u) (λ v. refl)))

module _ (at names l : ℕ) (around s : List ℕ) (w : Wanted) {r : Result (Rule × Cursor) Refusal} {y : Rule} {past : Cursor} (h : r ≡ rule_at (at + length s) (take_head names l around w s)) (e : r ≡ Ok (y, past)) where
  head-read : Ok (Some y, past) ≡ read_at (at + length s) (take_head names l around w s)
  head-read = rule_read _ _ (sym e ∙ h)

  pub head-moved : at ≤ past.at
  head-moved = moved_on read_shape at s (take_head names l around w s) head-read refl (head_tail names l around w s)

  pub head-within : past.at ≤ at + length s
  head-within = kept-within read_shape at s (take_head names l around w s) head-read refl (head_tail names l around w s)

  pub head-fits : {u : List ℕ} {m : ℕ} → u ≡ drop (past.at - at) s → at + length s ≤ m → past.at + length u ≤ m
  head-fits i k = fits_after read_shape at s (take_head names l around w s) head-read refl (head_tail names l around w s) i k

-- ---- its arguments

module _ (at names l : ℕ) (around s : List ℕ) (w : Wanted) {r : Result Cursor Refusal} {past : Cursor} (h : r ≡ taken_at (at + length s) (take_tree names l around w s)) (e : r ≡ Ok past) where
  pub tree-moved : at ≤ past.at
  tree-moved = moved_on place_shape at s (take_tree names l around w s) {k = tt} h e (tree_tail names l around w s)

  pub tree-within : past.at ≤ at + length s
  tree-within = kept-within place_shape at s (take_tree names l around w s) {k = tt} h e (tree_tail names l around w s)

  pub tree-fits : {u : List ℕ} {m : ℕ} → u ≡ drop (past.at - at) s → at + length s ≤ m → past.at + length u ≤ m
  tree-fits i k = fits_after place_shape at s (take_tree names l around w s) {k = tt} h e (tree_tail names l around w s) i k

pub count-refused : (end names l : ℕ) (around : List ℕ) (y : Rule) (n : ℕ) (s : List ℕ) {b : Bool} → b ≡ takes_count y n → b ≡ false → Err Layout ≡ taken_at end (take_arguments (take_tree names l around) (Some y) n s)
unfolding take_arguments
count-refused end names l around y n s a t = rw (sym a ∙ t)

-- a count that is taken is not 0
pub count-some : (y : Rule) (n : ℕ) {b : Bool} → b ≡ takes_count y n → b ≡ true → 1 ≤ n
unfolding takes_count
count-some y zero a t = absurd (false≢true (sym a ∙ t))
count-some y (suc n) a t = omega arith

module _ (at names l : ℕ) (around : List ℕ) (y : Rule) (n : ℕ) (s : List ℕ) {b : Bool} (a : b ≡ takes_count y n) (t : b ≡ true) {w : Wanted} (f : w ≡ y.first) {r : Result Cursor Refusal} (h : r ≡ taken_at (at + length s) (take_tree names l around w s)) where
  pub first_stops : {x : Refusal} → r ≡ Err x → Err x ≡ taken_at (at + length s) (take_arguments (take_tree names l around) (Some y) n s)
  unfolding take_arguments
  first_stops e = rw (sym a ∙ t, ← f) (stops place_shape placed (at + length s) (take_tree names l around w s) _ h e)

  pub arguments_go : {past : Cursor} {u : List ℕ} {v : Wanted} {around' : List ℕ} {x : Result Cursor Refusal} → r ≡ Ok past → u ≡ drop (past.at - at) s → v ≡ y.others → around' ≡ around
      → x ≡ taken_at (past.at + length u) (take_all (n - 1) (take_tree names l around' v) u) → x ≡ taken_at (at + length s) (take_arguments (take_tree names l around) (Some y) n s)
  unfolding take_arguments
  arguments_go {past} {u} {v} {around'} {x} e i o q k =
      let k' : x ≡ taken_at (past.at + length u) (take_all (n - 1) (take_tree names l around v) u) = k ∙ ap (λ (z : List ℕ). taken_at (past.at + length u) (take_all (n - 1) (take_tree names l z v) u)) q in
      rw (sym a ∙ t, ← f) (goes place_shape placed at (take_tree names l around w s) {k = tt} _ h e (tree_tail names l around w s) i (rw (← o) k'))

-- ---- one tree after another

pub record All (at names l : ℕ) (w : Wanted) (s around₀ : List ℕ) (count : ℕ) (around : List ℕ) (here done : ℕ) : Type 0 where
  pub same : around ≡ around₀
  pub moved : at ≤ here
  pub within : here ≤ at + length s
  pub is : take_all count (take_tree names l around₀ w) s ≡ take_all (count - done) (take_tree names l around₀ w) (drop (here - at) s)

pub all_start : {at names l : ℕ} {w : Wanted} {s around : List ℕ} {count : ℕ} → All at names l w s around count around at 0
all_start {at} {count = count} =
    let e : at - at ≡ 0 = omega arith in
    let z : count - 0 ≡ count = omega arith in
    record { same = refl; moved = omega arith; within = omega arith; is = rw (e, z) }

more-is : (part : Reader (Unit {0})) (left : ℕ) (s : List ℕ) → 0 < left → take_all left part s ≡ next (part s) (λ x. take_all (left - 1) part)
unfolding take_all
more-is part zero s h = absurd (omega arith)
more-is part (suc left) s h = let e : left ≡ suc left - 1 = omega arith in ap (λ (k : ℕ). next (part s) (λ x. take_all k part)) e

module _ {at names l : ℕ} {w : Wanted} {s around₀ : List ℕ} {count : ℕ} {around : List ℕ} {here done : ℕ} (c : All at names l w s around₀ count around here done) where
  pub all-taken : {p : Cursor} → here ≡ p.at → count ≤ done → Ok p ≡ taken_at (at + length s) (take_all count (take_tree names l around₀ w) s)
  unfolding take_all
  all-taken {p} q h =
      let x = c.moved in
      let y = c.within in
      let e : count - done ≡ 0 = omega arith in
      let k = length-drop (here - at) s in
      let z : at + length s - length (drop (here - at) s) ≡ p.at = omega arith in
      sym (ap (taken_at (at + length s)) c.is ∙ rw (e, z))

  module _ (some : done < count) {u : List ℕ} (i : u ≡ drop (here - at) s) {r : Result Cursor Refusal} (h : r ≡ taken_at (here + length u) (take_tree names l around w u)) where
    there : r ≡ taken_at (here + length u) (take_tree names l around₀ w u)
    there = h ∙ ap (λ (z : List ℕ). taken_at (here + length u) (take_tree names l z w u)) c.same

    step : take_all count (take_tree names l around₀ w) s ≡ next (take_tree names l around₀ w u) (λ x. take_all (count - done - 1) (take_tree names l around₀ w))
    step = c.is ∙ ap (take_all (count - done) (take_tree names l around₀ w)) (sym i) ∙ more-is (take_tree names l around₀ w) (count - done) u (omega arith)

    pub part-stops : {f : Refusal} → r ≡ Err f → Err f ≡ taken_at (at + length s) (take_all count (take_tree names l around₀ w) s)
    part-stops {f} e = sym (ap (taken_at (at + length s)) step ∙ rw (refused place_shape (here + length u) (take_tree names l around₀ w u) there e, case_back))

    pub part-more : {past : Cursor} {around' : List ℕ} → r ≡ Ok past → around' ≡ around → All at names l w s around₀ count around' past.at (done + 1)
    part-more {past} e f =
        let T : Took here u (take_tree names l around₀ w u) tt past.at = took place_shape {k = tt} there e (tree_tail names l around₀ w u) in
        let long : length u ≡ length s - (here - at) = ap length i ∙ length-drop (here - at) s in
        let y = T.moved in
        let x = T.within in
        let z = c.moved in
        let d = c.within in
        let q : here - at + (past.at - here) ≡ past.at - at = omega arith in
        let k : count - done - 1 ≡ count - (done + 1) = omega arith in
        let rest : drop (past.at - here) u ≡ drop (past.at - at) s =
        ap (drop (past.at - here)) i ∙ drop-drop (past.at - here) (here - at) s ∙ ap (λ (j : ℕ). drop j s) q in
        record { same = f ∙ c.same; moved = omega arith; within = omega arith; is = step ∙ rw (T.is, rest, k) }

pub ruleset tree_laws = (tree_deep, tree-stops, tree-goes, body_variable, body_application, body_atom, body_none, application_stops, application_empty, head-stops, application_goes, head_deep, head_number_stops, head-bit, head-word, head-none, bit-stops, bit_body_stops, bit-taken, head-moved, head-within, head-fits, tree-moved, tree-within, tree-fits, count-refused, count-some, first_stops, arguments_go, all_start, all-taken, part-stops, part-more, name-inside, around_back, still_inside)
