-- The bytes of a program are read as its code and the start values of its bits.
use Prim.Native.Nat.{ℕ, zero, suc, ◌+◌, ◌-◌, ◌*◌, max, ◌≤◌, ◌<◌}
use mathlib.Core.Path.{◌≡◌, refl, sym, ap, ap₂, ◌∙◌}
use mathlib.Core.Bool.{Bool, true, false, false≢true, ◌&&◌}
use mathlib.Core.List.{List, [], ◌∷◌, ◌++◌, map, map-append, append_assoc, append-nil}
use native.Mathlib.Omega.{arith}
use native.Mathlib.Nat.{le-max_left, le-max_right}
use native.Mathlib.Numerals.{add-one}
use lib.Dec.{eqb, leb, eqb-suc-zero, eqb-suc-suc}
use lib.ListN.{length, set, length-append, length-set}
use lib.Seq.{get_or-set_same, get_or-set_other}
use borrow.Author.Tests.{eqb-true, eqb-false}
use Rattle.model.specs.Limits.{last_point}
use Rattle.model.specs.Objects.{symbol, number, point, prim, rung, tag_of, content_of}
use Rattle.model.specs.Trees.{Tree, var, app, fun, datum, lst, stx, Trees, tnil, tcons, tcount, tnesting, tnestings}
use Rattle.model.specs.Reading.{Head, got, next, symbols}
use Rattle.model.specs.Writing.{num_bytes, tree_bytes, trees_bytes}
use Rattle.laws.proofs.Tests.{and_both}
use Rattle.codec_laws.specs.WellFormed.{TreeFits, TreesFit}
use Rattle.codec_laws.proofs.Lengths.{left_le, right_le, tcount_le}
use Rattle.codec_laws.proofs.TreeTrip.{Counts}
use Rattle.addresses.specs.OneNameOneAddress.{function_names, function_names_all}
use Rattle.numbers.specs.Limits.{most_image}
use Rattle.requests.specs.Panel as p
use Rattle.requests.specs.Panel.{head_word, is_point, is_point_tree, is_variable, is_binary, is_start, is_expression, are_expressions, is_rung, is_program_of, is_program, is_program_inside, are_programs, bits_of}
use Rattle.requests.specs.Scanning.{Bit, address_in, start_value, starts_of, starts, starts_inside, starts_all}
use Rattle.requests.proofs.Starts.{as_many_starts}
use Rattle.ladder.specs.Code.{load, coil, bit_coil, join_number, what_of, operand_of, word_of, wired, wired_first, driven_by, assigned_by, out_code, set_code, rungs_of, rungs, rungs_inside, rungs_all}
use Rattle.bits.specs.declared.Token.{Token}
use Rattle.bits.specs.Tokens.{read_token}
use Rattle.bits.specs.Meeting.{room}
use Rattle.bits.proofs.Walked.{token, atom_token, token_back, atom_token_back}
use Rattle.wiring.specs.Words.{operands, place_word}
use Rattle.wiring.specs.Wiring.{wire_tree, Given, nothing, both, wire_coil, wire_rung, start_number, wire_programs, wire_by, wire_head, wire_program}
use Rattle.wiring.proofs.Expressions.{next_on}
use Rattle.wiring.proofs.Programs.{coil-given}
use Rattle.wiring.proofs.Wholes.{program-is, by_bit, by_all, by-rung, begun, bit_is}
use Rattle.wiring.proofs.ExpressionMeaning.{Same, inner, word_bytes, expression_wired}

-- what a program is read as
abbrev pub code_and_starts : List Bit → ℕ → Tree → Given
code_and_starts around n t = record { words = map word_of (rungs around n t); starts = starts t }

-- ---- tables

on_test : {P : Type 0} (t : Bool) → (t ≡ true → P) → (t ≡ false → P) → P
on_test true f g = f refl
on_test false f g = g refl

pub same_more : {table : List ℕ} {around : List Bit} (name n : ℕ) → name < operands → Same table around → Same (set table name n) (record { name = name; address = n } ∷ around)
unfolding address_in
same_more {table} {around} name n h s = record {
  long = let e = length-set table name n in let x = s.long in omega arith;
  has = λ x k. on_test (eqb x name)
      (λ e.
      let q : x ≡ name = eqb-true x name e in
      let b : name < length table = let y = s.long in omega arith in
      rw (e, q, get_or-set_same table name n 0 b))
      (λ e. rw (e, get_or-set_other table name x n 0 (eqb-false x name e)) (s.has x k));
}

-- ---- a program's first two tokens

program_on : (l : ℕ) (table : List ℕ) (n : ℕ) (s : List ℕ) → 1 ≤ l → (t g : Token) (u v : List ℕ) → read_token s ≡ got t u → read_token u ≡ got g v
    → wire_program l table n s ≡ wire_by (wire_program (l - 1)) (wire_rung table (l - 1)) table n t.content g v
unfolding wire_head
program_on l table n s o t g u v e d =
    program-is l table n s (λ z. omega arith) ∙ next_on (λ t. wire_head (wire_program (l - 1)) (wire_rung table (l - 1)) table n t.content) e refl
    ∙ next_on (λ g. wire_by (wire_program (l - 1)) (wire_rung table (l - 1)) table n t.content g) d refl

word-program : (x : ℕ) (ts : Trees) (l : ℕ) (table : List ℕ) (n : ℕ) (rest : List ℕ) → x < 4294967296 → length (trees_bytes ts) ≤ most_image → 1 ≤ l
    → wire_program l table n (tree_bytes (app (datum (rung x)) ts) ++ rest) ≡ wire_by (wire_program (l - 1)) (wire_rung table (l - 1)) table n (suc (tcount ts)) (atom_token 4 x) (trees_bytes ts ++ rest)
unfolding tag_of content_of
word-program x ts l table n rest small short o =
    let c : suc (tcount ts) < 4294967296 = omega (arith, tcount_le ts) in
    let u = (num_bytes 3 ++ num_bytes 4 ++ num_bytes x) ++ (trees_bytes ts ++ rest) in
    ap (wire_program l table n) (word_bytes (rung x) ts rest)
    ∙ program_on l table n ((num_bytes 1 ++ num_bytes (suc (tcount ts))) ++ u) o (token 1 (suc (tcount ts))) (atom_token 4 x) u (trees_bytes ts ++ rest)
    (token_back 1 (suc (tcount ts)) u refl (omega arith) c) (atom_token_back 4 x (trees_bytes ts ++ rest) (omega arith) small)

function_bytes : (x : ℕ) (b : Tree) (ts : Trees) (rest : List ℕ)
    → tree_bytes (app (fun x b) ts) ++ rest ≡ (num_bytes 1 ++ num_bytes (suc (tcount ts))) ++ ((num_bytes 2 ++ num_bytes x) ++ (tree_bytes b ++ (trees_bytes ts ++ rest)))
unfolding tree_bytes
function_bytes x b ts rest =
    append_assoc (num_bytes 1 ++ num_bytes (suc (tcount ts)) ++ tree_bytes (fun x b)) (trees_bytes ts) rest
    ∙ append_assoc (num_bytes 1 ++ num_bytes (suc (tcount ts))) (tree_bytes (fun x b)) (trees_bytes ts ++ rest)
    ∙ ap (λ (z : List ℕ). (num_bytes 1 ++ num_bytes (suc (tcount ts))) ++ z) (append_assoc (num_bytes 2 ++ num_bytes x) (tree_bytes b) (trees_bytes ts ++ rest))

bit-program : (x : ℕ) (b : Tree) (ts : Trees) (l : ℕ) (table : List ℕ) (n : ℕ) (rest : List ℕ) → x < 4294967296 → length (trees_bytes ts) ≤ most_image → 1 ≤ l
    → wire_program l table n (tree_bytes (app (fun x b) ts) ++ rest) ≡ wire_by (wire_program (l - 1)) (wire_rung table (l - 1)) table n (suc (tcount ts)) (token 2 x) (tree_bytes b ++ (trees_bytes ts ++ rest))
bit-program x b ts l table n rest small short o =
    let c : suc (tcount ts) < 4294967296 = omega (arith, tcount_le ts) in
    let v = tree_bytes b ++ (trees_bytes ts ++ rest) in
    let u = (num_bytes 2 ++ num_bytes x) ++ v in
    ap (wire_program l table n) (function_bytes x b ts rest)
    ∙ program_on l table n ((num_bytes 1 ++ num_bytes (suc (tcount ts))) ++ u) o (token 1 (suc (tcount ts))) (token 2 x) u v
    (token_back 1 (suc (tcount ts)) u refl (omega arith) c) (token_back 2 x v refl (omega arith) small)

-- ---- a rung

rung_on : (table : List ℕ) (l : ℕ) (s u rest w : List ℕ) (t : Token) → read_token s ≡ got t u → wire_tree table l 0 u ≡ got w rest → t.content < operands
    → wire_rung table l s ≡ got (record { words = w ++ place_word table 9 10 t ∷ []; starts = [] }) rest
unfolding wire_rung
rung_on table l s u rest w t e d h =
    next_on (λ t u. next (wire_tree table l 0 u) (λ w. wire_coil table t w)) e refl ∙ next_on (λ w. wire_coil table t w) d refl ∙ coil-given table t w rest h

-- a place and one expression
pair_bytes : (q e : Tree) (rest : List ℕ) → trees_bytes (tcons q (tcons e tnil)) ++ rest ≡ tree_bytes q ++ (tree_bytes e ++ rest)
unfolding trees_bytes
pair_bytes q e rest = append_assoc (tree_bytes q) (tree_bytes e ++ []) rest ∙ ap (λ (z : List ℕ). tree_bytes q ++ (z ++ rest)) (append-nil (tree_bytes e))

pair_short : (q e : Tree) → length (trees_bytes (tcons q (tcons e tnil))) ≤ most_image → length (tree_bytes e) ≤ most_image
unfolding trees_bytes
pair_short q e s = left_le most_image (tree_bytes e) [] (right_le most_image (tree_bytes q) (tree_bytes e ++ []) s)

two-no : (n : ℕ) → eqb (suc (suc n)) 1 ≡ false
two-no n = eqb-suc-suc (suc n) 0 ∙ eqb-suc-zero n

module _ (h : Head) (k : Counts h) where
  abbrev Fit : Tree → Type 0
  Fit t = TreeFits (symbols h) h.names h.scopes t

  abbrev FitAll : Trees → Type 0
  FitAll l = TreesFit (symbols h) h.names h.scopes l

  module _ (table : List ℕ) (around : List Bit) (same : Same table around) where
    coil-wired : (x : ℕ) (e : Tree) (l : ℕ) (rest : List ℕ) → x ≤ last_point → Fit e → is_expression e ≡ true → length (tree_bytes e) ≤ most_image → tnesting e ≤ l
        → wire_rung table l (tree_bytes (datum (point x)) ++ (tree_bytes e ++ rest)) ≡ got (record { words = map word_of (wired load around e ++ coil x ∷ []); starts = [] }) rest
    unfolding tree_bytes tag_of content_of join_number place_word word_of what_of operand_of last_point
    coil-wired x e l rest b f q s d =
        rung_on table l ((num_bytes 3 ++ num_bytes 2 ++ num_bytes x) ++ (tree_bytes e ++ rest)) (tree_bytes e ++ rest) rest (map word_of (wired load around e)) (atom_token 2 x)
        (atom_token_back 2 x (tree_bytes e ++ rest) (omega arith) (omega arith)) (expression_wired h k table around same e f q s l d load rest) (omega arith)
        ∙ ap (λ (z : List ℕ). got (record { words = z; starts = [] }) rest) (sym (map-append word_of (wired load around e) (coil x ∷ [])))

    bit_coil_wired : (x : ℕ) (e : Tree) (l : ℕ) (rest : List ℕ) → x < h.names → Fit e → is_expression e ≡ true → length (tree_bytes e) ≤ most_image → tnesting e ≤ l
        → wire_rung table l (tree_bytes (var x) ++ (tree_bytes e ++ rest)) ≡ got (record { words = map word_of (wired load around e ++ bit_coil (address_in around x) ∷ []); starts = [] }) rest
    unfolding tree_bytes join_number place_word word_of what_of operand_of
    bit_coil_wired x e l rest b f q s d =
        let w = map word_of (wired load around e) in
        let o : x < operands = omega (arith, k.names-few) in
        rung_on table l ((num_bytes 0 ++ num_bytes x) ++ (tree_bytes e ++ rest)) (tree_bytes e ++ rest) rest w (token 0 x)
        (token_back 0 x (tree_bytes e ++ rest) refl (omega arith) (omega arith)) (expression_wired h k table around same e f q s l d load rest) o
        ∙ ap (λ (z : ℕ). got (record { words = w ++ (10 * operands + z) ∷ []; starts = [] }) rest) (same.has x o)
        ∙ ap (λ (z : List ℕ). got (record { words = z; starts = [] }) rest) (sym (map-append word_of (wired load around e) (bit_coil (address_in around x) ∷ [])))

    -- `out`
    out-wired : (l : Trees) (n : ℕ) (rest : List ℕ) → FitAll l → is_rung is_point_tree l ≡ true → length (trees_bytes l) ≤ most_image → tnestings l ≤ n
        → wire_rung table n (trees_bytes l ++ rest) ≡ got (record { words = map word_of (out_code around l); starts = [] }) rest
    unfolding is_rung is_point_tree is_point tcount are_expressions out_code wired_first driven_by tnesting
    out-wired tnil n rest f e s d = absurd (false≢true e)
    out-wired (tcons q tnil) n rest f e s d = absurd (false≢true (and_both (is_point_tree q) false (and_both (is_point_tree q && false) true e).0).1)
    out-wired (tcons q (tcons t (tcons y l))) n rest f e s d =
        let a = (and_both (is_point_tree q && eqb (suc (suc (tcount l))) 1) (is_expression t && (is_expression y && are_expressions l)) e).0 in
        absurd (false≢true (sym (two-no (tcount l)) ∙ (and_both (is_point_tree q) (eqb (suc (suc (tcount l))) 1) a).1))
    out-wired (tcons (datum (point x)) (tcons t tnil)) n rest f e s d =
        ap (wire_rung table n) (pair_bytes (datum (point x)) t rest)
        ∙ coil-wired x t n rest f.0 f.1.0 (and_both (is_expression t) true e).0 (pair_short (datum (point x)) t s)
        (let a = le-max_left (tnesting t) 0 in let b = le-max_right 1 (max (tnesting t) 0) in omega arith)
    out-wired (tcons (datum (symbol x)) (tcons t tnil)) n rest f e s d = absurd (false≢true e)
    out-wired (tcons (datum (number x)) (tcons t tnil)) n rest f e s d = absurd (false≢true e)
    out-wired (tcons (datum (prim x)) (tcons t tnil)) n rest f e s d = absurd (false≢true e)
    out-wired (tcons (datum (rung x)) (tcons t tnil)) n rest f e s d = absurd (false≢true e)
    out-wired (tcons (var x) (tcons t tnil)) n rest f e s d = absurd (false≢true e)
    out-wired (tcons (app y z) (tcons t tnil)) n rest f e s d = absurd (false≢true e)
    out-wired (tcons (fun x b) (tcons t tnil)) n rest f e s d = absurd (false≢true e)
    out-wired (tcons (lst y) (tcons t tnil)) n rest f e s d = absurd (false≢true e)
    out-wired (tcons (stx y) (tcons t tnil)) n rest f e s d = absurd (false≢true e)

    -- `set`
    set-wired : (l : Trees) (n : ℕ) (rest : List ℕ) → FitAll l → is_rung is_variable l ≡ true → length (trees_bytes l) ≤ most_image → tnestings l ≤ n
        → wire_rung table n (trees_bytes l ++ rest) ≡ got (record { words = map word_of (set_code around l); starts = [] }) rest
    unfolding is_rung is_variable tcount are_expressions set_code wired_first assigned_by tnesting
    set-wired tnil n rest f e s d = absurd (false≢true e)
    set-wired (tcons q tnil) n rest f e s d = absurd (false≢true (and_both (is_variable q) false (and_both (is_variable q && false) true e).0).1)
    set-wired (tcons q (tcons t (tcons y l))) n rest f e s d =
        let a = (and_both (is_variable q && eqb (suc (suc (tcount l))) 1) (is_expression t && (is_expression y && are_expressions l)) e).0 in
        absurd (false≢true (sym (two-no (tcount l)) ∙ (and_both (is_variable q) (eqb (suc (suc (tcount l))) 1) a).1))
    set-wired (tcons (var x) (tcons t tnil)) n rest f e s d =
        ap (wire_rung table n) (pair_bytes (var x) t rest)
        ∙ bit_coil_wired x t n rest f.0 f.1.0 (and_both (is_expression t) true e).0 (pair_short (var x) t s)
        (let a = le-max_left (tnesting t) 0 in let b = le-max_right 1 (max (tnesting t) 0) in omega arith)
    set-wired (tcons (app y z) (tcons t tnil)) n rest f e s d = absurd (false≢true e)
    set-wired (tcons (fun x b) (tcons t tnil)) n rest f e s d = absurd (false≢true e)
    set-wired (tcons (datum a) (tcons t tnil)) n rest f e s d = absurd (false≢true e)
    set-wired (tcons (lst y) (tcons t tnil)) n rest f e s d = absurd (false≢true e)
    set-wired (tcons (stx y) (tcons t tnil)) n rest f e s d = absurd (false≢true e)

-- ---- a start value

start_on : (s rest : List ℕ) (t : Token) → read_token s ≡ got t rest → leb t.content 1 ≡ true → start_number s ≡ got t.content rest
unfolding start_number
start_on s rest t e h = rw (e, h)

start-wired : (k n m : ℕ) (l : Trees) (rest : List ℕ) → TreesFit k n m l → is_start l ≡ true → start_number (trees_bytes l ++ rest) ≡ got (start_value l) rest
unfolding is_start is_binary tcount start_value tree_bytes trees_bytes tag_of content_of
start-wired k n m tnil rest f e = absurd (false≢true e)
start-wired k n m (tcons v (tcons y l)) rest f e = absurd (false≢true (sym (eqb-suc-zero (tcount l)) ∙ (and_both (is_binary v) (eqb (suc (tcount l)) 0) e).1))
start-wired k n m (tcons (datum (number x)) tnil) rest f e =
    ap (λ (z : List ℕ). start_number (z ++ rest)) (append-nil (num_bytes 3 ++ num_bytes 1 ++ num_bytes x))
    ∙ start_on ((num_bytes 3 ++ num_bytes 1 ++ num_bytes x) ++ rest) rest (atom_token 1 x) (atom_token_back 1 x rest (omega arith) f.0) (and_both (leb x 1) true e).0
start-wired k n m (tcons (datum (symbol x)) tnil) rest f e = absurd (false≢true e)
start-wired k n m (tcons (datum (point x)) tnil) rest f e = absurd (false≢true e)
start-wired k n m (tcons (datum (prim x)) tnil) rest f e = absurd (false≢true e)
start-wired k n m (tcons (datum (rung x)) tnil) rest f e = absurd (false≢true e)
start-wired k n m (tcons (var x) tnil) rest f e = absurd (false≢true e)
start-wired k n m (tcons (app y z) tnil) rest f e = absurd (false≢true e)
start-wired k n m (tcons (fun x b) tnil) rest f e = absurd (false≢true e)
start-wired k n m (tcons (lst y) tnil) rest f e = absurd (false≢true e)
start-wired k n m (tcons (stx y) tnil) rest f e = absurd (false≢true e)

-- ---- a program, and programs

abbrev ProgramIs : Tree → Type 0
ProgramIs t = (n : ℕ) → tnesting t ≤ n → (table : List ℕ) (around : List Bit) → Same table around → (a : ℕ) → a + length (function_names t) ≤ room → (rest : List ℕ)
    → wire_program n table a (tree_bytes t ++ rest) ≡ got (code_and_starts around a t) rest

abbrev InsideIs : Tree → Type 0
InsideIs (var x) = Unit {0}
InsideIs (app g l) = Unit {0}
InsideIs (fun x b) = ProgramIs b
InsideIs (datum a) = Unit {0}
InsideIs (lst l) = Unit {0}
InsideIs (stx s) = Unit {0}

abbrev all_given : List Bit → ℕ → Trees → Given
all_given around a l = record { words = map word_of (rungs_all around a l); starts = starts_all l }

abbrev ProgramsAre : Trees → Type 0
ProgramsAre l = (n : ℕ) → tnestings l ≤ n → (table : List ℕ) (around : List Bit) → Same table around → (a : ℕ) (before : Given) → a + length before.starts + length (function_names_all l) ≤ room → (rest : List ℕ)
    → wire_programs (wire_program n table) a before (tcount l) (trees_bytes l ++ rest) ≡ got (both before (all_given around (a + length before.starts) l)) rest

given-same : {a b c d : List ℕ} → a ≡ b → c ≡ d → ◌≡◌ {A = Given} (record { words = a; starts = c }) (record { words = b; starts = d })
given-same p q = ap₂ (λ (x y : List ℕ). record { words = x; starts = y }) p q

-- a bit
bit-wired : (h : Head) → Counts h → (x : ℕ) (b : Tree) (l : Trees) → TreeFits (symbols h) h.names h.scopes (fun x b) → TreesFit (symbols h) h.names h.scopes l → is_start l ≡ true → length (trees_bytes l) ≤ most_image
    → ProgramIs b → ProgramIs (app (fun x b) l)
unfolding function_names tnesting rungs rungs_inside rungs_of starts starts_inside starts_of head_word
bit-wired h k x b l f g e s body n d table around same a r rest =
    let i = inner (suc (tnesting b)) (tnestings l) n d in
    let o : x < operands = omega (arith, k.names-few) in
    let u = length-append (x ∷ function_names b) (function_names_all l) in
    let z : a < room = omega arith in
    let w : a + 1 + length (function_names b) ≤ room = omega arith in
    let y : tnesting b ≤ n - 1 = let q = i.left in omega arith in
    let bit : List Bit = record { name = x; address = a } ∷ around in
    bit-program x b l n table a rest (omega arith) s i.some
    ∙ by_bit (wire_program (n - 1)) (wire_rung table (n - 1)) table a (suc (tcount l)) (token 2 x) (tree_bytes b ++ (trees_bytes l ++ rest)) refl
    ∙ bit_is (n - 1) a table (tree_bytes b ++ (trees_bytes l ++ rest)) x o z
    ∙ next_on (λ c u. next (start_number u) (λ v t. got (begun c v) t)) (body (n - 1) y (set table x a) bit (same_more x a o same) (a + 1) w (trees_bytes l ++ rest)) refl
    ∙ next_on (λ v t. got (begun (code_and_starts bit (a + 1) b) v) t) (start-wired (symbols h) h.names h.scopes l rest g e) refl
    ∙ ap (λ (q : ℕ). got (begun (code_and_starts bit q b) (start_value l)) rest) (add-one a)

-- a rung word
rung-program : (h : Head) → Counts h → (x : ℕ) (l : Trees) → TreesFit (symbols h) h.names h.scopes l → is_program_of (p.word_numbered x) l false (are_programs l) ≡ true → length (trees_bytes l) ≤ most_image
    → (are_programs l ≡ true → ProgramsAre l) → ProgramIs (app (datum (rung x)) l)
unfolding p.word_numbered p.word_of head_word is_program_of function_names tnesting rungs rungs_of starts starts_of
rung-program h k zero l f e s parts n d table around same a r rest = absurd (false≢true e)
rung-program h k (suc zero) l f e s parts n d table around same a r rest = absurd (false≢true e)
rung-program h k (suc (suc zero)) l f e s parts n d table around same a r rest = absurd (false≢true e)
rung-program h k (suc (suc (suc zero))) l f e s parts n d table around same a r rest =
    let i = inner 1 (tnestings l) n d in
    word-program 3 l n table a rest (omega arith) s i.some
    ∙ by-rung (wire_program (n - 1)) (wire_rung table (n - 1)) table a (suc (tcount l)) (atom_token 4 3) (trees_bytes l ++ rest) (λ q. (let z : ◌≡◌ {A = ℕ} 3 2 = q in omega arith)) (λ q. (let z : ◌≡◌ {A = ℕ} 3 5 = q in omega arith))
    ∙ out-wired h k table around same l (n - 1) rest f e s i.right
rung-program h k (suc (suc (suc (suc zero)))) l f e s parts n d table around same a r rest =
    let i = inner 1 (tnestings l) n d in
    word-program 4 l n table a rest (omega arith) s i.some
    ∙ by-rung (wire_program (n - 1)) (wire_rung table (n - 1)) table a (suc (tcount l)) (atom_token 4 4) (trees_bytes l ++ rest) (λ q. (let z : ◌≡◌ {A = ℕ} 3 2 = q in omega arith)) (λ q. (let z : ◌≡◌ {A = ℕ} 4 5 = q in omega arith))
    ∙ set-wired h k table around same l (n - 1) rest f e s i.right
rung-program h k (suc (suc (suc (suc (suc zero))))) l f e s parts n d table around same a r rest =
    let i = inner 1 (tnestings l) n d in
    let c : suc (tcount l) - 1 ≡ tcount l = omega arith in
    let o : a + 0 ≡ a = omega arith in
    let w : a + 0 + length (function_names_all l) ≤ room = omega arith in
    word-program 5 l n table a rest (omega arith) s i.some
    ∙ by_all (wire_program (n - 1)) (wire_rung table (n - 1)) table a (suc (tcount l)) (atom_token 4 5) (trees_bytes l ++ rest) (λ q. (let z : ◌≡◌ {A = ℕ} 3 2 = q in omega arith)) refl
    ∙ ap (λ (q : ℕ). wire_programs (wire_program (n - 1) table) a nothing q (trees_bytes l ++ rest)) c
    ∙ parts (and_both (leb 1 (tcount l)) (are_programs l) e).1 (n - 1) i.right table around same a nothing w rest
    ∙ ap (λ (q : ℕ). got (all_given around q l) rest) o
rung-program h k (suc (suc (suc (suc (suc (suc x)))))) l f e s parts n d table around same a r rest = absurd (false≢true e)

by-head : (h : Head) → Counts h → (g : Tree) (l : Trees) → TreeFits (symbols h) h.names h.scopes g → TreesFit (symbols h) h.names h.scopes l → is_program_of (head_word g) l (is_program_inside g) (are_programs l) ≡ true
    → length (trees_bytes l) ≤ most_image → (is_program_inside g ≡ true → InsideIs g) → (are_programs l ≡ true → ProgramsAre l) → ProgramIs (app g l)
unfolding head_word p.word_of is_program_of is_program_inside
by-head h k (var x) l f g e s inside parts = absurd (false≢true e)
by-head h k (app y z) l f g e s inside parts = absurd (false≢true e)
by-head h k (fun x b) l f g e s inside parts = let q = and_both (is_program b) (is_start l) e in bit-wired h k x b l f g q.1 s (inside q.0)
by-head h k (datum (symbol x)) l f g e s inside parts = absurd (false≢true e)
by-head h k (datum (number x)) l f g e s inside parts = absurd (false≢true e)
by-head h k (datum (point x)) l f g e s inside parts = absurd (false≢true e)
by-head h k (datum (prim x)) l f g e s inside parts = absurd (false≢true e)
by-head h k (datum (rung x)) l f g e s inside parts = rung-program h k x l g e s parts
by-head h k (lst y) l f g e s inside parts = absurd (false≢true e)
by-head h k (stx y) l f g e s inside parts = absurd (false≢true e)

-- one program and then the others
one_more : (t : Tree) (l : Trees) → is_program t ≡ true → ProgramIs t → ProgramsAre l → ProgramsAre (tcons t l)
unfolding trees_bytes tcount tnesting function_names_all rungs_all starts_all wire_programs bits_of
one_more t l e first others n d table around same a before r rest =
    let x : tnesting t ≤ n = omega (arith, le-max_left (tnesting t) (tnestings l)) in
    let y : tnestings l ≤ n = omega (arith, le-max_right (tnesting t) (tnestings l)) in
    let i = a + length before.starts in
    let c = code_and_starts around i t in
    let m : length (starts t) ≡ length (function_names t) = as_many_starts t e in
    let u = length-append (function_names t) (function_names_all l) in
    let v = length-append before.starts (starts t) in
    let p : a + length before.starts + length (function_names t) ≤ room = omega arith in
    let q : a + length (before.starts ++ starts t) + length (function_names_all l) ≤ room = omega arith in
    let j : a + length (before.starts ++ starts t) ≡ a + length before.starts + length (function_names t) = omega arith in
    ap (λ (z : List ℕ). next (wire_program n table i z) (λ g. wire_programs (wire_program n table) a (both before g) (tcount l))) (append_assoc (tree_bytes t) (trees_bytes l) rest)
    ∙ next_on (λ g. wire_programs (wire_program n table) a (both before g) (tcount l)) (first n x table around same i p (trees_bytes l ++ rest)) refl
    ∙ others n y table around same a (both before c) q rest
    ∙ ap (λ (z : ℕ). got (both (both before c) (all_given around z l)) rest) j
    ∙ ap (λ (z : Given). got z rest) (given-same
    (append_assoc before.words c.words (map word_of (rungs_all around (i + length (function_names t)) l)) ∙ ap (λ (z : List ℕ). before.words ++ z) (sym (map-append word_of (rungs around i t) (rungs_all around (i + length (function_names t)) l))))
    (append_assoc before.starts (starts t) (starts_all l)))

module _ (h : Head) (k : Counts h) where
  mutual
    unfolding is_program is_program_inside are_programs tree_bytes trees_bytes tcount rungs_all starts_all wire_programs

    pub program-wired : (t : Tree) → TreeFits (symbols h) h.names h.scopes t → is_program t ≡ true → length (tree_bytes t) ≤ most_image → ProgramIs t
    program-wired (var x) f e s = absurd (false≢true e)
    program-wired (app g l) f e s =
        let before = left_le most_image (num_bytes 1 ++ num_bytes (suc (tcount l)) ++ tree_bytes g) (trees_bytes l) s in
        let short = right_le most_image (num_bytes 1 ++ num_bytes (suc (tcount l)) ++ tree_bytes g) (trees_bytes l) s in
        by-head h k g l f.0 f.1 e short
        (λ q. inside-wired g f.0 q (right_le most_image (num_bytes 1 ++ num_bytes (suc (tcount l))) (tree_bytes g) before)) (λ q. programs_wired l f.1 q short)
    program-wired (fun x b) f e s = absurd (false≢true e)
    program-wired (datum a) f e s = absurd (false≢true e)
    program-wired (lst l) f e s = absurd (false≢true e)
    program-wired (stx y) f e s = absurd (false≢true e)

    inside-wired : (g : Tree) → TreeFits (symbols h) h.names h.scopes g → is_program_inside g ≡ true → length (tree_bytes g) ≤ most_image → InsideIs g
    inside-wired (var x) f e s = tt
    inside-wired (app g l) f e s = tt
    inside-wired (fun x b) f e s = program-wired b f.1 e (right_le most_image (num_bytes 2 ++ num_bytes x) (tree_bytes b) s)
    inside-wired (datum a) f e s = tt
    inside-wired (lst l) f e s = tt
    inside-wired (stx y) f e s = tt

    programs_wired : (l : Trees) → TreesFit (symbols h) h.names h.scopes l → are_programs l ≡ true → length (trees_bytes l) ≤ most_image → ProgramsAre l
    programs_wired tnil f e s = λ n d table around same a before r rest. ap (λ (z : Given). got z rest) (given-same (sym (append-nil before.words)) (sym (append-nil before.starts)))
    programs_wired (tcons t l) f e s =
        let q = and_both (is_program t) (are_programs l) e in
        one_more t l q.0 (program-wired t f.0 q.0 (left_le most_image (tree_bytes t) (trees_bytes l) s)) (programs_wired l f.1 q.1 (right_le most_image (tree_bytes t) (trees_bytes l) s))
