-- The bytes of an expression are read as its code.
use Prim.Native.Nat.{ℕ, zero, suc, ◌+◌, ◌-◌, ◌*◌, max, ◌≤◌, ◌<◌}
use mathlib.Core.Path.{◌≡◌, refl, sym, ap, ap₂, ◌∙◌}
use mathlib.Core.Bool.{true, false≢true}
use mathlib.Core.List.{List, [], ◌∷◌, ◌++◌, map, map-append, append_assoc, append-nil}
use native.Mathlib.Omega.{arith}
use native.Mathlib.Nat.{le-max_left, le-max_right}
use lib.Dec.{eqb, leb}
use lib.ListN.{length, get_or}
use Rattle.model.specs.Limits.{last_point, last_rung_word}
use Rattle.model.specs.Objects.{Atom, symbol, number, point, prim, rung, tag_of, content_of}
use Rattle.model.specs.Trees.{Tree, var, app, fun, datum, lst, stx, Trees, tnil, tcons, tcount, tnesting, tnestings}
use Rattle.model.specs.Reading.{Head, got, next, symbols}
use Rattle.model.specs.Writing.{num_bytes, tree_bytes, trees_bytes}
use Rattle.laws.proofs.Tests.{and_both}
use Rattle.codec_laws.specs.WellFormed.{AtomFits, TreeFits, TreesFit}
use Rattle.codec_laws.proofs.Lengths.{left_le, right_le, tcount_le}
use Rattle.codec_laws.proofs.TreeTrip.{Counts}
use Rattle.numbers.specs.Limits.{most_image}
use Rattle.requests.specs.Panel as p
use Rattle.requests.specs.Panel.{head_word, is_point, is_expression_of, is_expression, are_expressions}
use Rattle.requests.specs.Scanning.{Bit, address_in}
use Rattle.ladder.specs.Code.{Join, load, series, parallel, contact, bit_contact, inverse, join_number, join_what, what_of, operand_of, word_of, join_of, others_join, wired_by, wired_atom, wired, wired_all}
use Rattle.bits.specs.declared.Token.{Token}
use Rattle.bits.specs.Tokens.{read_token}
use Rattle.bits.proofs.Walked.{token, atom_token, token_back, atom_token_back}
use Rattle.wiring.specs.Words.{operands, place_word, others_of, turn_of, join_word, ending_of}
use Rattle.wiring.specs.Wiring.{wire_parts, wire_application, wire_token, wire_tree}
use Rattle.wiring.proofs.Expressions.{next_on, tree_is, by_application, by-contact}

-- ---- the table has the addresses of the bits around

pub record Same (table : List ℕ) (around : List Bit) : Type 0 where
  pub long : operands ≤ length table
  pub has : (x : ℕ) → x < operands → get_or table x 0 ≡ address_in around x

-- ---- levels

pub record Inner (a b l : ℕ) : Type 0 where
  pub left : a ≤ l - 1
  pub right : b ≤ l - 1
  pub some : 1 ≤ l

pub inner : (a b l : ℕ) → suc (max a b) ≤ l → Inner a b l
inner a b l h =
    let x = le-max_left a b in
    let y = le-max_right a b in
    record { left = omega arith; right = omega arith; some = omega arith }

tree_on : (table : List ℕ) (l j : ℕ) (s : List ℕ) → 1 ≤ l → (t : Token) (u : List ℕ) → read_token s ≡ got t u → wire_tree table l j s ≡ wire_token (wire_tree table (l - 1)) table j t u
tree_on table l j s o t u e = tree_is table l j s (λ z. omega arith) ∙ next_on (λ x. wire_token (wire_tree table (l - 1)) table j x) e refl

-- ---- words

joins : (j : Join) → join_word (join_number j) ≡ map word_of (join_of j)
unfolding join_word join_number join_of word_of what_of operand_of join_what
joins load = refl
joins series = refl
joins parallel = refl

ending-and : (j : Join) → ending_of 0 (join_number j) ≡ map word_of (join_of j)
unfolding ending_of turn_of
ending-and j = joins j

ending-or : (j : Join) → ending_of 1 (join_number j) ≡ map word_of (join_of j)
unfolding ending_of turn_of
ending-or j = joins j

ending-not : (j : Join) → ending_of 2 (join_number j) ≡ map word_of (inverse ∷ join_of j)
unfolding ending_of turn_of word_of what_of operand_of
ending-not j = ap (λ (z : List ℕ). 8192 ∷ z) (joins j)

-- ---- the bytes of an application of a word

pub word_bytes : (a : Atom) (l : Trees) (rest : List ℕ)
    → tree_bytes (app (datum a) l) ++ rest ≡ (num_bytes 1 ++ num_bytes (suc (tcount l))) ++ ((num_bytes 3 ++ num_bytes (tag_of a) ++ num_bytes (content_of a)) ++ (trees_bytes l ++ rest))
unfolding tree_bytes
word_bytes a l rest = append_assoc (num_bytes 1 ++ num_bytes (suc (tcount l)) ++ tree_bytes (datum a)) (trees_bytes l) rest ∙ append_assoc (num_bytes 1 ++ num_bytes (suc (tcount l))) (tree_bytes (datum a)) (trees_bytes l ++ rest)

module _ (h : Head) (k : Counts h) (table : List ℕ) (around : List Bit) (same : Same table around) where
  variable-wired : (x l : ℕ) (j : Join) (rest : List ℕ) → x < h.names → 1 ≤ l → wire_tree table l (join_number j) ((num_bytes 0 ++ num_bytes x) ++ rest) ≡ got (word_of (bit_contact j (address_in around x)) ∷ []) rest
  unfolding word_of what_of operand_of place_word
  variable-wired x l j rest f o =
      let n : join_number j + 3 ≡ 3 + join_number j = omega arith in
      let s : x < operands = omega (arith, k.names-few) in
      tree_on table l (join_number j) ((num_bytes 0 ++ num_bytes x) ++ rest) o (token 0 x) rest (token_back 0 x rest refl (omega arith) (omega arith))
      ∙ by-contact (wire_tree table (l - 1)) table (join_number j) (token 0 x) rest (λ e. (let z : ◌≡◌ {A = ℕ} 0 1 = e in omega arith)) s
      ∙ ap₂ (λ (a b : ℕ). got ((a * operands + b) ∷ []) rest) n (same.has x s)

  point-wired : (x l : ℕ) (j : Join) (rest : List ℕ) → x ≤ last_point → 1 ≤ l → wire_tree table l (join_number j) ((num_bytes 3 ++ num_bytes 2 ++ num_bytes x) ++ rest) ≡ got (word_of (contact j x) ∷ []) rest
  unfolding word_of what_of operand_of place_word last_point
  point-wired x l j rest f o =
      let s : x < operands = omega arith in
      tree_on table l (join_number j) ((num_bytes 3 ++ num_bytes 2 ++ num_bytes x) ++ rest) o (atom_token 2 x) rest (atom_token_back 2 x rest (omega arith) (omega arith))
      ∙ by-contact (wire_tree table (l - 1)) table (join_number j) (atom_token 2 x) rest (λ e. (let z : ◌≡◌ {A = ℕ} 3 1 = e in omega arith)) s

  atom-wired : (a : Atom) (l : ℕ) (j : Join) (rest : List ℕ) → AtomFits (symbols h) a → is_point a ≡ true → 1 ≤ l → wire_tree table l (join_number j) (tree_bytes (datum a) ++ rest) ≡ got (map word_of (wired_atom j a)) rest
  unfolding is_point wired_atom tree_bytes tag_of content_of
  atom-wired (symbol x) l j rest f e o = absurd (false≢true e)
  atom-wired (number x) l j rest f e o = absurd (false≢true e)
  atom-wired (point x) l j rest f e o = point-wired x l j rest f o
  atom-wired (prim x) l j rest f e o = absurd (false≢true e)
  atom-wired (rung x) l j rest f e o = absurd (false≢true e)

  word-wired : (x : ℕ) (l : Trees) (n j : ℕ) (rest ws : List ℕ) → x < 4294967296 → length (trees_bytes l) ≤ most_image → 1 ≤ n → wire_parts (wire_tree table (n - 1)) 0 (others_of x) [] (tcount l) (trees_bytes l ++ rest) ≡ got ws rest
      → wire_tree table n j (tree_bytes (app (datum (rung x)) l) ++ rest) ≡ got (ws ++ ending_of x j) rest
  unfolding wire_application tag_of content_of
  word-wired x l n j rest ws small short o e =
      let c : suc (tcount l) < 4294967296 = omega (arith, tcount_le l) in
      let z : suc (tcount l) - 1 ≡ tcount l = omega arith in
      let u = (num_bytes 3 ++ num_bytes 4 ++ num_bytes x) ++ (trees_bytes l ++ rest) in
      ap (wire_tree table n j) (word_bytes (rung x) l rest)
      ∙ tree_on table n j ((num_bytes 1 ++ num_bytes (suc (tcount l))) ++ u) o (token 1 (suc (tcount l))) u (token_back 1 (suc (tcount l)) u refl (omega arith) c)
      ∙ by_application (wire_tree table (n - 1)) table j (token 1 (suc (tcount l))) u refl
      ∙ rw (atom_token_back 4 x (trees_bytes l ++ rest) (omega arith) small, z, e)

  -- what is claimed of the parts
  abbrev PartsWired : Trees → ℕ → List ℕ → Type 0
  PartsWired l n rest = (o : Join) → wire_parts (wire_tree table (n - 1)) 0 (join_number o) [] (tcount l) (trees_bytes l ++ rest) ≡ got (map word_of (wired_all load o around l)) rest

  rung_applied : (x : ℕ) (l : Trees) → x ≤ last_rung_word → is_expression_of (p.word_numbered x) (tcount l) (are_expressions l) ≡ true → length (trees_bytes l) ≤ most_image → (n : ℕ) → 1 ≤ n → (j : Join) (rest : List ℕ)
      → (are_expressions l ≡ true → PartsWired l n rest) → wire_tree table n (join_number j) (tree_bytes (app (datum (rung x)) l) ++ rest) ≡ got (map word_of (wired j around (app (datum (rung x)) l))) rest
  unfolding p.word_numbered is_expression_of wired head_word p.word_of wired_by others_join others_of join_number
  rung_applied zero l f e s n o j rest parts =
      let w = wired_all load series around l in
      word-wired 0 l n (join_number j) rest (map word_of w) (omega arith) s o (parts (and_both (leb 2 (tcount l)) (are_expressions l) e).1 series)
      ∙ ap (λ (z : List ℕ). got z rest) (ap (λ (z : List ℕ). map word_of w ++ z) (ending-and j) ∙ sym (map-append word_of w (join_of j)))
  rung_applied (suc zero) l f e s n o j rest parts =
      let w = wired_all load parallel around l in
      word-wired 1 l n (join_number j) rest (map word_of w) (omega arith) s o (parts (and_both (leb 2 (tcount l)) (are_expressions l) e).1 parallel)
      ∙ ap (λ (z : List ℕ). got z rest) (ap (λ (z : List ℕ). map word_of w ++ z) (ending-or j) ∙ sym (map-append word_of w (join_of j)))
  rung_applied (suc (suc zero)) l f e s n o j rest parts =
      let w = wired_all load parallel around l in
      word-wired 2 l n (join_number j) rest (map word_of w) (omega arith) s o (parts (and_both (eqb (tcount l) 1) (are_expressions l) e).1 parallel)
      ∙ ap (λ (z : List ℕ). got z rest) (ap (λ (z : List ℕ). map word_of w ++ z) (ending-not j) ∙ sym (map-append word_of w (inverse ∷ join_of j)))
  rung_applied (suc (suc (suc zero))) l f e s n o j rest parts = absurd (false≢true e)
  rung_applied (suc (suc (suc (suc zero)))) l f e s n o j rest parts = absurd (false≢true e)
  rung_applied (suc (suc (suc (suc (suc zero))))) l f e s n o j rest parts = absurd (false≢true e)
  rung_applied (suc (suc (suc (suc (suc (suc x)))))) l f e s n o j rest parts = absurd (false≢true e)

  application_wired : (g : Tree) (l : Trees) → TreeFits (symbols h) h.names h.scopes g → is_expression_of (head_word g) (tcount l) (are_expressions l) ≡ true → length (trees_bytes l) ≤ most_image → (n : ℕ) → 1 ≤ n → (j : Join) (rest : List ℕ)
      → (are_expressions l ≡ true → PartsWired l n rest) → wire_tree table n (join_number j) (tree_bytes (app g l) ++ rest) ≡ got (map word_of (wired j around (app g l))) rest
  unfolding head_word p.word_of is_expression_of
  application_wired (var x) l f e s n o j rest parts = absurd (false≢true e)
  application_wired (app y z) l f e s n o j rest parts = absurd (false≢true e)
  application_wired (fun x b) l f e s n o j rest parts = absurd (false≢true e)
  application_wired (datum (symbol x)) l f e s n o j rest parts = absurd (false≢true e)
  application_wired (datum (number x)) l f e s n o j rest parts = absurd (false≢true e)
  application_wired (datum (point x)) l f e s n o j rest parts = absurd (false≢true e)
  application_wired (datum (prim x)) l f e s n o j rest parts = absurd (false≢true e)
  application_wired (datum (rung x)) l f e s n o j rest parts = rung_applied x l f e s n o j rest parts
  application_wired (lst y) l f e s n o j rest parts = absurd (false≢true e)
  application_wired (stx y) l f e s n o j rest parts = absurd (false≢true e)

  mutual
    unfolding is_expression are_expressions tree_bytes trees_bytes tnesting tcount wired wired_all wire_parts join_number

    pub expression_wired : (t : Tree) → TreeFits (symbols h) h.names h.scopes t → is_expression t ≡ true → length (tree_bytes t) ≤ most_image → (n : ℕ) → tnesting t ≤ n → (j : Join) (rest : List ℕ)
        → wire_tree table n (join_number j) (tree_bytes t ++ rest) ≡ got (map word_of (wired j around t)) rest
    expression_wired (var x) f e s n d j rest = variable-wired x n j rest f d
    expression_wired (app g l) f e s n d j rest =
        let i = inner (tnesting g) (tnestings l) n d in
        let short = right_le most_image (num_bytes 1 ++ num_bytes (suc (tcount l)) ++ tree_bytes g) (trees_bytes l) s in
        application_wired g l f.0 e short n i.some j rest (λ q o. expressions_wired l f.1 q short (n - 1) i.right load o [] rest)
    expression_wired (fun x b) f e s n d j rest = absurd (false≢true e)
    expression_wired (datum a) f e s n d j rest = atom-wired a n j rest f e d
    expression_wired (lst l) f e s n d j rest = absurd (false≢true e)
    expression_wired (stx y) f e s n d j rest = absurd (false≢true e)

    expressions_wired : (l : Trees) → TreesFit (symbols h) h.names h.scopes l → are_expressions l ≡ true → length (trees_bytes l) ≤ most_image → (n : ℕ) → tnestings l ≤ n → (j o : Join) (before rest : List ℕ)
        → wire_parts (wire_tree table n) (join_number j) (join_number o) before (tcount l) (trees_bytes l ++ rest) ≡ got (before ++ map word_of (wired_all j o around l)) rest
    expressions_wired tnil f e s n d j o before rest = ap (λ (z : List ℕ). got z rest) (sym (append-nil before))
    expressions_wired (tcons t l) f e s n d j o before rest =
        let r = and_both (is_expression t) (are_expressions l) e in
        let x : tnesting t ≤ n = omega (arith, le-max_left (tnesting t) (tnestings l)) in
        let y : tnestings l ≤ n = omega (arith, le-max_right (tnesting t) (tnestings l)) in
        let a = map word_of (wired j around t) in
        ap (λ (z : List ℕ). next (wire_tree table n (join_number j) z) (λ w. wire_parts (wire_tree table n) (join_number o) (join_number o) (before ++ w) (tcount l))) (append_assoc (tree_bytes t) (trees_bytes l) rest)
        ∙ next_on (λ w. wire_parts (wire_tree table n) (join_number o) (join_number o) (before ++ w) (tcount l))
        (expression_wired t f.0 r.0 (left_le most_image (tree_bytes t) (trees_bytes l) s) n x j (trees_bytes l ++ rest)) refl
        ∙ expressions_wired l f.1 r.1 (right_le most_image (tree_bytes t) (trees_bytes l) s) n y o o (before ++ a) rest
        ∙ ap (λ (z : List ℕ). got z rest) (append_assoc before a (map word_of (wired_all o o around l)) ∙ ap (λ (z : List ℕ). before ++ z) (sym (map-append word_of (wired j around t) (wired_all o o around l))))
