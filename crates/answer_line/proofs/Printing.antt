-- The columns one behind another, by what the code tests.
use Prim.Native.Nat.{ℕ, ◌+◌, ◌-◌, ◌*◌, ◌≤◌, ◌<◌, min}
use mathlib.Core.Path.{◌≡◌, sym, ap, ◌∙◌}
use mathlib.Core.List.{List, [], ◌∷◌, ◌++◌, append-nil}
use mathlib.Core.Bool.{Bool, true, false}
use native.Mathlib.Omega.{arith}
use lib.ListN.{length, take, drop, get_or, length-append, take-append-drop, drop_of_length-le}
use lib.Seq.{take_all, length-take-le}
use borrow.Author.Tests.{eq-eqb, ne_eqb}
use Rattle.model.specs.Jobs.{digits, Result}
use Rattle.text.specs.Placing.{Placed}
use Rattle.text.specs.Hexadecimal.{hex_of}
use Rattle.text.proofs.Placing.{placed_then, renamed}
use Rattle.text.proofs.Decimal.{digits-before}
use Rattle.text.proofs.Hexadecimal.{hex_length}
use Rattle.answer_line.specs.Format.{word_fill, byte_fill, all_are, is_clear, number_column, table_column, written_column, output_column, number_columns, buffer_columns, answer_columns, answer_line, summary_front, summary_column, replace_line}
use Rattle.answer_line.specs.Words.{bytes_of_words}
use Rattle.numbers.proofs.Reading.{part-from}
use Rattle.std.proofs.lemmas.List.{take_min}
use Rattle.answer_line.proofs.Laying.{bytes-length}

-- ---- numbers

module _ {out o₁ o₂ : List ℕ} {at p q : ℕ} where
  pub number-placed : (n : ℕ) → Placed out at (digits 10 n []) o₁ p → Placed o₁ p (32 ∷ []) o₂ q → Placed out at (number_column n) o₂ q
  unfolding number_column
  number-placed n a b = renamed (sym (digits-before 10 n (32 ∷ []))) (placed_then a b)

  pub numbers-placed : (code units name len first second : ℕ) {o₃ : List ℕ} {e : ℕ} → Placed out at (number_column code ++ number_column units) o₁ p
      → Placed o₁ p (number_column name ++ number_column len) o₂ q → Placed o₂ q (number_column first ++ number_column second) o₃ e
      → Placed out at (number_columns (record { code = code; units = units; name = name; len = len; first = first; second = second })) o₃ e
  unfolding number_columns
  numbers-placed code units name len first second a b c = placed_then a (placed_then b c)

-- ---- the table

module _ (budget : ℕ) (table : List ℕ) {kept : Bool} (k : kept ≡ all_are word_fill table) {out o₁ : List ℕ} {at p : ℕ} where
  pub table_kept : kept ≡ true → Placed out at (107 ∷ 101 ∷ 112 ∷ 116 ∷ 32 ∷ []) o₁ p → Placed out at (table_column budget table) o₁ p
  unfolding table_column
  table_kept y w = renamed (simp (sym k, y)) w

  pub table-clear : {clear : Bool} → kept ≡ false → clear ≡ is_clear budget table → clear ≡ true
      → Placed out at (99 ∷ 108 ∷ 101 ∷ 97 ∷ 114 ∷ 32 ∷ []) o₁ p → Placed out at (table_column budget table) o₁ p
  unfolding table_column
  table-clear n c y w = renamed (simp (sym k, n, sym c, y)) w

  pub table-bad : {clear : Bool} → kept ≡ false → clear ≡ is_clear budget table → clear ≡ false
      → Placed out at (98 ∷ 97 ∷ 100 ∷ 32 ∷ []) o₁ p → Placed out at (table_column budget table) o₁ p
  unfolding table_column
  table-bad n c y w = renamed (simp (sym k, n, sym c, y)) w

-- ---- the output

take_short : (n : ℕ) (l : List ℕ) → length (take n l) ≤ length l
take_short n l =
    let e = simp length-append at (ap length (take-append-drop n l)) in
    omega arith

pub all-few : (output : List ℕ) {out o₁ : List ℕ} {at p : ℕ} → Placed out at (hex_of output) o₁ p → p ≤ at + length output * 2 + 1
all-few output w = let e = w.ends in let h = hex_length output in omega arith

module _ (count : ℕ) (output : List ℕ) where
  pub part_room : (at : ℕ) (out : List ℕ) → at + length output * 2 + 1 ≤ length out → at + length (take count output) * 2 ≤ length out
  part_room at out h = let s = take_short count output in omega arith

  pub kept_past : length output < count → true ≡ all_are byte_fill (drop count output)
  unfolding all_are
  kept_past h = let e : length output ≤ count = omega arith in sym (ap (all_are byte_fill) (drop_of_length-le output e))

  pub kept-rest : {k : Bool} → k ≡ all_are byte_fill (take (length output - count) (drop count output)) → k ≡ all_are byte_fill (drop count output)
  kept-rest e = e ∙ ap (all_are byte_fill) (part-from count output)

  pub part-long : count ≤ length output → count ≡ length (take count output)
  part-long h = sym (length-take-le count output h)

module _ (count : ℕ) (output : List ℕ) {out o₁ : List ℕ} {at p : ℕ} where
  pub written_none : count ≡ 0 → Placed out at (45 ∷ []) o₁ p → Placed out at (written_column count output) o₁ p
  unfolding written_column
  written_none e w = renamed (simp (eq-eqb count 0 e)) w

  pub written-part : {m : ℕ} → (count ≡ 0 → ⊥) → m ≡ min count (length output) → Placed out at (hex_of (take m output)) o₁ p → Placed out at (written_column count output) o₁ p
  unfolding written_column
  written-part n e w = renamed (ap (λ (k : ℕ). hex_of (take k output)) e ∙ ap hex_of (take_min count output) ∙ (let f : hex_of (take count output) ≡ written_column count output = simp (ne_eqb count 0 n) in f)) w

  pub part-few : Placed out at (hex_of (take count output)) o₁ p → p ≤ at + length output * 2 + 1
  part-few w = let e = w.ends in let h = hex_length (take count output) in let s = take_short count output in omega arith

  module _ {kept : Bool} (w : Placed out at (written_column count output) o₁ p) (k : kept ≡ all_are byte_fill (drop count output)) where
    pub output-kept : kept ≡ true → Placed out at (output_column count output) o₁ p
    unfolding output_column
    output-kept y = renamed (sym (append-nil (written_column count output)) ∙ simp (sym k, y)) w

    pub output_lost : {o₂ : List ℕ} {q : ℕ} → kept ≡ false → Placed o₁ p (33 ∷ []) o₂ q → Placed out at (output_column count output) o₂ q
    unfolding output_column
    output_lost n b = renamed (simp (sym k, n)) (placed_then w b)

-- ---- the line

module _ (budget : ℕ) {out o₁ o₂ : List ℕ} {at p q : ℕ} where
  pub buffers_placed : (len : ℕ) (table output : List ℕ) → Placed out at (table_column budget table) o₁ p → Placed o₁ p (output_column len output) o₂ q
      → Placed out at (buffer_columns budget len table output) o₂ q
  unfolding buffer_columns
  buffers_placed len table output a b = placed_then a b

  pub columns_placed : (r : Result) → Placed out at (number_columns r.answer) o₁ p → Placed o₁ p (buffer_columns budget r.answer.len r.table r.output) o₂ q
      → Placed out at (answer_columns budget r) o₂ q
  unfolding answer_columns
  columns_placed r a b = placed_then a b

  pub line_placed : (r : Result) → Placed out at (answer_columns budget r) o₁ p → Placed o₁ p (10 ∷ []) o₂ q → Placed out at (answer_line budget r) o₂ q
  unfolding answer_line
  line_placed r a b = placed_then a b

-- ---- the summary

module _ (w : List ℕ) where
  pub front-none : length w < 2 → take (length w) w ≡ summary_front w
  unfolding summary_front
  front-none h = take_all (length w) w (omega arith) ∙ sym (take_all (2 + 2 * get_or w 1 0) w (omega arith))

  pub front-part : {n m : ℕ} → n ≡ 2 + 2 * get_or w 1 0 → m ≡ min n (length w) → take m w ≡ summary_front w
  unfolding summary_front
  front-part {n} e f = ap (λ (k : ℕ). take k w) f ∙ take_min n w ∙ ap (λ (k : ℕ). take k w) e

module _ (code : ℕ) (w : List ℕ) {out o₁ : List ℕ} {at p : ℕ} where
  pub summary-refused : (code ≡ 0 → ⊥) → Placed out at (45 ∷ []) o₁ p → Placed out at (summary_column code w) o₁ p
  unfolding summary_column
  summary-refused n a = renamed (simp (ne_eqb code 0 n)) a

  pub summary-spelled : (n : ℕ) → code ≡ 0 → take n w ≡ summary_front w → Placed out at (hex_of (bytes_of_words (take n w))) o₁ p → Placed out at (summary_column code w) o₁ p
  unfolding summary_column
  summary-spelled n e f a = renamed (ap (λ (l : List ℕ). hex_of (bytes_of_words l)) f ∙ simp (eq-eqb code 0 e)) a

pub summary-few : (w : List ℕ) (n : ℕ) {out o₁ : List ℕ} {at p : ℕ} → Placed out at (hex_of (bytes_of_words (take n w))) o₁ p → p ≤ at + length w * 8 + 1
summary-few w n a = let e = a.ends in let h = hex_length (bytes_of_words (take n w)) in let b = bytes-length (take n w) in let s = take_short n w in omega arith

pub summary-room : (w : List ℕ) (n at room : ℕ) → at + length w * 8 + 1 ≤ room → at + length (take n w) * 8 ≤ room
summary-room w n at room h = let s = take_short n w in omega arith

pub replaced-placed : (budget : ℕ) (r : Result) (w : List ℕ) {out o₁ o₂ o₃ o₄ : List ℕ} {at p q t e : ℕ} → Placed out at (answer_columns budget r) o₁ p → Placed o₁ p (32 ∷ []) o₂ q
    → Placed o₂ q (summary_column r.answer.code w) o₃ t → Placed o₃ t (10 ∷ []) o₄ e → Placed out at (replace_line budget r w) o₄ e
unfolding replace_line
replaced-placed budget r w a b c d = placed_then a (placed_then b (placed_then c d))

pub ruleset printing_laws = (number-placed, placed_then, numbers-placed, table_kept, table-clear, table-bad, part_room, written_none, written-part, all-few, part-few, kept_past, kept-rest, part-long, output-kept, output_lost, buffers_placed, columns_placed, line_placed)

pub ruleset summary_laws = (front-none, front-part, summary-refused, summary-spelled, summary-few, summary-room)
