-- The count of lines and columns, by the tests that the code makes.
use Prim.Native.Nat.{ℕ, ◌+◌, ◌≤◌, ◌<◌}
use mathlib.Core.Path.{◌≡◌, refl, sym, ap, ◌∙◌}
use mathlib.Core.Bool.{Bool, true, false, not}
use mathlib.Core.List.{List, ◌∷◌}
use native.Mathlib.Omega.{arith}
use native.Mathlib.Numerals.{add-one}
use lib.ListN.{length, drop, get_or, drop_of_length-le}
use lib.Seq.{drop-cons, get_or-drop}
use lib.Dec.{eqb}
use borrow.Author.Tests.{ne_eqb}
use Rattle.model.specs.Choice.{when◌then◌else◌}
use Rattle.text_image.specs.Places.{ends_line, place_from}

module _ (b next : ℕ) where
  pub ends_cr : b ≡ 13 → not (eqb next 10) ≡ ends_line b next
  unfolding ends_line
  ends_cr e = rw e

  pub ends_lf : (b ≡ 13 → ⊥) → eqb b 10 ≡ ends_line b next
  unfolding ends_line
  ends_lf n = rw (ne_eqb b 13 n)

next-is : (s : List ℕ) (i : ℕ) → get_or (drop (i + 1) s) 0 0 ≡ get_or s (i + 1) 0
next-is s i = get_or-drop (i + 1) s 0 0 ∙ ap (λ (k : ℕ). get_or s k 0) (omega arith)

after-byte : (line column b : ℕ) (s : List ℕ) → place_from line column (b ∷ s) ≡ (when ends_line b (get_or s 0 0) then place_from (line + 1) 1 s else place_from line (column + 1) s)
unfolding place_from ends_line
after-byte line column b s = refl

-- before byte i the place is this one
pub record Counting (s : List ℕ) (line column i : ℕ) : Type 0 where
  pub within : i ≤ length s
  pub lines : line ≤ i + 1
  pub columns : column ≤ i + 1
  pub so_far : place_from line column (drop i s) ≡ place_from 1 1 s

module _ {s : List ℕ} {line column i : ℕ} (c : Counting s line column i) where
  pub counted : length s ≤ i → record { line = line; column = column } ≡ place_from 1 1 s
  unfolding place_from
  counted h = sym (ap (place_from line column) (drop_of_length-le s h)) ∙ c.so_far

  module _ (h : i < length s) {next : ℕ} (n : next ≡ get_or s (i + 1) 0) {e : Bool} (q : e ≡ ends_line (get_or s i 0) next) where
    step : place_from line column (drop i s) ≡ (when e then place_from (line + 1) 1 (drop (i + 1) s) else place_from line (column + 1) (drop (i + 1) s))
    step =
        ap (place_from line column) (drop-cons s i 0 h ∙ ap (λ (k : ℕ). get_or s i 0 ∷ drop k s) (sym (add-one i)))
        ∙ after-byte line column (get_or s i 0) (drop (i + 1) s)
        ∙ ap (λ (k : Bool). when k then place_from (line + 1) 1 (drop (i + 1) s) else place_from line (column + 1) (drop (i + 1) s)) (ap (ends_line (get_or s i 0)) (next-is s i ∙ sym n) ∙ sym q)

    pub count_line : e ≡ true → Counting s (line + 1) 1 (i + 1)
    count_line y =
        let l = c.lines in
        record { within = omega arith; lines = omega arith; columns = omega arith; so_far = sym (step ∙ rw y) ∙ c.so_far }

    pub count_column : e ≡ false → Counting s line (column + 1) (i + 1)
    count_column m =
        let l = c.lines in
        let k = c.columns in
        record { within = omega arith; lines = omega arith; columns = omega arith; so_far = sym (step ∙ rw m) ∙ c.so_far }
