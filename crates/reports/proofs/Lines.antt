-- The parts of the report's lines, and its lines, one behind another.
use mathlib.Core.Path.{◌≡◌, refl, sym, ap, ◌∙◌, subst}
use Prim.Native.Nat.{ℕ, zero, suc, ◌+◌, ◌*◌, ◌/◌, ◌%◌, ◌≤◌, ◌<◌}
use native.Mathlib.Nat.{zero-add}
use native.Mathlib.Omega.{arith}
use native.Mathlib.Numerals.{add-one}
use mathlib.Core.Bool.{Bool, true, false}
use mathlib.Core.Option.{some}
use mathlib.Core.List.{List, [], ◌∷◌, ◌++◌, append_assoc, append-nil}
use lib.ListN.{length, get_or}
use Rattle.model.specs.Jobs.{digits}
use Rattle.text.specs.Placing.{Placed}
use Rattle.text.proofs.Placing.{placed_then, placed-length}
use Rattle.text.proofs.Decimal.{digits-before, few-digits}
use Rattle.requests.specs.Report.{last_code, code_line, code_lines, units_line, mean_line, report_of, cut_line}
use Rattle.reports.specs.declared.totals.Sums.{Sums}
use Rattle.reports.specs.declared.division.Reading.{Reading}
use Rattle.reports.specs.Dividing.{is_between}
use Rattle.reports.specs.Totals.{codes, Totals, totals_of, ended, reported}
use Rattle.reports.specs.Texts.{longest_line, first_codes}

-- ---- a word and a number

module _ {out word out₁ : List ℕ} {at p : ℕ} (n : ℕ) (w : Placed out at word out₁ p) where
  pub number-room : at + length word + 20 ≤ length out → p + length (digits 20 n []) ≤ length out₁
  number-room h = let f = few-digits 20 n in let e = w.ends in let l = placed-length w in omega arith

  pub number-few : {out₂ : List ℕ} {q : ℕ} → Placed out₁ p (digits 20 n []) out₂ q → q ≤ at + length word + 20
  number-few v = let f = few-digits 20 n in let e = w.ends in let g = v.ends in omega arith

-- ---- lines

abbrev code-word : List ℕ
code-word = 99 ∷ 111 ∷ 100 ∷ 101 ∷ 32 ∷ []

abbrev units-word : List ℕ
units-word = 117 ∷ 110 ∷ 105 ∷ 116 ∷ 115 ∷ 32 ∷ []

abbrev mean_word : List ℕ
mean_word = 109 ∷ 101 ∷ 97 ∷ 110 ∷ 32 ∷ []

abbrev space : List ℕ
space = 32 ∷ []

abbrev line_end_lem : List ℕ
line_end_lem = 10 ∷ []

-- a word and two numbers, and what is behind them
two-numbers : (word : List ℕ) (m n : ℕ) (after : List ℕ) → (word ++ digits 20 m []) ++ (space ++ digits 20 n []) ++ line_end_lem ++ after
    ≡ word ++ digits 20 m (32 ∷ digits 20 n (10 ∷ after))
two-numbers word m n after =
    simp append_assoc (ap (λ (l : List ℕ). word ++ l)
    (ap (λ (l : List ℕ). digits 20 m [] ++ (space ++ l)) (sym (digits-before 20 n (line_end_lem ++ after)))
    ∙ sym (digits-before 20 m (space ++ digits 20 n (line_end_lem ++ after)))))

two-alone : (word : List ℕ) (m n : ℕ) → (word ++ digits 20 m []) ++ (space ++ digits 20 n []) ++ line_end_lem ≡ word ++ digits 20 m (32 ∷ digits 20 n (10 ∷ []))
two-alone word m n = sym (append-nil ((word ++ digits 20 m []) ++ (space ++ digits 20 n []) ++ line_end_lem)) ∙ two-numbers word m n []

module _ {o₀ o₁ o₂ o₃ : List ℕ} {at p₁ p₂ p₃ : ℕ} (m n : ℕ) where
  two-placed : (word : List ℕ) → Placed o₀ at (word ++ digits 20 m []) o₁ p₁ → Placed o₁ p₁ (space ++ digits 20 n []) o₂ p₂
      → Placed o₂ p₂ line_end_lem o₃ p₃ → Placed o₀ at (word ++ digits 20 m (32 ∷ digits 20 n (10 ∷ []))) o₃ p₃
  two-placed word a b c =
      subst (λ (l : List ℕ). Placed o₀ at l o₃ p₃) (two-alone word m n) (placed_then (placed_then a b) c)

  pub code-placed : Placed o₀ at (code-word ++ digits 20 m []) o₁ p₁ → Placed o₁ p₁ (space ++ digits 20 n []) o₂ p₂ → Placed o₂ p₂ line_end_lem o₃ p₃
      → (n ≡ 0 → ⊥) → Placed o₀ at (code_line m n []) o₃ p₃
  unfolding code_line
  code-placed a b c h = subst (λ (l : List ℕ). Placed o₀ at l o₃ p₃) (is n h) (two-placed code-word a b c)
    where
      is : (n : ℕ) → (n ≡ 0 → ⊥) → code-word ++ digits 20 m (32 ∷ digits 20 n (10 ∷ [])) ≡ code_line m n []
      is zero h = absurd (h refl)
      is (suc k) h = refl

pub two-few : {o₂ o₃ : List ℕ} {p₁ p₂ p₃ : ℕ} (at : ℕ) → p₁ ≤ at + length code-word + 20 → p₂ ≤ p₁ + length space + 20 → Placed o₂ p₂ line_end_lem o₃ p₃
    → p₃ ≤ at + longest_line
two-few at a b c = let e = c.ends in omega arith

pub code-none : (out : List ℕ) (at c n : ℕ) → n ≡ 0 → Placed out at (code_line c n []) out at
unfolding code_line
code-none out at c n e = rw e (record { ends = omega arith; is = refl })

module _ {o₀ o₁ o₂ : List ℕ} {at p₁ p₂ : ℕ} (n : ℕ) where
  pub units-placed : Placed o₀ at (units-word ++ digits 20 n []) o₁ p₁ → Placed o₁ p₁ line_end_lem o₂ p₂ → Placed o₀ at (units_line n []) o₂ p₂
  unfolding units_line
  units-placed a b =
      subst (λ (l : List ℕ). Placed o₀ at l o₂ p₂)
      (append_assoc units-word (digits 20 n []) line_end_lem ∙ ap (λ (l : List ℕ). units-word ++ l) (sym (digits-before 20 n line_end_lem))) (placed_then a b)

-- ---- the mean

pub mean_none : {out out' : List ℕ} {at p : ℕ} (images units : ℕ) → images ≡ 0 → Placed out at (109 ∷ 101 ∷ 97 ∷ 110 ∷ 32 ∷ 110 ∷ 111 ∷ 110 ∷ 101 ∷ 10 ∷ []) out' p
    → Placed out at (mean_line images units) out' p
unfolding mean_line
mean_none images units e w = rw e w

module _ {o₀ o₁ o₂ o₃ : List ℕ} {at p₁ p₂ p₃ : ℕ} (images units : ℕ) where
  pub mean_placed : (images ≡ 0 → ⊥) → Placed o₀ at (mean_word ++ digits 20 (units / images) []) o₁ p₁
      → Placed o₁ p₁ (space ++ digits 20 (units % images) []) o₂ p₂ → Placed o₂ p₂ line_end_lem o₃ p₃ → Placed o₀ at (mean_line images units) o₃ p₃
  unfolding mean_line
  mean_placed h a b c = subst (λ (l : List ℕ). Placed o₀ at l o₃ p₃) (is images h) (two-placed (units / images) (units % images) mean_word a b c)
    where
      is : (i : ℕ) → (i ≡ 0 → ⊥) → mean_word ++ digits 20 (units / i) (32 ∷ digits 20 (units % i) (10 ∷ [])) ≡ mean_line i units
      is zero h = absurd (h refl)
      is (suc k) h = refl

-- ---- the lines of the codes

code-after : (c n : ℕ) (after : List ℕ) → code_line c n after ≡ code_line c n [] ++ after
unfolding code_line
code-after c zero after = refl
code-after c (suc n) after =
    sym (two-numbers code-word c (suc n) after)
    ∙ ap (λ (l : List ℕ). l ++ after) (two-alone code-word c (suc n))

codes-after : (k c : ℕ) (times : ℕ → ℕ) (after : List ℕ) → code_lines k c times after ≡ code_lines k c times [] ++ after
unfolding code_lines
codes-after zero c times after = refl
codes-after (suc k) c times after =
    ap (code_line c (times c)) (codes-after k (suc c) times after)
    ∙ code-after c (times c) (code_lines k (suc c) times [] ++ after)
    ∙ sym (append_assoc (code_line c (times c) []) (code_lines k (suc c) times []) after)
    ∙ ap (λ (l : List ℕ). l ++ after) (sym (code-after c (times c) (code_lines k (suc c) times [])))

one_more_code : (k c : ℕ) (times : ℕ → ℕ) → code_lines (suc k) c times [] ≡ code_lines k c times [] ++ code_line (c + k) (times (c + k)) []
unfolding code_lines
one_more_code zero c times = let e : c + 0 ≡ c = omega arith in rw e
one_more_code (suc k) c times =
    let e : c + suc k ≡ suc c + k = omega arith in
    ap (code_line c (times c)) (one_more_code k (suc c) times)
    ∙ code-after c (times c) (code_lines k (suc c) times [] ++ code_line (suc c + k) (times (suc c + k)) [])
    ∙ sym (append_assoc (code_line c (times c) []) (code_lines k (suc c) times []) (code_line (suc c + k) (times (suc c + k)) []))
    ∙ ap (λ (l : List ℕ). l ++ code_line (suc c + k) (times (suc c + k)) []) (sym (code-after c (times c) (code_lines k (suc c) times [])))
    ∙ ap (λ (j : ℕ). code_line c (times c) (code_lines k (suc c) times []) ++ code_line j (times j) []) (sym e)

-- where the lines of the first i codes are placed
pub record Listing (out₀ counts out : List ℕ) (to i : ℕ) : Type 0 where
  pub within : i ≤ codes
  pub few : to ≤ i * longest_line
  pub placed : Placed out₀ 0 (first_codes i counts) out to

pub listing_begun : {out counts : List ℕ} → Listing out counts out 0 0
unfolding first_codes code_lines
listing_begun = record { within = omega arith; few = omega arith; placed = record { ends = refl; is = refl } }

module _ {out₀ counts out : List ℕ} {to i : ℕ} (w : Listing out₀ counts out to i) where
  pub listing_room : codes * longest_line ≤ length out₀ → i < codes → to + longest_line ≤ length out
  listing_room h l = let f = w.few in let e = placed-length w.placed in omega arith

  pub listing_more : {out' : List ℕ} {p : ℕ} → i < codes → Placed out to (code_line i (get_or counts i 0) []) out' p → p ≤ to + longest_line
      → Listing out₀ counts out' p (i + 1)
  unfolding first_codes
  listing_more {out'} {p} l v f =
      let g = w.few in
      record {
        within = omega arith;
        few = omega arith;
        placed = subst (λ (b : List ℕ). Placed out₀ 0 b out' p)
            (ap (λ (j : ℕ). code_lines i 0 (λ c. get_or counts c 0) [] ++ code_line j (get_or counts j 0) []) (sym (zero-add i))
            ∙ sym (one_more_code i 0 (λ c. get_or counts c 0)) ∙ ap (λ (j : ℕ). code_lines j 0 (λ c. get_or counts c 0) []) (sym (add-one i)))
            (placed_then w.placed v);
      }

  pub listing_whole : codes ≤ i → Placed out₀ 0 (first_codes codes counts) out to
  listing_whole h = let l = w.within in let e : i ≡ codes = omega arith in subst (λ (j : ℕ). Placed out₀ 0 (first_codes j counts) out to) e w.placed

  pub listing_few : codes ≤ i → to ≤ codes * longest_line
  listing_few h = let l = w.within in let f = w.few in omega arith

-- ---- the report

units-after : (n : ℕ) (after : List ℕ) → units_line n after ≡ units_line n [] ++ after
unfolding units_line
units-after n after =
    ap (λ (l : List ℕ). units-word ++ l)
    (digits-before 20 n (10 ∷ after) ∙ sym (append_assoc (digits 20 n []) line_end_lem after) ∙ ap (λ (l : List ℕ). l ++ after) (sym (digits-before 20 n line_end_lem)))

module _ {o₀ o₁ o₂ o₃ : List ℕ} {p₁ p₂ p₃ : ℕ} (counts : List ℕ) (s : Sums) where
  pub report-placed : Placed o₀ 0 (first_codes codes counts) o₁ p₁ → Placed o₁ p₁ (units_line s.units []) o₂ p₂
      → Placed o₂ p₂ (mean_line s.images s.units) o₃ p₃ → Placed o₀ 0 (reported (some (totals_of s counts))) o₃ p₃
  unfolding first_codes reported report_of last_code
  report-placed a b c =
      subst (λ (l : List ℕ). Placed o₀ 0 l o₃ p₃)
      (append_assoc (first_codes codes counts) (units_line s.units []) (mean_line s.images s.units)
      ∙ ap (λ (l : List ℕ). first_codes codes counts ++ l) (sym (units-after s.units (mean_line s.images s.units)))
      ∙ sym (codes-after codes 0 (λ c. get_or counts c 0) (units_line s.units (mean_line s.images s.units))))
      (placed_then (placed_then a b) c)

module _ {out out' : List ℕ} {p : ℕ} (here : Reading) (t : Totals) {b : Bool} (e : b ≡ is_between here) where
  pub ended-whole : b ≡ true → Placed out 0 (reported (some t)) out' p → Placed out 0 (reported (ended here t)) out' p
  unfolding ended
  ended-whole h w = rw (sym e ∙ h) w

  pub ended-cut : b ≡ false → Placed out 0 (99 ∷ 117 ∷ 116 ∷ 10 ∷ []) out' p → Placed out 0 (reported (ended here t)) out' p
  unfolding ended reported cut_line
  ended-cut h w = rw (sym e ∙ h) w

pub ruleset line_laws = (number-room, number-few, placed_then, placed-length, code-placed, two-few, code-none, units-placed, mean_none, mean_placed, listing_begun, listing_room, listing_more, listing_whole, listing_few, report-placed, ended-whole, ended-cut)
