-- The line's parts one behind another.
use mathlib.Core.Path.{◌≡◌, sym, ap, ◌∙◌, subst}
use Prim.Native.Nat.{ℕ, ◌≤◌}
use native.Mathlib.Nat.{zero-add}
use native.Mathlib.Omega.{arith}
use mathlib.Core.List.{List, [], ◌∷◌, ◌++◌, append_assoc}
use lib.ListN.{length, length-append}
use lib.Seq.{sets-eq, length-take-le}
use Rattle.model.specs.Jobs.{Line, digits, line_bytes}
use Rattle.text.specs.Placing.{Placed}
use Rattle.text.proofs.Placing.{placed_then, placed-length}
use Rattle.text.proofs.Decimal.{digits-before, few-digits}
use Rattle.expander.specs.Bytes.{Printed}

abbrev code-word : List ℕ
code-word = 99 ∷ 111 ∷ 100 ∷ 101 ∷ 32 ∷ []

abbrev units-word : List ℕ
units-word = 32 ∷ 117 ∷ 110 ∷ 105 ∷ 116 ∷ 115 ∷ 32 ∷ []

abbrev line_end_lem : List ℕ
line_end_lem = 10 ∷ []

parts : (code units : ℕ) → (code-word ++ digits 10 code []) ++ (units-word ++ digits 10 units []) ++ line_end_lem
    ≡ line_bytes (record { code = code; units = units })
unfolding line_bytes
parts code units =
    simp append_assoc (ap (λ (l : List ℕ). code-word ++ l)
    (ap (λ (l : List ℕ). digits 10 code [] ++ (units-word ++ l)) (sym (digits-before 10 units line_end_lem))
    ∙ sym (digits-before 10 code (units-word ++ digits 10 units line_end_lem))))

-- at the start of a buffer with room
at-start : {out bytes out' : List ℕ} {n : ℕ} → Placed out 0 bytes out' n → length bytes ≤ length out → Printed bytes out out' n
at-start {out} {bytes} {out'} {n} w h =
    let e : n ≡ length bytes = (let p = w.ends in omega arith) in
    let b : n ≤ length out' = (let s = placed-length w in omega arith) in
    record {
      count = e;
      is = w.is ∙ sets-eq bytes out 0 (omega arith) ∙ simp zero-add;
      within = b;
      long = sym (length-take-le n out' b);
    }

module _ (code units : ℕ) {o₀ o₁ o₂ o₃ : List ℕ} {p₁ p₂ p₃ : ℕ} where
  pub line_printed : Placed o₀ 0 (code-word ++ digits 10 code []) o₁ p₁ → Placed o₁ p₁ (units-word ++ digits 10 units []) o₂ p₂
      → Placed o₂ p₂ line_end_lem o₃ p₃ → 33 ≤ length o₀ → Printed (line_bytes (record { code = code; units = units })) o₀ o₃ p₃
  line_printed a b c h =
      let w = placed_then (placed_then a b) c in
      let f = few-digits 10 code in let g = few-digits 10 units in
      let s = simp length-append at (sym (ap length (parts code units))) in
      at-start (subst (λ (l : List ℕ). Placed o₀ 0 l o₃ p₃) (parts code units) w) (omega arith)

pub printed_of : {l l' : Line} {out out' : List ℕ} {n : ℕ} → Printed (line_bytes l) out out' n → l ≡ l' → Printed (line_bytes l') out out' n
printed_of {out = out} {out'} {n} w e = subst (λ (b : Line). Printed (line_bytes b) out out' n) e w

pub code_of : {l l' : Line} → l ≡ l' → l.code ≡ l'.code
code_of e = ap (λ (l : Line). l.code) e

pub ruleset bytes_laws = (line_printed, placed-length, printed_of, code_of)
