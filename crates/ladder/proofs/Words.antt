-- Code that fits is read back from its words.
use Prim.Native.Nat.{ℕ, ◌+◌, ◌*◌, ◌/◌, ◌%◌, ◌≤◌, ◌<◌}
use mathlib.Core.Path.{◌≡◌, refl, ap₂, ◌∙◌}
use mathlib.Core.List.{List, [], ◌∷◌, map}
use native.Mathlib.Omega.{arith}
use Rattle.ladder.specs.Code.{Join, load, series, parallel, Instruction, contact, bit_contact, join, inverse, coil, bit_coil, operands, join_number, join_what, what_of, operand_of, word_of}
use Rattle.ladder.specs.Running.{instruction_by, instruction_of, instructions_of, height_after, Reaches, Fits}

what_back : (w x : ℕ) → x < operands → (w * operands + x) / operands ≡ w
what_back w x h = omega arith

operand_back : (w x : ℕ) → x < operands → (w * operands + x) % operands ≡ x
operand_back w x h = omega arith

contact_back : (j : Join) (x : ℕ) → instruction_by (join_number j) x ≡ contact j x
unfolding instruction_by join_number
contact_back load x = refl
contact_back series x = refl
contact_back parallel x = refl

bit_contact_back : (j : Join) (a : ℕ) → instruction_by (3 + join_number j) a ≡ bit_contact j a
unfolding instruction_by join_number
bit_contact_back load a = refl
bit_contact_back series a = refl
bit_contact_back parallel a = refl

join_back : (j : Join) → instruction_by (join_what j) 0 ≡ join j
unfolding instruction_by join_what
join_back load = refl
join_back series = refl
join_back parallel = refl

by_back : (i : Instruction) → instruction_by (what_of i) (operand_of i) ≡ i
unfolding instruction_by what_of operand_of
by_back (contact j x) = contact_back j x
by_back (bit_contact j a) = bit_contact_back j a
by_back (join j) = join_back j
by_back inverse = refl
by_back (coil x) = refl
by_back (bit_coil a) = refl

module _ (bits : ℕ) (few : bits ≤ operands) where
  operand_small : (i : Instruction) → Reaches bits i → operand_of i < operands
  unfolding operand_of
  operand_small (contact j x) h = h
  operand_small (bit_contact j a) h = omega arith
  operand_small (join j) h = omega arith
  operand_small inverse h = omega arith
  operand_small (coil x) h = h
  operand_small (bit_coil a) h = omega arith

  word_back : (i : Instruction) → Reaches bits i → instruction_of (word_of i) ≡ i
  unfolding instruction_of word_of
  word_back i h =
      let s = operand_small i h in
      ap₂ instruction_by (what_back (what_of i) (operand_of i) s) (operand_back (what_of i) (operand_of i) s) ∙ by_back i

  pub words_back : (height : ℕ) (l : List Instruction) → Fits bits height l → instructions_of (map word_of l) ≡ l
  unfolding instructions_of
  words_back height [] f = refl
  words_back height (i ∷ l) f = ap₂ (λ (x : Instruction) (y : List Instruction). x ∷ y) (word_back i f.0) (words_back (height_after i height) l f.2)
