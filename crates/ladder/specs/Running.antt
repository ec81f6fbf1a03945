-- Running code: values of branches under way, the last first, and the state that contacts read and coils write.
use Rattle.std.specs.Prelude.{ℕ, zero, suc, ◌-◌, ◌/◌, ◌%◌, ◌<◌, List, [], ◌∷◌, get_or}
use Rattle.requests.specs.Scanning.{State, both, either, opposite, write_point, write_bit}
use Rattle.ladder.specs.Code.{Join, load, series, parallel, Instruction, contact, bit_contact, join, inverse, coil, bit_coil, operands}

pub record Running : Type 0 where
  pub values : List ℕ
  pub state : State

unfoldable pub top_of : List ℕ → ℕ
top_of [] = 0
top_of (v ∷ l) = v

unfoldable pub rest_of : List ℕ → List ℕ
rest_of [] = []
rest_of (v ∷ l) = l

unfoldable pub taken : Join → ℕ → List ℕ → List ℕ
unfolding both either top_of rest_of
taken load v l = v ∷ l
taken series v l = both (top_of l) v ∷ rest_of l
taken parallel v l = either (top_of l) v ∷ rest_of l

unfoldable pub step : Instruction → Running → Running
unfolding taken top_of rest_of opposite write_point write_bit
step (contact j x) r = record { values = taken j (get_or r.state.points x 0) r.values; state = r.state }
step (bit_contact j a) r = record { values = taken j (get_or r.state.bits a 0) r.values; state = r.state }
step (join j) r = record { values = taken j (top_of r.values) (rest_of r.values); state = r.state }
step inverse r = record { values = opposite (top_of r.values) ∷ rest_of r.values; state = r.state }
step (coil x) r = record { values = rest_of r.values; state = write_point x (top_of r.values) r.state }
step (bit_coil a) r = record { values = rest_of r.values; state = write_bit a (top_of r.values) r.state }

unfoldable pub run : List Instruction → Running → Running
unfolding step
run [] r = r
run (i ∷ l) r = run l (step i r)

abbrev pub begun : State → Running
begun s = record { values = []; state = s }

-- ---- the instruction that a word is

unfoldable pub instruction_by : ℕ → ℕ → Instruction
instruction_by zero x = contact load x
instruction_by (suc zero) x = contact series x
instruction_by (suc (suc zero)) x = contact parallel x
instruction_by (suc (suc (suc zero))) x = bit_contact load x
instruction_by (suc (suc (suc (suc zero)))) x = bit_contact series x
instruction_by (suc (suc (suc (suc (suc zero))))) x = bit_contact parallel x
instruction_by (suc (suc (suc (suc (suc (suc zero)))))) x = join series
instruction_by (suc (suc (suc (suc (suc (suc (suc zero))))))) x = join parallel
instruction_by (suc (suc (suc (suc (suc (suc (suc (suc zero)))))))) x = inverse
instruction_by (suc (suc (suc (suc (suc (suc (suc (suc (suc zero))))))))) x = coil x
instruction_by (suc (suc (suc (suc (suc (suc (suc (suc (suc (suc zero)))))))))) x = bit_coil x
instruction_by (suc (suc (suc (suc (suc (suc (suc (suc (suc (suc (suc n))))))))))) x = join load

unfoldable pub instruction_of : ℕ → Instruction
unfolding instruction_by
instruction_of w = instruction_by (w / operands) (w % operands)

unfoldable pub instructions_of : List ℕ → List Instruction
unfolding instruction_of
instructions_of [] = []
instructions_of (w ∷ l) = instruction_of w ∷ instructions_of l

-- ---- code that fits: it takes no value where there is none, has at most 63 under way, and reaches only bits that there are

abbrev pub most_values : ℕ
most_values = 63

unfoldable pub height_after_join : Join → ℕ → ℕ
height_after_join load height = suc height
height_after_join series height = height
height_after_join parallel height = height

unfoldable pub height_after : Instruction → ℕ → ℕ
unfolding height_after_join
height_after (contact j x) height = height_after_join j height
height_after (bit_contact j a) height = height_after_join j height
height_after (join j) height = height - 1
height_after inverse height = height
height_after (coil x) height = height - 1
height_after (bit_coil a) height = height - 1

abbrev pub TakesJoin : Join → ℕ → Type 0
TakesJoin load height = height < most_values
TakesJoin series height = 0 < height
TakesJoin parallel height = 0 < height

-- there are values enough, and room for one more
abbrev pub Takes : Instruction → ℕ → Type 0
Takes (contact j x) height = TakesJoin j height
Takes (bit_contact j a) height = TakesJoin j height
Takes (join load) height = ⊥
Takes (join series) height = 1 < height
Takes (join parallel) height = 1 < height
Takes inverse height = 0 < height
Takes (coil x) height = 0 < height
Takes (bit_coil a) height = 0 < height

-- of so many bits
abbrev pub Reaches : ℕ → Instruction → Type 0
Reaches bits (contact j x) = x < operands
Reaches bits (bit_contact j a) = a < bits
Reaches bits (join j) = Unit {0}
Reaches bits inverse = Unit {0}
Reaches bits (coil x) = x < operands
Reaches bits (bit_coil a) = a < bits

abbrev pub Fits : ℕ → ℕ → List Instruction → Type 0
Fits bits height [] = Unit {0}
Fits bits height (i ∷ l) = Reaches bits i × Takes i height × Fits bits (height_after i height) l
