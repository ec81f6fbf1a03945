-- What the code answers for what a definition reads. The end of the image is the fixed point: the place past what was read is the
-- end less what is left.
use Rattle.std.specs.Prelude.{ℕ, ◌-◌, length, Result, Ok, Err}
use Rattle.model.specs.Reading as m
use Rattle.model.specs.Reading.{got, fault}
use Rattle.refusals.specs.Refusing.{case_of}
use Rattle.refusals.specs.declared.Refusal.{Refusal}
use Rattle.numbers.specs.declared.Cursor.{Cursor}

-- of an image that ends at the place `end`, `read` gives the answer where something was read
abbrev pub answer_at : {K A : Type 0} → (K → Cursor → A) → ℕ → m.Read K → Result A Refusal
answer_at read end (got k rest) = Ok (read k (record { at = end - length rest }))
answer_at read end (fault r) = Err (case_of r)

-- the value with the place past it
abbrev pub beside : {K : Type 0} → K → Cursor → K × Cursor
beside k c = (k, c)

abbrev pub read_at : {K : Type 0} → ℕ → m.Read K → Result (K × Cursor) Refusal
read_at end g = answer_at beside end g

-- what the code keeps of what was read
abbrev pub kept : {A K : Type 0} → (A → K) → m.Read A → m.Read K
kept v (got a rest) = got (v a) rest
kept v (fault r) = fault r

-- the place alone
abbrev pub placed : Unit {0} → Cursor → Cursor
placed u c = c

abbrev pub place_at : {A : Type 0} → ℕ → m.Read A → Result Cursor Refusal
place_at end g = answer_at placed end (kept (λ a. tt) g)

-- an answer with its value seen as `see` sees it
abbrev pub seen : {A K : Type 0} → (A → K) → Result (A × Cursor) Refusal → Result (K × Cursor) Refusal
seen see (Ok r) = Ok (see r.0, r.1)
seen see (Err f) = Err f
