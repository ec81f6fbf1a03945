-- Words for a choice, used by all definitions: no section of document 01.
use Rattle.std.specs.Prelude.{Bool, true, false}
use Rattle.std.proofs.Math.Option.{Option, none, some}

infixr 20 when◌then◌else◌
abbrev pub when◌then◌else◌ {ℓ} : {A : Type ℓ} → Bool → A → A → A
when◌then◌else◌ true a b = a
when◌then◌else◌ false a b = b

-- f of what is there
abbrev pub given {ℓ κ} : {A : Type ℓ} {B : Type κ} → Option A → (A → Option B) → Option B
given none f = none
given (some a) f = f a
