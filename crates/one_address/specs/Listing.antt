-- T-01 behind condition 3, of the answers that the public functions give.
use Rattle.std.specs.Prelude.{ℕ, ◌*◌, ◌≡◌, List, length, take}
use Rattle.model.specs.Jobs.{Answer}
use Rattle.addresses.specs.OneNameOneAddress.{AllDifferent, OneNameOneAddress}
use Rattle.requests.specs.OneToOne.{OneToOne}

-- the names in the words lent: one address for each name, and one name for each address
pub record OneAddressEach (bits : List ℕ) (a : Answer) : Type 0 where
  pub names : List ℕ
  pub listed : take (length names) bits ≡ names
  pub length-is : a.len ≡ 4 * length names
  pub different : AllDifferent names
  pub one_to_one : OneToOne names

-- of the image written for a program that expanding accepts, parsed and checked
pub record Lists (expanded bits : List ℕ) (a : Answer) : Type 0 where
  pub each : {image : List ℕ} → OneNameOneAddress image expanded → a.code ≡ 0 → OneAddressEach bits a

-- of a program
pub record Addresses (bits : List ℕ) (a : Answer) : Type 0 where
  pub each : a.code ≡ 0 → OneAddressEach bits a
