-- T-01: what the panel check says of a tree that it accepts, and that name and address are one-to-one.
use Rattle.std.specs.Prelude.{ℕ, ◌*◌, ◌≤◌, ◌<◌, ◌≡◌, true, List, [], ◌++◌, length, get_or, drop}
use Rattle.model.specs.Trees.{Tree}
use Rattle.model.specs.Reading.{got, Image, read_tree_image, read_image}
use Rattle.model.specs.Meanings.{is_among}
use Rattle.model.specs.Jobs.{closed}
use Rattle.addresses.specs.OneNameOneAddress.{AllDifferent}
use Rattle.requests.specs.Panel.{is_program, driven, bits_of, most_bits, panel_job}

-- the names of bits in order of address: each address has the name that stands there
pub record OneToOne (names : List ℕ) : Type 0 where
  -- each name has an address
  pub address : (n : ℕ) → is_among n names ≡ true → (a : ℕ) × (a < length names) × (get_or names a 0 ≡ n)
  -- and only one
  pub only : (a c : ℕ) → a < length names → c < length names → get_or names a 0 ≡ get_or names c 0 → a ≡ c

-- what code 0 of the panel check says
pub record Accepted (image bits : List ℕ) : Type 0 where
  pub read : Image Tree
  pub rest : List ℕ
  pub read_is : read_image read_tree_image image ≡ got read rest
  pub owned : closed [] read.root ≡ true
  pub program : is_program read.root ≡ true
  -- every point is driven at most once
  pub driven_once : AllDifferent (driven read.root)
  pub few : length (bits_of read.root) ≤ most_bits
  pub room : length (bits_of read.root) ≤ length bits
  pub bits_are : (panel_job image bits).bits ≡ bits_of read.root ++ drop (length (bits_of read.root)) bits
  pub length-is : (panel_job image bits).answer.len ≡ 4 * length (bits_of read.root)
