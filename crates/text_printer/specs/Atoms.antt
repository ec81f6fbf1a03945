-- The text of an atom, by its tag and its content.
use Rattle.std.specs.Prelude.{ℕ, zero, suc, ◌+◌, ◌≤◌, ◌<◌, ◌≡◌, List, [], ◌∷◌, length, get_or}
use Rattle.model.specs.Jobs.{digits}
use Rattle.requests.specs.ToText.{rung_text}
use Rattle.text_printer.specs.Spelling.{spelling, Spelled}

unfoldable pub atom_text : List (List ℕ) → ℕ → ℕ → List ℕ
unfolding digits rung_text
atom_text all zero x = get_or all x []
atom_text all (suc zero) x = digits 10 x []
atom_text all (suc (suc zero)) x = 64 ∷ digits 10 x []
atom_text all (suc (suc (suc zero))) x = 35 ∷ digits 10 x []
atom_text all (suc (suc (suc (suc t)))) x = 39 ∷ rung_text x

-- a symbol is declared
pub record Printable (image starts : List ℕ) (n tag content : ℕ) : Type 0 where
  pub words : Spelled image starts n
  pub declared : tag ≡ 0 → content < 4 + n

pub record AtomRoom (out : List ℕ) (at : ℕ) (image starts : List ℕ) (n tag content : ℕ) : Type 0 where
  pub printable : Printable image starts n tag content
  pub room : at + length (atom_text (spelling image starts n) tag content) ≤ length out
