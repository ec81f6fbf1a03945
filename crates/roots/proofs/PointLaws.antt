-- Points read, by the tests that the code makes.
use Prim.Native.Nat.{ℕ, ◌+◌}
use mathlib.Core.Path.{◌≡◌, sym, ◌∙◌}
use mathlib.Core.List.{List}
use lib.ListN.{length}
use Rattle.std.specs.Prelude.{Result, Ok, Err}
use Rattle.model.specs.Limits.{last_point}
use Rattle.model.specs.Refusals.{over_limit}
use Rattle.model.specs.Reading.{num_up_to}
use Rattle.refusals.specs.declared.Refusal.{Refusal}
use Rattle.numbers.specs.declared.Cursor.{Cursor}
use Rattle.numbers.specs.Answers.{read_at, seen}
use Rattle.scopes.specs.declared.Point.{Point}
use Rattle.roots.specs.Points.{number_of}

module _ (at : ℕ) (s : List ℕ) {q : Result (ℕ × Cursor) Refusal} (h : q ≡ read_at (at + length s) (num_up_to over_limit 1023 s)) where
  pub point-read : {n : ℕ} {past : Cursor} → q ≡ Ok (n, past) → Ok (n, past) ≡ read_at (at + length s) (num_up_to over_limit last_point s)
  unfolding last_point
  point-read e = sym e ∙ h

  pub point-refused : {f : Refusal} {x : Result (Point × Cursor) Refusal} → q ≡ Err f → x ≡ Err f → seen number_of x ≡ read_at (at + length s) (num_up_to over_limit last_point s)
  unfolding last_point
  point-refused e y = rw y (sym e ∙ h)
