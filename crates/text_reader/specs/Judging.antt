-- 26 and 27, as the code answers them.
use Rattle.std.specs.Prelude.{ℕ, ◌≤◌, ◌≡◌, Bool, false, List, length, Result, Ok, Err}
use Rattle.std.proofs.Math.Option.{Option, none, some}
use Rattle.requests.specs.Tokens.{tokens}
use Rattle.requests.specs.FromText as t
use Rattle.requests.specs.FromText.{at_last, judged}
use Rattle.text_endings.specs.Ending.{text_refusal_of}
use Rattle.text_reader.specs.declared.judging.Fault.{Fault}

abbrev pub fault_of : Result (Unit {0}) Fault → Option t.TextRefusal
fault_of (Ok u) = none
fault_of (Err f) = some (text_refusal_of f.refusal)

abbrev pub place_of : Result (Unit {0}) Fault → ℕ
place_of (Ok u) = 0
place_of (Err f) = f.at

pub record Lasts (depth : ℕ) (begun : Bool) (at : ℕ) (r : Result (Unit {0}) Fault) : Type 0 where
  pub is : fault_of r ≡ at_last depth begun
  pub place : place_of r ≤ at

pub record Judges (text : List ℕ) (r : Result (Unit {0}) Fault) : Type 0 where
  pub is : fault_of r ≡ judged 0 false (tokens text)
  pub inside : place_of r ≤ length text
