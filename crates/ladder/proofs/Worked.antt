-- The words of a program that was read, and whose variables are owned, are ready to run; and running them works its rungs.
use Prim.Native.Nat.{ℕ, ◌≤◌}
use mathlib.Core.Path.{◌≡◌, ap, ◌∙◌}
use mathlib.Core.Bool.{true}
use mathlib.Core.List.{List, [], map}
use lib.ListN.{length}
use Rattle.model.specs.Limits.{most_nesting}
use Rattle.model.specs.Trees.{Tree, tnesting}
use Rattle.model.specs.Jobs.{closed}
use Rattle.codec_laws.specs.WellFormed.{TreeFits}
use Rattle.requests.specs.Panel.{bits_of, is_program}
use Rattle.requests.specs.Scanning.{State, work}
use Rattle.requests.specs.Binary.{BinaryState}
use Rattle.ladder.specs.Code.{Instruction, operands, word_of, rungs}
use Rattle.ladder.specs.Running.{Running, begun, run, instructions_of, Fits}
use Rattle.ladder.specs.Places.{Ready, after_code}
use Rattle.ladder.proofs.Programs.{program_runs}
use Rattle.ladder.proofs.Fitting.{program-fits}
use Rattle.ladder.proofs.Words.{words_back}

-- so many symbols, names and scopes are declared
module _ (k n m : ℕ) (t : Tree) (e : is_program t ≡ true) (f : TreeFits k n m t) (d : tnesting t ≤ most_nesting) (o : closed [] t ≡ true) (s : State) (b : BinaryState s)
    (enough : length (bits_of t) ≤ length s.bits) (few : length s.bits ≤ operands) {code : List ℕ} (w : code ≡ map word_of (rungs [] 0 t)) where
  fits : Fits (length s.bits) 0 (rungs [] 0 t)
  fits = program-fits (length s.bits) k n m t e f d o enough

  read_back : instructions_of code ≡ rungs [] 0 t
  read_back = ap instructions_of w ∙ words_back (length s.bits) few 0 (rungs [] 0 t) fits

  pub words-ready : operands ≤ length s.points → Ready code s.points s.bits
  words-ready r = record { points-room = r; points-binary = b.points; bits-binary = b.bits; fits = rw read_back fits }

  pub words-work : after_code code s.points s.bits ≡ work [] 0 t s
  words-work = ap (λ (l : List Instruction). (run l (begun s)).state) read_back ∙ ap (λ (r : Running). r.state) (program_runs t e [] 0 s b [])
