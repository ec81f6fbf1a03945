-- One answer, one output and one table.
use Rattle.std.specs.Prelude.{◌≡◌, List, ℕ}
use Rattle.model.specs.Jobs.{Result}
use Rattle.requests.specs.Panel.{PanelResult}
use Rattle.requests.specs.ScanJob.{ScanResult}
use Rattle.requests.specs.TextJobs.{TextResult}
use Rattle.requests.specs.Uses.{SummaryResult, UsesAnswer}
use Rattle.requests.specs.Replacing.{ReplaceResult}
use Rattle.shrinking.specs.ShrinkJob.{ShrinkResult}
use Rattle.meirhuppa.specs.Endings.{Answered}
use Rattle.meirhuppa.specs.Panels.{PanelAnswered}
use Rattle.meirhuppa.specs.Scans.{ScanAnswered}
use Rattle.meirhuppa.specs.Shrinks.{ShrinkAnswered}
use Rattle.meirhuppa.specs.Texts.{TextAnswered}
use Rattle.meirhuppa.specs.UsesJobs.{SummaryAnswered, UsesAnswered, ReplaceAnswered}
use Rattle.meirhuppa.specs.declared.uses_jobs.Uses.{Uses}
use Rattle.meirhuppa.specs.declared.answers.Answer.{Answer}

-- they are the job's, and whatever else is the job's is the same
pub record Once (job : Result) (a : Answer) (output table : List ℕ) : Type 0 where
  pub is : Answered job a output table
  pub only : (b : Answer) (p u : List ℕ) → Answered job b p u → (a ≡ b) × (output ≡ p) × (table ≡ u)

-- of the panel check, which has words in place of output and table
pub record PanelOnce (job : PanelResult) (a : Answer) (bits : List ℕ) : Type 0 where
  pub is : PanelAnswered job a bits
  pub only : (b : Answer) (p : List ℕ) → PanelAnswered job b p → (a ≡ b) × (bits ≡ p)

-- of the scan runner, which has no table
pub record ScanOnce (job : ScanResult) (a : Answer) (output : List ℕ) : Type 0 where
  pub is : ScanAnswered job a output
  pub only : (b : Answer) (p : List ℕ) → ScanAnswered job b p → (a ≡ b) × (output ≡ p)

-- of the jobs of text, likewise
pub record TextOnce (job : TextResult) (a : Answer) (output : List ℕ) : Type 0 where
  pub is : TextAnswered job a output
  pub only : (b : Answer) (p : List ℕ) → TextAnswered job b p → (a ≡ b) × (output ≡ p)

-- of the smaller image, likewise
pub record ShrinkOnce (job : ShrinkResult) (a : Answer) (output : List ℕ) : Type 0 where
  pub is : ShrinkAnswered job a output
  pub only : (b : Answer) (p : List ℕ) → ShrinkAnswered job b p → (a ≡ b) × (output ≡ p)

-- of the jobs of a summary: one is lent its words, one only reads them, and one has an output too
pub record SummaryOnce (job : SummaryResult) (a : Answer) (summary : List ℕ) : Type 0 where
  pub is : SummaryAnswered job a summary
  pub only : (b : Answer) (p : List ℕ) → SummaryAnswered job b p → (a ≡ b) × (summary ≡ p)

pub record UsesOnce (job : UsesAnswer) (a : Uses) : Type 0 where
  pub is : UsesAnswered job a
  pub only : (b : Uses) → UsesAnswered job b → a ≡ b

pub record ReplaceOnce (job : ReplaceResult) (a : Answer) (summary output : List ℕ) : Type 0 where
  pub is : ReplaceAnswered job a summary output
  pub only : (b : Answer) (w p : List ℕ) → ReplaceAnswered job b w p → (a ≡ b) × (summary ≡ w) × (output ≡ p)
