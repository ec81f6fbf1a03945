-- What a public function promises is the only answer.
use mathlib.Core.List.{List}
use Prim.Native.Nat.{ℕ}
use Rattle.model.specs.Jobs.{Result}
use Rattle.requests.specs.Panel.{PanelResult}
use Rattle.requests.specs.ScanJob.{ScanResult}
use Rattle.requests.specs.TextJobs.{TextResult}
use Rattle.requests.specs.Uses.{SummaryResult, UsesAnswer}
use Rattle.requests.specs.Replacing.{ReplaceResult}
use Rattle.shrinking.specs.ShrinkJob.{ShrinkResult}
use Rattle.meirhuppa.specs.Endings.{Answered}
use Rattle.meirhuppa.specs.Panels.{PanelAnswered}
use Rattle.meirhuppa.specs.Scans.{ScanAnswered}
use Rattle.meirhuppa.specs.Shrinks.{ShrinkAnswered}
use Rattle.meirhuppa.specs.Texts.{TextAnswered}
use Rattle.meirhuppa.specs.UsesJobs.{SummaryAnswered, UsesAnswered, ReplaceAnswered}
use Rattle.meirhuppa.specs.declared.uses_jobs.Uses.{Uses}
use Rattle.meirhuppa.specs.declared.answers.Answer.{Answer}
use Rattle.meirhuppa.proofs.OneAnswer.{answered_once}
use Rattle.meirhuppa.proofs.PanelAnswers.{panel_once}
use Rattle.meirhuppa.proofs.ScanAnswers.{scan_once}
use Rattle.meirhuppa.proofs.ShrinkAnswers.{shrink_once}
use Rattle.meirhuppa.proofs.TextAnswers.{text_once}
use Rattle.meirhuppa.proofs.UsesAnswers.{summary_once, uses_once, replace_once}
use Rattle.one_answer.specs.Once.{Once, PanelOnce, ScanOnce, TextOnce, ShrinkOnce, SummaryOnce, UsesOnce, ReplaceOnce}

pub once : {job : Result} {a : Answer} {output table : List ℕ} → Answered job a output table → Once job a output table
once {job} {a} {output} {table} e = record { is = e; only = λ b p u f. answered_once job a b output p table u e f }

pub panel-only : {job : PanelResult} {a : Answer} {bits : List ℕ} → PanelAnswered job a bits → PanelOnce job a bits
panel-only {job} {a} {bits} e = record { is = e; only = λ b p f. panel_once job a b bits p e f }

pub scan-only : {job : ScanResult} {a : Answer} {output : List ℕ} → ScanAnswered job a output → ScanOnce job a output
scan-only {job} {a} {output} e = record { is = e; only = λ b p f. scan_once job a b output p e f }

pub text-only : {job : TextResult} {a : Answer} {output : List ℕ} → TextAnswered job a output → TextOnce job a output
text-only {job} {a} {output} e = record { is = e; only = λ b p f. text_once job a b output p e f }

pub shrink_only : {job : ShrinkResult} {a : Answer} {output : List ℕ} → ShrinkAnswered job a output → ShrinkOnce job a output
shrink_only {job} {a} {output} e = record { is = e; only = λ b p f. shrink_once job a b output p e f }

pub summary-only : {job : SummaryResult} {a : Answer} {summary : List ℕ} → SummaryAnswered job a summary → SummaryOnce job a summary
summary-only {job} {a} {summary} e = record { is = e; only = λ b p f. summary_once job a b summary p e f }

pub uses-only : {job : UsesAnswer} {a : Uses} → UsesAnswered job a → UsesOnce job a
uses-only {job} {a} e = record { is = e; only = λ b f. uses_once job a b e f }

pub replace_only : {job : ReplaceResult} {a : Answer} {summary output : List ℕ} → ReplaceAnswered job a summary output → ReplaceOnce job a summary output
replace_only {job} {a} {summary} {output} e = record { is = e; only = λ b w p f. replace_once job a b summary w output p e f }
