use Rattle.std.proofs.Common.{rules}
use Rattle.store.proofs.resolving.Resolving.take.Goals as goal
use Rattle.store.proofs.resolving.Resolving.take.Goals.{in-Clear+else-within, in-Unclear-1}
use mathlib.Core.Path.{sym, ◌∙◌}
use Rattle.store.proofs.Taking.{take-first, take-contained, take-further, take_also}

pub returns-in-Free : goal.returns-in-Free
returns-in-Free c = c.clear.ensures ∙ take-first c.args.self _ c.in-Free.is

pub returns-in-Clear : goal.returns-in-Clear
returns-in-Clear c = take-contained c.args.self _ c.in-Clear.is (sym c.within.ensures ∙ c.if-within.true)

pub returns-in-Clear-2 : goal.returns-in-Clear-2
returns-in-Clear-2 c = c.beyond.ensures ∙ elim c.in-Clear-2-1.branch [
  | in-Clear+else-within w ↦ take-further c.args.self _ w.in-Clear.is (sym w.within.ensures ∙ w.if-within.false)
  | in-Unclear-1 w ↦ search (take_also, rules)
]
