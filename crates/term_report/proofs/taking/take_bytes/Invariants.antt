use Rattle.term_report.proofs.Takings.{Midway}
use Rattle.term_report.proofs.taking.take_bytes.Given as goal

abbrev pub invariant-loop-b : goal.invariant-loop-b
invariant-loop-b l = Midway l.bytes l.initial.there l.initial.room l.initial.counts l.initial.table l.initial.out l.b-index l.there l.room l.counts l.table l.out
