use Rattle.std.proofs.Common.{◌≡◌, length}
use Rattle.term_report.proofs.Files.{Going}
use Rattle.term_report.proofs.file.take_file.Given as goal

abbrev pub invariant-loop : goal.invariant-loop
invariant-loop l = Going l.initial.room l.initial.counts l.initial.table l.initial.out l.here l.room l.counts l.table l.out × (length l.chunk ≡ length l.initial.chunk)
