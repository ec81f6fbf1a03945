use Rattle.std.proofs.Common.{rules, ◌∙◌}
use Rattle.term_report.proofs.Files.{file_laws, stands-behind, stands-cut, going_on}
use Rattle.term_report.proofs.file.take_file.Goals as goal

pub loop-init : goal.loop-init
loop-init c = search (file_laws, rules)

pub returns-in-Err : goal.returns-in-Err
returns-in-Err c = stands-cut c.cut.ensures

pub loop-preserved : goal.loop-preserved
loop-preserved c =
    let took = c.take_bytes-here in
    let going = c.loop.invariant.0 in
    (going_on going (stands-behind going.stands took.ensures) took.auto.room took.auto.counts took.auto.table took.auto.out, c.read.auto.buf ∙ c.loop.invariant.1)

pub returns : goal.returns
returns c = stands-cut c.cut-2.ensures
