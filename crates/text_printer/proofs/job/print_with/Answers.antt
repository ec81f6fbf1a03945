use Rattle.std.proofs.Common.{rules, subst, sym, refl}
use Rattle.refusals.proofs.Handing.{handed_on}
use Rattle.text_printer.specs.Job.{Prints}
use Rattle.text_printer.proofs.PrintLaws.{judged_laws, job_fault}
use Rattle.text_printer.proofs.job.print_with.Goals as goal

pub returns-in_err-j : goal.returns-in_err-j
returns-in_err-j c =
    subst (Prints c.args.image.now c.args.out.now c.args.out.now) (sym (handed_on c.from_residual.ensures.1 refl)) (job_fault c.judge_syntax.ensures c.in_err-j.was)

pub returns : goal.returns
returns c = search (judged_laws, rules, c.in_ok-j.was)
