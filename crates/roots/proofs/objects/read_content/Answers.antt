use Rattle.std.proofs.Common.{arith}
use Rattle.roots.proofs.objects.read_content.Goals as goal
use Rattle.refusals.proofs.Handing.{handed_on}
use Rattle.roots.proofs.ObjectLaws.{content-symbol, content-number, content-point, point-stops, content-primitive, content-rung, content-none}

pub returns-in-0 : goal.returns-in-0
returns-in-0 c = content-symbol _ _ c.args.tag _ (omega arith) c.number_below.ensures

pub returns-in-1 : goal.returns-in-1
returns-in-1 c = content-number _ _ c.args.tag _ (omega arith) c.number.ensures

pub returns-in_err-point-in-2 : goal.returns-in_err-point-in-2
returns-in_err-point-in-2 c = handed_on c.from_residual.ensures.1 (point-stops _ _ c.args.tag _ (omega arith) c.read_point.ensures c.in_err-point-in-2.was)

pub returns-in_ok-point-in-2 : goal.returns-in_ok-point-in-2
returns-in_ok-point-in-2 c = content-point _ _ c.args.tag _ (omega arith) c.read_point.ensures c.in_ok-point-in-2.was

pub returns-in-3 : goal.returns-in-3
returns-in-3 c = content-primitive _ _ c.args.tag _ (omega arith) c.number_up_to.ensures

pub returns-in-4 : goal.returns-in-4
returns-in-4 c = content-rung _ _ c.args.tag _ (omega arith) c.number_up_to-in-4.ensures

pub returns-in_default : goal.returns-in_default
returns-in_default c = content-none _ _ c.args.tag _ (λ e. omega arith) (λ e. omega arith) (λ e. omega arith) (λ e. omega arith) (λ e. omega arith)
