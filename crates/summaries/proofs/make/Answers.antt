use Rattle.std.proofs.Common.{◌≡◌, refl}
use Rattle.std.specs.Prelude.{Err}
use Rattle.refusals.proofs.Handing.{handed_on}
use Rattle.summaries.specs.declared.refusal.UsesRefusal.TheVariants.{Base}
use Rattle.summaries.proofs.MakeLaws.{make_refused}
use Rattle.summaries.proofs.make.Goals as goal

pub returns-in_err-open : goal.returns-in_err-open
returns-in_err-open c = let e : c.from_residual.result ≡ Err (Base c.in_err-open.field-0.0) = handed_on c.from_residual.ensures.1 refl in rw e (make_refused _ _ c.open.ensures c.in_err-open.was)
