use Rattle.std.proofs.Common.{◌≡◌, refl}
use Rattle.std.specs.Prelude.{Err}
use Rattle.refusals.proofs.Handing.{handed_on}
use Rattle.summaries.specs.declared.refusal.UsesRefusal.TheVariants.{Base}
use Rattle.std.proofs.Common.{rules}
use Rattle.summaries.proofs.Questions.{ask_laws, ask_refused}
use Rattle.summaries.proofs.ask.Goals as goal

pub returns-in_err-open : goal.returns-in_err-open
returns-in_err-open c = let e : c.from_residual.result ≡ Err (Base c.in_err-open.field-0.0) = handed_on c.from_residual.ensures.1 refl in rw e (ask_refused _ _ _ c.open.ensures c.in_err-open.was)

pub ask_of-requires : goal.ask_of-requires
ask_of-requires c = search (ask_laws, rules, c.in_ok-open.was)

pub returns : goal.returns
returns c = search (ask_laws, rules, c.in_ok-open.was)
