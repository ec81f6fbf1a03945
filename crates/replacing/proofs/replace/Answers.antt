use Rattle.std.proofs.Common.{◌≡◌, refl}
use Rattle.std.specs.Prelude.{Err}
use Rattle.refusals.proofs.Handing.{handed_on}
use Rattle.summaries.specs.declared.refusal.UsesRefusal.TheVariants.{Base}
use Rattle.replacing.proofs.ReplaceLaws.{open_refused, open_few, open_other, open_beyond}
use Rattle.replacing.proofs.replace.Goals as goal
use Rattle.replacing.proofs.replace.Goals.{then-not-belongs-via-then-not-belongs, then-not-belongs-via-else-not-belongs+then-o-place}

pub returns-in_err-o : goal.returns-in_err-o
returns-in_err-o c = let e : c.from_residual.result ≡ Err (Base c.in_err-o.field-0.0) = handed_on c.from_residual.ensures.1 refl in rw e (open_refused _ _ _ _ _ c.open.ensures c.in_err-o.was)

pub belongs-requires : goal.belongs-requires
belongs-requires c = open_few c.args.image.now c.args.part.now c.args.words.now c.args.out.now c.args.place c.open.ensures c.in_ok-o.was

pub returns-then-not-belongs : goal.returns-then-not-belongs
returns-then-not-belongs c = elim c.then-not-belongs.branch [
  | then-not-belongs-via-then-not-belongs w ↦ open_other _ _ _ _ _ c.open.ensures c.in_ok-o.was c.belongs.ensures w.if-not-belongs.true
  | then-not-belongs-via-else-not-belongs+then-o-place w ↦ open_beyond _ _ _ _ _ c.open.ensures c.in_ok-o.was c.belongs.ensures w.if-not-belongs.false w.if-o-place.true
]
