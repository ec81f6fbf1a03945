use Rattle.text_image.proofs.PlaceLaws.{ends_cr, ends_lf}
use Rattle.text_image.proofs.positions.ends_line.Goals as goal

pub returns-then-b-eq-CR : goal.returns-then-b-eq-CR
returns-then-b-eq-CR c = ends_cr _ _ c.if-b-eq-CR.true

pub returns-else-b-eq-CR : goal.returns-else-b-eq-CR
returns-else-b-eq-CR c = ends_lf _ _ c.if-b-eq-CR.false
