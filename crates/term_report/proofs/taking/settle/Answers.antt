use Rattle.std.proofs.Common.{◌∙◌, sym}
use Rattle.term_report.proofs.Takings.{image_settled, passed_settled}
use Rattle.term_report.proofs.taking.settle.Goals as goal

pub returns-in-Image-default-eq0 : goal.returns-in-Image-default-eq0
returns-in-Image-default-eq0 c = image_settled c.in-Image-default-eq0.is (sym c.in-Image-default-eq0.field-1-is ∙ c.in-Image-default-eq0.field-1-test) c.count_image.ensures

pub returns-in-Passing-eq0 : goal.returns-in-Passing-eq0
returns-in-Passing-eq0 c = passed_settled c.in-Passing-eq0.is (sym c.in-Passing-eq0.field-0-is ∙ c.in-Passing-eq0.field-0-test) c.count_too_long.ensures
