use Rattle.std.proofs.Common.{rules}
use Rattle.text_image.proofs.Texts.{text_laws}
use Rattle.text_image.proofs.write_image.Goals as goal

pub slice_bounds-write_all-end : goal.slice_bounds-write_all-end
slice_bounds-write_all-end c = search (text_laws, rules)

pub slice_bounds-write_all-end-then-answer-eq0 : goal.slice_bounds-write_all-end-then-answer-eq0
slice_bounds-write_all-end-then-answer-eq0 c = search (text_laws, rules)
