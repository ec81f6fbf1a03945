use Rattle.answer_line.proofs.Printing.{printing_laws}
use Rattle.std.proofs.Common.{rules}
use Rattle.answer_line.proofs.columns.is_kept_after.Goals as goal

pub returns-then-output-count : goal.returns-then-output-count
returns-then-output-count c = search (printing_laws, rules)

pub slice_bounds-are_bytes-count : goal.slice_bounds-are_bytes-count
slice_bounds-are_bytes-count c = search (printing_laws, rules)

pub slice_bounds-are_bytes-start : goal.slice_bounds-are_bytes-start
slice_bounds-are_bytes-start c = search (printing_laws, rules)

pub slice_bounds-are_bytes-end : goal.slice_bounds-are_bytes-end
slice_bounds-are_bytes-end c = search (printing_laws, rules)

pub are_bytes-requires : goal.are_bytes-requires
are_bytes-requires c = search (printing_laws, rules)

pub returns : goal.returns
returns c = search (printing_laws, rules)
