use Rattle.std.proofs.Common.{rules}
use Rattle.expander.proofs.Jobs.{line_laws}
use Rattle.expander.proofs.line.expanded.Goals as goal

pub slice_bounds-parsed-end : goal.slice_bounds-parsed-end
slice_bounds-parsed-end c = search (line_laws, rules)

pub slice_bounds-parsed-end-then-e-eq0 : goal.slice_bounds-parsed-end-then-e-eq0
slice_bounds-parsed-end-then-e-eq0 c = search (line_laws, rules)

pub parsed-requires : goal.parsed-requires
parsed-requires c = search (line_laws, rules)

pub returns-then-e-eq0 : goal.returns-then-e-eq0
returns-then-e-eq0 c = search (line_laws, rules)

pub returns-else-e-eq0 : goal.returns-else-e-eq0
returns-else-e-eq0 c = search (line_laws, rules)
