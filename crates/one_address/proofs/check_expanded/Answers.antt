use Rattle.one_address.proofs.Listing.{listing}
use Rattle.std.proofs.Common.{rules}
use Rattle.one_address.proofs.check_expanded.Goals as goal

pub meirhuppa_parse-p-requires : goal.meirhuppa_parse-p-requires
meirhuppa_parse-p-requires c = search (listing, rules)

pub returns-then-p-ne0 : goal.returns-then-p-ne0
returns-then-p-ne0 c = search (listing, rules)

pub overflow_cast-length : goal.overflow_cast-length
overflow_cast-length c = search (listing, rules)

pub slice_bounds-meirhuppa_panel-end : goal.slice_bounds-meirhuppa_panel-end
slice_bounds-meirhuppa_panel-end c = search (listing, rules)

pub slice_bounds-meirhuppa_panel-end-2 : goal.slice_bounds-meirhuppa_panel-end-2
slice_bounds-meirhuppa_panel-end-2 c = search (listing, rules)

pub meirhuppa_panel-requires : goal.meirhuppa_panel-requires
meirhuppa_panel-requires c = search (listing, rules)

pub returns : goal.returns
returns c = search (listing, rules)
