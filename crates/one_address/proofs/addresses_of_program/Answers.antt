use Rattle.one_address.proofs.Listing.{listing}
use Rattle.std.proofs.Common.{rules}
use Rattle.one_address.proofs.addresses_of_program.Goals as goal

pub expand_program-e-requires : goal.expand_program-e-requires
expand_program-e-requires c = search (listing, rules)

pub returns-then-e-ne0 : goal.returns-then-e-ne0
returns-then-e-ne0 c = search (listing, rules)

pub overflow_cast-length : goal.overflow_cast-length
overflow_cast-length c = search (listing, rules)

pub slice_bounds-check_expanded-end : goal.slice_bounds-check_expanded-end
slice_bounds-check_expanded-end c = search (listing, rules)

pub slice_bounds-check_expanded-end-2 : goal.slice_bounds-check_expanded-end-2
slice_bounds-check_expanded-end-2 c = search (listing, rules)

pub check_expanded-requires : goal.check_expanded-requires
check_expanded-requires c = search (listing, rules)

pub returns : goal.returns
returns c = search (listing, rules)
