use Rattle.std.proofs.Common.{rules}
use Rattle.replacing.proofs.ReplaceLaws.{put_laws}
use Rattle.replacing.proofs.put_part.Goals as goal
use Rattle.replacing.proofs.put_part.Goals.{then-length-gt-MOST_IMAGE-via-then-length-gt-MOST_IMAGE, then-length-gt-MOST_IMAGE-via-else-length-gt-MOST_IMAGE+then-out-length}

pub returns-then-length-gt-MOST_IMAGE : goal.returns-then-length-gt-MOST_IMAGE
returns-then-length-gt-MOST_IMAGE c = elim c.then-length-gt-MOST_IMAGE.branch [
  | then-length-gt-MOST_IMAGE-via-then-length-gt-MOST_IMAGE w ↦ search (put_laws, rules)
  | then-length-gt-MOST_IMAGE-via-else-length-gt-MOST_IMAGE+then-out-length w ↦ search (put_laws, rules)
]

pub splice-requires : goal.splice-requires
splice-requires c = search (put_laws, rules)

pub bring_up-requires-clause-parts : goal.bring_up-requires-clause-parts
bring_up-requires-clause-parts c = search (put_laws, rules)

pub bring_up-requires-clause-held : goal.bring_up-requires-clause-held
bring_up-requires-clause-held c = search (put_laws, rules)

pub returns : goal.returns
returns c = search (put_laws, rules)
