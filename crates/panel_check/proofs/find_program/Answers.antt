use Rattle.std.proofs.Common.{rules}
use Rattle.panel_check.proofs.find_program.Goals as goal
use Rattle.panel_check.proofs.Finding.{finding_laws, too_long_lem, head_none, head_some, program-missed, program-found}

pub returns-then-image-gt-MOST_IMAGE : goal.returns-then-image-gt-MOST_IMAGE
returns-then-image-gt-MOST_IMAGE c = search (too_long_lem, rules)

pub returns-in_err-h : goal.returns-in_err-h
returns-in_err-h c = rw c.from_residual.ensures (head_none _ c.type_inv.image c.if-image-gt-MOST_IMAGE.false c.read_head.ensures c.ok.ensures.value c.in_err-h.was)

pub is_program-requires : goal.is_program-requires
is_program-requires c =
    let e = head_some _ c.type_inv.image c.if-image-gt-MOST_IMAGE.false c.read_head.ensures c.ok.ensures.value c.in_ok-h.was in
    search (finding_laws, rules, e)

pub returns-then-is_program : goal.returns-then-is_program
returns-then-is_program c =
    let e = head_some _ c.type_inv.image c.if-image-gt-MOST_IMAGE.false c.read_head.ensures c.ok.ensures.value c.in_ok-h.was in
    program-found _ c.type_inv.image c.if-image-gt-MOST_IMAGE.false c.read_head.ensures e c.after.ensures c.is_program.ensures c.if-is_program.true

pub returns-else-is_program : goal.returns-else-is_program
returns-else-is_program c =
    let e = head_some _ c.type_inv.image c.if-image-gt-MOST_IMAGE.false c.read_head.ensures c.ok.ensures.value c.in_ok-h.was in
    program-missed _ c.type_inv.image c.if-image-gt-MOST_IMAGE.false c.read_head.ensures e c.after.ensures c.is_program.ensures c.if-is_program.false
