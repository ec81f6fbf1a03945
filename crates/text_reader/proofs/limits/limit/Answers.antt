use Rattle.std.proofs.Common.{rules, subst, sym, refl}
use Rattle.refusals.proofs.Handing.{handed_on}
use Rattle.text_reader.specs.Limiting.{Limited}
use Rattle.text_reader.proofs.LimitLaws.{limit_laws, limit_beyond}
use Rattle.text_reader.proofs.limits.limit.Goals as goal

pub loop-token-init : goal.loop-token-init
loop-token-init c = search (limit_laws, rules)

pub returns-then-level-ge-MOST_NESTING : goal.returns-then-level-ge-MOST_NESTING
returns-then-level-ge-MOST_NESTING c = search (limit_laws, rules)

pub returns-then-level-ge-MOST_NESTING-2 : goal.returns-then-level-ge-MOST_NESTING-2
returns-then-level-ge-MOST_NESTING-2 c = search (limit_laws, rules)

pub returns-in_err-count-in-Piece : goal.returns-in_err-count-in-Piece
returns-in_err-count-in-Piece c =
    subst (Limited c.args.text.now c.note_piece.new.spans) (sym (handed_on c.from_residual.ensures.1 refl))
    (limit_beyond c.loop-token.invariant.1 c.read_next.ensures c.in-Some.is c.in-Piece.is c.note_piece.ensures c.in_err-count-in-Piece.was)

pub loop-token-preserved-in-Close : goal.loop-token-preserved-in-Close
loop-token-preserved-in-Close c = search (limit_laws, rules)

pub loop-token-preserved-else-level-ge-MOST_NESTING : goal.loop-token-preserved-else-level-ge-MOST_NESTING
loop-token-preserved-else-level-ge-MOST_NESTING c = search (limit_laws, rules)

pub loop-token-preserved : goal.loop-token-preserved
loop-token-preserved c = search (limit_laws, rules, c.in_ok-count-in-Piece.was)

pub returns : goal.returns
returns c = search (limit_laws, rules)
