use Rattle.std.proofs.Common.{◌∙◌}
use Rattle.reports.proofs.totals.Sums.count.Goals as goal
use Rattle.reports.proofs.Totalling.{capped-least, one-counted}

pub returns : goal.returns
returns c =
    one-counted _ _ _ c.args.self (c.saturating_add.ensures ∙ capped-least _) (c.saturating_add-2.ensures ∙ capped-least _) (c.saturating_add-3.ensures ∙ capped-least _)
