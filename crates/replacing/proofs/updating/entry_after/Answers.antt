use Rattle.replacing.proofs.UpdateLaws.{renew_is, renew_found, renew_lost, found-small}
use Rattle.replacing.proofs.updating.entry_after.Goals as goal

pub overflow_add-result-in-Some-find : goal.overflow_add-result-in-Some-find
overflow_add-result-in-Some-find c = record { fits = found-small _ _ _ _ _ _ _ _ _ _ c.saturating_sub.ensures c.saturating_add-count.ensures c.first_of.ensures c.in-None.is c.find.ensures c.in-Some-find.is c.requires.small.0 c.requires.image.2 }

pub returns-in-Some : goal.returns-in-Some
returns-in-Some c = renew_is _ _ _ _ _ _ _ _ _ _ c.saturating_sub.ensures c.saturating_add-count.ensures c.first_of.ensures c.in-Some.is

pub returns-in-Some-find : goal.returns-in-Some-find
returns-in-Some-find c = renew_found _ _ _ _ _ _ _ _ _ _ c.saturating_sub.ensures c.saturating_add-count.ensures c.first_of.ensures c.in-None.is c.find.ensures c.in-Some-find.is

pub returns-in-None-find : goal.returns-in-None-find
returns-in-None-find c = renew_lost _ _ _ _ _ _ _ _ _ _ c.saturating_sub.ensures c.saturating_add-count.ensures c.first_of.ensures c.in-None.is c.find.ensures c.in-None-find.is
