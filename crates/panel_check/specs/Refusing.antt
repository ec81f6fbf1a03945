-- The code's refusals of the panel check as the request's.
use Rattle.requests.specs.Panel as p
use Rattle.refusals.specs.Refusing.{refusal_of}
use Rattle.panel_check.specs.declared.refusal.PanelRefusal.{PanelRefusal}
use Rattle.panel_check.specs.declared.refusal.PanelRefusal.TheVariants.{Base, Outside, DrivenTwice, TooManyBits}

abbrev pub panel_refusal_of : PanelRefusal → p.PanelRefusal
panel_refusal_of (Base f) = p.base (refusal_of f)
panel_refusal_of Outside = p.outside
panel_refusal_of DrivenTwice = p.driven_twice
panel_refusal_of TooManyBits = p.too_many_bits
