-- The code's refusals of these jobs as the request's.
use Rattle.requests.specs.Uses as u
use Rattle.refusals.specs.Refusing.{refusal_of}
use Rattle.summaries.specs.declared.refusal.UsesRefusal.{UsesRefusal}
use Rattle.summaries.specs.declared.refusal.UsesRefusal.TheVariants.{Base, OtherTree, NoName}

abbrev pub uses_refusal_of : UsesRefusal → u.UsesRefusal
uses_refusal_of (Base f) = u.base (refusal_of f)
uses_refusal_of OtherTree = u.other_tree
uses_refusal_of NoName = u.no_name
