-- T-01: the rules of the profile as the code has them, by what a place asks for.
use Rattle.std.specs.Prelude.{ℕ, Bool, true, false, ◌&&◌, eqb, leb, Option, Some, None}
use Rattle.model.specs.Choice.{when◌then◌else◌}
use Rattle.model.specs.Limits.{last_point}
use Rattle.requests.specs.Panel.{Word, bit, and, or, not, out, set, all, free}
use Rattle.profile.specs.declared.rules.Wanted.{Wanted}
use Rattle.profile.specs.declared.rules.Wanted.TheVariants.{Program, Expression, Point, Variable, Start}
use Rattle.profile.specs.declared.rules.Count.{Count}
use Rattle.profile.specs.declared.rules.Count.TheVariants.{Exactly, AtLeast}
use Rattle.profile.specs.declared.rules.Rule.{Rule}

unfoldable pub rung_rule : Word → Option Rule
rung_rule bit = None
rung_rule and = None
rung_rule or = None
rung_rule not = None
rung_rule out = Some (record { count = Exactly 2; first = Point; others = Expression })
rung_rule set = Some (record { count = Exactly 2; first = Variable; others = Expression })
rung_rule all = Some (record { count = AtLeast 1; first = Program; others = Program })
rung_rule free = None

unfoldable pub contacts_rule : Word → Option Rule
contacts_rule bit = None
contacts_rule and = Some (record { count = AtLeast 2; first = Expression; others = Expression })
contacts_rule or = Some (record { count = AtLeast 2; first = Expression; others = Expression })
contacts_rule not = Some (record { count = Exactly 1; first = Expression; others = Expression })
contacts_rule out = None
contacts_rule set = None
contacts_rule all = None
contacts_rule free = None

unfoldable pub rule_of : Wanted → Word → Option Rule
unfolding rung_rule contacts_rule
rule_of Program w = rung_rule w
rule_of Expression w = contacts_rule w
rule_of Point w = None
rule_of Variable w = None
rule_of Start w = None

unfoldable pub bit_rule : Wanted → Option Rule
bit_rule Program = Some (record { count = Exactly 1; first = Start; others = Start })
bit_rule Expression = None
bit_rule Point = None
bit_rule Variable = None
bit_rule Start = None

abbrev pub counted : Count → ℕ → Bool
counted (Exactly k) n = eqb n k
counted (AtLeast k) n = leb k n

-- every rule asks for a first argument
unfoldable pub takes_count : Rule → ℕ → Bool
takes_count r n = when eqb n 0 then false else counted r.count n

unfoldable pub takes_variable : Wanted → Bool
takes_variable Program = false
takes_variable Expression = true
takes_variable Point = false
takes_variable Variable = true
takes_variable Start = false

-- an atom of this kind, with this content

unfoldable pub takes_point : ℕ → ℕ → Bool
unfolding last_point
takes_point k x = eqb k 2 && leb x last_point

unfoldable pub takes_atom : Wanted → ℕ → ℕ → Bool
unfolding takes_point
takes_atom Program k x = false
takes_atom Expression k x = takes_point k x
takes_atom Point k x = takes_point k x
takes_atom Variable k x = false
takes_atom Start k x = eqb k 1 && leb x 1
