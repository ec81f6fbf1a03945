-- What a place of a program asks for, of a tree, and that the rules are those of the definition.
use Prim.Native.Nat.{ℕ, suc}
use mathlib.Core.Path.{◌≡◌, refl, sym, ap, ◌∙◌}
use mathlib.Core.Bool.{Bool, true, false, ◌&&◌, and-false}
use mathlib.Core.List.{List, ◌∷◌}
use lib.Dec.{eqb, leb, eqb-suc-zero, eqb-suc-suc}
use Rattle.std.specs.Prelude.{Option, Some, None}
use Rattle.model.specs.Objects.{Atom, symbol, number, point, prim, rung, tag_of, content_of, Stx}
use Rattle.model.specs.Trees.{Tree, var, app, fun, datum, lst, stx, Trees, tnil, tcons, tcount}
use Rattle.model.specs.Jobs.{closed, closed_all}
use Rattle.requests.specs.Panel.{Word, bit, and, or, not, out, set, all, free, word_numbered, word_of, head_word, is_point, is_point_tree, is_variable, is_binary, is_start, is_expression_of, is_expression, are_expressions, is_rung, is_program_of, is_program, is_program_inside, are_programs}
use Rattle.profile.specs.declared.rules.Wanted.{Wanted}
use Rattle.profile.specs.declared.rules.Wanted.TheVariants.{Program, Expression, Point, Variable, Start}
use Rattle.profile.specs.declared.rules.Count.TheVariants.{Exactly, AtLeast}
use Rattle.profile.specs.declared.rules.Rule.{Rule}
use Rattle.profile.specs.Rules.{rung_rule, contacts_rule, rule_of, bit_rule, takes_count, takes_variable, takes_point, takes_atom}

-- ---- what is wanted, of a tree

abbrev pub suits : Wanted → Tree → Bool
suits Program t = is_program t
suits Expression t = is_expression t
suits Point t = is_point_tree t
suits Variable t = is_variable t
suits Start t = is_binary t

unfoldable pub all_suit : Wanted → Trees → Bool
all_suit w tnil = true
all_suit w (tcons t l) = suits w t && all_suit w l

abbrev pub arguments_suit : Option Rule → Trees → Bool
arguments_suit None l = false
arguments_suit (Some r) tnil = false
arguments_suit (Some r) (tcons t l) = takes_count r (suc (tcount l)) && (suits r.first t && all_suit r.others l)

-- ---- the rules are those of the definition

expressions_are : (l : Trees) → all_suit Expression l ≡ are_expressions l
unfolding all_suit are_expressions
expressions_are tnil = refl
expressions_are (tcons t l) = ap (λ (z : Bool). is_expression t && z) (expressions_are l)

programs_are : (l : Trees) → all_suit Program l ≡ are_programs l
unfolding all_suit are_programs
programs_are tnil = refl
programs_are (tcons t l) = ap (λ (z : Bool). is_program t && z) (programs_are l)

takes_exactly : (k n : ℕ) (f o : Wanted) → takes_count (record { count = Exactly (suc k); first = f; others = o }) (suc n) ≡ eqb n k
unfolding takes_count
takes_exactly k n f o = rw (eqb-suc-zero n) (eqb-suc-suc n k)

takes_least : (k n : ℕ) (f o : Wanted) → takes_count (record { count = AtLeast k; first = f; others = o }) (suc n) ≡ leb k (suc n)
unfolding takes_count
takes_least k n f o = rw (eqb-suc-zero n)

pub none-taken : (r : Rule) → takes_count r 0 ≡ false
unfolding takes_count
none-taken r = refl

-- a place and one expression
swap : (p c e : Bool) → (c && (p && e)) ≡ (p && c && e)
swap true c e = refl
swap false true e = refl
swap false false e = refl

rung-is : (w : Wanted) (is : Tree → Bool) → ((t : Tree) → suits w t ≡ is t) → (l : Trees)
    → arguments_suit (Some (record { count = Exactly 2; first = w; others = Expression })) l ≡ is_rung is l
unfolding is_rung
rung-is w is h tnil = refl
rung-is w is h (tcons p l) =
    rw (takes_exactly 1 (tcount l) w Expression, h p, expressions_are l) (swap (is p) (eqb (tcount l) 1) (are_expressions l))

start_is : (l : Trees) → arguments_suit (bit_rule Program) l ≡ is_start l
unfolding is_start bit_rule all_suit tcount
start_is tnil = refl
start_is (tcons v tnil) = rw (takes_exactly 0 0 Start Start)
start_is (tcons v (tcons t l)) = rw (takes_exactly 0 (suc (tcount l)) Start Start, eqb-suc-zero (tcount l)) (sym (and-false (is_binary v)))

-- the application of a word, which is no function
abbrev suits_by : Wanted → Word → Trees → Bool
suits_by Program v l = is_program_of v l false (are_programs l)
suits_by Expression v l = is_expression_of v (tcount l) (are_expressions l)
suits_by Point v l = false
suits_by Variable v l = false
suits_by Start v l = false

several-is : (l : Trees) → arguments_suit (Some (record { count = AtLeast 2; first = Expression; others = Expression })) l ≡ (leb 2 (tcount l) && are_expressions l)
unfolding tcount are_expressions
several-is tnil = refl
several-is (tcons t l) = rw (takes_least 2 (tcount l) Expression Expression, expressions_are l)

not_is : (l : Trees) → arguments_suit (Some (record { count = Exactly 1; first = Expression; others = Expression })) l ≡ (eqb (tcount l) 1 && are_expressions l)
unfolding tcount are_expressions
not_is tnil = refl
not_is (tcons t l) = rw (takes_exactly 0 (tcount l) Expression Expression, expressions_are l, eqb-suc-suc (tcount l) 0)

all-is : (l : Trees) → arguments_suit (Some (record { count = AtLeast 1; first = Program; others = Program })) l ≡ (leb 1 (tcount l) && are_programs l)
unfolding tcount are_programs
all-is tnil = refl
all-is (tcons t l) = rw (takes_least 1 (tcount l) Program Program, programs_are l)

pub by_word : (w : Wanted) (v : Word) (l : Trees) → arguments_suit (rule_of w v) l ≡ suits_by w v l
unfolding rule_of rung_rule contacts_rule is_program_of is_expression_of
by_word Program bit l = refl
by_word Program and l = refl
by_word Program or l = refl
by_word Program not l = refl
by_word Program out l = rung-is Point is_point_tree (λ t. refl) l
by_word Program set l = rung-is Variable is_variable (λ t. refl) l
by_word Program all l = all-is l
by_word Program free l = refl
by_word Expression bit l = refl
by_word Expression and l = several-is l
by_word Expression or l = several-is l
by_word Expression not l = not_is l
by_word Expression out l = refl
by_word Expression set l = refl
by_word Expression all l = refl
by_word Expression free l = refl
by_word Point v l = refl
by_word Variable v l = refl
by_word Start v l = refl

pub by_bit : (w : Wanted) (n : ℕ) (b : Tree) (l : Trees) → (is_program b && arguments_suit (bit_rule w) l) ≡ suits w (app (fun n b) l)
unfolding is_program is_program_inside is_expression is_point_tree is_variable is_binary head_word is_program_of is_expression_of bit_rule
by_bit Program n b l = ap (λ (z : Bool). is_program b && z) (start_is l)
by_bit Expression n b l = and-false (is_program b)
by_bit Point n b l = and-false (is_program b)
by_bit Variable n b l = and-false (is_program b)
by_bit Start n b l = and-false (is_program b)

-- ---- what has no parts

pub variable_suits : (w : Wanted) (n : ℕ) → takes_variable w ≡ suits w (var n)
unfolding takes_variable is_program is_expression is_point_tree is_variable is_binary
variable_suits Program n = refl
variable_suits Expression n = refl
variable_suits Point n = refl
variable_suits Variable n = refl
variable_suits Start n = refl

-- the limits of an atom's content
abbrev pub Limited : Atom → Type 0
Limited (symbol x) = Unit {0}
Limited (number x) = Unit {0}
Limited (point x) = leb x 1023 ≡ true
Limited (prim x) = Unit {0}
Limited (rung x) = leb x 15 ≡ true

point_suits : (a : Atom) → Limited a → takes_point (tag_of a) (content_of a) ≡ is_point a
unfolding takes_point tag_of content_of is_point
point_suits (symbol x) l = refl
point_suits (number x) l = refl
point_suits (point x) l = rw l
point_suits (prim x) l = refl
point_suits (rung x) l = refl

pub atom_suits : (w : Wanted) (a : Atom) → Limited a → takes_atom w (tag_of a) (content_of a) ≡ suits w (datum a)
unfolding takes_atom tag_of content_of is_program is_expression is_point_tree is_variable is_binary
atom_suits Program a l = refl
atom_suits Expression a l = point_suits a l
atom_suits Point a l = point_suits a l
atom_suits Variable a l = refl
atom_suits Start (symbol x) l = refl
atom_suits Start (number x) l = refl
atom_suits Start (point x) l = refl
atom_suits Start (prim x) l = refl
atom_suits Start (rung x) l = refl

-- ---- an application whose head is no word or function, or a word

pub no-head : (w : Wanted) (f : Tree) (l : Trees) → head_word f ≡ free → suits w (app f l) ≡ false
unfolding is_program is_expression is_point_tree is_variable is_binary is_program_of is_expression_of
no-head Program f l e = rw e
no-head Expression f l e = rw e
no-head Point f l e = refl
no-head Variable f l e = refl
no-head Start f l e = refl

pub word_suits : (w : Wanted) (x : ℕ) (l : Trees) → suits_by w (word_numbered x) l ≡ suits w (app (datum (rung x)) l)
unfolding is_program is_program_inside is_expression is_point_tree is_variable is_binary head_word word_of
word_suits Program x l = refl
word_suits Expression x l = refl
word_suits Point x l = refl
word_suits Variable x l = refl
word_suits Start x l = refl

-- no function, list value or syntax value is wanted anywhere
outside : (w : Wanted) (t : Tree) → (is_program t ≡ false) → (is_expression t ≡ false) → (is_point_tree t ≡ false) → (is_variable t ≡ false) → (is_binary t ≡ false) → suits w t ≡ false
outside Program t a b c d e = a
outside Expression t a b c d e = b
outside Point t a b c d e = c
outside Variable t a b c d e = d
outside Start t a b c d e = e

pub function_outside : (w : Wanted) (n : ℕ) (b : Tree) → suits w (fun n b) ≡ false
unfolding is_program is_expression is_point_tree is_variable is_binary
function_outside w n b = outside w (fun n b) refl refl refl refl refl

pub list-outside : (w : Wanted) (l : Trees) → suits w (lst l) ≡ false
unfolding is_program is_expression is_point_tree is_variable is_binary
list-outside w l = outside w (lst l) refl refl refl refl refl

pub syntax-outside : (w : Wanted) (x : Stx) → suits w (stx x) ≡ false
unfolding is_program is_expression is_point_tree is_variable is_binary
syntax-outside w x = outside w (stx x) refl refl refl refl refl

-- ---- what is wanted, and closed inside functions of the names a

abbrev pub good : List ℕ → Wanted → Tree → Bool
good a w t = suits w t && closed a t

unfoldable pub all_good : List ℕ → Wanted → Trees → Bool
all_good a w tnil = true
all_good a w (tcons t l) = good a w t && all_good a w l

abbrev pub arguments_good : List ℕ → Option Rule → Trees → Bool
arguments_good a None l = false
arguments_good a (Some r) tnil = false
arguments_good a (Some r) (tcons t l) = takes_count r (suc (tcount l)) && (good a r.first t && all_good a r.others l)

crossed : (a b c d : Bool) → ((a && b) && (c && d)) ≡ ((a && c) && (b && d))
crossed true true c d = refl
crossed true false c d = sym (and-false c)
crossed false b c d = refl

and_assoc : (a b c : Bool) → (a && (b && c)) ≡ ((a && b) && c)
and_assoc true b c = refl
and_assoc false b c = refl

all-good : (a : List ℕ) (w : Wanted) (l : Trees) → all_good a w l ≡ (all_suit w l && closed_all a l)
unfolding all_good all_suit closed_all
all-good a w tnil = refl
all-good a w (tcons t l) = ap (λ (z : Bool). good a w t && z) (all-good a w l) ∙ crossed (suits w t) (closed a t) (all_suit w l) (closed_all a l)

pub arguments_good_lem : (a : List ℕ) (r : Option Rule) (l : Trees) → arguments_good a r l ≡ (arguments_suit r l && closed_all a l)
unfolding closed_all
arguments_good_lem a None l = refl
arguments_good_lem a (Some r) tnil = refl
arguments_good_lem a (Some r) (tcons t l) =
    let n = takes_count r (suc (tcount l)) in
    ap (λ (z : Bool). n && (good a r.first t && z)) (all-good a r.others l)
    ∙ ap (λ (z : Bool). n && z) (crossed (suits r.first t) (closed a t) (all_suit r.others l) (closed_all a l))
    ∙ and_assoc n (suits r.first t && all_suit r.others l) (closed a t && closed_all a l)

pub bit-good : (a : List ℕ) (w : Wanted) (n : ℕ) (b : Tree) (l : Trees) → (good (n ∷ a) Program b && arguments_good a (bit_rule w) l) ≡ good a w (app (fun n b) l)
unfolding closed
bit-good a w n b l =
    ap (λ (z : Bool). good (n ∷ a) Program b && z) (arguments_good_lem a (bit_rule w) l)
    ∙ crossed (is_program b) (closed (n ∷ a) b) (arguments_suit (bit_rule w) l) (closed_all a l)
    ∙ ap (λ (z : Bool). z && (closed (n ∷ a) b && closed_all a l)) (by_bit w n b l)

pub word_good : (a : List ℕ) (w : Wanted) (x : ℕ) (l : Trees) → arguments_good a (rule_of w (word_numbered x)) l ≡ good a w (app (datum (rung x)) l)
unfolding closed
word_good a w x l = arguments_good_lem a (rule_of w (word_numbered x)) l ∙ ap (λ (z : Bool). z && closed_all a l) (by_word w (word_numbered x) l ∙ word_suits w x l)
