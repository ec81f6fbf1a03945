-- T-01: a tree of an image read as what a place of a program asks for. It is read by the definition's rules, and any fault here means that it
-- is no program or not owned: the general judgement then says which. `names` is how many names the head declares, and `around` holds for each
-- whether a function of that name is around the place: not 0.
use Rattle.std.specs.Prelude.{ℕ, zero, suc, ◌-◌, ◌≡◌, Bool, true, false, not, List, [], eqb, get_or, set, Option, Some, None, Result}
use Rattle.model.specs.Limits.{most_nesting, last_rung_word}
use Rattle.model.specs.Refusals.{layout, over_limit}
use Rattle.model.specs.Trees.{Tree}
use Rattle.model.specs.Reading as m
use Rattle.model.specs.Reading.{Reader, ◌>>=◌, ◌>>◌, give, fail, need, num, num_up_to, num_below, got, fault, read_tree}
use Rattle.model.specs.Jobs.{closed}
use Rattle.requests.specs.Panel.{word_numbered, is_program}
use Rattle.refusals.specs.declared.Refusal.{Refusal}
use Rattle.numbers.specs.declared.Cursor.{Cursor}
use Rattle.numbers.specs.Answers.{answer_at, read_at, placed}
use Rattle.profile.specs.declared.rules.Wanted.{Wanted}
use Rattle.profile.specs.declared.rules.Wanted.TheVariants.{Program}
use Rattle.profile.specs.declared.rules.Rule.{Rule}
use Rattle.profile.specs.Rules.{rule_of, bit_rule, takes_count, takes_variable, takes_atom}

abbrev pub taken_at : ℕ → m.Read (Unit {0}) → Result Cursor Refusal
taken_at end g = answer_at placed end g

-- a head that no rule follows is refused
abbrev pub followed : m.Read (Option Rule) → m.Read Rule
followed (got (Some r) rest) = got r rest
followed (got None rest) = fault layout
followed (fault r) = fault r

abbrev pub rule_at : ℕ → m.Read (Option Rule) → Result (Rule × Cursor) Refusal
rule_at end g = read_at end (followed g)

unfoldable pub take_variable : ℕ → List ℕ → Wanted → Reader (Unit {0})
unfolding num_below
take_variable names around w = do
  n ← num_below names
  need layout (not (eqb (get_or around n 0) 0))
  need layout (takes_variable w)

unfoldable pub take_atom : Wanted → Reader (Unit {0})
unfolding num
take_atom w = do
  k ← num
  x ← num
  need layout (takes_atom w k x)

unfoldable pub take_word : Wanted → Reader (Option Rule)
unfolding num num_up_to last_rung_word
take_word w = do
  k ← num
  need layout (eqb k 4)
  x ← num_up_to over_limit last_rung_word
  give (rule_of w (word_numbered x))

-- `part` reads what is wanted of a part, `head` the head of an application that is to be what is wanted, and `inside` the body of a function of
-- some name

unfoldable pub take_all : ℕ → Reader (Unit {0}) → Reader (Unit {0})
take_all zero part = give tt
take_all (suc n) part = do
  part
  take_all n part

unfoldable pub take_arguments : (Wanted → Reader (Unit {0})) → Option Rule → ℕ → Reader (Unit {0})
unfolding take_all
take_arguments part None n = fail layout
take_arguments part (Some r) n = do
  need layout (takes_count r n)
  part r.first
  take_all (n - 1) (part r.others)

unfoldable pub bit_with : ℕ → (ℕ → Reader (Unit {0})) → Wanted → Reader (Option Rule)
unfolding num_below
bit_with names inside w = do
  n ← num_below names
  inside n
  give (bit_rule w)

unfoldable pub head_by : ℕ → (ℕ → Reader (Unit {0})) → Wanted → ℕ → Reader (Option Rule)
unfolding bit_with take_word
head_by names inside w zero = fail layout
head_by names inside w (suc zero) = fail layout
head_by names inside w (suc (suc zero)) = bit_with names inside w
head_by names inside w (suc (suc (suc zero))) = take_word w
head_by names inside w (suc (suc (suc (suc t)))) = fail layout

unfoldable pub take_application : (Wanted → Reader (Unit {0})) → (Wanted → Reader (Option Rule)) → Wanted → Reader (Unit {0})
unfolding num take_arguments
take_application part head w = do
  n ← num
  need layout (not (eqb n 0))
  r ← head w
  take_arguments part r (n - 1)

-- what follows the tag
unfoldable pub take_body : ℕ → List ℕ → (Wanted → Reader (Unit {0})) → (Wanted → Reader (Option Rule)) → Wanted → ℕ → Reader (Unit {0})
unfolding take_variable take_application take_atom
take_body names around part head w zero = take_variable names around w
take_body names around part head w (suc zero) = take_application part head w
take_body names around part head w (suc (suc zero)) = fail layout
take_body names around part head w (suc (suc (suc zero))) = take_atom w
take_body names around part head w (suc (suc (suc (suc t)))) = fail layout

-- where l levels are left: a tree, and a head, whose function has its body one level down
unfoldable mutual
  unfolding num take_body head_by

  pub take_tree : ℕ → ℕ → List ℕ → Wanted → Reader (Unit {0})
  take_tree names zero around w = fail layout
  take_tree names (suc l) around w = do
    t ← num
    take_body names around (λ v. take_tree names l around v) (λ v. take_head names l around v) w t

  pub take_head : ℕ → ℕ → List ℕ → Wanted → Reader (Option Rule)
  take_head names zero around w = fail layout
  take_head names (suc l) around w = do
    t ← num
    head_by names (λ n. take_tree names l (set around n 1) Program) w t

-- a function, whose body has l levels
unfoldable pub take_bit : ℕ → ℕ → List ℕ → Wanted → Reader (Option Rule)
unfolding bit_with take_tree
take_bit names l around w = bit_with names (λ n. take_tree names l (set around n 1) Program) w

-- ---- what the code says of the bytes behind a head that declares so many names

-- they are a program that is owned, and nothing more
pub record Found (h : m.Head) (s : List ℕ) : Type 0 where
  pub root : Tree
  pub reads : read_tree most_nesting h 0 s ≡ got root []
  pub program : is_program root ≡ true
  pub owned : closed [] root ≡ true

-- they are not
abbrev pub Missed : m.Head → List ℕ → Type 0
Missed h s = (t : Tree) → read_tree most_nesting h 0 s ≡ got t [] → closed [] t ≡ true → is_program t ≡ false

pub record Tells (names : ℕ) (s : List ℕ) (r : Bool) : Type 0 where
  pub found : r ≡ true → (h : m.Head) → h.names ≡ names → Found h s
  pub missed : r ≡ false → (h : m.Head) → h.names ≡ names → Missed h s
