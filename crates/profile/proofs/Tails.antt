-- What is left after a taking is a tail of what was there.
use Prim.Native.Nat.{ℕ, zero, suc, ◌-◌}
use mathlib.Core.Bool.{not}
use mathlib.Core.List.{List}
use lib.Dec.{eqb}
use lib.ListN.{get_or, set}
use Rattle.std.specs.Prelude.{Option, Some, None}
use Rattle.model.specs.Refusals.{layout, over_limit}
use Rattle.model.specs.Reading.{Reader}
use Rattle.requests.specs.Panel.{word_numbered}
use Rattle.numbers.proofs.Tails.{Tail, tail_fault, tail_give, tail_next, tail_need, num_tail, up_to_tail, below_tail}
use Rattle.profile.specs.declared.rules.Wanted.{Wanted}
use Rattle.profile.specs.declared.rules.Wanted.TheVariants.{Program}
use Rattle.profile.specs.declared.rules.Rule.{Rule}
use Rattle.profile.specs.Rules.{rule_of, bit_rule, takes_count, takes_variable, takes_atom}
use Rattle.profile.specs.Taking.{take_variable, take_atom, take_word, take_all, take_arguments, bit_with, head_by, take_head, take_application, take_body, take_tree}

variable_tail : (names : ℕ) (around : List ℕ) (w : Wanted) (s : List ℕ) → Tail s (take_variable names around w s)
unfolding take_variable
variable_tail names around w s =
    tail_next _ (below_tail names s) (λ n t. tail_next _ (tail_need layout (not (eqb (get_or around n 0) 0)) t) (λ x u. tail_need layout (takes_variable w) u))

atom_tail : (w : Wanted) (s : List ℕ) → Tail s (take_atom w s)
unfolding take_atom
atom_tail w s = tail_next _ (num_tail s) (λ k t. tail_next _ (num_tail t) (λ x u. tail_need layout (takes_atom w k x) u))

word_tail : (w : Wanted) (s : List ℕ) → Tail s (take_word w s)
unfolding take_word
word_tail w s =
    tail_next _ (num_tail s) (λ k t. tail_next _ (tail_need layout (eqb k 4) t) (λ x u.
    tail_next _ (up_to_tail over_limit 15 u) (λ y v. tail_give (rule_of w (word_numbered y)) v)))

pub all_tail : (part : Reader (Unit {0})) → ((s : List ℕ) → Tail s (part s)) → (n : ℕ) (s : List ℕ) → Tail s (take_all n part s)
unfolding take_all
all_tail part h zero s = tail_give tt s
all_tail part h (suc n) s = tail_next _ (h s) (λ x t. all_tail part h n t)

head_by_tail : (names : ℕ) (inside : ℕ → Reader (Unit {0})) → ((n : ℕ) (s : List ℕ) → Tail s (inside n s)) → (w : Wanted) (t : ℕ) (s : List ℕ) → Tail s (head_by names inside w t s)
unfolding head_by bit_with
head_by_tail names inside h w zero s = tail_fault
head_by_tail names inside h w (suc zero) s = tail_fault
head_by_tail names inside h w (suc (suc zero)) s = tail_next _ (below_tail names s) (λ n t. tail_next _ (h n t) (λ x u. tail_give (bit_rule w) u))
head_by_tail names inside h w (suc (suc (suc zero))) s = word_tail w s
head_by_tail names inside h w (suc (suc (suc (suc t)))) s = tail_fault

module _ (part : Wanted → Reader (Unit {0})) (head : Wanted → Reader (Option Rule)) (h : (w : Wanted) (s : List ℕ) → Tail s (part w s)) (k : (w : Wanted) (s : List ℕ) → Tail s (head w s)) where
  arguments_tail : (r : Option Rule) (n : ℕ) (s : List ℕ) → Tail s (take_arguments part r n s)
  unfolding take_arguments
  arguments_tail None n s = tail_fault
  arguments_tail (Some r) n s =
      tail_next _ (tail_need layout (takes_count r n) s) (λ x t. tail_next _ (h r.first t) (λ y u. all_tail (part r.others) (h r.others) (n - 1) u))

  application_tail : (w : Wanted) (s : List ℕ) → Tail s (take_application part head w s)
  unfolding take_application
  application_tail w s =
      tail_next _ (num_tail s) (λ n t. tail_next _ (tail_need layout (not (eqb n 0)) t) (λ x u.
      tail_next _ (k w u) (λ r v. arguments_tail r (n - 1) v)))

  body_tail : (names : ℕ) (around : List ℕ) (w : Wanted) (t : ℕ) (s : List ℕ) → Tail s (take_body names around part head w t s)
  unfolding take_body
  body_tail names around w zero s = variable_tail names around w s
  body_tail names around w (suc zero) s = application_tail w s
  body_tail names around w (suc (suc zero)) s = tail_fault
  body_tail names around w (suc (suc (suc zero))) s = atom_tail w s
  body_tail names around w (suc (suc (suc (suc t)))) s = tail_fault

mutual
  unfolding take_tree take_head

  pub tree_tail : (names l : ℕ) (around : List ℕ) (w : Wanted) (s : List ℕ) → Tail s (take_tree names l around w s)
  tree_tail names zero around w s = tail_fault
  tree_tail names (suc l) around w s =
      tail_next _ (num_tail s) (λ t u. body_tail (take_tree names l around) (take_head names l around) (λ w s. tree_tail names l around w s) (λ w s. head_tail names l around w s) names around w t u)

  pub head_tail : (names l : ℕ) (around : List ℕ) (w : Wanted) (s : List ℕ) → Tail s (take_head names l around w s)
  head_tail names zero around w s = tail_fault
  head_tail names (suc l) around w s =
      tail_next _ (num_tail s) (λ t u. head_by_tail names (λ n. take_tree names l (set around n 1) Program) (λ n s. tree_tail names l (set around n 1) Program s) w t u)
