-- How the jobs end, taken apart: each as its work's parts say.
use mathlib.Core.Path.{◌≡◌, refl, sym, ap, subst}
use Prim.Native.Nat.{ℕ, ◌-◌, ◌≤◌, zero-le}
use native.Mathlib.Omega.{arith}
use mathlib.Core.Bool.{Bool, true, false, ◌&&◌}
use mathlib.Core.List.{List, [], ◌∷◌, ◌++◌}
use lib.Dec.{leb}
use lib.ListN.{length, take, drop, length-append}
use Rattle.model.specs.Choice.{when◌then◌else◌}
use Rattle.model.specs.Limits.{most_image, most_entries, last_phase}
use Rattle.model.specs.Refusals.{Refusal, layout, over_limit, unowned, wrong_kind, small_table, ambiguous, no_meaning, no_rule, no_syntax, not_applicable, wrong_argument, no_phase, no_name_left, no_scope_left, no_binding_left, too_deep, too_many_entries, over_budget, too_long, outside_use, code_of}
use Rattle.model.specs.Objects.{Stx, size}
use Rattle.model.specs.Trees.{Tree, load_size}
use Rattle.model.specs.Competing.{Rivals, no_rivals}
use Rattle.model.specs.Reading.{Read, got, fault, Image, read_syntax, read_tree_image, read_image}
use Rattle.model.specs.Writing.{syntax_bytes, tree_image_bytes}
use Rattle.model.specs.Meanings.{of_root, nowhere}
use Rattle.model.specs.Steps.{State, Out, ok, no, after, charge}
use Rattle.model.specs.Parsing.{parse}
use Rattle.model.specs.Expanding.{expand, evaluate}
use Rattle.model.specs.Jobs.{Ending, refused, named, written, answer_of, output_after, Result, budget_fits, lent, cleared, at_phase, with_image, start, worked, fitted, reached, resolve_root, expand_root, parse_root, evaluate_root, closed, resolve_ending, expand_ending, parse_ending, evaluate_ending, resolve_job, expand_job, parse_job, evaluate_job}
use borrow.Author.Tests.{le-leb, leb-true}
use Rattle.laws.proofs.Tests.{and_both}
use Rattle.addresses.specs.OneNameOneAddress.{image_written}

-- ---- the definitions, one step open

pub expand_root-is : (ph : ℕ) (x : Stx) (s : State) → expand_root ph x s ≡ after (charge (size x) s) (λ v. expand most_entries (of_root ph) x)
unfolding expand_root
expand_root-is ph x s = refl

pub parse_root-is : (x : Stx) (s : State) → parse_root x s ≡ after (charge (size x) s) (λ v. parse most_entries 0 x)
unfolding parse_root
parse_root-is x s = refl

pub evaluate_root-is : (t : Tree) (s : State) → evaluate_root t s ≡ after (charge (load_size t) s) (λ v. evaluate most_entries nowhere t)
unfolding evaluate_root
evaluate_root-is t s = refl

-- what each job does with an image that it has read
abbrev pub resolve_work : ℕ → ℕ → Image Stx → Ending
resolve_work ph budget i = worked budget (resolve_root ph i.root (start budget i)) (λ n s. named n (budget - s.left))

abbrev pub expand_work : ℕ → ℕ → ℕ → Image Stx → Ending
expand_work ph budget room i =
    worked budget (expand_root ph i.root (start budget i)) (λ r s. fitted room (syntax_bytes (reached i.head s) s.binds r) (budget - s.left))

abbrev pub parse_work : ℕ → ℕ → Image Stx → Ending
parse_work budget room i =
    worked budget (parse_root i.root (start budget i)) (λ r s. fitted room (tree_image_bytes (reached i.head s) r) (budget - s.left))

abbrev pub evaluate_work : ℕ → ℕ → Image Tree → Ending
evaluate_work budget room i =
    when closed [] i.root
    then worked budget (evaluate_root i.root (start budget i)) (λ r s. fitted room (tree_image_bytes (reached i.head s) r) (budget - s.left))
    else refused unowned no_rivals 0

pub resolve_ending-is : (image : List ℕ) (ph budget : ℕ) → resolve_ending image ph budget ≡ at_phase ph (with_image (read_image read_syntax image) (resolve_work ph budget))
unfolding resolve_ending
resolve_ending-is image ph budget = refl

pub expand_ending-is : (image : List ℕ) (ph budget room : ℕ)
    → expand_ending image ph budget room ≡ at_phase ph (with_image (read_image read_syntax image) (expand_work ph budget room))
unfolding expand_ending
expand_ending-is image ph budget room = refl

pub parse_ending-is : (image : List ℕ) (budget room : ℕ) → parse_ending image budget room ≡ with_image (read_image read_syntax image) (parse_work budget room)
unfolding parse_ending
parse_ending-is image budget room = refl

pub evaluate_ending-is : (image : List ℕ) (budget room : ℕ)
    → evaluate_ending image budget room ≡ with_image (read_image read_tree_image image) (evaluate_work budget room)
unfolding evaluate_ending
evaluate_ending-is image budget room = refl

pub resolve_job-is : (image : List ℕ) (ph budget : ℕ) (table : List ℕ) → resolve_job image ph budget table ≡ lent budget table [] (resolve_ending image ph budget)
unfolding resolve_job
resolve_job-is image ph budget table = refl

pub expand_job-is : (image : List ℕ) (ph budget : ℕ) (table output : List ℕ)
    → expand_job image ph budget table output ≡ lent budget table output (expand_ending image ph budget (length output))
unfolding expand_job
expand_job-is image ph budget table output = refl

pub parse_job-is : (image : List ℕ) (budget : ℕ) (table output : List ℕ)
    → parse_job image budget table output ≡ lent budget table output (parse_ending image budget (length output))
unfolding parse_job
parse_job-is image budget table output = refl

pub evaluate_job-is : (image : List ℕ) (budget : ℕ) (table output : List ℕ)
    → evaluate_job image budget table output ≡ lent budget table output (evaluate_ending image budget (length output))
unfolding evaluate_job
evaluate_job-is image budget table output = refl

pub with_read : {R : Type 0} (o : Read (Image R)) (f : Image R → Ending) (i : Image R) (rest : List ℕ) → o ≡ got i rest → with_image o f ≡ f i
unfolding with_image
with_read o f i rest e = rw e

pub worked-ok : {A : Type 0} (budget : ℕ) (o : Out A) (f : A → State → Ending) (a : A) (s : State) → o ≡ ok a s → worked budget o f ≡ f a s
unfolding worked
worked-ok budget o f a s e = rw e

pub worked-no : {A : Type 0} (budget : ℕ) (o : Out A) (f : A → State → Ending) (r : Refusal) {p : Rivals} (u : ℕ) → o ≡ no r p u → worked budget o f ≡ refused r p (budget - u)
unfolding worked
worked-no budget o f r u e = rw e

pub fitted-is : (room : ℕ) (b : List ℕ) (u : ℕ) → length b ≤ room → length b ≤ most_image → fitted room b u ≡ written b u
unfolding fitted
fitted-is room b u h k = rw (le-leb (length b) room h, le-leb (length b) most_image k)

-- what a job gives after its ending e, and what it gives where budget or table do not fit
abbrev pub after-ending : ℕ → List ℕ → List ℕ → Ending → Result
after-ending budget table output e = record { answer = answer_of e; output = output_after e output; table = cleared budget table }

abbrev pub untouched : List ℕ → List ℕ → Result
untouched table output = record { answer = answer_of (refused small_table no_rivals 0); output = output; table = table }

pub lent_cases : (P : Result → Type 0) (budget : ℕ) (table output : List ℕ) (e : Ending)
    → P (after-ending budget table output e) → P (untouched table output) → P (lent budget table output e)
unfolding lent
lent_cases P budget table output e p q = go (budget_fits budget (length table))
  where
    go : (b : Bool) → P (when b then after-ending budget table output e else untouched table output)
    go true = p
    go false = q

-- what is written lies within the output
length-within : (output : List ℕ) (e : Ending) → (answer_of e).len ≤ length (output_after e output)
unfolding answer_of output_after
length-within output (refused r p u) = zero-le
length-within output (named n u) = zero-le
length-within output (written b u) = simp length-append (omega arith)

pub lent-within : (budget : ℕ) (table output : List ℕ) (e : Ending) → (lent budget table output e).answer.len ≤ length (lent budget table output e).output
unfolding answer_of
lent-within budget table output e = lent_cases (λ (z : Result). z.answer.len ≤ length z.output) budget table output e (length-within output e) zero-le

pub lent-code : (budget : ℕ) (table output : List ℕ) (r : Refusal) (p : Rivals) (u : ℕ) → budget_fits budget (length table) ≡ true
    → (lent budget table output (refused r p u)).answer.code ≡ code_of r
unfolding lent answer_of
lent-code budget table output r p u e = rw e

-- ---- what holds of every refusal, and of what is written where something is

module _ (P : Ending → Type 0) (by-refusal : (r : Refusal) (p : Rivals) (u : ℕ) → P (refused r p u)) where
  pub fitted_case : (room : ℕ) (b : List ℕ) (u : ℕ) → (length b ≤ most_image → P (written b u)) → P (fitted room b u)
  unfolding fitted
  fitted_case room b u h = go (leb (length b) room && leb (length b) most_image) refl
    where
      go : (t : Bool) → (leb (length b) room && leb (length b) most_image) ≡ t → P (when t then written b u else refused too_long no_rivals u)
      go true e = h (leb-true (length b) most_image (and_both (leb (length b) room) (leb (length b) most_image) e).1)
      go false e = by-refusal too_long no_rivals u

  pub worked_case : {A : Type 0} (budget : ℕ) (o : Out A) (f : A → State → Ending) → ((a : A) (s : State) → o ≡ ok a s → P (f a s)) → P (worked budget o f)
  unfolding worked
  worked_case budget (ok a s) f h = h a s refl
  worked_case budget (no r p u) f h = by-refusal r p (budget - u)

  pub image_case : {R : Type 0} (o : Read (Image R)) (f : Image R → Ending) → ((i : Image R) (rest : List ℕ) → o ≡ got i rest → P (f i)) → P (with_image o f)
  unfolding with_image
  image_case (got i rest) f h = h i rest refl
  image_case (fault r) f h = by-refusal r no_rivals 0

  pub phase_case : (ph : ℕ) (e : Ending) → P e → P (at_phase ph e)
  unfolding at_phase
  phase_case ph e h = go (leb ph last_phase)
    where
      go : (t : Bool) → P (when t then e else refused no_phase no_rivals 0)
      go true = h
      go false = by-refusal no_phase no_rivals 0

-- ---- code 0

-- no refusal has code 0
pub code-some : (r : Refusal) → code_of r ≡ 0 → ⊥
code-some layout e = omega arith
code-some over_limit e = omega arith
code-some unowned e = omega arith
code-some wrong_kind e = omega arith
code-some small_table e = omega arith
code-some ambiguous e = omega arith
code-some no_meaning e = omega arith
code-some no_rule e = omega arith
code-some no_syntax e = omega arith
code-some not_applicable e = omega arith
code-some wrong_argument e = omega arith
code-some no_phase e = omega arith
code-some no_name_left e = omega arith
code-some no_scope_left e = omega arith
code-some no_binding_left e = omega arith
code-some too_deep e = omega arith
code-some too_many_entries e = omega arith
code-some over_budget e = omega arith
code-some too_long e = omega arith
code-some outside_use e = omega arith

-- a job that answers 0 ended with a name or with an image that was written
abbrev pub Ended : Ending → Type 0
Ended (refused r p u) = ⊥
Ended (named n u) = Unit {0}
Ended (written b u) = Unit {0}

ended-code : (e : Ending) → (answer_of e).code ≡ 0 → Ended e
unfolding answer_of
ended-code (refused r p u) q = code-some r q
ended-code (named n u) q = tt
ended-code (written b u) q = tt

pub lent-ended : (budget : ℕ) (table output : List ℕ) (e : Ending) → (lent budget table output e).answer.code ≡ 0
    → Ended e × (lent budget table output e ≡ after-ending budget table output e)
unfolding answer_of
lent-ended budget table output e =
    lent_cases (λ (z : Result). z.answer.code ≡ 0 → Ended e × (z ≡ after-ending budget table output e)) budget table output e
    (λ q. (ended-code e q, refl)) (λ q. absurd (code-some small_table q))

-- ---- the start of what was written over

pub take_whole : (b l : List ℕ) → take (length b) (b ++ l) ≡ b
take_whole [] l = refl
take_whole (n ∷ b) l = ap (λ (z : List ℕ). n ∷ z) (take_whole b l)

-- ---- what holds of the image that a job has written

abbrev pub Wrote : (List ℕ → Type 0) → Ending → Type 0
Wrote Q (refused r p u) = Unit {0}
Wrote Q (named n u) = ⊥
Wrote Q (written b u) = Q b

pub nothing_wrote : (Q : List ℕ → Type 0) (r : Refusal) (p : Rivals) (u : ℕ) → Wrote Q (refused r p u)
nothing_wrote Q r p u = tt

pub job_wrote : (Q : List ℕ → Type 0) (budget : ℕ) (table output : List ℕ) (e : Ending) → Wrote Q e → (lent budget table output e).answer.code ≡ 0
    → Q (image_written (lent budget table output e))
unfolding image_written answer_of output_after
job_wrote Q budget table output e w q =
    let p = lent-ended budget table output e q in
    subst (λ (z : Result). Q (image_written z)) (sym p.1) (go e p.0 w)
  where
    go : (e : Ending) → Ended e → Wrote Q e → Q (image_written (after-ending budget table output e))
    go (refused r p u) d w = absurd d
    go (named n u) d w = absurd w
    go (written b u) d w = subst Q (sym (take_whole b (drop (length b) output))) w
