-- Document 01's endings are those of the jobs.
use Prim.Native.Nat.{ℕ, ◌≤◌, ◌<◌}
use mathlib.Core.Path.{◌≡◌, refl, subst}
use mathlib.Core.Bool.{Bool, true, false}
use mathlib.Core.List.{List, []}
use lib.ListN.{length}
use lib.Dec.{leb}
use borrow.Author.Tests.{le-leb, lt-leb}
use Rattle.model.specs.Choice.{when◌then◌else◌}
use Rattle.model.specs.Limits.{most_entries, last_phase, most_image}
use Rattle.model.specs.Refusals.{over_limit, unowned}
use Rattle.model.specs.Trees.{Tree, load_size}
use Rattle.model.specs.Competing.{no_rivals}
use Rattle.model.specs.Reading.{Read, got, fault, next, need, Image, read_tree_image, read_image}
use Rattle.model.specs.Writing.{tree_image_bytes, syntax_bytes}
use Rattle.model.specs.Steps.{after, charge}
use Rattle.model.specs.Meanings.{nowhere}
use Rattle.model.specs.Expanding.{evaluate}
use Rattle.model.specs.Jobs as m
use Rattle.model.specs.Jobs.{at_phase, with_image, worked, start, closed, evaluate_root, evaluate_ending, parse_root, parse_ending, expand_root, expand_ending}
use Rattle.refusals.specs.declared.Refusal.TheVariants as refusal
use Rattle.finish.specs.declared.Ending.{Ending}
use Rattle.finish.specs.declared.Ending.TheVariants.{Refused}
use Rattle.finish.specs.Finishing.{tree_images}
use Rattle.finish.specs.Ends.{EndsAs}
use Rattle.finish.proofs.Ends.{ends-refused}
use Rattle.image.specs.Judging.{read_owned}
use Rattle.jobs.specs.Working.{writes, evaluating, parsing, expanding, job_ending}

evaluate-is : (image : List ℕ) (budget room : ℕ) → job_ending evaluating budget room image ≡ evaluate_ending image budget room
unfolding job_ending evaluate_ending read_image read_owned with_image evaluate_root most_entries writes tree_image_bytes
evaluate-is image budget room = go (leb (length image) most_image) (read_tree_image image)
  where
    W : Image Tree → m.Ending
    W i = worked budget (after (charge (load_size i.root) (start budget i)) (λ u. evaluate 128 nowhere i.root)) (writes (λ b. tree_images) budget room i.head)

    owned : (i : Image Tree) (t : List ℕ) (b : Bool) → with_image (next (need unowned b t) (λ x u. got i u)) W ≡ (when b then W i else m.refused unowned no_rivals 0)
    owned i t true = refl
    owned i t false = refl

    go : (b : Bool) (g : Read (Image Tree))
        → with_image (when b then next g (λ i t. next (need unowned (closed [] i.root) t) (λ x u. got i u)) else fault over_limit) W
        ≡ with_image (when b then g else fault over_limit) (λ i. when closed [] i.root then W i else m.refused unowned no_rivals 0)
    go false g = refl
    go true (fault f) = refl
    go true (got i t) = owned i t (closed [] i.root)

pub evaluate-ends : (image : List ℕ) (budget : ℕ) {out out' : List ℕ} {x : Ending} → EndsAs (job_ending evaluating budget (length out) image) out out' x → EndsAs (evaluate_ending image budget (length out)) out out' x
evaluate-ends image budget {out} {out'} {x} y = subst (λ (z : m.Ending). EndsAs z out out' x) (evaluate-is image budget (length out)) y

parse-is : (image : List ℕ) (budget room : ℕ) → job_ending parsing budget room image ≡ parse_ending image budget room
unfolding job_ending parse_ending parse_root most_entries writes tree_image_bytes
parse-is image budget room = refl

pub parse-ends : (image : List ℕ) (budget : ℕ) {out out' : List ℕ} {x : Ending} → EndsAs (job_ending parsing budget (length out) image) out out' x → EndsAs (parse_ending image budget (length out)) out out' x
parse-ends image budget {out} {out'} {x} y = subst (λ (z : m.Ending). EndsAs z out out' x) (parse-is image budget (length out)) y

-- ---- the phase comes first

pub expand-refused : (image : List ℕ) (ph budget : ℕ) (out : List ℕ) → 2 < ph → EndsAs (expand_ending image ph budget (length out)) out out (Refused refusal.NoPhase 0)
unfolding expand_ending at_phase last_phase
expand-refused image ph budget out high = ends-refused {f = refusal.NoPhase} out (rw (lt-leb ph 2 high) refl)

expand-is : (image : List ℕ) (ph budget room : ℕ) → ph ≤ 2 → job_ending (expanding ph) budget room image ≡ expand_ending image ph budget room
unfolding job_ending expand_ending expand_root most_entries writes syntax_bytes at_phase last_phase
expand-is image ph budget room low = rw (le-leb ph 2 low) refl

pub expand-ends : (image : List ℕ) (ph budget : ℕ) {out out' : List ℕ} {x : Ending} → ph ≤ 2 → EndsAs (job_ending (expanding ph) budget (length out) image) out out' x
    → EndsAs (expand_ending image ph budget (length out)) out out' x
expand-ends image ph budget {out} {out'} {x} low y = subst (λ (z : m.Ending). EndsAs z out out' x) (expand-is image ph budget (length out) low) y

pub ruleset phase_laws = (expand-refused, expand-ends)
