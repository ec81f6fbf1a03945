-- The contracts leave one answer, one output and one table: two functions that meet the contract of a job agree on every call.
use mathlib.Core.Path.{◌≡◌, sym, ◌∙◌, ap}
use Prim.Native.Nat.{ℕ}
use mathlib.Core.List.{List, []}
use Rattle.model.specs.Jobs.{Answer, Result}
use Rattle.proof_bench.specs.Meeting.{Call, Meets, Resolver, Expanding, Working, MeetsResolve, MeetsExpand, MeetsParse, MeetsEvaluate}

-- on a single input: two results that are the expected one are the same
pub one-result : (expected a b : Result) → Meets expected a → Meets expected b → a ≡ b
one-result expected a b p q =
    same a b (p.answer-is ∙ sym q.answer-is) (p.output-is ∙ sym q.output-is) (p.table_is ∙ sym q.table_is)
  where
    same : (a b : Result) → a.answer ≡ b.answer → a.output ≡ b.output → a.table ≡ b.table → a ≡ b
    same a b x y z =
        ap (λ (w : Answer). record { answer = w; output = a.output; table = a.table }) x
        ∙ ap (λ (w : List ℕ). record { answer = b.answer; output = w; table = a.table }) y
        ∙ ap (λ (w : List ℕ). record { answer = b.answer; output = b.output; table = w }) z

pub resolve_is_unique : (f g : Resolver) → MeetsResolve f → MeetsResolve g → (image : List ℕ) (ph budget : ℕ) (table : List ℕ)
    → Call image ph budget table [] → f image ph budget table ≡ g image ph budget table
resolve_is_unique f g p q image ph budget table c = one-result _ _ _ (p image ph budget table c) (q image ph budget table c)

pub expand_is_unique : (f g : Expanding) → MeetsExpand f → MeetsExpand g → (image : List ℕ) (ph budget : ℕ) (table output : List ℕ)
    → Call image ph budget table output → f image ph budget table output ≡ g image ph budget table output
expand_is_unique f g p q image ph budget table output c =
    one-result _ _ _ (p image ph budget table output c) (q image ph budget table output c)

pub parse_is_unique : (f g : Working) → MeetsParse f → MeetsParse g → (image : List ℕ) (budget : ℕ) (table output : List ℕ)
    → Call image 0 budget table output → f image budget table output ≡ g image budget table output
parse_is_unique f g p q image budget table output c = one-result _ _ _ (p image budget table output c) (q image budget table output c)

pub evaluate_is_unique : (f g : Working) → MeetsEvaluate f → MeetsEvaluate g → (image : List ℕ) (budget : ℕ) (table output : List ℕ)
    → Call image 0 budget table output → f image budget table output ≡ g image budget table output
evaluate_is_unique f g p q image budget table output c = one-result _ _ _ (p image budget table output c) (q image budget table output c)
