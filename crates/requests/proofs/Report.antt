-- T-13: the totals of more answers are the sums, the report of two files one behind the other is that of their answers together, and no
-- answer is left out of a report.
use mathlib.Core.Path.{◌≡◌, refl, ap, ◌∙◌}
use Prim.Native.Nat.{ℕ, zero, suc, ◌+◌, ◌*◌, ◌/◌, ◌%◌, ◌≤◌, ◌<◌}
use native.Mathlib.Nat.{mod-lt, div-add-mod}
use native.Mathlib.Omega.{arith}
use mathlib.Core.Bool.{Bool, true, false}
use mathlib.Core.Option.{Option, none, some}
use mathlib.Core.List.{List, [], ◌∷◌, ◌++◌}
use lib.Dec.{eqb}
use lib.ListN.{length}
use borrow.Author.Tests.{lt-leb, eq-eqb, ne_eqb, eqb-true, eqb-false}
use Rattle.model.specs.Choice.{given}
use Rattle.model.specs.Limits.{most_image, program_budget}
use Rattle.model.specs.Refusals.{Refusal, layout, over_limit, unowned, wrong_kind, small_table, ambiguous, no_meaning, no_rule, no_syntax, not_applicable, wrong_argument, no_phase, no_name_left, no_scope_left, no_binding_left, too_deep, too_many_entries, over_budget, too_long, outside_use, code_of}
use Rattle.model.specs.Reading.{num, read_image}
use Rattle.model.specs.Jobs.{Ending, refused, named, written, Line, line_of, at_phase, with_image, expand_ending}
use Rattle.requests.specs.Report.{cut_off, and_then, first_of, images_of, single, answers_to, answers_in, one_if, times_given, units_of, last_code, report_from, report}
use Rattle.requests.proofs.Division.{one_image_at_a_time, images_of_both}

-- ---- the totals

pub answers_of_both : (a b : List (List ℕ)) → answers_to (a ++ b) ≡ answers_to a ++ answers_to b
unfolding answers_to
answers_of_both [] b = refl
answers_of_both (i ∷ a) b = ap (λ (z : List Line). single i ∷ z) (answers_of_both a b)

nothing-more : (n : ℕ) → n ≡ 0 + n
nothing-more n = omega arith

pub times_of_both : (c : ℕ) (a b : List Line) → times_given c (a ++ b) ≡ times_given c a + times_given c b
unfolding times_given
times_of_both c [] b = nothing-more (times_given c b)
times_of_both c (x ∷ a) b = let h = times_of_both c a b in omega arith

pub units_of_both : (a b : List Line) → units_of (a ++ b) ≡ units_of a + units_of b
unfolding units_of
units_of_both [] b = nothing-more (units_of b)
units_of_both (x ∷ a) b = let h = units_of_both a b in omega arith

-- the answers in a file: that to the first image, and those behind it
pub one_answer_at_a_time : (b : ℕ) (s : List ℕ)
    → answers_in (b ∷ s) ≡ given (cut_off (num (b ∷ s))) (λ r. given (answers_in r.1) (λ l. some (single r.0 ∷ l)))
unfolding answers_in answers_to first_of
one_answer_at_a_time b s = ap (λ (o : Option (List (List ℕ))). given o (λ l. some (answers_to l))) (one_image_at_a_time (b ∷ s)) ∙ first (cut_off (num (b ∷ s)))
  where
    others : (i : List ℕ) (o : Option (List (List ℕ))) → given (given o (λ l. some (i ∷ l))) (λ l. some (answers_to l))
        ≡ given (given o (λ l. some (answers_to l))) (λ l. some (single i ∷ l))
    others i none = refl
    others i (some l) = refl

    first : (o : Option (List ℕ × List ℕ)) → given (and_then images_of o) (λ l. some (answers_to l))
        ≡ given o (λ r. given (given (images_of r.1) (λ l. some (answers_to l))) (λ l. some (single r.0 ∷ l)))
    first none = refl
    first (some r) = others r.0 (images_of r.1)

-- of two whole files, one behind the other
pub report_of_both : (a b : List ℕ) (x y : List (List ℕ)) → images_of a ≡ some x → images_of b ≡ some y
    → report (a ++ b) ≡ report_from (some (answers_to x ++ answers_to y))
unfolding report answers_in
report_of_both a b x y e f =
    ap (λ (o : Option (List (List ℕ))). report_from (given o (λ l. some (answers_to l)))) (images_of_both a b x y e f)
    ∙ ap (λ (l : List Line). report_from (some l)) (answers_of_both x y)

-- ---- the mean: quotient and remainder over the number of images

pub mean_is : (total n : ℕ) → (suc n * (total / suc n) + total % suc n ≡ total) × (total % suc n < suc n)
mean_is total n = (div-add-mod total (suc n), mod-lt total (positive n))
  where
    positive : (m : ℕ) → 0 < suc m
    positive m = omega arith

-- ---- single answers

-- an image over 65,536 bytes, whatever its bytes are
pub single_too_long : (image : List ℕ) → most_image < length image → single image ≡ record { code = 2; units = 0 }
unfolding single line_of expand_ending at_phase with_image read_image most_image
single_too_long image h = rw (lt-leb (length image) 65536 h)

code-within : (r : Refusal) → code_of r ≤ 32
code-within layout = omega arith
code-within over_limit = omega arith
code-within unowned = omega arith
code-within wrong_kind = omega arith
code-within small_table = omega arith
code-within ambiguous = omega arith
code-within no_meaning = omega arith
code-within no_rule = omega arith
code-within no_syntax = omega arith
code-within not_applicable = omega arith
code-within wrong_argument = omega arith
code-within no_phase = omega arith
code-within no_name_left = omega arith
code-within no_scope_left = omega arith
code-within no_binding_left = omega arith
code-within too_deep = omega arith
code-within too_many_entries = omega arith
code-within over_budget = omega arith
code-within too_long = omega arith
code-within outside_use = omega arith

line_within : (e : Ending) → (line_of 0 e).code ≤ last_code
unfolding line_of last_code
line_within (refused r p u) = code-within r
line_within (named n u) = omega arith
line_within (written b u) = omega arith

-- every answer is counted in a line of the report
pub single-listed : (image : List ℕ) → (single image).code ≤ last_code
unfolding single
single-listed image = line_within (expand_ending image 0 program_budget most_image)

-- ---- the counts of all codes add up to the number of answers

-- how often one of the k codes from c on was given
unfoldable pub times_from : ℕ → ℕ → List Line → ℕ
unfolding times_given
times_from zero c l = 0
times_from (suc k) c l = times_given c l + times_from k (suc c) l

one_if_not : (c x : ℕ) → (c ≡ x → ⊥) → one_if (eqb c x) ≡ 0
unfolding one_if
one_if_not c x h = rw (ne_eqb c x h)

one_if_so : (c x : ℕ) → c ≡ x → one_if (eqb c x) ≡ 1
unfolding one_if
one_if_so c x h = rw (eq-eqb c x h)

below : (k c : ℕ) (a : Line) (l : List Line) → a.code < c → times_from k c (a ∷ l) ≡ times_from k c l
unfolding times_from times_given
below zero c a l h = refl
below (suc k) c a l h =
    let r = below k (suc c) a l (omega arith) in
    let o = one_if_not c a.code (λ e. omega arith) in
    omega arith

once : (k c : ℕ) (a : Line) (l : List Line) → c ≤ a.code → a.code < c + k → times_from k c (a ∷ l) ≡ suc (times_from k c l)
unfolding times_from times_given
once zero c a l h m = absurd (omega arith)
once (suc k) c a l h m = by (λ q. once k (suc c) a l q (omega arith)) (eqb c a.code) refl
  where
    by : (suc c ≤ a.code → times_from k (suc c) (a ∷ l) ≡ suc (times_from k (suc c) l)) → (t : Bool) → eqb c a.code ≡ t → times_from (suc k) c (a ∷ l) ≡ suc (times_from (suc k) c l)
    by f true e =
        let q = eqb-true c a.code e in
        let o = one_if_so c a.code q in
        let r = below k (suc c) a l (omega arith) in
        omega arith
    by f false e =
        let q = eqb-false c a.code e in
        let o = one_if_not c a.code q in
        let r = f (omega arith) in
        omega arith

pub all-counted : (l : List (List ℕ)) → times_from (suc last_code) 0 (answers_to l) ≡ length l
unfolding answers_to times_from times_given last_code
all-counted [] = refl
all-counted (i ∷ l) =
    let h = single-listed i in
    once (suc last_code) 0 (single i) (answers_to l) (omega arith) (omega arith) ∙ ap suc (all-counted l)
