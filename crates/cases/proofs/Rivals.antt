-- Request T-04: who competes. `rivals-at a b` is code 6 with the places a and b; every other case has the places 0 and 0. The wrong turn of document
-- 01, x{1,2} and x{3} for x{1,2,3}, is `most-scopes` (Cases). The images are bytes worked out by hand, with words and counts as in samples 1 to 6.
use mathlib.Core.Path.{◌≡◌, refl}
use Prim.Native.Nat.{ℕ}
use mathlib.Core.List.{List, [], ◌∷◌}
use Rattle.model.specs.Jobs.{resolve_job, expand_job, parse_job}
use Rattle.cases.proofs.Notation.{lent_table, lent_output, rivals-at, resolved, expanded, parsed}
use Rattle.cases.proofs.Images.{given_3}

-- x{1,2,3}; x{1} to 6, x{1,2} to 7, x{1,3} to 8: the others contain the first
abbrev given_first_contained : List ℕ
given_first_contained =
    1 ∷ 2 ∷ 1 ∷ 120 ∷ 1 ∷ 121 ∷ 3 ∷ 3
    ∷ 3 ∷ 4 ∷ 6 ∷ 1 ∷ 1 ∷ 4 ∷ 7 ∷ 2 ∷ 1 ∷ 2 ∷ 4 ∷ 8 ∷ 2 ∷ 1 ∷ 3
    ∷ 0 ∷ 3 ∷ 1 ∷ 2 ∷ 3 ∷ 0 ∷ 0 ∷ 4 ∷ []

first-contained : resolved 0 given_first_contained ≡ rivals-at 2 3 16 [] 1
unfolding resolve_job lent_table
first-contained = refl

-- x{1,2,3}; x{1,2} to 6, x{2} to 7, x{3} to 8: the first contains the second
abbrev given_second_contained : List ℕ
given_second_contained =
    1 ∷ 2 ∷ 1 ∷ 120 ∷ 1 ∷ 121 ∷ 3 ∷ 3
    ∷ 3 ∷ 4 ∷ 6 ∷ 2 ∷ 1 ∷ 2 ∷ 4 ∷ 7 ∷ 1 ∷ 2 ∷ 4 ∷ 8 ∷ 1 ∷ 3
    ∷ 0 ∷ 3 ∷ 1 ∷ 2 ∷ 3 ∷ 0 ∷ 0 ∷ 4 ∷ []

second-contained : resolved 0 given_second_contained ≡ rivals-at 1 3 16 [] 1
unfolding resolve_job lent_table
second-contained = refl

-- x{1,2,3}; x{1} to 6, x{2} to 7, x{3} to 8: three compete, and the first two are told
abbrev given_three : List ℕ
given_three =
    1 ∷ 2 ∷ 1 ∷ 120 ∷ 1 ∷ 121 ∷ 3 ∷ 3
    ∷ 3 ∷ 4 ∷ 6 ∷ 1 ∷ 1 ∷ 4 ∷ 7 ∷ 1 ∷ 2 ∷ 4 ∷ 8 ∷ 1 ∷ 3
    ∷ 0 ∷ 3 ∷ 1 ∷ 2 ∷ 3 ∷ 0 ∷ 0 ∷ 4 ∷ []

three_compete : resolved 0 given_three ≡ rivals-at 1 2 16 [] 1
unfolding resolve_job lent_table
three_compete = refl

-- x{1,2}; x{1} to 6, x{1,3} to 7, x{2} to 8: the second contains the first, but is no candidate; it has its place
abbrev given_no_candidate : List ℕ
given_no_candidate =
    1 ∷ 2 ∷ 1 ∷ 120 ∷ 1 ∷ 121 ∷ 3 ∷ 3
    ∷ 3 ∷ 4 ∷ 6 ∷ 1 ∷ 1 ∷ 4 ∷ 7 ∷ 2 ∷ 1 ∷ 3 ∷ 4 ∷ 8 ∷ 1 ∷ 2
    ∷ 0 ∷ 2 ∷ 1 ∷ 2 ∷ 0 ∷ 0 ∷ 4 ∷ []

no_candidate_between : resolved 0 given_no_candidate ≡ rivals-at 1 3 16 [] 1
unfolding resolve_job lent_table
no_candidate_between = refl

-- y{1,2}; x{1} to 6, y{1} to 7, y{2} to 8: the binding of x has its place
abbrev given_other_symbol : List ℕ
given_other_symbol =
    1 ∷ 2 ∷ 1 ∷ 120 ∷ 1 ∷ 121 ∷ 3 ∷ 3
    ∷ 3 ∷ 4 ∷ 6 ∷ 1 ∷ 1 ∷ 5 ∷ 7 ∷ 1 ∷ 1 ∷ 5 ∷ 8 ∷ 1 ∷ 2
    ∷ 0 ∷ 2 ∷ 1 ∷ 2 ∷ 0 ∷ 0 ∷ 5 ∷ []

other_symbol_before : resolved 0 given_other_symbol ≡ rivals-at 2 3 16 [] 1
unfolding resolve_job lent_table
other_symbol_before = refl

-- ---- in parse: the image of sample 3. Units: loading 1, the entry 1

rivals-parsed : parsed given_3 ≡ rivals-at 1 2 400 lent_output 2
unfolding parse_job lent_table lent_output
rivals-parsed = refl

-- ---- in expand: (lambda x y{1,2}); y{1} to 6, y{2} to 7. The binding of x that lambda makes stands before both, so each place is one more than in
-- the image. Units: loading 4, the entry 1, the binder 1, the scope on the body 1, the body's entry 1

abbrev given_bound_before : List ℕ
given_bound_before =
    1 ∷ 2 ∷ 1 ∷ 120 ∷ 1 ∷ 121 ∷ 3 ∷ 3
    ∷ 2 ∷ 5 ∷ 6 ∷ 1 ∷ 1 ∷ 5 ∷ 7 ∷ 1 ∷ 2
    ∷ 5 ∷ 0 ∷ 0 ∷ 0 ∷ 3 ∷ 0 ∷ 0 ∷ 0 ∷ 0 ∷ 0 ∷ 0 ∷ 0 ∷ 0 ∷ 0 ∷ 4 ∷ 0 ∷ 2 ∷ 1 ∷ 2 ∷ 0 ∷ 0 ∷ 5 ∷ []

rivals_expanded : expanded given_bound_before ≡ rivals-at 2 3 400 lent_output 8
unfolding expand_job lent_table lent_output
rivals_expanded = refl
