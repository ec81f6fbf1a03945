-- A sample: (syntax x{3}) with three scopes, x{1} bound to 5 and x{3} to 6. Binding x{1} goes, and so do scopes 1 and 2.
use mathlib.Core.Path.{◌≡◌, refl}
use Prim.Native.Nat.{ℕ}
use mathlib.Core.List.{List, [], ◌∷◌}
use Rattle.model.specs.Jobs.{written, parse_ending}
use Rattle.shrinking.specs.Shrunk.{smaller}

image : List ℕ
image =
    1 ∷ 1 ∷ 1 ∷ 120 ∷ 2 ∷ 3 ∷ 2 ∷ 4 ∷ 5 ∷ 1 ∷ 1 ∷ 4 ∷ 6 ∷ 1 ∷ 3
    ∷ 5 ∷ 0 ∷ 0 ∷ 0 ∷ 2 ∷ 0 ∷ 0 ∷ 0 ∷ 0 ∷ 3 ∷ 0 ∷ 1 ∷ 3 ∷ 0 ∷ 0 ∷ 4 ∷ []

result : List ℕ
result = 1 ∷ 1 ∷ 1 ∷ 120 ∷ 2 ∷ 1 ∷ 1 ∷ 4 ∷ 6 ∷ 1 ∷ 1 ∷ 5 ∷ 0 ∷ 0 ∷ 0 ∷ 2 ∷ 0 ∷ 0 ∷ 0 ∷ 0 ∷ 3 ∷ 0 ∷ 1 ∷ 1 ∷ 0 ∷ 0 ∷ 4 ∷ []

shrinks : smaller image ≡ result
unfolding smaller image result
shrinks = refl

twice : smaller result ≡ result
unfolding smaller result
twice = refl

-- (syntax x{3}), and (syntax x{1}) with one scope
parses : parse_ending image 1024 65536 ≡ written (2 ∷ 1 ∷ 1 ∷ 120 ∷ 2 ∷ 3 ∷ 5 ∷ 0 ∷ 1 ∷ 3 ∷ 0 ∷ 0 ∷ 4 ∷ []) 4
unfolding parse_ending image
parses = refl

parses_alike : parse_ending result 1024 65536 ≡ written (2 ∷ 1 ∷ 1 ∷ 120 ∷ 2 ∷ 1 ∷ 5 ∷ 0 ∷ 1 ∷ 1 ∷ 0 ∷ 0 ∷ 4 ∷ []) 4
unfolding parse_ending result
parses_alike = refl
