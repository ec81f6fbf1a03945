-- One answer more in the totals.
use mathlib.Core.Path.{◌≡◌, refl, ap, ◌∙◌}
use Prim.Native.Nat.{ℕ, ◌+◌, min}
use native.Mathlib.Omega.{arith}
use mathlib.Core.List.{List}
use lib.ListN.{get_or, set}
use mathlib.Core.Bool.{Bool, true, false}
use lib.Dec.{leb}
use Rattle.model.specs.Choice.{when◌then◌else◌}
use borrow.Author.Tests.{leb-true, leb-false}
use Rattle.reports.specs.declared.totals.Sums.{Sums}
use Rattle.reports.specs.Dividing.{too_long_line}
use Rattle.reports.specs.Totals.{top, capped, Totals, totals_of, counted}

-- a sum that stays at the top
pub capped-least : (n : ℕ) → min n top ≡ capped n
unfolding capped
capped-least n = go (leb n top) refl
  where
    go : (t : Bool) → leb n top ≡ t → min n top ≡ (when t then n else top)
    go true e = let h = leb-true n top e in omega arith
    go false e = let h = leb-false n top e in omega arith

pub one-counted : (counts : List ℕ) (code units : ℕ) {n u i : ℕ} (s : Sums) → n ≡ capped (get_or counts code 0 + 1) → u ≡ capped (s.units + units)
    → i ≡ capped (s.images + 1)
    → totals_of (record { units = u; images = i }) (set counts code n) ≡ counted (record { code = code; units = units }) (totals_of s counts)
unfolding counted
one-counted counts code units s p q r = λ j. record { counts = set counts code (p j); units = q j; images = r j }

-- the answer of code 2
pub two-counted : (t : Totals) {code : ℕ} {u : Totals} → code ≡ 2 → u ≡ counted (record { code = code; units = 0 }) t → u ≡ counted too_long_line t
two-counted t e h = h ∙ ap (λ (n : ℕ). counted (record { code = n; units = 0 }) t) e

pub ruleset totals_laws = (capped-least, one-counted, two-counted)
