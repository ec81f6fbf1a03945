-- Request T-01, cases worked out by hand, from image bytes to answer and words.
use mathlib.Core.Path.{◌≡◌, refl}
use Prim.Native.Nat.{ℕ, zero, suc}
use mathlib.Core.List.{List, [], ◌∷◌}
use Rattle.model.specs.Objects.{number}
use Rattle.model.specs.Trees.{Tree, var, app, fun, datum, lst, Trees, tnil}
use Rattle.model.specs.Writing.{tree_image_bytes}
use Rattle.requests.specs.Panel.{panel_job, PanelResult}
use Rattle.cases.proofs.PanelPrograms.{image, ◌▹◌, at, bit, word, and, all, out, set, latch, three}

abbrev checked : Tree → PanelResult
checked t = panel_job (image t) (9 ∷ 9 ∷ 9 ∷ [])

abbrev refuses : ℕ → PanelResult
refuses c = record { answer = record { code = c; units = 0; name = 0; len = 0; first = 0; second = 0 }; bits = 9 ∷ 9 ∷ 9 ∷ [] }

abbrev lists : ℕ → List ℕ → PanelResult
lists n l = record { answer = record { code = 0; units = 0; name = 0; len = n; first = 0; second = 0 }; bits = l }

-- ---- accepted

latch_checked : checked latch ≡ lists 4 (5 ∷ 9 ∷ 9 ∷ [])
unfolding panel_job tree_image_bytes
latch_checked = refl

-- outermost and leftmost first; equal names are two bits
three_checked : checked three ≡ lists 12 (4 ∷ 6 ∷ 4 ∷ [])
unfolding panel_job tree_image_bytes
three_checked = refl

four_too_long : checked (bit 7 0 three) ≡ refuses 20
unfolding panel_job tree_image_bytes
four_too_long = refl

-- ---- refused

-- 3 before 21
open_tree : checked (and (var 4 ▹ tnil)) ≡ refuses 3
unfolding panel_job tree_image_bytes
open_tree = refl

bare_point : checked (at 3) ≡ refuses 21
unfolding panel_job tree_image_bytes
bare_point = refl

start-two : checked (bit 4 2 (out (at 0) (var 4))) ≡ refuses 21
unfolding panel_job tree_image_bytes
start-two = refl

and_of_one : checked (out (at 0) (and (at 1 ▹ tnil))) ≡ refuses 21
unfolding panel_job tree_image_bytes
and_of_one = refl

all_of_none : checked (all tnil) ≡ refuses 21
unfolding panel_job tree_image_bytes
all_of_none = refl

-- driven twice, wherever the two stand; outside the profile anywhere is 21 all the same
twice : checked (all (out (at 3) (at 3) ▹ bit 4 0 (out (at 3) (var 4)) ▹ tnil)) ≡ refuses 22
unfolding panel_job tree_image_bytes
twice = refl

twice_and_outside : checked (all (out (at 3) (at 1) ▹ out (at 3) (at 2) ▹ at 0 ▹ tnil)) ≡ refuses 21
unfolding panel_job tree_image_bytes
twice_and_outside = refl

not_of_two : checked (out (at 0) (word 2 (at 1 ▹ at 2 ▹ tnil))) ≡ refuses 21
unfolding panel_job tree_image_bytes
not_of_two = refl

set_on_a_point : checked (set (at 0) (at 1)) ≡ refuses 21
unfolding panel_job tree_image_bytes
set_on_a_point = refl

out_on_a_bit : checked (bit 4 0 (out (var 4) (at 1))) ≡ refuses 21
unfolding panel_job tree_image_bytes
out_on_a_bit = refl

number_in_an_expression : checked (out (at 0) (datum (number 1))) ≡ refuses 21
unfolding panel_job tree_image_bytes
number_in_an_expression = refl

free-word : checked (out (at 0) (word 6 (at 1 ▹ at 2 ▹ tnil))) ≡ refuses 21
unfolding panel_job tree_image_bytes
free-word = refl

list-value : checked (out (at 0) (lst tnil)) ≡ refuses 21
unfolding panel_job tree_image_bytes
list-value = refl

bare_function : checked (fun 4 (out (at 0) (var 4))) ≡ refuses 21
unfolding panel_job tree_image_bytes
bare_function = refl

two_start_values : checked (app (fun 4 (out (at 0) (var 4))) (datum (number 0) ▹ datum (number 1) ▹ tnil)) ≡ refuses 21
unfolding panel_job tree_image_bytes
two_start_values = refl

-- 256 bits side by side are accepted as far as the words lent go (20), 257 are 23; a point driven twice comes before that
many : ℕ → Trees → Trees
many zero l = l
many (suc n) l = bit 4 0 (set (var 4) (at 1)) ▹ many n l

as_many_as_there_may_be : checked (all (many 256 tnil)) ≡ refuses 20
unfolding panel_job tree_image_bytes many
as_many_as_there_may_be = refl

too_many : checked (all (many 257 tnil)) ≡ refuses 23
unfolding panel_job tree_image_bytes many
too_many = refl

twice_and_too_many : checked (all (many 257 (out (at 3) (at 1) ▹ out (at 3) (at 2) ▹ tnil))) ≡ refuses 22
unfolding panel_job tree_image_bytes many
twice_and_too_many = refl
