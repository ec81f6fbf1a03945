-- Request T-10, cases worked out by hand: where is this bit used. A summary from image bytes, a question to it, and a part replaced, up to
-- answer, output and summary. The tree stands above each: $4 a variable, (..) an application, [4 ..] a function, <..> a list value, `.. a
-- syntax value. Places count from 0, a whole before its parts, left to right; where they are not plain,
-- a line has the last digit of each.
use Prim.Native.Nat.{ℕ, zero, suc}
use mathlib.Core.Path.{◌≡◌, refl}
use mathlib.Core.List.{List, [], ◌∷◌, ◌++◌}
use lib.ListN.{replicate, drop}
use Rattle.model.specs.Jobs.{Answer}
use Rattle.requests.specs.Uses.{summary_job, SummaryResult, uses_job, UsesAnswer}
use Rattle.requests.specs.Replacing.{replace_job, ReplaceResult}

-- ---- notation: the bytes of a tree, and before them those of a head without words and scopes, with the made names 4 to 7

abbrev image : List ℕ → List ℕ
image tree = 2 ∷ 0 ∷ 4 ∷ 0 ∷ tree

-- $n
abbrev var : ℕ → List ℕ → List ℕ
var n rest = 0 ∷ n ∷ rest

-- an application of k trees, a function, a list value of k
abbrev app : ℕ → List ℕ → List ℕ
app k rest = 1 ∷ k ∷ rest

abbrev fun : ℕ → List ℕ → List ℕ
fun n rest = 2 ∷ n ∷ rest

abbrev lst : ℕ → List ℕ → List ℕ
lst k rest = 4 ∷ k ∷ rest

-- a number, a point, a rung word
abbrev num : ℕ → List ℕ → List ℕ
num n rest = 3 ∷ 1 ∷ n ∷ rest

abbrev point : ℕ → List ℕ → List ℕ
point n rest = 3 ∷ 2 ∷ n ∷ rest

abbrev rung : ℕ → List ℕ → List ℕ
rung n rest = 3 ∷ 4 ∷ n ∷ rest

-- @1024, which is over the limit
abbrev point_1024 : List ℕ
point_1024 = 3 ∷ 2 ∷ 128 ∷ 8 ∷ []

-- a syntax image: x
abbrev syntax-image : List ℕ
syntax-image = 1 ∷ 1 ∷ 1 ∷ 120 ∷ 0 ∷ 0 ∷ 0 ∷ 0 ∷ 0 ∷ 0 ∷ 0 ∷ 4 ∷ []

-- the summary of a tree with these eight names, of which those of core forms have no use: its size, and the entries of 4 to 7
infix 70 ◌at◌
abbrev ◌at◌ : ℕ → ℕ → List ℕ
count at first = count ∷ first ∷ []

abbrev none : List ℕ
none = 0 at 0

abbrev summary : ℕ → List ℕ → List ℕ → List ℕ → List ℕ → List ℕ
summary size e4 e5 e6 e7 = size ∷ 8 ∷ replicate 8 0 ++ e4 ++ e5 ++ e6 ++ e7

abbrev largest : ℕ
largest = 4294967295

abbrev answered : ℕ → ℕ → Answer
answered c n = record { code = c; units = 0; name = 0; len = n; first = 0; second = 0 }

-- ([4 ('all ('set $4 ('or @1 $4)) ('out @10 $n))] 0)
-- 01  23    45    6  78   9  0    12    3   4     5
abbrev panel : ℕ → List ℕ
panel n = app 2 (fun 4 (app 3 (rung 5 (app 3 (rung 4 (var 4 (app 3 (rung 1 (point 1 (var 4 (app 3 (rung 3 (point 10 (var n (num 0 [])))))))))))))))

-- ==== the summary of a tree: twenty words are lent, all 7, of which it takes eighteen

abbrev sums : List ℕ → SummaryResult
sums tree = summary_job (image tree) (replicate 20 7)

abbrev makes : List ℕ → SummaryResult
makes s = record { answer = answered 0 72; summary = s ++ 7 ∷ 7 ∷ [] }

abbrev sums-not : ℕ → SummaryResult
sums-not c = record { answer = answered c 0; summary = replicate 20 7 }

-- (1 $5 $4 $5 $4 $4): how many, and the place of the first; a name with no use has 0 and 0
first_of_several : sums (app 6 (num 1 (var 5 (var 4 (var 5 (var 4 (var 4 []))))))) ≡ makes (summary 7 (3 at 3) (2 at 2) none none)
unfolding summary_job
first_of_several = refl

-- $4: place 0, and yet a use
root_is_place_0 : sums (var 4 []) ≡ makes (summary 1 (1 at 0) none none none)
unfolding summary_job
root_is_place_0 = refl

-- [4 9]: a function's own name is no use
own_name : sums (fun 4 (num 9 [])) ≡ makes (summary 2 none none none none)
unfolding summary_job
own_name = refl

-- ([4 ('all ('set $4 ('or @1 $4)) ('out @10 $4))] 0): two contacts, and before them the coil that sets the bit
contacts_and_coil : sums (panel 4) ≡ makes (summary 16 (3 at 6) none none none)
unfolding summary_job
contacts_and_coil = refl

-- (<[4 $5] <> [5 $5]> $5): a list value counts one, an empty one too
-- 012  3   4  5  6    7
functions_in_list_values : sums (app 2 (lst 3 (fun 4 (var 5 (lst 0 (fun 5 (var 5 (var 5 [])))))))) ≡ makes (summary 8 none (3 at 3) none none)
unfolding summary_job
functions_in_list_values = refl

-- ($4 `(x (y 1) () x) $4), with the words x = 4 and y = 5: a syntax value counts one, and the symbols in it are no uses
hidden_in_syntax : summary_job (2 ∷ 2 ∷ 1 ∷ 120 ∷ 1 ∷ 121 ∷ 0 ∷ 0 ∷ app 3 (var 4 (5 ∷ 5 ∷ 0 ∷ 0 ∷ 0 ∷ 4 ∷ 0 ∷ 0 ∷ 0 ∷ 0 ∷ 4 ∷ 5 ∷ 0 ∷ 0 ∷ 0 ∷ 2 ∷ 0 ∷ 0 ∷ 0 ∷ 0 ∷ 5 ∷ 1 ∷ 0 ∷ 0 ∷ 0 ∷ 1 ∷ 5 ∷ 0 ∷ 0 ∷ 0 ∷ 0 ∷ 0 ∷ 0 ∷ 0 ∷ 0 ∷ 4 ∷ var 4 []))) (replicate 14 7)
    ≡ record { answer = answered 0 56; summary = 4 ∷ 6 ∷ replicate 8 0 ++ 2 at 1 ++ none }
unfolding summary_job
hidden_in_syntax = refl

-- ($7 [4 $5]): neither 7 nor 5 is in scope, and code 3 is not asked
open_tree : sums (app 2 (var 7 (fun 4 (var 5 [])))) ≡ makes (summary 4 none (1 at 3) none (1 at 1))
unfolding summary_job
open_tree = refl

-- ---- refused: the words lent stay as they are

-- $4, and just as many words as it takes
just_enough_words : summary_job (image (var 4 [])) (replicate 18 7) ≡ record { answer = answered 0 72; summary = summary 1 (1 at 0) none none none }
unfolding summary_job
just_enough_words = refl

-- one fewer is 20
one_word_short : summary_job (image (var 4 [])) (replicate 17 7) ≡ record { answer = answered 20 0; summary = replicate 17 7 }
unfolding summary_job
one_word_short = refl

-- $8 of eight names
not-declared : sums (var 8 []) ≡ sums-not 1
unfolding summary_job
not-declared = refl

-- @1024
over_the_limit : sums point_1024 ≡ sums-not 2
unfolding summary_job
over_the_limit = refl

-- a syntax image
wrong-kind : summary_job syntax-image (replicate 20 7) ≡ sums-not 4
unfolding summary_job
wrong-kind = refl

-- the image's own faults come before 20
nothing_at_all : summary_job [] [] ≡ record { answer = answered 1 0; summary = [] }
unfolding summary_job
nothing_at_all = refl

-- ==== a question, to the panel above with $5 at its end

abbrev asks : List ℕ → ℕ → UsesAnswer
asks s n = uses_job (image (panel 5)) s n

abbrev tells : ℕ → ℕ → UsesAnswer
tells k p = record { code = 0; count = k; first = p }

abbrev asks_not : ℕ → UsesAnswer
asks_not c = record { code = c; count = 0; first = 0 }

abbrev of_panel : List ℕ
of_panel = summary 16 (2 at 6) (1 at 14) none none

-- two uses, the first at 6
entry_of_4 : asks of_panel 4 ≡ tells 2 6
unfolding uses_job
entry_of_4 = refl

-- the last name, which has no use
entry_of_7 : asks of_panel 7 ≡ tells 0 0
unfolding uses_job
entry_of_7 = refl

-- one entry is read, and nothing of it is tested
entry_not_looked_into : asks (summary 16 (largest at largest) none none none) 4 ≡ tells largest largest
unfolding uses_job
entry_not_looked_into = refl

-- ---- 29

-- fifteen in place of sixteen
another_size : asks (summary 15 (2 at 6) (1 at 14) none none) 4 ≡ asks_not 29
unfolding uses_job
another_size = refl

-- seven names in place of eight, though there are words enough
another_count_of_names : asks (16 ∷ 7 ∷ replicate 16 0) 4 ≡ asks_not 29
unfolding uses_job
another_count_of_names = refl

-- one word too short, though the entry that is asked for is there
too_short : asks (16 ∷ 8 ∷ replicate 8 0 ++ 2 at 6 ++ 1 at 14 ++ none ++ 0 ∷ []) 0 ≡ asks_not 29
unfolding uses_job
too_short = refl

-- ---- 30

-- the names are 0 to 7
no_such_name : asks of_panel 8 ≡ asks_not 30
unfolding uses_job
no_such_name = refl

-- what stands behind the summary is no entry
behind_the_summary : asks (of_panel ++ 1 ∷ 2 ∷ 3 ∷ 4 ∷ []) 8 ≡ asks_not 30
unfolding uses_job
behind_the_summary = refl

-- 29 before 30: another size, and no such name
size_before_name : asks (summary 15 none none none none) 8 ≡ asks_not 29
unfolding uses_job
size_before_name = refl

-- the image's own faults come first
asked_of_nothing : uses_job [] [] largest ≡ asks_not 1
unfolding uses_job
asked_of_nothing = refl

-- ==== a replacement: forty-eight bytes of output are lent, all 90; the part is the tree's bytes without a head

-- in a tree with this summary, at a place, a part
abbrev puts : List ℕ → List ℕ → ℕ → List ℕ → ReplaceResult
puts tree s p part = replace_job (image tree) p part s (replicate 48 90)

-- an image of n bytes, with this tree, and its summary
abbrev becomes : ℕ → List ℕ → List ℕ → ReplaceResult
becomes n tree s = record { answer = answered 0 n; summary = s; output = image tree ++ drop n (replicate 48 90) }

-- and with a refusal output and summary stay
abbrev puts-not : ℕ → List ℕ → ReplaceResult
puts-not c s = record { answer = answered c 0; summary = s; output = replicate 48 90 }

abbrev unused : ℕ → List ℕ
unused size = summary size none none none none

-- ---- where a part may stand

-- 9, at the root $4
root_by_a_variable : puts (num 9 []) (unused 1) 0 (var 4 []) ≡ becomes 6 (var 4 []) (summary 1 (1 at 0) none none none)
unfolding replace_job
root_by_a_variable = refl

-- ($4 $5), at the root ($5 $4 $4)
root_by_a_larger : puts (app 2 (var 4 (var 5 []))) (summary 3 (1 at 1) (1 at 2) none none) 0 (app 3 (var 5 (var 4 (var 4 []))))
    ≡ becomes 12 (app 3 (var 5 (var 4 (var 4 [])))) (summary 4 (2 at 2) (1 at 1) none none)
unfolding replace_job
root_by_a_larger = refl

-- [4 $4], at 1 ($4 $4): a function's body
in_a_body : puts (fun 4 (var 4 [])) (summary 2 (1 at 1) none none none) 1 (app 2 (var 4 (var 4 []))) ≡ becomes 12 (fun 4 (app 2 (var 4 (var 4 [])))) (summary 4 (2 at 2) none none none)
unfolding replace_job
in_a_body = refl

-- (<1 2> $4), at 3 <7 8>: a list value in a list value
in_a_list_value : puts (app 2 (lst 2 (num 1 (num 2 (var 4 []))))) (summary 5 (1 at 4) none none none) 3 (lst 2 (num 7 (num 8 [])))
    ≡ becomes 21 (app 2 (lst 2 (num 1 (lst 2 (num 7 (num 8 (var 4 []))))))) (summary 7 (1 at 6) none none none)
unfolding replace_job
in_a_list_value = refl

-- <1 2>, at 1 [4 ($4)]: a function is a value, whose body is any tree
function_in_a_list_value : puts (lst 2 (num 1 (num 2 []))) (unused 3) 1 (fun 4 (app 1 (var 4 [])))
    ≡ becomes 15 (lst 2 (fun 4 (app 1 (var 4 (num 2 []))))) (summary 5 (1 at 3) none none none)
unfolding replace_job
function_in_a_list_value = refl

-- <1 2>, at 1 $4: no value, where one is wanted
no_value : puts (lst 2 (num 1 (num 2 []))) (unused 3) 1 (var 4 []) ≡ puts-not 1 (unused 3)
unfolding replace_job
no_value = refl

-- <[4 9]>, at 2 $4: in the function's body none is wanted
body_in_a_list_value : puts (lst 1 (fun 4 (num 9 []))) (unused 3) 2 (var 4 []) ≡ becomes 10 (lst 1 (fun 4 (var 4 []))) (summary 3 (1 at 2) none none none)
unfolding replace_job
body_in_a_list_value = refl

-- ---- first places that stay, move, vanish or are searched for

-- ($4 $5 $4 $6), the places 1 to 4
abbrev four : ℕ → ℕ → ℕ → ℕ → List ℕ
four a b c d = app 4 (var a (var b (var c (var d []))))

abbrev puts_in_four : ℕ → List ℕ → ReplaceResult
puts_in_four p part = puts (four 4 5 4 6) (summary 5 (2 at 1) (1 at 2) (1 at 4) none) p part

-- at 1 $7: the first $4 was in the old part and none is in the new one, so it is searched for behind
searched_for : puts_in_four 1 (var 7 []) ≡ becomes 14 (four 7 5 4 6) (summary 5 (1 at 3) (1 at 2) (1 at 4) (1 at 1))
unfolding replace_job
searched_for = refl

-- at 1 $6, which so far came last
comes_earlier : puts_in_four 1 (var 6 []) ≡ becomes 14 (four 6 5 4 6) (summary 5 (1 at 3) (1 at 2) (2 at 1) none)
unfolding replace_job
comes_earlier = refl

-- at 3 $5: the first $4 and the first $5 are before the part
before_stays : puts_in_four 3 (var 5 []) ≡ becomes 14 (four 4 5 5 6) (summary 5 (1 at 1) (2 at 2) (1 at 4) none)
unfolding replace_job
before_stays = refl

-- at 2 9: the only $5 goes
last_use_goes : puts_in_four 2 (num 9 []) ≡ becomes 15 (app 4 (var 4 (num 9 (var 4 (var 6 []))))) (summary 5 (2 at 1) none (1 at 4) none)
unfolding replace_job
last_use_goes = refl

-- at 1 (9 9): what is behind a larger part comes later, what is searched for too
behind_a_larger : puts_in_four 1 (app 2 (num 9 (num 9 [])))
    ≡ becomes 20 (app 4 (app 2 (num 9 (num 9 (var 5 (var 4 (var 6 []))))))) (summary 7 (1 at 5) (1 at 4) (1 at 6) none)
unfolding replace_job
behind_a_larger = refl

-- ((9 9 $4) $5 $4), at 1 9: what is behind a smaller part comes earlier
behind_a_smaller : puts (app 3 (app 3 (num 9 (num 9 (var 4 (var 5 (var 4 []))))))) (summary 7 (2 at 4) (1 at 5) none none) 1 (num 9 [])
    ≡ becomes 13 (app 3 (num 9 (var 5 (var 4 [])))) (summary 4 (1 at 3) (1 at 2) none none)
unfolding replace_job
behind_a_smaller = refl

-- (($4 9) $5), at 1 (9 $4): later in a part of the same size
later_in_the_part : puts (app 2 (app 2 (var 4 (num 9 (var 5 []))))) (summary 5 (1 at 2) (1 at 4) none none) 1 (app 2 (num 9 (var 4 [])))
    ≡ becomes 15 (app 2 (app 2 (num 9 (var 4 (var 5 []))))) (summary 5 (1 at 3) (1 at 4) none none)
unfolding replace_job
later_in_the_part = refl

-- ($4 [5 <[6 (9 $4)]>] $4), at 1 9: searched for in what is nested behind
-- 01  2  34  56 7      8
searched_for_inside : puts (app 3 (var 4 (fun 5 (lst 1 (fun 6 (app 2 (num 9 (var 4 (var 4 []))))))))) (summary 9 (3 at 1) none none none) 1 (num 9 [])
    ≡ becomes 24 (app 3 (num 9 (fun 5 (lst 1 (fun 6 (app 2 (num 9 (var 4 (var 4 []))))))))) (summary 9 (2 at 7) none none none)
unfolding replace_job
searched_for_inside = refl

-- the panel, at 7 @1: a contact is taken out, ([4 ('all ('set $4 @1) ('out @10 $5))] 0)
contact_taken_out : puts (panel 5) of_panel 7 (point 1 [])
    ≡ becomes 36 (app 2 (fun 4 (app 3 (rung 5 (app 3 (rung 4 (var 4 (point 1 (app 3 (rung 3 (point 10 (var 5 (num 0 []))))))))))))) (summary 13 (1 at 6) (1 at 11) none none)
unfolding replace_job
contact_taken_out = refl

-- ---- 29 for the place

-- (1 2)
abbrev one-two : List ℕ
one-two = app 2 (num 1 (num 2 []))

-- the places are 0 to 2
no_such_place : puts one-two (unused 3) 3 (num 9 []) ≡ puts-not 29 (unused 3)
unfolding replace_job
no_such_place = refl

-- `(x x), with the word x: there is no place inside a syntax value
no_place_in_syntax : replace_job (2 ∷ 1 ∷ 1 ∷ 120 ∷ 4 ∷ 0 ∷ 5 ∷ 5 ∷ 0 ∷ 0 ∷ 0 ∷ 2 ∷ 0 ∷ 0 ∷ 0 ∷ 0 ∷ 4 ∷ 0 ∷ 0 ∷ 0 ∷ 0 ∷ 4 ∷ []) 1 (num 9 []) (1 ∷ 9 ∷ replicate 18 0) (replicate 48 90)
    ≡ puts-not 29 (1 ∷ 9 ∷ replicate 18 0)
unfolding replace_job
no_place_in_syntax = refl

-- ---- the part's own faults, at 1 of (1 2)

-- no tag
part_of_no_bytes : puts one-two (unused 3) 1 [] ≡ puts-not 1 (unused 3)
unfolding replace_job
part_of_no_bytes = refl

-- 9, and a byte behind it
byte_left_over : puts one-two (unused 3) 1 (num 9 (0 ∷ [])) ≡ puts-not 1 (unused 3)
unfolding replace_job
byte_left_over = refl

-- @1024
part_over_the_limit : puts one-two (unused 3) 1 point_1024 ≡ puts-not 2 (unused 3)
unfolding replace_job
part_over_the_limit = refl

-- 63 applications around 9, which has level 64: an application there is too deep
abbrev around : ℕ → List ℕ → List ℕ
around zero rest = rest
around (suc k) rest = app 1 (around k rest)

too_deep_there : puts (around 63 (num 9 [])) (unused 64) 63 (app 1 (num 1 [])) ≡ puts-not 2 (unused 64)
unfolding replace_job
too_deep_there = refl

-- ---- 20

abbrev in_output : ℕ → ReplaceResult
in_output n = replace_job (image (four 4 5 4 6)) 1 (var 7 []) (summary 5 (2 at 1) (1 at 2) (1 at 4) none) (replicate n 90)

-- ($4 $5 $4 $6), at 1 $7: fourteen bytes
just_enough_output : in_output 14 ≡ record { answer = answered 0 14; summary = summary 5 (1 at 3) (1 at 2) (1 at 4) (1 at 1); output = image (four 7 5 4 6) }
unfolding replace_job
just_enough_output = refl

-- output and summary stay
one_byte_short : in_output 13 ≡ record { answer = answered 20 0; summary = summary 5 (2 at 1) (1 at 2) (1 at 4) none; output = replicate 13 90 }
unfolding replace_job
one_byte_short = refl

-- ---- the order: the image's faults, 29, the part's faults, 20. No output is lent

abbrev stops : ℕ → List ℕ → ReplaceResult
stops c s = record { answer = answered c 0; summary = s; output = [] }

-- no image, no summary, no part
image-first : replace_job [] 9 [] [] [] ≡ stops 1 []
unfolding replace_job
image-first = refl

-- the size of another tree, and a part of no bytes
summary_before_part : replace_job (image one-two) 1 [] (unused 4) [] ≡ stops 29 (unused 4)
unfolding replace_job
summary_before_part = refl

-- no such place, and a part of no bytes
place_before_part : replace_job (image one-two) 3 [] (unused 3) [] ≡ stops 29 (unused 3)
unfolding replace_job
place_before_part = refl

-- @1024
part_before_output : replace_job (image one-two) 1 point_1024 (unused 3) [] ≡ stops 2 (unused 3)
unfolding replace_job
part_before_output = refl

-- ---- an entry of 4 that was invented: nothing of it is tested, and it settles to some number

abbrev invented : List ℕ → ℕ → List ℕ → ReplaceResult
invented e4 p part = puts (four 4 5 4 6) (summary 5 e4 (1 at 2) (1 at 4) none) p part

-- no use counted, and one goes: none is left
fewer_than_none : invented none 1 (var 7 []) ≡ becomes 14 (four 7 5 4 6) (summary 5 none (1 at 2) (1 at 4) (1 at 1))
unfolding replace_job
fewer_than_none = refl

-- as many counted as a word holds, and one comes: it stays the largest
more_than_a_word_holds : invented (largest at 1) 4 (var 4 []) ≡ becomes 14 (four 4 5 4 4) (summary 5 (largest at 1) (1 at 2) none none)
unfolding replace_job
more_than_a_word_holds = refl

-- five counted, the first in the old part, and none is found behind: four, the first at 0
none-behind : invented (5 at 3) 3 (num 9 []) ≡ becomes 15 (app 4 (var 4 (var 5 (num 9 (var 6 []))))) (summary 5 (4 at 0) (1 at 2) (1 at 4) none)
unfolding replace_job
none-behind = refl

-- a first place that moves over the largest: it stays the largest
place_over_the_largest : invented (2 at 4294967294) 3 (app 2 (num 9 (num 9 [])))
    ≡ becomes 20 (app 4 (var 4 (var 5 (app 2 (num 9 (num 9 (var 6 []))))))) (summary 7 (1 at largest) (1 at 2) (1 at 6) none)
unfolding replace_job
place_over_the_largest = refl
