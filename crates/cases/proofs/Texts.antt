-- Request T-05, cases worked out by hand: text to image and image to text. The text stands above each.
use Prim.Native.Nat.{ℕ, zero, suc}
use mathlib.Core.Path.{◌≡◌, refl}
use mathlib.Core.List.{List, [], ◌∷◌, ◌++◌}
use lib.ListN.{replicate}
use Rattle.model.specs.Refusals.{layout, over_limit, wrong_kind, too_long}
use Rattle.requests.specs.FromText.{base, bad_text, unbalanced, made, refused}
use Rattle.requests.specs.TextJobs.{TextEnding, read_ending, print_ending, output_after_text}

-- ---- notation: an output of 65,536 bytes, and images with no scopes

abbrev reads : List ℕ → TextEnding
reads text = read_ending text 65536

abbrev prints : List ℕ → TextEnding
prints image = print_ending image 65536

-- a list of n parts, and an atom of each kind, without sets
abbrev list : ℕ → List ℕ → List ℕ
list n rest = 5 ∷ 0 ∷ 0 ∷ 0 ∷ n ∷ rest

abbrev symbol : ℕ → List ℕ → List ℕ
symbol x rest = 0 ∷ 0 ∷ 0 ∷ 0 ∷ x ∷ rest

-- a list in a list, n more
abbrev nested : ℕ → List ℕ
nested zero = list 0 []
nested (suc n) = list 1 (nested n)

-- kind 1, no words, made names, scopes or bindings
abbrev bare : List ℕ → List ℕ
bare root = 1 ∷ 0 ∷ 0 ∷ 0 ∷ 0 ∷ root

-- ---- document 01's image, and one of each kind, both ways

-- ` ( lambda<tab>x;bit<line end> x)`
pub shown : reads (32 ∷ 40 ∷ 32 ∷ 108 ∷ 97 ∷ 109 ∷ 98 ∷ 100 ∷ 97 ∷ 9 ∷ 120 ∷ 59 ∷ 98 ∷ 105 ∷ 116 ∷ 10 ∷ 32 ∷ 120 ∷ 41 ∷ []) ≡ made (1 ∷ 1 ∷ 1 ∷ 120 ∷ 0 ∷ 0 ∷ 0 ∷ list 3 (symbol 0 (symbol 4 (symbol 4 []))))
unfolding read_ending
shown = refl

-- back: `(lambda x x)`
pub shown_back : prints (1 ∷ 1 ∷ 1 ∷ 120 ∷ 0 ∷ 0 ∷ 0 ∷ list 3 (symbol 0 (symbol 4 (symbol 4 [])))) ≡ made (40 ∷ 108 ∷ 97 ∷ 109 ∷ 98 ∷ 100 ∷ 97 ∷ 32 ∷ 120 ∷ 32 ∷ 120 ∷ 41 ∷ [])
unfolding print_ending
shown_back = refl

-- `('and '15 @1023 #6 4294967295 ())`
pub kinds : reads (40 ∷ 39 ∷ 97 ∷ 110 ∷ 100 ∷ 32 ∷ 39 ∷ 49 ∷ 53 ∷ 32 ∷ 64 ∷ 49 ∷ 48 ∷ 50 ∷ 51 ∷ 32 ∷ 35 ∷ 54 ∷ 32 ∷ 52 ∷ 50 ∷ 57 ∷ 52 ∷ 57 ∷ 54 ∷ 55 ∷ 50 ∷ 57 ∷ 53 ∷ 32 ∷ 40 ∷ 41 ∷ 41 ∷ []) ≡ made (bare (list 6 (4 ∷ 0 ∷ 0 ∷ 0 ∷ 0 ∷ 4 ∷ 0 ∷ 0 ∷ 0 ∷ 15 ∷ 2 ∷ 0 ∷ 0 ∷ 0 ∷ 255 ∷ 7 ∷ 3 ∷ 0 ∷ 0 ∷ 0 ∷ 6 ∷ 1 ∷ 0 ∷ 0 ∷ 0 ∷ 255 ∷ 255 ∷ 255 ∷ 255 ∷ 15 ∷ list 0 [])))
unfolding read_ending
kinds = refl

-- back, the same text
pub kinds_back : prints (bare (list 6 (4 ∷ 0 ∷ 0 ∷ 0 ∷ 0 ∷ 4 ∷ 0 ∷ 0 ∷ 0 ∷ 15 ∷ 2 ∷ 0 ∷ 0 ∷ 0 ∷ 255 ∷ 7 ∷ 3 ∷ 0 ∷ 0 ∷ 0 ∷ 6 ∷ 1 ∷ 0 ∷ 0 ∷ 0 ∷ 255 ∷ 255 ∷ 255 ∷ 255 ∷ 15 ∷ list 0 []))) ≡ made (40 ∷ 39 ∷ 97 ∷ 110 ∷ 100 ∷ 32 ∷ 39 ∷ 49 ∷ 53 ∷ 32 ∷ 64 ∷ 49 ∷ 48 ∷ 50 ∷ 51 ∷ 32 ∷ 35 ∷ 54 ∷ 32 ∷ 52 ∷ 50 ∷ 57 ∷ 52 ∷ 57 ∷ 54 ∷ 55 ∷ 50 ∷ 57 ∷ 53 ∷ 32 ∷ 40 ∷ 41 ∷ 41 ∷ [])
unfolding print_ending
kinds_back = refl

-- `('and 'or 'not 'out 'set 'all '6)`
pub rungs : reads (40 ∷ 39 ∷ 97 ∷ 110 ∷ 100 ∷ 32 ∷ 39 ∷ 111 ∷ 114 ∷ 32 ∷ 39 ∷ 110 ∷ 111 ∷ 116 ∷ 32 ∷ 39 ∷ 111 ∷ 117 ∷ 116 ∷ 32 ∷ 39 ∷ 115 ∷ 101 ∷ 116 ∷ 32 ∷ 39 ∷ 97 ∷ 108 ∷ 108 ∷ 32 ∷ 39 ∷ 54 ∷ 41 ∷ []) ≡ made (bare (list 7 (4 ∷ 0 ∷ 0 ∷ 0 ∷ 0 ∷ 4 ∷ 0 ∷ 0 ∷ 0 ∷ 1 ∷ 4 ∷ 0 ∷ 0 ∷ 0 ∷ 2 ∷ 4 ∷ 0 ∷ 0 ∷ 0 ∷ 3 ∷ 4 ∷ 0 ∷ 0 ∷ 0 ∷ 4 ∷ 4 ∷ 0 ∷ 0 ∷ 0 ∷ 5 ∷ 4 ∷ 0 ∷ 0 ∷ 0 ∷ 6 ∷ [])))
unfolding read_ending
rungs = refl

-- back, the same text
pub rungs_back : prints (bare (list 7 (4 ∷ 0 ∷ 0 ∷ 0 ∷ 0 ∷ 4 ∷ 0 ∷ 0 ∷ 0 ∷ 1 ∷ 4 ∷ 0 ∷ 0 ∷ 0 ∷ 2 ∷ 4 ∷ 0 ∷ 0 ∷ 0 ∷ 3 ∷ 4 ∷ 0 ∷ 0 ∷ 0 ∷ 4 ∷ 4 ∷ 0 ∷ 0 ∷ 0 ∷ 5 ∷ 4 ∷ 0 ∷ 0 ∷ 0 ∷ 6 ∷ []))) ≡ made (40 ∷ 39 ∷ 97 ∷ 110 ∷ 100 ∷ 32 ∷ 39 ∷ 111 ∷ 114 ∷ 32 ∷ 39 ∷ 110 ∷ 111 ∷ 116 ∷ 32 ∷ 39 ∷ 111 ∷ 117 ∷ 116 ∷ 32 ∷ 39 ∷ 115 ∷ 101 ∷ 116 ∷ 32 ∷ 39 ∷ 97 ∷ 108 ∷ 108 ∷ 32 ∷ 39 ∷ 54 ∷ 41 ∷ [])
unfolding print_ending
rungs_back = refl

-- core words are names 0 to 3: `(lambda let-syntax quote syntax)`
pub core-words : reads (40 ∷ 108 ∷ 97 ∷ 109 ∷ 98 ∷ 100 ∷ 97 ∷ 32 ∷ 108 ∷ 101 ∷ 116 ∷ 45 ∷ 115 ∷ 121 ∷ 110 ∷ 116 ∷ 97 ∷ 120 ∷ 32 ∷ 113 ∷ 117 ∷ 111 ∷ 116 ∷ 101 ∷ 32 ∷ 115 ∷ 121 ∷ 110 ∷ 116 ∷ 97 ∷ 120 ∷ 41 ∷ []) ≡ made (bare (list 4 (symbol 0 (symbol 1 (symbol 2 (symbol 3 []))))))
unfolding read_ending
core-words = refl

-- back, the same text
pub core_words_back : prints (bare (list 4 (symbol 0 (symbol 1 (symbol 2 (symbol 3 [])))))) ≡ made (40 ∷ 108 ∷ 97 ∷ 109 ∷ 98 ∷ 100 ∷ 97 ∷ 32 ∷ 108 ∷ 101 ∷ 116 ∷ 45 ∷ 115 ∷ 121 ∷ 110 ∷ 116 ∷ 97 ∷ 120 ∷ 32 ∷ 113 ∷ 117 ∷ 111 ∷ 116 ∷ 101 ∷ 32 ∷ 115 ∷ 121 ∷ 110 ∷ 116 ∷ 97 ∷ 120 ∷ 41 ∷ [])
unfolding print_ending
core_words_back = refl

-- ---- words as first met

-- `(b a b)`: b is 4, a is 5
pub first-met : reads (40 ∷ 98 ∷ 32 ∷ 97 ∷ 32 ∷ 98 ∷ 41 ∷ []) ≡ made (1 ∷ 2 ∷ 1 ∷ 98 ∷ 1 ∷ 97 ∷ 0 ∷ 0 ∷ 0 ∷ list 3 (symbol 4 (symbol 5 (symbol 4 []))))
unfolding read_ending
first-met = refl

-- an image with its words in another order, printed: `(a b)`
pub spelled : prints (1 ∷ 2 ∷ 1 ∷ 98 ∷ 1 ∷ 97 ∷ 0 ∷ 0 ∷ 0 ∷ list 2 (symbol 5 (symbol 4 []))) ≡ made (40 ∷ 97 ∷ 32 ∷ 98 ∷ 41 ∷ [])
unfolding print_ending
spelled = refl

-- and read again: the words change their numbers, and the text is the same
pub spelled_again : reads (40 ∷ 97 ∷ 32 ∷ 98 ∷ 41 ∷ []) ≡ made (1 ∷ 2 ∷ 1 ∷ 97 ∷ 1 ∷ 98 ∷ 0 ∷ 0 ∷ 0 ∷ list 2 (symbol 4 (symbol 5 [])))
unfolding read_ending
spelled_again = refl

-- scopes, bindings and made names are not printed: one word x, a made name, scopes 1 and 2, x bound in {1}, the root x in {1, 2}
pub without_scopes : prints (1 ∷ 1 ∷ 1 ∷ 120 ∷ 1 ∷ 2 ∷ 1 ∷ 4 ∷ 5 ∷ 1 ∷ 1 ∷ 0 ∷ 2 ∷ 1 ∷ 2 ∷ 0 ∷ 0 ∷ 4 ∷ []) ≡ made (120 ∷ [])
unfolding print_ending
without_scopes = refl

-- ---- what parts tokens

-- `a;b`: a word and a comment
pub comment_ends_a_word : reads (97 ∷ 59 ∷ 98 ∷ []) ≡ made (1 ∷ 1 ∷ 1 ∷ 97 ∷ 0 ∷ 0 ∷ 0 ∷ symbol 4 [])
unfolding read_ending
comment_ends_a_word = refl

-- `;c<return>a`
pub return_ends_a_comment : reads (59 ∷ 99 ∷ 13 ∷ 97 ∷ []) ≡ made (1 ∷ 1 ∷ 1 ∷ 97 ∷ 0 ∷ 0 ∷ 0 ∷ symbol 4 [])
unfolding read_ending
return_ends_a_comment = refl

-- `a@1` is a word
pub at-inside : reads (97 ∷ 64 ∷ 49 ∷ []) ≡ made (1 ∷ 1 ∷ 3 ∷ 97 ∷ 64 ∷ 49 ∷ 0 ∷ 0 ∷ 0 ∷ symbol 4 [])
unfolding read_ending
at-inside = refl

-- `(0(1)2)`
pub no_space_needed : reads (40 ∷ 48 ∷ 40 ∷ 49 ∷ 41 ∷ 50 ∷ 41 ∷ []) ≡ made (bare (list 3 (1 ∷ 0 ∷ 0 ∷ 0 ∷ 0 ∷ list 1 (1 ∷ 0 ∷ 0 ∷ 0 ∷ 1 ∷ 1 ∷ 0 ∷ 0 ∷ 0 ∷ 2 ∷ []))))
unfolding read_ending
no_space_needed = refl

-- ---- 26: bad text, no object, a second one

-- no byte
pub nothing_at_all : reads ([]) ≡ refused bad_text
unfolding read_ending
nothing_at_all = refl

-- `; only a comment`
pub no-object : reads (59 ∷ 32 ∷ 111 ∷ 110 ∷ 108 ∷ 121 ∷ 32 ∷ 97 ∷ 32 ∷ 99 ∷ 111 ∷ 109 ∷ 109 ∷ 101 ∷ 110 ∷ 116 ∷ []) ≡ refused bad_text
unfolding read_ending
no-object = refl

-- `x y`
pub second : reads (120 ∷ 32 ∷ 121 ∷ []) ≡ refused bad_text
unfolding read_ending
second = refl

-- `()(`: before the parenthesis is missed
pub second-list : reads (40 ∷ 41 ∷ 40 ∷ []) ≡ refused bad_text
unfolding read_ending
second-list = refl

-- `00`
pub leading-zero : reads (48 ∷ 48 ∷ []) ≡ refused bad_text
unfolding read_ending
leading-zero = refl

-- `'16`
pub free_rung_16 : reads (39 ∷ 49 ∷ 54 ∷ []) ≡ refused bad_text
unfolding read_ending
free_rung_16 = refl

-- `'5`
pub free_rung_5 : reads (39 ∷ 53 ∷ []) ≡ refused bad_text
unfolding read_ending
free_rung_5 = refl

-- `'06`
pub free_rung_06 : reads (39 ∷ 48 ∷ 54 ∷ []) ≡ refused bad_text
unfolding read_ending
free_rung_06 = refl

-- `@`
pub mark_alone : reads (64 ∷ []) ≡ refused bad_text
unfolding read_ending
mark_alone = refl

-- `a'b`
pub quote-inside : reads (97 ∷ 39 ∷ 98 ∷ []) ≡ refused bad_text
unfolding read_ending
quote-inside = refl

-- `1a`
pub digit-first : reads (49 ∷ 97 ∷ []) ≡ refused bad_text
unfolding read_ending
digit-first = refl

-- `a<127>`
pub byte_127 : reads (97 ∷ 127 ∷ []) ≡ refused bad_text
unfolding read_ending
byte_127 = refl

-- ---- 27: unbalanced

-- `x )`
pub nothing_open : reads (120 ∷ 32 ∷ 41 ∷ []) ≡ refused unbalanced
unfolding read_ending
nothing_open = refl

-- `(x`
pub open_at_end : reads (40 ∷ 120 ∷ []) ≡ refused unbalanced
unfolding read_ending
open_at_end = refl

-- ---- the first from the front

-- `(01))`
pub bad_before_unbalanced : reads (40 ∷ 48 ∷ 49 ∷ 41 ∷ 41 ∷ []) ≡ refused bad_text
unfolding read_ending
bad_before_unbalanced = refl

-- `)01`
pub unbalanced_before_bad : reads (41 ∷ 48 ∷ 49 ∷ []) ≡ refused unbalanced
unfolding read_ending
unbalanced_before_bad = refl

-- `(@1024 a'b)`
pub bad_before_the_limits : reads (40 ∷ 64 ∷ 49 ∷ 48 ∷ 50 ∷ 52 ∷ 32 ∷ 97 ∷ 39 ∷ 98 ∷ 41 ∷ []) ≡ refused bad_text
unfolding read_ending
bad_before_the_limits = refl

-- `(@1024`
pub unbalanced_before_the_limits : reads (40 ∷ 64 ∷ 49 ∷ 48 ∷ 50 ∷ 52 ∷ []) ≡ refused unbalanced
unfolding read_ending
unbalanced_before_the_limits = refl

-- ---- 2: limits, from both sides

-- `4294967296`
pub over-number : reads (52 ∷ 50 ∷ 57 ∷ 52 ∷ 57 ∷ 54 ∷ 55 ∷ 50 ∷ 57 ∷ 54 ∷ []) ≡ refused (base over_limit)
unfolding read_ending
over-number = refl

-- `10000000000000000000000000`
pub far_over_number : reads (49 ∷ 48 ∷ 48 ∷ 48 ∷ 48 ∷ 48 ∷ 48 ∷ 48 ∷ 48 ∷ 48 ∷ 48 ∷ 48 ∷ 48 ∷ 48 ∷ 48 ∷ 48 ∷ 48 ∷ 48 ∷ 48 ∷ 48 ∷ 48 ∷ 48 ∷ 48 ∷ 48 ∷ 48 ∷ 48 ∷ []) ≡ refused (base over_limit)
unfolding read_ending
far_over_number = refl

-- `@1024`
pub over-point : reads (64 ∷ 49 ∷ 48 ∷ 50 ∷ 52 ∷ []) ≡ refused (base over_limit)
unfolding read_ending
over-point = refl

-- `#10`
pub over-primitive : reads (35 ∷ 49 ∷ 48 ∷ []) ≡ refused (base over_limit)
unfolding read_ending
over-primitive = refl

-- a word of 32 bytes
pub longest_word : reads (replicate 32 97) ≡ made (1 ∷ 1 ∷ 32 ∷ replicate 32 97 ++ 0 ∷ 0 ∷ 0 ∷ symbol 4 [])
unfolding read_ending
longest_word = refl

-- a word of 33 bytes
pub over_word : reads (replicate 33 97) ≡ refused (base over_limit)
unfolding read_ending
over_word = refl

-- 64 parentheses round nothing
pub nesting_64 : reads (replicate 64 40 ++ replicate 64 41) ≡ made (bare (nested 63))
unfolding read_ending
nesting_64 = refl

-- 65 parentheses round nothing
pub nesting_65 : reads (replicate 65 40 ++ replicate 65 41) ≡ refused (base over_limit)
unfolding read_ending
nesting_65 = refl

-- 64 parentheses round a number
pub nesting_65_atom : reads (replicate 64 40 ++ 48 ∷ replicate 64 41) ≡ refused (base over_limit)
unfolding read_ending
nesting_65_atom = refl

-- back: 64 parentheses round nothing
pub nesting_64_back : prints (bare (nested 63)) ≡ made (replicate 64 40 ++ replicate 64 41)
unfolding print_ending
nesting_64_back = refl

-- ---- 20: the output, from both sides

-- `x` into 12 bytes
pub image-fits : read_ending (120 ∷ []) 12 ≡ made (1 ∷ 1 ∷ 1 ∷ 120 ∷ 0 ∷ 0 ∷ 0 ∷ symbol 4 [])
unfolding read_ending
image-fits = refl

-- `x` into 11 bytes
pub image_too_long : read_ending (120 ∷ []) 11 ≡ refused (base too_long)
unfolding read_ending
image_too_long = refl

-- `()` into 2 bytes
pub text-fits : print_ending (bare (list 0 [])) 2 ≡ made (40 ∷ 41 ∷ [])
unfolding print_ending
text-fits = refl

-- `()` into 1 byte
pub text_too_long : print_ending (bare (list 0 [])) 1 ≡ refused (base too_long)
unfolding print_ending
text_too_long = refl

-- ---- an image is refused as by the other jobs

-- no byte
pub no-image : prints ([]) ≡ refused (base layout)
unfolding print_ending
no-image = refl

-- a tree
pub a_tree : prints (2 ∷ 0 ∷ 0 ∷ 0 ∷ 3 ∷ 1 ∷ 5 ∷ []) ≡ refused (base wrong_kind)
unfolding print_ending
a_tree = refl

-- 257 scopes
pub over-scopes : prints (1 ∷ 0 ∷ 0 ∷ 129 ∷ 2 ∷ []) ≡ refused (base over_limit)
unfolding print_ending
over-scopes = refl

-- ---- the output: what is behind the text stays, and all of it after a refusal

-- `()`, four bytes lent
pub output-after : output_after_text (print_ending (bare (list 0 [])) 4) (replicate 4 7) ≡ 40 ∷ 41 ∷ 7 ∷ 7 ∷ []
unfolding output_after_text print_ending
output-after = refl

-- `)`, four bytes lent
pub output-refused : output_after_text (read_ending (41 ∷ []) 4) (replicate 4 7) ≡ replicate 4 7
unfolding output_after_text read_ending
output-refused = refl
