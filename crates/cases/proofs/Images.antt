-- The images of the samples as bytes, worked out by hand from document 01, 'The image': the definitions have no part in them. `given-n` is what
-- sample n gives to its job, `image-n` the syntax image that expanding writes, `tree-n` the tree image that parsing or evaluating writes.
--
-- Kind 1: 1, words, made names, scopes, bindings (symbol, target, set), root. Kind 2: 2, words, made names, scopes, root. The words x, y, m, z are
-- the bytes 120, 121, 109, 122, each after its length 1. Symbol x with no scopes is 0 0 0 0 x, with {1} at phase 0 it is 0 1 1 0 0 x; a list of n
-- parts with no scopes is 5 0 0 0 n and the parts. Variable n is 0 n; an application 1, count, parts; function n is 2 n, body; number n is 3 1 n.
use Prim.Native.Nat.{ℕ}
use mathlib.Core.List.{List, [], ◌∷◌}

-- ---- 1 to 6: words x = 4 and y = 5, made names 6 to 8, three scopes

-- x{}, no bindings
abbrev pub given_1 : List ℕ
given_1 =
    1 ∷ 2 ∷ 1 ∷ 120 ∷ 1 ∷ 121 ∷ 3 ∷ 3
    ∷ 0
    ∷ 0 ∷ 0 ∷ 0 ∷ 0 ∷ 4 ∷ []

-- x{1,2}; x{} to 6, x{1} to 7
abbrev pub given_2 : List ℕ
given_2 =
    1 ∷ 2 ∷ 1 ∷ 120 ∷ 1 ∷ 121 ∷ 3 ∷ 3
    ∷ 2 ∷ 4 ∷ 6 ∷ 0 ∷ 4 ∷ 7 ∷ 1 ∷ 1
    ∷ 0 ∷ 2 ∷ 1 ∷ 2 ∷ 0 ∷ 0 ∷ 4 ∷ []

-- x{1,2}; x{1} to 6, x{2} to 7
abbrev pub given_3 : List ℕ
given_3 =
    1 ∷ 2 ∷ 1 ∷ 120 ∷ 1 ∷ 121 ∷ 3 ∷ 3
    ∷ 2 ∷ 4 ∷ 6 ∷ 1 ∷ 1 ∷ 4 ∷ 7 ∷ 1 ∷ 2
    ∷ 0 ∷ 2 ∷ 1 ∷ 2 ∷ 0 ∷ 0 ∷ 4 ∷ []

-- x{1,2}; x{1} to 6, x{1,2} to 8, x{2} to 7: in the order of sets {1,2} stands between {1} and {2}
abbrev pub given_4 : List ℕ
given_4 =
    1 ∷ 2 ∷ 1 ∷ 120 ∷ 1 ∷ 121 ∷ 3 ∷ 3
    ∷ 3 ∷ 4 ∷ 6 ∷ 1 ∷ 1 ∷ 4 ∷ 8 ∷ 2 ∷ 1 ∷ 2 ∷ 4 ∷ 7 ∷ 1 ∷ 2
    ∷ 0 ∷ 2 ∷ 1 ∷ 2 ∷ 0 ∷ 0 ∷ 4 ∷ []

-- x{2}; x{1} to 6
abbrev pub given_5 : List ℕ
given_5 =
    1 ∷ 2 ∷ 1 ∷ 120 ∷ 1 ∷ 121 ∷ 3 ∷ 3
    ∷ 1 ∷ 4 ∷ 6 ∷ 1 ∷ 1
    ∷ 0 ∷ 1 ∷ 2 ∷ 0 ∷ 0 ∷ 4 ∷ []

-- x{} at phase 0 and {1,2} at phase 1; x{1} to 6
abbrev pub given_6 : List ℕ
given_6 =
    1 ∷ 2 ∷ 1 ∷ 120 ∷ 1 ∷ 121 ∷ 3 ∷ 3
    ∷ 1 ∷ 4 ∷ 6 ∷ 1 ∷ 1
    ∷ 0 ∷ 0 ∷ 2 ∷ 1 ∷ 2 ∷ 0 ∷ 4 ∷ []

-- ---- 7 to 9: the word x = 4

-- (lambda x x), the image that document 01 shows whole
abbrev pub given_7 : List ℕ
given_7 =
    1 ∷ 1 ∷ 1 ∷ 120 ∷ 0 ∷ 0 ∷ 0
    ∷ 5 ∷ 0 ∷ 0 ∷ 0 ∷ 3 ∷ 0 ∷ 0 ∷ 0 ∷ 0 ∷ 0 ∷ 0 ∷ 0 ∷ 0 ∷ 0 ∷ 4 ∷ 0 ∷ 0 ∷ 0 ∷ 0 ∷ 4 ∷ []

-- (lambda x{1} x{1}), x{1} to 5
abbrev pub image_7 : List ℕ
image_7 =
    1 ∷ 1 ∷ 1 ∷ 120 ∷ 1 ∷ 1
    ∷ 1 ∷ 4 ∷ 5 ∷ 1 ∷ 1
    ∷ 5 ∷ 0 ∷ 0 ∷ 0 ∷ 3 ∷ 0 ∷ 0 ∷ 0 ∷ 0 ∷ 0 ∷ 0 ∷ 1 ∷ 1 ∷ 0 ∷ 0 ∷ 4 ∷ 0 ∷ 1 ∷ 1 ∷ 0 ∷ 0 ∷ 4 ∷ []

-- function 5, body variable 5
abbrev pub tree_7 : List ℕ
tree_7 = 2 ∷ 1 ∷ 1 ∷ 120 ∷ 1 ∷ 1 ∷ 2 ∷ 5 ∷ 0 ∷ 5 ∷ []

-- x
abbrev pub given_8 : List ℕ
given_8 = 1 ∷ 1 ∷ 1 ∷ 120 ∷ 0 ∷ 0 ∷ 0 ∷ 0 ∷ 0 ∷ 0 ∷ 0 ∷ 4 ∷ []

-- ()
abbrev pub given_9 : List ℕ
given_9 = 1 ∷ 1 ∷ 1 ∷ 120 ∷ 0 ∷ 0 ∷ 0 ∷ 5 ∷ 0 ∷ 0 ∷ 0 ∷ 0 ∷ []

-- ---- 10: no words

-- (lambda lambda lambda)
abbrev pub given_10 : List ℕ
given_10 =
    1 ∷ 0 ∷ 0 ∷ 0 ∷ 0
    ∷ 5 ∷ 0 ∷ 0 ∷ 0 ∷ 3 ∷ 0 ∷ 0 ∷ 0 ∷ 0 ∷ 0 ∷ 0 ∷ 0 ∷ 0 ∷ 0 ∷ 0 ∷ 0 ∷ 0 ∷ 0 ∷ 0 ∷ 0 ∷ []

-- (lambda lambda{1} lambda{1}), lambda{1} to 4
abbrev pub image_10 : List ℕ
image_10 =
    1 ∷ 0 ∷ 1 ∷ 1
    ∷ 1 ∷ 0 ∷ 4 ∷ 1 ∷ 1
    ∷ 5 ∷ 0 ∷ 0 ∷ 0 ∷ 3 ∷ 0 ∷ 0 ∷ 0 ∷ 0 ∷ 0 ∷ 0 ∷ 1 ∷ 1 ∷ 0 ∷ 0 ∷ 0 ∷ 0 ∷ 1 ∷ 1 ∷ 0 ∷ 0 ∷ 0 ∷ []

-- function 4, body variable 4
abbrev pub tree_10 : List ℕ
tree_10 = 2 ∷ 0 ∷ 1 ∷ 1 ∷ 2 ∷ 4 ∷ 0 ∷ 4 ∷ []

-- ---- 11 and 12: words x, m, z = 4, 5, 6. After the head a line for each list, with its atoms

-- (let-syntax m (lambda z (syntax x)) (lambda x (m)))
abbrev pub given_11 : List ℕ
given_11 =
    1 ∷ 3 ∷ 1 ∷ 120 ∷ 1 ∷ 109 ∷ 1 ∷ 122 ∷ 0 ∷ 0 ∷ 0
    -- (let-syntax m ..
    ∷ 5 ∷ 0 ∷ 0 ∷ 0 ∷ 4 ∷ 0 ∷ 0 ∷ 0 ∷ 0 ∷ 1 ∷ 0 ∷ 0 ∷ 0 ∷ 0 ∷ 5
    -- (lambda z ..
    ∷ 5 ∷ 0 ∷ 0 ∷ 0 ∷ 3 ∷ 0 ∷ 0 ∷ 0 ∷ 0 ∷ 0 ∷ 0 ∷ 0 ∷ 0 ∷ 0 ∷ 6
    -- (syntax x)
    ∷ 5 ∷ 0 ∷ 0 ∷ 0 ∷ 2 ∷ 0 ∷ 0 ∷ 0 ∷ 0 ∷ 3 ∷ 0 ∷ 0 ∷ 0 ∷ 0 ∷ 4
    -- (lambda x ..
    ∷ 5 ∷ 0 ∷ 0 ∷ 0 ∷ 3 ∷ 0 ∷ 0 ∷ 0 ∷ 0 ∷ 0 ∷ 0 ∷ 0 ∷ 0 ∷ 0 ∷ 4
    -- (m)
    ∷ 5 ∷ 0 ∷ 0 ∷ 0 ∷ 1 ∷ 0 ∷ 0 ∷ 0 ∷ 0 ∷ 5 ∷ []

-- (lambda x (let-syntax m (lambda z (syntax x)) (lambda x (m))))
abbrev pub given_12 : List ℕ
given_12 =
    1 ∷ 3 ∷ 1 ∷ 120 ∷ 1 ∷ 109 ∷ 1 ∷ 122 ∷ 0 ∷ 0 ∷ 0
    -- (lambda x ..
    ∷ 5 ∷ 0 ∷ 0 ∷ 0 ∷ 3 ∷ 0 ∷ 0 ∷ 0 ∷ 0 ∷ 0 ∷ 0 ∷ 0 ∷ 0 ∷ 0 ∷ 4
    -- (let-syntax m ..
    ∷ 5 ∷ 0 ∷ 0 ∷ 0 ∷ 4 ∷ 0 ∷ 0 ∷ 0 ∷ 0 ∷ 1 ∷ 0 ∷ 0 ∷ 0 ∷ 0 ∷ 5
    -- (lambda z ..
    ∷ 5 ∷ 0 ∷ 0 ∷ 0 ∷ 3 ∷ 0 ∷ 0 ∷ 0 ∷ 0 ∷ 0 ∷ 0 ∷ 0 ∷ 0 ∷ 0 ∷ 6
    -- (syntax x)
    ∷ 5 ∷ 0 ∷ 0 ∷ 0 ∷ 2 ∷ 0 ∷ 0 ∷ 0 ∷ 0 ∷ 3 ∷ 0 ∷ 0 ∷ 0 ∷ 0 ∷ 4
    -- (lambda x ..
    ∷ 5 ∷ 0 ∷ 0 ∷ 0 ∷ 3 ∷ 0 ∷ 0 ∷ 0 ∷ 0 ∷ 0 ∷ 0 ∷ 0 ∷ 0 ∷ 0 ∷ 4
    -- (m)
    ∷ 5 ∷ 0 ∷ 0 ∷ 0 ∷ 1 ∷ 0 ∷ 0 ∷ 0 ∷ 0 ∷ 5 ∷ []

-- (lambda x{1} (lambda{1,2} x{1,2,4} x{1}){1,2}). The bytes show every scope: lambda x 1, m 2, z 3, the inner x 4, use 5, introduction 6.
abbrev pub image_12 : List ℕ
image_12 =
    -- four made names, 7 to 10, and six scopes
    1 ∷ 3 ∷ 1 ∷ 120 ∷ 1 ∷ 109 ∷ 1 ∷ 122 ∷ 4 ∷ 6
    -- x{1} to 7, x{1,2,4} to 10, m{1,2} to 8, z{3} to 9
    ∷ 4 ∷ 4 ∷ 7 ∷ 1 ∷ 1 ∷ 4 ∷ 10 ∷ 3 ∷ 1 ∷ 2 ∷ 4 ∷ 5 ∷ 8 ∷ 2 ∷ 1 ∷ 2 ∷ 6 ∷ 9 ∷ 1 ∷ 3
    -- (lambda x{1} ..
    ∷ 5 ∷ 0 ∷ 0 ∷ 0 ∷ 3 ∷ 0 ∷ 0 ∷ 0 ∷ 0 ∷ 0 ∷ 0 ∷ 1 ∷ 1 ∷ 0 ∷ 0 ∷ 4
    -- (lambda{1,2} x{1,2,4} x{1}){1,2}
    ∷ 5 ∷ 2 ∷ 1 ∷ 2 ∷ 0 ∷ 0 ∷ 3 ∷ 0 ∷ 2 ∷ 1 ∷ 2 ∷ 0 ∷ 0 ∷ 0 ∷ 0 ∷ 3 ∷ 1 ∷ 2 ∷ 4 ∷ 0 ∷ 0 ∷ 4 ∷ 0 ∷ 1 ∷ 1 ∷ 0 ∷ 0 ∷ 4 ∷ []

-- function 7 of function 10 of variable 7
abbrev pub tree_12 : List ℕ
tree_12 = 2 ∷ 3 ∷ 1 ∷ 120 ∷ 1 ∷ 109 ∷ 1 ∷ 122 ∷ 4 ∷ 6 ∷ 2 ∷ 7 ∷ 2 ∷ 10 ∷ 0 ∷ 7 ∷ []

-- ---- 13: no words, the made name 4

-- (function 4, body variable 4) applied to number 9
abbrev pub given_13 : List ℕ
given_13 = 2 ∷ 0 ∷ 1 ∷ 0 ∷ 1 ∷ 2 ∷ 2 ∷ 4 ∷ 0 ∷ 4 ∷ 3 ∷ 1 ∷ 9 ∷ []

-- number 9
abbrev pub tree_13 : List ℕ
tree_13 = 2 ∷ 0 ∷ 1 ∷ 0 ∷ 3 ∷ 1 ∷ 9 ∷ []
