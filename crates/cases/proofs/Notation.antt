-- How the cases are written: objects, images, what is lent to a job, and what comes back.
use Prim.Native.Nat.{ℕ, ◌+◌, ◌*◌}
use mathlib.Core.List.{List, [], ◌∷◌, ◌++◌}
use lib.ListN.{length, drop, replicate}
use Rattle.model.specs.Scopes.{Scopes}
use Rattle.model.specs.Objects.{symbol, prim, no_sets, Stx, atom, list, Stxs, cons}
use Rattle.model.specs.Resolving.{Bind}
use Rattle.model.specs.Reading.{Head}
use Rattle.model.specs.Writing.{syntax_bytes}
use Rattle.model.specs.Jobs.{Result, resolve_job, expand_job, parse_job, evaluate_job}

-- ---- sets of scopes 1 to 4

abbrev pub s1 : Scopes
s1 = 1

abbrev pub s2 : Scopes
s2 = 2

abbrev pub s12 : Scopes
s12 = 3

abbrev pub s3 : Scopes
s3 = 4

abbrev pub s124 : Scopes
s124 = 11

-- ---- objects: the identifier with symbol x and a set at phase 0, or at phases 0 and 1; a list with no scopes, or with a set at phase 0

abbrev pub id : ℕ → Scopes → Stx
id x s = atom (record { at0 = s; at1 = 0; at2 = 0 }) (symbol x)

abbrev pub id01 : ℕ → Scopes → Scopes → Stx
id01 x s t = atom (record { at0 = s; at1 = t; at2 = 0 }) (symbol x)

abbrev pub ls : Stxs → Stx
ls l = list no_sets l

abbrev pub ls_with : Scopes → Stxs → Stx
ls_with s l = list (record { at0 = s; at1 = 0; at2 = 0 }) l

infixr 30 ◌▹◌
abbrev pub ◌▹◌ : Stx → Stxs → Stxs
◌▹◌ a l = cons a l

abbrev pub lambda' : Stx
lambda' = id 0 0

abbrev pub let_syntax' : Stx
let_syntax' = id 1 0

abbrev pub syntax' : Stx
syntax' = id 3 0

-- the application of primitive p
abbrev pub call : ℕ → Stxs → Stx
call p l = ls (atom no_sets (prim p) ▹ l)

-- the binding of symbol x with set s to name n
abbrev pub to : ℕ → Scopes → ℕ → Bind
to x s n = record { symb = x; target = n; set = s }

-- ---- the words x, y, m and z, as bytes, and an image's head

abbrev pub wx : List ℕ
wx = 120 ∷ []

abbrev pub wy : List ℕ
wy = 121 ∷ []

abbrev pub wm : List ℕ
wm = 109 ∷ []

abbrev pub wz : List ℕ
wz = 122 ∷ []

abbrev pub head : List (List ℕ) → ℕ → ℕ → Head
head ws names scopes = record { words = ws; names = names; scopes = scopes }

-- ---- images as the definitions write them

-- words x = 4 and y = 5, made names 6 to 8, three scopes
abbrev pub image_xy : List Bind → Stx → List ℕ
image_xy bs r = syntax_bytes (head (wx ∷ wy ∷ []) 9 3) bs r

-- words x, m, z = 4, 5, 6, no made names, no scopes, no bindings
abbrev pub image_xmz : Stx → List ℕ
image_xmz r = syntax_bytes (head (wx ∷ wm ∷ wz ∷ []) 7 0) [] r

-- ---- what is lent: a table of 40 words per unit and three more, and an output of 100 bytes, both filled

unfoldable pub lent_table : ℕ → List ℕ
lent_table budget = replicate (40 * budget + 3) 2779096485

unfoldable pub lent_output : List ℕ
lent_output = replicate 100 90

-- ---- what comes back: code and units of a refusal, and of code 6 the two places, the units and name of a resolve, the units and image of the others

-- the first 40 times budget words are zero and the rest untouched
abbrev pub table_after : ℕ → List ℕ
table_after budget = replicate (40 * budget) 0 ++ replicate 3 2779096485

abbrev pub refuses : ℕ → List ℕ → ℕ → ℕ → Result
refuses budget output c u =
    record { answer = record { code = c; units = u; name = 0; len = 0; first = 0; second = 0 }; output = output; table = table_after budget }

abbrev pub rivals-at : ℕ → ℕ → ℕ → List ℕ → ℕ → Result
rivals-at a b budget output u =
    record { answer = record { code = 6; units = u; name = 0; len = 0; first = a; second = b }; output = output; table = table_after budget }

abbrev pub names : ℕ → ℕ → ℕ → Result
names budget n u = record { answer = record { code = 0; units = u; name = n; len = 0; first = 0; second = 0 }; output = []; table = table_after budget }

abbrev pub writes : ℕ → ℕ → List ℕ → Result
writes budget u b =
    record {
      answer = record { code = 0; units = u; name = 0; len = length b; first = 0; second = 0 };
      output = b ++ drop (length b) lent_output;
      table = table_after budget;
    }

-- ---- the jobs on an image's bytes

-- resolving at a phase; budget 16
abbrev pub resolved : ℕ → List ℕ → Result
resolved ph image = resolve_job image ph 16 (lent_table 16)

-- expanding at phase 0 with the program's budget
abbrev pub expanded : List ℕ → Result
expanded image = expand_job image 0 400 (lent_table 400) lent_output

-- parsing with the program's budget
abbrev pub parsed : List ℕ → Result
parsed image = parse_job image 400 (lent_table 400) lent_output

abbrev pub evaluated : ℕ → List ℕ → Result
evaluated budget image = evaluate_job image budget (lent_table budget) lent_output
