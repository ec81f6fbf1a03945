-- Reading as passes over the tokens from the front, with a counter in place of the object: the form that code can meet. `JobLaws` proves it equal
-- to the definitions.
use Rattle.std.specs.Prelude.{ℕ, zero, suc, ◌+◌, ◌-◌, Bool, true, false, ◌&&◌, ◌||◌, List, [], ◌∷◌, ◌++◌, eqb, ltb, leb, length}
use Rattle.std.proofs.Math.Option.{Option, none, some}
use Rattle.model.specs.Choice.{when◌then◌else◌}
use Rattle.model.specs.Limits.{most_names, core_names, most_nesting}
use Rattle.model.specs.Refusals.{over_limit}
use Rattle.model.specs.Objects.{no_sets, atom}
use Rattle.model.specs.Reading.{core_words, Head}
use Rattle.model.specs.Writing.{num_bytes, sets_bytes, stx_bytes, binds_bytes, head_bytes}
use Rattle.requests.specs.Tokens.{space, line_end, paren, Token, opening, closing, bad, one}
use Rattle.requests.specs.FromText.{TextRefusal, base, refused, judged, met, atom_of, all_fit}
use Rattle.requests.specs.ToText.{leaf_text}
use Rattle.requests.specs.TextJobs.{TextEnding, fitted}
use Rattle.text_laws.specs.Single.{space_if}

-- the parts that are still to come of the innermost open list, where d lists inside it are open
unfoldable pub parts_left : ℕ → List Token → ℕ
parts_left d [] = 0
parts_left zero (closing ∷ ts) = 0
parts_left (suc d) (closing ∷ ts) = parts_left d ts
parts_left zero (opening ∷ ts) = suc (parts_left 1 ts)
parts_left (suc d) (opening ∷ ts) = parts_left (suc (suc d)) ts
parts_left zero (one l ∷ ts) = suc (parts_left 0 ts)
parts_left (suc d) (one l ∷ ts) = parts_left (suc d) ts
parts_left d (bad ∷ ts) = parts_left d ts

-- an object's bytes: of a list its tag, three empty sets and the count of its parts
unfoldable pub token_bytes : List (List ℕ) → List Token → List ℕ
unfolding num_bytes sets_bytes stx_bytes no_sets atom_of parts_left
token_bytes all [] = []
token_bytes all (one l ∷ ts) = stx_bytes (atom no_sets (atom_of all l)) ++ token_bytes all ts
token_bytes all (opening ∷ ts) = (num_bytes 5 ++ sets_bytes no_sets ++ num_bytes (parts_left 0 ts)) ++ token_bytes all ts
token_bytes all (closing ∷ ts) = token_bytes all ts
token_bytes all (bad ∷ ts) = token_bytes all ts

-- no part is past level m, where d lists are open
unfoldable pub levels_to : ℕ → ℕ → List Token → Bool
levels_to m d [] = true
levels_to m d (one l ∷ ts) = ltb d m && levels_to m d ts
levels_to m d (opening ∷ ts) = ltb d m && levels_to m (suc d) ts
levels_to m d (closing ∷ ts) = levels_to m (d - 1) ts
levels_to m d (bad ∷ ts) = ltb d m && levels_to m d ts

-- ---- the whole job: a pass for 26 and 27, one for the limits, and the image

unfoldable pub head_of : List (List ℕ) → Head
unfolding core_names
head_of ws = record { words = ws; names = core_names + length ws; scopes = 0 }

unfoldable pub passes_within : List Token → Bool
unfolding all_fit met core_words most_names core_names levels_to most_nesting
passes_within ts = all_fit ts && leb (length (met core_words ts)) (most_names - core_names) && levels_to most_nesting 0 ts

unfoldable pub passes_bytes : List Token → List ℕ
unfolding head_bytes head_of met core_words num_bytes binds_bytes token_bytes
passes_bytes ts =
    head_bytes 1 (head_of (met core_words ts)) ++ num_bytes 0 ++ binds_bytes [] ++ token_bytes (core_words ++ met core_words ts) ts

unfoldable pub after_faults : Option TextRefusal → List Token → ℕ → TextEnding
unfolding passes_within fitted passes_bytes
after_faults (some r) ts room = refused r
after_faults none ts room = when passes_within ts then fitted room (passes_bytes ts) else refused (base over_limit)

unfoldable pub read_passes : List Token → ℕ → TextEnding
unfolding after_faults judged
read_passes ts room = after_faults (judged 0 false ts) ts room

-- ---- printing: the text of tokens, where a space is due or not

unfoldable pub text_from : Bool → List Token → List ℕ
unfolding space_if leaf_text
text_from due [] = []
text_from due (opening ∷ ts) = space_if due (40 ∷ text_from false ts)
text_from due (closing ∷ ts) = 41 ∷ text_from true ts
text_from due (one l ∷ ts) = space_if due (leaf_text l ++ text_from true ts)
text_from due (bad ∷ ts) = text_from due ts

-- ---- from one token to the next

-- a byte that ends a piece
unfoldable pub ending : ℕ → Bool
unfolding space paren
ending b = space b || paren b || eqb b 59

-- what of a piece comes before a byte that ends it, and what comes after it
unfoldable pub run : List ℕ → List ℕ
unfolding ending
run [] = []
run (b ∷ s) = when ending b then [] else b ∷ run s

unfoldable pub after_run : List ℕ → List ℕ
unfolding ending
after_run [] = []
after_run (b ∷ s) = when ending b then b ∷ s else after_run s

-- what comes after a comment
unfoldable pub after_line : List ℕ → List ℕ
unfolding line_end
after_line [] = []
after_line (b ∷ s) = when line_end b then s else after_line s
