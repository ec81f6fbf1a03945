-- The whole job of reading as passes over the tokens, and how code goes from one token to the next.
use mathlib.Core.Path.{◌≡◌, refl, sym, ap, ap₂, ◌∙◌, subst}
use Prim.Native.Nat.{ℕ, ◌+◌, ◌-◌}
use mathlib.Core.Bool.{Bool, true, false, ◌&&◌, ◌||◌, false≢true}
use mathlib.Core.List.{List, [], ◌∷◌, ◌++◌, append_assoc, append-nil}
use mathlib.Core.Option.{Option, none, some}
use lib.Dec.{eqb, leb}
use lib.ListN.{length}
use Rattle.model.specs.Choice.{when◌then◌else◌}
use Rattle.model.specs.Limits.{most_names, core_names, most_nesting}
use Rattle.model.specs.Refusals.{over_limit}
use Rattle.model.specs.Reading.{core_words}
use Rattle.model.specs.Writing.{num_bytes, binds_bytes, head_bytes, syntax_bytes}
use Rattle.requests.specs.Tokens.{space, line_end, paren, ended, cut, comment, Token, token_of, tokens_of, tokens}
use Rattle.requests.specs.FromText.{TextRefusal, base, Made, made, refused, Obj, judged, built, the_object, unless, read_object, met, all_fit, image_of, within, limited, numbered_from, read_text}
use Rattle.requests.specs.TextJobs.{TextEnding, fitted, image_in, read_ending}
use Rattle.text_laws.specs.Passes.{head_of, passes_within, passes_bytes, after_faults, read_passes, ending, run, after_run, after_line}
use Rattle.text_laws.proofs.TextTrip.{toks, object-read}
use Rattle.text_laws.proofs.Exact.{no-fault}
use Rattle.text_laws.proofs.PassLaws.{whole-bytes, whole-levels}

-- ---- the whole job

image-bytes : (x : Obj) → passes_bytes (toks x []) ≡ syntax_bytes (image_of (met core_words (toks x [])) x).head (image_of (met core_words (toks x [])) x).binds (image_of (met core_words (toks x [])) x).root
unfolding passes_bytes syntax_bytes image_of head_of
image-bytes x =
    ap (λ (s : List ℕ). head_bytes 1 (head_of (met core_words (toks x []))) ++ num_bytes 0 ++ binds_bytes [] ++ s) (whole-bytes (core_words ++ met core_words (toks x [])) x)

image-within : (x : Obj) → passes_within (toks x []) ≡ within (toks x []) (image_of (met core_words (toks x [])) x)
unfolding passes_within within image_of
image-within x =
    ap (λ (b : Bool). all_fit (toks x []) && leb (length (met core_words (toks x []))) (most_names - core_names) && b)
    (whole-levels (core_words ++ met core_words (toks x [])) x most_nesting)

-- the ending of a read
abbrev ending_of : ℕ → List Token → TextEnding
ending_of room ts = image_in room (numbered_from ts (read_object ts))

object-passes : (x : Obj) (room : ℕ) → ending_of room (toks x []) ≡ after_faults none (toks x []) room
unfolding numbered_from limited after_faults image_in
object-passes x room =
    rw (object-read x)
    (go (within (toks x []) (image_of (met core_words (toks x [])) x))
    ∙ ap₂ (λ (b : Bool) (s : List ℕ). when b then fitted room s else refused (base over_limit)) (sym (image-within x)) (sym (image-bytes x)))
  where
    go : (b : Bool) → image_in room (when b then made (image_of (met core_words (toks x [])) x) else refused (base over_limit))
        ≡ (when b then fitted room (syntax_bytes (image_of (met core_words (toks x [])) x).head (image_of (met core_words (toks x [])) x).binds (image_of (met core_words (toks x [])) x).root) else refused (base over_limit))
    go true = refl
    go false = refl

faulted : (ts : List Token) (r : TextRefusal) → judged 0 false ts ≡ some r → read_object ts ≡ refused r
unfolding read_object unless
faulted ts r e = ap (λ (z : Option TextRefusal). unless z (the_object (built ts))) e

at-fault : (ts : List Token) (r : TextRefusal) (room : ℕ) → image_in room (numbered_from ts (refused r)) ≡ refused r
unfolding image_in numbered_from
at-fault ts r room = refl

after-some : (r : TextRefusal) (ts : List Token) (room : ℕ) → refused r ≡ after_faults (some r) ts room
unfolding after_faults
after-some r ts room = refl

tokens-passes : (ts : List Token) (room : ℕ) → ending_of room ts ≡ read_passes ts room
unfolding read_passes
tokens-passes ts room = go (judged 0 false ts) refl
  where
    refused-at : (r : TextRefusal) → judged 0 false ts ≡ some r → ending_of room ts ≡ refused r
    refused-at r e = ap (λ (z : Made Obj). image_in room (numbered_from ts z)) (faulted ts r e) ∙ at-fault ts r room

    go : (o : Option TextRefusal) → judged 0 false ts ≡ o → ending_of room ts ≡ after_faults o ts room
    go (some r) e = refused-at r e ∙ after-some r ts room
    go none e =
        let f = no-fault ts e in
        subst (λ (z : List Token). ending_of room z ≡ after_faults none z room) (sym f.1) (object-passes f.0 room)

-- reading is the passes over the tokens of the text
pub read_as_passes : (text : List ℕ) (room : ℕ) → read_ending text room ≡ read_passes (tokens text) room
unfolding read_ending read_text
read_as_passes text room = tokens-passes (tokens text) room

-- ---- from one token to the next

pub after_blank : (b : ℕ) (s : List ℕ) → space b ≡ true → tokens (b ∷ s) ≡ tokens s
unfolding tokens cut ended
after_blank b s e = rw e

comment-rest : (s : List ℕ) → comment s ≡ cut [] (after_line s)
unfolding cut after_line ended
comment-rest [] = refl
comment-rest (b ∷ s) = go (line_end b) (comment-rest s)
  where
    go : (t : Bool) → comment s ≡ cut [] (after_line s) → (when t then cut [] s else comment s) ≡ cut [] (when t then s else after_line s)
    go true e = refl
    go false e = e

pub after-comment : (s : List ℕ) → tokens (59 ∷ s) ≡ tokens (after_line s)
unfolding tokens cut ended
after-comment s = ap tokens_of (comment-rest s)

not-ending : (b : ℕ) → ending b ≡ false → (space b ≡ false) × (paren b ≡ false) × (eqb b 59 ≡ false)
unfolding ending
not-ending b e = go (space b) (paren b) (eqb b 59) e
  where
    go : (x y z : Bool) → (x || y || z) ≡ false → (x ≡ false) × (y ≡ false) × (z ≡ false)
    go false false false e = (refl, refl, refl)
    go true y z e = absurd (false≢true (sym e))
    go false true z e = absurd (false≢true (sym e))
    go false false true e = absurd (false≢true (sym e))

ends-run : (c : ℕ) (s : List ℕ) (b : ℕ) (w : List ℕ) → ending c ≡ true → cut (b ∷ w) (c ∷ s) ≡ (b ∷ w) ∷ cut [] (c ∷ s)
unfolding cut ended ending
ends-run c s b w e = go (space c) (paren c) (eqb c 59) e
  where
    go : (x y z : Bool) → (x || y || z) ≡ true
        → (when x then ended (b ∷ w) (cut [] s) else when y then ended (b ∷ w) ((c ∷ []) ∷ cut [] s) else when z then ended (b ∷ w) (comment s) else cut ((b ∷ w) ++ (c ∷ [])) s)
        ≡ (b ∷ w) ∷ (when x then ended [] (cut [] s) else when y then ended [] ((c ∷ []) ∷ cut [] s) else when z then ended [] (comment s) else cut ([] ++ (c ∷ [])) s)
    go true y z e = refl
    go false true z e = refl
    go false false true e = refl
    go false false false e = absurd (false≢true e)

goes_on : (c : ℕ) (s : List ℕ) (b : ℕ) (w : List ℕ) → (space c ≡ false) × (paren c ≡ false) × (eqb c 59 ≡ false) → cut (b ∷ w) (c ∷ s) ≡ cut (b ∷ (w ++ (c ∷ []))) s
unfolding cut
goes_on c s b w p = rw (p.0, p.1, p.2)

first_byte : (b : ℕ) (s : List ℕ) → (space b ≡ false) × (paren b ≡ false) × (eqb b 59 ≡ false) → cut [] (b ∷ s) ≡ cut (b ∷ []) s
unfolding cut
first_byte b s p = rw (p.0, p.1, p.2)

run-cut : (s : List ℕ) (b : ℕ) (w : List ℕ) → cut (b ∷ w) s ≡ (b ∷ (w ++ run s)) ∷ cut [] (after_run s)
unfolding cut run after_run ended
run-cut [] b w = ap (λ (z : List ℕ). (b ∷ z) ∷ []) (sym (append-nil w))
run-cut (c ∷ s) b w = go (ending c) refl (run-cut s b (w ++ (c ∷ [])))
  where
    go : (t : Bool) → ending c ≡ t → cut (b ∷ (w ++ (c ∷ []))) s ≡ (b ∷ ((w ++ (c ∷ [])) ++ run s)) ∷ cut [] (after_run s)
        → cut (b ∷ w) (c ∷ s) ≡ (b ∷ (w ++ (when t then [] else c ∷ run s))) ∷ cut [] (when t then c ∷ s else after_run s)
    go true e below = ends-run c s b w e ∙ ap (λ (z : List ℕ). (b ∷ z) ∷ cut [] (c ∷ s)) (sym (append-nil w))
    go false e below =
        goes_on c s b w (not-ending c e) ∙ below ∙ ap (λ (z : List ℕ). (b ∷ z) ∷ cut [] (after_run s)) (append_assoc w (c ∷ []) (run s))

-- a piece from its first byte on
pub after-piece : (b : ℕ) (s : List ℕ) → ending b ≡ false → tokens (b ∷ s) ≡ token_of (b ∷ run s) ∷ tokens (after_run s)
unfolding tokens
after-piece b s e = ap tokens_of (first_byte b s (not-ending b e) ∙ run-cut s b [])
