-- The text ahead of a walk: what each step takes of it.
use Prim.Native.Nat.{ℕ, ◌+◌, ◌-◌, ◌*◌, ◌≤◌, ◌<◌}
use mathlib.Core.Path.{◌≡◌, refl, sym, ap, ap₂, ◌∙◌, subst}
use mathlib.Core.Bool.{Bool, true, false}
use mathlib.Core.List.{List, [], ◌∷◌, ◌++◌, append-nil}
use native.Mathlib.Omega.{arith}
use native.Mathlib.Nat.{max-zero}
use lib.ListN.{length, set, length-set}
use lib.Seq.{get_or-set_same}
use Rattle.model.specs.Objects.{Atom, symbol, tag_of, content_of, Sets, Stx, atom, list, Stxs, nil, cons, count, nesting, nestings}
use Rattle.model.specs.Objects as o
use Rattle.model.specs.Reading.{got, core_words, Image, read_image, read_syntax}
use Rattle.model.specs.Writing.{stx_bytes, stxs_bytes}
use Rattle.codec_laws.specs.WellFormed.{AtomFits}
use Rattle.requests.specs.Tokens.{Token, opening, closing, one}
use Rattle.requests.specs.ToText.{leaf_of, spelled, leaf_text, object_text, written, print_text}
use Rattle.text_laws.specs.Single.{space_if}
use Rattle.text_laws.specs.Passes.{text_from}
use Rattle.text_laws.proofs.TextTrip.{toks}
use Rattle.text_laws.proofs.PassLaws.{whole-text}
use Rattle.text_printer.specs.declared.walking.Walk.{Walk}
use Rattle.text_printer.specs.declared.walking.Step.{Step}
use Rattle.text_printer.specs.declared.walking.Step.TheVariants.{Open, Close}
use Rattle.std.specs.Prelude.{Option, None, Some}
use Rattle.text_printer.specs.declared.walking.Step.TheVariants as step
use Rattle.text_printer.specs.Walking.{bytes_ahead, behind, tokens_ahead, Standing, Walkable, Opens, Closes, Meets, ShowsStep, ShowsSteps, Steps}
use Rattle.text_printer.specs.Spelling.{spelling, Spelled}
use Rattle.text_printer.specs.Atoms.{atom_text, Printable}
use Rattle.text_printer.specs.Printing.{text_of_read, print_of, Ready}

-- ---- tokens ahead, and their text

tokens-atom : (all : List (List ℕ)) (c : Sets) (a : Atom) (l : Stxs) (ls : List Stxs) → tokens_ahead all (cons (atom c a) l) ls ≡ one (leaf_of all a) ∷ tokens_ahead all l ls
unfolding tokens_ahead spelled toks
tokens-atom all c a l ls = refl

tokens-list : (all : List (List ℕ)) (c : Sets) (p l : Stxs) (ls : List Stxs) → tokens_ahead all (cons (list c p) l) ls ≡ opening ∷ tokens_ahead all p (l ∷ ls)
unfolding tokens_ahead behind spelled toks
tokens-list all c p l ls = refl

tokens_close : (all : List (List ℕ)) (l : Stxs) (ls : List Stxs) → tokens_ahead all nil (l ∷ ls) ≡ closing ∷ tokens_ahead all l ls
unfolding tokens_ahead behind spelled toks
tokens_close all l ls = refl

tokens_none : (all : List (List ℕ)) → tokens_ahead all nil [] ≡ []
unfolding tokens_ahead behind spelled toks
tokens_none all = refl

tokens-root : (all : List (List ℕ)) (x : Stx) → tokens_ahead all (cons x nil) [] ≡ toks (spelled all x) []
unfolding tokens_ahead behind spelled toks
tokens-root all x = refl

text-none : (due : Bool) → text_from due [] ≡ []
unfolding text_from
text-none due = refl

space-before : (due : Bool) (a b : List ℕ) → space_if due (a ++ b) ≡ space_if due a ++ b
unfolding space_if
space-before true a b = refl
space-before false a b = refl

pub space-long : (due : Bool) (a : List ℕ) → length (space_if due a) ≡ length (space_if due []) + length a
unfolding space_if
space-long true a = omega arith
space-long false a = omega arith

pub space-few : (due : Bool) → length (space_if due []) ≤ 1
unfolding space_if
space-few true = omega arith
space-few false = omega arith

text_open : (due : Bool) (ts : List Token) → text_from due (opening ∷ ts) ≡ space_if due (40 ∷ []) ++ text_from false ts
unfolding text_from
text_open due ts = space-before due (40 ∷ []) (text_from false ts)

text_close : (due : Bool) (ts : List Token) → text_from due (closing ∷ ts) ≡ (41 ∷ []) ++ text_from true ts
unfolding text_from
text_close due ts = refl

leaf-is : (all : List (List ℕ)) (a : Atom) → leaf_text (leaf_of all a) ≡ atom_text all (tag_of a) (content_of a)
unfolding leaf_text leaf_of atom_text tag_of content_of
leaf-is all (symbol x) = refl
leaf-is all (o.number n) = refl
leaf-is all (o.point n) = refl
leaf-is all (o.prim n) = refl
leaf-is all (o.rung n) = refl

text-atom : (all : List (List ℕ)) (due : Bool) (a : Atom) (ts : List Token) → text_from due (one (leaf_of all a) ∷ ts) ≡ space_if due (atom_text all (tag_of a) (content_of a)) ++ text_from true ts
unfolding text_from
text-atom all due a ts = ap (λ (b : List ℕ). space_if due (b ++ text_from true ts)) (leaf-is all a) ∙ space-before due (atom_text all (tag_of a) (content_of a)) (text_from true ts)

-- ---- the text ahead of a walk

pub record Ahead (image starts : List ℕ) (n : ℕ) (left : List ℕ) (w : Walk) (due : Bool) (rest : List ℕ) : Type 0 where
  pub scopes : ℕ
  pub first : Stxs
  pub others : List Stxs
  pub stands : Standing (4 + n) scopes image left w first others
  pub is : rest ≡ text_from due (tokens_ahead (spelling image starts n) first others)

-- it begins with `piece`, and the rest is ahead of the next place
pub record Onward (image starts : List ℕ) (n : ℕ) (w : Walk) (rest piece left' : List ℕ) (w' : Walk) (due' : Bool) : Type 0 where
  pub further : List ℕ
  pub parts : rest ≡ piece ++ further
  pub ahead : Ahead image starts n left' w' due' further
  pub less : (length image - w'.at) * 2 + w'.depth < (length image - w.at) * 2 + w.depth

module _ {image starts : List ℕ} {n : ℕ} {left : List ℕ} {w : Walk} {due : Bool} {rest : List ℕ} (a : Ahead image starts n left w due rest) where
  pub ahead_walkable : Walkable image left w
  ahead_walkable = record { symbols = 4 + n; scopes = a.scopes; first = a.first; others = a.others; stands = a.stands }

  module _ {left' : List ℕ} {r : Option (Step × Walk)} (s : Steps image left w left' r) where
    ended_so : r ≡ None → (a.first ≡ nil) × (a.others ≡ [])
    ended_so e = subst (ShowsSteps (4 + n) a.scopes image w a.first a.others left') e (s.is (4 + n) a.scopes a.first a.others a.stands)

    stepped : {q x : Step} {w' : Walk} → r ≡ Some (x, w') → x ≡ q → ShowsStep (4 + n) a.scopes image w a.first a.others left' w' q
    stepped {w' = w'} e i =
        subst (ShowsStep (4 + n) a.scopes image w a.first a.others left' w') i
        (subst (ShowsSteps (4 + n) a.scopes image w a.first a.others left') e (s.is (4 + n) a.scopes a.first a.others a.stands))

    pub ahead-end : r ≡ None → rest ≡ []
    ahead-end e =
        let t : (a.first ≡ nil) × (a.others ≡ []) = ended_so e in
        a.is ∙ ap₂ (λ (l : Stxs) (ls : List Stxs). text_from due (tokens_ahead (spelling image starts n) l ls)) t.0 t.1
        ∙ ap (text_from due) (tokens_none (spelling image starts n)) ∙ text-none due

    pub ahead_open : {w' : Walk} {x : Step} → r ≡ Some (x, w') → x ≡ Open → Onward image starts n w rest (space_if due (40 ∷ [])) left' w' false
    ahead_open {w'} e i =
        let t : Opens (4 + n) a.scopes image w a.first a.others left' w' = stepped e i in
        let u = t.onward in
        let y = t.deeper in
        let z = t.stands.within in
        record {
          further = text_from false (tokens_ahead (spelling image starts n) t.parts (t.after ∷ a.others));
          parts = a.is ∙ ap (λ (l : Stxs). text_from due (tokens_ahead (spelling image starts n) l a.others)) t.is
              ∙ ap (text_from due) (tokens-list (spelling image starts n) t.sets t.parts t.after a.others)
              ∙ text_open due (tokens_ahead (spelling image starts n) t.parts (t.after ∷ a.others));
          ahead = record { scopes = a.scopes; first = t.parts; others = t.after ∷ a.others; stands = t.stands; is = refl };
          less = omega arith;
        }

    pub ahead_close : {w' : Walk} {x : Step} → r ≡ Some (x, w') → x ≡ Close → Onward image starts n w rest (41 ∷ []) left' w' true
    ahead_close {w'} e i =
        let t : Closes (4 + n) a.scopes image w a.first a.others left' w' = stepped e i in
        let u = t.same in
        let y = t.higher in
        record {
          further = text_from true (tokens_ahead (spelling image starts n) t.next t.others);
          parts = a.is ∙ ap₂ (λ (l : Stxs) (ls : List Stxs). text_from due (tokens_ahead (spelling image starts n) l ls)) t.is t.around
              ∙ ap (text_from due) (tokens_close (spelling image starts n) t.next t.others)
              ∙ text_close due (tokens_ahead (spelling image starts n) t.next t.others);
          ahead = record { scopes = a.scopes; first = t.next; others = t.others; stands = t.stands; is = refl };
          less = omega arith;
        }

    module _ {tag content : ℕ} {w' : Walk} {x : Step} (e : r ≡ Some (x, w')) (i : x ≡ step.Atom tag content) where
      met : Meets (4 + n) a.scopes image w a.first a.others left' tag content w'
      met = stepped e i

      pub ahead-atom : Onward image starts n w rest (space_if due (atom_text (spelling image starts n) tag content)) left' w' true
      ahead-atom =
          let t = met in
          let u = t.onward in
          let y = t.level in
          let z = t.stands.within in
          record {
            further = text_from true (tokens_ahead (spelling image starts n) t.after a.others);
            parts = a.is ∙ ap (λ (l : Stxs). text_from due (tokens_ahead (spelling image starts n) l a.others)) t.is
                ∙ ap (text_from due) (tokens-atom (spelling image starts n) t.sets t.met t.after a.others)
                ∙ text-atom (spelling image starts n) due t.met (tokens_ahead (spelling image starts n) t.after a.others)
                ∙ ap₂ (λ (g c : ℕ). space_if due (atom_text (spelling image starts n) g c) ++ text_from true (tokens_ahead (spelling image starts n) t.after a.others)) t.tag_is t.content-is;
            ahead = record { scopes = a.scopes; first = t.after; others = a.others; stands = t.stands; is = refl };
            less = omega arith;
          }

      declared-symbol : (x : Atom) → AtomFits (4 + n) x → tag_of x ≡ tag → content_of x ≡ content → tag ≡ 0 → content < 4 + n
      unfolding tag_of content_of
      declared-symbol (symbol x) f t c z = subst (λ (k : ℕ). k < 4 + n) c f
      declared-symbol (o.number x) f t c z = absurd (let q = t ∙ z in omega arith)
      declared-symbol (o.point x) f t c z = absurd (let q = t ∙ z in omega arith)
      declared-symbol (o.prim x) f t c z = absurd (let q = t ∙ z in omega arith)
      declared-symbol (o.rung x) f t c z = absurd (let q = t ∙ z in omega arith)

      pub ahead-printable : Spelled image starts n → Printable image starts n tag content
      ahead-printable s = let t = met in record { words = s; declared = λ z. declared-symbol t.met t.atom-fits t.tag_is t.content-is z }

-- ---- at the start

print_is : (image : List ℕ) (i : Image Stx) → text_of_read (got i []) ≡ print_text i
unfolding text_of_read
print_is image i = refl

pub read_print : (image : List ℕ) (i : Image Stx) → read_image read_syntax image ≡ got i [] → print_of image ≡ print_text i
unfolding print_of
read_print image i e = ap text_of_read e ∙ print_is image i

one-part : (x : Stx) → count (cons x nil) ≡ 1
unfolding count
one-part x = refl

one-bytes : (x : Stx) → bytes_ahead (cons x nil ∷ []) ≡ stx_bytes x
unfolding bytes_ahead stxs_bytes
one-bytes x = append-nil (stx_bytes x ++ []) ∙ append-nil (stx_bytes x)

one_deep : (x : Stx) → nestings (cons x nil) ≡ nesting x
unfolding nesting
one_deep x = max-zero (nesting x)

module _ {image starts : List ℕ} {n root : ℕ} (y : Ready image starts n root) (left : List ℕ) (h : length left ≡ 65) where
  pub ahead-start : Ahead image starts n (set left 0 1) (record { at = root; depth = 1 }) false (print_of image)
  unfolding print_text written
  ahead-start = record {
    scopes = y.whole.head.scopes;
    first = cons y.whole.root nil;
    others = [];
    stands = record {
      symbols-few = let f = y.words.few in omega arith;
      scopes-few = y.scopes-few;
      within = y.within;
      short = y.short;
      room = length-set left 0 1 ∙ h;
      bytes = y.bytes ∙ sym (one-bytes y.whole.root);
      counts = (omega arith, get_or-set_same left 0 1 0 (omega arith) ∙ sym (one-part y.whole.root), refl);
      shallow = (let d = one_deep y.whole.root in let s = y.shallow in omega arith, tt);
      fits = ((y.fits, tt), tt);
    };
    is = text;
  }
    where
      text : print_of image ≡ text_from false (tokens_ahead (spelling image starts n) (cons y.whole.root nil) [])
      text =
          read_print image y.whole y.reads
          ∙ ap (λ (ws : List (List ℕ)). object_text (spelled (core_words ++ ws) y.whole.root) []) (sym y.spelled)
          ∙ whole-text (spelled (spelling image starts n) y.whole.root)
          ∙ ap (text_from false) (sym (tokens-root (spelling image starts n) y.whole.root))
