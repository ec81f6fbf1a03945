-- The limits, by the tests that the code makes.
use Prim.Native.Nat.{ℕ, ◌+◌, ◌-◌, ◌*◌, ◌≤◌, ◌<◌}
use mathlib.Core.Path.{◌≡◌, refl, sym, ap, ◌∙◌, subst}
use mathlib.Core.Bool.{Bool, true, false, ◌&&◌, and-false}
use mathlib.Core.List.{List, [], ◌∷◌, ◌++◌, append-nil}
use mathlib.Core.Logic.{◌⊎◌, inl, inr}
use native.Mathlib.Omega.{arith}
use native.Mathlib.Numerals.{add-one}
use lib.ListN.{length, drop, length-drop}
use lib.Seq.{length-take-le}
use lib.Dec.{ltb, leb}
use borrow.Author.Tests.{le-leb, lt-leb, lt-ltb, le-ltb}
use Rattle.model.specs.Limits.{most_names, core_names, most_nesting, most_word_length}
use Rattle.model.specs.Reading.{core_words}
use Rattle.requests.specs.Tokens.{Leaf, word, Token, opening, closing, bad, one, tokens}
use Rattle.requests.specs.FromText.{met, leaf_fits, all_fit}
use Rattle.text_laws.specs.Passes.{levels_to, passes_within}
use Rattle.tokens.specs.declared.pieces.Piece as pieces
use Rattle.tokens.specs.declared.pieces.Piece.TheVariants.{Bad, Word, Atom}
use Rattle.tokens.specs.declared.pieces.Piece.TheVariants as piece
use Rattle.std.specs.Prelude.{Option, None, Some, Result, Ok, Err}
use Rattle.tokens.specs.declared.Token as code
use Rattle.tokens.specs.declared.Token.TheVariants.{Open, Close, Piece}
use Rattle.tokens.specs.Pieces.{means, Means, AtomToken, OverToken}
use Rattle.tokens.specs.Nexts.{Goes, part, PieceAt, NextIs}
use Rattle.tokens.proofs.Uses.{next-end, next_open, next_close, next-piece, onward_laws}
use Rattle.text_reader.specs.Found.{most_words, found, all_words, Spans, Storable, Beyond, NotedAs, Noted, Notes}
use Rattle.text_reader.specs.Limiting.{Placeable, NotesPiece, Limited}
use Rattle.refusals.specs.declared.Refusal.{Refusal}
use Rattle.refusals.specs.declared.Refusal.TheVariants.{OverLimit}
use Rattle.text_reader.proofs.FoundLaws.{found_many}

-- ---- one piece

module _ {text spans : List ℕ} {n : ℕ} where
  -- a token that is no word
  keeps : (k : Token) → Spans text spans n → ((ts : List Token) → all_fit (k ∷ ts) ≡ all_fit ts) → ((seen : List (List ℕ)) (ts : List Token) → met seen (k ∷ ts) ≡ met seen ts)
      → Noted text spans n k spans (Ok n)
  keeps k s f m = record {
    same = refl;
    is = record { stored = s; fits = f; words = λ ts. ap (λ (l : List (List ℕ)). found text spans n ++ l) (m (all_words text spans n) ts) };
  }

  -- a token over its limit
  fails : (k : Token) → ((ts : List Token) → all_fit (k ∷ ts) ≡ false) → Noted text spans n k spans (Err OverLimit)
  fails k f = record { same = refl; is = (refl, record { over = λ ts. inl (f ts) }) }

fit-leaf : (l : Leaf) (ts : List Token) → leaf_fits l ≡ true → all_fit (one l ∷ ts) ≡ all_fit ts
unfolding all_fit
fit-leaf l ts e = rw e

fit-not : (l : Leaf) (ts : List Token) → leaf_fits l ≡ false → all_fit (one l ∷ ts) ≡ false
unfolding all_fit
fit-not l ts e = rw e

fit-bad : (ts : List Token) → all_fit (bad ∷ ts) ≡ all_fit ts
unfolding all_fit
fit-bad ts = refl

met-bad : (seen : List (List ℕ)) (ts : List Token) → met seen (bad ∷ ts) ≡ met seen ts
unfolding met
met-bad seen ts = refl

word_over : (w : List ℕ) → 32 < length w → leaf_fits (word w) ≡ false
unfolding leaf_fits most_word_length
word_over w h = lt-leb (length w) 32 h

module _ {text spans : List ℕ} {n from to : ℕ} (s : Placeable text spans n from to) where
  pub note_forward : from ≤ to
  note_forward = s.sought.span.forward

  pub note_storable : to - from ≤ 32 → Storable text spans n from to
  note_storable h = record { sought = s.sought; space = s.space; short = h }

module _ {text spans : List ℕ} {n from to : ℕ} (s : Placeable text spans n from to) {p : pieces.Piece} where
  read_as : {q : pieces.Piece} → p ≡ q → (k : Token) → Means k (part text from to) p → means k (part text from to) q
  read_as e k m = subst (means k (part text from to)) e m.is

  pub piece-bad : p ≡ Bad → NotesPiece text spans n p from to spans (Ok n)
  piece-bad e = record {
    same = refl;
    is = λ k m. subst (λ (t : Token). Noted text spans n t spans (Ok n)) (sym (read_as e k m)) (keeps bad s.sought.stored fit-bad met-bad);
  }

  pub piece-atom : {g c : ℕ} → p ≡ Atom g c → NotesPiece text spans n p from to spans (Ok n)
  piece-atom {g} {c} e = record {
    same = refl;
    is = λ k m.
        let a : AtomToken g c k = read_as e k m in
        subst (λ (t : Token). Noted text spans n t spans (Ok n)) (sym a.is)
        (keeps (one a.leaf) s.sought.stored (λ ts. fit-leaf a.leaf ts a.atom-is.fits) a.atom-is.no_word);
  }

  pub piece-kept : (p ≡ Bad) ⊎ ((g : ℕ) × (c : ℕ) × (p ≡ Atom g c)) → NotesPiece text spans n p from to spans (Ok n)
  piece-kept (inl e) = piece-bad e
  piece-kept (inr h) = piece-atom h.2

  pub piece-over : p ≡ piece.Over → NotesPiece text spans n p from to spans (Err OverLimit)
  piece-over e = record {
    same = refl;
    is = λ k m.
        let a : OverToken k = read_as e k m in
        subst (λ (t : Token). Noted text spans n t spans (Err OverLimit)) (sym a.is) (fails (one a.leaf) (λ ts. fit-not a.leaf ts a.not-fits));
  }

  module _ (e : p ≡ Word) where
    pub piece-long : 32 < to - from → NotesPiece text spans n p from to spans (Err OverLimit)
    piece-long h = record {
      same = refl;
      is = λ k m. subst (λ (t : Token). Noted text spans n t spans (Err OverLimit)) (sym (read_as e k m)) (fails (one (word (part text from to))) (λ ts. fit-not (word (part text from to)) ts (word_over (part text from to) long)));
    }
      where
        long : 32 < length (part text from to)
        long =
            let a = s.sought.span.within in
            let b = s.sought.span.forward in
            let d = length-drop from text in
            let l = length-take-le (to - from) (drop from text) (omega arith) in
            omega arith

    pub piece-word : {spans' : List ℕ} {r : Result ℕ Refusal} → Notes text spans n from to spans' r → NotesPiece text spans n p from to spans' r
    piece-word {spans'} {r} w = record {
      same = w.same;
      is = λ k m. subst (λ (t : Token). Noted text spans n t spans' r) (sym (read_as e k m)) w;
    }

pub ruleset piece_laws = (note_forward, note_storable, piece-kept, piece-over, piece-long, piece-word)

-- ---- the pass

abbrev sound : ℕ → List Token → Bool
sound level ts = all_fit ts && levels_to 64 level ts

-- from `at` on at that level, with the words found, the limits are those of the text
pub record Limiting (text spans : List ℕ) (at level n : ℕ) : Type 0 where
  pub within : at ≤ length text
  pub shallow : level ≤ 64
  pub space : length spans ≡ most_words * 2
  pub stored : Spans text spans n
  pub words : found text spans n ++ met (all_words text spans n) (tokens (drop at text)) ≡ met core_words (tokens text)
  pub so_far : sound level (tokens (drop at text)) ≡ sound 0 (tokens text)

within-is : (ts : List Token) (b : Bool) → leb (length (met core_words ts)) 1020 ≡ b → passes_within ts ≡ (all_fit ts && b && levels_to 64 0 ts)
unfolding passes_within most_names core_names most_nesting
within-is ts b e = rw e

pub limit_start : {text spans : List ℕ} → length spans ≡ most_words * 2 → Limiting text spans 0 0 0
limit_start {text} {spans} h = record {
  within = omega arith;
  shallow = omega arith;
  space = h;
  stored = record { few = omega arith; room = omega arith; inside = λ i l. absurd (none i l); short = λ i l. absurd (none i l) };
  words = first;
  so_far = refl;
}
  where
    none : (i : ℕ) → i < 0 → ⊥
    none i l = omega arith

    first : found text spans 0 ++ met (all_words text spans 0) (tokens text) ≡ met core_words (tokens text)
    first = go (found text spans 0) (found_many text spans 0)
      where
        go : (l : List (List ℕ)) → length l ≡ 0 → l ++ met (core_words ++ l) (tokens text) ≡ met core_words (tokens text)
        go [] e = ap (λ (z : List (List ℕ)). met z (tokens text)) (append-nil core_words)
        go (w ∷ l) e = absurd (omega arith)

unsound : (ts : List Token) → sound 0 ts ≡ false → passes_within ts ≡ false
unsound ts e = within-is ts (leb (length (met core_words ts)) 1020) refl ∙ go (all_fit ts) (leb (length (met core_words ts)) 1020) (levels_to 64 0 ts) e
  where
    go : (a b c : Bool) → (a && c) ≡ false → (a && b && c) ≡ false
    go true true c e = e
    go true false c e = refl
    go false b c e = refl

too_many : (ts : List Token) → 1020 < length (met core_words ts) → passes_within ts ≡ false
too_many ts h = within-is ts false (lt-leb (length (met core_words ts)) 1020 h) ∙ go (all_fit ts) (levels_to 64 0 ts)
  where
    go : (a c : Bool) → (a && false && c) ≡ false
    go true c = refl
    go false c = refl

all-met : (ts : List Token) → sound 0 ts ≡ true → length (met core_words ts) ≤ 1020 → passes_within ts ≡ true
all-met ts e h = within-is ts true (le-leb (length (met core_words ts)) 1020 h) ∙ go (all_fit ts) (levels_to 64 0 ts) e
  where
    go : (a c : Bool) → (a && c) ≡ true → (a && true && c) ≡ true
    go true c e = e
    go false c e = e

sound-end : (level : ℕ) → sound level [] ≡ true
unfolding all_fit levels_to
sound-end level = refl

met-end : (seen : List (List ℕ)) → met seen [] ≡ []
unfolding met
met-end seen = refl

-- too deep for what stands here
open_deep : (level : ℕ) (ts : List Token) → 64 ≤ level → sound level (opening ∷ ts) ≡ false
unfolding all_fit levels_to
open_deep level ts h = rw (le-ltb level 64 h, and-false (all_fit ts))

open_level : (level : ℕ) (ts : List Token) → level < 64 → sound level (opening ∷ ts) ≡ sound (level + 1) ts
unfolding all_fit levels_to
open_level level ts h = rw (lt-ltb level 64 h) (ap (λ (k : ℕ). all_fit ts && levels_to 64 k ts) (sym (add-one level)))

close_level : (level : ℕ) (ts : List Token) → sound level (closing ∷ ts) ≡ sound (level - 1) ts
unfolding all_fit levels_to
close_level level ts = refl

met_open : (seen : List (List ℕ)) (ts : List Token) → met seen (opening ∷ ts) ≡ met seen ts
unfolding met
met_open seen ts = refl

met_close : (seen : List (List ℕ)) (ts : List Token) → met seen (closing ∷ ts) ≡ met seen ts
unfolding met
met_close seen ts = refl

-- a piece is no parenthesis
piece-levels : {text : List ℕ} {at from to : ℕ} {p : pieces.Piece} (a : PieceAt text at p from to) (level : ℕ) (ts : List Token)
    → levels_to 64 level (a.token ∷ ts) ≡ (ltb level 64 && levels_to 64 level ts)
unfolding levels_to
piece-levels {text} {at} {from} {to} {p} a level ts = go p a.means.is
  where
    bad-level : (k : Token) → k ≡ bad → levels_to 64 level (k ∷ ts) ≡ (ltb level 64 && levels_to 64 level ts)
    bad-level k e = rw e

    leaf-level : (k : Token) (l : Leaf) → k ≡ one l → levels_to 64 level (k ∷ ts) ≡ (ltb level 64 && levels_to 64 level ts)
    leaf-level k l e = rw e

    go : (p : pieces.Piece) → means a.token (part text from to) p → levels_to 64 level (a.token ∷ ts) ≡ (ltb level 64 && levels_to 64 level ts)
    go Bad m = bad-level a.token m
    go Word m = leaf-level a.token (word (part text from to)) m
    go (Atom g c) m = leaf-level a.token m.leaf m.is
    go piece.Over m = leaf-level a.token m.leaf m.is

module _ {text spans : List ℕ} {at level n : ℕ} (j : Limiting text spans at level n) {r : Option (code.Token × ℕ)} (h : NextIs text at r) where
  pub limit_end : r ≡ None → Limited text spans (Ok n)
  limit_end e =
      let none = next-end h e in
      let met-is : found text spans n ≡ met core_words (tokens text) =
      sym (append-nil (found text spans n)) ∙ ap (λ (l : List (List ℕ)). found text spans n ++ l) (sym (met-end (all_words text spans n)))
      ∙ ap (λ (ts : List Token). found text spans n ++ met (all_words text spans n) ts) (sym none) ∙ j.words in
      let few : length (met core_words (tokens text)) ≤ 1020 = let a = ap length met-is in let b = found_many text spans n in let c = j.stored.few in omega arith in
      record {
        is = record {
          within = all-met (tokens text) (sym j.so_far ∙ ap (sound level) none ∙ sound-end level) few;
          stored = j.stored;
          words = met-is;
        };
      }

  -- the token here is k, and the rest comes after `to`
  module _ {to : ℕ} {k : Token} (g : Goes text at to k) where
    stops : sound level (k ∷ tokens (drop to text)) ≡ false → Limited text spans (Err OverLimit)
    stops e = record { is = (refl, unsound (tokens text) (sym j.so_far ∙ ap (sound level) g.here ∙ e)) }

    on : (d : ℕ) → d ≤ 64 → sound level (k ∷ tokens (drop to text)) ≡ sound d (tokens (drop to text)) → ((seen : List (List ℕ)) (ts : List Token) → met seen (k ∷ ts) ≡ met seen ts)
        → Limiting text spans to d n
    on d l e m = record {
      within = g.within;
      shallow = l;
      space = j.space;
      stored = j.stored;
      words = ap (λ (z : List (List ℕ)). found text spans n ++ z) (sym (ap (met (all_words text spans n)) g.here ∙ m (all_words text spans n) (tokens (drop to text)))) ∙ j.words;
      so_far = sym (ap (sound level) g.here ∙ e) ∙ j.so_far;
    }

  module _ {to : ℕ} {t : code.Token} (e : r ≡ Some (t, to)) (i : t ≡ Open) where
    pub limit_open_deep : 64 ≤ level → Limited text spans (Err OverLimit)
    limit_open_deep l = stops (next_open h e i) (open_deep level (tokens (drop to text)) l)

    pub limit_open : level < 64 → Limiting text spans to (level + 1) n
    limit_open l = on (next_open h e i) (level + 1) (omega arith) (open_level level (tokens (drop to text)) l) met_open

  pub limit_close : {to d : ℕ} {t : code.Token} → r ≡ Some (t, to) → t ≡ Close → d ≡ level - 1 → Limiting text spans to d n
  limit_close {to} {d} e i q =
      let l = j.shallow in
      subst (λ (m : ℕ). Limiting text spans to m n) (sym q) (on (next_close h e i) (level - 1) (omega arith) (close_level level (tokens (drop to text))) met_close)

  module _ {p : pieces.Piece} {from to : ℕ} {t : code.Token} (e : r ≡ Some (t, to)) (i : t ≡ Piece p from) where
    pub limit_placeable : Placeable text spans n from to
    limit_placeable =
        let a = next-piece h e i in
        record { sought = record { stored = j.stored; span = record { forward = a.ends; within = a.goes.within } }; space = j.space }

    rest : List Token
    rest = tokens (drop to text)

    levels-are : (t : Bool) → ltb level 64 ≡ t → sound level ((next-piece h e i).token ∷ tokens (drop to text)) ≡ (all_fit ((next-piece h e i).token ∷ tokens (drop to text)) && (t && levels_to 64 level (tokens (drop to text))))
    levels-are t q =
        ap (λ (b : Bool). all_fit ((next-piece h e i).token ∷ tokens (drop to text)) && b)
        (piece-levels (next-piece h e i) level (tokens (drop to text)) ∙ ap (λ (b : Bool). b && levels_to 64 level (tokens (drop to text))) q)

    pub limit_piece_deep : 64 ≤ level → Limited text spans (Err OverLimit)
    limit_piece_deep l =
        stops (next-piece h e i).goes (levels-are false (le-ltb level 64 l) ∙ and-false (all_fit ((next-piece h e i).token ∷ tokens (drop to text))))

    module _ {spans' : List ℕ} {m : Result ℕ Refusal} (w : NotesPiece text spans n p from to spans' m) where
      abbrev a : PieceAt text at p from to
      a = next-piece h e i

      noted : Noted text spans n a.token spans' m
      noted = w.is a.token a.means

      beyond : Beyond text spans n a.token → passes_within (tokens text) ≡ false
      beyond b = go (b.over (tokens (drop to text)))
        where
          go : (all_fit (a.token ∷ tokens (drop to text)) ≡ false) ⊎ (1020 < length (found text spans n ++ met (all_words text spans n) (a.token ∷ tokens (drop to text))))
              → passes_within (tokens text) ≡ false
          go (inl f) = unsound (tokens text) (sym j.so_far ∙ ap (sound level) a.goes.here ∙ ap (λ (b : Bool). b && levels_to 64 level (a.token ∷ tokens (drop to text))) f)
          go (inr f) = too_many (tokens text) (subst (λ (z : List (List ℕ)). 1020 < length z)
              (ap (λ (ts : List Token). found text spans n ++ met (all_words text spans n) ts) (sym a.goes.here) ∙ j.words) f)

      pub limit_beyond : {f : Refusal} → m ≡ Err f → Limited text spans' (Err f)
      limit_beyond q =
          let b = subst (NotedAs text spans n a.token spans') q noted.is in
          record { is = (b.0, beyond b.1) }

      pub limit_piece : {k : ℕ} → level < 64 → m ≡ Ok k → Limiting text spans' to level k
      limit_piece l q =
          let y = subst (NotedAs text spans n a.token spans') q noted.is in
          record {
            within = a.goes.within;
            shallow = j.shallow;
            space = w.same ∙ j.space;
            stored = y.stored;
            words = sym (y.words (tokens (drop to text))) ∙ ap (λ (ts : List Token). found text spans n ++ met (all_words text spans n) ts) (sym a.goes.here) ∙ j.words;
            so_far =
                ap (λ (b : Bool). b && levels_to 64 level (tokens (drop to text))) (sym (y.fits (tokens (drop to text))))
                ∙ sym (levels-are true (lt-ltb level 64 l)) ∙ ap (sound level) (sym a.goes.here) ∙ j.so_far;
          }

pub limit_room : {text spans spans' : List ℕ} {n from to : ℕ} {m : Result ℕ Refusal} {p : pieces.Piece} → NotesPiece text spans n p from to spans' m → length spans' ≡ length spans
limit_room w = w.same

pub ruleset limit_laws = (limit_start, limit_end, limit_open_deep, limit_open, limit_close, limit_placeable, limit_piece_deep, limit_beyond, limit_piece, limit_room, onward_laws)
