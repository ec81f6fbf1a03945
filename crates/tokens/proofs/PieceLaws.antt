-- What a piece is, by the tests that the code makes.
use Prim.Native.Nat.{ℕ, ◌-◌, ◌≤◌, ◌<◌}
use mathlib.Core.Path.{◌≡◌, refl, sym, ap, ◌∙◌, subst}
use mathlib.Core.List.{List, [], ◌∷◌}
use mathlib.Core.Bool.{Bool, true, false, ◌&&◌, ◌||◌}
use native.Mathlib.Omega.{arith}
use lib.ListN.{length, get_or, take, drop}
use lib.Dec.{eqb, leb}
use borrow.Author.Tests.{ne_eqb, le-leb, lt-leb, lt-ltb, le-ltb}
use Rattle.model.specs.Choice.{when◌then◌else◌}
use Rattle.model.specs.Limits.{last_point, last_primitive, last_rung_word}
use Rattle.model.specs.Objects.{tag_of, content_of}
use Rattle.model.specs.Reading.{good_word, among}
use Rattle.model.specs.Writing.{stx_bytes}
use Rattle.numbers.proofs.Reading.{part-from}
use Rattle.requests.specs.Tokens.{paren, digit, numeral, value, Leaf, word, number, point, prim, rung, Token, opening, closing, bad, one, rung_words, place, numbered, rung_token, token_of}
use Rattle.requests.specs.FromText.{met, atom_of, leaf_fits}
use Rattle.text_laws.proofs.Words.{among-place, not_among_place}
use Rattle.tokens.proofs.Names.{place_some, place_none}
use Rattle.tokens.specs.Decimals.{over, ShowsDecimal, DecimalIs}
use Rattle.tokens.specs.Pieces.{rung_named, last_prim, AtomIs, means, Means, Kind, Marks, Rungs, PieceIs}
use Rattle.std.proofs.Common.{Option, Result}
use Rattle.tokens.specs.declared.decimals.DecimalError.{DecimalError}
use Rattle.tokens.specs.declared.decimals.DecimalError.TheVariants.{NoNumeral, TooLarge}
use Rattle.std.specs.Prelude.{Ok, Err, None, Some}
use Rattle.tokens.specs.declared.pieces.Piece.{Piece}
use Rattle.tokens.specs.declared.pieces.Piece.TheVariants.{Bad, Word, Atom, Over}

-- ---- the kinds of atoms that have a number

number-kind : Kind number 1 4294967295
unfolding leaf_fits atom_of stx_bytes tag_of content_of met
number-kind = record {
  within = λ n h. record {
    tag_small = omega arith;
    content-small = omega arith;
    fits = lt-ltb n 4294967296 (omega arith);
    written = λ all. refl;
    no_word = λ seen ts. refl;
  };
  beyond = λ n h. le-ltb n 4294967296 (omega arith);
}

point-kind : Kind point 2 1023
unfolding leaf_fits atom_of stx_bytes tag_of content_of met last_point
point-kind = record {
  within = λ n h. record {
    tag_small = omega arith;
    content-small = omega arith;
    fits = le-leb n 1023 h;
    written = λ all. refl;
    no_word = λ seen ts. refl;
  };
  beyond = λ n h. lt-leb n 1023 h;
}

prim-kind : Kind prim 3 last_prim
unfolding leaf_fits atom_of stx_bytes tag_of content_of met last_primitive
prim-kind = record {
  within = λ n h. record {
    tag_small = omega arith;
    content-small = omega arith;
    fits = le-leb n last_prim h;
    written = λ all. refl;
    no_word = λ seen ts. refl;
  };
  beyond = λ n h. lt-leb n last_prim h;
}

rung-atom : (n : ℕ) → n ≤ 15 → AtomIs 4 n (rung n)
unfolding leaf_fits atom_of stx_bytes tag_of content_of met last_rung_word
rung-atom n h = record {
  tag_small = omega arith;
  content-small = omega arith;
  fits = le-leb n 15 h;
  written = λ all. refl;
  no_word = λ seen ts. refl;
}

-- ---- digits behind a mark

numbered-yes : (k : ℕ → Leaf) (s : List ℕ) → numeral s ≡ true → numbered k s ≡ one (k (value 0 s))
unfolding numbered
numbered-yes k s e = rw e

numbered-no : (k : ℕ → Leaf) (s : List ℕ) → numeral s ≡ false → numbered k s ≡ bad
unfolding numbered
numbered-no k s e = rw e

module _ {s : List ℕ} {d : Result ℕ DecimalError} (h : DecimalIs s d) where
  none_there : d ≡ Err NoNumeral → numeral s ≡ false
  none_there e = subst (ShowsDecimal s) e h.is

  number_there : {n : ℕ} → d ≡ Ok n → (numeral s ≡ true) × (value 0 s ≡ n)
  number_there e = subst (ShowsDecimal s) e h.is

  large_there : d ≡ Err TooLarge → (numeral s ≡ true) × (over ≤ value 0 s)
  large_there e = subst (ShowsDecimal s) e h.is

  pub mark_none : {tag most : ℕ} {f : DecimalError} → d ≡ Err f → f ≡ NoNumeral → Marks s tag most Bad
  mark_none e g = record { is = λ k w y. record { is = numbered-no k s (none_there (e ∙ ap Err g)) } }

  module _ {tag most n : ℕ} (e : d ≡ Ok n) where
    pub mark_ok : n ≤ most → Marks s tag most (Atom tag n)
    mark_ok l = record {
      is = λ k w y. record {
        is = record { leaf = k n; is = numbered-yes k s (number_there e).0 ∙ ap (λ (z : ℕ). one (k z)) (number_there e).1; atom-is = y.within n l };
      };
    }

    pub mark_over : most < n → Marks s tag most Over
    mark_over l = record {
      is = λ k w y. record {
        is = record { leaf = k n; is = numbered-yes k s (number_there e).0 ∙ ap (λ (z : ℕ). one (k z)) (number_there e).1; not-fits = y.beyond n l };
      };
    }

  pub mark_large : {tag most : ℕ} {f : DecimalError} → d ≡ Err f → f ≡ TooLarge → most < over → Marks s tag most Over
  mark_large {most = most} e g l = record {
    is = λ k w y. record {
      is = record { leaf = k (value 0 s); is = numbered-yes k s (large_there (e ∙ ap Err g)).0; not-fits = y.beyond (value 0 s) (beyond (value 0 s) (large_there (e ∙ ap Err g)).1) };
    };
  }
    where
      beyond : (n : ℕ) → over ≤ n → most < n
      beyond n h = omega arith

pub ruleset mark_laws = (mark_none, mark_ok, mark_over, mark_large)

-- ---- what stands behind '

six : length rung_words ≡ 6
unfolding rung_words
six = refl

free : (w : List ℕ) → Bool
free w = numeral w && leb 6 (value 0 w) && leb (value 0 w) 15

rung-free : (w : List ℕ) (t : Bool) → among w rung_words ≡ false → free w ≡ t → rung_token w ≡ (when t then one (rung (value 0 w)) else bad)
unfolding rung_token free
rung-free w t e f = rw (e, f)

module _ (w : List ℕ) where
  module _ {o : Option ℕ} (h : o ≡ rung_named w) where
    pub rung-some : {k : ℕ} → o ≡ Some k → Rungs w (Atom 4 k)
    unfolding rung_token
    rung-some {k} f =
        let a = place_some w rung_words 6 h f in
        let p : place w rung_words < length rung_words = subst (λ (n : ℕ). place w rung_words < n) (sym six) a.0 in
        let q : k < 6 = omega (arith, a.0, a.1) in
        record { is = λ v. record { is = record { leaf = rung k; is = rw (among-place w rung_words p, a.1); atom-is = rung-atom k (omega arith) } } }

    module _ (f : o ≡ None) where
      not_named : among w rung_words ≡ false
      not_named = not_among_place w rung_words (subst (λ (n : ℕ). n ≤ place w rung_words) (sym six) (place_none w rung_words 6 h f))

      module _ {d : Result ℕ DecimalError} (y : DecimalIs w d) where
        rung-no : d ≡ Err NoNumeral → Rungs w Bad
        unfolding free
        rung-no e = record { is = λ v. record { is = rung-free w false not_named (rw (none_there y e)) } }

        rung-large : d ≡ Err TooLarge → Rungs w Bad
        unfolding free
        rung-large e =
            let a = large_there y e in
            let p : 15 < value 0 w = omega (arith, a.1) in
            let q : 6 ≤ value 0 w = omega (arith, a.1) in
            record { is = λ v. record { is = rung-free w false not_named (rw (a.0, le-leb 6 (value 0 w) q, lt-leb (value 0 w) 15 p)) } }

        pub rung-fault : {f : DecimalError} → d ≡ Err f → Rungs w Bad
        rung-fault {f = NoNumeral} e = rung-no e
        rung-fault {f = TooLarge} e = rung-large e

        module _ {n : ℕ} (e : d ≡ Ok n) where
          pub rung-low : n < 6 → Rungs w Bad
          unfolding free
          rung-low p =
              let a = number_there y e in
              record { is = λ v. record { is = rung-free w false not_named (rw (a.0, a.1, lt-leb 6 n p)) } }

          pub rung-high : 15 < n → Rungs w Bad
          unfolding free
          rung-high q =
              let a = number_there y e in
              let p : 6 ≤ n = omega arith in
              record { is = λ v. record { is = rung-free w false not_named (rw (a.0, a.1, le-leb 6 n p, lt-leb n 15 q)) } }

          pub rung-number : 6 ≤ n → n ≤ 15 → Rungs w (Atom 4 n)
          unfolding free
          rung-number p q =
              let a = number_there y e in
              record {
                is = λ v. record {
                  is = record {
                    leaf = rung n;
                    is = rung-free w true not_named (rw (a.0, a.1, le-leb 6 n p, le-leb n 15 q)) ∙ ap (λ (z : ℕ). one (rung z)) a.1;
                    atom-is = rung-atom n q;
                  };
                };
              }

pub ruleset rung_laws = (rung-some, rung-fault, rung-low, rung-high, rung-number)

-- ---- by the first byte

digit_in : {b : ℕ} → 48 ≤ b → b ≤ 57 → digit b ≡ true
unfolding digit
digit_in {b} l h = simp (le-leb 48 b l, le-leb b 57 h)

digit_low : {b : ℕ} → b < 48 → digit b ≡ false
unfolding digit
digit_low {b} h = simp (lt-leb 48 b h)

digit_high : {b : ℕ} → 58 ≤ b → digit b ≡ false
unfolding digit
digit_high {b} h = let k : 57 < b = omega arith in go (leb 48 b) ∙ ap (λ (t : Bool). leb 48 b && t) (lt-leb b 57 k) ∙ no (leb 48 b)
  where
    go : (t : Bool) → (t && leb b 57) ≡ (t && leb b 57)
    go t = refl

    no : (t : Bool) → (t && false) ≡ false
    no true = refl
    no false = refl

no-paren : (b : ℕ) → paren b ≡ false → (eqb b 40 ≡ false) × (eqb b 41 ≡ false)
unfolding paren
no-paren b e = go (eqb b 40) (eqb b 41) e
  where
    go : (x y : Bool) → (x || y) ≡ false → (x ≡ false) × (y ≡ false)
    go true y e = absurd (let z : ◌≡◌ {A = ℕ} 0 1 = cc in omega arith)
    go false y e = (refl, e)

at_mark : (b : ℕ) (w : List ℕ) → b ≡ 64 → token_of (b ∷ w) ≡ numbered point w
unfolding token_of
at_mark b w e = rw e

hash_mark : (b : ℕ) (w : List ℕ) → b ≡ 35 → token_of (b ∷ w) ≡ numbered prim w
unfolding token_of
hash_mark b w e = rw e

quote_mark : (b : ℕ) (w : List ℕ) → b ≡ 39 → token_of (b ∷ w) ≡ rung_token w
unfolding token_of
quote_mark b w e = rw e

module _ (b : ℕ) (w : List ℕ) (p : paren b ≡ false) (x : b ≡ 64 → ⊥) (y : b ≡ 35 → ⊥) (z : b ≡ 39 → ⊥) where
  first-digit : digit b ≡ true → token_of (b ∷ w) ≡ numbered number (b ∷ w)
  unfolding token_of
  first-digit e = simp ((no-paren b p).0, (no-paren b p).1, ne_eqb b 64 x, ne_eqb b 35 y, ne_eqb b 39 z, e)

  first_word : (t : Bool) → digit b ≡ false → good_word (b ∷ w) ≡ t → token_of (b ∷ w) ≡ (when t then one (word (b ∷ w)) else bad)
  unfolding token_of
  first_word t e g = go (eqb b 40) (eqb b 41) (eqb b 64) (eqb b 35) (eqb b 39) (digit b) (no-paren b p).0 (no-paren b p).1 (ne_eqb b 64 x) (ne_eqb b 35 y) (ne_eqb b 39 z) e
      ∙ ap (λ (u : Bool). when u then one (word (b ∷ w)) else bad) g
    where
      go : (i j k l m n : Bool) → i ≡ false → j ≡ false → k ≡ false → l ≡ false → m ≡ false → n ≡ false
          → (when i then opening else when j then closing else when k then numbered point w else when l then numbered prim w else when m then rung_token w else when n then numbered number (b ∷ w) else when good_word (b ∷ w) then one (word (b ∷ w)) else bad)
          ≡ (when good_word (b ∷ w) then one (word (b ∷ w)) else bad)
      go i j k l m n e f g h o q = rw (e, f, g, h, o, q)

pub piece-none : (w : List ℕ) → length w ≡ 0 → PieceIs w Bad
unfolding token_of
piece-none [] h = record { is = λ p. record { is = refl } }
piece-none (b ∷ w) h = absurd (omega arith)

behind : (A : List ℕ → Type 0) (b : ℕ) (w : List ℕ) → A (take (length (b ∷ w) - 1) (drop 1 (b ∷ w))) → A w
behind A b w a = subst A (part-from 1 (b ∷ w)) a

pub piece-point : (w : List ℕ) {r : Piece} → 1 ≤ length w → get_or w 0 0 ≡ 64 → Marks (take (length w - 1) (drop 1 w)) 2 1023 r → PieceIs w r
piece-point [] n e m = absurd (omega arith)
piece-point (b ∷ w) {r} n e m = record {
  is = λ p. subst (λ (t : Token). Means t (b ∷ w) r) (sym (at_mark b w e)) ((behind (λ (s : List ℕ). Marks s 2 1023 r) b w m).is point (b ∷ w) point-kind);
}

pub piece-prim : (w : List ℕ) {r : Piece} → 1 ≤ length w → get_or w 0 0 ≡ 35 → Marks (take (length w - 1) (drop 1 w)) 3 last_prim r → PieceIs w r
piece-prim [] n e m = absurd (omega arith)
piece-prim (b ∷ w) {r} n e m = record {
  is = λ p. subst (λ (t : Token). Means t (b ∷ w) r) (sym (hash_mark b w e)) ((behind (λ (s : List ℕ). Marks s 3 last_prim r) b w m).is prim (b ∷ w) prim-kind);
}

pub piece-rung : (w : List ℕ) {r : Piece} → 1 ≤ length w → get_or w 0 0 ≡ 39 → Rungs (take (length w - 1) (drop 1 w)) r → PieceIs w r
piece-rung [] n e m = absurd (omega arith)
piece-rung (b ∷ w) {r} n e m = record {
  is = λ p. subst (λ (t : Token). Means t (b ∷ w) r) (sym (quote_mark b w e)) ((behind (λ (s : List ℕ). Rungs s r) b w m).is (b ∷ w));
}

pub piece-number : (w : List ℕ) {r : Piece} → 1 ≤ length w → 48 ≤ get_or w 0 0 → get_or w 0 0 ≤ 57 → Marks w 1 4294967295 r → PieceIs w r
piece-number [] n l h m = absurd (omega arith)
piece-number (b ∷ w) {r} n l h m =
    let x : b ≡ 64 → ⊥ = λ e. absurd (omega arith) in
    let y : b ≡ 35 → ⊥ = λ e. absurd (omega arith) in
    let z : b ≡ 39 → ⊥ = λ e. absurd (omega arith) in
    record {
      is = λ p. subst (λ (t : Token). Means t (b ∷ w) r) (sym (first-digit b w p x y z (digit_in l h))) (m.is number (b ∷ w) number-kind);
    }

-- what begins with no mark and no digit
unmarked : (b : ℕ) (w : List ℕ) (r : Piece) (t : Bool) → (b ≡ 64 → ⊥) → (b ≡ 35 → ⊥) → (b ≡ 39 → ⊥) → digit b ≡ false → good_word (b ∷ w) ≡ t
    → ((v : List ℕ) → means (when t then one (word v) else bad) v r) → PieceIs (b ∷ w) r
unmarked b w r t x y z e u i = record {
  is = λ p. record { is = subst (λ (k : Token). means k (b ∷ w) r) (sym (first_word b w p x y z t e u)) (i (b ∷ w)) };
}

low-piece : (w : List ℕ) (r : Piece) (t : Bool) → 1 ≤ length w → get_or w 0 0 < 48 → (get_or w 0 0 ≡ 35 → ⊥) → (get_or w 0 0 ≡ 39 → ⊥) → good_word w ≡ t
    → ((v : List ℕ) → means (when t then one (word v) else bad) v r) → PieceIs w r
low-piece [] r t n l y z u i = absurd (omega arith)
low-piece (b ∷ w) r t n l y z u i = unmarked b w r t (λ e. absurd (omega arith)) y z (digit_low l) u i

high-piece : (w : List ℕ) (r : Piece) (t : Bool) → 1 ≤ length w → 58 ≤ get_or w 0 0 → (get_or w 0 0 ≡ 64 → ⊥) → good_word w ≡ t
    → ((v : List ℕ) → means (when t then one (word v) else bad) v r) → PieceIs w r
high-piece [] r t n l x u i = absurd (omega arith)
high-piece (b ∷ w) r t n l x u i = unmarked b w r t x (λ e. absurd (omega arith)) (λ e. absurd (omega arith)) (digit_high l) u i

module _ (w : List ℕ) {g : Bool} (h : g ≡ good_word w) where
  pub none-word : length w < 1 → g ≡ true → PieceIs w Word
  unfolding good_word
  none-word l f = go w l (sym h ∙ f)
    where
      go : (w : List ℕ) → length w < 1 → good_word w ≡ true → PieceIs w Word
      go [] l e = absurd (let z : ◌≡◌ {A = ℕ} 0 1 = cc in omega arith)
      go (b ∷ w) l e = absurd (omega arith)

  pub none-bad : length w < 1 → PieceIs w Bad
  none-bad l = go w l
    where
      go : (w : List ℕ) → length w < 1 → PieceIs w Bad
      go [] l = piece-none [] refl
      go (b ∷ w) l = absurd (omega arith)

  module _ (n : 1 ≤ length w) where
    pub low-word : get_or w 0 0 < 48 → (get_or w 0 0 ≡ 35 → ⊥) → (get_or w 0 0 ≡ 39 → ⊥) → g ≡ true → PieceIs w Word
    low-word l y z f = low-piece w Word true n l y z (sym h ∙ f) (λ v. refl)

    pub low-bad : get_or w 0 0 < 48 → (get_or w 0 0 ≡ 35 → ⊥) → (get_or w 0 0 ≡ 39 → ⊥) → g ≡ false → PieceIs w Bad
    low-bad l y z f = low-piece w Bad false n l y z (sym h ∙ f) (λ v. refl)

    pub high-word : 58 ≤ get_or w 0 0 → (get_or w 0 0 ≡ 64 → ⊥) → g ≡ true → PieceIs w Word
    high-word l x f = high-piece w Word true n l x (sym h ∙ f) (λ v. refl)

    pub high-bad : 58 ≤ get_or w 0 0 → (get_or w 0 0 ≡ 64 → ⊥) → g ≡ false → PieceIs w Bad
    high-bad l x f = high-piece w Bad false n l x (sym h ∙ f) (λ v. refl)

pub ruleset piece_laws = (piece-point, piece-prim, piece-rung, piece-number)

pub ruleset word_laws = (none-word, low-word, high-word)

pub ruleset bad_laws = (none-bad, low-bad, high-bad)
