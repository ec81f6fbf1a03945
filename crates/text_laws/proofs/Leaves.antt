-- Tokens: what the printer writes of an atom is one piece, which is read as that atom.
use mathlib.Core.Path.{◌≡◌, refl, sym, ap, ◌∙◌}
use mathlib.Core.Logic.{◌≢◌}
use Prim.Native.Nat.{ℕ, zero, suc, ◌+◌, ◌-◌, ◌≤◌, ◌<◌}
use native.Mathlib.Omega.{arith}
use mathlib.Core.Bool.{Bool, true, false, not, ◌&&◌, false≢true}
use mathlib.Core.List.{List, [], ◌∷◌, ◌++◌, append-nil, append_assoc}
use lib.Dec.{eqb, leb}
use lib.ListN.{length}
use Rattle.model.specs.Limits.{most_word_length, last_point, last_primitive, last_rung_word}
use Rattle.model.specs.Reading.{word_byte, first_byte, all_word_bytes, good_word}
use Rattle.model.specs.Jobs.{digits}
use borrow.Author.Tests.{le-leb, lt-ltb, ne_eqb, leb-true, eqb-false, not-true}
use Rattle.requests.specs.Tokens.{space, paren, cut, digit, all_digits, numeral, Leaf, word, number, point, prim, rung, one, numbered, rung_token, token_of}
use Rattle.requests.specs.FromText.{leaf_fits}
use Rattle.requests.specs.ToText.{rung_text, leaf_text}
use Rattle.laws.proofs.Tests.{and_both}
use Rattle.text_laws.proofs.Decimals.{written-numeral, written-value, digits-all}

-- ---- bytes that end no piece

abbrev pub PlainByte : ℕ → Type 0
PlainByte b = (space b ≡ false) × (paren b ≡ false) × (eqb b 59 ≡ false)

abbrev pub Plain : List ℕ → Type 0
Plain [] = Unit {0}
Plain (b ∷ w) = PlainByte b × Plain w

plain_byte : (b : ℕ) → 33 ≤ b → b ≢ 40 → b ≢ 41 → b ≢ 59 → PlainByte b
unfolding space paren
plain_byte b h p q r = (
  rw (ne_eqb b 9 (λ e. omega arith), ne_eqb b 10 (λ e. omega arith), ne_eqb b 13 (λ e. omega arith), ne_eqb b 32 (λ e. omega arith)),
  rw (ne_eqb b 40 p, ne_eqb b 41 q),
  ne_eqb b 59 r,
)

-- what is known of a word's byte
pub word_byte_lem : (b : ℕ) → word_byte b ≡ true
    → (33 ≤ b) × (b ≢ 40) × (b ≢ 41) × (b ≢ 59) × (b ≢ 39) × (b ≢ 35)
unfolding word_byte
word_byte_lem b e =
    let g = and_both (leb 33 b && leb b 126 && not (eqb b 40) && not (eqb b 41) && not (eqb b 59) && not (eqb b 39)) (not (eqb b 35)) e in
    let f = and_both (leb 33 b && leb b 126 && not (eqb b 40) && not (eqb b 41) && not (eqb b 59)) (not (eqb b 39)) g.0 in
    let d = and_both (leb 33 b && leb b 126 && not (eqb b 40) && not (eqb b 41)) (not (eqb b 59)) f.0 in
    let c = and_both (leb 33 b && leb b 126 && not (eqb b 40)) (not (eqb b 41)) d.0 in
    let a = and_both (leb 33 b && leb b 126) (not (eqb b 40)) c.0 in
    let z = and_both (leb 33 b) (leb b 126) a.0 in (
      leb-true 33 b z.0,
      eqb-false b 40 (not-true (eqb b 40) a.1),
      eqb-false b 41 (not-true (eqb b 41) c.1),
      eqb-false b 59 (not-true (eqb b 59) d.1),
      eqb-false b 39 (not-true (eqb b 39) f.1),
      eqb-false b 35 (not-true (eqb b 35) g.1),
    )

word_bytes_plain : (w : List ℕ) → all_word_bytes w ≡ true → Plain w
unfolding all_word_bytes
word_bytes_plain [] e = tt
word_bytes_plain (b ∷ w) e =
    let a = and_both (word_byte b) (all_word_bytes w) e in
    let k = word_byte_lem b a.0 in
    (plain_byte b k.0 k.1 k.2 k.3, word_bytes_plain w a.1)

word-plain : (w : List ℕ) → good_word w ≡ true → Plain w
unfolding good_word
word-plain [] e = tt
word-plain (b ∷ w) e = word_bytes_plain (b ∷ w) (and_both (first_byte b) (all_word_bytes (b ∷ w)) e).1

digits-plain : (w : List ℕ) → all_digits w ≡ true → Plain w
unfolding all_digits digit
digits-plain [] e = tt
digits-plain (b ∷ w) e =
    let a = and_both (digit b) (all_digits w) e in
    let k = and_both (leb 48 b) (leb b 57) a.0 in
    let low = leb-true 48 b k.0 in
    let high = leb-true b 57 k.1 in
    (plain_byte b (omega (arith, low)) (λ z. omega (arith, low)) (λ z. omega (arith, low)) (λ z. omega (arith, high)), digits-plain w a.1)

-- ---- a piece goes on to a byte that ends it

cut_step : (w : List ℕ) (b : ℕ) (s : List ℕ) → PlainByte b → cut w (b ∷ s) ≡ cut (w ++ (b ∷ [])) s
unfolding cut
cut_step w b s p = rw (p.0, p.1, p.2)

pub cut-plain : (w v rest : List ℕ) → Plain v → cut w (v ++ rest) ≡ cut (w ++ v) rest
cut-plain w [] rest p = ap (λ (z : List ℕ). cut z rest) (sym (append-nil w))
cut-plain w (b ∷ v) rest p =
    cut_step w b (v ++ rest) p.0 ∙ cut-plain (w ++ (b ∷ [])) v rest p.1
    ∙ ap (λ (z : List ℕ). cut z rest) (append_assoc w (b ∷ []) v)

-- ---- what an atom's text can be

abbrev pub LeafOk : Leaf → Type 0
LeafOk (word w) = (good_word w ≡ true) × (length w ≤ most_word_length)
LeafOk (number n) = n < 4294967296
LeafOk (point n) = n ≤ last_point
LeafOk (prim n) = n ≤ last_primitive
LeafOk (rung n) = n ≤ last_rung_word

pub leaf-fits : (l : Leaf) → LeafOk l → leaf_fits l ≡ true
unfolding leaf_fits
leaf-fits (word w) h = le-leb (length w) most_word_length h.1
leaf-fits (number n) h = lt-ltb n 4294967296 h
leaf-fits (point n) h = le-leb n last_point h
leaf-fits (prim n) h = le-leb n last_primitive h
leaf-fits (rung n) h = le-leb n last_rung_word h

-- ---- and what it is read as

numbered_back : (k : ℕ → Leaf) (n : ℕ) → n < 4294967296 → numbered k (digits 10 n []) ≡ one (k n)
unfolding numbered
numbered_back k n h = rw (written-numeral n h, written-value n h)

digit-token : (b : ℕ) (w : List ℕ) → digit b ≡ true → token_of (b ∷ w) ≡ numbered number (b ∷ w)
unfolding token_of digit
digit-token b w e =
    let k = and_both (leb 48 b) (leb b 57) e in
    let low = leb-true 48 b k.0 in
    let high = leb-true b 57 k.1 in
    rw (
      ne_eqb b 40 (λ z. omega (arith, low)),
      ne_eqb b 41 (λ z. omega (arith, low)),
      ne_eqb b 64 (λ z. omega (arith, high)),
      ne_eqb b 35 (λ z. omega (arith, low)),
      ne_eqb b 39 (λ z. omega (arith, low)),
      k.0,
      k.1,
    )

-- a numeral begins with a digit
number-token : (w : List ℕ) → numeral w ≡ true → token_of w ≡ numbered number w
unfolding numeral
number-token [] e = absurd (false≢true e)
number-token (b ∷ []) e = digit-token b [] e
number-token (b ∷ c ∷ w) e =
    digit-token b (c ∷ w) (and_both (digit b) (not (eqb b 48)) (and_both (digit b && not (eqb b 48)) (all_digits (c ∷ w)) e).0).0

word-token : (w : List ℕ) → good_word w ≡ true → token_of w ≡ one (word w)
unfolding token_of good_word first_byte all_word_bytes digit
word-token [] e = absurd (false≢true e)
word-token (b ∷ w) e =
    let a = and_both (first_byte b) (all_word_bytes (b ∷ w)) e in
    let f = and_both (not (leb 48 b && leb b 57)) (not (eqb b 64)) a.0 in
    let k = word_byte_lem b (and_both (word_byte b) (all_word_bytes w) a.1).0 in
    rw (e, ne_eqb b 40 k.1, ne_eqb b 41 k.2, not-true (eqb b 64) f.1, ne_eqb b 35 k.5, ne_eqb b 39 k.4, not-true (leb 48 b && leb b 57) f.0)

-- what holds of each rung word holds of all
each-rung : (P : ℕ → Type 0) → P 0 → P 1 → P 2 → P 3 → P 4 → P 5 → P 6 → P 7 → P 8 → P 9 → P 10 → P 11 → P 12 → P 13 → P 14 → P 15 → (n : ℕ) → n ≤ 15 → P n
each-rung P p0 p1 p2 p3 p4 p5 p6 p7 p8 p9 p10 p11 p12 p13 p14 p15 zero h = p0
each-rung P p0 p1 p2 p3 p4 p5 p6 p7 p8 p9 p10 p11 p12 p13 p14 p15 (suc zero) h = p1
each-rung P p0 p1 p2 p3 p4 p5 p6 p7 p8 p9 p10 p11 p12 p13 p14 p15 (suc (suc zero)) h = p2
each-rung P p0 p1 p2 p3 p4 p5 p6 p7 p8 p9 p10 p11 p12 p13 p14 p15 (suc (suc (suc zero))) h = p3
each-rung P p0 p1 p2 p3 p4 p5 p6 p7 p8 p9 p10 p11 p12 p13 p14 p15 (suc (suc (suc (suc zero)))) h = p4
each-rung P p0 p1 p2 p3 p4 p5 p6 p7 p8 p9 p10 p11 p12 p13 p14 p15 (suc (suc (suc (suc (suc zero))))) h = p5
each-rung P p0 p1 p2 p3 p4 p5 p6 p7 p8 p9 p10 p11 p12 p13 p14 p15 (suc (suc (suc (suc (suc (suc zero)))))) h = p6
each-rung P p0 p1 p2 p3 p4 p5 p6 p7 p8 p9 p10 p11 p12 p13 p14 p15 (suc (suc (suc (suc (suc (suc (suc zero))))))) h = p7
each-rung P p0 p1 p2 p3 p4 p5 p6 p7 p8 p9 p10 p11 p12 p13 p14 p15 (suc (suc (suc (suc (suc (suc (suc (suc zero)))))))) h = p8
each-rung P p0 p1 p2 p3 p4 p5 p6 p7 p8 p9 p10 p11 p12 p13 p14 p15 (suc (suc (suc (suc (suc (suc (suc (suc (suc zero))))))))) h = p9
each-rung P p0 p1 p2 p3 p4 p5 p6 p7 p8 p9 p10 p11 p12 p13 p14 p15 (suc (suc (suc (suc (suc (suc (suc (suc (suc (suc zero)))))))))) h = p10
each-rung P p0 p1 p2 p3 p4 p5 p6 p7 p8 p9 p10 p11 p12 p13 p14 p15 (suc (suc (suc (suc (suc (suc (suc (suc (suc (suc (suc zero))))))))))) h = p11
each-rung P p0 p1 p2 p3 p4 p5 p6 p7 p8 p9 p10 p11 p12 p13 p14 p15 (suc (suc (suc (suc (suc (suc (suc (suc (suc (suc (suc (suc zero)))))))))))) h = p12
each-rung P p0 p1 p2 p3 p4 p5 p6 p7 p8 p9 p10 p11 p12 p13 p14 p15 (suc (suc (suc (suc (suc (suc (suc (suc (suc (suc (suc (suc (suc zero))))))))))))) h = p13
each-rung P p0 p1 p2 p3 p4 p5 p6 p7 p8 p9 p10 p11 p12 p13 p14 p15 (suc (suc (suc (suc (suc (suc (suc (suc (suc (suc (suc (suc (suc (suc zero)))))))))))))) h = p14
each-rung P p0 p1 p2 p3 p4 p5 p6 p7 p8 p9 p10 p11 p12 p13 p14 p15 (suc (suc (suc (suc (suc (suc (suc (suc (suc (suc (suc (suc (suc (suc (suc zero))))))))))))))) h = p15
each-rung P p0 p1 p2 p3 p4 p5 p6 p7 p8 p9 p10 p11 p12 p13 p14 p15 (suc (suc (suc (suc (suc (suc (suc (suc (suc (suc (suc (suc (suc (suc (suc (suc n)))))))))))))))) h = absurd (over n h)
  where
    over : (n : ℕ) → suc (suc (suc (suc (suc (suc (suc (suc (suc (suc (suc (suc (suc (suc (suc (suc n))))))))))))))) ≤ 15 → ⊥
    over n h = omega arith

rung_back : (n : ℕ) → n ≤ 15 → rung_token (rung_text n) ≡ one (rung n)
unfolding rung_token rung_text digits
rung_back = each-rung (λ n. rung_token (rung_text n) ≡ one (rung n)) refl refl refl refl refl refl refl refl refl refl refl refl refl refl refl refl

rung-bytes : (n : ℕ) → n ≤ 15 → all_word_bytes (rung_text n) ≡ true
unfolding all_word_bytes rung_text digits
rung-bytes = each-rung (λ n. all_word_bytes (rung_text n) ≡ true) refl refl refl refl refl refl refl refl refl refl refl refl refl refl refl refl

-- ---- together

after-at : (w : List ℕ) → token_of (64 ∷ w) ≡ numbered point w
unfolding token_of
after-at w = refl

after_hash : (w : List ℕ) → token_of (35 ∷ w) ≡ numbered prim w
unfolding token_of
after_hash w = refl

after-quote : (w : List ℕ) → token_of (39 ∷ w) ≡ rung_token w
unfolding token_of
after-quote w = refl

all_none : all_digits [] ≡ true
unfolding all_digits
all_none = refl

pub leaf-token : (l : Leaf) → LeafOk l → token_of (leaf_text l) ≡ one l
unfolding leaf_text last_point last_primitive last_rung_word
leaf-token (word w) h = word-token w h.0
leaf-token (number n) h = number-token (digits 10 n []) (written-numeral n h) ∙ numbered_back number n h
leaf-token (point n) h = marked (omega (arith, h))
  where
    marked : n < 4294967296 → token_of (64 ∷ digits 10 n []) ≡ one (point n)
    marked k = after-at (digits 10 n []) ∙ numbered_back point n k
leaf-token (prim n) h = marked (omega (arith, h))
  where
    marked : n < 4294967296 → token_of (35 ∷ digits 10 n []) ≡ one (prim n)
    marked k = after_hash (digits 10 n []) ∙ numbered_back prim n k
leaf-token (rung n) h = after-quote (rung_text n) ∙ rung_back n h

pub leaf-plain : (l : Leaf) → LeafOk l → Plain (leaf_text l)
unfolding leaf_text last_rung_word
leaf-plain (word w) h = word-plain w h.0
leaf-plain (number n) h = digits-plain (digits 10 n []) (digits-all 10 n [] all_none)
leaf-plain (point n) h = (plain_byte 64 (omega arith) (λ e. omega arith) (λ e. omega arith) (λ e. omega arith), digits-plain (digits 10 n []) (digits-all 10 n [] all_none))
leaf-plain (prim n) h = (plain_byte 35 (omega arith) (λ e. omega arith) (λ e. omega arith) (λ e. omega arith), digits-plain (digits 10 n []) (digits-all 10 n [] all_none))
leaf-plain (rung n) h = (plain_byte 39 (omega arith) (λ e. omega arith) (λ e. omega arith) (λ e. omega arith), word_bytes_plain (rung_text n) (rung-bytes n h))
