-- Words laid out as bytes one after another.
use Prim.Native.Nat.{ℕ, zero, suc, ◌+◌, ◌*◌, ◌/◌, ◌%◌, ◌≤◌, ◌<◌}
use mathlib.Core.Path.{◌≡◌, refl, sym, ap, ◌∙◌}
use mathlib.Core.List.{List, [], ◌∷◌, ◌++◌, append-nil, append_assoc}
use native.Mathlib.Omega.{arith}
use native.Mathlib.Numerals.{add-one}
use native.Mathlib.Nat.{div-add-mod', div-mul-le_self}
use lib.ListN.{length, take, drop, get_or, replicate, length-replicate, replicate-append-replicate}
use lib.Seq.{length-take-le, take_all, take-suc, drop_at, sets-eq}
use Rattle.text.specs.Hexadecimal.{hex_digit, hex_of}
use Rattle.text.specs.Placing.{Placed}
use Rattle.text.proofs.Placing.{placed_then, placed-length, renamed, begun, one_more, ended}
use Rattle.text.proofs.Hexadecimal.{hex_length}
use Rattle.answer_line.specs.Format.{byte_fill}
use Rattle.answer_line.specs.Words.{bytes_of, bytes_of_words, bytes_fill}

pub bytes-length : (l : List ℕ) → length (bytes_of_words l) ≡ length l * 4
unfolding bytes_of_words bytes_of
bytes-length [] = refl
bytes-length (w ∷ l) = let e = bytes-length l in omega arith

bytes_append : (l m : List ℕ) → bytes_of_words (l ++ m) ≡ bytes_of_words l ++ bytes_of_words m
unfolding bytes_of_words
bytes_append [] m = refl
bytes_append (w ∷ l) m = ap (λ (r : List ℕ). bytes_of w ++ r) (bytes_append l m) ∙ sym (append_assoc (bytes_of w) (bytes_of_words l) (bytes_of_words m))

bytes-more : (words : List ℕ) (i : ℕ) → i < length words → bytes_of_words (take (suc i) words) ≡ bytes_of_words (take i words) ++ bytes_of (get_or words i 0)
unfolding bytes_of_words
bytes-more words i l =
    ap bytes_of_words (take-suc words i 0 l)
    ∙ bytes_append (take i words) (get_or words i 0 ∷ [])
    ∙ ap (λ (r : List ℕ). bytes_of_words (take i words) ++ r) (append-nil (bytes_of (get_or words i 0)))

-- ---- words, of which the first i are placed
pub record Laying (out₀ : List ℕ) (at : ℕ) (words out : List ℕ) (to i : ℕ) : Type 0 where
  pub within : i ≤ length words
  pub placed : Placed out₀ at (bytes_of_words (take i words)) out to

pub laying_begun : {out words : List ℕ} {at : ℕ} → Laying out at words out at 0
unfolding bytes_of_words
laying_begun = record { within = omega arith; placed = record { ends = omega arith; is = refl } }

module _ {out₀ : List ℕ} {at : ℕ} {words out : List ℕ} {to i : ℕ} (w : Laying out₀ at words out to i) where
  pub word_room : at + length words * 4 ≤ length out₀ → i < length words → to + 4 ≤ length out
  word_room h l =
      let s = placed-length w.placed in let e = w.placed.ends in
      let a = bytes-length (take i words) in let b = length-take-le i words w.within in
      omega arith

  pub laying_more : {out' : List ℕ} {past : ℕ} → i < length words → Placed out to (bytes_of (get_or words i 0)) out' past → Laying out₀ at words out' past (i + 1)
  laying_more l p = record { within = omega arith; placed = rw (add-one i) (rw (bytes-more words i l) (placed_then w.placed p)) }

  pub laying_ended : length words ≤ i → Placed out₀ at (bytes_of_words words) out to
  laying_ended l = rw (take_all i words l) at w.placed

-- ---- the same in hexadecimal

hex_append : (l m : List ℕ) → hex_of (l ++ m) ≡ hex_of l ++ hex_of m
unfolding hex_of
hex_append [] m = refl
hex_append (b ∷ l) m = ap (λ (r : List ℕ). hex_digit (b / 16) ∷ hex_digit (b % 16) ∷ r) (hex_append l m)

-- words, of which the first i are placed
pub record Spelling (out₀ : List ℕ) (at : ℕ) (words out : List ℕ) (to i : ℕ) : Type 0 where
  pub within : i ≤ length words
  pub placed : Placed out₀ at (hex_of (bytes_of_words (take i words))) out to

pub spelling-begun : {out words : List ℕ} {at : ℕ} → Spelling out at words out at 0
unfolding bytes_of_words hex_of
spelling-begun = record { within = omega arith; placed = record { ends = omega arith; is = refl } }

module _ {out₀ : List ℕ} {at : ℕ} {words out : List ℕ} {to i : ℕ} (w : Spelling out₀ at words out to i) where
  pub spelling-room : at + length words * 8 ≤ length out₀ → i < length words → to + 8 ≤ length out
  spelling-room h l =
      let s = placed-length w.placed in let e = w.placed.ends in
      let x = hex_length (bytes_of_words (take i words)) in
      let a = bytes-length (take i words) in let b = length-take-le i words w.within in
      omega arith

  pub spelling-more : {out' : List ℕ} {past : ℕ} → i < length words → Placed out to (hex_of (bytes_of (get_or words i 0))) out' past → Spelling out₀ at words out' past (i + 1)
  spelling-more l p =
      record {
        within = omega arith;
        placed = rw (add-one i) (rw (bytes-more words i l) (rw (hex_append (bytes_of_words (take i words)) (bytes_of (get_or words i 0))) (placed_then w.placed p)));
      }

  pub spelling-ended : length words ≤ i → Placed out₀ at (hex_of (bytes_of_words words)) out to
  spelling-ended l = rw (take_all i words l) at w.placed

pub ruleset spelling_laws = (spelling-begun, spelling-room, spelling-more, spelling-ended, placed-length)

-- ---- over an output that is filled with one value

rest_of_fill : (n v : ℕ) → drop (n / 4 * 4) (replicate n v) ≡ replicate (n % 4) v
rest_of_fill n v =
    ap (λ (k : ℕ). drop (n / 4 * 4) (replicate k v)) (sym (div-add-mod' n 4))
    ∙ ap (drop (n / 4 * 4)) (sym (replicate-append-replicate (n / 4 * 4) (n % 4) v))
    ∙ drop_at (replicate (n / 4 * 4) v) (replicate (n % 4) v) (n / 4 * 4) (length-replicate (n / 4 * 4) v)

-- what is no whole word stays
pub laid_over_fill : (n v : ℕ) (words : List ℕ) {out : List ℕ} {past : ℕ} → length words ≡ n / 4 → Placed (replicate n v) 0 (bytes_of_words words) out past
    → out ≡ bytes_of_words words ++ replicate (n % 4) v
laid_over_fill n v words many w =
    let long = bytes-length words in
    let len : 0 + length (bytes_of_words words) ≡ n / 4 * 4 = omega arith in
    let whole = div-mul-le_self n 4 in let all = length-replicate n v in
    let room : 0 + length (bytes_of_words words) ≤ length (replicate n v) = omega arith in
    w.is
    ∙ sets-eq (bytes_of_words words) (replicate n v) 0 room
    ∙ ap (λ (k : ℕ). bytes_of_words words ++ drop k (replicate n v)) len
    ∙ ap (λ (l : List ℕ). bytes_of_words words ++ l) (rest_of_fill n v)

-- ---- words that are filled as the output is

filled_words : (k : ℕ) → bytes_of_words (replicate k bytes_fill) ≡ replicate (k * 4) byte_fill
unfolding bytes_of_words bytes_of
filled_words zero = refl
filled_words (suc k) =
    let e : suc k * 4 ≡ suc (suc (suc (suc (k * 4)))) = omega arith in
    rw e (ap (λ (l : List ℕ). byte_fill ∷ byte_fill ∷ byte_fill ∷ byte_fill ∷ l) (filled_words k))

-- and with what is no whole word they are the whole output
pub filled_output : (n : ℕ) → bytes_of_words (replicate (n / 4) bytes_fill) ++ replicate (n % 4) byte_fill ≡ replicate n byte_fill
filled_output n =
    ap (λ (l : List ℕ). l ++ replicate (n % 4) byte_fill) (filled_words (n / 4))
    ∙ replicate-append-replicate (n / 4 * 4) (n % 4) byte_fill
    ∙ ap (λ (k : ℕ). replicate k byte_fill) (div-add-mod' n 4)

pub ruleset laying_laws = (laying_begun, word_room, laying_more, laying_ended, placed-length)
