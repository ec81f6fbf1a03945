-- The text of an atom, by the tests that the code makes.
use Prim.Native.Nat.{ℕ, zero, suc, ◌+◌, ◌/◌, ◌%◌, ◌^◌, ◌≤◌, ◌<◌}
use mathlib.Core.Path.{◌≡◌, refl, sym, ap, ◌∙◌}
use mathlib.Core.List.{List, [], ◌∷◌}
use mathlib.Core.Logic.{◌⊎◌, inl, inr}
use native.Mathlib.Omega.{arith}
use native.Mathlib.Numerals.{add-one}
use mir.Syntax.{w64}
use mir.Val.{Fits}
use lib.ListN.{length, get_or, set, length-set, length-append}
use lib.Seq.{sets}
use borrow.Author.Tests.{lt-ltb, le-ltb}
use Rattle.model.specs.Jobs.{digits}
use Rattle.requests.specs.Tokens.{rung_words}
use Rattle.requests.specs.ToText.{rung_text}
use Rattle.text.specs.Placing.{Placed}
use Rattle.text.proofs.Placing.{placed-length}
use Rattle.text.proofs.Decimal.{one-digit, more-digits, few-digits}
use Rattle.text_printer.specs.Spelling.{spelling, Spellable, RoomFor}
use Rattle.text_printer.specs.Atoms.{atom_text, Printable, AtomRoom}
use Rattle.text_printer.proofs.SpellLaws.{placed_as}

-- ---- digits of a number

-- `len` is one more than the digits left off, and v is what has the others
pub record Digits (n v len : ℕ) : Type 0 where
  pub left : ℕ
  pub small : v < 10 ^ suc left
  pub total : len + length (digits (suc left) v []) ≡ 1 + length (digits 10 n [])

pub digits-start : {n : ℕ} → n < 4294967296 → Digits n n 1
digits-start h = record { left = 9; small = omega arith; total = refl }

one_less : (n v len left : ℕ) → v < 10 ^ suc left → len + length (digits (suc left) v []) ≡ 1 + length (digits 10 n []) → 9 < v → Digits n (v / 10) (len + 1)
one_less n v len zero h t l = absurd (none h l)
  where
    none : v < 10 → 9 < v → ⊥
    none a b = omega arith
one_less n v len (suc k) h t l =
    let a = ap length (more-digits (suc k) v (omega arith)) in
    let b = length-append (digits (suc k) (v / 10) []) ((48 + v % 10) ∷ []) in
    record { left = k; small = omega arith; total = omega arith }

module _ {n v len : ℕ} (d : Digits n v len) where
  pub digits_on : 9 < v → Digits n (v / 10) (len + 1)
  digits_on l = one_less n v len d.left d.small d.total l

  pub digits-end : v ≤ 9 → len ≡ length (digits 10 n [])
  digits-end l =
      let a = ap length (one-digit d.left v (omega arith)) in
      let t = d.total in
      omega arith

  pub digits-few : len ≤ 11
  digits-few = let t = d.total in let f = few-digits 10 n in omega arith

  pub len-fits : Fits w64 (len + 1)
  len-fits = let f = digits-few in omega arith

  pub decimal_few : v ≤ 9 → len ≤ 10
  decimal_few l = let a = digits-end l in let f = few-digits 10 n in omega arith

pub less_digits : {v : ℕ} → 9 < v → v / 10 < v
less_digits h = omega arith

pub ruleset decimal_laws = (digits-start, digits_on, digits-end, len-fits, decimal_few, less_digits)

-- ---- rung words

named : (n : ℕ) → n < 6 → rung_text n ≡ get_or rung_words n []
unfolding rung_text
named n h = rw (lt-ltb n 6 h)

free : (n : ℕ) → 6 ≤ n → rung_text n ≡ digits 10 n []
unfolding rung_text
free n h = rw (le-ltb n 6 h)

named_as : (n k : ℕ) (w : List ℕ) → k < 6 → get_or rung_words k [] ≡ w → n ≡ k → w ≡ rung_text n
named_as n k w h e z = sym (ap rung_text z ∙ named k h ∙ e)

module _ {n : ℕ} where
  pub rung-and : n ≡ 0 → 97 ∷ 110 ∷ 100 ∷ [] ≡ rung_text n
  unfolding rung_words
  rung-and z = named_as n 0 _ (omega arith) refl z

  pub rung-or : n ≡ 1 → 111 ∷ 114 ∷ [] ≡ rung_text n
  unfolding rung_words
  rung-or z = named_as n 1 _ (omega arith) refl z

  pub rung-not : n ≡ 2 → 110 ∷ 111 ∷ 116 ∷ [] ≡ rung_text n
  unfolding rung_words
  rung-not z = named_as n 2 _ (omega arith) refl z

  pub rung-out : n ≡ 3 → 111 ∷ 117 ∷ 116 ∷ [] ≡ rung_text n
  unfolding rung_words
  rung-out z = named_as n 3 _ (omega arith) refl z

  pub rung-set : n ≡ 4 → 115 ∷ 101 ∷ 116 ∷ [] ≡ rung_text n
  unfolding rung_words
  rung-set z = named_as n 4 _ (omega arith) refl z

  pub rung-all : n ≡ 5 → 97 ∷ 108 ∷ 108 ∷ [] ≡ rung_text n
  unfolding rung_words
  rung-all z = named_as n 5 _ (omega arith) refl z

  pub long-or : n ≡ 1 → 2 ≡ length (rung_text n)
  long-or z = ap length (rung-or z)

three_long : (n : ℕ) → n < 6 → (n ≡ 1 → ⊥) → 3 ≡ length (rung_text n)
three_long zero h o = ap length (rung-and refl)
three_long (suc zero) h o = absurd (o refl)
three_long (suc (suc zero)) h o = ap length (rung-not refl)
three_long (suc (suc (suc zero))) h o = ap length (rung-out refl)
three_long (suc (suc (suc (suc zero)))) h o = ap length (rung-set refl)
three_long (suc (suc (suc (suc (suc zero))))) h o = ap length (rung-all refl)
three_long (suc (suc (suc (suc (suc (suc n)))))) h o = absurd (none h)
  where
    none : suc (suc (suc (suc (suc (suc n))))) < 6 → ⊥
    none k = omega arith

pub long-named : {n : ℕ} → (n ≡ 1 → ⊥) → n < 6 → 3 ≡ length (rung_text n)
long-named {n} o h = three_long n h o

pub long-free : {n r : ℕ} → 6 ≤ n → r ≡ length (digits 10 n []) → r ≡ length (rung_text n)
long-free {n} h e = e ∙ sym (ap length (free n h))

pub ruleset rung_laws = (long-or, long-named, long-free)

-- ---- the length of an atom's text

symbol-text : (all : List (List ℕ)) (tag x : ℕ) → tag ≡ 0 → atom_text all tag x ≡ get_or all x []
unfolding atom_text
symbol-text all tag x z = rw z

number-text : (all : List (List ℕ)) (tag x : ℕ) → tag ≡ 1 → atom_text all tag x ≡ digits 10 x []
unfolding atom_text
number-text all tag x z = rw z

point-text : (all : List (List ℕ)) (tag x : ℕ) → tag ≡ 2 → atom_text all tag x ≡ 64 ∷ digits 10 x []
unfolding atom_text
point-text all tag x z = rw z

prim-text : (all : List (List ℕ)) (tag x : ℕ) → tag ≡ 3 → atom_text all tag x ≡ 35 ∷ digits 10 x []
unfolding atom_text
prim-text all tag x z = rw z

rung-text : (all : List (List ℕ)) (tag x : ℕ) → (tag ≡ 0 → ⊥) → (tag ≡ 1 → ⊥) → (tag ≡ 2 → ⊥) → (tag ≡ 3 → ⊥) → atom_text all tag x ≡ 39 ∷ rung_text x
unfolding atom_text
rung-text all zero x a b c d = absurd (a refl)
rung-text all (suc zero) x a b c d = absurd (b refl)
rung-text all (suc (suc zero)) x a b c d = absurd (c refl)
rung-text all (suc (suc (suc zero))) x a b c d = absurd (d refl)
rung-text all (suc (suc (suc (suc t)))) x a b c d = refl

pub printable-symbol : {image starts : List ℕ} {n tag x : ℕ} → Printable image starts n tag x → tag ≡ 0 → Spellable image starts n x
printable-symbol p z = record { words = p.words; declared = p.declared z }

module _ (all : List (List ℕ)) (tag x : ℕ) {r : ℕ} where
  pub symbol_len : tag ≡ 0 → r ≡ length (get_or all x []) → r ≡ length (atom_text all tag x)
  symbol_len z e = e ∙ sym (ap length (symbol-text all tag x z))

  pub number-len : tag ≡ 1 → r ≡ length (digits 10 x []) → r ≡ length (atom_text all tag x)
  number-len z e = e ∙ sym (ap length (number-text all tag x z))

  point-len : tag ≡ 2 → r ≡ length (digits 10 x []) → 1 + r ≡ length (atom_text all tag x)
  point-len z e = let a = ap length (point-text all tag x z) in omega arith

  prim-len : tag ≡ 3 → r ≡ length (digits 10 x []) → 1 + r ≡ length (atom_text all tag x)
  prim-len z e = let a = ap length (prim-text all tag x z) in omega arith

  pub marked-len : (tag ≡ 2) ⊎ (tag ≡ 3) → r ≡ length (digits 10 x []) → 1 + r ≡ length (atom_text all tag x)
  marked-len (inl z) e = point-len z e
  marked-len (inr z) e = prim-len z e

  pub rung-len : (tag ≡ 0 → ⊥) → (tag ≡ 1 → ⊥) → (tag ≡ 2 → ⊥) → (tag ≡ 3 → ⊥) → r ≡ length (rung_text x) → 1 + r ≡ length (atom_text all tag x)
  rung-len a b c d e = let f = ap length (rung-text all tag x a b c d) in omega arith

pub ruleset atom_len_laws = (printable-symbol, symbol_len, number-len, marked-len, rung-len)

-- ---- a number behind its mark

module _ (out : List ℕ) (at mark n : ℕ) (h : at + suc (length (digits 10 n [])) ≤ length out) where
  pub mark_there : at < length out
  mark_there = omega arith

  pub mark_fits : Fits w64 (length out) → Fits w64 (at + 1)
  mark_fits f = omega arith

  pub digits-room : at + 1 + length (digits 10 n []) ≤ length (set out at mark)
  digits-room = let e = length-set out at mark in omega arith

behind-one : {out' : List ℕ} {r : ℕ} (out : List ℕ) (at b : ℕ) (l : List ℕ) → Placed (set out at b) (at + 1) l out' r → Placed out at (b ∷ l) out' r
behind-one {out'} {r} out at b l w = record {
  ends = let e = w.ends in omega arith;
  is = w.is ∙ ap (λ (k : ℕ). sets (set out at b) k l) (add-one at);
}

pub marked-placed : {out' : List ℕ} {r : ℕ} (out : List ℕ) (at mark n : ℕ) → Placed (set out at mark) (at + 1) (digits 10 n []) out' r → Placed out at (mark ∷ digits 10 n []) out' r
marked-placed out at mark n w = behind-one out at mark (digits 10 n []) w

pub marked-length : (out : List ℕ) {out' l : List ℕ} (at mark : ℕ) {r : ℕ} → Placed (set out at mark) (at + 1) l out' r → length out' ≡ length out
marked-length out at mark w = placed-length w ∙ length-set out at mark

pub ruleset marked_laws = (mark_there, mark_fits, digits-room, marked-placed, marked-length)

-- ---- a rung word

room_as : (out : List ℕ) (at : ℕ) (w v : List ℕ) → w ≡ v → at + length v ≤ length out → at + length w ≤ length out
room_as out at w v e h = let l = ap length e in omega arith

module _ (out : List ℕ) (at n : ℕ) (h : at + length (rung_text n) ≤ length out) where
  pub and-room : n ≡ 0 → at + 3 ≤ length out
  and-room z = room_as out at _ _ (rung-and z) h

  pub or-room : n ≡ 1 → at + 2 ≤ length out
  or-room z = room_as out at _ _ (rung-or z) h

  pub not-room : n ≡ 2 → at + 3 ≤ length out
  not-room z = room_as out at _ _ (rung-not z) h

  pub out-room : n ≡ 3 → at + 3 ≤ length out
  out-room z = room_as out at _ _ (rung-out z) h

  pub set_room : n ≡ 4 → at + 3 ≤ length out
  set_room z = room_as out at _ _ (rung-set z) h

  pub all_room : n ≡ 5 → at + 3 ≤ length out
  all_room z = room_as out at _ _ (rung-all z) h

  module _ (a : n ≡ 0 → ⊥) (b : n ≡ 1 → ⊥) (c : n ≡ 2 → ⊥) (d : n ≡ 3 → ⊥) (e : n ≡ 4 → ⊥) (f : n ≡ 5 → ⊥) where
    pub free-room : at + length (digits 10 n []) ≤ length out
    free-room = room_as out at _ _ (sym (free n (omega arith))) h

module _ {out : List ℕ} {at : ℕ} (n : ℕ) {out' : List ℕ} {p : ℕ} where
  pub and-placed : n ≡ 0 → Placed out at (97 ∷ 110 ∷ 100 ∷ []) out' p → Placed out at (rung_text n) out' p
  and-placed z q = placed_as _ _ (rung-and z) q

  pub or-placed : n ≡ 1 → Placed out at (111 ∷ 114 ∷ []) out' p → Placed out at (rung_text n) out' p
  or-placed z q = placed_as _ _ (rung-or z) q

  pub not-placed : n ≡ 2 → Placed out at (110 ∷ 111 ∷ 116 ∷ []) out' p → Placed out at (rung_text n) out' p
  not-placed z q = placed_as _ _ (rung-not z) q

  pub out-placed : n ≡ 3 → Placed out at (111 ∷ 117 ∷ 116 ∷ []) out' p → Placed out at (rung_text n) out' p
  out-placed z q = placed_as _ _ (rung-out z) q

  pub set-placed : n ≡ 4 → Placed out at (115 ∷ 101 ∷ 116 ∷ []) out' p → Placed out at (rung_text n) out' p
  set-placed z q = placed_as _ _ (rung-set z) q

  pub all_placed : n ≡ 5 → Placed out at (97 ∷ 108 ∷ 108 ∷ []) out' p → Placed out at (rung_text n) out' p
  all_placed z q = placed_as _ _ (rung-all z) q

  module _ (a : n ≡ 0 → ⊥) (b : n ≡ 1 → ⊥) (c : n ≡ 2 → ⊥) (d : n ≡ 3 → ⊥) (e : n ≡ 4 → ⊥) (f : n ≡ 5 → ⊥) where
    pub free-placed : Placed out at (digits 10 n []) out' p → Placed out at (rung_text n) out' p
    free-placed q = placed_as _ _ (sym (free n (omega arith))) q

pub ruleset put_rung_laws = (and-room, or-room, not-room, out-room, set_room, all_room, free-room, and-placed, or-placed, not-placed, out-placed, set-placed, all_placed, free-placed, placed-length)

-- ---- an atom other than a symbol

module _ (out : List ℕ) (at tag x : ℕ) (h : at + length (atom_text [] tag x) ≤ length out) where
  pub number-room : tag ≡ 1 → at + length (digits 10 x []) ≤ length out
  number-room z = room_as out at _ _ (sym (number-text [] tag x z)) h

  pub point-room : tag ≡ 2 → at + suc (length (digits 10 x [])) ≤ length out
  point-room z = room_as out at _ _ (sym (point-text [] tag x z)) h

  pub prim-room : tag ≡ 3 → at + suc (length (digits 10 x [])) ≤ length out
  prim-room z = room_as out at _ _ (sym (prim-text [] tag x z)) h

  module _ (a : tag ≡ 0 → ⊥) (b : tag ≡ 1 → ⊥) (c : tag ≡ 2 → ⊥) (d : tag ≡ 3 → ⊥) where
    rung-there : at + suc (length (rung_text x)) ≤ length out
    rung-there = room_as out at _ _ (sym (rung-text [] tag x a b c d)) h

    pub quote-there : at < length out
    quote-there = let r = rung-there in omega arith

    pub quote-fits : Fits w64 (length out) → Fits w64 (at + 1)
    quote-fits f = let r = rung-there in omega arith

    pub rung-room : at + 1 + length (rung_text x) ≤ length (set out at 39)
    rung-room = let r = rung-there in let e = length-set out at 39 in omega arith

module _ (out : List ℕ) (at tag x : ℕ) {out' : List ℕ} {p : ℕ} where
  pub number-placed : tag ≡ 1 → Placed out at (digits 10 x []) out' p → Placed out at (atom_text [] tag x) out' p
  number-placed z q = placed_as _ _ (sym (number-text [] tag x z)) q

  pub point-placed : tag ≡ 2 → Placed out at (64 ∷ digits 10 x []) out' p → Placed out at (atom_text [] tag x) out' p
  point-placed z q = placed_as _ _ (sym (point-text [] tag x z)) q

  pub prim-placed : tag ≡ 3 → Placed out at (35 ∷ digits 10 x []) out' p → Placed out at (atom_text [] tag x) out' p
  prim-placed z q = placed_as _ _ (sym (prim-text [] tag x z)) q

  module _ (a : tag ≡ 0 → ⊥) (b : tag ≡ 1 → ⊥) (c : tag ≡ 2 → ⊥) (d : tag ≡ 3 → ⊥) where
    pub rung-placed : Placed (set out at 39) (at + 1) (rung_text x) out' p → Placed out at (atom_text [] tag x) out' p
    rung-placed q = placed_as _ _ (sym (rung-text [] tag x a b c d)) (behind-one out at 39 (rung_text x) q)

pub ruleset number_laws = (number-room, point-room, prim-room, quote-there, quote-fits, rung-room, number-placed, point-placed, prim-placed, rung-placed, marked-length, placed-length)

-- ---- any atom

no_words : (all : List (List ℕ)) (tag x : ℕ) → (tag ≡ 0 → ⊥) → atom_text [] tag x ≡ atom_text all tag x
unfolding atom_text
no_words all zero x n = absurd (n refl)
no_words all (suc zero) x n = refl
no_words all (suc (suc zero)) x n = refl
no_words all (suc (suc (suc zero))) x n = refl
no_words all (suc (suc (suc (suc t)))) x n = refl

module _ {out : List ℕ} {at : ℕ} {image starts : List ℕ} {n tag x : ℕ} (r : AtomRoom out at image starts n tag x) where
  pub symbol-room : tag ≡ 0 → RoomFor out at image starts n x
  symbol-room z = record {
    spellable = record { words = r.printable.words; declared = r.printable.declared z };
    room = room_as out at _ _ (sym (symbol-text (spelling image starts n) tag x z)) r.room;
  }

  pub other-room : (tag ≡ 0 → ⊥) → at + length (atom_text [] tag x) ≤ length out
  other-room z = room_as out at _ _ (no_words (spelling image starts n) tag x z) r.room

module _ {out : List ℕ} {at : ℕ} (image starts : List ℕ) (n tag x : ℕ) {out' : List ℕ} {p : ℕ} where
  pub symbol-placed : tag ≡ 0 → Placed out at (get_or (spelling image starts n) x []) out' p → Placed out at (atom_text (spelling image starts n) tag x) out' p
  symbol-placed z q = placed_as _ _ (sym (symbol-text (spelling image starts n) tag x z)) q

  pub other-placed : (tag ≡ 0 → ⊥) → Placed out at (atom_text [] tag x) out' p → Placed out at (atom_text (spelling image starts n) tag x) out' p
  other-placed z q = placed_as _ _ (no_words (spelling image starts n) tag x z) q

pub ruleset atom_laws = (symbol-room, other-room, symbol-placed, other-placed, placed-length)
