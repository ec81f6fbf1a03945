-- The digits of a number, the last of them placed behind those of its tenth.
use Prim.Native.Nat.{ℕ, zero, suc, ◌+◌, ◌-◌, ◌/◌, ◌%◌, ◌≤◌, ◌<◌}
use mathlib.Core.Path.{◌≡◌, refl, ap, ◌∙◌, sym, subst}
use mathlib.Core.List.{List, [], ◌∷◌, ◌++◌, append_assoc}
use mathlib.Core.Bool.{Bool, true, false}
use native.Mathlib.Omega.{arith}
use mir.Syntax.{w64}
use mir.Val.{Fits}
use lib.ListN.{length, set, length-append}
use lib.Dec.{ltb}
use borrow.Author.Tests.{lt-ltb, le-ltb}
use Rattle.model.specs.Choice.{when◌then◌else◌}
use Rattle.model.specs.Jobs.{digits}
use Rattle.text.specs.Placing.{Placed}
use Rattle.text.proofs.Placing.{placed_then, placed-length}

pub digits-before : (k n : ℕ) (after : List ℕ) → digits k n after ≡ digits k n [] ++ after
unfolding digits
digits-before zero n after = refl
digits-before (suc k) n after = by (λ l. digits-before k (n / 10) l) (ltb n 10)
  where
    by : ((l : List ℕ) → digits k (n / 10) l ≡ digits k (n / 10) [] ++ l) → (t : Bool) → (when t then (48 + n) ∷ after else digits k (n / 10) ((48 + n % 10) ∷ after))
        ≡ (when t then (48 + n) ∷ [] else digits k (n / 10) ((48 + n % 10) ∷ [])) ++ after
    by h true = refl
    by h false =
        h ((48 + n % 10) ∷ after)
        ∙ sym (append_assoc (digits k (n / 10) []) ((48 + n % 10) ∷ []) after)
        ∙ ap (λ (l : List ℕ). l ++ after) (sym (h ((48 + n % 10) ∷ [])))

pub one-digit : (k n : ℕ) → n < 10 → digits (suc k) n [] ≡ (48 + n) ∷ []
unfolding digits
one-digit k n h = simp (lt-ltb n 10 h)

pub more-digits : (k n : ℕ) → 10 ≤ n → digits (suc k) n [] ≡ digits k (n / 10) [] ++ (48 + n % 10) ∷ []
unfolding digits
more-digits k n h = simp (le-ltb n 10 h) (digits-before k (n / 10) ((48 + n % 10) ∷ []))

pub few-digits : (k n : ℕ) → length (digits k n []) ≤ k
unfolding digits
few-digits zero n = omega arith
few-digits (suc k) n = by (few-digits k (n / 10)) (ltb n 10)
  where
    by : length (digits k (n / 10) []) ≤ k → (t : Bool) → length (when t then (48 + n) ∷ [] else digits k (n / 10) ((48 + n % 10) ∷ [])) ≤ suc k
    by f true = omega arith
    by f false =
        rw (digits-before k (n / 10) ((48 + n % 10) ∷ [])) (rw length-append (omega arith))

one_less : (left : ℕ) → (left ≡ 0 → ⊥) → suc (left - 1) ≡ left
one_less left h = omega arith

module _ (out : List ℕ) (at left n : ℕ) where
  pub no-digits : left ≡ 0 → Placed out at (digits left n []) out at
  unfolding digits
  no-digits h = subst (λ (k : ℕ). Placed out at (digits k n []) out at) (sym h) (record { ends = omega arith; is = refl })

  pub last-digit : (left ≡ 0 → ⊥) → n < 10 → Placed out at (digits left n []) (set out at (48 + n)) (at + 1)
  last-digit h l =
      subst (λ (b : List ℕ). Placed out at b (set out at (48 + n)) (at + 1))
      (sym (one-digit (left - 1) n l) ∙ ap (λ (k : ℕ). digits k n []) (one_less left h))
      (record { ends = refl; is = refl })

  one-long : (left ≡ 0 → ⊥) → n < 10 → length (digits left n []) ≡ 1
  one-long h l = ap (λ (k : ℕ). length (digits k n [])) (sym (one_less left h)) ∙ ap length (one-digit (left - 1) n l)

  more-long : (left ≡ 0 → ⊥) → 10 ≤ n → length (digits left n []) ≡ length (digits (left - 1) (n / 10) []) + 1
  more-long h l =
      ap (λ (k : ℕ). length (digits k n [])) (sym (one_less left h))
      ∙ ap length (more-digits (left - 1) n l)
      ∙ length-append (digits (left - 1) (n / 10) []) ((48 + n % 10) ∷ [])

  pub one-room : (left ≡ 0 → ⊥) → n < 10 → at + length (digits left n []) ≤ length out → at < length out
  one-room h l r = let e = one-long h l in omega arith

  pub one-fits : (left ≡ 0 → ⊥) → n < 10 → at + length (digits left n []) ≤ length out → Fits w64 (length out) → Fits w64 (at + 1)
  one-fits h l r f = let e = one-long h l in omega arith

  pub fewer_room : (left ≡ 0 → ⊥) → 10 ≤ n → at + length (digits left n []) ≤ length out → at + length (digits (left - 1) (n / 10) []) ≤ length out
  fewer_room h l r = let e = more-long h l in omega arith

  module _ {out' : List ℕ} {past : ℕ} (w : Placed out at (digits (left - 1) (n / 10) []) out' past) where
    pub digit_room : (left ≡ 0 → ⊥) → 10 ≤ n → at + length (digits left n []) ≤ length out → past < length out'
    digit_room h l r =
        let e = w.ends in let m = more-long h l in let s = placed-length w in
        omega arith

    pub digit-fits : (left ≡ 0 → ⊥) → 10 ≤ n → at + length (digits left n []) ≤ length out → Fits w64 (length out) → Fits w64 (past + 1)
    digit-fits h l r f = let q = digit_room h l r in let s = placed-length w in omega arith

    pub next-digit : (left ≡ 0 → ⊥) → 10 ≤ n → Placed out at (digits left n []) (set out' past (48 + n % 10)) (past + 1)
    next-digit h l =
        subst (λ (b : List ℕ). Placed out at b (set out' past (48 + n % 10)) (past + 1))
        (sym (more-digits (left - 1) n l) ∙ ap (λ (k : ℕ). digits k n []) (one_less left h))
        (placed_then w (record { ends = refl; is = refl }))

pub placed-few : {out out' : List ℕ} {at past : ℕ} (k n : ℕ) → Placed out at (digits k n []) out' past → past ≤ at + k
placed-few k n w = let e = w.ends in let f = few-digits k n in omega arith

pub decimal_room : (room at n : ℕ) → at + 10 ≤ room → at + length (digits 10 n []) ≤ room
decimal_room room at n h = let f = few-digits 10 n in omega arith

pub ruleset digit_laws = (no-digits, last-digit, one-room, one-fits, fewer_room, decimal_room, digit_room, digit-fits, next-digit, placed-few, placed_then, placed-length)

-- ---- a number of one digit, which needs no further call

ten : ◌≡◌ {A = ℕ} 10 0 → ⊥
ten e = omega arith

module _ (out : List ℕ) (at n : ℕ) where
  pub short-placed : n < 10 → Placed out at (digits 10 n []) (set out at (48 + n)) (at + 1)
  short-placed = last-digit out at 10 n ten

  pub short-room : n < 10 → at + length (digits 10 n []) ≤ length out → at < length out
  short-room = one-room out at 10 n ten
