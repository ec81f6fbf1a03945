-- Bytes placed one after another.
use Prim.Native.Nat.{ℕ, suc, ◌+◌, ◌≤◌, ◌<◌}
use mathlib.Core.Path.{◌≡◌, refl, ap, ◌∙◌, subst}
use mathlib.Core.List.{List, [], ◌∷◌, ◌++◌}
use native.Mathlib.Omega.{arith}
use native.Mathlib.Numerals.{add-one}
use lib.ListN.{length, drop, get_or, set, length-set, length-append, length-drop, drop_of_length-le}
use lib.Seq.{sets, length-sets, drop-cons}
use Rattle.numbers.proofs.Writing.{sets_append}
use Rattle.text.specs.Placing.{Placed}

pub placed_then : {out out₁ out₂ xs ys : List ℕ} {at p q : ℕ} → Placed out at xs out₁ p → Placed out₁ p ys out₂ q → Placed out at (xs ++ ys) out₂ q
placed_then {out} {out₁} {out₂} {xs} {ys} {at} {p} {q} a b =
    record {
      ends = let e = a.ends in let f = b.ends in simp length-append (omega arith);
      is = b.is ∙ (λ i. sets (a.is i) (a.ends i) ys) ∙ sets_append xs ys out at;
    }

pub placed-length : {out bytes out' : List ℕ} {at past : ℕ} → Placed out at bytes out' past → length out' ≡ length out
placed-length {out} {bytes} {at = at} a = ap length a.is ∙ length-sets out at bytes

-- the same bytes under another name
pub renamed : {out xs ys out' : List ℕ} {at past : ℕ} → xs ≡ ys → Placed out at xs out' past → Placed out at ys out' past
renamed {out} {out' = out'} {at} {past} e w = subst (λ (l : List ℕ). Placed out at l out' past) e w

-- where the placing of bytes at `at` stands: placing the rest of them at `to` makes of out what is to be made of out₀
pub record Placing (out₀ : List ℕ) (at : ℕ) (bytes out : List ℕ) (to : ℕ) (rest : List ℕ) : Type 0 where
  pub same : length out ≡ length out₀
  pub ends : to + length rest ≡ at + length bytes
  pub is : sets out to rest ≡ sets out₀ at bytes

pub begun : {out bytes : List ℕ} {at : ℕ} → Placing out at bytes out at bytes
begun = record { same = refl; ends = refl; is = refl }

module _ {out₀ : List ℕ} {at : ℕ} {bytes out : List ℕ} {to : ℕ} where
  pub ended : Placing out₀ at bytes out to [] → Placed out₀ at bytes out to
  ended w = record { ends = let e = w.ends in omega arith; is = w.is }

  pub one_more : {b : ℕ} {rest : List ℕ} → Placing out₀ at bytes out to (b ∷ rest) → Placing out₀ at bytes (set out to b) (to + 1) rest
  one_more {b} {rest} w =
      record {
        same = length-set out to b ∙ w.same;
        ends = let e = w.ends in omega arith;
        is = rw add-one w.is;
      }

  pub placing_more : {out' xs rest : List ℕ} {p : ℕ} → Placing out₀ at bytes out to (xs ++ rest) → Placed out to xs out' p → Placing out₀ at bytes out' p rest
  placing_more {out'} {xs} {rest} {p} w a =
      record {
        same = placed-length a ∙ w.same;
        ends = let e = w.ends in let f = a.ends in let l = length-append xs rest in omega arith;
        is = (λ i. sets (a.is i) (a.ends i) rest) ∙ sets_append xs rest out to ∙ w.is;
      }

-- ---- text

-- where the first i of the text's bytes are placed
pub record Texting (out₀ : List ℕ) (at : ℕ) (text out : List ℕ) (to i : ℕ) : Type 0 where
  pub within : i ≤ length text
  pub placing : Placing out₀ at text out to (drop i text)

pub text-begun : {out text : List ℕ} {at : ℕ} → Texting out at text out at 0
text-begun = record { within = omega arith; placing = begun }

module _ {out₀ : List ℕ} {at : ℕ} {text out : List ℕ} {to i : ℕ} (w : Texting out₀ at text out to i) where
  pub text-room : at + length text ≤ length out₀ → i < length text → to < length out
  text-room h l =
      let s = w.placing.same in let e = simp length-drop at w.placing.ends in
      omega arith

  pub text-more : i < length text → Texting out₀ at text (set out to (get_or text i 0)) (to + 1) (i + 1)
  text-more l =
      record {
        within = omega arith;
        placing = rw (add-one i) (one_more (rw (drop-cons text i 0 l) at w.placing));
      }

  pub text-ended : length text ≤ i → Placed out₀ at text out to
  text-ended l = ended (rw (drop_of_length-le text l) at w.placing)

pub ruleset text_laws = (text-begun, text-room, text-more, text-ended, placed-length)
