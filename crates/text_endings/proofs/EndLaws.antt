-- One law for each way that a job of text can end.
use Prim.Native.Nat.{ℕ, ◌+◌, ◌≤◌, ◌<◌}
use mathlib.Core.Path.{◌≡◌, refl, sym, ap, ◌∙◌, subst}
use mathlib.Core.Bool.{Bool, true, false, ◌&&◌}
use mathlib.Core.List.{List, ◌++◌}
use native.Mathlib.Omega.{arith}
use mir.Syntax.{w32}
use mir.Val.{Fits}
use lib.ListN.{length, drop}
use lib.Seq.{sets, sets-eq}
use lib.Dec.{leb}
use borrow.Author.Tests.{le-leb, leb-true}
use Rattle.model.specs.Choice.{when◌then◌else◌}
use Rattle.model.specs.Limits.{most_image}
use Rattle.model.specs.Refusals.{too_long, code_of}
use Rattle.requests.specs.FromText.{base, made, refused, text_code}
use Rattle.requests.specs.TextJobs.{TextEnding, fitted, output_after_text}
use Rattle.refusals.specs.declared.Refusal.{Refusal}
use Rattle.refusals.specs.declared.Refusal.TheVariants.{TooLong}
use Rattle.refusals.specs.Refusing.{refusal_of}
use Rattle.text_endings.specs.declared.TextRefusal.{TextRefusal}
use Rattle.text_endings.specs.declared.TextRefusal.TheVariants.{Base}
use Rattle.std.specs.Prelude.{Ok, Err}
use Rattle.text_endings.specs.Ending.{text_refusal_of, Room, Measured, Ends}

pub base-code : {k : ℕ} {q : TextRefusal} {f : Refusal} → q ≡ Base f → k ≡ code_of (refusal_of f) → k ≡ text_code (text_refusal_of q)
base-code e h = rw e h

pub ruleset code_laws = (base-code)

-- ---- the room

pub room_small : {out room : ℕ} → Room out room → room ≤ 65536
room_small r = r.in_image

pub len-fits : {out room len : ℕ} → Room out room → len ≤ room → Fits w32 len
len-fits r h = let b = r.in_image in omega arith

-- ---- endings

fits_in : (room : ℕ) (b : List ℕ) → length b ≤ room → length b ≤ 65536 → fitted room b ≡ made b
unfolding fitted most_image
fits_in room b p q = rw (le-leb (length b) room p, le-leb (length b) 65536 q)

too_long_lem : (room : ℕ) (b : List ℕ) → ((n : ℕ) → n ≤ room → n ≤ 65536 → n ≡ length b → ⊥) → fitted room b ≡ refused (base too_long)
unfolding fitted most_image
too_long_lem room b over = go (leb (length b) room) (leb (length b) 65536) refl refl
  where
    go : (x y : Bool) → leb (length b) room ≡ x → leb (length b) 65536 ≡ y → (when x && y then made b else refused (base too_long)) ≡ refused (base too_long)
    go true true p q = absurd (over (length b) (leb-true (length b) room p) (leb-true (length b) 65536 q) refl)
    go true false p q = refl
    go false y p q = refl

pub ends-refused : {e : TextEnding} {out : List ℕ} (f : TextRefusal) → e ≡ refused (text_refusal_of f) → Ends e out out (Err f)
unfolding output_after_text
ends-refused {e} {out} f i = record { answer = i; left = sym (ap (λ (z : TextEnding). output_after_text z out) i) }

ends-made : {e : TextEnding} {out out' : List ℕ} (b : List ℕ) → e ≡ made b → out' ≡ b ++ drop (length b) out → Ends e out out' (Ok (length b))
unfolding output_after_text
ends-made {e} {out} {out'} b i o = record { answer = record { bytes = b; is = i; long = refl }; left = o ∙ sym (ap (λ (z : TextEnding). output_after_text z out) i) }

pub there_is_room : {out room len : ℕ} {bytes : List ℕ} → Room out room → Measured bytes room len → len ≤ room → (length bytes ≤ out) × (length bytes ≤ 65536)
there_is_room r m h =
    let e = m.exact h in
    let a = r.in_out in
    let b = r.in_image in
    (omega arith, omega arith)

-- these bytes, measured: too long, or there is room, and they are written
module _ {out bytes : List ℕ} {room len : ℕ} (r : Room (length out) room) (m : Measured bytes room len) where
  pub ends_too_long : room < len → Ends (fitted (length out) bytes) out out (Err (Base TooLong))
  ends_too_long h = ends-refused (Base TooLong) (too_long_lem (length out) bytes (λ k a b e. no k (r.most k a b) e (m.long h)))
    where
      no : (k : ℕ) → k ≤ room → k ≡ length bytes → room < length bytes → ⊥
      no k a b c = omega arith

  pub ends-written : {out' : List ℕ} → len ≤ room → out' ≡ sets out 0 bytes → Ends (fitted (length out) bytes) out out' (Ok len)
  ends-written {out'} h o =
      let e = m.exact h in
      let f = there_is_room r m h in
      let z : 0 + length bytes ≡ length bytes = omega arith in
      subst (λ (k : ℕ). Ends (fitted (length out) bytes) out out' (Ok k)) e
      (ends-made bytes (fits_in (length out) bytes f.0 f.1) (o ∙ sets-eq bytes out 0 (let g = f.0 in omega arith) ∙ ap (λ (k : ℕ). bytes ++ drop k out) z))
