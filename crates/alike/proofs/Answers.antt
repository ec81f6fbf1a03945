-- Endings and answers alike: the same refusal after the same units, or images of which h makes the second of the first.
use mathlib.Core.Path.{◌≡◌, refl, sym, ap, ◌∙◌}
use Prim.Native.Nat.{ℕ, ◌≤◌}
use mathlib.Core.Bool.{Bool, true, false, ◌&&◌}
use mathlib.Core.List.{List}
use lib.Dec.{leb}
use lib.ListN.{length, drop}
use Rattle.model.specs.Choice.{when◌then◌else◌}
use Rattle.model.specs.Limits.{most_image, last_phase}
use Rattle.model.specs.Refusals.{Refusal, small_table, no_phase, too_long}
use Rattle.model.specs.Competing.{Rivals, no_rivals}
use Rattle.model.specs.Jobs.{Ending, refused, written, answer_of, output_after, Result, budget_fits, lent, at_phase, fitted}
use borrow.Author.Tests.{leb-true}
use Rattle.laws.proofs.Tests.{and_both}
use Rattle.addresses.specs.OneNameOneAddress.{image_written}
use Rattle.addresses.proofs.Endings.{code-some, after-ending, untouched, take_whole}
use Rattle.alike.specs.Renumbering.{SameBut}

pub data EndingsAlike (h : List ℕ → List ℕ) : Ending → Ending → Type 0 where
  both-refused : {r : Refusal} {p q : Rivals} {u : ℕ} → EndingsAlike h (refused r p u) (refused r q u)
  both-written : {b c : List ℕ} {u : ℕ} → c ≡ h b → EndingsAlike h (written b u) (written c u)

-- its code is not 20: the output, and 65,536 bytes, are enough
abbrev pub Short : Ending → Type 0
Short e = (answer_of e).code ≡ 20 → ⊥

-- two endings alike, where both are short
abbrev pub AlikeIfShort : (List ℕ → List ℕ) → Ending → Ending → Type 0
AlikeIfShort h e d = Short e → Short d → EndingsAlike h e d

module _ (h : List ℕ → List ℕ) where
  pub fitted_alike : (room rest u : ℕ) (b c : List ℕ) → (length b ≤ most_image → length c ≤ most_image → c ≡ h b)
      → AlikeIfShort h (fitted room b u) (fitted rest c u)
  unfolding fitted answer_of
  fitted_alike room rest u b c k = go (leb (length b) room && leb (length b) most_image) refl (leb (length c) rest && leb (length c) most_image) refl
    where
      ending : List ℕ → Bool → Ending
      ending z t = when t then written z u else refused too_long no_rivals u

      go : (x : Bool) → (leb (length b) room && leb (length b) most_image) ≡ x → (y : Bool) → (leb (length c) rest && leb (length c) most_image) ≡ y
          → AlikeIfShort h (ending b x) (ending c y)
      go true p true q i j =
          both-written (k (leb-true (length b) most_image (and_both (leb (length b) room) (leb (length b) most_image) p).1)
          (leb-true (length c) most_image (and_both (leb (length c) rest) (leb (length c) most_image) q).1))
      go true p false q i j = absurd (j refl)
      go false p y q i j = absurd (i refl)

  pub phase_alike : (ph : ℕ) (e d : Ending) → AlikeIfShort h e d → AlikeIfShort h (at_phase ph e) (at_phase ph d)
  unfolding at_phase
  phase_alike ph e d k = go (leb ph last_phase)
    where
      go : (t : Bool) → AlikeIfShort h (when t then e else refused no_phase no_rivals 0) (when t then d else refused no_phase no_rivals 0)
      go true v w = k v w
      go false v w = both-refused

  -- ---- and what comes back

  untouched_alike : (table one two : List ℕ) → SameBut h (untouched table one) (untouched table two)
  unfolding answer_of
  untouched_alike table one two =
      record { code_is = refl; units-is = refl; name-is = refl; table_is = refl; result-is = λ q. absurd (code-some small_table q) }

  ended_alike : (budget : ℕ) (table one two : List ℕ) (e d : Ending) → EndingsAlike h e d
      → SameBut h (after-ending budget table one e) (after-ending budget table two d)
  unfolding answer_of output_after image_written
  ended_alike budget table one two e d (both-refused {r}) =
      record { code_is = refl; units-is = refl; name-is = refl; table_is = refl; result-is = λ q. absurd (code-some r q) }
  ended_alike budget table one two e d (both-written {b} {c} p) = record {
    code_is = refl;
    units-is = refl;
    name-is = refl;
    table_is = refl;
    result-is = λ q. take_whole c (drop (length c) two) ∙ p ∙ ap h (sym (take_whole b (drop (length b) one)));
  }

  -- where neither job answers 20
  pub lent_alike : (budget : ℕ) (table one two : List ℕ) (e d : Ending) → AlikeIfShort h e d
      → ((lent budget table one e).answer.code ≡ 20 → ⊥) → ((lent budget table two d).answer.code ≡ 20 → ⊥)
      → SameBut h (lent budget table one e) (lent budget table two d)
  unfolding lent
  lent_alike budget table one two e d k = go (budget_fits budget (length table))
    where
      given : List ℕ → Ending → Bool → Result
      given output z t = when t then after-ending budget table output z else untouched table output

      go : (t : Bool) → ((given one e t).answer.code ≡ 20 → ⊥) → ((given two d t).answer.code ≡ 20 → ⊥)
          → SameBut h (given one e t) (given two d t)
      go true v w = ended_alike budget table one two e d (k v w)
      go false v w = untouched_alike table one two
