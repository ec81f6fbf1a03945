-- Bytes of the file taken one after another.
use mathlib.Core.Path.{◌≡◌, refl, sym, ap, ◌∙◌}
use Prim.Native.Nat.{ℕ, ◌+◌, ◌≤◌, ◌<◌}
use native.Mathlib.Omega.{arith}
use native.Mathlib.Numerals.{add-one}
use mathlib.Core.List.{List, [], ◌∷◌, ◌++◌, append_assoc}
use lib.ListN.{length, get_or, take}
use lib.Seq.{take-suc, take_all}
use Rattle.requests.specs.Report.{single}
use Rattle.reports.specs.declared.division.Reading.{Reading}
use Rattle.reports.specs.declared.division.Reading.TheVariants.{Between, Image, Passing}
use Rattle.reports.specs.declared.totals.Sums.{Sums}
use Rattle.reports.specs.Dividing.{too_long_line, Waits, Divides}
use Rattle.reports.specs.Totals.{Totals, totals_of, counted, totals_from}
use Rattle.reports.proofs.Settling.{image-counted, passed_counted, byte-taken}
use Rattle.term_report.specs.declared.taking.Taken.{Taken}
use Rattle.term_report.specs.Taking.{between_with, Room, Settles, Takes}

-- ---- an image that is whole

module _ {here : Reading} {room counts counts' : List ℕ} {s s' : Sums} where
  pub image_settled : {have left : ℕ} → here ≡ Image have left → left ≡ 0 → totals_of s' counts' ≡ counted (single (take have room)) (totals_of s counts)
      → Settles here room (totals_of s counts) (between_with s') counts'
  image_settled {have} {left} e z c =
      record {
        waits = tt;
        is = λ rest. ap (λ (h : Reading). totals_from h room (totals_of s counts) rest) (e ∙ ap (Image have) z) ∙ image-counted have room room (totals_of s counts) rest
            ∙ ap (λ (t : Totals). totals_from Between room t rest) (sym c);
      }

  pub passed_settled : {left : ℕ} → here ≡ Passing left → left ≡ 0 → totals_of s' counts' ≡ counted too_long_line (totals_of s counts)
      → Settles here room (totals_of s counts) (between_with s') counts'
  passed_settled {left} e z c =
      record {
        waits = tt;
        is = λ rest. ap (λ (h : Reading). totals_from h room (totals_of s counts) rest) (e ∙ ap Passing z) ∙ passed_counted room room (totals_of s counts) rest
            ∙ ap (λ (t : Totals). totals_from Between room t rest) (sym c);
      }

-- ---- a byte

pub byte_settled : {here r : Taken} {there : Reading} {b : ℕ} {room room' counts counts' : List ℕ} → Divides here.reading b room there room'
    → Settles there room' (totals_of here.sums counts) r counts' → Takes (b ∷ []) here room counts r room' counts'
byte_settled {here} {counts = counts} d s =
    record { waits = s.waits; is = λ rest. byte-taken (totals_of here.sums counts) rest d ∙ s.is rest }

-- ---- bytes one after another

pub both-taken : {xs ys : List ℕ} {a b c : Taken} {r₀ r₁ r₂ c₀ c₁ c₂ : List ℕ} → Takes xs a r₀ c₀ b r₁ c₁ → Takes ys b r₁ c₁ c r₂ c₂ → Takes (xs ++ ys) a r₀ c₀ c r₂ c₂
both-taken {xs} {ys} {a} {r₀ = r₀} {c₀ = c₀} p q =
    record { waits = q.waits; is = λ rest. ap (totals_from a.reading r₀ (totals_of a.sums c₀)) (append_assoc xs ys rest) ∙ p.is (ys ++ rest) ∙ q.is rest }

-- the first i bytes are taken; the slices are as long as they were
pub record Midway (bytes : List ℕ) (here : Taken) (room₀ counts₀ table₀ out₀ : List ℕ) (i : ℕ) (there : Taken) (room counts table out : List ℕ) : Type 0 where
  pub within : i ≤ length bytes
  pub takes : Takes (take i bytes) here room₀ counts₀ there room counts
  pub lent : Room room counts table out
  pub room-long : length room ≡ length room₀
  pub counts-long : length counts ≡ length counts₀
  pub table-long : length table ≡ length table₀
  pub out-long : length out ≡ length out₀

pub midway_begun : {bytes room counts table out : List ℕ} {here : Taken} → Waits here.reading → Room room counts table out
    → Midway bytes here room counts table out 0 here room counts table out
midway_begun w r =
    record {
      within = omega arith;
      takes = record { waits = w; is = λ rest. refl };
      lent = r;
      room-long = refl;
      counts-long = refl;
      table-long = refl;
      out-long = refl;
    }

pub room_again : {room counts table out room' counts' table' out' : List ℕ} → Room room counts table out → length room' ≡ length room → length counts' ≡ length counts
    → length table' ≡ length table → length out' ≡ length out → Room room' counts' table' out'
room_again w a b c d =
    let i = w.image in let j = w.all in let k = w.lent.words in
    record { image = omega arith; all = omega arith; lent = record { words = omega arith; bytes = d ∙ w.lent.bytes } }

module _ {bytes room₀ counts₀ table₀ out₀ : List ℕ} {here there : Taken} {i : ℕ} {room counts table out : List ℕ}
    (w : Midway bytes here room₀ counts₀ table₀ out₀ i there room counts table out) where
  pub midway_waits : Waits there.reading
  midway_waits = w.takes.waits

  pub midway_lent : Room room counts table out
  midway_lent = w.lent

  pub midway_more : {r : Taken} {room' counts' table' out' : List ℕ} → i < length bytes → Takes (get_or bytes i 0 ∷ []) there room counts r room' counts'
      → length room' ≡ length room → length counts' ≡ length counts → length table' ≡ length table → length out' ≡ length out
      → Midway bytes here room₀ counts₀ table₀ out₀ (i + 1) r room' counts' table' out'
  midway_more l t a b c d =
      record {
        within = omega arith;
        takes = rw (add-one i, take-suc bytes i 0 l) (both-taken w.takes t);
        lent = room_again w.lent a b c d;
        room-long = a ∙ w.room-long;
        counts-long = b ∙ w.counts-long;
        table-long = c ∙ w.table-long;
        out-long = d ∙ w.out-long;
      }

  pub midway_ended : length bytes ≤ i → Takes bytes here room₀ counts₀ there room counts
  midway_ended h = rw take_all at w.takes

pub ruleset taking_laws = (byte_settled, midway_begun, midway_waits, midway_lent, midway_more, midway_ended)
