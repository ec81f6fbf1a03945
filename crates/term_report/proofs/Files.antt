-- Where the program stands is always behind some file, and what it prints is that file's report.
use mathlib.Core.Path.{◌≡◌, refl, sym, ap, ◌∙◌, subst}
use Prim.Native.Nat.{ℕ, ◌≤◌}
use mathlib.Core.Option.{Option, none, some}
use mathlib.Core.List.{List, [], ◌∷◌, ◌++◌, append_assoc}
use lib.ListN.{length, take, replicate}
use lib.Seq.{length-take-le}
use Rattle.model.specs.Choice.{given}
use Rattle.model.specs.Reading.{byte, groups, num}
use Rattle.model.specs.Jobs.{Line}
use Rattle.requests.specs.Report.{cut_off, answers_in}
use Rattle.requests.proofs.Report.{one_answer_at_a_time}
use Rattle.text.specs.Placing.{Placed}
use Rattle.reports.specs.declared.division.Reading.TheVariants.{Between}
use Rattle.reports.specs.declared.totals.Sums.{Sums}
use Rattle.reports.specs.Dividing.{Waits, answers_from}
use Rattle.reports.specs.Totals.{codes, Totals, totals_of, no_totals, counted_all, totals_from, ended, reported}
use Rattle.reports.proofs.Settling.{totals_ended}
use Rattle.term_report.specs.declared.taking.Taken.{Taken}
use Rattle.term_report.specs.Taking.{Room, Takes, Stands, Reports, at_start, cut_with}
use Rattle.term_report.proofs.Takings.{room_again}

-- before the first byte
pub stands-first : {room counts : List ℕ} {here : Taken} → here ≡ at_start → counts ≡ replicate codes 0 → Stands here room counts
unfolding totals_from answers_from
stands-first e c = rw (e, c) (record { waits = tt; file = []; is = λ rest. refl })

-- a length of which the second group is 0 is malformed
malformed : (rest : List ℕ) → answers_in (128 ∷ 0 ∷ rest) ≡ none
unfolding num byte groups cut_off
malformed rest = one_answer_at_a_time 128 (0 ∷ rest)

pub stands-cut : {room counts : List ℕ} {s : Sums} {r : Taken} → r ≡ cut_with s → Stands r room counts
unfolding totals_from answers_from
stands-cut e = rw e (record { waits = tt; file = 128 ∷ 0 ∷ []; is = λ rest. ap (λ (o : Option (List Line)). given o (λ l. some (counted_all l no_totals))) (malformed rest) })

module _ {here : Taken} {room counts : List ℕ} (s : Stands here room counts) where
  pub stands-waits : Waits here.reading
  stands-waits = s.waits

  pub stands-behind : {bytes room' counts' : List ℕ} {there : Taken} → Takes bytes here room counts there room' counts' → Stands there room' counts'
  stands-behind {bytes} t =
      record {
        waits = t.waits;
        file = s.file ++ bytes;
        is = λ rest. ap (totals_from Between [] no_totals) (append_assoc s.file bytes rest) ∙ s.is (bytes ++ rest) ∙ t.is rest;
      }

  pub stands-reported : {page page' : List ℕ} {n : ℕ} → Placed page 0 (reported (ended here.reading (totals_of here.sums counts))) page' n → Reports page page' n
  stands-reported {page} {page'} {n} w =
      record {
        file = s.file ++ [];
        is = subst (λ (o : Option Totals). Placed page 0 (reported o) page' n)
            (sym (s.is [] ∙ totals_ended here.reading room (totals_of here.sums counts) s.waits)) w;
      }

-- ---- the loop: the slices are as long as they were

pub record Going (room₀ counts₀ table₀ out₀ : List ℕ) (here : Taken) (room counts table out : List ℕ) : Type 0 where
  pub stands : Stands here room counts
  pub lent : Room room counts table out
  pub room-long : length room ≡ length room₀
  pub counts-long : length counts ≡ length counts₀
  pub table-long : length table ≡ length table₀
  pub out-long : length out ≡ length out₀

pub going_first : {room counts table out : List ℕ} {here : Taken} → here ≡ at_start → counts ≡ replicate codes 0 → Room room counts table out
    → Going room counts table out here room counts table out
going_first e c r = record { stands = stands-first e c; lent = r; room-long = refl; counts-long = refl; table-long = refl; out-long = refl }

module _ {room₀ counts₀ table₀ out₀ : List ℕ} {here : Taken} {room counts table out : List ℕ} (g : Going room₀ counts₀ table₀ out₀ here room counts table out) where
  pub going_stands : Stands here room counts
  going_stands = g.stands

  pub going_lent : Room room counts table out
  going_lent = g.lent

  pub going_on : {there : Taken} {room' counts' table' out' : List ℕ} → Stands there room' counts' → length room' ≡ length room → length counts' ≡ length counts
      → length table' ≡ length table → length out' ≡ length out → Going room₀ counts₀ table₀ out₀ there room' counts' table' out'
  going_on s a b c d =
      record {
        stands = s;
        lent = room_again g.lent a b c d;
        room-long = a ∙ g.room-long;
        counts-long = b ∙ g.counts-long;
        table-long = c ∙ g.table-long;
        out-long = d ∙ g.out-long;
      }

-- the part of the page that is printed
pub page_part : (page : List ℕ) (n : ℕ) → n ≤ length page → n ≡ length (take n page)
page_part page n h = sym (length-take-le n page h)

pub ruleset file_laws = (stands-first, stands-cut, stands-waits, stands-behind, stands-reported, going_first, going_stands, going_lent, going_on, page_part)
