-- The loop that prints a line after each scan: every line has room.
use mathlib.Core.Path.{◌≡◌, refl, sym, ◌∙◌, subst}
use Prim.Native.Nat.{ℕ, suc, ◌+◌, ◌-◌, ◌≤◌, ◌<◌}
use native.Mathlib.Omega.{arith}
use native.Mathlib.Numerals.{add-one}
use mathlib.Core.List.{List, [], ◌∷◌}
use lib.ListN.{length, drop, take, replicate, length-replicate}
use lib.Seq.{length-take-le}
use Rattle.text.specs.Placing.{Placed}
use Rattle.text.proofs.Placing.{placed-length}
use Rattle.text.proofs.Decimal.{few-digits}
use Rattle.numbers.specs.declared.Cursor.{Cursor}
use Rattle.bits.specs.Meeting as meeting
use Rattle.scan_lines.specs.Lines.{Points, Lists, line_of}
use Rattle.scan_lines.specs.Lengths.{most_fixed, number_length, places_length, fixed_length}
use Rattle.scan_lines.proofs.Counting.{fixed_few}
use Rattle.scan_lines.proofs.Texts.{line_of_length}
use Rattle.scan_runner.specs.declared.preparation.Prepared.{Prepared}
use Rattle.scan_runner.specs.Stepping.{Scannable, Scanned}
use Rattle.scan_runner.specs.Running.{Due, Standing}
use Rattle.scan_runner.proofs.Looping.{Next, due_scannable, due-next}
use Rattle.bits.proofs.Gathering.{no-marks}
use Rattle.panel_check.proofs.Names.{names-long}
use Rattle.scan_runner.proofs.Ending.{due-first, code-room, places_room, words-within, bits-within, words-taken, bits-taken, places_taken}
use Rattle.scan.specs.Printing.{most_line, Printable}

number_small : (k : ℕ) → number_length k ≤ 10
unfolding number_length
number_small k = few-digits 10 k

-- ---- the loop

pub record Waiting (recording : List ℕ) (scans : ℕ) (code places points₀ bits₀ line₀ : List ℕ) (here done : ℕ) (points bits line : List ℕ) : Type 0 where
  pub left : ℕ
  pub sum : left + done ≡ scans
  pub text : List ℕ
  pub due : Due recording here left done code places points bits text
  pub small : suc (places_length places) ≤ most_fixed
  pub room : most_line ≤ length line
  pub points-long : length points ≡ length points₀
  pub bits-long : length bits ≡ length bits₀
  pub line_long : length line ≡ length line₀

pub waiting_start : {recording : List ℕ} {first scans : ℕ} {code places points bits line : List ℕ} → Printable recording first scans code places points bits line
    → Waiting recording scans code places points bits line first 0 points bits line
waiting_start {scans = scans} q = record {
  left = scans;
  sum = omega arith;
  text = q.text;
  due = q.due;
  small = q.small;
  room = q.room;
  points-long = refl;
  bits-long = refl;
  line_long = refl;
}

module _ {recording : List ℕ} {scans : ℕ} {code places points₀ bits₀ line₀ : List ℕ} {here done : ℕ} {points bits line : List ℕ}
    (w : Waiting recording scans code places points₀ bits₀ line₀ here done points bits line) where
  pub here-within : here ≤ 0 + length recording
  here-within = let d = w.due.within in omega arith

  pub points-listed : Points places
  points-listed = w.due.points-listed

  module _ (some : done < scans) where
    due_now : Due recording here (suc (w.left - 1)) done code places points bits w.text
    due_now =
        let s = w.sum in
        let e : w.left ≡ suc (w.left - 1) = omega arith in
        subst (λ (n : ℕ). Due recording here n done code places points bits w.text) e w.due

    module _ {s : List ℕ} (i : s ≡ drop (here - 0) recording) where
      pub waiting_scannable : Scannable here s code points bits
      waiting_scannable = due_scannable due_now i

      module _ {points' bits' : List ℕ} {r : Cursor} (z : Scanned here s code points bits points' bits' r) (k : length points' ≡ length points) (l : length bits' ≡ length bits) where
        next : Next recording (w.left - 1) done code places points' bits' w.text r.at
        next = due-next due_now i z k l

        pub all-values : meeting.points ≤ length points'
        all-values = let y = w.due.ready.points-room in omega arith

        pub line_room : 0 + length (line_of places (done + 1) points') ≤ length line
        line_room =
            let e = line_of_length places (done + 1) points' next.due.ready.points-binary in
            let n = number_small (done + 1) in
            let f = w.small in
            let y = w.room in
            omega arith

        module _ {line' : List ℕ} {p : ℕ} (a : Placed line 0 (line_of places (done + 1) points') line' p) where
          pub end-within : p ≤ length line'
          end-within = let e = a.ends in let q = placed-length a in let y = line_room in omega arith

          pub end-taken : length (take p line') ≡ p
          end-taken = length-take-le p line' end-within

          pub waiting_on : Waiting recording scans code places points₀ bits₀ line₀ r.at (done + 1) points' bits' line'
          waiting_on =
              let n = next in
              let q = placed-length a in
              rw (add-one done)
              (record {
                left = w.left - 1;
                sum = let s = w.sum in omega arith;
                text = n.rest;
                due = n.due;
                small = w.small;
                room = let y = w.room in omega arith;
                points-long = k ∙ w.points-long;
                bits-long = l ∙ w.bits-long;
                line_long = q ∙ w.line_long;
              })

pub ruleset print_laws = (waiting_start, here-within, points-listed, waiting_scannable, all-values, line_room, end-within, end-taken, waiting_on, placed-length)

-- ---- what was prepared

module _ {recording marks code points bits : List ℕ} {p : Prepared} (s : Standing recording marks code points bits p) where
  pub prepared_printable : {places line : List ℕ} {r : ℕ} → Lists marks places r → most_line ≤ length line
      → Printable recording p.first.at p.scans (take p.words code) (take r places) points (take p.bits bits) line
  unfolding fixed_length
  prepared_printable w h = record {
    text = s.text;
    due = due-first s.stands w s.points-are;
    small = subst (λ (l : List ℕ). suc (places_length l) ≤ most_fixed) (sym w.is) (fixed_few marks);
    room = h;
  }

-- ---- what is refused: `code ` and a number, and the line end

pub refusal_taken : {line line₁ line₂ word : List ℕ} {p q : ℕ} → most_line ≤ length line → Placed line 0 word line₁ p → p ≤ 0 + 5 + 10 → Placed line₁ p (10 ∷ []) line₂ q
    → length (take q line₂) ≡ q
refusal_taken {line₂ = line₂} {q = q} h a few b =
    let k = placed-length a in
    let l = placed-length b in
    let e = b.ends in
    let within : q ≤ length line₂ = omega arith in
    length-take-le q line₂ within

pub ruleset prepared_laws = (refusal_taken, prepared_printable, words-within, bits-within, words-taken, bits-taken, places_taken, places_room)

-- ---- room

pub line_roomy : most_line ≤ length (replicate {A = ℕ} 8203 0)
line_roomy = let e : length (replicate {A = ℕ} 8203 0) ≡ 8203 = length-replicate {A = ℕ} 8203 0 in omega arith

pub ruleset room_laws = (no-marks, names-long, code-room, line_roomy)
