-- One scan: the changes taken, and the code run.
use mathlib.Core.Path.{◌≡◌, sym, ap, ◌∙◌, subst}
use Prim.Native.Nat.{ℕ, ◌-◌, ◌<◌}
use native.Mathlib.Omega.{arith}
use mathlib.Core.List.{List, [], ◌∷◌}
use lib.ListN.{length, drop}
use Rattle.model.specs.Trees.{Tree, var}
use Rattle.model.specs.Reading.{got}
use Rattle.codec_laws.proofs.NumberTrip.{got-value, got-rest}
use Rattle.requests.specs.Recording.{Change, read_scan}
use Rattle.requests.specs.Scanning.{State, changed, change, work, scan, scans}
use Rattle.requests.specs.Binary.{BinaryState}
use Rattle.requests.proofs.Binary.{BinaryChanges, scans-binary}
use Rattle.numbers.specs.Answers.{kept}
use Rattle.numbers.specs.declared.Cursor.{Cursor}
use Rattle.bits.specs.Meeting.{last_mark}
use Rattle.recordings.specs.Taking.{Taken}
use Rattle.ladder.specs.Code.{Instruction}
use Rattle.ladder.specs.Running.{Running, begun, run}
use Rattle.ladder.specs.Places.{Ready, after_code}
use Rattle.ladder.proofs.Programs.{program_runs}
use Rattle.scan_runner.specs.Stepping.{Scannable, CodeOf, Scanned}
use Rattle.scan_runner.proofs.Reading.{scan-binary}

-- values stay 0 or 1 whatever the changes, and whatever the program
change-keeps : (l : List Change) (s : State) → BinaryChanges l → BinaryState s → BinaryState (change l s)
unfolding scans scan work
change-keeps l s b h = scans-binary (var 0) (l ∷ []) s (b, tt) h

pub scan-keeps : (t : Tree) (l : List Change) (s : State) → BinaryChanges l → BinaryState s → BinaryState (scan t l s)
unfolding scans
scan-keeps t l s b h = scans-binary t (l ∷ []) s (b, tt) h

-- the code of a program does its work
after-code : (t : Tree) {code : List ℕ} → CodeOf t code → (points bits : List ℕ) → BinaryState (record { points = points; bits = bits })
    → after_code code points bits ≡ work [] 0 t (record { points = points; bits = bits })
after-code t c points bits h =
    ap (λ (l : List Instruction). (run l (begun (record { points = points; bits = bits }))).state) c.code_is
    ∙ ap (λ (x : Running). x.state) (program_runs t c.program [] 0 (record { points = points; bits = bits }) h [])

module _ {at : ℕ} {s code points bits : List ℕ} (h : Scannable at s code points bits) where
  pub points-room : last_mark < length points
  points-room = let r = h.ready.points-room in omega arith

  module _ {points₁ : List ℕ} {r : Cursor} (t : Taken (read_scan s) points at s points₁ r) where
    module _ (l : List Change) (rest : List ℕ) (e : read_scan s ≡ got l rest) where
      same : got (changed l points) rest ≡ got points₁ (drop (r.at - at) s)
      same = sym (ap (kept (λ (q : List Change). changed q points)) e) ∙ t.is

      taken_is : changed l points ≡ points₁
      taken_is = got-value (changed l points) points₁ rest (drop (r.at - at) s) same

      taken-binary : BinaryState (record { points = points₁; bits = bits })
      unfolding change
      taken-binary =
          subst (λ (p : List ℕ). BinaryState (record { points = p; bits = bits })) taken_is
          (change-keeps l (record { points = points; bits = bits }) (scan-binary s rest l e) (record { points = h.ready.points-binary; bits = h.ready.bits-binary }))

    pub ready_then : length points₁ ≡ length points → Ready code points₁ bits
    ready_then k =
        let q = h.readable in
        let b = taken-binary q.changes q.rest q.is in
        record {
          points-room = let y = h.ready.points-room in omega arith;
          points-binary = b.points;
          bits-binary = b.bits;
          fits = h.ready.fits;
        }

    module _ {points' bits' : List ℕ} (p : points' ≡ (after_code code points₁ bits).points) (b : bits' ≡ (after_code code points₁ bits).bits) where
      after : record { points = points'; bits = bits' } ≡ after_code code points₁ bits
      after = λ i. record { points = p i; bits = b i }

      state-is : (t : Tree) → CodeOf t code → (l : List Change) (rest : List ℕ) → read_scan s ≡ got l rest
          → record { points = points'; bits = bits' } ≡ scan t l (record { points = points; bits = bits })
      unfolding scan change
      state-is u c l rest e =
          after
          ∙ after-code u c points₁ bits (taken-binary l rest e)
          ∙ ap (λ (z : List ℕ). work [] 0 u (record { points = z; bits = bits })) (sym (taken_is l rest e))

      pub scanned : Scanned at s code points bits points' bits' r
      scanned = record {
        moved = t.moved;
        within = t.within;
        behind = λ l rest e. got-rest (changed l points) points₁ rest (drop (r.at - at) s) (same l rest e);
        state-is = state-is;
        binary = λ u c.
            let q = h.readable in
            subst BinaryState (sym (state-is u c q.changes q.rest q.is))
            (scan-keeps u q.changes (record { points = points; bits = bits }) (scan-binary s q.rest q.changes q.is) (record { points = h.ready.points-binary; bits = h.ready.bits-binary }));
      }

pub ruleset step_laws = (points-room, ready_then, scanned)
