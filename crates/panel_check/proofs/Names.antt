-- The names listed: one law for each way out.
use Prim.Native.Nat.{ℕ, ◌≤◌, ◌<◌}
use mathlib.Core.Path.{◌≡◌, sym, ap, ◌∙◌, subst}
use mathlib.Core.List.{List, ◌++◌}
use native.Mathlib.Omega.{arith}
use native.Mathlib.Nat.{min-le_right}
use lib.ListN.{length, take, drop, replicate, length-take, length-replicate}
use Rattle.std.specs.Prelude.{Result, Ok, Err}
use lib.Seq.{length-take-le}
use borrow.Author.Tests.{le-leb, lt-leb}
use Rattle.requests.specs.Panel.{PanelEnding, refused, panel_of, room_for, panel_answer, bits_after}
use Rattle.refusals.specs.declared.Refusal.TheVariants.{TooLong}
use Rattle.bits.specs.Meeting.{room}
use Rattle.panel_check.specs.declared.Program.{Program}
use Rattle.panel_check.specs.declared.refusal.PanelRefusal.{PanelRefusal}
use Rattle.panel_check.specs.declared.refusal.PanelRefusal.TheVariants.{Base}
use Rattle.panel_check.specs.Refusing.{panel_refusal_of}
use Rattle.panel_check.specs.Checking.{ending_in, Checks, Ends, ListsFrom, Lists}

-- ---- the words copied

pub names-listed : (names bits : List ℕ) (count : ℕ) → count ≤ length names → count ≤ room → count ≤ length bits → ListsFrom names count bits (take count names ++ drop count bits) (Ok count)
unfolding room_for panel_answer bits_after
names-listed names bits count k few m =
    let n : length (take count names) ≡ count = length-take-le count names k in
    record {
      few = λ x e. (let z : count ≡ x = cc in omega arith);
      answer = rw (n, le-leb count (length bits) m, n);
      left = rw (n, le-leb count (length bits) m, n);
    }

pub names_too_long : (names bits : List ℕ) (count : ℕ) → count ≤ length names → length bits < count → ListsFrom names count bits bits (Err (Base TooLong))
unfolding room_for panel_answer bits_after
names_too_long names bits count k h =
    let n : length (take count names) ≡ count = length-take-le count names k in
    record {
      few = λ x e. (let z : ◌≡◌ {A = ℕ} 0 1 = cc in absurd (omega arith));
      answer = rw (n, lt-leb count (length bits) h);
      left = rw (n, lt-leb count (length bits) h);
    }

-- ---- behind the check

module _ {image marks names : List ℕ} {k : Result Program PanelRefusal} (h : Checks image marks names k) where
  pub check_listed : {q : Program} {bits bits' : List ℕ} {r : Result ℕ PanelRefusal} → k ≡ Ok q → ListsFrom names q.bits bits bits' r → Lists image bits bits' r
  check_listed {q} {bits} {bits'} {r} e l = subst (λ (z : PanelEnding). Ends (room_for (length bits) z) bits bits' r) (sym (h.is ∙ ap (ending_in names) e)) l

  pub check_refused : {f : PanelRefusal} {bits : List ℕ} → k ≡ Err f → Lists image bits bits (Err f)
  unfolding room_for panel_answer bits_after
  check_refused {f} {bits} e =
      let p : panel_of image ≡ refused (panel_refusal_of f) = h.is ∙ ap (ending_in names) e in
      record {
        few = λ x e. (let z : ◌≡◌ {A = ℕ} 0 1 = cc in absurd (omega arith));
        answer = rw p;
        left = rw p;
      }

  pub bits-few : {q : Program} → k ≡ Ok q → q.bits ≤ room
  bits-few {q} e = (h.passes q e).few

  pub bits-named : {q : Program} → k ≡ Ok q → q.bits ≤ length names
  bits-named {q} e =
      let p = h.passes q e in
      let c : length (take q.bits names) ≡ q.bits = ap length p.named ∙ sym p.counted in
      subst (λ (z : ℕ). z ≤ length names) (sym (length-take q.bits names) ∙ c) (min-le_right q.bits (length names))

-- ---- room for the names

pub names-long : room ≤ length (replicate {A = ℕ} 256 0)
names-long = let e : length (replicate {A = ℕ} 256 0) ≡ 256 = length-replicate {A = ℕ} 256 0 in omega arith
