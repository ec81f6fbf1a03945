-- T-02: whatever the rungs, values stay 0 or 1.
use Prim.Native.Nat.{ℕ, zero, suc, ◌≤◌}
use native.Mathlib.Omega.{arith}
use mathlib.Core.List.{List, [], ◌∷◌}
use lib.ListN.{get_or, set, replicate}
use Rattle.model.specs.Limits.{last_point}
use Rattle.model.specs.Objects.{Atom, symbol, number, point, prim, rung}
use Rattle.model.specs.Trees.{Tree, var, app, fun, datum, lst, stx, Trees, tnil, tcons}
use Rattle.requests.specs.Panel as p
use Rattle.requests.specs.Panel.{Word, bit, and, or, out, all, free, head_word}
use Rattle.requests.specs.Recording.{Change}
use Rattle.requests.specs.Scanning.{State, at_start, starts, Bit, address_in, both, either, opposite, value_of_atom, all_of, any_of, value_by, value_of, values_of, value_of_first, write_point, write_bit, drive, assign, out_rung, set_rung, work, changed, change, scan, scans}
pub use Rattle.requests.specs.Binary.{Binary, BinaryState}
use Rattle.requests.proofs.Rungs.{work-keeps}

pub binary-at : (l : List ℕ) → Binary l → (i : ℕ) → get_or l i 0 ≤ 1
binary-at [] h i = omega arith
binary-at (v ∷ l) h zero = h.0
binary-at (v ∷ l) h (suc i) = binary-at l h.1 i

pub binary-set : (l : List ℕ) → Binary l → (i v : ℕ) → v ≤ 1 → Binary (set l i v)
binary-set [] h i v q = tt
binary-set (x ∷ l) h zero v q = (q, h.1)
binary-set (x ∷ l) h (suc i) v q = (h.0, binary-set l h.1 i v q)

pub both-binary : (a b : ℕ) → b ≤ 1 → both a b ≤ 1
unfolding both
both-binary zero b h = omega arith
both-binary (suc a) b h = h

pub either-binary : (a b : ℕ) → b ≤ 1 → either a b ≤ 1
unfolding either
either-binary zero b h = h
either-binary (suc a) b h = omega arith

pub opposite-binary : (a : ℕ) → opposite a ≤ 1
unfolding opposite
opposite-binary zero = omega arith
opposite-binary (suc a) = omega arith

all-binary : (l : List ℕ) → all_of l ≤ 1
unfolding all_of
all-binary [] = omega arith
all-binary (v ∷ l) = both-binary v (all_of l) (all-binary l)

any_binary : (l : List ℕ) → any_of l ≤ 1
unfolding any_of
any_binary [] = omega arith
any_binary (v ∷ l) = either-binary v (any_of l) (any_binary l)

by-binary : (w : Word) (l : List ℕ) → value_by w l ≤ 1
unfolding value_by
by-binary bit l = omega arith
by-binary and l = all-binary l
by-binary or l = any_binary l
by-binary p.not l = opposite-binary (any_of l)
by-binary out l = omega arith
by-binary p.set l = omega arith
by-binary all l = omega arith
by-binary free l = omega arith

atom-binary : (s : State) → BinaryState s → (a : Atom) → value_of_atom s a ≤ 1
unfolding value_of_atom
atom-binary s h (symbol x) = omega arith
atom-binary s h (number x) = omega arith
atom-binary s h (point x) = binary-at s.points h.points x
atom-binary s h (prim x) = omega arith
atom-binary s h (rung x) = omega arith

pub value-binary : (around : List Bit) (s : State) → BinaryState s → (t : Tree) → value_of around s t ≤ 1
unfolding value_of
value-binary around s h (var n) = binary-at s.bits h.bits (address_in around n)
value-binary around s h (app f l) = by-binary (head_word f) (values_of around s l)
value-binary around s h (fun n b) = omega arith
value-binary around s h (datum a) = atom-binary s h a
value-binary around s h (lst l) = omega arith
value-binary around s h (stx x) = omega arith

first-binary : (around : List Bit) (s : State) → BinaryState s → (l : Trees) → value_of_first around s l ≤ 1
unfolding value_of_first
first-binary around s h tnil = omega arith
first-binary around s h (tcons e l) = value-binary around s h e

point-binary : (x v : ℕ) (s : State) → v ≤ 1 → BinaryState s → BinaryState (write_point x v s)
unfolding write_point
point-binary x v s q h = record { points = binary-set s.points h.points x v q; bits = h.bits }

bit-binary : (a v : ℕ) (s : State) → v ≤ 1 → BinaryState s → BinaryState (write_bit a v s)
unfolding write_bit
bit-binary a v s q h = record { points = h.points; bits = binary-set s.bits h.bits a v q }

drive-binary : (q : Tree) (v : ℕ) (s : State) → v ≤ 1 → BinaryState s → BinaryState (drive q v s)
unfolding drive
drive-binary (var n) v s k h = h
drive-binary (app f l) v s k h = h
drive-binary (fun n b) v s k h = h
drive-binary (datum (symbol x)) v s k h = h
drive-binary (datum (number x)) v s k h = h
drive-binary (datum (point x)) v s k h = point-binary x v s k h
drive-binary (datum (prim x)) v s k h = h
drive-binary (datum (rung x)) v s k h = h
drive-binary (lst l) v s k h = h
drive-binary (stx x) v s k h = h

assign-binary : (around : List Bit) (q : Tree) (v : ℕ) (s : State) → v ≤ 1 → BinaryState s → BinaryState (assign around q v s)
unfolding assign
assign-binary around (var n) v s k h = bit-binary (address_in around n) v s k h
assign-binary around (app f l) v s k h = h
assign-binary around (fun n b) v s k h = h
assign-binary around (datum a) v s k h = h
assign-binary around (lst l) v s k h = h
assign-binary around (stx x) v s k h = h

out-binary : (around : List Bit) (l : Trees) (s : State) → BinaryState s → BinaryState (out_rung around l s)
unfolding out_rung
out-binary around tnil s h = h
out-binary around (tcons q l) s h = drive-binary q (value_of_first around s l) s (first-binary around s h l) h

set-binary : (around : List Bit) (l : Trees) (s : State) → BinaryState s → BinaryState (set_rung around l s)
unfolding set_rung
set-binary around tnil s h = h
set-binary around (tcons q l) s h = assign-binary around q (value_of_first around s l) s (first-binary around s h l) h

pub work-binary : (around : List Bit) (next : ℕ) (t : Tree) (s : State) → BinaryState s → BinaryState (work around next t s)
work-binary around next t s h = work-keeps BinaryState out-binary set-binary around next t s h

abbrev pub BinaryChanges : List Change → Type 0
BinaryChanges [] = Unit {0}
BinaryChanges (c ∷ l) = (c.value ≤ 1) × BinaryChanges l

abbrev pub BinaryScans : List (List Change) → Type 0
BinaryScans [] = Unit {0}
BinaryScans (c ∷ l) = BinaryChanges c × BinaryScans l

changed-binary : (c : List Change) (points : List ℕ) → BinaryChanges c → Binary points → Binary (changed c points)
unfolding changed
changed-binary [] points k h = h
changed-binary (c ∷ l) points k h = changed-binary l (set points c.place c.value) k.1 (binary-set points h c.place c.value k.0)

pub change-binary : (c : List Change) (s : State) → BinaryChanges c → BinaryState s → BinaryState (change c s)
unfolding change
change-binary c s k h = record { points = changed-binary c s.points k h.points; bits = h.bits }

pub scan-binary : (t : Tree) (c : List Change) (s : State) → BinaryChanges c → BinaryState s → BinaryState (scan t c s)
unfolding scan
scan-binary t c s k h = work-binary [] 0 t (change c s) (change-binary c s k h)

pub scans-binary : (t : Tree) (r : List (List Change)) (s : State) → BinaryScans r → BinaryState s → BinaryState (scans t r s)
unfolding scans
scans-binary t [] s k h = h
scans-binary t (c ∷ r) s k h = scans-binary t r (scan t c s) k.1 (scan-binary t c s k.0 h)

pub starts_binary_of : (t : Tree) → Binary (starts t) → BinaryState (at_start t)
unfolding at_start last_point
starts_binary_of t h = record { points = zeros 1024; bits = h }
  where
    zeros : (n : ℕ) → Binary (replicate n 0)
    zeros zero = tt
    zeros (suc n) = (omega arith, zeros n)
