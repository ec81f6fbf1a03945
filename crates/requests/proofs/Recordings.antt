-- T-02: every change of a recording that is read has a point that there is, and value 0 or 1; so all values of its scans are 0 or 1.
use mathlib.Core.Path.{◌≡◌, subst}
use Prim.Native.Nat.{ℕ, zero, suc, ◌≤◌}
use mathlib.Core.Bool.{true}
use mathlib.Core.List.{List, [], ◌∷◌}
use lib.Dec.{leb}
use borrow.Author.Tests.{leb-true}
use Rattle.model.specs.Limits.{last_point}
use Rattle.model.specs.Refusals.{layout}
use Rattle.model.specs.Trees.{Tree}
use Rattle.model.specs.Reading.{got, need, num, num_up_to, at_end}
use Rattle.codec_laws.proofs.NumberTrip.{got-value}
use Rattle.codec_laws.proofs.Sequence.{next-got, need-got}
use Rattle.requests.specs.Panel.{is_program}
use Rattle.requests.specs.Recording.{Change, read_place, read_change, read_changes, read_scan, read_scans, read_to_end, read_recording}
use Rattle.requests.specs.Scanning.{at_start, scans}
use Rattle.requests.proofs.Binary.{BinaryChanges, BinaryScans, BinaryState, scans-binary}
use Rattle.requests.proofs.Starts.{starts-binary}

up_to-small : (m : ℕ) (s rest : List ℕ) (v : ℕ) → num_up_to layout m s ≡ got v rest → v ≤ m
unfolding num_up_to
up_to-small m s rest v e =
    let a = next-got (num s) _ v rest e in
    let b = next-got (need layout (leb a.0 m) a.1) _ v rest a.3 in
    subst (λ (n : ℕ). n ≤ m) (got-value a.0 v b.1 rest b.3) (leb-true a.0 m (need-got layout (leb a.0 m) b.0 a.1 b.1 b.2).0)

place-small : (least : ℕ) (s rest : List ℕ) (x : ℕ) → read_place least s ≡ got x rest → x ≤ last_point
unfolding read_place
place-small least s rest x e =
    let a = next-got (num_up_to layout last_point s) _ x rest e in
    let b = next-got (need layout (leb least a.0) a.1) _ x rest a.3 in
    subst (λ (n : ℕ). n ≤ last_point) (got-value a.0 x b.1 rest b.3) (up_to-small last_point s a.1 a.0 a.2)

pub change-fits : (least : ℕ) (s rest : List ℕ) (q : Change) → read_change least s ≡ got q rest → (q.place ≤ last_point) × (q.value ≤ 1)
unfolding read_change
change-fits least s rest q e =
    let a = next-got (read_place least s) _ q rest e in
    let b = next-got (num_up_to layout 1 a.1) _ q rest a.3 in
    subst (λ (c : Change). (c.place ≤ last_point) × (c.value ≤ 1)) (got-value (record { place = a.0; value = b.0 }) q b.1 rest b.3)
    (place-small least s a.1 a.0 a.2, up_to-small 1 a.1 b.1 b.0 b.2)

changes-binary : (c least : ℕ) (s rest : List ℕ) (r : List Change) → read_changes c least s ≡ got r rest → BinaryChanges r
unfolding read_changes
changes-binary zero least s rest r e = subst BinaryChanges (got-value [] r s rest e) tt
changes-binary (suc c) least s rest r e =
    let a = next-got (read_change least s) _ r rest e in
    let b = next-got (read_changes c (suc a.0.place) a.1) _ r rest a.3 in
    subst BinaryChanges (got-value (a.0 ∷ b.0) r b.1 rest b.3)
    ((change-fits least s a.1 a.0 a.2).1, changes-binary c (suc a.0.place) a.1 b.1 b.0 b.2)

scan_read_binary : (s rest : List ℕ) (r : List Change) → read_scan s ≡ got r rest → BinaryChanges r
unfolding read_scan
scan_read_binary s rest r e = let a = next-got (num s) _ r rest e in changes-binary a.0 0 a.1 rest r a.3

scans_read_binary : (n : ℕ) (s rest : List ℕ) (r : List (List Change)) → read_scans n s ≡ got r rest → BinaryScans r
unfolding read_scans
scans_read_binary zero s rest r e = subst BinaryScans (got-value [] r s rest e) tt
scans_read_binary (suc n) s rest r e =
    let a = next-got (read_scan s) _ r rest e in
    let b = next-got (read_scans n a.1) _ r rest a.3 in
    subst BinaryScans (got-value (a.0 ∷ b.0) r b.1 rest b.3)
    (scan_read_binary s a.1 a.0 a.2, scans_read_binary n a.1 b.1 b.0 b.2)

pub recording_binary : (s rest : List ℕ) (r : List (List Change)) → read_recording s ≡ got r rest → BinaryScans r
unfolding read_recording read_to_end
recording_binary s rest r e =
    let a = next-got (num s) _ r rest e in
    let b = next-got (read_scans a.0 a.1) _ r rest a.3 in
    let d = next-got (at_end b.1) _ r rest b.3 in
    subst BinaryScans (got-value b.0 r d.1 rest d.3) (scans_read_binary a.0 a.1 b.1 b.0 b.2)

-- after any number of scans of a program
pub values-binary : (t : Tree) → is_program t ≡ true → (s rest : List ℕ) (r : List (List Change)) → read_recording s ≡ got r rest → BinaryState (scans t r (at_start t))
values-binary t q s rest r e = scans-binary t r (at_start t) (recording_binary s rest r e) (starts-binary t q)
