-- A part of a buffer is no longer than the buffer, and its front is as long as is asked for.
use Prim.Native.Nat.{ℕ, ◌+◌, ◌*◌, ◌/◌, ◌≤◌}
use mathlib.Core.Path.{◌≡◌, sym, ap, ◌∙◌}
use mathlib.Core.List.{List}
use native.Mathlib.Omega.{arith}
use lib.ListN.{length, take, length-append, take-append-drop}
use lib.Seq.{length-take-le}

pub part-within : (n : ℕ) (l : List ℕ) (most : ℕ) → length l ≤ most → length (take n l) ≤ most
part-within n l most h =
    let e = simp length-append at (ap length (take-append-drop n l)) in
    omega arith

pub front_long : (n : ℕ) (l : List ℕ) → n ≤ length l → n ≡ length (take n l)
front_long n l h = sym (length-take-le n l h)

pub front-few : (n : ℕ) (l : List ℕ) (most : ℕ) → n ≤ length l → n ≤ most → length (take n l) ≤ most
front-few n l most h k = let e = length-take-le n l h in omega arith

pub front-holds : (k n : ℕ) (l : List ℕ) → k ≤ n → n ≤ length l → k ≤ length (take n l)
front-holds k n l h i = let e = length-take-le n l i in omega arith

pub front-words : (n : ℕ) (l : List ℕ) {words : ℕ} → words ≡ n / 4 → n ≤ length l → words ≡ length (take n l) / 4
front-words n l e h = e ∙ ap (λ (k : ℕ). k / 4) (front_long n l h)

-- a line of a call that starts in time fits on the page
pub line_room : (start bytes split : ℕ) → start ≤ 65536 → bytes ≤ 70000 → split ≤ 70000 → start + bytes * 2 + split * 2 + 91 ≤ 345627
line_room start bytes split h i j = omega arith
