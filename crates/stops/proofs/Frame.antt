-- Stops stay as they are where the table grows.
use mathlib.Core.Path.{◌≡◌, ap, ◌∙◌}
use mathlib.Core.List.{List}
use Prim.Native.Nat.{ℕ, ◌+◌, ◌/◌, ◌%◌, ◌^◌, ◌≤◌, ◌<◌}
use native.Mathlib.Omega.{arith}
use lib.Dec.{eqb}
use Rattle.table.specs.Words.{Same}
use Rattle.stops.specs.Stops.{stops_size, stop_digits, stop_names, bit_of, Bits, RepZ, no-stops, some-stops}

pub bit-same : {n : ℕ} (l l' : List ℕ) (z k : ℕ) → Same n l l' → z + stops_size ≤ n → k < stop_names → bit_of l' z k ≡ bit_of l z k
unfolding bit_of Same
bit-same l l' z k s h g = ap (λ (w : ℕ). eqb (w / 2 ^ (k % stop_digits) % 2) 1) (s (z + k / stop_digits) (omega arith))

pub bits_stay : {n z : ℕ} {l l' zs : List ℕ} → Bits l z zs → Same n l l' → z + stops_size ≤ n → Bits l' z zs
bits_stay {z = z} {l = l} {l' = l'} b s h = record { small = b.small; told = λ k g. bit-same l l' z k s h g ∙ b.told k g }

pub up_z : {l zs : List ℕ} {n k z : ℕ} → RepZ l n z zs → n ≤ k → RepZ l k z zs
up_z no-stops h = no-stops
up_z {k = k} {z = z} (some-stops a b r) h = let fits : z + stops_size ≤ k = omega arith in some-stops a fits r

pub stays_z : {l l' zs : List ℕ} {n z : ℕ} → RepZ l n z zs → Same n l l' → RepZ l' n z zs
stays_z no-stops s = no-stops
stays_z (some-stops a b r) s = some-stops a b (bits_stay r s b)

pub carry_z : {l l' zs : List ℕ} {n k z : ℕ} → RepZ l n z zs → Same n l l' → n ≤ k → RepZ l' k z zs
carry_z r s h = up_z (stays_z r s) h
