-- What a word makes of the values, points and bits, by the tests that the code makes.
use Prim.Native.Nat.{ℕ, zero, suc, ◌+◌, ◌-◌, ◌*◌, ◌/◌, ◌%◌, ◌≤◌, ◌<◌}
use mathlib.Core.Path.{◌≡◌, ap, ◌∙◌}
use mathlib.Core.List.{List}
use native.Mathlib.Omega.{arith}
use lib.ListN.{length, get_or, set}
use borrow.Author.Tests.{eq-eqb, ne_eqb, lt-ltb, le-ltb}
use Rattle.requests.proofs.Binary.{binary-at}
use Rattle.ladder.specs.Code.{operands}
use Rattle.ladder.specs.Running.{instruction_by, instruction_of, Reaches}
use Rattle.ladder.specs.Places.{series_in, parallel_in, taken_in, inverse_in, operated_in, values_after, points_after, bits_after, Steady}

module _ (values v : ℕ) where
  pub series_off : v ≡ 0 → values - values % 2 ≡ series_in values v
  unfolding series_in
  series_off h = rw (eq-eqb v 0 h)

  pub series_on : (v ≡ 0 → ⊥) → values ≡ series_in values v
  unfolding series_in
  series_on h = rw (ne_eqb v 0 h)

  pub parallel_off : v ≡ 0 → values ≡ parallel_in values v
  unfolding parallel_in
  parallel_off h = rw (eq-eqb v 0 h)

  pub parallel_on : (v ≡ 0 → ⊥) → values - values % 2 + 1 ≡ parallel_in values v
  unfolding parallel_in
  parallel_on h = rw (ne_eqb v 0 h)

  module _ (join : ℕ) {r : ℕ} where
    pub taken-load : join ≡ 0 → r ≡ values * 2 + v → r ≡ taken_in join values v
    unfolding taken_in
    taken-load h e = rw (eq-eqb join 0 h) e

    pub taken-series : (join ≡ 0 → ⊥) → join ≡ 1 → r ≡ series_in values v → r ≡ taken_in join values v
    unfolding taken_in
    taken-series h k e = rw (ne_eqb join 0 h, eq-eqb join 1 k) e

    pub taken-parallel : (join ≡ 0 → ⊥) → (join ≡ 1 → ⊥) → r ≡ parallel_in values v → r ≡ taken_in join values v
    unfolding taken_in
    taken-parallel h k e = rw (ne_eqb join 0 h, ne_eqb join 1 k) e

module _ (values : ℕ) where
  pub inverse_off : values % 2 ≡ 0 → values + 1 ≡ inverse_in values
  unfolding inverse_in
  inverse_off h = rw (eq-eqb (values % 2) 0 h)

  pub inverse_on : (values % 2 ≡ 0 → ⊥) → values - 1 ≡ inverse_in values
  unfolding inverse_in
  inverse_on h = rw (ne_eqb (values % 2) 0 h)

module _ (what values : ℕ) {r : ℕ} where
  pub operated_inverse : what ≡ 8 → r ≡ inverse_in values → r ≡ operated_in what values
  unfolding operated_in
  operated_inverse h e = rw (eq-eqb what 8 h) e

  pub operated_join : {v : ℕ} → (what ≡ 8 → ⊥) → v ≡ values % 2 → r ≡ taken_in (what - 6 + 1) (values / 2) v → r ≡ operated_in what values
  unfolding operated_in
  operated_join h k e = rw (ne_eqb what 8 h) (e ∙ ap (taken_in (what - 6 + 1) (values / 2)) k)

pub contact-first : {what : ℕ} → what < 3 → what < 9
contact-first h = omega arith

pub bit_contact_first : {what : ℕ} → what < 6 → what < 9
bit_contact_first h = omega arith

module _ (what x values : ℕ) where
  module _ (points : List ℕ) where
    pub point-coil : {after : List ℕ} → what ≡ 9 → after ≡ set points x (values % 2) → after ≡ points_after what x points values
    unfolding points_after
    point-coil h e = rw (eq-eqb what 9 h) e

    pub no_point_coil : (what ≡ 9 → ⊥) → points ≡ points_after what x points values
    unfolding points_after
    no_point_coil h = rw (ne_eqb what 9 h)

    pub before_coils : what < 9 → points ≡ points_after what x points values
    before_coils h = no_point_coil (λ e. omega arith)

  module _ (bits : List ℕ) where
    pub bit-coil : {after : List ℕ} → what ≡ 10 → after ≡ set bits x (values % 2) → after ≡ bits_after what x bits values
    unfolding bits_after
    bit-coil h e = rw (eq-eqb what 10 h) e

    pub no_bit_coil : (what ≡ 10 → ⊥) → bits ≡ bits_after what x bits values
    unfolding bits_after
    no_bit_coil h = rw (ne_eqb what 10 h)

    pub at_point_coil : what ≡ 9 → bits ≡ bits_after what x bits values
    at_point_coil h = no_bit_coil (λ e. omega arith)

    pub before_bit_coils : what < 9 → bits ≡ bits_after what x bits values
    before_bit_coils h = no_bit_coil (λ e. omega arith)

module _ (what x : ℕ) (points bits : List ℕ) (values : ℕ) {r : ℕ} where
  pub by-contact : what < 3 → r ≡ taken_in what values (get_or points x 0) → r ≡ values_after what x points bits values
  unfolding values_after
  by-contact h e = rw (lt-ltb what 3 h) e

  pub by_bit_contact : 3 ≤ what → what < 6 → r ≡ taken_in (what - 3) values (get_or bits x 0) → r ≡ values_after what x points bits values
  unfolding values_after
  by_bit_contact h k e = rw (le-ltb what 3 h, lt-ltb what 6 k) e

  pub by_operation : 6 ≤ what → what < 9 → r ≡ operated_in what values → r ≡ values_after what x points bits values
  unfolding values_after
  by_operation h k e = rw (le-ltb what 3 (omega arith), le-ltb what 6 h, lt-ltb what 9 k) e

module _ (what x : ℕ) (points bits : List ℕ) (values : ℕ) where
  pub by_point_coil : what ≡ 9 → values / 2 ≡ values_after what x points bits values
  unfolding values_after
  by_point_coil h = rw h

  pub by_bit_coil : what ≡ 10 → values / 2 ≡ values_after what x points bits values
  unfolding values_after
  by_bit_coil h = rw h

  pub by-none : 9 ≤ what → (what ≡ 9 → ⊥) → (what ≡ 10 → ⊥) → values ≡ values_after what x points bits values
  unfolding values_after
  by-none h i k =
      let m : 11 ≤ what = omega arith in
      rw (le-ltb what 3 (omega arith), le-ltb what 6 (omega arith), le-ltb what 9 h, le-ltb what 11 m)

pub written : (l : List ℕ) (x : ℕ) {v w : ℕ} → v ≡ w → set l x v ≡ set l x w
written l x e = ap (set l x) e

-- ---- what a word reaches

contact_in : (what x n : ℕ) → 3 ≤ what → what < 6 → Reaches n (instruction_by what x) → x < n
unfolding instruction_by
contact_in zero x n h k f = absurd (omega arith)
contact_in (suc zero) x n h k f = absurd (omega arith)
contact_in (suc (suc zero)) x n h k f = absurd (omega arith)
contact_in (suc (suc (suc zero))) x n h k f = f
contact_in (suc (suc (suc (suc zero)))) x n h k f = f
contact_in (suc (suc (suc (suc (suc zero))))) x n h k f = f
contact_in (suc (suc (suc (suc (suc (suc what)))))) x n h k f = absurd (omega arith)

coil_in : (what x n : ℕ) → what ≡ 10 → Reaches n (instruction_by what x) → x < n
unfolding instruction_by
coil_in what x n e f = rw e at f

module _ {word : ℕ} {points bits : List ℕ} {values : ℕ} (s : Steady word points bits values) where
  pub reaches-contact : 3 ≤ word / operands → word / operands < 6 → word % operands < length bits
  unfolding instruction_of
  reaches-contact h k = contact_in (word / operands) (word % operands) (length bits) h k s.reaches

  pub reaches-coil : word / operands ≡ 10 → word % operands < length bits
  unfolding instruction_of
  reaches-coil e = coil_in (word / operands) (word % operands) (length bits) e s.reaches

  pub point-small : (x : ℕ) → get_or points x 0 ≤ 1
  point-small x = binary-at points s.points-binary x

  pub bit-small : (x : ℕ) → get_or bits x 0 ≤ 1
  bit-small x = binary-at bits s.bits-binary x

pub ruleset join_laws = (series_off, series_on, parallel_off, parallel_on, taken-load, taken-series, taken-parallel, inverse_off, inverse_on, operated_inverse, operated_join)
