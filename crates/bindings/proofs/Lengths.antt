-- Bindings written one behind the other.
use mathlib.Core.Path.{◌≡◌, refl, sym, ap, ap₂, ◌∙◌}
use mathlib.Core.List.{List, [], ◌++◌}
use Prim.Native.Nat.{ℕ, ◌+◌, ◌-◌, ◌*◌, ◌≤◌, ◌<◌}
use native.Mathlib.Omega.{arith}
use lib.ListN.{length, length-append}
use lib.Seq.{sets}
use Rattle.store.specs.Sizes.{most_bindings}
use Rattle.bindings.specs.Lengths.{longest_binding, longest_bindings}
use Rattle.sets.specs.Writing.{longest_set}
use Rattle.model.specs.Scopes.{Scopes}
use Rattle.model.specs.Resolving.{Bind}
use Rattle.model.specs.Writing.{num_bytes, set_bytes, bind_bytes, binds_bytes}
use Rattle.numbers.proofs.Writing.{sets_append, num-short}
use Rattle.store.specs.Words.{bind_at, binds_from, binds_of}
use Rattle.store.proofs.Runs.{run_step, run_end}

-- ---- one binding: symbol, target, set

module _ (x t : ℕ) (s : Scopes) where
  abbrev it : Bind
  it = record { symb = x; target = t; set = s }

  in_turn : bind_bytes it ≡ (num_bytes x ++ num_bytes t) ++ set_bytes s
  unfolding bind_bytes
  in_turn = refl

  pub bind-length : length (bind_bytes it) ≡ length (num_bytes x) + length (num_bytes t) + length (set_bytes s)
  bind-length =
      let a : length (bind_bytes it) ≡ length (num_bytes x ++ num_bytes t) + length (set_bytes s) = ap length in_turn ∙ length-append (num_bytes x ++ num_bytes t) (set_bytes s) in
      omega (arith, length-append (num_bytes x) (num_bytes t))

  pub len_is : {a b c : ℕ} → a ≡ length (num_bytes x) → b ≡ length (num_bytes t) → c ≡ length (set_bytes s) → a + b + c ≡ length (bind_bytes it)
  len_is p q r = omega (arith, bind-length)

  pub len-small : {a b c : ℕ} → a ≡ length (num_bytes x) → b ≡ length (num_bytes t) → c ≤ longest_set → a + b + c ≤ longest_binding
  len-small p q r = omega (arith, num-short x, num-short t)

  pub len-fits : {a b c : ℕ} → a ≡ length (num_bytes x) → b ≡ length (num_bytes t) → c ≤ longest_set → a + b + c < 18446744073709551616
  len-fits p q r = omega (arith, num-short x, num-short t)

  pub len_fits_two : {a b : ℕ} → a ≡ length (num_bytes x) → b ≡ length (num_bytes t) → a + b < 18446744073709551616
  len_fits_two p q = omega (arith, num-short x, num-short t)

  module _ (out : List ℕ) (at : ℕ) where
    pub first-room : at + length (bind_bytes it) ≤ length out → at + length (num_bytes x) ≤ length out
    first-room h = omega (arith, bind-length)

    module _ {second : ℕ} (p : second ≡ at + length (num_bytes x)) where
      pub second-room : (out1 : List ℕ) → length out1 ≡ length out → at + length (bind_bytes it) ≤ length out → second + length (num_bytes t) ≤ length out1
      second-room out1 e h = omega (arith, bind-length)

      module _ {third : ℕ} (q : third ≡ second + length (num_bytes t)) where
        pub third-room : (out1 out2 : List ℕ) → length out2 ≡ length out1 → length out1 ≡ length out → at + length (bind_bytes it) ≤ length out
            → third + length (set_bytes s) ≤ length out2
        third-room out1 out2 e f h = omega (arith, bind-length)

        pub past_is : {r : ℕ} → r ≡ third + length (set_bytes s) → r ≡ at + length (bind_bytes it)
        past_is e = omega (arith, bind-length)

        pub bytes-are : {out1 out2 out3 : List ℕ} → out1 ≡ sets out at (num_bytes x) → out2 ≡ sets out1 second (num_bytes t) → out3 ≡ sets out2 third (set_bytes s)
            → out3 ≡ sets out at (bind_bytes it)
        bytes-are {out1} {out2} {out3} e f g =
            let two : out2 ≡ sets out at (num_bytes x ++ num_bytes t) =
            f ∙ ap₂ (λ (o : List ℕ) (k : ℕ). sets o k (num_bytes t)) e p ∙ sets_append (num_bytes x) (num_bytes t) out at in
            let there : third ≡ at + length (num_bytes x ++ num_bytes t) = omega (arith, length-append (num_bytes x) (num_bytes t)) in
            g ∙ ap₂ (λ (o : List ℕ) (k : ℕ). sets o k (set_bytes s)) two there ∙ sets_append (num_bytes x ++ num_bytes t) (set_bytes s) out at
            ∙ ap (sets out at) (sym in_turn)

-- ---- the bindings from place i on

module _ (l : List ℕ) (n i : ℕ) (h : i < n) where
  next-bytes : binds_bytes (binds_from l i (n - i)) ≡ bind_bytes (bind_at l i) ++ binds_bytes (binds_from l (i + 1) (n - (i + 1)))
  unfolding binds_bytes
  next-bytes = ap binds_bytes (run_step l n i h)

  next-length : length (binds_bytes (binds_from l i (n - i))) ≡ length (bind_bytes (bind_at l i)) + length (binds_bytes (binds_from l (i + 1) (n - (i + 1))))
  next-length = ap length next-bytes ∙ length-append (bind_bytes (bind_at l i)) (binds_bytes (binds_from l (i + 1) (n - (i + 1))))

no_bytes : (l : List ℕ) (n i : ℕ) → n ≤ i → binds_bytes (binds_from l i (n - i)) ≡ []
unfolding binds_bytes
no_bytes l n i h = ap binds_bytes (run_end l n i h)

all-bytes : (l : List ℕ) (n : ℕ) → binds_bytes (binds_from l 0 (n - 0)) ≡ binds_bytes (binds_of l n)
unfolding binds_of
all-bytes l n = ap (λ (k : ℕ). binds_bytes (binds_from l 0 k)) (let e : n - 0 ≡ n = omega arith in e)

-- ---- measuring: what is counted and what is left make all

pub record Counted (l : List ℕ) (n i total : ℕ) : Type 0 where
  pub inside : i ≤ n
  pub small : total ≤ longest_binding * i
  pub is : total + length (binds_bytes (binds_from l i (n - i))) ≡ length (binds_bytes (binds_of l n))

pub count-start : (l : List ℕ) (n : ℕ) → Counted l n 0 0
count-start l n = record { inside = omega arith; small = omega arith; is = omega (arith, ap length (all-bytes l n)) }

module _ {l : List ℕ} {n i total : ℕ} (w : Counted l n i total) where
  pub count-more : {b : Bind} {k : ℕ} → i < n → b ≡ bind_at l i → k ≡ length (bind_bytes b) → k ≤ longest_binding → Counted l n (i + 1) (total + k)
  count-more h e p q = record {
    inside = omega arith;
    small = omega (arith, w.small);
    is = omega (arith, w.is, next-length l n i h, p, ap (λ (x : Bind). length (bind_bytes x)) e);
  }

  pub count_fits : {k : ℕ} → i < n → n ≤ most_bindings → k ≤ longest_binding → total + k < 18446744073709551616
  count_fits h m q = omega (arith, w.small)

  pub count-is : n ≤ i → total ≡ length (binds_bytes (binds_of l n))
  count-is h = omega (arith, w.is, ap length (no_bytes l n i h))

  pub count_small : n ≤ most_bindings → total ≤ longest_bindings
  count_small m = omega (arith, w.small, w.inside)

-- ---- writing: what is written and what is left make all

pub record Written (l : List ℕ) (n : ℕ) (out₀ : List ℕ) (at : ℕ) (out : List ℕ) (here i : ℕ) : Type 0 where
  pub inside : i ≤ n
  pub same : length out ≡ length out₀
  pub past : here + length (binds_bytes (binds_from l i (n - i))) ≡ at + length (binds_bytes (binds_of l n))
  pub bytes : sets out here (binds_bytes (binds_from l i (n - i))) ≡ sets out₀ at (binds_bytes (binds_of l n))

pub write_start : (l : List ℕ) (n : ℕ) (out : List ℕ) (at : ℕ) → Written l n out at out at 0
write_start l n out at = record {
  inside = omega arith;
  same = refl;
  past = omega (arith, ap length (all-bytes l n));
  bytes = ap (sets out at) (all-bytes l n);
}

module _ {l : List ℕ} {n : ℕ} {out₀ : List ℕ} {at : ℕ} {out : List ℕ} {here i : ℕ} (w : Written l n out₀ at out here i) where
  pub write_room : {b : Bind} → i < n → b ≡ bind_at l i → at + length (binds_bytes (binds_of l n)) ≤ length out₀ → here + length (bind_bytes b) ≤ length out
  write_room h e m = omega (arith, w.past, w.same, next-length l n i h, ap (λ (x : Bind). length (bind_bytes x)) e)

  pub write_more : {b : Bind} {out1 : List ℕ} {here1 : ℕ} → i < n → b ≡ bind_at l i → length out1 ≡ length out → here1 ≡ here + length (bind_bytes b)
      → out1 ≡ sets out here (bind_bytes b) → Written l n out₀ at out1 here1 (i + 1)
  write_more {b} {out1} {here1} h e m p q =
      let rest : List ℕ = binds_bytes (binds_from l (i + 1) (n - (i + 1))) in
      let d : length (bind_bytes b) ≡ length (bind_bytes (bind_at l i)) = ap (λ (x : Bind). length (bind_bytes x)) e in
      record {
        inside = omega arith;
        same = m ∙ w.same;
        past = omega (arith, w.past, next-length l n i h);
        bytes =
            ap₂ (λ (o : List ℕ) (k : ℕ). sets o k rest) (q ∙ ap (λ (x : Bind). sets out here (bind_bytes x)) e) (p ∙ ap (λ (x : Bind). here + length (bind_bytes x)) e)
            ∙ sets_append (bind_bytes (bind_at l i)) rest out here ∙ ap (sets out here) (sym (next-bytes l n i h)) ∙ w.bytes;
      }

  pub write_past : n ≤ i → here ≡ at + length (binds_bytes (binds_of l n))
  write_past h = omega (arith, w.past, ap length (no_bytes l n i h))

  pub write_bytes : n ≤ i → out ≡ sets out₀ at (binds_bytes (binds_of l n))
  write_bytes h = sym (ap (sets out here) (no_bytes l n i h)) ∙ w.bytes

pub ruleset storing_laws = (len_is, len-small, len-fits, len_fits_two, first-room, second-room, third-room, past_is, bytes-are, count-start, count-more, count_fits, count-is, count_small, write_start, write_room, write_more, write_past, write_bytes)
