-- What is left after a measuring is a tail, and what was measured is no larger than the bytes taken.
use Prim.Native.Nat.{ℕ, zero, suc, ◌+◌, ◌-◌, ◌≤◌}
use mathlib.Core.Path.{◌≡◌, ap, ◌∙◌}
use mathlib.Core.Bool.{Bool, true, false}
use mathlib.Core.List.{List}
use native.Mathlib.Omega.{arith}
use lib.Dec.{eqb}
use lib.ListN.{length, drop, length-drop}
use Rattle.model.specs.Limits.{last_point, last_primitive, last_rung_word}
use Rattle.model.specs.Refusals.{Refusal, layout, over_limit}
use Rattle.model.specs.Reading as m
use Rattle.model.specs.Reading.{Reader, got, fault, next}
use Rattle.numbers.proofs.Tails.{Tail, tail_got, tail_fault, tail_give, tail_next, num_tail, up_to_tail, below_tail, Shrinks, shrinks_got, shrinks_fault, shrinks_next, up_to_shrinks, behind-short}
use Rattle.sets.proofs.Reading.{sets_tail}
use Rattle.roots.specs.MeasuredObjects.{read_content_of, read_top, measure_parts, measure_content, measure_stx}

-- ---- tails

pub content_tail : (symbols t : ℕ) (s : List ℕ) → Tail s (read_content_of symbols t s)
unfolding read_content_of
content_tail symbols zero s = below_tail symbols s
content_tail symbols (suc zero) s = num_tail s
content_tail symbols (suc (suc zero)) s = up_to_tail over_limit last_point s
content_tail symbols (suc (suc (suc zero))) s = up_to_tail over_limit last_primitive s
content_tail symbols (suc (suc (suc (suc zero)))) s = up_to_tail over_limit last_rung_word s
content_tail symbols (suc (suc (suc (suc (suc t))))) s = tail_fault

pub top_tail : (scopes : ℕ) (s : List ℕ) → Tail s (read_top scopes s)
unfolding read_top
top_tail scopes s = tail_next _ (up_to_tail layout 5 s) (λ t u. tail_next _ (sets_tail scopes u) (λ c v. tail_give t v))

parts_tail : (part : Reader ℕ) → ((s : List ℕ) → Tail s (part s)) → (c sum : ℕ) (s : List ℕ) → Tail s (measure_parts c sum part s)
unfolding measure_parts
parts_tail part h zero sum s = tail_give sum s
parts_tail part h (suc c) sum s = tail_next _ (h s) (λ n t. parts_tail part h c (sum + n) t)

measured_tail : (symbols : ℕ) (part : Reader ℕ) → ((s : List ℕ) → Tail s (part s)) → (t : ℕ) (b : Bool) (s : List ℕ) → Tail s (measure_content symbols part t b s)
unfolding measure_content
measured_tail symbols part h t true s = tail_next _ (num_tail s) (λ c u. tail_next _ (parts_tail part h c 0 u) (λ n v. tail_give (n + 1) v))
measured_tail symbols part h t false s = tail_next _ (content_tail symbols t s) (λ x u. tail_give 1 u)

pub object_tail : (symbols scopes l : ℕ) (s : List ℕ) → Tail s (measure_stx symbols scopes l s)
unfolding measure_stx
object_tail symbols scopes zero s = tail_fault
object_tail symbols scopes (suc l) s =
    tail_next _ (top_tail scopes s) (λ t u. measured_tail symbols (measure_stx symbols scopes l) (object_tail symbols scopes l) t (eqb t 5) u)

pub all_parts_tail : (symbols scopes l c : ℕ) (s : List ℕ) → Tail s (measure_parts c 0 (measure_stx symbols scopes l) s)
all_parts_tail symbols scopes l c s = parts_tail (measure_stx symbols scopes l) (object_tail symbols scopes l) c 0 s

-- ---- sizes

-- a number is no larger than the bytes taken, and a more
pub data Sized (a : ℕ) (s : List ℕ) : m.Read ℕ → Type 0 where
  sized-got : {n : ℕ} {rest : List ℕ} → n + length rest ≤ a + length s → Sized a s (got n rest)
  sized-fault : {r : Refusal} → Sized a s (fault r)

sized-more : {a b : ℕ} {s t : List ℕ} {g : m.Read ℕ} → a + length t ≤ b + length s → Sized a t g → Sized b s g
sized-more {b = b} {s = s} h (sized-got {n = n} {rest = rest} l) = let k : n + length rest ≤ b + length s = omega arith in sized-got k
sized-more h sized-fault = sized-fault

sized-next : {A : Type 0} {a : ℕ} {s : List ℕ} {g : m.Read A} (f : A → Reader ℕ) → Tail s g → ((x : A) (t : List ℕ) → Sized a t (f x t)) → Sized a s (next g f)
sized-next {a = a} {s = s} f (tail_got {a = x} {rest = t} b) h = let l = behind-short b in let k : a + length t ≤ a + length s = omega arith in sized-more k (h x t)
sized-next f tail_fault h = sized-fault

sized-shrunk : {A : Type 0} {a : ℕ} {s : List ℕ} {g : m.Read A} (f : A → Reader ℕ) → Shrinks s g → ((x : A) (t : List ℕ) → Sized (suc a) t (f x t)) → Sized a s (next g f)
sized-shrunk {a = a} {s = s} f (shrinks_got {a = x} {rest = t} l) h = let k : suc a + length t ≤ a + length s = omega arith in sized-more k (h x t)
sized-shrunk f shrinks_fault h = sized-fault

top_shrinks : (scopes : ℕ) (s : List ℕ) → Shrinks s (read_top scopes s)
unfolding read_top
top_shrinks scopes s = shrinks_next _ (up_to_shrinks layout 5 s) (λ t u. tail_next _ (sets_tail scopes u) (λ c v. tail_give t v))

sized_sum : {sum : ℕ} {s : List ℕ} {g : m.Read ℕ} (f : ℕ → Reader ℕ) → Sized 0 s g → ((n : ℕ) (t : List ℕ) → Sized (sum + n) t (f n t)) → Sized sum s (next g f)
sized_sum {sum = sum} {s = s} f (sized-got {n = n} {rest = t} l) h = let k : sum + n + length t ≤ sum + length s = omega arith in sized-more k (h n t)
sized_sum f sized-fault h = sized-fault

parts-sized : (part : Reader ℕ) → ((s : List ℕ) → Sized 0 s (part s)) → (c sum : ℕ) (s : List ℕ) → Sized sum s (measure_parts c sum part s)
unfolding measure_parts
parts-sized part h zero sum s = let k : sum + length s ≤ sum + length s = omega arith in sized-got k
parts-sized part h (suc c) sum s = sized_sum _ (h s) (λ n t. parts-sized part h c (sum + n) t)

sized-one : {s : List ℕ} {g : m.Read ℕ} → Sized 0 s g → Sized 1 s (next g (λ n v. got (n + 1) v))
sized-one {s = s} (sized-got {n = n} {rest = rest} l) = let k : n + 1 + length rest ≤ 1 + length s = omega arith in sized-got k
sized-one sized-fault = sized-fault

measured_sized : (symbols : ℕ) (part : Reader ℕ) → ((s : List ℕ) → Sized 0 s (part s)) → (t : ℕ) (b : Bool) (s : List ℕ) → Sized 1 s (measure_content symbols part t b s)
unfolding measure_content
measured_sized symbols part h t true s = sized-next _ (num_tail s) (λ c u. sized-one (parts-sized part h c 0 u))
measured_sized symbols part h t false s = sized-next _ (content_tail symbols t s) (λ x u. let k : 1 + length u ≤ 1 + length u = omega arith in sized-got k)

pub object-sized : (symbols scopes l : ℕ) (s : List ℕ) → Sized 0 s (measure_stx symbols scopes l s)
unfolding measure_stx
object-sized symbols scopes zero s = sized-fault
object-sized symbols scopes (suc l) s =
    sized-shrunk _ (top_shrinks scopes s) (λ t u. measured_sized symbols (measure_stx symbols scopes l) (object-sized symbols scopes l) t (eqb t 5) u)

pub all_parts_sized : (symbols scopes l c : ℕ) (s : List ℕ) → Sized 0 s (measure_parts c 0 (measure_stx symbols scopes l) s)
all_parts_sized symbols scopes l c s = parts-sized (measure_stx symbols scopes l) (object-sized symbols scopes l) c 0 s

pub sized-is : {s : List ℕ} {g : m.Read ℕ} {n : ℕ} {rest : List ℕ} → Sized 0 s g → g ≡ got n rest → n + length rest ≤ length s
sized-is {n = n} {rest = rest} (sized-got {n = k} {rest = t} l) e =
    let p : k ≡ n = cc in
    let q : t ≡ rest = cc in
    let r = ap length q in
    omega arith
sized-is sized-fault e = let z : ◌≡◌ {A = ℕ} 0 1 = cc in absurd (omega arith)

-- ---- a place behind `at`, in or at the end of s, which begins there

pub record Inside (at : ℕ) (s : List ℕ) (place : ℕ) : Type 0 where
  pub moved : at ≤ place
  pub within : place ≤ at + length s

pub inside-fits : {at place : ℕ} {s u : List ℕ} {m : ℕ} → Inside at s place → u ≡ drop (place - at) s → at + length s ≤ m → place + length u ≤ m
inside-fits {at} {place} {s} k e h = omega (arith, ap length e ∙ length-drop (place - at) s, k.moved, k.within)
