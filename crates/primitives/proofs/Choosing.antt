-- How many arguments, which primitive, and whether it wants a macro use.
use mathlib.Core.Path.{◌≡◌, refl, sym, ap, ◌∙◌, subst}
use mathlib.Core.List.{List, [], ◌∷◌}
use mathlib.Core.Bool.{true, false, false≢true}
use mathlib.Core.Option.{Option, none, some}
use Prim.Native.Nat.{ℕ, zero, suc, ◌≤◌, ◌<◌}
use native.Mathlib.Omega.{arith}
use borrow.Author.Tests.{eqb-true}
use lib.Dec.{eqb, leb}
use lib.ListN.{get_or}
use Rattle.std.specs.Prelude as std
use Rattle.model.specs.Trees.{Tree, Trees, tcount}
use Rattle.model.specs.Evaluating as m
use Rattle.model.specs.Evaluating.{Plain, Local, Primitive, plain, local, primitive_of, primitive, arity, takes, wants_use, argument}
use Rattle.things.specs.Rep.{Rep}
use Rattle.things.specs.declared.Made.{Made}
use Rattle.primitives.specs.Working.{ReadyToApply, ReadyAll, Given, no_more, one_more, Pieced, Does1, Does2, Does3, Works, stx_e, mk_stx, first, rest, linked, same, pick}

-- ---- how many arguments, and where

pub takes_so : (p n : ℕ) → p < 10 → eqb n (get_or (1 ∷ 2 ∷ 1 ∷ 1 ∷ 2 ∷ 2 ∷ 3 ∷ 1 ∷ 2 ∷ 1 ∷ []) p 0) ≡ takes (primitive_of p) n
unfolding primitive_of takes
takes_so zero n h = refl
takes_so (suc zero) n h = refl
takes_so (suc (suc zero)) n h = refl
takes_so (suc (suc (suc zero))) n h = refl
takes_so (suc (suc (suc (suc zero)))) n h = refl
takes_so (suc (suc (suc (suc (suc zero))))) n h = refl
takes_so (suc (suc (suc (suc (suc (suc zero)))))) n h = refl
takes_so (suc (suc (suc (suc (suc (suc (suc zero))))))) n h = refl
takes_so (suc (suc (suc (suc (suc (suc (suc (suc zero)))))))) n h = refl
takes_so (suc (suc (suc (suc (suc (suc (suc (suc (suc zero))))))))) n h = refl
takes_so (suc (suc (suc (suc (suc (suc (suc (suc (suc (suc p)))))))))) n h = absurd (omega arith)

-- past the last there is none
pub past_last : (p : ℕ) → 10 ≤ p → primitive_of p ≡ none
unfolding primitive_of
past_last zero h = absurd (omega arith)
past_last (suc zero) h = absurd (omega arith)
past_last (suc (suc zero)) h = absurd (omega arith)
past_last (suc (suc (suc zero))) h = absurd (omega arith)
past_last (suc (suc (suc (suc zero)))) h = absurd (omega arith)
past_last (suc (suc (suc (suc (suc zero))))) h = absurd (omega arith)
past_last (suc (suc (suc (suc (suc (suc zero)))))) h = absurd (omega arith)
past_last (suc (suc (suc (suc (suc (suc (suc zero))))))) h = absurd (omega arith)
past_last (suc (suc (suc (suc (suc (suc (suc (suc zero)))))))) h = absurd (omega arith)
past_last (suc (suc (suc (suc (suc (suc (suc (suc (suc zero))))))))) h = absurd (omega arith)
past_last (suc (suc (suc (suc (suc (suc (suc (suc (suc (suc p)))))))))) h = refl

pub takes_none : (p n : ℕ) → 10 ≤ p → false ≡ takes (primitive_of p) n
unfolding takes
takes_none p n h = rw (past_last p h) refl

pub local_so : (p : ℕ) → p < 10 → leb 7 p ≡ wants_use (primitive_of p)
unfolding primitive_of wants_use
local_so zero h = refl
local_so (suc zero) h = refl
local_so (suc (suc zero)) h = refl
local_so (suc (suc (suc zero))) h = refl
local_so (suc (suc (suc (suc zero)))) h = refl
local_so (suc (suc (suc (suc (suc zero))))) h = refl
local_so (suc (suc (suc (suc (suc (suc zero)))))) h = refl
local_so (suc (suc (suc (suc (suc (suc (suc zero))))))) h = refl
local_so (suc (suc (suc (suc (suc (suc (suc (suc zero)))))))) h = refl
local_so (suc (suc (suc (suc (suc (suc (suc (suc (suc zero))))))))) h = refl
local_so (suc (suc (suc (suc (suc (suc (suc (suc (suc (suc p)))))))))) h = absurd (omega arith)

pub local-none : (p : ℕ) → 10 ≤ p → false ≡ wants_use (primitive_of p)
unfolding wants_use
local-none p h = rw (past_last p h) refl

-- a number that takes some count of arguments is a primitive's
pub record Taken (o : Option Primitive) (n : ℕ) : Type 0 where
  pub which : Primitive
  pub is : o ≡ some which
  pub able : n ≡ arity which

pub taken : (o : Option Primitive) (n : ℕ) → takes o n ≡ true → Taken o n
unfolding takes
taken none n h = absurd (false≢true h)
taken (some q) n h = record { which = q; is = refl; able = eqb-true n (arity q) h }

-- one that wants no macro use, or does
pub record TakenPlain (o : Option Primitive) (n : ℕ) : Type 0 where
  pub which : Plain
  pub is : o ≡ some (plain which)
  pub able : n ≡ arity (plain which)

pub record TakenLocal (o : Option Primitive) (n : ℕ) : Type 0 where
  pub which : Local
  pub is : o ≡ some (local which)
  pub able : n ≡ arity (local which)

pub taken-plain : (o : Option Primitive) (n : ℕ) → takes o n ≡ true → wants_use o ≡ false → TakenPlain o n
unfolding takes wants_use
taken-plain none n h e = absurd (false≢true h)
taken-plain (some (plain q)) n h e = record { which = q; is = refl; able = eqb-true n (arity (plain q)) h }
taken-plain (some (local q)) n h e = absurd (false≢true (sym e))

pub taken-local : (o : Option Primitive) (n : ℕ) → takes o n ≡ true → wants_use o ≡ true → TakenLocal o n
unfolding takes wants_use
taken-local none n h e = absurd (false≢true h)
taken-local (some (plain q)) n h e = absurd (false≢true e)
taken-local (some (local q)) n h e = record { which = q; is = refl; able = eqb-true n (arity (local q)) h }

-- which of the three a number is
local_the : {p : ℕ} (k : ℕ) {v q : Local} → primitive_of k ≡ some (local v) → p ≡ k → primitive_of p ≡ some (local q) → q ≡ v
local_the {p} k {v} {q} e h i = some_is (sym i ∙ ap primitive_of h ∙ e)
  where
    some_is : some (local q) ≡ some (local v) → q ≡ v
    some_is s = cc

pub local_7 : {p : ℕ} {q : Local} → p ≡ 7 → primitive_of p ≡ some (local q) → q ≡ m.meaning_of
unfolding primitive_of
local_7 h i = local_the 7 refl h i

pub local_8 : {p : ℕ} {q : Local} → p ≡ 8 → primitive_of p ≡ some (local q) → q ≡ m.expand_in
unfolding primitive_of
local_8 h i = local_the 8 refl h i

pub local_9 : {p : ℕ} {q : Local} → ¬ (p ≡ 7) → ¬ (p ≡ 8) → primitive_of p ≡ some (local q) → q ≡ m.binder_of
unfolding primitive_of
local_9 {p = zero} a b i = let z : ◌≡◌ {A = ℕ} 0 1 = cc in absurd (omega arith)
local_9 {p = (suc zero)} a b i = let z : ◌≡◌ {A = ℕ} 0 1 = cc in absurd (omega arith)
local_9 {p = (suc (suc zero))} a b i = let z : ◌≡◌ {A = ℕ} 0 1 = cc in absurd (omega arith)
local_9 {p = (suc (suc (suc zero)))} a b i = let z : ◌≡◌ {A = ℕ} 0 1 = cc in absurd (omega arith)
local_9 {p = (suc (suc (suc (suc zero))))} a b i = let z : ◌≡◌ {A = ℕ} 0 1 = cc in absurd (omega arith)
local_9 {p = (suc (suc (suc (suc (suc zero)))))} a b i = let z : ◌≡◌ {A = ℕ} 0 1 = cc in absurd (omega arith)
local_9 {p = (suc (suc (suc (suc (suc (suc zero))))))} a b i = let z : ◌≡◌ {A = ℕ} 0 1 = cc in absurd (omega arith)
local_9 {p = (suc (suc (suc (suc (suc (suc (suc zero)))))))} a b i = absurd (a refl)
local_9 {p = (suc (suc (suc (suc (suc (suc (suc (suc zero))))))))} a b i = absurd (b refl)
local_9 {p = (suc (suc (suc (suc (suc (suc (suc (suc (suc zero)))))))))} a b i = cc
local_9 {p = (suc (suc (suc (suc (suc (suc (suc (suc (suc (suc n))))))))))} a b i = let z : ◌≡◌ {A = ℕ} 0 1 = cc in absurd (omega arith)

pub arity_pos : (q : Primitive) → 1 ≤ arity q
unfolding arity
arity_pos (plain m.stx_e) = omega arith
arity_pos (plain m.mk_stx) = omega arith
arity_pos (plain m.first) = omega arith
arity_pos (plain m.rest) = omega arith
arity_pos (plain m.link) = omega arith
arity_pos (plain m.same) = omega arith
arity_pos (plain m.pick) = omega arith
arity_pos (local m.meaning_of) = omega arith
arity_pos (local m.expand_in) = omega arith
arity_pos (local m.binder_of) = omega arith

pub arity-most : (q : Primitive) → arity q ≤ 3
unfolding arity
arity-most (plain m.stx_e) = omega arith
arity-most (plain m.mk_stx) = omega arith
arity-most (plain m.first) = omega arith
arity-most (plain m.rest) = omega arith
arity-most (plain m.link) = omega arith
arity-most (plain m.same) = omega arith
arity-most (plain m.pick) = omega arith
arity-most (local m.meaning_of) = omega arith
arity-most (local m.expand_in) = omega arith
arity-most (local m.binder_of) = omega arith

-- ---- the values given

pub given_1 : {l : List ℕ} {top x y z : ℕ} {ts : Trees} → Given l top x y z ts → 1 ≤ tcount ts → Rep l top x (argument ts 0)
unfolding argument tcount
given_1 no_more h = absurd (omega arith)
given_1 (one_more r g) h = r

pub given_2 : {l : List ℕ} {top x y z : ℕ} {ts : Trees} → Given l top x y z ts → 2 ≤ tcount ts → Rep l top y (argument ts 1)
unfolding argument tcount
given_2 no_more h = absurd (omega arith)
given_2 (one_more r no_more) h = absurd (omega arith)
given_2 (one_more r (one_more q g)) h = q

given_3 : {l : List ℕ} {top x y z : ℕ} {ts : Trees} → Given l top x y z ts → 3 ≤ tcount ts → Rep l top z (argument ts 2)
unfolding argument tcount
given_3 no_more h = absurd (omega arith)
given_3 (one_more r no_more) h = absurd (omega arith)
given_3 (one_more r (one_more q no_more)) h = absurd (omega arith)
given_3 (one_more r (one_more q (one_more w g))) h = w

-- ---- which primitive

-- the primitive of a known number
is_the : {p : ℕ} (k : ℕ) {v : Primitive} {q : Plain} → primitive_of k ≡ some v → p ≡ k → primitive_of p ≡ some (plain q) → v ≡ plain q
is_the {p} k {v} {q} e h i = some_is (sym e ∙ ap primitive_of (sym h) ∙ i)
  where
    some_is : some v ≡ some (plain q) → v ≡ plain q
    some_is s = cc

plain-is : {v q : Plain} → plain v ≡ plain q → v ≡ q
plain-is e = cc

-- after the others it is the last that wants no macro use
is-pick : {p : ℕ} {q : Plain} → ¬ (p ≡ 0) → ¬ (p ≡ 1) → ¬ (p ≡ 2) → ¬ (p ≡ 3) → ¬ (p ≡ 4) → ¬ (p ≡ 5) → primitive_of p ≡ some (plain q) → m.pick ≡ q
unfolding primitive_of
is-pick {p = zero} a b c d e f i = absurd (a refl)
is-pick {p = (suc zero)} a b c d e f i = absurd (b refl)
is-pick {p = (suc (suc zero))} a b c d e f i = absurd (c refl)
is-pick {p = (suc (suc (suc zero)))} a b c d e f i = absurd (d refl)
is-pick {p = (suc (suc (suc (suc zero))))} a b c d e f i = absurd (e refl)
is-pick {p = (suc (suc (suc (suc (suc zero)))))} a b c d e f i = absurd (f refl)
is-pick {p = (suc (suc (suc (suc (suc (suc zero))))))} a b c d e f i = cc
is-pick {p = (suc (suc (suc (suc (suc (suc (suc zero)))))))} a b c d e f i = let z : ◌≡◌ {A = ℕ} 0 1 = cc in absurd (omega arith)
is-pick {p = (suc (suc (suc (suc (suc (suc (suc (suc zero))))))))} a b c d e f i = let z : ◌≡◌ {A = ℕ} 0 1 = cc in absurd (omega arith)
is-pick {p = (suc (suc (suc (suc (suc (suc (suc (suc (suc zero)))))))))} a b c d e f i = let z : ◌≡◌ {A = ℕ} 0 1 = cc in absurd (omega arith)
is-pick {p = (suc (suc (suc (suc (suc (suc (suc (suc (suc (suc n))))))))))} a b c d e f i = let z : ◌≡◌ {A = ℕ} 0 1 = cc in absurd (omega arith)

module _ {l : List ℕ} {top p x y z : ℕ} where
  pub ready_x : ReadyAll l top p x y z → ReadyToApply l top x
  ready_x r = record { thing = argument r.thing 0; shown = given_1 r.given (omega (arith, arity_pos (plain r.which), r.able)); room = r.room }

  ready-second : {v : Primitive} (r : ReadyAll l top p x y z) → v ≡ plain r.which → 2 ≤ arity v → ReadyToApply l top y
  ready-second r e h =
      record { thing = argument r.thing 1; shown = given_2 r.given (omega (arith, r.able, ap arity e, h)); room = r.room }

  pub ready_1 : p ≡ 1 → ReadyAll l top p x y z → ReadyToApply l top y
  unfolding primitive_of arity
  ready_1 h r = ready-second r (is_the 1 refl h r.is) (omega arith)

  pub ready_4 : p ≡ 4 → ReadyAll l top p x y z → ReadyToApply l top y
  unfolding primitive_of arity
  ready_4 h r = ready-second r (is_the 4 refl h r.is) (omega arith)

  pub ready_5 : p ≡ 5 → ReadyAll l top p x y z → ReadyToApply l top y
  unfolding primitive_of arity
  ready_5 h r = ready-second r (is_the 5 refl h r.is) (omega arith)

  module _ {l1 : List ℕ} {r : std.Option Made} where
    -- where the number can only be primitive v's
    works : (v : Plain)
        → ((ts : Trees) → Given l top x y z ts → tcount ts ≡ arity (plain v) → Pieced l l1 top (primitive v (argument ts 0) (argument ts 1) (argument ts 2)) r)
        → ((q : Plain) → primitive_of p ≡ some (plain q) → v ≡ q) → Works l l1 top p x y z r
    works v d h =
        record {
          means = λ q i.
              subst (λ (w : Plain). (ts : Trees) → Given l top x y z ts → tcount ts ≡ arity (plain w) → Pieced l l1 top (primitive w (argument ts 0) (argument ts 1) (argument ts 2)) r)
              (h q i) d;
        }

    -- of one value and of two
    does_1 : (v : Plain) (f : Tree → Option Tree) → ((a b c : Tree) → primitive v a b c ≡ f a) → ((q : Plain) → primitive_of p ≡ some (plain q) → v ≡ q)
        → Does1 f l l1 top x r → Works l l1 top p x y z r
    does_1 v f e h d =
        works v (λ ts g j. rw (e (argument ts 0) (argument ts 1) (argument ts 2)) (d.means (argument ts 0) (given_1 g (omega (arith, arity_pos (plain v), j))))) h

    does_2 : (v : Plain) (f : Tree → Tree → Option Tree) → ((a b c : Tree) → primitive v a b c ≡ f a b) → 2 ≤ arity (plain v)
        → ((q : Plain) → primitive_of p ≡ some (plain q) → v ≡ q) → Does2 f l l1 top x y r → Works l l1 top p x y z r
    does_2 v f e n h d =
        works v (λ ts g j. rw (e (argument ts 0) (argument ts 1) (argument ts 2))
        (d.means (argument ts 0) (argument ts 1) (given_1 g (omega (arith, n, j))) (given_2 g (omega (arith, n, j))))) h

    pub works_0 : p ≡ 0 → Does1 stx_e l l1 top x r → Works l l1 top p x y z r
    unfolding stx_e primitive primitive_of
    works_0 h d = does_1 m.stx_e stx_e (λ a b c. refl) (λ q i. plain-is (is_the 0 refl h i)) d

    pub works_1 : p ≡ 1 → Does2 mk_stx l l1 top x y r → Works l l1 top p x y z r
    unfolding mk_stx primitive primitive_of arity
    works_1 h d = does_2 m.mk_stx mk_stx (λ a b c. refl) (omega arith) (λ q i. plain-is (is_the 1 refl h i)) d

    pub works_2 : p ≡ 2 → Does1 first l l1 top x r → Works l l1 top p x y z r
    unfolding first primitive primitive_of
    works_2 h d = does_1 m.first first (λ a b c. refl) (λ q i. plain-is (is_the 2 refl h i)) d

    pub works_3 : p ≡ 3 → Does1 rest l l1 top x r → Works l l1 top p x y z r
    unfolding rest primitive primitive_of
    works_3 h d = does_1 m.rest rest (λ a b c. refl) (λ q i. plain-is (is_the 3 refl h i)) d

    pub works_4 : p ≡ 4 → Does2 linked l l1 top x y r → Works l l1 top p x y z r
    unfolding linked primitive primitive_of arity
    works_4 h d = does_2 m.link linked (λ a b c. refl) (omega arith) (λ q i. plain-is (is_the 4 refl h i)) d

    pub works_5 : p ≡ 5 → Does2 same l l1 top x y r → Works l l1 top p x y z r
    unfolding same primitive primitive_of arity
    works_5 h d = does_2 m.same same (λ a b c. refl) (omega arith) (λ q i. plain-is (is_the 5 refl h i)) d

    pub works_6 : ¬ (p ≡ 0) → ¬ (p ≡ 1) → ¬ (p ≡ 2) → ¬ (p ≡ 3) → ¬ (p ≡ 4) → ¬ (p ≡ 5) → Does3 pick l l1 top x y z r → Works l l1 top p x y z r
    unfolding pick primitive arity
    works_6 a b c d e f k =
        works m.pick (λ ts g j.
        k.means (argument ts 0) (argument ts 1) (argument ts 2) (given_1 g (omega (arith, j))) (given_2 g (omega (arith, j))) (given_3 g (omega (arith, j))))
        (λ q. is-pick a b c d e f)

pub ruleset laws = (ready_x, ready_1, ready_4, ready_5, works_0, works_1, works_2, works_3, works_4, works_5, works_6)
