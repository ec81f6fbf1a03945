-- Charging and entering, in the code and in the rules; what comes later; and the laws that carry an agreement through a sequence of calls.
use mathlib.Core.Path.{◌≡◌, refl, sym, ap, ◌∙◌}
use mathlib.Core.List.{List}
use mathlib.Core.Bool.{Bool, true, false}
use Prim.Native.Nat.{ℕ, zero, suc, ◌+◌, ◌-◌, ◌*◌, ◌≤◌, ◌<◌}
use native.Mathlib.Omega.{arith}
use borrow.Author.Tests.{ltb-true, ltb-false, ne_eqb, le-leb, lt-leb}
use lib.ListN.{length}
use lib.Dec.{ltb}
use Rattle.std.specs.Prelude.{Result, Ok, Err}
use Rattle.model.specs.Choice.{when◌then◌else◌}
use Rattle.model.specs.Refusals as r
use Rattle.model.specs.Steps as m
use Rattle.model.specs.Steps.{ok, no, after, Step, charge, unless}
use Rattle.refusals.specs.Refusing.{refusal_of}
use Rattle.refusals.specs.declared.Refusal.TheVariants.{TooManyEntries, OverBudget}
use Rattle.table.proofs.Laws.{same_refl, same_trans}
use Rattle.model.specs.Competing.{Rivals, no_rivals}
use Rattle.store.specs.Rivalry.{rivals_of}
use Rattle.steps.specs.declared.State.{State}
use Rattle.steps.specs.declared.Stop.{Stop}
use Rattle.steps.specs.States.{Store, state_of, stop_of, paid, charge_of, enter_of, Room}
use Rattle.steps.specs.Agreement.{Later, Ready, Shape, Gave, Agrees, gives, stops}
use Rattle.table.specs.Sizes.{unit_size}

-- ---- the code's charge

pub on_test : {A : Type 0} (c : Bool) (x y : A) (P : A → Type 0) → (c ≡ true → P x) → (c ≡ false → P y) → P (when c then x else y)
on_test true x y P f g = f refl
on_test false x y P f g = g refl

pub record Went (n : ℕ) (s u : State) : Type 0 where
  pub enough : n ≤ s.left
  pub is : u ≡ paid n s

pub record Failed (n : ℕ) (s : State) (f : Stop) : Type 0 where
  pub short : s.left < n
  pub is : f ≡ stop_of OverBudget s

pub charge_went : (n : ℕ) (s : State) {x : Result State Stop} {u : State} → x ≡ charge_of n s → x ≡ Ok u → Went n s u
unfolding charge_of
charge_went n s {x} {u} h e =
    on_test (ltb s.left n) (Err (stop_of OverBudget s)) (Ok (paid n s)) (λ (y : Result State Stop). y ≡ Ok u → Went n s u)
    (λ t h'. let z : ◌≡◌ {A = ℕ} 0 1 = cc in absurd (omega arith))
    (λ t h'. let z : u ≡ paid n s = cc in record { enough = ltb-false s.left n t; is = z })
    (sym h ∙ e)

pub charge_failed : (n : ℕ) (s : State) {x : Result State Stop} {f : Stop} → x ≡ charge_of n s → x ≡ Err f → Failed n s f
unfolding charge_of
charge_failed n s {x} {f} h e =
    on_test (ltb s.left n) (Err (stop_of OverBudget s)) (Ok (paid n s)) (λ (y : Result State Stop). y ≡ Err f → Failed n s f)
    (λ t h'. let z : f ≡ stop_of OverBudget s = cc in record { short = ltb-true s.left n t; is = z })
    (λ t h'. let z : ◌≡◌ {A = ℕ} 0 1 = cc in absurd (omega arith))
    (sym h ∙ e)

pub enter_none : (s : State) → enter_of 0 s ≡ Err (stop_of TooManyEntries s)
unfolding enter_of
enter_none s = refl

pub enter_some : (d : ℕ) (s : State) → enter_of (suc d) s ≡ charge_of 1 s
unfolding enter_of
enter_some d s = let z : suc d ≡ 0 → ⊥ = λ h. omega arith in rw (ne_eqb (suc d) 0 z) refl

-- an entry that starts had one to spare
pub enter_spare : (entries : ℕ) (s : State) {x : Result State Stop} {u : State} → x ≡ enter_of entries s → x ≡ Ok u → 1 ≤ entries
unfolding enter_of
enter_spare zero s h e = let z : ◌≡◌ {A = ℕ} 0 1 = cc in absurd (omega arith)
enter_spare (suc d) s h e = omega arith

pub enter_went : (entries : ℕ) (s : State) {x : Result State Stop} {u : State} → x ≡ enter_of entries s → x ≡ Ok u → Went 1 s u
unfolding enter_of
enter_went zero s h e = let z : ◌≡◌ {A = ℕ} 0 1 = cc in absurd (omega arith)
enter_went (suc d) s h e = charge_went 1 s (h ∙ enter_some d s) e

-- ---- the rules' charge

pub charge-ok : (n : ℕ) (s : State) (b : Store) → n ≤ s.left → charge n (state_of s b) ≡ ok tt (state_of (paid n s) b)
unfolding charge
charge-ok n s b h = rw (le-leb n s.left h) refl

pub charge-no : (n : ℕ) (s : State) (b : Store) → s.left < n → charge n (state_of s b) ≡ no r.over_budget no_rivals s.left
unfolding charge
charge-no n s b h = rw (lt-leb n s.left h) refl

-- ---- steps

pub then_ok : {A B : Type 0} {q : m.Out A} {v : A} {y : m.State} (f : A → Step B) → q ≡ ok v y → after q f ≡ f v y
then_ok {A} f e = ap (λ (x : m.Out A). after x f) e

pub then_no : {A B : Type 0} {q : m.Out A} {c : r.Refusal} {p : Rivals} {u : ℕ} (f : A → Step B) → q ≡ no c p u → after q f ≡ no c p u
then_no {A} f e = ap (λ (x : m.Out A). after x f) e

-- steps one after the other may be put together in any way, and one that only hands on changes nothing
pub after-after : {A B C : Type 0} (o : m.Out A) (f : A → Step B) (g : B → Step C) → after (after o f) g ≡ after o (λ a. λ s. after (f a s) g)
after-after (ok a s) f g = refl
after-after (no c p u) f g = refl

pub after-done : {A : Type 0} (o : m.Out A) → after o (λ a. λ s. ok a s) ≡ o
after-done (ok a s) = refl
after-done (no c p u) = refl

pub unless-ok : (c : r.Refusal) {t : Bool} (y : m.State) → t ≡ true → unless c t y ≡ ok tt y
unless-ok c y e = ap (λ (t : Bool). unless c t y) e

pub unless-no : (c : r.Refusal) {t : Bool} (y : m.State) → t ≡ false → unless c t y ≡ no c no_rivals y.left
unless-no c y e = ap (λ (t : Bool). unless c t y) e

-- ---- an entry: refused with none to spare, else the charge of 1 and then the rest. `whole` and `rest` are over the entries to spare.

pub record Entry {A : Type 0} (whole rest : ℕ → Step A) : Type 0 where
  pub none : (y : m.State) → whole 0 y ≡ no r.too_many_entries no_rivals y.left
  pub some : (d : ℕ) (y : m.State) → whole (suc d) y ≡ after (charge 1 y) (λ z. rest d)

module _ {A : Type 0} {whole rest : ℕ → Step A} (w : Entry whole rest) (entries : ℕ) (s : State) (b : Store) where
  pub entry_refused : {x : Result State Stop} {f : Stop} → x ≡ enter_of entries s → x ≡ Err f → whole entries (state_of s b) ≡ no (refusal_of f.refusal) (rivals_of f.rivals) f.left
  entry_refused {x} {f} h e = refused-at entries h
    where
      refused-at : (n : ℕ) → x ≡ enter_of n s → whole n (state_of s b) ≡ no (refusal_of f.refusal) (rivals_of f.rivals) f.left
      refused-at zero k = let z : f ≡ stop_of TooManyEntries s = cc (enter_none s) in rw z (w.none (state_of s b))
      refused-at (suc d) k =
          let q = charge_failed 1 s (k ∙ enter_some d s) e in
          rw q.is (w.some d (state_of s b) ∙ then_no (λ z. rest d) (charge-no 1 s b q.short))

  pub entry_goes : {x : Result State Stop} {u : State} → x ≡ enter_of entries s → x ≡ Ok u → whole entries (state_of s b) ≡ rest (entries - 1) (state_of u b)
  entry_goes {x} {u} h e = goes_at entries h
    where
      goes_at : (n : ℕ) → x ≡ enter_of n s → whole n (state_of s b) ≡ rest (n - 1) (state_of u b)
      goes_at zero k = absurd (omega (arith, enter_spare 0 s k e))
      goes_at (suc d) k =
          let q = charge_went 1 s (k ∙ enter_some d s) e in
          let z : d ≡ suc d - 1 = omega arith in
          w.some d (state_of s b) ∙ then_ok (λ y. rest d) (charge-ok 1 s b q.enough) ∙ ap (λ (y : State). rest d (state_of y b)) (sym q.is) ∙ ap (λ (n : ℕ). rest n (state_of u b)) z

-- ---- later

pub later_refl : (l : List ℕ) (s : State) → Later 0 0 l l s s
later_refl l s = record { kept = same_refl s.top l; grows = omega arith; fits = omega arith; spent = omega arith }

pub later_trans : {n k v w : ℕ} {l l1 l2 : List ℕ} {s s1 s2 : State} (j u : ℕ) → Later n v l l1 s s1 → Later k w l1 l2 s1 s2 → j ≤ n + k → u ≤ v + w → Later j u l l2 s s2
later_trans {n} {k} {v} {w} {l} {l1} {l2} {s} {s1} {s2} j u p q h z =
    record {
      kept = same_trans s.top s1.top l l1 l2 p.grows p.kept q.kept;
      grows = omega (arith, p.grows, q.grows);
      fits = omega (arith, p.fits, q.fits);
      spent = omega (arith, p.spent, q.spent);
    }

-- what a charge pays for
pub later-paid : {n : ℕ} (l : List ℕ) {s u : State} → Went n s u → Later n (unit_size * n) l l s u
later-paid {n} l {s} {u} w =
    rw w.is (record { kept = same_refl s.top l; grows = omega arith; fits = omega (arith, w.enough); spent = omega (arith, w.enough) })

pub room-later : {n v : ℕ} {l l1 : List ℕ} {s s1 : State} → Room l s → Later n v l l1 s s1 → length l1 ≡ length l → Room l1 s1
room-later r p e = record { fits = omega (arith, r.fits, p.fits); small = omega (arith, r.small); low = omega (arith, r.low, p.grows) }

pub room-paid : {n : ℕ} {l : List ℕ} {s u : State} → Room l s → Went n s u → Room l u
room-paid {l = l} r w = room-later r (later-paid l w) refl

pub ready-paid : {A : Type 0} {Shows : List ℕ → ℕ → ℕ → A → Type 0} {n : ℕ} {l : List ℕ} {s u : State} {i : ℕ} → Ready Shows l s i → Went n s u → Ready Shows l u i
ready-paid r w = rw w.is (record { thing = r.thing; shown = r.shown; room = rw w.is at (room-paid r.room w) })

-- ---- agreement

module _ {A O : Type 0} {S : Shape A O} {n v : ℕ} {l l1 : List ℕ} {s : State} {b : Store} {q : m.Out A} where
  pub on_done : {x : Result O Stop} {o : O} → Agrees S n v l l1 s b q x → x ≡ Ok o → Gave S n v l l1 s b q o
  on_done {o = o} (gives p g) e = let z : p ≡ o = cc in rw z at g
  on_done (stops p g) e = let z : ◌≡◌ {A = ℕ} 0 1 = cc in absurd (omega arith)

  pub on_refused : {x : Result O Stop} {f : Stop} → Agrees S n v l l1 s b q x → x ≡ Err f → q ≡ no (refusal_of f.refusal) (rivals_of f.rivals) f.left
  on_refused (gives p g) e = let z : ◌≡◌ {A = ℕ} 0 1 = cc in absurd (omega arith)
  on_refused {f = f} (stops p g) e = let z : p ≡ f = cc in rw z at g

-- what agrees from s1 on agrees from s on
pub since : {A O : Type 0} {S : Shape A O} {n k v w : ℕ} {l l1 l2 : List ℕ} {s s1 : State} {b : Store} {q q' : m.Out A} {x : Result O Stop} (j u : ℕ)
    → Later n v l l1 s s1 → j ≤ n + k → u ≤ v + w → q ≡ q' → Agrees S k w l1 l2 s1 b q' x → Agrees S j u l l2 s b q x
since j u p h z e (gives o a) = gives o (record { value = a.value; is = e ∙ a.is; shown = a.shown; later = later_trans j u p a.later h z })
since j u p h z e (stops f a) = stops f (e ∙ a)
