-- What agrees after a step agrees from before it on, where the states are told of with units that are charged already.
use Rattle.std.specs.Prelude.{Result, Err}
use Rattle.std.specs.Result.{IsErrAnd}
use mathlib.Core.Path.{◌≡◌, refl, ◌∙◌}
use mathlib.Core.List.{List}
use Prim.Native.Nat.{ℕ, ◌+◌, ◌*◌, ◌≤◌}
use native.Mathlib.Omega.{arith}
use Rattle.model.specs.Steps as m
use Rattle.table.specs.Words.{Same}
use Rattle.table.proofs.Laws.{same_trans}
use Rattle.steps.specs.States.{Store}
use Rattle.steps.specs.Agreement.{Later, Shape, Agrees, gives, stops}
use Rattle.steps.specs.declared.State.{State}
use Rattle.steps.specs.declared.Stop.{Stop}
use Rattle.refusals.proofs.Handing.{handed_on}
use Rattle.table.specs.Sizes.{unit_size}

-- s0 is s with r units more
pub record Owed (r : ℕ) (s s0 : State) : Type 0 where
  pub top : s0.top ≡ s.top
  pub left : s0.left ≡ s.left + r

pub over : {n v k w : ℕ} {l l1 l2 : List ℕ} {s s1 t1 s0 s2 : State} (j u g r : ℕ) → Later n v l l1 s s1 → Owed g s1 t1 → Owed r s s0 → j + g ≤ n + k + r → u + unit_size * g ≤ v + w + unit_size * r
    → Later k w l1 l2 t1 s2 → Later j u l l2 s0 s2
over {l = l} {l1 = l1} {l2 = l2} {s = s} {s1 = s1} {t1 = t1} {s0 = s0} j u g r p a b h z q =
    let k1 : Same s1.top l1 l2 = rw a.top at q.kept in
    let k2 : Same s.top l l2 = same_trans s.top s1.top l l1 l2 p.grows p.kept k1 in
    record {
      kept = rw b.top k2;
      grows = omega (arith, p.grows, q.grows, a.top, b.top);
      fits = omega (arith, p.fits, q.fits, a.top, a.left, b.top, b.left);
      spent = omega (arith, p.spent, q.spent, a.left, b.left);
    }

pub beyond : {A O : Type 0} {S : Shape A O} {n v k w : ℕ} {l l1 l2 : List ℕ} {s s1 t1 s0 : State} {b : Store} {q q' : m.Out A} {x : Result O Stop} (j u g r : ℕ)
    → Later n v l l1 s s1 → Owed g s1 t1 → Owed r s s0 → j + g ≤ n + k + r → u + unit_size * g ≤ v + w + unit_size * r → q ≡ q' → Agrees S k w l1 l2 t1 b q' x → Agrees S j u l l2 s0 b q x
beyond j u g r p a d h z e (gives o y) = gives o (record { value = y.value; is = e ∙ y.is; shown = y.shown; later = over j u g r p a d h z y.later })
beyond j u g r p a d h z e (stops f y) = stops f (e ∙ y)

-- what `?` hands on
pub handed : {A E : Type 0} {r : Result A E} {f : E} → IsErrAnd r (λ e. e ≡ f) → r ≡ Err f
handed h = handed_on h refl
