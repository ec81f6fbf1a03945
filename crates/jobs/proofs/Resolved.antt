-- The job resolve, by the tests that the code makes.
use Rattle.std.specs.Prelude.{Result, Ok, Err}
use Prim.Native.Nat.{ℕ, ◌+◌, ◌-◌, ◌*◌, ◌≤◌, ◌<◌}
use mathlib.Core.Path.{◌≡◌, refl, sym, ap, ◌∙◌, subst}
use mathlib.Core.List.{List, []}
use native.Mathlib.Omega.{arith}
use lib.ListN.{length, drop, length-drop}
use borrow.Author.Tests.{le-leb, lt-leb}
use Rattle.model.specs.Limits.{core_names, last_phase}
use Rattle.model.specs.Refusals.{no_rule, ambiguous}
use Rattle.model.specs.Objects.{symbol, number, point, prim, rung, set_at, Stx, atom, list}
use Rattle.model.specs.Resolving.{Bind}
use Rattle.model.specs.Competing.{no_rivals}
use Rattle.model.specs.Reading.{symbols}
use Rattle.model.specs.Steps.{identifier, resolve_at}
use Rattle.model.specs.Jobs as m
use Rattle.model.specs.Jobs.{at_phase, worked, output_after, resolve_root, resolve_ending}
use Rattle.refusals.specs.declared.Refusal.{Refusal}
use Rattle.refusals.specs.declared.Refusal.TheVariants as refusal
use Rattle.scopes.specs.declared.Name.{Name}
use Rattle.store.specs.Words.{binds_of}
use Rattle.store.specs.Sizes.{binding_size, store_size}
use Rattle.store.specs.declared.rivals.Rivals.{Rivals}
use Rattle.store.specs.Rivalry.{Decision, means, several, rivals_of, decided, found_of}
use Rattle.store.proofs.Competing.{step_of, resolve_at-decided}
use Rattle.steps.specs.declared.State.{State}
use Rattle.steps.specs.declared.Stop.{Stop}
use Rattle.steps.specs.States.{Store, state_of, charge_of}
use Rattle.steps.proofs.Laws.{charge_went}
use Rattle.head.specs.declared.Head.{Head}
use Rattle.head.specs.declared.Counts.{Counts}
use Rattle.head.specs.Heads.{declares}
use Rattle.finish.specs.declared.Ending.{Ending}
use Rattle.finish.specs.declared.Ending.TheVariants.{Refused, Stopped, Named, Written}
use Rattle.finish.specs.Ends.{ending_of, EndsAs}
use Rattle.finish.proofs.Ends.{ends-refused}
use Rattle.image.specs.declared.Judgement.{Judgement}
use Rattle.image.specs.Judging.{Kind, syntax_kind, Good, Judges}
use Rattle.jobs.specs.Working.{resolving, job_ending, begun, opening}
use Rattle.jobs.specs.Naming.{found_ending, root_ending, Agree, ended, RootEnds, Resolved}
use Rattle.jobs.proofs.Charging.{loaded_is, image-refused, unpaid-left, unpaid-ends}

-- ---- the name

pub name-found : {f : Result Name Rivals} {g : Decision} {n : Name} (u : ℕ) → found_of f ≡ g → f ≡ Ok n → m.named n.0 u ≡ found_ending g u
name-found u p e = ap (λ (x : Decision). found_ending x u) (sym (ap found_of e) ∙ p)

pub name-several : {f : Result Name Rivals} {g : Decision} {p : Rivals} (u : ℕ) → found_of f ≡ g → f ≡ Err p → found_ending (several (rivals_of p)) u ≡ found_ending g u
name-several u q e = ap (λ (x : Decision). found_ending x u) (sym (ap found_of e) ∙ q)

pub ruleset name_laws = (name-found, name-several)

-- ---- the root where it lies

module _ {image st : List ℕ} {j : Judgement} (g : Good syntax_kind image st j) where
  pub root-within : j.root ≤ 0 + length image
  root-within = omega (arith, g.root-within)

  pub root-words : j.front.head.words ≤ 1020
  root-words = omega (arith, g.names-from, g.names-to)

  pub root-scopes : {n : Counts} → n ≡ declares j.front.head → n.scopes ≤ 256
  root-scopes e = omega (arith, ap (λ (x : Counts). x.scopes) e, g.scopes-to)

  pub root-held : store_size ≤ length st → j.bindings * binding_size ≤ length st
  root-held w = omega (arith, g.few-binds)

  pub root-fits : {u : List ℕ} → u ≡ drop (j.root - 0) image → j.root + length u ≤ 65536
  root-fits i = let d = ap length i ∙ length-drop (j.root - 0) image in omega (arith, g.root-within, g.short)

  agree : {n : Counts} → n ≡ declares j.front.head → Agree n g.image.head
  unfolding symbols core_names
  agree e = record {
    symbols-are = ap (λ (x : Counts). x.symbols) e ∙ (let z : j.front.head.words + 4 ≡ 4 + length g.image.head.words = omega (arith, ap (λ (x : Head). x.words) g.head-is) in z);
    scopes-are = ap (λ (x : Counts). x.scopes) e ∙ ap (λ (x : Head). x.scopes) g.head-is;
  }

module _ (image st : List ℕ) (j : Judgement) (ph : ℕ) {n : Counts} {u : List ℕ} (e : n ≡ declares j.front.head) (i : u ≡ drop (j.root - 0) image) {y : Result Ending Refusal} (q : RootEnds n u ph (binds_of st j.bindings) j.size y) where
  read_again : Resolved image st j ph (ended y)
  read_again = record {
    means = λ g.
        let here = i ∙ ap (λ (k : ℕ). drop k image) (let z : j.root - 0 ≡ j.root = omega arith in z) in
        q.means g.image.head (agree g e) g.image.root [] (rw here g.root-reads);
  }

  pub root_resolved : {x : Ending} → y ≡ Ok x → Resolved image st j ph x
  root_resolved k = subst (λ (z : Result Ending Refusal). Resolved image st j ph (ended z)) k read_again

  pub root_refused : {f : Refusal} → y ≡ Err f → Resolved image st j ph (Refused f 0)
  root_refused k = subst (λ (z : Result Ending Refusal). Resolved image st j ph (ended z)) k read_again

pub ruleset root_laws = (root-within, root-words, root-scopes, root-held, root-fits, root_resolved, root_refused)

-- ---- the work

-- the rules' work past the charge, after u units
work-is : (ph : ℕ) (x : Stx) (t : State) (b : Store) (budget u : ℕ) → budget - t.left ≡ u
    → worked budget (identifier x (λ c n. resolve_at ph c n) (state_of t b)) (λ n k. m.named n (budget - k.left)) ≡ root_ending ph x (b.bindings t.bindings) u
unfolding worked identifier root_ending
work-is ph (atom c (symbol n)) t b budget u e =
    rw (resolve_at-decided ph c n (state_of t b)) (by (decided n (set_at ph c) (b.bindings t.bindings)))
  where
    by : (f : Decision) → worked budget (step_of f (state_of t b)) (λ k y. m.named k (budget - y.left)) ≡ found_ending f u
    by (means k) = ap (m.named k) e
    by (several p) = ap (m.refused ambiguous p) e
work-is ph (atom c (number n)) t b budget u e = ap (m.refused no_rule no_rivals) e
work-is ph (atom c (point n)) t b budget u e = ap (m.refused no_rule no_rivals) e
work-is ph (atom c (prim n)) t b budget u e = ap (m.refused no_rule no_rivals) e
work-is ph (atom c (rung n)) t b budget u e = ap (m.refused no_rule no_rivals) e
work-is ph (list c l) t b budget u e = ap (m.refused no_rule no_rivals) e

-- nothing is written
found-quiet : (f : Decision) (u : ℕ) (x : Ending) → ending_of [] x ≡ found_ending f u → EndsAs (found_ending f u) [] [] x
unfolding output_after
found-quiet (means k) u (Named n v) e = record { is = e; left = refl; inside = omega arith; short = omega arith }
found-quiet (several p) u (Refused f v) e = record { is = e; left = refl; inside = omega arith; short = omega arith }
found-quiet (several p) u (Stopped f q v) e = record { is = e; left = refl; inside = omega arith; short = omega arith }
found-quiet (means k) u (Stopped f q v) e = let z : ◌≡◌ {A = ℕ} 0 1 = cc in absurd (omega arith)
found-quiet (means k) u (Refused f v) e = let z : ◌≡◌ {A = ℕ} 0 1 = cc in absurd (omega arith)
found-quiet (means k) u (Written n v) e = let z : ◌≡◌ {A = ℕ} 0 1 = cc in absurd (omega arith)
found-quiet (several p) u (Named n v) e = let z : ◌≡◌ {A = ℕ} 0 1 = cc in absurd (omega arith)
found-quiet (several p) u (Written n v) e = let z : ◌≡◌ {A = ℕ} 0 1 = cc in absurd (omega arith)

refused-quiet : (u : ℕ) (x : Ending) → ending_of [] x ≡ m.refused no_rule no_rivals u → EndsAs (m.refused no_rule no_rivals u) [] [] x
unfolding output_after
refused-quiet u (Refused f v) e = record { is = e; left = refl; inside = omega arith; short = omega arith }
refused-quiet u (Stopped f q v) e = record { is = e; left = refl; inside = omega arith; short = omega arith }
refused-quiet u (Named n v) e = let z : ◌≡◌ {A = ℕ} 0 1 = cc in absurd (omega arith)
refused-quiet u (Written n v) e = let z : ◌≡◌ {A = ℕ} 0 1 = cc in absurd (omega arith)

root-quiet : (ph : ℕ) (y : Stx) (bs : List Bind) (u : ℕ) (x : Ending) → ending_of [] x ≡ root_ending ph y bs u → EndsAs (root_ending ph y bs u) [] [] x
unfolding root_ending
root-quiet ph (atom c (symbol n)) bs u x e = found-quiet (decided n (set_at ph c) bs) u x e
root-quiet ph (atom c (number n)) bs u x e = refused-quiet u x e
root-quiet ph (atom c (point n)) bs u x e = refused-quiet u x e
root-quiet ph (atom c (prim n)) bs u x e = refused-quiet u x e
root-quiet ph (atom c (rung n)) bs u x e = refused-quiet u x e
root-quiet ph (list c l) bs u x e = refused-quiet u x e

pub judged-good : {A : Type 0} {K : Kind A} {image st : List ℕ} {y : Result Judgement Refusal} {j : Judgement} → Judges K image st y → y ≡ Ok j → Good K image st j
judged-good {j = j} w e = w.good j e

pub resolved_ends : (j : Judgement) (ph budget : ℕ) {q : Result State Stop} {t : State} {image : List ℕ} (st : List ℕ) {y : Result Judgement Refusal} {x : Ending} → q ≡ charge_of j.size (begun j budget) → q ≡ Ok t → Judges syntax_kind image st y
    → y ≡ Ok j → Resolved image st j ph x → EndsAs (job_ending (resolving ph) budget 0 image) [] [] x
resolved_ends j ph budget {t = t} {image = image} st {x = x} c i w e v =
    let g = w.good j e in
    let p = charge_went j.size (begun j budget) c i in
    let k = ap (λ (z : State). z.left) p.is in
    let spent : budget - t.left ≡ j.size = omega (arith, p.enough) in
    let binds : t.bindings ≡ j.bindings = ap (λ (z : State). z.bindings) p.is in
    let is = loaded_is (resolving ph) image budget 0 g p.enough p.is ∙ work-is ph g.image.root t (opening st) budget j.size spent
    ∙ ap (λ (n : ℕ). root_ending ph g.image.root (binds_of st n) j.size) binds in
    subst (λ (z : m.Ending). EndsAs z [] [] x) (sym is) (root-quiet ph g.image.root (binds_of st j.bindings) j.size x (v.means g))

pub fault-ends : (ph budget : ℕ) {image : List ℕ} (st : List ℕ) {y : Result Judgement Refusal} {f : Refusal} → Judges syntax_kind image st y → y ≡ Err f → EndsAs (job_ending (resolving ph) budget 0 image) [] [] (Refused f 0)
fault-ends ph budget st w e = image-refused (resolving ph) st budget [] w e

pub stopped-ends : (j : Judgement) (ph budget : ℕ) {q : Result State Stop} {image : List ℕ} (st : List ℕ) {y : Result Judgement Refusal} {f : Stop} {x : Ending} → q ≡ charge_of j.size (begun j budget) → q ≡ Err f
    → Judges syntax_kind image st y → y ≡ Ok j → x ≡ Stopped f.refusal f.rivals (budget - f.left) → EndsAs (job_ending (resolving ph) budget 0 image) [] [] x
stopped-ends j ph budget st c i w e y = unpaid-ends j budget c (resolving ph) st w e [] i y

pub ruleset resolved_laws = (unpaid-left, judged-good, fault-ends, stopped-ends, resolved_ends)

-- ---- the phase comes first

pub resolve-refused : (image : List ℕ) (ph budget : ℕ) → 2 < ph → EndsAs (resolve_ending image ph budget) [] [] (Refused refusal.NoPhase 0)
unfolding resolve_ending at_phase last_phase
resolve-refused image ph budget high = ends-refused {f = refusal.NoPhase} [] (rw (lt-leb ph 2 high) refl)

resolve-is : (image : List ℕ) (ph budget : ℕ) → ph ≤ 2 → job_ending (resolving ph) budget 0 image ≡ resolve_ending image ph budget
unfolding job_ending resolve_ending resolve_root at_phase last_phase
resolve-is image ph budget low = rw (le-leb ph 2 low) refl

pub resolve-ends : (image : List ℕ) (ph budget : ℕ) {x : Ending} → ph ≤ 2 → EndsAs (job_ending (resolving ph) budget 0 image) [] [] x → EndsAs (resolve_ending image ph budget) [] [] x
resolve-ends image ph budget {x} low y = subst (λ (z : m.Ending). EndsAs z [] [] x) (resolve-is image ph budget low) y

pub ruleset resolve_phase_laws = (resolve-refused, resolve-ends)
