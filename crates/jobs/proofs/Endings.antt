-- From what the work came to, to how the job ends.
use Rattle.std.specs.Prelude.{Result, Ok, Err}
use Prim.Native.Nat.{ℕ, ◌+◌, ◌-◌, ◌≤◌}
use mathlib.Core.Path.{◌≡◌, sym, ap, ◌∙◌, subst}
use mathlib.Core.List.{List}
use native.Mathlib.Omega.{arith}
use lib.ListN.{length}
use Rattle.model.specs.Trees.{Tree}
use Rattle.model.specs.Resolving.{Bind}
use Rattle.model.specs.Steps as m
use Rattle.model.specs.Steps.{Step}
use Rattle.model.specs.Jobs as jobs
use Rattle.model.specs.Jobs.{worked, reached, fitted}
use Rattle.store.specs.Words.{binds_of}
use Rattle.store.specs.Sizes.{held_size}
use Rattle.steps.specs.declared.State.{State}
use Rattle.steps.specs.declared.Stop.{Stop}
use Rattle.steps.specs.declared.Out.{Out}
use Rattle.steps.specs.States.{Held, state_of, paid}
use Rattle.image.specs.declared.Judgement.{Judgement}
use Rattle.image.specs.Judging.{Kind, Good}
use Rattle.finish.specs.declared.Ending.{Ending}
use Rattle.finish.specs.declared.Ending.TheVariants as ending
use Rattle.finish.specs.Ends.{EndsAs}
use Rattle.finish.specs.Headings.{head_after}
use Rattle.finish.specs.Finishing.{Images, image_bytes, Came, Finishes}
use Rattle.finish.proofs.Ends.{ends-stopped}
use Rattle.jobs.specs.Working.{Job, writes, job_ending, begun, opening, Loaded, Ended, Stopped, CameTo, Worked, FewBindings}
use Rattle.things.specs.Rep.{Rep}
use Rattle.jobs.proofs.Charging.{loaded_is}

pub few-held : (a : Result Out Stop) {o : Out} (st : List ℕ) {st' : List ℕ} → FewBindings a → a ≡ Ok o → held_size ≤ length st → length st' ≡ length st → Held st' o.state
few-held a {o} st b e w same =
    let few : o.state.bindings ≤ 512 = subst FewBindings e b in
    record { few = few; wide = omega arith }

module _ {A B : Type 0} {J : Job A B} {thing : B → Tree} {image st : List ℕ} {j : Judgement} {s : State} {st' l : List ℕ} {a : Result Out Stop} (v : Worked J thing image st j s st' l a)
    {l₀ : List ℕ} (d : Loaded J.kind image st j l₀ s) {budget : ℕ} (u : s.left + j.size ≡ budget) where
  abbrev result : m.Out B
  result = J.work d.good.image.root (state_of s (opening st))

  -- the rules' ending by what the work came to
  is-worked : (room : ℕ) → job_ending J budget room image ≡ worked budget result (J.ends budget room d.good.image.head)
  is-worked room =
      let k = ap (λ (x : State). x.left) d.state-is in
      let same : d.budget ≡ budget = omega (arith, d.enough) in
      loaded_is J image budget room d.good (omega (arith, d.enough)) (d.state-is ∙ ap (λ (b : ℕ). paid j.size (begun j b)) same)

  came : {o : Out} → a ≡ Ok o → Ended thing s st' l result o
  came e = subst (CameTo thing s st' l result) e (v.means d.good)

  stopped : {f : Stop} → a ≡ Err f → Stopped s result f
  stopped e = subst (CameTo thing s st' l result) e (v.means d.good)

  pub refused-left : {f : Stop} → a ≡ Err f → f.left ≤ budget
  refused-left e = omega (arith, (stopped e).within)

  pub done-left : {o : Out} → a ≡ Ok o → o.state.left ≤ budget
  done-left e = omega (arith, (came e).within)

  pub refused-ends : {f : Stop} {x : Ending} (out : List ℕ) → a ≡ Err f → x ≡ ending.Stopped f.refusal f.rivals (budget - f.left) → EndsAs (job_ending J budget (length out) image) out out x
  unfolding worked
  refused-ends {f} {x} out e y =
      subst (λ (z : Ending). EndsAs (job_ending J budget (length out) image) out out z) (sym y)
      (ends-stopped out (is-worked (length out) ∙ ap (λ (o : m.Out B). worked budget o (J.ends budget (length out) d.good.image.head)) (stopped e).is))

module _ {A B : Type 0} {K : Kind A} {work : A → Step B} (I : List Bind → Images B) {thing : B → Tree} {image st : List ℕ} {j : Judgement} {s : State} {st' l : List ℕ} {a : Result Out Stop}
    (v : Worked (record { kind = K; work = work; ends = writes I }) thing image st j s st' l a) {l₀ : List ℕ} (d : Loaded K image st j l₀ s) {budget : ℕ} (u : s.left + j.size ≡ budget) {o : Out} (e : a ≡ Ok o) where
  abbrev G : Good K image st j
  G = d.good

  R : Ended thing s st' l (work G.image.root (state_of s (opening st))) o
  R = came v d u e

  shown : (f : B → Tree) → f ≡ thing → Rep l o.state.top o.at (f R.value)
  shown f h = subst (λ (k : B → Tree). Rep l o.state.top o.at (k R.value)) (sym h) R.shown

  pub done-came : (M : Images B) → M.thing ≡ thing → Came M image j.front l o
  done-came M h = record {
    longer = record { headed = G.headed; more = let n = ap (λ (x : State). x.names) d.state-is in omega (arith, R.names-from) };
    value = R.value;
    shown = shown M.thing h;
    room = R.room;
  }

  pub done-ends : {out out' : List ℕ} {x : Ending} → (I (binds_of st' o.state.bindings)).thing ≡ thing → Finishes (I (binds_of st' o.state.bindings)) image j.front l o budget out out' x
      → EndsAs (job_ending (record { kind = K; work = work; ends = writes I }) budget (length out) image) out out' x
  unfolding worked writes reached
  done-ends {out} {out'} {x} h y =
      let M : Images B = I (binds_of st' o.state.bindings) in
      let E : List (List ℕ) → jobs.Ending = λ ws. fitted (length out) (image_bytes M (head_after ws o.state) R.value) (budget - o.state.left) in
      let is : job_ending (record { kind = K; work = work; ends = writes I }) budget (length out) image ≡ E G.image.head.words =
      is-worked v d u (length out) ∙ ap (λ (z : m.Out B). worked budget z (writes I budget (length out) G.image.head)) R.is in
      subst (λ (z : jobs.Ending). EndsAs z out out' x) (ap E G.same-words ∙ sym is) (y.means G.headed R.value (shown M.thing h))

pub ruleset ending_laws = (few-held, refused-left, done-left, refused-ends, done-came, done-ends)
