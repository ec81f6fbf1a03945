-- From the image to the work on its root, for every job, by the tests that the code makes.
use Rattle.std.specs.Prelude.{Result, Ok, Err}
use Prim.Native.Nat.{ℕ, ◌+◌, ◌-◌, ◌≤◌}
use mathlib.Core.Path.{◌≡◌, refl, sym, ap, ◌∙◌, subst}
use mathlib.Core.List.{List, [], ◌∷◌}
use native.Mathlib.Omega.{arith}
use lib.ListN.{length}
use Rattle.model.specs.Scopes.{no_scopes}
use Rattle.model.specs.Resolving.{Bind}
use Rattle.model.specs.Reading.{Read, Image, read_image}
use Rattle.model.specs.Steps as m
use Rattle.model.specs.Steps.{no, after, charge}
use Rattle.model.specs.Jobs as jobs
use Rattle.model.specs.Jobs.{with_image, worked, start}
use Rattle.refusals.specs.Refusing.{refusal_of}
use Rattle.refusals.specs.declared.Refusal.{Refusal}
use Rattle.table.specs.Lending.{Lent}
use Rattle.store.specs.Words.{binds_of, prunable_of, uses_of}
use Rattle.scopes.specs.Sets.{words_from}
use Rattle.store.specs.Rivalry.{rivals_of}
use Rattle.steps.specs.declared.State.{State}
use Rattle.steps.specs.declared.Stop.{Stop}
use Rattle.steps.specs.States.{state_of, paid, charge_of}
use Rattle.steps.proofs.Laws.{charge_went, charge_failed, charge-ok, charge-no, then_ok, then_no}
use Rattle.head.specs.declared.Head.{Head}
use Rattle.image.specs.declared.Judgement.{Judgement}
use Rattle.image.specs.Judging.{Kind, judged_as, Good, Judges, tree_kind, JudgesTree}
use Rattle.finish.specs.declared.Ending.{Ending}
use Rattle.finish.specs.declared.Ending.TheVariants as ending
use Rattle.finish.specs.Ends.{EndsAs}
use Rattle.finish.proofs.Ends.{ends-refused, ends-stopped}
use Rattle.jobs.specs.Working.{Job, Empty, evaluating, job_ending, begun, opening, Loaded}

module _ {A B : Type 0} (J : Job A B) (image : List ℕ) (budget room : ℕ) where
  -- the rules' work on an image that was read
  abbrev after_reading : Image A → jobs.Ending
  after_reading i = worked budget (after (charge (J.kind.size i.root) (start budget i)) (λ u. J.work i.root)) (J.ends budget room i.head)

  reading : {g : Read (Image A)} → read_image J.kind.whole image ≡ g → job_ending J budget room image ≡ with_image g after_reading
  unfolding job_ending
  reading e = ap (λ (z : Read (Image A)). with_image z after_reading) e

  module _ {st : List ℕ} {j : Judgement} (g : Good J.kind image st j) where
    -- the rules' state at the start
    start_is : start budget g.image ≡ state_of (begun j budget) (opening st)
    unfolding start
    start_is =
        ap (λ (x : List Bind). record { left = budget; names = g.image.head.names; scopes = g.image.head.scopes; binds = x; prunable = no_scopes; uses = no_scopes }) (sym g.binds-are)
        ∙ ap (λ (x : Head). record { left = budget; names = x.names; scopes = x.scopes; binds = binds_of st j.bindings; prunable = no_scopes; uses = no_scopes }) (sym g.head-is)

    -- with the code's charge
    charged : job_ending J budget room image
        ≡ worked budget (after (charge j.size (state_of (begun j budget) (opening st))) (λ u. J.work g.image.root)) (J.ends budget room g.image.head)
    unfolding with_image
    charged =
        reading g.reads
        ∙ ap (λ (s : m.State). worked budget (after (charge (J.kind.size g.image.root) s) (λ u. J.work g.image.root)) (J.ends budget room g.image.head)) start_is
        ∙ ap (λ (n : ℕ). worked budget (after (charge n (state_of (begun j budget) (opening st))) (λ u. J.work g.image.root)) (J.ends budget room g.image.head)) (sym g.size_is)

    pub loaded_is : {s : State} → j.size ≤ budget → s ≡ paid j.size (begun j budget)
        → job_ending J budget room image ≡ worked budget (J.work g.image.root (state_of s (opening st))) (J.ends budget room g.image.head)
    loaded_is {s} h i =
        charged ∙ ap (λ (o : m.Out B). worked budget o (J.ends budget room g.image.head))
        (then_ok (λ u. J.work g.image.root) (charge-ok j.size (begun j budget) (opening st) h)
        ∙ ap (λ (t : State). J.work g.image.root (state_of t (opening st))) (sym i))

-- ---- the image

pub image-refused : {A B : Type 0} (J : Job A B) {image : List ℕ} (st : List ℕ) {r : Result Judgement Refusal} {f : Refusal} (budget : ℕ) (out : List ℕ) → Judges J.kind image st r → r ≡ Err f
    → EndsAs (job_ending J budget (length out) image) out out (ending.Refused f 0)
unfolding with_image
image-refused J {image} st budget out w e = ends-refused out (reading J image budget (length out) (w.is ∙ ap (judged_as J.kind image st) e))

-- ---- the charge for loading

module _ (j : Judgement) (budget : ℕ) {q : Result State Stop} (c : q ≡ charge_of j.size (begun j budget)) where
  pub unpaid-left : {f : Stop} → q ≡ Err f → f.left ≤ budget
  unpaid-left i = let u = ap (λ (k : Stop). k.left) (charge_failed j.size _ c i).is in omega arith

  module _ {A B : Type 0} (J : Job A B) {image : List ℕ} (st : List ℕ) {r : Result Judgement Refusal} (w : Judges J.kind image st r) (e : r ≡ Ok j) where
    pub unpaid-ends : {f : Stop} {x : Ending} (out : List ℕ) → q ≡ Err f → x ≡ ending.Stopped f.refusal f.rivals (budget - f.left) → EndsAs (job_ending J budget (length out) image) out out x
    unfolding worked
    unpaid-ends {f} {x} out i y =
        let p = charge_failed j.size _ c i in
        let g = w.good j e in
        let s : after (charge j.size (state_of (begun j budget) (opening st))) (λ u. J.work g.image.root) ≡ no (refusal_of f.refusal) (rivals_of f.rivals) f.left =
        rw p.is (then_no (λ u. J.work g.image.root) (charge-no j.size (begun j budget) (opening st) p.short)) in
        subst (λ (z : Ending). EndsAs (job_ending J budget (length out) image) out out z) (sym y)
        (ends-stopped out (charged J image budget (length out) g ∙ ap (λ (o : m.Out B). worked budget o (J.ends budget (length out) g.image.head)) s))

  pub paid_loaded : {A : Type 0} {K : Kind A} {image : List ℕ} {st : List ℕ} {r : Result Judgement Refusal} {l : List ℕ} {s : State} → Judges K image st r → r ≡ Ok j → Lent l budget → q ≡ Ok s → Loaded K image st j l s
  paid_loaded w e n i = let p = charge_went j.size _ c i in record { budget = budget; good = w.good j e; lent = n; enough = p.enough; state-is = p.is }

  pub paid_sum : {s : State} → q ≡ Ok s → s.left + j.size ≡ budget
  paid_sum i = let p = charge_went j.size _ c i in let k = ap (λ (x : State). x.left) p.is in omega (arith, p.enough)

pub ruleset charging_laws = (image-refused, unpaid-left, unpaid-ends, paid_loaded, paid_sum)

-- ---- of a tree's image, which has no bindings: whatever is in the store

pub tree-refused : {image : List ℕ} {r : Result Judgement Refusal} {f : Refusal} (budget : ℕ) (out : List ℕ) → JudgesTree image r → r ≡ Err f → EndsAs (job_ending evaluating budget (length out) image) out out (ending.Refused f 0)
tree-refused budget out w e = image-refused evaluating [] budget out (w.judges []) e

module _ (j : Judgement) (budget : ℕ) {q : Result State Stop} (c : q ≡ charge_of j.size (begun j budget)) {image : List ℕ} {r : Result Judgement Refusal} (w : JudgesTree image r) (e : r ≡ Ok j) where
  pub tree_unpaid_ends : {f : Stop} {x : Ending} (out : List ℕ) → q ≡ Err f → x ≡ ending.Stopped f.refusal f.rivals (budget - f.left) → EndsAs (job_ending evaluating budget (length out) image) out out x
  tree_unpaid_ends out i y = unpaid-ends j budget c evaluating [] (w.judges []) e out i y

  pub tree_paid_loaded : {st l : List ℕ} {s : State} → Lent l budget → q ≡ Ok s → Loaded tree_kind image st j l s
  tree_paid_loaded {st} n i = paid_loaded j budget c (w.judges st) e n i

-- a store of one word, 0
pub nothing_carried : Empty (0 ∷ [])
unfolding prunable_of uses_of words_from
nothing_carried = record { prunable = refl; uses = refl }

pub ruleset tree_charging_laws = (nothing_carried, tree-refused, unpaid-left, tree_unpaid_ends, tree_paid_loaded, paid_sum)
