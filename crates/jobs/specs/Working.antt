-- A job from its image to its ending: the charge for loading, the work, and how it ends.
use Rattle.std.specs.Prelude.{ℕ, ◌-◌, ◌≤◌, ◌≡◌, List, Result, Ok, Err}
use Rattle.model.specs.Scopes.{no_scopes}
use Rattle.model.specs.Objects.{Stx}
use Rattle.model.specs.Trees.{Tree}
use Rattle.model.specs.Resolving.{Bind}
use Rattle.model.specs.Reading as m
use Rattle.model.specs.Reading.{read_image}
use Rattle.model.specs.Steps as r
use Rattle.model.specs.Steps.{Step, ok, no, after, charge, identifier, resolve_at}
use Rattle.model.specs.Meanings.{of_root, nowhere}
use Rattle.model.specs.Parsing.{parse}
use Rattle.model.specs.Expanding.{evaluate, expand}
use Rattle.model.specs.Jobs as j
use Rattle.model.specs.Jobs.{with_image, worked, start, reached, fitted}
use Rattle.refusals.specs.Refusing.{refusal_of}
use Rattle.table.specs.Lending.{Lent}
use Rattle.store.specs.Sizes.{most_bindings}
use Rattle.store.specs.Words.{binds_of, prunable_of, uses_of}
use Rattle.store.specs.Rivalry.{rivals_of}
use Rattle.things.specs.Rep.{Rep}
use Rattle.steps.specs.declared.State.{State}
use Rattle.steps.specs.declared.Stop.{Stop}
use Rattle.steps.specs.declared.Out.{Out}
use Rattle.steps.specs.States.{most_entries, Store, store_of, state_of, paid, Room}
use Rattle.image.specs.declared.Judgement.{Judgement}
use Rattle.image.specs.Judging.{Kind, syntax_kind, tree_kind, Good}
use Rattle.finish.specs.Finishing.{Images, image_bytes, tree_images, syntax_images}

-- ---- the jobs: what is read, the work past the charge for loading, and how it ends with a budget and an output of so many bytes

pub record Job (A B : Type 0) : Type 0 where
  pub kind : Kind A
  pub work : A → Step B
  pub ends : ℕ → ℕ → m.Head → B → r.State → j.Ending

-- the result is written, with the words read
unfoldable pub writes : {B : Type 0} → (List Bind → Images B) → ℕ → ℕ → m.Head → B → r.State → j.Ending
unfolding fitted reached
writes images budget room h x s = fitted room (image_bytes (images s.binds) (reached h s) x) (budget - s.left)

abbrev pub evaluating : Job Tree Tree
evaluating = record { kind = tree_kind; work = evaluate most_entries nowhere; ends = writes (λ b. tree_images) }

abbrev pub parsing : Job Stx Tree
parsing = record { kind = syntax_kind; work = parse most_entries 0; ends = writes (λ b. tree_images) }

abbrev pub expanding : ℕ → Job Stx Stx
expanding ph = record { kind = syntax_kind; work = expand most_entries (of_root ph); ends = writes syntax_images }

-- nothing is written
abbrev pub resolving : ℕ → Job Stx ℕ
resolving ph = record { kind = syntax_kind; work = λ x. identifier x (λ c n. resolve_at ph c n); ends = λ budget room h n s. j.named n (budget - s.left) }

unfoldable pub job_ending : {A B : Type 0} → Job A B → ℕ → ℕ → List ℕ → j.Ending
unfolding with_image read_image worked start charge
job_ending J budget room image =
    with_image (read_image J.kind.whole image) (λ i. worked budget (after (charge (J.kind.size i.root) (start budget i)) (λ u. J.work i.root)) (J.ends budget room i.head))

-- ---- before the work

-- the state in which the work on an image begins
abbrev pub begun : Judgement → ℕ → State
begun j budget = record { top = 1; left = budget; names = j.front.head.names; scopes = j.front.head.scopes; bindings = j.bindings }

-- and what the store stands for there: the bindings read, and nothing carried
abbrev pub opening : List ℕ → Store
opening l = record { bindings = binds_of l; prunable = no_scopes; uses = no_scopes }

-- a store in which nothing is carried
pub record Empty (st : List ℕ) : Type 0 where
  pub prunable : prunable_of st ≡ no_scopes
  pub uses : uses_of st ≡ no_scopes

-- s is the state past the charge for the root, and the table l has the words for it
pub record Loaded {A : Type 0} (K : Kind A) (image store : List ℕ) (j : Judgement) (l : List ℕ) (s : State) : Type 0 where
  pub budget : ℕ
  pub good : Good K image store j
  pub lent : Lent l budget
  pub enough : j.size ≤ budget
  pub state-is : s ≡ paid j.size (begun j budget)

abbrev pub itself : Tree → Tree
itself t = t

-- ---- the work, from the state s to what the rules compute, q; l and `store` are table and store afterwards

pub record Ended {B : Type 0} (thing : B → Tree) (s : State) (store l : List ℕ) (q : r.Out B) (o : Out) : Type 0 where
  pub value : B
  pub is : q ≡ ok value (state_of o.state (store_of store))
  pub shown : Rep l o.state.top o.at (thing value)
  pub room : Room l o.state
  pub names-from : s.names ≤ o.state.names
  pub within : o.state.left ≤ s.left

pub record Stopped {B : Type 0} (s : State) (q : r.Out B) (f : Stop) : Type 0 where
  pub is : q ≡ no (refusal_of f.refusal) (rivals_of f.rivals) f.left
  pub within : f.left ≤ s.left

-- what an answer says of the work
abbrev pub CameTo : {B : Type 0} → (B → Tree) → State → List ℕ → List ℕ → r.Out B → Result Out Stop → Type 0
CameTo thing s store l q (Ok o) = Ended thing s store l q o
CameTo thing s store l q (Err f) = Stopped s q f

pub record Worked {A B : Type 0} (J : Job A B) (thing : B → Tree) (image store : List ℕ) (j : Judgement) (s : State) (store' l : List ℕ) (r : Result Out Stop) : Type 0 where
  pub means : (g : Good J.kind image store j) → CameTo thing s store' l (J.work g.image.root (state_of s (opening store))) r

abbrev pub FewBindings : Result Out Stop → Type 0
FewBindings (Ok o) = o.state.bindings ≤ most_bindings
FewBindings (Err f) = Unit {0}
