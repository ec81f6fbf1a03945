-- What the last step asks and gives, for images of both kinds.
use Rattle.std.specs.Prelude.{ℕ, ◌-◌, ◌≤◌, ◌≡◌, List, ◌++◌, length, drop}
use Rattle.model.specs.Objects.{Stx}
use Rattle.model.specs.Trees.{Tree, stx}
use Rattle.model.specs.Resolving.{Bind}
use Rattle.model.specs.Reading as m
use Rattle.model.specs.Writing.{num_bytes, head_bytes, binds_bytes, stx_bytes, tree_bytes}
use Rattle.model.specs.Jobs.{fitted}
use Rattle.steps.specs.declared.State.{State}
use Rattle.steps.specs.declared.Out.{Out}
use Rattle.steps.specs.States.{Held, Room}
use Rattle.things.specs.Rep.{Rep}
use Rattle.head.specs.declared.Front.{Front}
use Rattle.head.specs.Fronts.{Headed}
use Rattle.finish.specs.declared.Ending.{Ending}
use Rattle.finish.specs.Ends.{EndsAs}
use Rattle.finish.specs.Headings.{head_after, Longer}

-- ---- the kinds of image: the root as a thing of the table, what stands in front of it, and its own bytes

pub record Images (A : Type 0) : Type 0 where
  pub thing : A → Tree
  pub front : m.Head → List ℕ
  pub root : A → List ℕ

abbrev pub image_bytes : {A : Type 0} → Images A → m.Head → A → List ℕ
image_bytes K h x = K.front h ++ K.root x

abbrev pub tree_images : Images Tree
tree_images = record { thing = λ t. t; front = head_bytes 2; root = tree_bytes }

abbrev pub syntax_front : List Bind → m.Head → List ℕ
syntax_front bs h = (head_bytes 1 h ++ num_bytes (length bs)) ++ binds_bytes bs

abbrev pub syntax_images : List Bind → Images Stx
syntax_images bs = record { thing = stx; front = syntax_front bs; root = stx_bytes }

-- ---- what is asked

-- the image s was read, and the work came to something of the kind K
pub record Came {A : Type 0} (K : Images A) (s : List ℕ) (f : Front) (l : List ℕ) (o : Out) : Type 0 where
  pub longer : Longer s f o.state
  pub value : A
  pub shown : Rep l o.state.top o.at (K.thing value)
  pub room : Room l o.state

pub record FrontReady (s : List ℕ) (f : Front) (store : List ℕ) (t : State) : Type 0 where
  pub longer : Longer s f t
  pub held : Held store t

pub record Fits {A : Type 0} (K : Images A) (s : List ℕ) (f : Front) (l : List ℕ) (o : Out) (out : List ℕ) : Type 0 where
  pub came : Came K s f l o
  pub fits : length (image_bytes K (head_after came.longer.headed.words o.state) came.value) ≤ length out

-- ---- what is given

-- the length of what stands in front of a root
pub record FrontLength (front : m.Head → List ℕ) (s : List ℕ) (f : Front) (t : State) (r : ℕ) : Type 0 where
  pub means : (g : Headed s f) → r ≡ length (front (head_after g.words t))

pub record PutsImage {A : Type 0} (K : Images A) (s : List ℕ) (f : Front) (l : List ℕ) (o : Out) (out out' : List ℕ) : Type 0 where
  pub means : (g : Headed s f) (x : A) → Rep l o.state.top o.at (K.thing x) → length (image_bytes K (head_after g.words o.state) x) ≤ length out
      → out' ≡ image_bytes K (head_after g.words o.state) x ++ drop (length (image_bytes K (head_after g.words o.state) x)) out

pub record Finishes {A : Type 0} (K : Images A) (s : List ℕ) (f : Front) (l : List ℕ) (o : Out) (budget : ℕ) (out out' : List ℕ) (r : Ending) : Type 0 where
  pub means : (g : Headed s f) (x : A) → Rep l o.state.top o.at (K.thing x)
      → EndsAs (fitted (length out) (image_bytes K (head_after g.words o.state) x) (budget - o.state.left)) out out' r
