-- What a judgement says of the image and of the store.
use Rattle.std.specs.Prelude.{ℕ, ◌+◌, ◌-◌, ◌≤◌, ◌≡◌, List, [], length, drop, Result, Ok, Err}
use Rattle.model.specs.Limits.{most_nesting}
use Rattle.model.specs.Refusals.{unowned}
use Rattle.model.specs.Objects.{Stx, size}
use Rattle.model.specs.Trees.{Tree, load_size}
use Rattle.model.specs.Reading as m
use Rattle.model.specs.Reading.{Read, Reader, Image, got, fault, next, give, need, ◌>>=◌, ◌>>◌, read_head, read_stx, read_syntax, read_tree, read_tree_image, read_image}
use Rattle.model.specs.Jobs.{closed}
use Rattle.refusals.specs.declared.Refusal.{Refusal}
use Rattle.refusals.specs.Refusing.{refusal_of}
use Rattle.codec_laws.specs.WellFormed.{Bytes, HeadFits}
use Rattle.numbers.specs.Limits as limits
use Rattle.numbers.specs.Limits.{most_image}
use Rattle.scopes.specs.Sets.{set_scopes}
use Rattle.store.specs.Words.{binds_of}
use Rattle.store.specs.Sizes.{most_bindings}
use Rattle.head.specs.declared.Counts.{Counts}
use Rattle.head.specs.declared.Front.{Front}
use Rattle.head.specs.Heads.{head_of, declares}
use Rattle.head.specs.Fronts.{most_names, Headed}
use Rattle.bindings.specs.Sections.{read_all}
use Rattle.roots.specs.MeasuredObjects.{measure_stx}
use Rattle.roots.specs.Measuring.{whole_syntax}
use Rattle.image.specs.declared.Judgement.{Judgement}

-- ---- behind the front f

-- the size of the root, behind the bindings
unfoldable pub measure_rest : Counts → Reader ℕ
unfolding read_all whole_syntax
measure_rest n = do
  read_all n
  whole_syntax n

-- what an answer says of the root's size
abbrev pub size_in : Result Judgement Refusal → Read ℕ
size_in (Ok j) = got j.size []
size_in (Err f) = fault (refusal_of f)

-- the bindings of s, which begins where the front ends, are in the store l, and the root behind them ends the image
pub record RestGood (f : Front) (s l : List ℕ) (j : Judgement) : Type 0 where
  pub front-is : j.front ≡ f
  pub binds-read : read_all (declares f.head) s ≡ got (binds_of l j.bindings) (drop (j.root - f.end) s)
  pub few-binds : j.bindings ≤ most_bindings
  pub behind : f.end ≤ j.root
  pub within : j.root ≤ f.end + length s
  pub root_measured : measure_stx (f.head.words + 4) f.head.scopes limits.most_nesting (drop (j.root - f.end) s) ≡ got j.size []

pub record BehindHead (f : Front) (s l : List ℕ) (r : Result Judgement Refusal) : Type 0 where
  pub is : measure_rest (declares f.head) s ≡ size_in r
  pub good : (j : Judgement) → r ≡ Ok j → RestGood f s l j

-- ---- the whole image s, with the store l afterwards

-- a kind of image: its number, how it is read as a whole, and its root, with the charge for loading that
pub record Kind (A : Type 0) : Type 0 where
  pub number : ℕ
  pub whole : Reader (Image A)
  pub root : m.Head → Reader A
  pub size : A → ℕ

abbrev pub syntax_kind : Kind Stx
syntax_kind = record { number = 1; whole = read_syntax; root = read_stx most_nesting; size = size }

-- code 3 comes behind the faults of the image
unfoldable pub read_owned : Reader (Image Tree)
unfolding read_tree_image closed
read_owned = do
  i ← read_tree_image
  need unowned (closed [] i.root)
  give i

abbrev pub tree_kind : Kind Tree
tree_kind = record { number = 2; whole = read_owned; root = λ h. read_tree most_nesting h 0; size = load_size }

-- what an answer says that the image is: its root lies where the judgement says, and its bindings are in the store
abbrev pub judged_as : {A : Type 0} → Kind A → List ℕ → List ℕ → Result Judgement Refusal → Read (Image A)
judged_as K s l (Ok j) =
    next (read_head K.number s) (λ h t. next (K.root h (drop j.root s)) (λ x u. got (record { head = h; binds = binds_of l j.bindings; root = x }) u))
judged_as K s l (Err f) = fault (refusal_of f)

pub record Good {A : Type 0} (K : Kind A) (s l : List ℕ) (j : Judgement) : Type 0 where
  pub image : Image A
  pub reads : read_image K.whole s ≡ got image []
  -- the slice holds bytes: with `reads`, what the laws of images ask
  pub bytes : Bytes s
  pub short : length s ≤ most_image
  -- the head
  pub head-is : j.front.head ≡ head_of image.head
  pub head-fits : HeadFits image.head
  pub headed : Headed s j.front
  pub same-words : headed.words ≡ image.head.words
  pub names-from : 4 + j.front.head.words ≤ j.front.head.names
  pub names-to : j.front.head.names ≤ most_names
  pub scopes-to : j.front.head.scopes ≤ set_scopes
  -- the bindings
  pub binds-are : binds_of l j.bindings ≡ image.binds
  pub few-binds : j.bindings ≤ most_bindings
  -- the root
  pub root-within : j.root ≤ length s
  pub root-reads : K.root image.head (drop j.root s) ≡ got image.root []
  pub size_is : j.size ≡ K.size image.root
  pub size-to : j.size ≤ most_image

pub record Judges {A : Type 0} (K : Kind A) (s l : List ℕ) (r : Result Judgement Refusal) : Type 0 where
  pub is : read_image K.whole s ≡ judged_as K s l r
  pub good : (j : Judgement) → r ≡ Ok j → Good K s l j

-- a tree's image has no bindings: whatever is in the store
pub record JudgesTree (s : List ℕ) (r : Result Judgement Refusal) : Type 0 where
  pub judges : (l : List ℕ) → Judges tree_kind s l r
