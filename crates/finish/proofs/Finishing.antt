-- Laws of the last step.
use Prim.Native.Nat.{ℕ, ◌+◌, ◌-◌, ◌*◌, ◌≤◌, ◌<◌, min}
use mathlib.Core.Path.{◌≡◌, refl, sym, ap, ◌∙◌, subst}
use mathlib.Core.List.{List, ◌++◌}
use mathlib.Core.Logic.{◌⊎◌, inl, inr}
use mathlib.Core.Bool.{Bool, true, false}
use native.Mathlib.Omega.{arith}
use lib.ListN.{length, drop, length-append}
use lib.Seq.{sets, sets-eq}
use lib.Dec.{ltb}
use borrow.Author.Tests.{ltb-true, ltb-false}
use mir.Syntax.{w64}
use mir.Val.{Fits}
use Rattle.model.specs.Objects.{Stx}
use Rattle.model.specs.Resolving.{Bind}
use Rattle.model.specs.Reading as m
use Rattle.model.specs.Writing.{num_bytes, head_bytes, binds_bytes, stx_bytes, tree_bytes}
use Rattle.refusals.specs.declared.Refusal.TheVariants as refusal
use Rattle.numbers.proofs.Writing.{num-short}
use Rattle.store.proofs.Runs.{binds-length}
use Rattle.store.specs.Sizes.{binding_size}
use Rattle.store.specs.Words.{binds_of}
use Rattle.things.specs.Rep.{Rep}
use Rattle.steps.specs.States.{Held}
use Rattle.steps.specs.declared.State.{State}
use Rattle.steps.specs.declared.Out.{Out}
use Rattle.head.specs.declared.Front.{Front}
use Rattle.head.specs.Fronts.{Headed}
use Rattle.writer.specs.Counting.{Countable, Counts, CountsObject}
use Rattle.writer.specs.Putting as w
use Rattle.writer.specs.Putting.{Wrote, Puts, PutsObject}
use Rattle.writer.proofs.Putting.{run}
use Rattle.finish.specs.declared.Ending.TheVariants.{Refused, Written}
use Rattle.finish.specs.Headings.{head_after, Longer, HeadLength, Fitting, PutsHead}
use Rattle.finish.specs.Finishing as spec
use Rattle.finish.specs.Finishing.{Images, image_bytes, tree_images, syntax_front, syntax_images, Came, FrontReady, FrontLength, PutsImage, Finishes}
use Rattle.finish.proofs.Ends.{ends-written, ends_too_long}
use Rattle.finish.proofs.Heads.{head_few}

-- ---- what every kind of image shares

-- from the start of the output, nothing else is touched
from_start : {b out out' : List ℕ} {r : ℕ} → Wrote b out out' 0 r → length b ≤ length out → out' ≡ b ++ drop (length b) out
from_start {b} {out} v h =
    let k : 0 + length b ≤ length out = omega arith in
    let d : 0 + length b ≡ length b = omega arith in
    v.out-is ∙ sets-eq b out 0 k ∙ ap (λ (n : ℕ). b ++ drop n out) d

-- what is over the cap is too long for the output or for an image
over_cap : {room n : ℕ} → min 65536 room < n → (room < n) ⊎ (65536 < n)
over_cap {room} {n} h = go (ltb room 65536) refl
  where
    go : (t : Bool) → ltb room 65536 ≡ t → (room < n) ⊎ (65536 < n)
    go true e = let k = ltb-true room 65536 e in let l : room < n = omega arith in inl l
    go false e = let k = ltb-false room 65536 e in let l : 65536 < n = omega arith in inr l

-- the bytes of the root, behind n bytes that are counted already
pub record Counted {A : Type 0} (K : Images A) (l : List ℕ) (o : Out) (n cap r : ℕ) : Type 0 where
  pub means : (x : A) → Rep l o.state.top o.at (K.thing x) → r ≡ min (cap + 1) (n + length (K.root x))

module _ {A : Type 0} {K : Images A} {s : List ℕ} {f : Front} {l : List ℕ} {o : Out} (y : Came K s f l o) where
  pub came-longer : Longer s f o.state
  came-longer = y.longer

  pub came_countable : {n cap : ℕ} (room k : ℕ) → cap ≡ min 65536 room → n ≡ min (cap + 1) k → Countable l o.at n cap
  came_countable room k c e = record {
    seen = record { top = o.state.top; thing = K.thing y.value; shown = y.shown; inside = omega (arith, y.room.fits); small = y.room.small };
    so_far = omega arith;
    most = omega arith;
  }

module _ {A : Type 0} (K : Images A) (s : List ℕ) (f : Front) (l : List ℕ) (o : Out) (budget : ℕ) (out : List ℕ) {n m k cap : ℕ}
    (c : cap ≡ min 65536 (length out)) (len : FrontLength K.front s f o.state k) (e : n ≡ min (cap + 1) k) (q : Counted K l o n cap m) where
  counted : (g : Headed s f) (x : A) → Rep l o.state.top o.at (K.thing x) → m ≡ min (cap + 1) (length (image_bytes K (head_after g.words o.state) x))
  counted g x shown =
      let a = len.means g in
      let b = q.means x shown in
      let d = length-append (K.front (head_after g.words o.state)) (K.root x) in
      omega arith

  pub image_too_long : cap < m → Finishes K s f l o budget out out (Refused refusal.TooLong (budget - o.state.left))
  image_too_long u = record {
    means = λ g x shown.
        let a = counted g x shown in
        let over : min 65536 (length out) < length (image_bytes K (head_after g.words o.state) x) = omega arith in
        ends_too_long (image_bytes K (head_after g.words o.state) x) out (budget - o.state.left) (over_cap over);
  }

  pub image-fits : m ≤ cap → Came K s f l o → spec.Fits K s f l o out
  image-fits u y = let a = counted y.longer.headed y.value y.shown in record { came = y; fits = omega arith }

  pub image-written : {out' : List ℕ} → m ≤ cap → PutsImage K s f l o out out' → Finishes K s f l o budget out out' (Written m (budget - o.state.left))
  image-written u p = record {
    means = λ g x shown.
        let a = counted g x shown in
        let same : m ≡ length (image_bytes K (head_after g.words o.state) x) = omega arith in
        let fits : length (image_bytes K (head_after g.words o.state) x) ≤ length out = omega arith in
        let small : length (image_bytes K (head_after g.words o.state) x) ≤ 65536 = omega arith in
        ends-written (image_bytes K (head_after g.words o.state) x) out (budget - o.state.left) same fits small (p.means g x shown fits);
  }

-- ---- a tree image

pub tree-front : {s : List ℕ} {f : Front} {t : State} {k : ℕ} → HeadLength s f t k → FrontLength (head_bytes 2) s f t k
tree-front h = record { means = λ g. h.means g 2 (omega arith) }

pub tree-counted : {l : List ℕ} {o : Out} {n cap m : ℕ} → Counts tree_bytes l o.at n cap m → Counted tree_images l o n cap m
tree-counted {o = o} q = record { means = λ x shown. q.means o.state.top x shown }

pub ruleset finish_laws = (came-longer, came_countable, image-fits, image_too_long, image-written, tree-front, tree-counted)

module _ {s : List ℕ} {f : Front} {l : List ℕ} {o : Out} {out : List ℕ} (y : spec.Fits tree_images s f l o out) where
  abbrev G : Headed s f
  G = y.came.longer.headed

  long : length (image_bytes tree_images (head_after G.words o.state) y.came.value) ≡ length (head_bytes 2 (head_after G.words o.state)) + length (tree_bytes y.came.value)
  long = length-append (head_bytes 2 (head_after G.words o.state)) (tree_bytes y.came.value)

  pub head-fits : Fitting s f 2 o.state out
  head-fits = let a = y.fits in let b = long in record { longer = y.came.longer; one_byte = omega arith; fits = omega arith }

  pub tree-fits : {at : ℕ} {out₁ : List ℕ} → PutsHead s f 2 o.state out out₁ at → length out₁ ≡ length out → w.Fitting tree_bytes l o.at out₁ at
  tree-fits p same =
      let a = y.fits in
      let b = long in
      let c = (p.means G).past_is in
      record { top = o.state.top; thing = y.came.value; shown = y.came.shown; inside = omega (arith, y.came.room.fits); small = y.came.room.small; fits = omega arith }

pub tree_put : (s : List ℕ) (f : Front) (l : List ℕ) (o : Out) (out : List ℕ) {out₁ out₂ : List ℕ} {at r : ℕ} → PutsHead s f 2 o.state out out₁ at → Puts tree_bytes l o.at out₁ out₂ at r
    → PutsImage tree_images s f l o out out₂
tree_put s f l o out p q = record { means = λ g x shown fits. from_start (run (p.means g) (q.means o.state.top x shown)) fits }

pub ruleset put_laws = (head-fits, tree-fits, tree_put)

-- ---- a syntax image: its bindings

-- what stands in front of the root, whose first `count` bindings are in the store
front_long : (store : List ℕ) (count : ℕ) (h : m.Head)
    → length (syntax_front (binds_of store count) h) ≡ length (head_bytes 1 h) + length (num_bytes count) + length (binds_bytes (binds_of store count))
front_long store count h =
    let a = length-append (head_bytes 1 h ++ num_bytes (length (binds_of store count))) (binds_bytes (binds_of store count)) in
    let b = length-append (head_bytes 1 h) (num_bytes (length (binds_of store count))) in
    let n = ap (λ (k : ℕ). length (num_bytes k)) (binds-length store count) in
    omega arith

module _ {store : List ℕ} {t : State} (y : Held store t) where
  pub held-words : t.bindings * binding_size ≤ length store
  held-words = omega (arith, y.few, y.wide)

  pub held-few : t.bindings ≤ 512
  held-few = y.few

module _ {s : List ℕ} {f : Front} {store : List ℕ} {t : State} (y : FrontReady s f store t) where
  pub front-longer : Longer s f t
  front-longer = y.longer

  pub front-held : Held store t
  front-held = y.held

  module _ {k : ℕ} (len : HeadLength s f t k) where
    head_small : k ≤ 65546
    head_small = let a = len.means y.longer.headed 1 (omega arith) in let b = head_few y.longer.headed t 1 (omega arith) in omega arith

    pub front_sum : {a : ℕ} → a ≡ length (num_bytes t.bindings) → Fits w64 (k + a)
    front_sum e = omega (arith, head_small, num-short t.bindings)

    pub front-whole : {a b : ℕ} → a ≡ length (num_bytes t.bindings) → b ≤ 203264 → Fits w64 (k + a + b)
    front-whole e h = omega (arith, head_small, num-short t.bindings)

pub front-length_is : (s : List ℕ) (f : Front) (store : List ℕ) (t : State) {k a b : ℕ} → HeadLength s f t k → a ≡ length (num_bytes t.bindings)
    → b ≡ length (binds_bytes (binds_of store t.bindings)) → FrontLength (syntax_front (binds_of store t.bindings)) s f t (k + a + b)
front-length_is s f store t len e h = record { means = λ g. let a = len.means g 1 (omega arith) in let b = front_long store t.bindings (head_after g.words t) in omega arith }

pub ruleset front_laws = (front-longer, front-held, held-words, held-few, front_sum, front-whole, front-length_is)

-- ---- its length

pub front-ready : {K : Images Stx} {s : List ℕ} {f : Front} {store l : List ℕ} {o : Out} → Came K s f l o → Held store o.state → FrontReady s f store o.state
front-ready y h = record { longer = y.longer; held = h }

pub syntax-counted : (bs : List Bind) {l : List ℕ} {o : Out} {n cap m : ℕ} → CountsObject stx_bytes l o.at n cap m → Counted (syntax_images bs) l o n cap m
syntax-counted bs {o = o} q = record { means = λ x shown. q.means o.state.top x shown }

pub ruleset finish_syntax_laws = (came_countable, front-ready, image-fits, image_too_long, image-written, syntax-counted)

-- ---- its bytes

module _ {s : List ℕ} {f : Front} (store : List ℕ) {l : List ℕ} {o : Out} {out : List ℕ} (y : spec.Fits (syntax_images (binds_of store o.state.bindings)) s f l o out) where
  abbrev R : Headed s f
  R = y.came.longer.headed

  whole : length (head_bytes 1 (head_after R.words o.state)) + length (num_bytes o.state.bindings) + length (binds_bytes (binds_of store o.state.bindings)) + length (stx_bytes y.came.value) ≤ length out
  whole =
      let a = y.fits in
      let b = length-append (syntax_front (binds_of store o.state.bindings) (head_after R.words o.state)) (stx_bytes y.came.value) in
      let c = front_long store o.state.bindings (head_after R.words o.state) in
      omega arith

  pub head_fits-syntax : Fitting s f 1 o.state out
  head_fits-syntax = let a = whole in record { longer = y.came.longer; one_byte = omega arith; fits = omega arith }

  module _ {behind : ℕ} {out₁ : List ℕ} (p : PutsHead s f 1 o.state out out₁ behind) (same₁ : length out₁ ≡ length out) where
    pub count_fits : behind + length (num_bytes o.state.bindings) ≤ length out₁
    count_fits = let a = whole in let c = (p.means R).past_is in omega arith

    module _ {first : ℕ} (out₂ : List ℕ) (e : first ≡ behind + length (num_bytes o.state.bindings)) (same₂ : length out₂ ≡ length out₁) where
      pub bindings-fit : first + length (binds_bytes (binds_of store o.state.bindings)) ≤ length out₂
      bindings-fit = let a = whole in let c = (p.means R).past_is in omega arith

      pub object-fits : {root : ℕ} (out₃ : List ℕ) → root ≡ first + length (binds_bytes (binds_of store o.state.bindings)) → length out₃ ≡ length out₂ → w.FittingObject stx_bytes l o.at out₃ root
      object-fits out₃ q same₃ =
          let a = whole in
          let c = (p.means R).past_is in
          record { top = o.state.top; thing = y.came.value; shown = y.came.shown; inside = omega (arith, y.came.room.fits); small = y.came.room.small; fits = omega arith }

pub syntax_put : (s : List ℕ) (f : Front) (store l : List ℕ) (o : Out) (out : List ℕ) {out₁ out₂ out₃ out₄ : List ℕ} {behind first root r : ℕ} → PutsHead s f 1 o.state out out₁ behind
    → first ≡ behind + length (num_bytes o.state.bindings) → out₂ ≡ sets out₁ behind (num_bytes o.state.bindings)
    → root ≡ first + length (binds_bytes (binds_of store o.state.bindings)) → out₃ ≡ sets out₂ first (binds_bytes (binds_of store o.state.bindings)) → PutsObject stx_bytes l o.at out₃ out₄ root r
    → PutsImage (syntax_images (binds_of store o.state.bindings)) s f l o out out₄
syntax_put s f store l o out {out₁} {out₂} {out₃} {behind = behind} {first = first} {root = root} p e₂ o₂ e₃ o₃ q = record {
  means = λ g x shown fits.
      let bs = binds_of store o.state.bindings in
      let two : Wrote (num_bytes o.state.bindings) out₁ out₂ behind first = record { past_is = e₂; out-is = o₂ } in
      let two' : Wrote (num_bytes (length bs)) out₁ out₂ behind first = subst (λ (k : ℕ). Wrote (num_bytes k) out₁ out₂ behind first) (sym (binds-length store o.state.bindings)) two in
      let three : Wrote (binds_bytes bs) out₂ out₃ first root = record { past_is = e₃; out-is = o₃ } in
      from_start (run (run (run (p.means g) two') three) (q.means o.state.top x shown)) fits;
}

pub ruleset put_syntax_laws = (head_fits-syntax, held-words, count_fits, bindings-fit, object-fits, syntax_put)
