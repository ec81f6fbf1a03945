-- A question to a summary: one law for each way out.
use Prim.Native.Nat.{ℕ, ◌+◌, ◌*◌, ◌≤◌, ◌<◌}
use mathlib.Core.Path.{◌≡◌, refl, sym, ap, ap₂, ◌∙◌}
use mathlib.Core.Bool.{Bool, true, false, not, ◌&&◌}
use mathlib.Core.List.{List}
use native.Mathlib.Omega.{arith}
use lib.Dec.{eqb, leb}
use lib.ListN.{length, get_or}
use borrow.Author.Tests.{leb-true, lt-ltb, le-ltb, not-true, not-false}
use Rattle.std.specs.Prelude.{Result, Ok, Err}
use Rattle.laws.proofs.Tests.{and_both}
use Rattle.model.specs.Reading.{read_tree_image, read_image}
use Rattle.requests.specs.Uses as u
use Rattle.requests.specs.Uses.{uses_in, entry_in, belongs}
use Rattle.refusals.specs.declared.Refusal.{Refusal}
use Rattle.summaries.specs.declared.opening.Opened.{Opened}
use Rattle.places.specs.declared.counting.Entry.{Entry}
use Rattle.summaries.specs.declared.refusal.UsesRefusal.{UsesRefusal}
use Rattle.summaries.specs.declared.refusal.UsesRefusal.TheVariants as refusal
use Rattle.summaries.specs.Opening.{OpenedAt, Opens}
use Rattle.summaries.specs.Making.{belongs_to, asked_of, AsksFrom, Asks}

-- ---- the entry

module _ (w : List ℕ) (o : Opened) (n : ℕ) {b : Bool} (is : b ≡ belongs_to w o) where
  pub asked-other : not b ≡ true → u.refused u.other_tree ≡ asked_of w o n
  unfolding asked_of
  asked-other h = rw (sym is ∙ not-true b h) refl

  module _ (yes : not b ≡ false) where
    belonging : belongs_to w o ≡ true
    belonging = sym is ∙ not-false b yes

    pub asked_no_name : o.counts.names ≤ n → u.refused u.no_name ≡ asked_of w o n
    unfolding asked_of
    asked_no_name h = rw (belonging, le-ltb n o.counts.names h) refl

    long-enough : 2 + 2 * o.counts.names ≤ length w
    unfolding belongs_to
    long-enough =
        let both = (and_both (leb (2 + 2 * o.counts.names) (length w) && eqb (get_or w 0 0) o.size) (eqb (get_or w 1 0) o.counts.names) belonging).0 in
        leb-true (2 + 2 * o.counts.names) (length w) (and_both (leb (2 + 2 * o.counts.names) (length w)) (eqb (get_or w 0 0) o.size) both).0

    module _ (inside : n < o.counts.names) {i : ℕ} (at : i ≡ 2 + 2 * n) where
      pub count-inside : i < length w
      count-inside = omega (arith, long-enough)

      pub first-inside : i + 1 < length w
      first-inside = omega (arith, long-enough)

      pub asked-told : u.told (record { count = get_or w i 0; first = get_or w (i + 1) 0 }) ≡ asked_of w o n
      unfolding asked_of entry_in
      asked-told =
          let c : get_or w i 0 ≡ get_or w (2 + 2 * n) 0 = ap (λ (j : ℕ). get_or w j 0) at in
          let f : get_or w (i + 1) 0 ≡ get_or w (3 + 2 * n) 0 = ap (λ (j : ℕ). get_or w j 0) (let e : i + 1 ≡ 3 + 2 * n = omega arith in e) in
          rw (belonging, lt-ltb n o.counts.names inside) (ap₂ (λ (x y : ℕ). u.told (record { count = x; first = y })) c f)

pub ruleset asking_laws = (asked-other, asked_no_name, count-inside, first-inside, asked-told)

-- ---- of an image

asked_is : {image : List ℕ} {o : Opened} (g : OpenedAt image o) (w : List ℕ) (n : ℕ) → asked_of w o n ≡ uses_in w n (read_image read_tree_image image)
unfolding uses_in asked_of belongs belongs_to
asked_is g w n = rw (g.reads, ← g.names-are, ← g.size_is) refl

module _ (image w : List ℕ) (n : ℕ) {q : Result Opened Refusal} (h : Opens image q) where
  pub ask_refused : {f : Refusal} → q ≡ Err f → Asks image w n (Err (refusal.Base f))
  unfolding uses_in
  ask_refused {f} e = rw (h.refused f e) refl

  module _ {o : Opened} (e : q ≡ Ok o) where
    pub ask_few : o.counts.names ≤ 1024
    ask_few = (h.tree o e).at.declared.names-few

    pub ask_told : (r : Result Entry UsesRefusal) → AsksFrom w o n r → Asks image w n r
    ask_told r a = a ∙ asked_is (h.tree o e) w n

pub ruleset ask_laws = (ask_refused, ask_few, ask_told)
