-- The two answers of a judgement, for images of both kinds.
use Rattle.std.specs.Prelude.{Ok, Err}
use Prim.Native.Nat.{ℕ, ◌<◌}
use mathlib.Core.Path.{◌≡◌, sym, ap, ◌∙◌, subst}
use mathlib.Core.List.{List, []}
use native.Mathlib.Omega.{arith}
use lib.ListN.{length, drop}
use Rattle.model.specs.Resolving.{Bind}
use Rattle.model.specs.Reading as m
use Rattle.model.specs.Reading.{Read, got, fault, next, read_head, read_image}
use Rattle.refusals.specs.Refusing.{refusal_of}
use Rattle.refusals.specs.declared.Refusal.{Refusal}
use Rattle.refusals.specs.declared.Refusal.TheVariants as refusal
use Rattle.store.specs.Words.{binds_of}
use Rattle.image.specs.declared.Judgement.{Judgement}
use Rattle.image.specs.Judging.{Kind, judged_as, Good, Judges}
use Rattle.image.proofs.Heads.{image-long}

module _ {A : Type 0} (K : Kind A) (s l : List ℕ) where
  pub bad-image : {f : Refusal} → read_image K.whole s ≡ fault (refusal_of f) → Judges K s l (Err f)
  bad-image g = record { is = g; good = λ j e. (let z : ◌≡◌ {A = ℕ} 0 1 = cc in absurd (omega arith)) }

  pub too_long_lem : 65536 < length s → Judges K s l (Err refusal.OverLimit)
  too_long_lem h = bad-image (image-long K.whole s h)

  module _ {j : Judgement} (g : Good K s l j) {t : List ℕ} (e : read_head K.number s ≡ got g.image.head t) where
    as_read : judged_as K s l (Ok j) ≡ got g.image []
    as_read =
        ap (λ (x : Read m.Head). next x (λ h u. next (K.root h (drop j.root s)) (λ x v. got (record { head = h; binds = binds_of l j.bindings; root = x }) v))) e
        ∙ ap (λ (y : Read A). next y (λ x v. got (record { head = g.image.head; binds = binds_of l j.bindings; root = x }) v)) g.root-reads
        ∙ ap (λ (b : List Bind). got (record { head = g.image.head; binds = b; root = g.image.root }) []) g.binds-are

    pub good-image : Judges K s l (Ok j)
    good-image = record { is = g.reads ∙ sym as_read; good = λ j' y. (let p : j ≡ j' = cc in subst (Good K s l) p g) }
