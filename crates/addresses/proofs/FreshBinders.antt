-- Request T-07: the symbol and set of a binder are never bound already, also where an image brings bindings of its own.
use mathlib.Core.Path.{◌≡◌, refl, sym, ◌∙◌}
use mathlib.Core.List.{List}
use Prim.Native.Nat.{ℕ, ◌+◌}
use Rattle.model.specs.Scopes.{add}
use Rattle.model.specs.Objects.{Sets, set_at, Stx}
use Rattle.model.specs.Resolving.{Bind}
use Rattle.model.specs.Reading.{got, Image, symbols, read_syntax, read_image}
use Rattle.model.specs.Steps.{State}
use Rattle.model.specs.Jobs.{start}
use Rattle.codec_laws.specs.WellFormed.{Bytes}
use Rattle.codec_laws.proofs.ImageLaws.{syntax_read_keeps_limits}
use Rattle.laws.proofs.ResolveRule.{In}
use Rattle.addresses.proofs.States.{StateFits, Grows, new_bind, binder-set, bind_unbound}
use Rattle.addresses.proofs.ExpandJob.{start_fits}

-- in any state that keeps the limits, no binding has the set with which a binder is bound: it holds the scope after all those reached
pub no_binder_is_bound : (k : ℕ) (s : State) → StateFits k s → (ph : ℕ) (c : Sets) (b : Bind) → In b s.binds → b.set ≡ add (s.scopes + 1) (set_at ph c) → ⊥
unfolding new_bind
no_binder_is_bound k s f ph c b i e = bind_unbound k ph c b.symb s f b i refl (binder-set ph c b.symb s ∙ sym e)

-- so it is from the first state of any image that is read, however far its expansion has come
pub no_binder_of_an_image_is_bound : (image rest : List ℕ) (i : Image Stx) → Bytes image → read_image read_syntax image ≡ got i rest
    → (budget : ℕ) (s : State) → Grows (symbols i.head) (start budget i) s
    → (ph : ℕ) (c : Sets) (b : Bind) → In b s.binds → b.set ≡ add (s.scopes + 1) (set_at ph c) → ⊥
no_binder_of_an_image_is_bound image rest i y e budget s g =
    no_binder_is_bound (symbols i.head) s (g.keeps (start_fits budget i (syntax_read_keeps_limits image rest i y e)))
