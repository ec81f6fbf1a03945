-- What is read over the counts of a head is what the definition reads with that head.
use mathlib.Core.Path.{◌≡◌, refl, ap, ◌∙◌}
use mathlib.Core.List.{List, ◌∷◌}
use Prim.Native.Nat.{ℕ, zero, suc}
use Rattle.model.specs.Limits.{most_bindings}
use Rattle.model.specs.Refusals.{layout, over_limit}
use Rattle.model.specs.Resolving.{Bind, bind_before}
use Rattle.model.specs.Reading.{Read, got, next, need, num_up_to, Head, symbols, read_bind, read_binds_after, read_some_binds, read_binds}
use Rattle.bindings.specs.Sections.{read_target, read_one, read_more, read_some, read_all}
use Rattle.head.specs.declared.Counts.{Counts}

abbrev counts_of : Head → Counts
counts_of h = record { symbols = symbols h; names = h.names; scopes = h.scopes }

one_same : (h : Head) (s : List ℕ) → read_one (counts_of h) s ≡ read_bind h s
unfolding read_one read_target read_bind
one_same h s = refl

more_same : (h : Head) (k : ℕ) (p : Bind) (s : List ℕ) → read_more (counts_of h) k p s ≡ read_binds_after h k p s
unfolding read_more read_binds_after
more_same h zero p s = refl
more_same h (suc k) p s =
    ap (λ (g : Read Bind). next g (λ b t. next (need layout (bind_before p b) t) (λ x u. next (read_more (counts_of h) k b u) (λ r v. got (b ∷ r) v)))) (one_same h s)
    ∙ ap (next (read_bind h s)) (λ j b t. next (need layout (bind_before p b) t) (λ x u. next (more_same h k b u j) (λ r v. got (b ∷ r) v)))

some_same : (h : Head) (k : ℕ) (s : List ℕ) → read_some (counts_of h) k s ≡ read_some_binds h k s
unfolding read_some read_some_binds
some_same h zero s = refl
some_same h (suc k) s =
    ap (λ (g : Read Bind). next g (λ b t. next (read_more (counts_of h) k b t) (λ r v. got (b ∷ r) v))) (one_same h s)
    ∙ ap (next (read_bind h s)) (λ j b t. next (more_same h k b t j) (λ r v. got (b ∷ r) v))

pub reads-binds : (n : Counts) (h : Head) → n.symbols ≡ symbols h → n.names ≡ h.names → n.scopes ≡ h.scopes → (s : List ℕ)
    → read_all n s ≡ read_binds h s
unfolding read_all read_binds
reads-binds n h p q r s =
    ap (λ (c : Counts). read_all c s) (λ j. record { symbols = p j; names = q j; scopes = r j })
    ∙ ap (next (num_up_to over_limit most_bindings s)) (λ j k t. some_same h k t j)
