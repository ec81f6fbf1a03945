-- What `?` hands on: the error of the call that failed, unchanged.
use Rattle.std.specs.Prelude.{◌≡◌, Result, Ok, Err}
use Rattle.std.specs.Result.{IsErrAnd}
use Rattle.std.proofs.Common.{ap, ◌∙◌}

pub handed_on : {A E : Type 0} {r x : Result A E} {f : E} → IsErrAnd r (λ e. e ≡ f) → Err f ≡ x → r ≡ x
handed_on {r = Ok a} h e = absurd h
handed_on {r = Err g} h e = ap (λ (y : _). Err y) h ∙ e
