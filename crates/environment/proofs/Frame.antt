-- Meanings stay as they are where the table grows.
use mathlib.Core.Path.{◌∙◌}
use mathlib.Core.List.{List}
use Prim.Native.Nat.{ℕ, ◌+◌, ◌≤◌}
use native.Mathlib.Omega.{arith}
use Rattle.model.specs.Meanings as m
use Rattle.model.specs.Meanings.{Env}
use Rattle.table.specs.Words.{Same}
use Rattle.table.proofs.Laws.{same_under, get_entry-same}
use Rattle.things.proofs.Frame.{stays, carry, up}
use Rattle.stops.proofs.Frame.{carry_z}
use Rattle.environment.specs.Meanings.{Meant, meant-variable, meant-macro, RepE, is-core, is_entry}
use Rattle.environment.specs.Places.{RepPlace, is-nowhere, is_use_lem}
use Rattle.environment.specs.declared.Place.{Place}
use Rattle.table.specs.Sizes.{entry_size}

pub carry_m : {l l' : List ℕ} {n k kind i : ℕ} {x : m.Meaning} → Meant l n kind i x → Same n l l' → n ≤ k → Meant l' k kind i x
carry_m (meant-variable r) e h = meant-variable (carry r e h)
carry_m (meant-macro r) e h = meant-macro (carry r e h)

pub up_m : {l : List ℕ} {n k kind i : ℕ} {x : m.Meaning} → Meant l n kind i x → n ≤ k → Meant l k kind i x
up_m (meant-variable r) h = meant-variable (up r h)
up_m (meant-macro r) h = meant-macro (up r h)

stays_m : {l l' : List ℕ} {n kind i : ℕ} {x : m.Meaning} → Meant l n kind i x → Same n l l' → Meant l' n kind i x
stays_m (meant-variable r) e = meant-variable (stays r e)
stays_m (meant-macro r) e = meant-macro (stays r e)

pub up_e : {l : List ℕ} {n k e : ℕ} {env : Env} → RepE l n e env → n ≤ k → RepE l k e env
up_e is-core h = is-core
up_e {k = k} {e = e} (is_entry a b d q w r) h = let z : e + entry_size ≤ k = omega arith in is_entry a z d q w r

pub stays_e : {l l' : List ℕ} {n e : ℕ} {env : Env} → RepE l n e env → Same n l l' → RepE l' n e env
stays_e is-core s = is-core
stays_e {l} {l'} {n} {e} (is_entry a b d q w r) s =
    is_entry a b d (get_entry-same n l l' e s b ∙ q) (stays_m w (same_under e n l l' (omega arith) s)) (stays_e r (same_under e n l l' (omega arith) s))

pub carry_e : {l l' : List ℕ} {n k e : ℕ} {env : Env} → RepE l n e env → Same n l l' → n ≤ k → RepE l' k e env
carry_e r s h = up_e (stays_e r s) h

pub carry_place : {l l' : List ℕ} {n k : ℕ} {p : Place} {q : m.Place} → RepPlace l n p q → Same n l l' → n ≤ k → RepPlace l' k p q
carry_place (is-nowhere a) s h = is-nowhere a
carry_place (is_use_lem a r z) s h = is_use_lem a (carry_e r s h) (carry_z z s h)
