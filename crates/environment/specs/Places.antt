-- How index and words stand for where a tree is evaluated.
use Rattle.std.specs.Prelude.{◌≡◌, List, ℕ}
use Rattle.model.specs.Meanings as m
use Rattle.model.specs.Meanings.{Env}
use Rattle.scopes.specs.Sets.{Declared}
use Rattle.stops.specs.Stops.{RepZ}
use Rattle.environment.specs.Meanings.{RepE}
use Rattle.environment.specs.declared.Place.{Place}

-- what p stands for lies below top
pub data RepPlace (l : List ℕ) (top : ℕ) (p : Place) : m.Place → Type 0 where
  is-nowhere : p.intro.0 ≡ 0 → RepPlace l top p m.nowhere
  is_use_lem : {e : Env} {zs : List ℕ} → Declared p.intro → RepE l top p.meanings e → RepZ l top p.stops zs
      → RepPlace l top p (m.macro_use p.intro.0 (record { phase = p.phase; meanings = e; stops = zs }))
