-- A start-stop, its bit, and a rung that sees the bit: the words, and one scan after the start button, point 2, is pressed.
use Prim.Native.Nat.{ℕ}
use mathlib.Core.Path.{◌≡◌, refl}
use mathlib.Core.List.{List, [], ◌∷◌, map}
use Rattle.model.specs.Objects.{number, point, rung}
use Rattle.model.specs.Trees.{Tree, var, app, fun, datum, Trees, tnil, tcons}
use Rattle.ladder.specs.Code.{word_of, rungs}
use Rattle.ladder.specs.Running.{run, instructions_of}
use Rattle.ladder.specs.Places.{after_code}

two : Tree → Tree → Trees
two a b = tcons a (tcons b tnil)

-- point 1 holds itself until point 3 opens; the bit follows point 1; point 4 is both
program : Tree
unfolding two
program =
    let on = app (datum (rung 1)) (two (datum (point 2)) (datum (point 1))) in
    let motor = app (datum (rung 3)) (two (datum (point 1)) (app (datum (rung 0)) (two on (app (datum (rung 2)) (tcons (datum (point 3)) tnil))))) in
    let follows = app (datum (rung 4)) (two (var 7) (datum (point 1))) in
    let lamp = app (datum (rung 3)) (two (datum (point 4)) (app (datum (rung 0)) (two (datum (point 1)) (var 7)))) in
    app (fun 7 (app (datum (rung 5)) (tcons motor (two follows lamp)))) (tcons (datum (number 0)) tnil)

words : List ℕ
words = 2 ∷ 2049 ∷ 3 ∷ 8192 ∷ 6144 ∷ 9217 ∷ 1 ∷ 10240 ∷ 1 ∷ 4096 ∷ 9220 ∷ []

start_stop_wired : map word_of (rungs [] 0 program) ≡ words
unfolding program words word_of rungs
start_stop_wired = refl

-- what the bit's rung sets, the lamp's rung sees at once
start_stop_run : after_code words (0 ∷ 0 ∷ 1 ∷ 0 ∷ 0 ∷ []) (0 ∷ []) ≡ record { points = 0 ∷ 1 ∷ 1 ∷ 0 ∷ 1 ∷ []; bits = 1 ∷ [] }
unfolding words run instructions_of
start_stop_run = refl
