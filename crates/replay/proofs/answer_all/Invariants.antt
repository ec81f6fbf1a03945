use Rattle.std.proofs.Common.{◌≡◌, length}
use Rattle.replay.proofs.answer_all.Given as goal

abbrev pub invariant-loop : goal.invariant-loop
invariant-loop l = (length l.image ≡ length l.initial.image) × (length l.behind ≡ length l.initial.behind) × (length l.behind ≡ 140000)
