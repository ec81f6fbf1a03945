use Rattle.std.proofs.Common.{rules, ◌≡◌, ◌≤◌, ℕ, ◌⊎◌, inl, inr}
use Rattle.reports.proofs.division.Reading.next_group.Goals as goal
use Rattle.reports.proofs.division.Reading.next_group.Goals.{then-left-eq0-2-via-then-left-eq0-2, then-left-eq0-2-via-else-left-eq0-2+then-b-lt128}
use Rattle.reports.proofs.Dividing.{dividing_laws, group-zero, group-over, group-fifth, group-last}

fifth-few : {left b : ℕ} → left ≡ 0 → (left ≡ 0 × b ≤ 15) ⊎ (left ≡ 0 → ⊥) → b ≤ 15
fifth-few e (inl p) = p.1
fifth-few e (inr n) = absurd (n e)

pub returns-then-b-eq0 : goal.returns-then-b-eq0
returns-then-b-eq0 c = group-zero _ _ _ _ c.if-b-eq0.true

pub returns-then-b-gt15 : goal.returns-then-b-gt15
returns-then-b-gt15 c = group-over _ _ _ _ c.if-left-eq0.true c.if-b-gt15.true

pub returns-then-left-eq0-2 : goal.returns-then-left-eq0-2
returns-then-left-eq0-2 c = elim c.then-left-eq0-2.branch [
  | then-left-eq0-2-via-then-left-eq0-2 w ↦ group-fifth _ _ _ _ w.if-left-eq0-2.true (fifth-few w.if-left-eq0-2.true c.else-left-eq0.either) c.if-b-eq0.false c.image.ensures
  | then-left-eq0-2-via-else-left-eq0-2+then-b-lt128 w ↦ group-last _ _ _ _ w.if-left-eq0-2.false w.if-b-lt128.true c.if-b-eq0.false c.image.ensures
]

pub returns : goal.returns
returns c = search (dividing_laws, rules)
