-- What is left after a reading is a tail of what was there: the law that every reader of an image keeps.
use Prim.Native.Nat.{ℕ, zero, suc, ◌+◌, ◌-◌, ◌*◌, ◌≤◌, ◌<◌}
use mathlib.Core.Path.{◌≡◌, refl, ap, ◌∙◌}
use mathlib.Core.List.{List, [], ◌∷◌}
use mathlib.Core.Bool.{Bool, true, false, not}
use native.Mathlib.Omega.{arith}
use lib.ListN.{length, drop, length-drop}
use lib.Seq.{drop-drop}
use lib.Dec.{eqb, ltb, leb}
use Rattle.model.specs.Choice.{when◌then◌else◌}
use Rattle.model.specs.Refusals.{Refusal, layout, over_limit}
use Rattle.model.specs.Reading.{Read, Reader, got, fault, next, need, byte, groups, num, num_up_to, num_below}

-- rest is s behind some bytes of it
pub record Behind (s rest : List ℕ) : Type 0 where
  pub by : ℕ
  pub within : by ≤ length s
  pub is : rest ≡ drop by s

pub behind-all : (s : List ℕ) → Behind s s
behind-all s = record { by = 0; within = omega arith; is = refl }

pub behind-one : (b : ℕ) (s : List ℕ) → Behind (b ∷ s) s
behind-one b s = record { by = 1; within = omega arith; is = refl }

pub behind_trans : {s mid rest : List ℕ} → Behind s mid → Behind mid rest → Behind s rest
behind_trans {s} {mid} {rest} b d =
    let m : length mid ≡ length s - b.by = ap length b.is ∙ length-drop b.by s in
    let e : rest ≡ drop (b.by + d.by) s = d.is ∙ ap (drop d.by) b.is ∙ drop-drop d.by b.by s in
    let h = b.within in
    let k = d.within in
    record { by = b.by + d.by; within = omega arith; is = e }

pub data Tail {A : Type 0} (s : List ℕ) : Read A → Type 0 where
  tail_got : {a : A} {rest : List ℕ} → Behind s rest → Tail s (got a rest)
  tail_fault : {r : Refusal} → Tail s (fault r)

pub tail_give : {A : Type 0} (a : A) (s : List ℕ) → Tail s (got a s)
tail_give a s = tail_got (behind-all s)

pub tail_from : {A : Type 0} {s mid : List ℕ} {g : Read A} → Behind s mid → Tail mid g → Tail s g
tail_from b (tail_got d) = tail_got (behind_trans b d)
tail_from b tail_fault = tail_fault

pub tail_next : {A B : Type 0} {s : List ℕ} {g : Read A} (f : A → Reader B) → Tail s g → ((a : A) (mid : List ℕ) → Tail mid (f a mid)) → Tail s (next g f)
tail_next f (tail_got {a = a} {rest = mid} b) h = tail_from b (h a mid)
tail_next f tail_fault h = tail_fault

pub tail_need : (c : Refusal) (t : Bool) (s : List ℕ) → Tail s (need c t s)
tail_need c true s = tail_give tt s
tail_need c false s = tail_fault

pub tail_if : {A : Type 0} (t : Bool) (m n : Reader A) {s : List ℕ} → Tail s (m s) → Tail s (n s) → Tail s ((when t then m else n) s)
tail_if true m n p q = p
tail_if false m n p q = q

byte_tail : (s : List ℕ) → Tail s (byte s)
unfolding byte
byte_tail [] = tail_fault
byte_tail (b ∷ s) = tail_got (behind-one b s)

groups_tail : (k w n : ℕ) (s : List ℕ) → Tail s (groups k w n s)
unfolding groups
groups_tail zero w n s =
    tail_next _ (byte_tail s) (λ b t. tail_next _ (tail_need over_limit (leb b 15) t) (λ x u.
    tail_next _ (tail_need layout (not (eqb b 0)) u) (λ y v. tail_give (n + b * w) v)))
groups_tail (suc k) w n s =
    tail_next _ (byte_tail s) (λ b t. tail_if (ltb b 128) _ _
    (tail_next _ (tail_need layout (not (eqb b 0)) t) (λ y v. tail_give (n + b * w) v))
    (groups_tail k (w * 128) (n + (b - 128) * w) t))

pub num_tail : (s : List ℕ) → Tail s (num s)
unfolding num
num_tail s = tail_next _ (byte_tail s) (λ b t. tail_if (ltb b 128) _ _ (tail_give b t) (groups_tail 3 128 (b - 128) t))

pub up_to_tail : (c : Refusal) (m : ℕ) (s : List ℕ) → Tail s (num_up_to c m s)
unfolding num_up_to
up_to_tail c m s = tail_next _ (num_tail s) (λ n t. tail_next _ (tail_need c (leb n m) t) (λ x u. tail_give n u))

pub below_tail : (m : ℕ) (s : List ℕ) → Tail s (num_below m s)
unfolding num_below
below_tail m s = tail_next _ (num_tail s) (λ n t. tail_next _ (tail_need layout (ltb n m) t) (λ x u. tail_give n u))

-- ---- at least one byte is taken

pub data Shrinks {A : Type 0} (s : List ℕ) : Read A → Type 0 where
  shrinks_got : {a : A} {rest : List ℕ} → length rest < length s → Shrinks s (got a rest)
  shrinks_fault : {r : Refusal} → Shrinks s (fault r)

pub behind-short : {s rest : List ℕ} → Behind s rest → length rest ≤ length s
behind-short {s} {rest} b = let l : length rest ≡ length s - b.by = ap length b.is ∙ length-drop b.by s in omega arith

shrinks_by : {A : Type 0} {s t : List ℕ} {g : Read A} → length t < length s → Tail t g → Shrinks s g
shrinks_by {s = s} h (tail_got {rest = rest} b) = let l = behind-short b in let k : length rest < length s = omega arith in shrinks_got k
shrinks_by h tail_fault = shrinks_fault

pub shrinks_next : {A B : Type 0} {s : List ℕ} {g : Read A} (f : A → Reader B) → Shrinks s g → ((a : A) (mid : List ℕ) → Tail mid (f a mid)) → Shrinks s (next g f)
shrinks_next f (shrinks_got {a = a} {rest = mid} h) k = shrinks_by h (k a mid)
shrinks_next f shrinks_fault k = shrinks_fault

byte_shrinks : (s : List ℕ) → Shrinks s (byte s)
unfolding byte
byte_shrinks [] = shrinks_fault
byte_shrinks (b ∷ s) = let k : length s < suc (length s) = omega arith in shrinks_got k

pub num_shrinks : (s : List ℕ) → Shrinks s (num s)
unfolding num
num_shrinks s = shrinks_next _ (byte_shrinks s) (λ b t. tail_if (ltb b 128) _ _ (tail_give b t) (groups_tail 3 128 (b - 128) t))

pub up_to_shrinks : (c : Refusal) (m : ℕ) (s : List ℕ) → Shrinks s (num_up_to c m s)
unfolding num_up_to
up_to_shrinks c m s = shrinks_next _ (num_shrinks s) (λ n t. tail_next _ (tail_need c (leb n m) t) (λ x u. tail_give n u))
