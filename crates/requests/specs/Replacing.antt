-- Document 02, T-10, where is this bit used: one part of a tree replaced by another, and the summary brought up to date.
use Rattle.std.specs.Prelude.{ℕ, zero, suc, ◌+◌, ◌-◌, not, ◌&&◌, List, ◌++◌, eqb, ltb, leb, length, drop, get_or}
use Rattle.model.specs.Choice.{when◌then◌else◌}
use Rattle.model.specs.Limits.{most_nesting, most_image}
use Rattle.model.specs.Refusals.{too_long, over_limit}
use Rattle.model.specs.Objects.{Name, number}
use Rattle.model.specs.Trees.{Tree, var, app, fun, datum, lst, stx, Trees, tnil, tcons, tsize}
use Rattle.model.specs.Reading.{Read, Reader, got, fault, ◌>>=◌, ◌>>◌, give, Head, Image, at_end, read_tree, read_tree_image, read_image}
use Rattle.model.specs.Writing.{tree_image_bytes}
use Rattle.model.specs.Jobs.{Answer}
use Rattle.requests.specs.Uses.{Thing, things, uses, first_use, Entry, summary_words, UsesRefusal, base, other_tree, refused_answer, entry_in, belongs}

-- ---- the part at a place, how many levels are left for it, and the least tag that is read there: 0, or 2 where a value is wanted

pub record Spot : Type 0 where
  pub levels : ℕ
  pub low : ℕ
  pub part : Tree

-- where there is no such place
unfoldable pub nowhere : Spot
nowhere = record { levels = 0; low = 0; part = datum (number 0) }

abbrev here : ℕ → ℕ → Tree → Spot
here l low t = record { levels = l; low = low; part = t }

unfoldable mutual
  unfolding nowhere tsize

  pub spot : ℕ → ℕ → Tree → ℕ → Spot
  spot l low (var n) zero = here l low (var n)
  spot l low (var n) (suc p) = nowhere
  spot l low (app h r) zero = here l low (app h r)
  spot l low (app h r) (suc p) = when ltb p (tsize h) then spot (l - 1) 0 h p else spot_among (l - 1) 0 r (p - tsize h)
  spot l low (fun n b) zero = here l low (fun n b)
  spot l low (fun n b) (suc p) = spot (l - 1) 0 b p
  spot l low (datum a) zero = here l low (datum a)
  spot l low (datum a) (suc p) = nowhere
  spot l low (lst r) zero = here l low (lst r)
  spot l low (lst r) (suc p) = spot_among (l - 1) 2 r p
  spot l low (stx s) zero = here l low (stx s)
  spot l low (stx s) (suc p) = nowhere

  pub spot_among : ℕ → ℕ → Trees → ℕ → Spot
  spot_among l low tnil p = nowhere
  spot_among l low (tcons t r) p = when ltb p (tsize t) then spot l low t p else spot_among l low r (p - tsize t)

unfoldable pub spot_in : ℕ → Tree → Spot
unfolding spot most_nesting
spot_in p t = spot most_nesting 0 t p

-- ---- the tree with u in a place

unfoldable mutual
  unfolding tsize

  pub replaced : Tree → Tree → ℕ → Tree
  replaced u (var n) zero = u
  replaced u (var n) (suc p) = var n
  replaced u (app h r) zero = u
  replaced u (app h r) (suc p) = when ltb p (tsize h) then app (replaced u h p) r else app h (replaced_among u r (p - tsize h))
  replaced u (fun n b) zero = u
  replaced u (fun n b) (suc p) = fun n (replaced u b p)
  replaced u (datum a) zero = u
  replaced u (datum a) (suc p) = datum a
  replaced u (lst r) zero = u
  replaced u (lst r) (suc p) = lst (replaced_among u r p)
  replaced u (stx s) zero = u
  replaced u (stx s) (suc p) = stx s

  pub replaced_among : Tree → Trees → ℕ → Trees
  replaced_among u tnil p = tnil
  replaced_among u (tcons t r) p = when ltb p (tsize t) then tcons (replaced u t p) r else tcons t (replaced_among u r (p - tsize t))

-- ---- what the summary is brought up to date from: the place, the things of both parts, and those behind the old one, which are
-- looked at for a name whose first place was in the old part and that the new one has not

pub record Change : Type 0 where
  pub place : ℕ
  pub old : List Thing
  pub new : List Thing
  pub behind : List Thing

unfoldable pub largest : ℕ
largest = 4294967295

-- an invented summary may have entries that are too large
unfoldable pub capped : ℕ → ℕ
unfolding largest
capped n = when leb n largest then n else largest

unfoldable pub count_after : Change → Name → ℕ → ℕ
unfolding capped uses
count_after c n k = capped (k - uses n c.old + uses n c.new)

unfoldable pub searched : Change → Name → ℕ
unfolding uses first_use
searched c n = when eqb (uses n c.behind) 0 then 0 else c.place + length c.new + first_use n c.behind

unfoldable pub first_after : Change → Name → Entry → ℕ
unfolding count_after searched capped uses first_use
first_after c n e =
    when eqb (count_after c n e.count) 0 then 0
    else when not (eqb e.count 0) && ltb e.first c.place then e.first
    else when not (eqb (uses n c.new) 0) then c.place + first_use n c.new
    else when ltb e.first (c.place + length c.old) then searched c n
    else capped (e.first - length c.old + length c.new)

unfoldable pub entry_after : Change → (Name → Entry) → Name → Entry
unfolding count_after first_after
entry_after c e n = record { count = count_after c n (e n).count; first = first_after c n (e n) }

-- of the summary w
unfoldable pub brought_up : Change → ℕ → List ℕ → List ℕ
unfolding summary_words entry_after entry_in
brought_up c names w = summary_words (get_or w 0 0 - length c.old + length c.new) names (entry_after c (entry_in w))

unfoldable pub change_of : ℕ → Tree → Tree → Change
unfolding things spot_in
change_of p u t =
    let o = things (spot_in p t).part in
    record { place = p; old = o; new = things u; behind = drop (p + length o) (things t) }

-- ---- the replacement: 29, then the part's own faults, then 20

-- the part as it stands in an image, read as it would be in that place
unfoldable pub read_part : Head → Spot → Reader Tree
unfolding read_tree at_end most_image
read_part h o s =
    when leb (length s) most_image then (do
      u ← read_tree o.levels h o.low
      at_end
      give u) s
    else fault over_limit

pub data ReplaceEnding : Type 0 where
  refused : UsesRefusal → ReplaceEnding
  -- the new image, and the new summary
  made : List ℕ → List ℕ → ReplaceEnding

unfoldable pub with_part : ℕ → List ℕ → ℕ → Image Tree → Read Tree → ReplaceEnding
unfolding tree_image_bytes replaced brought_up change_of most_image
with_part room w p i (fault r) = refused (base r)
with_part room w p i (got u s) =
    let b = tree_image_bytes i.head (replaced u i.root p) in
    when leb (length b) room && leb (length b) most_image then made b (brought_up (change_of p u i.root) i.head.names w) else refused (base too_long)

unfoldable pub replace_in : ℕ → List ℕ → ℕ → List ℕ → Read (Image Tree) → ReplaceEnding
unfolding belongs tsize with_part read_part spot_in
replace_in room w p part (fault r) = refused (base r)
replace_in room w p part (got i s) =
    when belongs w i && ltb p (tsize i.root) then with_part room w p i (read_part i.head (spot_in p i.root) part)
    else refused other_tree

unfoldable pub replace_answer : ReplaceEnding → Answer
unfolding refused_answer
replace_answer (refused r) = refused_answer r
replace_answer (made b w) = record { code = 0; units = 0; name = 0; len = length b; first = 0; second = 0 }

-- every refusal leaves output and summary as they were
unfoldable pub output_after_replace : ReplaceEnding → List ℕ → List ℕ
output_after_replace (refused r) output = output
output_after_replace (made b w) output = b ++ drop (length b) output

unfoldable pub summary_after_replace : ReplaceEnding → List ℕ → List ℕ
summary_after_replace (refused r) lent = lent
summary_after_replace (made b w) lent = w ++ drop (length w) lent

pub record ReplaceResult : Type 0 where
  pub answer : Answer
  pub summary : List ℕ
  pub output : List ℕ

unfoldable pub replace_job : List ℕ → ℕ → List ℕ → List ℕ → List ℕ → ReplaceResult
unfolding replace_in replace_answer summary_after_replace output_after_replace read_image read_tree_image
replace_job image p part lent output =
    let e = replace_in (length output) lent p part (read_image read_tree_image image) in
    record { answer = replace_answer e; summary = summary_after_replace e lent; output = output_after_replace e output }
