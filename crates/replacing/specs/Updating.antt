-- What an entry is brought up to, in the code's words; and that this is the definition's.
use Rattle.std.specs.Prelude.{ℕ, ◌+◌, ◌-◌, ◌*◌, ◌≤◌, ◌<◌, ◌≡◌, Bool, not, ◌&&◌, List, eqb, ltb, length, get_or, Option, Some, None}
use Rattle.model.specs.Choice.{when◌then◌else◌}
use Rattle.requests.specs.Uses as u
use Rattle.requests.specs.Uses.{uses, first_use, entry_in}
use Rattle.requests.specs.Replacing as q
use Rattle.requests.specs.Replacing.{capped, count_after, first_after}
use Rattle.numbers.specs.Limits.{most_image}
use Rattle.head.specs.declared.Counts.{Counts}
use Rattle.places.specs.Reading.{along}
use Rattle.places.specs.declared.counting.Entry.{Entry}
use Rattle.places.specs.Counting.{Kept}
use Rattle.replacing.specs.declared.updating.Change.{Change}

unfoldable pub stays_before : Entry → ℕ → Bool
stays_before e place = not (eqb e.count 0) && ltb e.first place

-- none where it must be searched for behind the old part
unfoldable pub first_of : Entry → ℕ → Entry → Change → Option ℕ
unfolding capped stays_before
first_of e count come c =
    when eqb count 0 then Some 0
    else when stays_before e c.place then Some e.first
    else when not (eqb come.count 0) then Some (c.place + come.first)
    else when ltb e.first (c.place + c.old) then None
    else Some (capped (e.first - c.old + c.new))

pub record Small (c : Change) : Type 0 where
  pub place-to : c.place ≤ most_image
  pub old-to : c.old ≤ most_image
  pub new-to : c.new ≤ most_image

-- no first place is large
abbrev pub Firsts : ℕ → List ℕ → Type 0
Firsts names words = (n : ℕ) → n < names → get_or words (3 + 2 * n) 0 ≤ most_image

-- the code's change is this one, and what lies behind is read along `count` things of s
pub record Means (M : q.Change) (c : Change) (count : ℕ) (s : List ℕ) (k : Counts) : Type 0 where
  pub place_is : c.place ≡ M.place
  pub old-is : c.old ≡ length M.old
  pub new_is : c.new ≡ length M.new
  pub behind-is : along k count s ≡ M.behind
  pub behind-count : count ≡ length M.behind

abbrev pub entry_of : Entry → u.Entry
entry_of e = record { count = e.count; first = e.first }

pub record EntryAfter (M : q.Change) (n : ℕ) (e : Entry) (r : Entry) : Type 0 where
  pub count-is : r.count ≡ count_after M n e.count
  pub first-is : r.first ≡ first_after M n (entry_of e)

abbrev pub RenewsEntry : Entry → ℕ → Entry → Change → ℕ → List ℕ → Counts → ℕ → Entry → Type 0
RenewsEntry e gone come c count s k n r =
    (M : q.Change) → Means M c count s k → gone ≡ uses n M.old → come.count ≡ uses n M.new → come.first ≡ first_use n M.new → EntryAfter M n e r

-- the words hold what both parts have
pub record Tells (M : q.Change) (names : ℕ) (old new : List ℕ) : Type 0 where
  pub gone : (n : ℕ) → n < names → get_or old (2 + 2 * n) 0 ≡ uses n M.old
  pub come : (n : ℕ) → n < names → get_or new (2 + 2 * n) 0 ≡ uses n M.new
  pub come-first : (n : ℕ) → n < names → get_or new (3 + 2 * n) 0 ≡ first_use n M.new

pub record Renewed (M : q.Change) (names : ℕ) (words words' : List ℕ) : Type 0 where
  pub counts : (n : ℕ) → n < names → get_or words' (2 + 2 * n) 0 ≡ count_after M n (get_or words (2 + 2 * n) 0)
  pub firsts : (n : ℕ) → n < names → get_or words' (3 + 2 * n) 0 ≡ first_after M n (entry_in words n)

pub record Renews (old new : List ℕ) (c : Change) (count : ℕ) (s : List ℕ) (k : Counts) (words words' : List ℕ) : Type 0 where
  pub kept : Kept k.names words words'
  pub renewed : (M : q.Change) → Means M c count s k → Tells M k.names old new → Renewed M k.names words words'
