-- Document 02, T-11, smaller finished images: which bindings are dropped, which scopes are left, and how these are renumbered. What is promised of
-- the smaller image is `Finished`.
use Rattle.std.specs.Prelude.{ℕ, suc, Bool, false, ◌&&◌, ◌||◌, List, [], ◌∷◌, eqb, leb, length}
use Rattle.std.specs.Int.Bits.{bit_or}
use Rattle.model.specs.Choice.{when◌then◌else◌}
use Rattle.model.specs.Scopes.{Scope, Scopes, no_scopes, within, members}
use Rattle.model.specs.Objects.{symbol, number, point, prim, rung, Sets, Stx, atom, list, Stxs, nil, cons}
use Rattle.model.specs.Resolving.{Bind}
use Rattle.model.specs.Reading.{Read, got, fault, Head, Image, read_syntax, read_image}
use Rattle.model.specs.Writing.{syntax_bytes}
use Rattle.model.specs.Jobs.{Ending, with_image, fitted}
use Rattle.alike.specs.Renumbering.{renumber_bind, renumber_stx}

-- ---- bindings: dropped where no identifier of their symbol contains their set at some phase. Identifiers in quoted and `syntax` text count

unfoldable pub contains : Scopes → Sets → Bool
unfolding within
contains m c = within m c.at0 || (within m c.at1 || within m c.at2)

unfoldable mutual
  unfolding contains

  pub used_in : Bind → Stx → Bool
  used_in b (atom c (symbol x)) = eqb b.symb x && contains b.set c
  used_in b (atom c (number x)) = false
  used_in b (atom c (point x)) = false
  used_in b (atom c (prim x)) = false
  used_in b (atom c (rung x)) = false
  used_in b (list c l) = used_in_any b l

  pub used_in_any : Bind → Stxs → Bool
  used_in_any b nil = false
  used_in_any b (cons s l) = used_in b s || used_in_any b l

unfoldable pub kept : Stx → List Bind → List Bind
unfolding used_in
kept x [] = []
kept x (b ∷ l) = when used_in b x then b ∷ kept x l else kept x l

-- ---- scopes: dropped where they are in no remaining set, be it a kept binding's or an object's

unfoldable pub joined : Sets → Scopes
joined c = bit_or c.at0 (bit_or c.at1 c.at2)

unfoldable mutual
  unfolding joined

  pub scopes_in : Stx → Scopes
  scopes_in (atom c a) = joined c
  scopes_in (list c l) = bit_or (joined c) (scopes_in_all l)

  pub scopes_in_all : Stxs → Scopes
  scopes_in_all nil = no_scopes
  scopes_in_all (cons s l) = bit_or (scopes_in s) (scopes_in_all l)

unfoldable pub scopes_bound : List Bind → Scopes
scopes_bound [] = no_scopes
scopes_bound (b ∷ l) = bit_or b.set (scopes_bound l)

unfoldable pub remaining : List Bind → Stx → Scopes
unfolding scopes_bound kept scopes_in
remaining l x = bit_or (scopes_bound (kept x l)) (scopes_in x)

-- ---- the rest renumbered in order: scope k becomes the number of remaining scopes that are at most k

unfoldable pub rank_in : List Scope → Scope → Scope
rank_in [] k = 0
rank_in (j ∷ l) k = when leb j k then suc (rank_in l k) else rank_in l k

unfoldable pub rank : Scopes → Scope → Scope
unfolding rank_in members
rank u k = rank_in (members u) k

-- the order of bindings stays, since that of scopes does
unfoldable pub renumber_each : (Scope → Scope) → List Bind → List Bind
unfolding renumber_bind
renumber_each f [] = []
renumber_each f (b ∷ l) = renumber_bind f b ∷ renumber_each f l

-- ---- an image: names and words stay

unfoldable pub with_scopes : ℕ → Head → Head
with_scopes n h = record { words = h.words; names = h.names; scopes = n }

unfoldable pub shrunk : Image Stx → Image Stx
unfolding with_scopes remaining kept renumber_each renumber_stx rank members
shrunk i = record {
  head = with_scopes (length (members (remaining i.binds i.root))) i.head;
  binds = renumber_each (rank (remaining i.binds i.root)) (kept i.root i.binds);
  root = renumber_stx (rank (remaining i.binds i.root)) i.root;
}

unfoldable pub bytes_of : Image Stx → List ℕ
unfolding syntax_bytes
bytes_of i = syntax_bytes i.head i.binds i.root

-- ---- how the job ends, for an output of `room` bytes: it takes no phase and no budget, and charges nothing

unfoldable pub shrink_ending : List ℕ → ℕ → Ending
unfolding with_image read_image read_syntax fitted bytes_of shrunk
shrink_ending image room = with_image (read_image read_syntax image) (λ i. fitted room (bytes_of (shrunk i)) 0)

-- ---- the smaller image as bytes, whatever the output

unfoldable pub shrunk_read : Read (Image Stx) → List ℕ
unfolding bytes_of shrunk
shrunk_read (got i rest) = bytes_of (shrunk i)
shrunk_read (fault r) = []

unfoldable pub smaller : List ℕ → List ℕ
unfolding shrunk_read read_image read_syntax
smaller image = shrunk_read (read_image read_syntax image)
