-- Document 02, T-02, scan runner: what the scans write where, for laws: the addresses that `set` writes, and what was recorded last for a point.
use Rattle.std.specs.Prelude.{ℕ, suc, ◌+◌, List, [], ◌∷◌, ◌++◌, eqb, length}
use Rattle.model.specs.Choice.{when◌then◌else◌}
use Rattle.model.specs.Trees.{Tree, var, app, fun, datum, lst, stx, Trees, tnil, tcons}
use Rattle.requests.specs.Panel as p
use Rattle.requests.specs.Panel.{Word, bit, and, or, out, all, free, head_word, bits_of}
use Rattle.requests.specs.Recording.{Change}
use Rattle.requests.specs.Scanning.{Bit, address_in}

-- ---- the addresses that `set` writes

unfoldable pub address_of : List Bit → Tree → List ℕ
unfolding address_in
address_of around (var n) = address_in around n ∷ []
address_of around (app h l) = []
address_of around (fun n b) = []
address_of around (datum a) = []
address_of around (lst l) = []
address_of around (stx s) = []

unfoldable pub first_address : List Bit → Trees → List ℕ
unfolding address_of
first_address around tnil = []
first_address around (tcons t l) = address_of around t

unfoldable pub assigned_of : Word → List Bit → Trees → List ℕ → List ℕ → List ℕ
unfolding first_address
assigned_of bit around l body parts = body
assigned_of and around l body parts = []
assigned_of or around l body parts = []
assigned_of p.not around l body parts = []
assigned_of out around l body parts = []
assigned_of p.set around l body parts = first_address around l
assigned_of all around l body parts = parts
assigned_of free around l body parts = []

unfoldable mutual
  unfolding head_word bits_of assigned_of

  pub assigned : List Bit → ℕ → Tree → List ℕ
  assigned around next (var n) = []
  assigned around next (app h l) = assigned_of (head_word h) around l (assigned_inside around next h) (assigned_all around next l)
  assigned around next (fun n b) = []
  assigned around next (datum a) = []
  assigned around next (lst l) = []
  assigned around next (stx x) = []

  pub assigned_inside : List Bit → ℕ → Tree → List ℕ
  assigned_inside around next (var n) = []
  assigned_inside around next (app h l) = []
  assigned_inside around next (fun n b) = assigned (record { name = n; address = next } ∷ around) (suc next) b
  assigned_inside around next (datum a) = []
  assigned_inside around next (lst l) = []
  assigned_inside around next (stx x) = []

  pub assigned_all : List Bit → ℕ → Trees → List ℕ
  assigned_all around next tnil = []
  assigned_all around next (tcons t l) = assigned around next t ++ assigned_all around (next + length (bits_of t)) l

-- what was recorded last for point x, or v
unfoldable pub recorded_in : ℕ → List Change → ℕ → ℕ
recorded_in x [] v = v
recorded_in x (c ∷ l) v = recorded_in x l (when eqb x c.place then c.value else v)

unfoldable pub recorded_last : ℕ → List (List Change) → ℕ → ℕ
unfolding recorded_in
recorded_last x [] v = v
recorded_last x (c ∷ l) v = recorded_last x l (recorded_in x c v)
