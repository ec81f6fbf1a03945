-- What is written of sets, bindings and pieces, their scopes numbered by a list.
use Rattle.std.specs.Prelude.{ℕ, ◌+◌, ◌*◌, ◌≤◌, ◌<◌, ◌≡◌, List, [], ◌∷◌, ◌++◌, length, get_or}
use Rattle.model.specs.Scopes.{Scope, Scopes, members}
use Rattle.model.specs.Objects.{Sets}
use Rattle.model.specs.Resolving.{Bind}
use Rattle.model.specs.Writing.{num_bytes, nums_bytes, list_bytes}
use Rattle.alike.specs.Renumbering.{mapped}
use Rattle.pieces.specs.Pieces.{Piece, root_pieces}
use Rattle.scopes.specs.Sets.{set_scopes}
use Rattle.store.specs.Sizes.{binding_size}
use Rattle.marking.specs.Roots.{RootAt}
use Rattle.marking.specs.Kept.{kept_of}

-- the number of scope k
abbrev pub numbered : List ℕ → Scope → Scope
numbered ranks k = get_or ranks k 0

unfoldable pub members_by : List ℕ → Scopes → List ℕ
unfolding nums_bytes mapped members
members_by ranks m = nums_bytes (mapped (numbered ranks) (members m))

unfoldable pub set_by : List ℕ → Scopes → List ℕ
unfolding list_bytes mapped members
set_by ranks m = list_bytes (mapped (numbered ranks) (members m))

unfoldable pub sets_by : List ℕ → Sets → List ℕ
unfolding set_by
sets_by ranks c = set_by ranks c.at0 ++ set_by ranks c.at1 ++ set_by ranks c.at2

unfoldable pub piece_by : List ℕ → Piece → List ℕ
unfolding num_bytes sets_by
piece_by ranks p = num_bytes p.tag ++ sets_by ranks p.sets ++ num_bytes p.content

unfoldable pub pieces_by : List ℕ → List Piece → List ℕ
unfolding piece_by
pieces_by ranks [] = []
pieces_by ranks (p ∷ l) = piece_by ranks p ++ pieces_by ranks l

unfoldable pub bind_by : List ℕ → Bind → List ℕ
unfolding num_bytes set_by
bind_by ranks b = num_bytes b.symb ++ num_bytes b.target ++ set_by ranks b.set

unfoldable pub binds_by : List ℕ → List Bind → List ℕ
unfolding bind_by
binds_by ranks [] = []
binds_by ranks (b ∷ l) = bind_by ranks b ++ binds_by ranks l

-- ---- what is asked: a number for each scope, and room for the bytes

pub record MembersRoom (out : List ℕ) (at : ℕ) (ranks : List ℕ) (m : Scopes) (count : ℕ) : Type 0 where
  pub numbers : set_scopes < length ranks
  pub all : count ≡ length (members m)
  pub room : at + length (members_by ranks m) ≤ length out

pub record RoomFor (out : List ℕ) (at : ℕ) (ranks bytes : List ℕ) : Type 0 where
  pub numbers : set_scopes < length ranks
  pub room : at + length bytes ≤ length out

pub record RootRoom (out : List ℕ) (at : ℕ) (ranks image : List ℕ) (scopes root : ℕ) : Type 0 where
  pub room : RoomFor out at ranks (pieces_by ranks (root_pieces image))
  pub ahead : RootAt image scopes root

pub record KeptRoom (out : List ℕ) (at : ℕ) (ranks store marks : List ℕ) : Type 0 where
  pub room : RoomFor out at ranks (binds_by ranks (kept_of marks store))
  pub held : length marks * binding_size ≤ length store
