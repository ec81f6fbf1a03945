-- The root written piece by piece, by the steps that the code takes.
use Prim.Native.Nat.{ℕ, ◌-◌, ◌≤◌, ◌<◌}
use mathlib.Core.Path.{◌≡◌, refl, sym, ap, ◌∙◌, subst}
use mathlib.Core.List.{List, [], ◌∷◌, ◌++◌}
use native.Mathlib.Omega.{arith}
use lib.ListN.{length, length-append}
use Rattle.table.specs.declared.Sets.{Sets}
use Rattle.things.specs.Rep.{sets_of}
use Rattle.builder.specs.Fronts.{FrontHere, FrontRead}
use Rattle.pieces.specs.Pieces.{Piece, root_pieces}
use Rattle.marking.specs.Roots.{Ahead}
use Rattle.marking.proofs.AheadLaws.{Next, next, front-here, tag_is, sets-are, number_is, ahead_less, ahead_on, ahead-end}
use Rattle.text.specs.Placing.{Placed}
use Rattle.text.proofs.Placing.{Placing, begun, ended, placing_more}
use Rattle.ranking.specs.Numbered.{piece_by, pieces_by, RoomFor, RootRoom}

by-more : (ranks : List ℕ) (p : Piece) (l : List Piece) → pieces_by ranks (p ∷ l) ≡ piece_by ranks p ++ pieces_by ranks l
unfolding pieces_by
by-more ranks p l = refl

by-none : (ranks : List ℕ) → pieces_by ranks [] ≡ []
unfolding pieces_by
by-none ranks = refl

-- the pieces from `from` on are still to be written
pub record Rooting (out₀ : List ℕ) (at : ℕ) (ranks image : List ℕ) (scopes : ℕ) (out : List ℕ) (here from : ℕ) : Type 0 where
  pub room : RoomFor out₀ at ranks (pieces_by ranks (root_pieces image))
  pub rest : List Piece
  pub ahead : Ahead image scopes from rest
  pub placing : Placing out₀ at (pieces_by ranks (root_pieces image)) out here (pieces_by ranks rest)

pub rooting_start : {out : List ℕ} {at : ℕ} {ranks image : List ℕ} {scopes root : ℕ} → RootRoom out at ranks image scopes root → Rooting out at ranks image scopes out at root
rooting_start {image = image} r = record { room = r.room; rest = root_pieces image; ahead = r.ahead; placing = begun }

module _ {out₀ : List ℕ} {at : ℕ} {ranks image : List ℕ} {scopes : ℕ} {out : List ℕ} {here from : ℕ} (r : Rooting out₀ at ranks image scopes out here from) where
  pub rooting_end : length image ≤ from → Placed out₀ at (pieces_by ranks (root_pieces image)) out here
  rooting_end h = ended (subst (Placing out₀ at (pieces_by ranks (root_pieces image)) out here) (ap (pieces_by ranks) (ahead-end r.ahead h) ∙ by-none ranks) r.placing)

  module _ (h : from < length image) where
    pub rooting_here : FrontHere image from scopes
    rooting_here = front-here r.ahead h

    module _ {tag : ℕ} {sets : Sets} {number past : ℕ} (f : FrontRead image from scopes tag sets number past) where
      pub rooting_less : length image - past < length image - from
      rooting_less = ahead_less r.ahead h f

      abbrev N : Next r.rest
      N = next r.ahead h

      abbrev read : Piece
      read = record { tag = tag; sets = sets_of sets; content = number }

      bytes : pieces_by ranks r.rest ≡ piece_by ranks read ++ pieces_by ranks N.behind
      bytes =
          ap (pieces_by ranks) N.is ∙ by-more ranks N.piece N.behind
          ∙ (λ i. piece_by ranks (record { tag = sym (tag_is r.ahead h f) i; sets = sym (sets-are r.ahead h f) i; content = sym (number_is r.ahead h f) i }) ++ pieces_by ranks N.behind)

      pub rooting_room : RoomFor out here ranks (piece_by ranks (record { tag = tag; sets = sets_of sets; content = number }))
      rooting_room =
          let a = ap length bytes in
          let b = length-append (piece_by ranks read) (pieces_by ranks N.behind) in
          let c = r.placing.ends in
          let d = r.placing.same in
          let e = r.room.room in
          record { numbers = r.room.numbers; room = omega arith }

      pub rooting_on : {out' : List ℕ} {here' : ℕ} → Placed out here (piece_by ranks (record { tag = tag; sets = sets_of sets; content = number })) out' here'
          → Rooting out₀ at ranks image scopes out' here' past
      rooting_on w = record {
        room = r.room;
        rest = N.behind;
        ahead = ahead_on r.ahead h f;
        placing = placing_more {xs = piece_by ranks read} (subst (Placing out₀ at (pieces_by ranks (root_pieces image)) out here) bytes r.placing) w;
      }

pub ruleset root_laws = (rooting_start, rooting_end, rooting_here, rooting_less, rooting_room, rooting_on)
