-- Sets, bindings and pieces written part by part.
use Prim.Native.Nat.{ℕ, ◌+◌, ◌≤◌}
use mathlib.Core.Path.{◌≡◌, refl, sym, ap, ◌∙◌, subst}
use mathlib.Core.List.{List, ◌++◌}
use native.Mathlib.Omega.{arith}
use lib.ListN.{length, length-append}
use lib.Seq.{sets}
use Rattle.model.specs.Scopes.{Scopes, members}
use Rattle.model.specs.Objects.{Sets}
use Rattle.model.specs.Writing.{num_bytes, nums_bytes, list_bytes}
use Rattle.alike.specs.Renumbering.{mapped}
use Rattle.shrinking.proofs.Within.{mapped-length}
use Rattle.text.specs.Placing.{Placed}
use Rattle.text.proofs.Placing.{placed_then, placed-length, renamed}
use Rattle.ranking.specs.Numbered.{numbered, members_by, set_by, sets_by, piece_by, bind_by, MembersRoom, RoomFor}

-- ---- one part and then another

module _ {out : List ℕ} {at : ℕ} {ranks : List ℕ} (a b : List ℕ) where
  pub first-room : RoomFor out at ranks (a ++ b) → RoomFor out at ranks a
  first-room r = let l = length-append a b in let h = r.room in record { numbers = r.numbers; room = omega arith }

  pub then_room : {out₁ : List ℕ} {p : ℕ} → RoomFor out at ranks (a ++ b) → Placed out at a out₁ p → RoomFor out₁ p ranks b
  then_room r w =
      let l = length-append a b in
      let h = r.room in
      let e = w.ends in
      let s = placed-length w in
      record { numbers = r.numbers; room = omega arith }

-- ---- a set

module _ {out : List ℕ} {at : ℕ} {ranks : List ℕ} (m : Scopes) (r : RoomFor out at ranks (set_by ranks m)) {count : ℕ} (e : count ≡ length (members m)) where
  set-parts : set_by ranks m ≡ num_bytes count ++ members_by ranks m
  unfolding set_by list_bytes members_by
  set-parts = ap (λ (n : ℕ). num_bytes n ++ nums_bytes (mapped (numbered ranks) (members m))) (mapped-length (numbered ranks) (members m) ∙ sym e)

  split : RoomFor out at ranks (num_bytes count ++ members_by ranks m)
  split = subst (RoomFor out at ranks) set-parts r

  pub count_room : at + length (num_bytes count) ≤ length out
  count_room = (first-room (num_bytes count) (members_by ranks m) split).room

  module _ {out₁ : List ℕ} {p : ℕ} (i : p ≡ at + length (num_bytes count)) (o : out₁ ≡ sets out at (num_bytes count)) where
    first : Placed out at (num_bytes count) out₁ p
    first = record { ends = i; is = o }

    pub members-room : MembersRoom out₁ p ranks m count
    members-room = record { numbers = r.numbers; all = e; room = (then_room (num_bytes count) (members_by ranks m) split first).room }

    pub set-placed : {out₂ : List ℕ} {q : ℕ} → Placed out₁ p (members_by ranks m) out₂ q → Placed out at (set_by ranks m) out₂ q
    set-placed w = renamed (sym set-parts) (placed_then first w)

    pub set-length : {out₂ : List ℕ} {q : ℕ} → Placed out₁ p (members_by ranks m) out₂ q → length out₂ ≡ length out
    set-length w = placed-length (placed_then first w)

pub ruleset set_laws = (count_room, members-room, set-placed, set-length)

-- ---- three sets

module _ {out : List ℕ} {at : ℕ} {ranks : List ℕ} (a b d : Scopes) (r : RoomFor out at ranks (sets_by ranks (record { at0 = a; at1 = b; at2 = d }))) where
  three : sets_by ranks (record { at0 = a; at1 = b; at2 = d }) ≡ set_by ranks a ++ set_by ranks b ++ set_by ranks d
  unfolding sets_by
  three = refl

  whole : RoomFor out at ranks (set_by ranks a ++ set_by ranks b ++ set_by ranks d)
  whole = subst (RoomFor out at ranks) three r

  two : RoomFor out at ranks (set_by ranks a ++ set_by ranks b)
  two = first-room (set_by ranks a ++ set_by ranks b) (set_by ranks d) whole

  pub sets_first : RoomFor out at ranks (set_by ranks a)
  sets_first = first-room (set_by ranks a) (set_by ranks b) two

  module _ {out₁ : List ℕ} {p : ℕ} (w : Placed out at (set_by ranks a) out₁ p) where
    pub sets-second : RoomFor out₁ p ranks (set_by ranks b)
    sets-second = then_room (set_by ranks a) (set_by ranks b) two w

    module _ {out₂ : List ℕ} {q : ℕ} (v : Placed out₁ p (set_by ranks b) out₂ q) where
      pub sets-third : RoomFor out₂ q ranks (set_by ranks d)
      sets-third = then_room (set_by ranks a ++ set_by ranks b) (set_by ranks d) whole (placed_then w v)

      pub sets-placed : {out₃ : List ℕ} {t : ℕ} → Placed out₂ q (set_by ranks d) out₃ t → Placed out at (sets_by ranks (record { at0 = a; at1 = b; at2 = d })) out₃ t
      sets-placed x = renamed (sym three) (placed_then (placed_then w v) x)

      pub sets-length : {out₃ : List ℕ} {t : ℕ} → Placed out₂ q (set_by ranks d) out₃ t → length out₃ ≡ length out
      sets-length x = placed-length (placed_then (placed_then w v) x)

pub ruleset sets_laws = (sets_first, sets-second, sets-third, sets-placed, sets-length)

-- ---- a binding

module _ {out : List ℕ} {at : ℕ} {ranks : List ℕ} (x y : ℕ) (m : Scopes) (r : RoomFor out at ranks (bind_by ranks (record { symb = x; target = y; set = m }))) where
  parts : bind_by ranks (record { symb = x; target = y; set = m }) ≡ num_bytes x ++ num_bytes y ++ set_by ranks m
  unfolding bind_by
  parts = refl

  all : RoomFor out at ranks (num_bytes x ++ num_bytes y ++ set_by ranks m)
  all = subst (RoomFor out at ranks) parts r

  both : RoomFor out at ranks (num_bytes x ++ num_bytes y)
  both = first-room (num_bytes x ++ num_bytes y) (set_by ranks m) all

  pub bind-first : at + length (num_bytes x) ≤ length out
  bind-first = (first-room (num_bytes x) (num_bytes y) both).room

  module _ {out₁ : List ℕ} {p : ℕ} (i : p ≡ at + length (num_bytes x)) (o : out₁ ≡ sets out at (num_bytes x)) where
    one : Placed out at (num_bytes x) out₁ p
    one = record { ends = i; is = o }

    pub bind-second : p + length (num_bytes y) ≤ length out₁
    bind-second = (then_room (num_bytes x) (num_bytes y) both one).room

    module _ {out₂ : List ℕ} {q : ℕ} (j : q ≡ p + length (num_bytes y)) (u : out₂ ≡ sets out₁ p (num_bytes y)) where
      ahead : Placed out at (num_bytes x ++ num_bytes y) out₂ q
      ahead = placed_then one (record { ends = j; is = u })

      pub bind-third : RoomFor out₂ q ranks (set_by ranks m)
      bind-third = then_room (num_bytes x ++ num_bytes y) (set_by ranks m) all ahead

      pub bind-placed : {out₃ : List ℕ} {t : ℕ} → Placed out₂ q (set_by ranks m) out₃ t → Placed out at (bind_by ranks (record { symb = x; target = y; set = m })) out₃ t
      bind-placed w = renamed (sym parts) (placed_then ahead w)

      pub bind-length : {out₃ : List ℕ} {t : ℕ} → Placed out₂ q (set_by ranks m) out₃ t → length out₃ ≡ length out
      bind-length w = placed-length (placed_then ahead w)

pub ruleset bind_laws = (bind-first, bind-second, bind-third, bind-placed, bind-length)

-- ---- a piece

module _ {out : List ℕ} {at : ℕ} {ranks : List ℕ} (x : ℕ) (c : Sets) (y : ℕ) (r : RoomFor out at ranks (piece_by ranks (record { tag = x; sets = c; content = y }))) where
  bits : piece_by ranks (record { tag = x; sets = c; content = y }) ≡ num_bytes x ++ sets_by ranks c ++ num_bytes y
  unfolding piece_by
  bits = refl

  entire : RoomFor out at ranks (num_bytes x ++ sets_by ranks c ++ num_bytes y)
  entire = subst (RoomFor out at ranks) bits r

  front : RoomFor out at ranks (num_bytes x ++ sets_by ranks c)
  front = first-room (num_bytes x ++ sets_by ranks c) (num_bytes y) entire

  pub piece-first : at + length (num_bytes x) ≤ length out
  piece-first = (first-room (num_bytes x) (sets_by ranks c) front).room

  module _ {out₁ : List ℕ} {p : ℕ} (i : p ≡ at + length (num_bytes x)) (o : out₁ ≡ sets out at (num_bytes x)) where
    tagged : Placed out at (num_bytes x) out₁ p
    tagged = record { ends = i; is = o }

    pub piece-second : RoomFor out₁ p ranks (sets_by ranks c)
    piece-second = then_room (num_bytes x) (sets_by ranks c) front tagged

    module _ {out₂ : List ℕ} {q : ℕ} (w : Placed out₁ p (sets_by ranks c) out₂ q) where
      pub piece-third : q + length (num_bytes y) ≤ length out₂
      piece-third = (then_room (num_bytes x ++ sets_by ranks c) (num_bytes y) entire (placed_then tagged w)).room

      module _ {out₃ : List ℕ} {t : ℕ} (j : t ≡ q + length (num_bytes y)) (u : out₃ ≡ sets out₂ q (num_bytes y)) where
        pub piece-placed : Placed out at (piece_by ranks (record { tag = x; sets = c; content = y })) out₃ t
        piece-placed = renamed (sym bits) (placed_then (placed_then tagged w) (record { ends = j; is = u }))

        pub piece-length : length out₃ ≡ length out
        piece-length = placed-length piece-placed

pub ruleset piece_laws = (piece-first, piece-second, piece-third, piece-placed, piece-length)
