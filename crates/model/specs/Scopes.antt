-- Document 01, 'Things and their numbers' and 'The image': scope sets and their order.
-- A set is a number: scope k, counted from 1, is a member where the binary digit of weight 2 ^ (k - 1) is 1. The empty set is `no_scopes`.
use Rattle.std.specs.Prelude.{ℕ, zero, suc, ◌/◌, ◌%◌, ◌^◌, Bool, true, false, List, [], ◌∷◌, eqb, ltb}
use Rattle.std.specs.Int.Bits.{bit_and, bit_or, bit_xor}
use Rattle.model.specs.Choice.{when◌then◌else◌}
use Rattle.model.specs.Limits.{most_scopes}

-- Which scopes each operation's result has is a law of its own: `has-only`, `has-add`, `has-prune`, `has-flip`, `within→sub` and `sub→within`; sets with
-- the same members are the same: `set_ext` (`laws/proofs/ScopeSets`).
abbrev pub Scope : Type 0
Scope = ℕ

abbrev pub Scopes : Type 0
Scopes = ℕ

abbrev pub no_scopes : Scopes
no_scopes = 0

-- the digit of weight 2 ^ k
unfoldable pub digit : ℕ → Scopes → Bool
digit zero m = eqb (m % 2) 1
digit (suc k) m = digit k (m / 2)

-- scope k is a member
unfoldable pub has : Scope → Scopes → Bool
unfolding digit
has zero m = false
has (suc k) m = digit k m

-- the set with scope k alone
unfoldable pub only : Scope → Scopes
only zero = no_scopes
only (suc k) = 2 ^ k

unfoldable pub add : Scope → Scopes → Scopes
unfolding only
add k m = bit_or (only k) m

-- m without the members of p
unfoldable pub prune : Scopes → Scopes → Scopes
prune p m = bit_xor m (bit_and p m)

-- take scope k out if it is there, else put it in
unfoldable pub flip : Scope → Scopes → Scopes
unfolding has only add prune
flip k m = when has k m then prune (only k) m else add k m

-- every member of a is one of b
unfoldable pub within : Scopes → Scopes → Bool
within a b = eqb (bit_and a b) a

-- ---- a set as the ascending list of its members

unfoldable pub keep : Bool → Scope → List Scope → List Scope
keep true n l = n ∷ l
keep false n l = l

-- the members among the c scopes from n on; m is the set divided by 2 ^ (n - 1)
unfoldable pub members_from : ℕ → Scope → Scopes → List Scope
unfolding keep
members_from zero n m = []
members_from (suc c) n m = keep (eqb (m % 2) 1) n (members_from c (suc n) (m / 2))

unfoldable pub members : Scopes → List Scope
unfolding members_from most_scopes
members m = members_from most_scopes 1 m

-- ---- the order of sets: that of these lists, a proper prefix first

-- less in what is compared first, or equal there and less in the rest
unfoldable pub less_then : Bool → Bool → Bool → Bool
less_then true e r = true
less_then false true r = r
less_then false false r = false

unfoldable pub list_before : List Scope → List Scope → Bool
unfolding less_then
list_before [] [] = false
list_before [] (y ∷ ys) = true
list_before (x ∷ xs) [] = false
list_before (x ∷ xs) (y ∷ ys) = less_then (ltb x y) (eqb x y) (list_before xs ys)

unfoldable pub set_before : Scopes → Scopes → Bool
unfolding list_before members
set_before a b = list_before (members a) (members b)
