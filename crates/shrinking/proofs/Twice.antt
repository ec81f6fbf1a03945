-- Doing it twice changes nothing more: the second remaining set is the first renumbered, and scopes renumbered in order have their order's numbers
-- already.
use mathlib.Core.Path.{◌≡◌, refl, sym, ap, ap₂, ◌∙◌, subst}
use mathlib.Core.Logic.{inl, inr}
use Prim.Native.Nat.{ℕ, ◌≤◌}
use mathlib.Core.Bool.{Bool, true, ◌&&◌, ◌||◌}
use mathlib.Core.List.{List, [], ◌∷◌}
use lib.Dec.{eqb}
use lib.ListN.{length}
use lib.Bits.{bit_or}
use Rattle.model.specs.Limits.{most_image}
use Rattle.model.specs.Scopes.{Scopes, members}
use Rattle.model.specs.Objects.{symbol, number, point, prim, rung, Sets, Stx, atom, list, Stxs, nil, cons, on_sets, on_sets_all}
use Rattle.model.specs.Resolving.{Bind}
use Rattle.model.specs.Reading.{got, symbols, Image, read_syntax, read_image}
use Rattle.laws.specs.Ordered.{SetsIn}
use Rattle.laws.proofs.ScopeSets.{Sub}
use Rattle.laws.proofs.Members.{Small}
use Rattle.laws.proofs.ResolveRule.{In}
use Rattle.codec_laws.specs.WellFormed.{Bytes, SyntaxFits, StxFits, StxsFit}
use Rattle.codec_laws.proofs.ImageLaws.{syntax_read_keeps_limits}
use Rattle.alike.proofs.Alike.{NewNumbers, SetAlike, SetsAlike, BindAlike, StxAlike, atoms, lists, StxsAlike, nils, conses}
use Rattle.alike.specs.Renumbering.{mapped, set_of, renumber_set, renumber_sets, renumber_stx, renumber_bind}
use Rattle.alike.proofs.SetLaws.{none_alike, or_alike, within_alike, set-one}
use Rattle.alike.proofs.RenumberedSets.{most, small_of, sets_path}
use Rattle.shrinking.specs.Shrunk.{contains, used_in, used_in_any, kept, joined, scopes_in, scopes_in_all, scopes_bound, remaining, rank_in, rank, renumber_each, with_scopes, shrunk, bytes_of, smaller}
use Rattle.shrinking.proofs.Ranks.{rank_again, mapped_again, ranked}
use Rattle.shrinking.proofs.Within.{mapped-length, set_like, members-new, in_all, Under, UnderAll, SetsUnder, BindUnder, BindsUnder}
use Rattle.shrinking.proofs.Kept.{kept-used, kept-all}
use Rattle.shrinking.proofs.Readable.{few-scopes, small_u, under_root, binds_under, like_root, smaller-reads, shrunk-bytes}

-- ---- what is used, and the remaining scopes, of things alike

module _ (ρ : NewNumbers) where
  contains_alike : (a b : Scopes) → SetAlike ρ a b → (c d : Sets) → SetsAlike ρ c d → contains a c ≡ contains b d
  unfolding contains
  contains_alike a b h c d k =
      ap₂ (λ (x y : Bool). x || y) (within_alike ρ a b c.at0 d.at0 h k.alike0)
      (ap₂ (λ (x y : Bool). x || y) (within_alike ρ a b c.at1 d.at1 h k.alike1) (within_alike ρ a b c.at2 d.at2 h k.alike2))

  module _ (a b : Bind) (h : BindAlike ρ a b) where
    mutual
      unfolding used_in

      used_alike : {x y : Stx} → StxAlike ρ x y → used_in a x ≡ used_in b y
      used_alike (atoms {c} {d} (symbol n) k) =
          ap₂ (λ (x y : Bool). x && y) (ap (λ (z : ℕ). eqb z n) h.symb-is) (contains_alike a.set b.set h.set_like c d k)
      used_alike (atoms (number n) k) = refl
      used_alike (atoms (point n) k) = refl
      used_alike (atoms (prim n) k) = refl
      used_alike (atoms (rung n) k) = refl
      used_alike (lists k i) = used_any_alike i

      used_any_alike : {l r : Stxs} → StxsAlike ρ l r → used_in_any a l ≡ used_in_any b r
      used_any_alike nils = refl
      used_any_alike (conses k i) = ap₂ (λ (x y : Bool). x || y) (used_alike k) (used_any_alike i)

  joined_alike : (c d : Sets) → SetsAlike ρ c d → SetAlike ρ (joined c) (joined d)
  unfolding joined
  joined_alike c d h = or_alike ρ _ _ _ _ h.alike0 (or_alike ρ _ _ _ _ h.alike1 h.alike2)

  mutual
    unfolding scopes_in

    scopes_alike : {x y : Stx} → StxAlike ρ x y → SetAlike ρ (scopes_in x) (scopes_in y)
    scopes_alike (atoms {c} {d} a k) = joined_alike c d k
    scopes_alike (lists {c} {d} k i) = or_alike ρ _ _ _ _ (joined_alike c d k) (all_scopes_alike i)

    all_scopes_alike : {l r : Stxs} → StxsAlike ρ l r → SetAlike ρ (scopes_in_all l) (scopes_in_all r)
    all_scopes_alike nils = none_alike ρ
    all_scopes_alike (conses k i) = or_alike ρ _ _ _ _ (scopes_alike k) (all_scopes_alike i)

  bound_alike : (f : ℕ → ℕ) (l : List Bind) → ((b : Bind) → In b l → SetAlike ρ b.set (renumber_set f b.set))
      → SetAlike ρ (scopes_bound l) (scopes_bound (renumber_each f l))
  unfolding scopes_bound renumber_each renumber_bind
  bound_alike f [] h = none_alike ρ
  bound_alike f (b ∷ l) h = or_alike ρ _ _ _ _ (h b (inl refl)) (bound_alike f l (λ c i. h c (inr i)))

each-used : (f : ℕ → ℕ) (x : Stx) (l : List Bind) → ((b : Bind) → In b l → used_in (renumber_bind f b) x ≡ true) → (c : Bind) → In c (renumber_each f l)
    → used_in c x ≡ true
unfolding renumber_each
each-used f x [] h c i = absurd i
each-used f x (b ∷ l) h c (inl p) = ap (λ (z : Bind). used_in z x) p ∙ h b (inl refl)
each-used f x (b ∷ l) h c (inr i) = each-used f x l (λ d j. h d (inr j)) c i

like_of : (f : ℕ → ℕ) (ρ : NewNumbers) (b : Bind) → SetAlike ρ b.set (renumber_set f b.set) → BindAlike ρ b (renumber_bind f b)
unfolding renumber_bind
like_of f ρ b h = record { symb-is = refl; target_is = refl; set_like = h }

open_remaining : (l : List Bind) (x : Stx) → remaining l x ≡ bit_or (scopes_bound (kept x l)) (scopes_in x)
unfolding remaining
open_remaining l x = refl

opened : (f : ℕ → ℕ) (m : Scopes) → renumber_set f m ≡ set_of (mapped f (members m))
unfolding renumber_set
opened f m = refl

image_path : (i : Image Stx) (m n : ℕ) (a b : List Bind) (x y : Stx) → m ≡ n → a ≡ b → x ≡ y
    → ◌≡◌ {A = Image Stx} (record { head = with_scopes m (with_scopes n i.head); binds = a; root = x })
    (record { head = with_scopes n i.head; binds = b; root = y })
unfolding with_scopes
image_path i m n a b x y p q r = cc

-- ---- the second time

module _ (u : Scopes) (small : Small u) where
  abbrev again : Scopes
  again = renumber_set (rank u) u

  sub_self : Sub u u
  sub_self k e = e

  rank_fixed : (j : ℕ) → rank again (rank_in (members u) j) ≡ rank_in (members u) j
  unfolding rank
  rank_fixed j =
      ap (λ (l : List ℕ). rank_in l (rank_in (members u) j)) (members-new u small u small sub_self)
      ∙ rank_again (members u) (members u) (in_all u small u small sub_self) j

  count_fixed : length (members again) ≡ length (members u)
  unfolding rank
  count_fixed = ap length (members-new u small u small sub_self) ∙ mapped-length (rank_in (members u)) (members u)

  list_fixed : (a : Scopes) → Small a → Sub a u → mapped (rank again) (members (renumber_set (rank u) a)) ≡ mapped (rank u) (members a)
  unfolding rank
  list_fixed a s h =
      ap (mapped (rank again)) (members-new u small a s h) ∙ mapped_again (members u) (members a) (in_all u small a s h) (rank again) rank_fixed

  set_fixed : (a : Scopes) → Small a → Sub a u → renumber_set (rank again) (renumber_set (rank u) a) ≡ renumber_set (rank u) a
  set_fixed a s h = opened (rank again) (renumber_set (rank u) a) ∙ ap set_of (list_fixed a s h) ∙ sym (opened (rank u) a)

  module _ (n : ℕ) (few : n ≤ most) where
    sets_fixed : (c : Sets) → SetsIn n c → SetsUnder u c → renumber_sets (rank again) (renumber_sets (rank u) c) ≡ renumber_sets (rank u) c
    unfolding renumber_sets
    sets_fixed c f h =
        sets_path _ _ _ _ _ _ (set_fixed c.at0 (small_of n c.at0 few f.0) h.0)
        (set_fixed c.at1 (small_of n c.at1 few f.1) h.1)
        (set_fixed c.at2 (small_of n c.at2 few f.2) h.2)

    mutual
      unfolding on_sets

      on_fixed : (k : ℕ) (x : Stx) → StxFits k n x → Under u x
          → on_sets (renumber_sets (rank again)) (on_sets (renumber_sets (rank u)) x) ≡ on_sets (renumber_sets (rank u)) x
      on_fixed k (atom c a) f h = ap (λ (z : Sets). atom z a) (sets_fixed c f.0 h)
      on_fixed k (list c l) f h = ap₂ (λ (z : Sets) (m : Stxs). list z m) (sets_fixed c f.0 h.0) (all_fixed k l f.1 h.1)

      all_fixed : (k : ℕ) (l : Stxs) → StxsFit k n l → UnderAll u l
          → on_sets_all (renumber_sets (rank again)) (on_sets_all (renumber_sets (rank u)) l) ≡ on_sets_all (renumber_sets (rank u)) l
      all_fixed k nil f h = refl
      all_fixed k (cons s l) f h = ap₂ cons (on_fixed k s f.0 h.0) (all_fixed k l f.1 h.1)

    stx_fixed : (k : ℕ) (x : Stx) → StxFits k n x → Under u x → renumber_stx (rank again) (renumber_stx (rank u) x) ≡ renumber_stx (rank u) x
    unfolding renumber_stx
    stx_fixed k x f h = on_fixed k x f h

    bind_fixed : (b : Bind) → BindUnder u n b → renumber_bind (rank again) (renumber_bind (rank u) b) ≡ renumber_bind (rank u) b
    unfolding renumber_bind
    bind_fixed b p =
        ap (λ (z : Scopes). record { symb = b.symb; target = b.target; set = z }) (set_fixed b.set (small_of n b.set few p.0) p.1)

    each_fixed : (l : List Bind) → BindsUnder u n l → renumber_each (rank again) (renumber_each (rank u) l) ≡ renumber_each (rank u) l
    unfolding renumber_each
    each_fixed [] w = refl
    each_fixed (b ∷ l) w = ap₂ (λ (x : Bind) (m : List Bind). x ∷ m) (bind_fixed b (w b (inl refl))) (each_fixed l (λ c i. w c (inr i)))

module _ (i : Image Stx) (fit : SyntaxFits i.head i.binds i.root) where
  abbrev u : Scopes
  u = remaining i.binds i.root

  abbrev l : List Bind
  l = kept i.root i.binds

  abbrev s : Small u
  s = small_u i fit

  abbrev ρ : NewNumbers
  ρ = ranked u s

  set_like_of : (b : Bind) → In b l → SetAlike ρ b.set (renumber_set (rank u) b.set)
  set_like_of b j =
      set_like u s b.set (small_of i.head.scopes b.set (few-scopes i fit) (binds_under i fit b j).0) (binds_under i fit b j).1

  -- what is kept is kept again
  kept_again : kept (renumber_stx (rank u) i.root) (renumber_each (rank u) l) ≡ renumber_each (rank u) l
  kept_again = kept-all (renumber_stx (rank u) i.root) (renumber_each (rank u) l) (each-used (rank u) (renumber_stx (rank u) i.root) l used)
    where
      like : (b : Bind) → In b l → BindAlike ρ b (renumber_bind (rank u) b)
      like b j = like_of (rank u) ρ b (set_like_of b j)

      used : (b : Bind) → In b l → used_in (renumber_bind (rank u) b) (renumber_stx (rank u) i.root) ≡ true
      used b j = sym (used_alike ρ b (renumber_bind (rank u) b) (like b j) (like_root i fit)) ∙ kept-used i.root i.binds b j

  -- the remaining scopes, the second time
  remaining_again : remaining (renumber_each (rank u) l) (renumber_stx (rank u) i.root) ≡ renumber_set (rank u) u
  remaining_again =
      open_remaining (renumber_each (rank u) l) (renumber_stx (rank u) i.root)
      ∙ ap (λ (z : List Bind). bit_or (scopes_bound z) (scopes_in (renumber_stx (rank u) i.root))) kept_again
      ∙ sym (set-one ρ u (renumber_set (rank u) u) _ (set_like u s u s (sub_self u s)) both)
    where
      both : SetAlike ρ u (bit_or (scopes_bound (renumber_each (rank u) l)) (scopes_in (renumber_stx (rank u) i.root)))
      both =
          subst (λ (z : Scopes). SetAlike ρ z (bit_or (scopes_bound (renumber_each (rank u) l)) (scopes_in (renumber_stx (rank u) i.root))))
          (sym (open_remaining i.binds i.root)) (or_alike ρ _ _ _ _ (bound_alike ρ (rank u) l set_like_of) (scopes_alike ρ (like_root i fit)))

  -- doing it twice changes nothing more
  pub shrunk-twice : shrunk (shrunk i) ≡ shrunk i
  unfolding shrunk
  shrunk-twice =
      image_path i _ _ _ _ _ _
      (ap (λ (z : Scopes). length (members z)) remaining_again ∙ count_fixed u s)
      (ap₂ (λ (z : Scopes) (m : List Bind). renumber_each (rank z) m) remaining_again kept_again
      ∙ each_fixed u s i.head.scopes (few-scopes i fit) l (binds_under i fit))
      (ap (λ (z : Scopes). renumber_stx (rank z) (renumber_stx (rank u) i.root)) remaining_again
      ∙ stx_fixed u s i.head.scopes (few-scopes i fit) (symbols i.head) i.root fit.root-fits (under_root i fit))

pub smaller-twice : (image rest : List ℕ) (i : Image Stx) → Bytes image → read_image read_syntax image ≡ got i rest → length (smaller image) ≤ most_image
    → smaller (smaller image) ≡ smaller image
smaller-twice image rest i bytes read short =
    shrunk-bytes (smaller image) [] (shrunk i) (smaller-reads image rest i bytes read short)
    ∙ ap bytes_of (shrunk-twice i (syntax_read_keeps_limits image rest i bytes read)) ∙ sym (shrunk-bytes image rest i read)
