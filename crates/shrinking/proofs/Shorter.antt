-- The smaller image is never longer, since no number in it is larger; so it is within 65,536 bytes.
use mathlib.Core.Path.{◌≡◌, refl, sym, ap, subst}
use mathlib.Core.Logic.{inl, inr}
use Prim.Native.Nat.{ℕ, zero, suc, ◌+◌, ◌-◌, ◌/◌, ◌%◌, ◌≤◌, ◌<◌, zero-le}
use native.Mathlib.Nat.{le_refl, le_trans, le_of_eq}
use native.Mathlib.Omega.{arith}
use mathlib.Core.Bool.{Bool, true, false}
use mathlib.Core.List.{List, [], ◌∷◌, ◌++◌}
use lib.Dec.{ltb, leb}
use lib.ListN.{length, length-append}
use Rattle.model.specs.Choice.{when◌then◌else◌}
use Rattle.model.specs.Limits.{most_image, core_names}
use Rattle.model.specs.Scopes.{Scopes, members}
use Rattle.model.specs.Objects.{Sets, Stx, atom, list, Stxs, nil, cons, tag_of, content_of, count, on_sets, on_sets_all}
use Rattle.model.specs.Resolving.{Bind}
use Rattle.model.specs.Reading.{got, Head, symbols, Image, read_syntax, read_image}
use Rattle.model.specs.Writing.{groups_of, num_bytes, nums_bytes, list_bytes, set_bytes, sets_bytes, stx_bytes, stxs_bytes, bind_bytes, binds_bytes, words_bytes, head_bytes, syntax_bytes}
use borrow.Author.Tests.{leb-false, leb-true, ltb-false, ltb-true}
use Rattle.laws.specs.Ordered.{SetsIn}
use Rattle.laws.proofs.ScopeSets.{Sub}
use Rattle.laws.proofs.Members.{Asc, Small, asc_of}
use Rattle.codec_laws.specs.WellFormed.{Bytes, SyntaxFits, StxFits, StxsFit}
use Rattle.codec_laws.proofs.ImageLaws.{syntax_read_keeps_limits, syntax_read_then_written}
use Rattle.alike.specs.Renumbering.{mapped, renumber_set, renumber_sets, renumber_stx, renumber_bind}
use Rattle.alike.proofs.RenumberedSets.{most, small_of}
use Rattle.shrinking.specs.Shrunk.{used_in, kept, remaining, rank_in, rank, renumber_each, with_scopes, shrunk, bytes_of, smaller}
use Rattle.shrinking.proofs.Within.{count-within, each-length, mapped-length, members-new, Under, UnderAll, SetsUnder, BindUnder, BindsUnder}
use Rattle.shrinking.proofs.Kept.{kept-length}
use Rattle.shrinking.proofs.Readable.{remaining-below, few-scopes, small_u, under_root, binds_under, shrunk-bytes}

-- no longer than. A record, so that the two lists are seen.
record Shorter (a b : List ℕ) : Type 0 where
  le : length a ≤ length b

same : (a : List ℕ) → Shorter a a
same a = record { le = le_refl (length a) }

join : {a b c d : List ℕ} → Shorter a c → Shorter b d → Shorter (a ++ b) (c ++ d)
join {a} {b} {c} {d} h k = record { le = joined h.le k.le }
  where
    joined : length a ≤ length c → length b ≤ length d → length (a ++ b) ≤ length (c ++ d)
    joined x y = simp length-append (omega arith)

next_shorter : {a b c : List ℕ} → Shorter a b → Shorter b c → Shorter a c
next_shorter h k = record { le = le_trans h.le k.le }

-- ---- numbers

groups_mono : (k a b : ℕ) → a ≤ b → length (groups_of k a) ≤ length (groups_of k b)
unfolding groups_of
groups_mono zero a b h = le_refl 1
groups_mono (suc k) a b h = go (ltb a 128) refl (ltb b 128) refl (groups_mono k (a / 128) (b / 128) (omega arith))
  where
    go : (s : Bool) → ltb a 128 ≡ s → (t : Bool) → ltb b 128 ≡ t → length (groups_of k (a / 128)) ≤ length (groups_of k (b / 128))
        → length (when s then a ∷ [] else (a % 128 + 128) ∷ groups_of k (a / 128))
        ≤ length (when t then b ∷ [] else (b % 128 + 128) ∷ groups_of k (b / 128))
    go true p true q r = le_refl 1
    go true p false q r = omega arith
    go false p true q r = absurd (no (ltb-false a 128 p) (ltb-true b 128 q))
      where
        no : 128 ≤ a → b < 128 → ⊥
        no x y = omega arith
    go false p false q r = omega arith

num_mono : (a b : ℕ) → a ≤ b → Shorter (num_bytes a) (num_bytes b)
unfolding num_bytes
num_mono a b h = record { le = groups_mono 4 a b h }

-- ---- a scope's new number is at most its old

rank-none : (p n : ℕ) (l : List ℕ) → Asc p n l → (k : ℕ) → k ≤ p → rank_in l k ≡ 0
unfolding rank_in
rank-none p n [] a k h = refl
rank-none p n (j ∷ l) a k h = go (leb j k) refl (rank-none j n l a.2 k (omega (arith, a.0)))
  where
    go : (t : Bool) → leb j k ≡ t → rank_in l k ≡ 0 → (when t then suc (rank_in l k) else rank_in l k) ≡ 0
    go true e r = absurd (no (leb-true j k e) a.0)
      where
        no : j ≤ k → p < j → ⊥
        no x y = omega arith
    go false e r = r

rank-within : (p n : ℕ) (l : List ℕ) → Asc p n l → (k : ℕ) → p ≤ k → p + rank_in l k ≤ k
unfolding rank_in
rank-within p n [] a k h = omega arith
rank-within p n (j ∷ l) a k h = go (leb j k) refl (rank-within j n l a.2 k)
  where
    go : (t : Bool) → leb j k ≡ t → (j ≤ k → j + rank_in l k ≤ k) → p + (when t then suc (rank_in l k) else rank_in l k) ≤ k
    go true e r = omega (arith, r (leb-true j k e), a.0)
    go false e r = omega (arith, rank-none j n l a.2 k (low (leb-false j k e)))
      where
        low : k < j → k ≤ j
        low x = omega arith

module _ (u : Scopes) (small : Small u) where
  rank_at_most : (k : ℕ) → rank u k ≤ k
  unfolding rank
  rank_at_most k = omega (arith, rank-within 0 most (members u) (asc_of u most small) k zero-le)

  nums_shorter : (l : List ℕ) → Shorter (nums_bytes (mapped (rank u) l)) (nums_bytes l)
  unfolding nums_bytes mapped
  nums_shorter [] = same []
  nums_shorter (k ∷ l) = join (num_mono (rank u k) k (rank_at_most k)) (nums_shorter l)

  list_shorter : (l : List ℕ) → Shorter (list_bytes (mapped (rank u) l)) (list_bytes l)
  unfolding list_bytes
  list_shorter l = join (num_mono (length (mapped (rank u) l)) (length l) (le_of_eq (mapped-length (rank u) l))) (nums_shorter l)

  set_shorter : (m : Scopes) → Small m → Sub m u → Shorter (set_bytes (renumber_set (rank u) m)) (set_bytes m)
  unfolding set_bytes
  set_shorter m s h =
      subst (λ (l : List ℕ). Shorter (list_bytes l) (list_bytes (members m))) (sym (members-new u small m s h)) (list_shorter (members m))

  module _ (n : ℕ) (few : n ≤ most) where
    sets_shorter : (c : Sets) → SetsIn n c → SetsUnder u c → Shorter (sets_bytes (renumber_sets (rank u) c)) (sets_bytes c)
    unfolding sets_bytes renumber_sets
    sets_shorter c f h =
        join
        (join (set_shorter c.at0 (small_of n c.at0 few f.0) h.0) (set_shorter c.at1 (small_of n c.at1 few f.1) h.1))
        (set_shorter c.at2 (small_of n c.at2 few f.2) h.2)

    count_same : (l : Stxs) → count (on_sets_all (renumber_sets (rank u)) l) ≡ count l
    unfolding count on_sets
    count_same nil = refl
    count_same (cons s l) = ap suc (count_same l)

    mutual
      unfolding on_sets stx_bytes

      on_shorter : (k : ℕ) (x : Stx) → StxFits k n x → Under u x → Shorter (stx_bytes (on_sets (renumber_sets (rank u)) x)) (stx_bytes x)
      on_shorter k (atom c a) f h = join (join (same (num_bytes (tag_of a))) (sets_shorter c f.0 h)) (same (num_bytes (content_of a)))
      on_shorter k (list c l) f h =
          join
          (join (join (same (num_bytes 5)) (sets_shorter c f.0 h.0))
          (num_mono (count (on_sets_all (renumber_sets (rank u)) l)) (count l) (le_of_eq (count_same l))))
          (all_shorter k l f.1 h.1)

      all_shorter : (k : ℕ) (l : Stxs) → StxsFit k n l → UnderAll u l → Shorter (stxs_bytes (on_sets_all (renumber_sets (rank u)) l)) (stxs_bytes l)
      all_shorter k nil f h = same []
      all_shorter k (cons s l) f h = join (on_shorter k s f.0 h.0) (all_shorter k l f.1 h.1)

    root_shorter : (k : ℕ) (x : Stx) → StxFits k n x → Under u x → Shorter (stx_bytes (renumber_stx (rank u) x)) (stx_bytes x)
    unfolding renumber_stx
    root_shorter k x f h = on_shorter k x f h

    bind_shorter : (b : Bind) → BindUnder u n b → Shorter (bind_bytes (renumber_bind (rank u) b)) (bind_bytes b)
    unfolding bind_bytes renumber_bind
    bind_shorter b p = join (same (num_bytes b.symb ++ num_bytes b.target)) (set_shorter b.set (small_of n b.set few p.0) p.1)

    each_shorter : (l : List Bind) → BindsUnder u n l → Shorter (binds_bytes (renumber_each (rank u) l)) (binds_bytes l)
    unfolding binds_bytes renumber_each
    each_shorter [] w = same []
    each_shorter (b ∷ l) w = join (bind_shorter b (w b (inl refl))) (each_shorter l (λ c i. w c (inr i)))

kept_shorter : (x : Stx) (l : List Bind) → Shorter (binds_bytes (kept x l)) (binds_bytes l)
unfolding binds_bytes kept
kept_shorter x [] = same []
kept_shorter x (b ∷ l) = go (used_in b x) (kept_shorter x l)
  where
    go : (t : Bool) → Shorter (binds_bytes (kept x l)) (binds_bytes l)
        → Shorter (binds_bytes (when t then b ∷ kept x l else kept x l)) (bind_bytes b ++ binds_bytes l)
    go true h = join (same (bind_bytes b)) h
    go false h = join {a = []} {c = bind_bytes b} (record { le = zero-le }) h

head_shorter : (m : ℕ) (h : Head) → m ≤ h.scopes → Shorter (head_bytes 1 (with_scopes m h)) (head_bytes 1 h)
unfolding head_bytes with_scopes
head_shorter m h k =
    join (same (num_bytes 1 ++ num_bytes (length h.words) ++ words_bytes h.words ++ num_bytes (h.names - core_names - length h.words)))
    (num_mono m h.scopes k)

module _ (i : Image Stx) (fit : SyntaxFits i.head i.binds i.root) where
  abbrev u : Scopes
  u = remaining i.binds i.root

  abbrev l : List Bind
  l = kept i.root i.binds

  few-left : length (members u) ≤ i.head.scopes
  few-left = count-within u i.head.scopes (remaining-below i fit)

  shrunk_shorter : Shorter (bytes_of (shrunk i)) (bytes_of i)
  unfolding bytes_of shrunk syntax_bytes
  shrunk_shorter =
      join
      (join
      (join (head_shorter (length (members u)) i.head few-left)
      (num_mono (length (renumber_each (rank u) l)) (length i.binds)
      (le_trans (le_of_eq (each-length (rank u) l)) (kept-length i.root i.binds))))
      (next_shorter (each_shorter u (small_u i fit) i.head.scopes (few-scopes i fit) l (binds_under i fit)) (kept_shorter i.root i.binds)))
      (root_shorter u (small_u i fit) i.head.scopes (few-scopes i fit) (symbols i.head) i.root fit.root-fits (under_root i fit))

pub never_longer : (image rest : List ℕ) (i : Image Stx) → Bytes image → read_image read_syntax image ≡ got i rest
    → length (smaller image) ≤ length image
unfolding bytes_of
never_longer image rest i bytes read =
    subst (λ (x : List ℕ). length x ≤ length image) (sym (shrunk-bytes image rest i read))
    (subst (λ (x : List ℕ). length (bytes_of (shrunk i)) ≤ length x) (syntax_read_then_written image rest i bytes read)
    (shrunk_shorter i (syntax_read_keeps_limits image rest i bytes read)).le)

pub smaller-within : (image rest : List ℕ) (i : Image Stx) → Bytes image → read_image read_syntax image ≡ got i rest
    → length (smaller image) ≤ most_image
unfolding bytes_of
smaller-within image rest i bytes read =
    le_trans (never_longer image rest i bytes read)
    (subst (λ (x : List ℕ). length x ≤ most_image) (syntax_read_then_written image rest i bytes read)
    (syntax_read_keeps_limits image rest i bytes read).short)
