-- T-01: what the panel check says of a tree that it accepts; and where all functions carry different names, name and address are
-- one-to-one.
use mathlib.Core.Path.{◌≡◌, refl, sym, ap, ◌∙◌, subst}
use Prim.Native.Nat.{ℕ, zero, suc, ◌*◌, ◌≤◌, ◌<◌}
use native.Mathlib.Omega.{arith}
use mathlib.Core.Bool.{Bool, true, false, not, ◌||◌, false≢true}
use mathlib.Core.List.{List, [], ◌∷◌, ◌++◌}
use lib.Dec.{eqb, leb}
use lib.ListN.{length, get_or, drop}
use Rattle.model.specs.Choice.{when◌then◌else◌}
use Rattle.model.specs.Refusals.{unowned, too_long}
use Rattle.model.specs.Trees.{Tree}
use Rattle.model.specs.Reading.{Read, got, fault, Image, read_tree_image, read_image}
use Rattle.model.specs.Meanings.{is_among}
use Rattle.model.specs.Jobs.{closed}
use borrow.Author.Tests.{leb-true, eqb-true, eq-eqb, not-true}
use Rattle.laws.proofs.Tests.{and_both, or_right}
use Rattle.addresses.specs.OneNameOneAddress.{AllDifferent}
use Rattle.addresses.proofs.Endings.{code-some}
use Rattle.requests.specs.Panel.{is_program, driven, bits_of, most_bits, all_differ, PanelRefusal, base, outside, driven_twice, too_many_bits, panel_code, PanelEnding, refused, listed, profile, of_image, panel_of, room_for, panel_answer, bits_after, panel_job}
use Rattle.requests.specs.OneToOne.{OneToOne, Accepted}

-- ---- different names are one-to-one with their addresses

among-at : (l : List ℕ) (a : ℕ) → a < length l → is_among (get_or l a 0) l ≡ true
unfolding is_among
among-at [] a h = absurd (omega arith)
among-at (n ∷ l) zero h = rw (eq-eqb n n refl)
among-at (n ∷ l) (suc a) h = or_right (eqb (get_or l a 0) n) (is_among (get_or l a 0) l) (among-at l a (omega arith))

pub addressed : (n : ℕ) (l : List ℕ) → is_among n l ≡ true → (a : ℕ) × (a < length l) × (get_or l a 0 ≡ n)
unfolding is_among
addressed n [] e = absurd (false≢true e)
addressed n (m ∷ l) e = go (eqb n m) refl e (λ q. addressed n l q)
  where
    later : (a : ℕ) × (a < length l) × (get_or l a 0 ≡ n) → (a : ℕ) × (a < length (m ∷ l)) × (get_or (m ∷ l) a 0 ≡ n)
    later r = let h : r.0 < length l = r.1 in (suc r.0, omega arith, r.2)

    go : (t : Bool) → eqb n m ≡ t → (t || is_among n l) ≡ true
        → (is_among n l ≡ true → (a : ℕ) × (a < length l) × (get_or l a 0 ≡ n)) → (a : ℕ) × (a < length (m ∷ l)) × (get_or (m ∷ l) a 0 ≡ n)
    go true p q f = (0, omega arith, sym (eqb-true n m p))
    go false p q f = later (f q)

only_one : (l : List ℕ) → AllDifferent l → (a c : ℕ) → a < length l → c < length l → get_or l a 0 ≡ get_or l c 0 → a ≡ c
only_one [] d a c h k e = absurd (omega arith)
only_one (n ∷ l) d zero zero h k e = refl
only_one (n ∷ l) d zero (suc c) h k e = absurd (false≢true (sym d.0 ∙ ap (λ (z : ℕ). is_among z l) e ∙ among-at l c (omega arith)))
only_one (n ∷ l) d (suc a) zero h k e = absurd (false≢true (sym d.0 ∙ ap (λ (z : ℕ). is_among z l) (sym e) ∙ among-at l a (omega arith)))
only_one (n ∷ l) d (suc a) (suc c) h k e = ap suc (only_one l d.1 a c (omega arith) (omega arith) e)

pub different-one_to_one : (names : List ℕ) → AllDifferent names → OneToOne names
different-one_to_one names d = record { address = λ n e. addressed n names e; only = only_one names d }

pub differ-different : (l : List ℕ) → all_differ l ≡ true → AllDifferent l
unfolding all_differ
differ-different [] e = tt
differ-different (n ∷ l) e =
    let r = and_both (not (is_among n l)) (all_differ l) e in
    (not-true (is_among n l) r.0, differ-different l r.1)

-- ---- the check, taken apart

abbrev Listed : (List ℕ → Type 0) → PanelEnding → Type 0
Listed Q (refused r) = Unit {0}
Listed Q (listed l) = Q l

record Profile (t : Tree) (l : List ℕ) : Type 0 where
  owned : closed [] t ≡ true
  program : is_program t ≡ true
  once : all_differ (driven t) ≡ true
  few : leb (length (bits_of t)) most_bits ≡ true
  names : bits_of t ≡ l

profile_case : (t : Tree) → Listed (Profile t) (profile t)
unfolding profile
profile_case t = go (closed [] t) (is_program t) (all_differ (driven t)) (leb (length (bits_of t)) most_bits) refl refl refl refl
  where
    go : (a b c d : Bool) → closed [] t ≡ a → is_program t ≡ b → all_differ (driven t) ≡ c → leb (length (bits_of t)) most_bits ≡ d
        → Listed (Profile t) (when a then when b then when c then when d then listed (bits_of t) else refused too_many_bits else refused driven_twice else refused outside else refused (base unowned))
    go true true true true p q r s = record { owned = p; program = q; once = r; few = s; names = refl }
    go true true true false p q r s = tt
    go true true false d p q r s = tt
    go true false c d p q r s = tt
    go false b c d p q r s = tt

record Checked (o : Read (Image Tree)) (l : List ℕ) : Type 0 where
  i : Image Tree
  rest : List ℕ
  read : o ≡ got i rest
  passed : Profile i.root l

image_checked : (o : Read (Image Tree)) → Listed (Checked o) (of_image o)
unfolding of_image
image_checked (fault r) = tt
image_checked (got i rest) = go (profile i.root) (profile_case i.root)
  where
    go : (e : PanelEnding) → Listed (Profile i.root) e → Listed (Checked (got i rest)) e
    go (refused r) p = tt
    go (listed l) p = record { i = i; rest = rest; read = refl; passed = p }

roomed : (Q : List ℕ → Type 0) (room : ℕ) (e : PanelEnding) → Listed Q e → Listed (λ l. Q l × (length l ≤ room)) (room_for room e)
unfolding room_for
roomed Q room (refused r) p = tt
roomed Q room (listed l) p = go (leb (length l) room) refl
  where
    go : (t : Bool) → leb (length l) room ≡ t → Listed (λ l. Q l × (length l ≤ room)) (when t then listed l else refused (base too_long))
    go true e = (p, leb-true (length l) room e)
    go false e = tt

panel_code_some : (r : PanelRefusal) → panel_code r ≡ 0 → ⊥
panel_code_some (base r) e = code-some r e
panel_code_some outside e = omega arith
panel_code_some driven_twice e = omega arith
panel_code_some too_many_bits e = omega arith

-- ---- what code 0 says

pub accepted : (image bits : List ℕ) → (panel_job image bits).answer.code ≡ 0 → Accepted image bits
unfolding panel_job panel_of panel_answer bits_after
accepted image bits =
    go (room_for (length bits) (of_image o)) refl (roomed (Checked o) (length bits) (of_image o) (image_checked o))
  where
    o : Read (Image Tree)
    o = read_image read_tree_image image

    go : (e : PanelEnding) → room_for (length bits) (of_image o) ≡ e → Listed (λ l. Checked o l × (length l ≤ length bits)) e
        → (panel_answer e).code ≡ 0 → Accepted image bits
    go (refused r) w p q = absurd (panel_code_some r q)
    go (listed l) w p q =
        let n = p.0.passed.names in
        record {
          read = p.0.i;
          rest = p.0.rest;
          read_is = p.0.read;
          owned = p.0.passed.owned;
          program = p.0.passed.program;
          driven_once = differ-different (driven p.0.i.root) p.0.passed.once;
          few = leb-true (length (bits_of p.0.i.root)) most_bits p.0.passed.few;
          room = subst (λ (z : List ℕ). length z ≤ length bits) (sym n) p.1;
          bits_are = ap (λ (z : PanelEnding). bits_after z bits) w ∙ ap (λ (z : List ℕ). z ++ drop (length z) bits) (sym n);
          length-is = ap (λ (z : PanelEnding). (panel_answer z).len) w ∙ ap (λ (z : List ℕ). 4 * length z) (sym n);
        }

-- ---- the answer is the root's alone: other words, or as many others, change nothing

root-alone : (g g' : Read (Image Tree)) {i i' : Image Tree} {rest rest' : List ℕ} → g ≡ got i rest → g' ≡ got i' rest' → i.root ≡ i'.root → of_image g ≡ of_image g'
unfolding of_image
root-alone g g' e e' q = ap of_image e ∙ ap profile q ∙ sym (ap of_image e')

pub words_do_not_matter : (image image' bits : List ℕ) {i i' : Image Tree} {rest rest' : List ℕ}
    → read_image read_tree_image image ≡ got i rest → read_image read_tree_image image' ≡ got i' rest' → i.root ≡ i'.root → panel_job image bits ≡ panel_job image' bits
unfolding panel_job panel_of
words_do_not_matter image image' bits e e' q =
    ap (λ (z : PanelEnding). let r = room_for (length bits) z in record { answer = panel_answer r; bits = bits_after r bits })
    (root-alone (read_image read_tree_image image) (read_image read_tree_image image') e e' q)
