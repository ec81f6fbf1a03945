-- The panel check: one law for each way out.
use Prim.Native.Nat.{ℕ, ◌+◌, ◌-◌, ◌≤◌, ◌<◌}
use mathlib.Core.Path.{◌≡◌, refl, sym, ap, ◌∙◌, subst}
use mathlib.Core.Bool.{Bool, true, false, not}
use mathlib.Core.List.{List, []}
use native.Mathlib.Omega.{arith}
use lib.Dec.{leb, ltb}
use lib.ListN.{length, take, drop, length-drop}
use Rattle.std.specs.Prelude.{Result, Ok, Err}
use borrow.Author.Tests.{le-leb, lt-leb, ltb-true, ltb-false, not-true, not-false}
use Rattle.model.specs.Choice.{when◌then◌else◌}
use Rattle.model.specs.Limits.{most_image, most_nesting}
use Rattle.model.specs.Refusals.{Refusal, unowned, over_limit}
use Rattle.model.specs.Trees.{Tree}
use Rattle.model.specs.Reading.{Read, Image, got, fault, next, need, read_tree, read_tree_image, read_image}
use Rattle.model.specs.Jobs.{closed}
use Rattle.requests.specs.Panel.{is_program, driven, bits_of, all_differ, most_bits, refused, listed, base, outside, driven_twice, too_many_bits, profile, of_image, panel_of}
use Rattle.codec_laws.specs.WellFormed.{Bytes}
use Rattle.codec_laws.proofs.Sequence.{bytes_drop}
use Rattle.codec_laws.proofs.NumberTrip.{fault≢got, got-value}
use Rattle.refusals.specs.declared.Refusal as declared
use Rattle.image.specs.declared.Judgement.{Judgement}
use Rattle.image.specs.Judging.{read_owned, JudgesTree}
use Rattle.bits.specs.declared.Gathered.{Gathered}
use Rattle.bits.specs.Meeting.{Met, none, along, met_in, Holds, room}
use Rattle.bits.proofs.Programs.{program-met}
use Rattle.panel_check.specs.declared.Program.{Program}
use Rattle.panel_check.specs.declared.refusal.PanelRefusal.{PanelRefusal}
use Rattle.panel_check.specs.declared.refusal.PanelRefusal.TheVariants.{Base, Outside, DrivenTwice, TooManyBits}
use Rattle.panel_check.specs.Checking.{RootGood, ProgramAt, NoProgram, Refuses, Passes, Checks, within_of, Within}

-- ---- the profile of a tree that is owned, by its tests

module _ (t : Tree) (owned : closed [] t ≡ true) where
  profile-outside : is_program t ≡ false → profile t ≡ refused outside
  unfolding profile
  profile-outside e = rw (owned, e)

  profile-twice : is_program t ≡ true → all_differ (driven t) ≡ false → profile t ≡ refused driven_twice
  unfolding profile
  profile-twice e d = rw (owned, e, d)

  profile_many : is_program t ≡ true → all_differ (driven t) ≡ true → 256 < length (bits_of t) → profile t ≡ refused too_many_bits
  unfolding profile most_bits
  profile_many e d h = rw (owned, e, d, lt-leb (length (bits_of t)) 256 h)

  profile-listed : is_program t ≡ true → all_differ (driven t) ≡ true → length (bits_of t) ≤ 256 → profile t ≡ listed (bits_of t)
  unfolding profile most_bits
  profile-listed e d h = rw (owned, e, d, le-leb (length (bits_of t)) 256 h)

-- ---- what was judged

-- behind the faults of the image, code 3
abbrev then_owned : Read (Image Tree) → Read (Image Tree)
then_owned g = next g (λ i t. next (need unowned (closed [] i.root) t) (λ x u. got i u))

owned-image : (s : List ℕ) → read_image read_owned s ≡ then_owned (read_image read_tree_image s)
unfolding read_image read_owned
owned-image s = go (leb (length s) most_image)
  where
    go : (b : Bool) → (when b then read_owned s else fault over_limit) ≡ then_owned (when b then read_tree_image s else fault over_limit)
    go true = refl
    go false = refl

panel-fault : (g : Read (Image Tree)) {c : Refusal} → then_owned g ≡ fault c → of_image g ≡ refused (base c)
unfolding of_image profile
panel-fault (got i s) {c} e = go (closed [] i.root) refl e
  where
    go : (b : Bool) → closed [] i.root ≡ b → next (need unowned b s) (λ x u. got i u) ≡ fault c → of_image (got i s) ≡ refused (base c)
    go true q e = absurd (fault≢got c i s (sym e))
    go false q e = let z : unowned ≡ c = cc in rw (q, z)
panel-fault (fault d) {c} e = let z : d ≡ c = cc in ap (λ (x : Refusal). refused (base x)) z

pub judged-fault : {image : List ℕ} {r : Result Judgement declared.Refusal} {f : declared.Refusal} → JudgesTree image r → r ≡ Err f → Refuses image (Base f)
unfolding panel_of
judged-fault {image} {r} {f} h e = panel-fault (read_image read_tree_image image) (sym (owned-image image) ∙ (h.judges []).is ∙ rw e refl)

record Read-owned (g : Read (Image Tree)) (i : Image Tree) : Type 0 where
  reads : g ≡ got i []
  owned : closed [] i.root ≡ true

read_owned_lem : (g : Read (Image Tree)) {i : Image Tree} → then_owned g ≡ got i [] → Read-owned g i
read_owned_lem (got j s) {i} e = go (closed [] j.root) refl e
  where
    go : (b : Bool) → closed [] j.root ≡ b → next (need unowned b s) (λ x u. got j u) ≡ got i [] → Read-owned (got j s) i
    go true q d =
        let v = got-value j i s [] d in
        record { reads = d; owned = subst (λ (z : Image Tree). closed [] z.root ≡ true) v q }
    go false q d = absurd (fault≢got unowned i [] d)
read_owned_lem (fault c) {i} e = absurd (fault≢got c i [] e)

-- an image without fault that is no program
pub judged-outside : {image : List ℕ} {r : Result Judgement declared.Refusal} {j : Judgement} → NoProgram image → JudgesTree image r → r ≡ Ok j → Refuses image Outside
unfolding panel_of of_image
judged-outside {image} {r} {j} n h e =
    let g = (h.judges []).good j e in
    let o = read_owned_lem (read_image read_tree_image image) (sym (owned-image image) ∙ g.reads) in
    rw o.reads (profile-outside g.image.root o.owned (n g.image o.reads o.owned))

-- ---- the root

pub good-fits : {image : List ℕ} {root : ℕ} (m : ℕ) → RootGood image root → root ≤ m + length image
good-fits m g = let x = g.root-within in omega arith

pub good-short : {image : List ℕ} {root : ℕ} {s : List ℕ} → RootGood image root → s ≡ drop (root - 0) image → root + length s ≤ 65536
good-short {image} {root} {s} g e =
    let l = ap length e ∙ length-drop (root - 0) image in
    let x = g.root-within in
    let y = g.short in
    omega arith

module _ {image : List ℕ} {root : ℕ} (g : RootGood image root) (program : is_program g.read.root ≡ true) {s : List ℕ} (i : s ≡ drop (root - 0) image) where
  reads_here : read_tree most_nesting g.read.head 0 s ≡ got g.read.root []
  reads_here = let z : root - 0 ≡ root = omega arith in ap (read_tree most_nesting g.read.head 0) (i ∙ ap (λ (k : ℕ). drop k image) z) ∙ g.root-reads

  panel-is : panel_of image ≡ profile g.read.root
  unfolding panel_of of_image
  panel-is = rw g.reads

  met : along (length s) none s ≡ met_in g.read.root
  met =
      let l = ap length i ∙ length-drop (root - 0) image in
      program-met most_nesting g.read.head s g.read.root g.head-fits (subst Bytes (sym i) (bytes_drop (root - 0) image g.bytes)) (omega (arith, l, g.short)) reads_here program

  module _ (marks names : List ℕ) {k : Gathered} (h : Holds (along (length s) none s) marks names k) where
    holds : Holds (met_in g.read.root) marks names k
    holds = subst (λ (z : Met). Holds z marks names k) met h

    differ : (b : Bool) → k.twice ≡ b → all_differ (driven g.read.root) ≡ not b
    differ true p = not-true (all_differ (driven g.read.root)) (sym holds.twice-is ∙ p)
    differ false p = not-false (all_differ (driven g.read.root)) (sym holds.twice-is ∙ p)

    counted : k.bits ≡ length (bits_of g.read.root)
    counted = holds.counted

    twice : k.twice ≡ true → Checks image marks names (Err DrivenTwice)
    twice p =
        record {
          is = panel-is ∙ profile-twice g.read.root g.owned program (differ true p);
          passes = λ q d. absurd (let z : ◌≡◌ {A = ℕ} 0 1 = cc in omega arith);
        }

    many : k.twice ≡ false → ltb room k.bits ≡ true → Checks image marks names (Err TooManyBits)
    many p c =
        let h = ltb-true room k.bits c in
        record {
          is = panel-is ∙ profile_many g.read.root g.owned program (differ false p) (omega (arith, counted));
          passes = λ q d. absurd (let z : ◌≡◌ {A = ℕ} 0 1 = cc in omega arith);
        }

    passed : k.twice ≡ false → ltb room k.bits ≡ false → Checks image marks names (Ok (record { root = root; bits = k.bits }))
    passed p c =
        let few : k.bits ≤ 256 = ltb-false room k.bits c in
        let short : length (bits_of g.read.root) ≤ 256 = omega (arith, counted) in
        let names-are : take k.bits names ≡ bits_of g.read.root = holds.named short in
        record {
          is = panel-is ∙ profile-listed g.read.root g.owned program (differ false p) short ∙ ap listed (sym names-are);
          passes = λ q d.
              let z : record { root = root; bits = k.bits } ≡ q = cc in
              subst (Passes image marks names) z
              (record { good = g; program = program; few = few; counted = counted; named = names-are; marked = holds.marked });
        }

    in_profile : {r : Result Program PanelRefusal} → Within root k r → Checks image marks names r
    unfolding within_of
    in_profile {r} w = subst (Checks image marks names) (sym w) (go k.twice (ltb room k.bits) refl refl)
      where
        go : (a c : Bool) → k.twice ≡ a → ltb room k.bits ≡ c
            → Checks image marks names (when a then Err DrivenTwice else when c then Err TooManyBits else Ok (record { root = root; bits = k.bits }))
        go true c p q = twice p
        go false true p q = many p q
        go false false p q = passed p q

pub root_in_profile : {image : List ℕ} {root : ℕ} → ProgramAt image root → {s : List ℕ} → s ≡ drop (root - 0) image → (marks names : List ℕ) {k : Gathered} → Holds (along (length s) none s) marks names k
    → {r : Result Program PanelRefusal} → Within root k r → Checks image marks names r
root_in_profile p i marks names h w = in_profile p.good p.program i marks names h w
