-- The smaller image written part by part.
use Prim.Native.Nat.{ℕ, ◌+◌, ◌≤◌}
use mathlib.Core.Path.{◌≡◌, refl, sym, ap, ◌∙◌, subst}
use mathlib.Core.List.{List, [], ◌++◌}
use native.Mathlib.Omega.{arith}
use lib.Bits.{bit_or}
use lib.ListN.{length}
use lib.Seq.{sets}
use mir.Syntax.{w32}
use mir.Val.{Fits}
use Rattle.model.specs.Scopes.{Scopes, members}
use Rattle.model.specs.Objects.{Stx}
use Rattle.model.specs.Reading as m
use Rattle.model.specs.Writing.{num_bytes, head_bytes, binds_bytes, stx_bytes}
use Rattle.laws.proofs.ScopeSets.{Sub}
use Rattle.shrinking.specs.Shrunk.{scopes_in, kept, remaining, rank, renumber_each, with_scopes, smaller}
use Rattle.shrinking.proofs.Kept.{root_sub}
use Rattle.shrinking.proofs.Readable.{shrunk-bytes, small_u, binds_under}
use Rattle.shrinking.proofs.Finished.{smaller_finished}
use Rattle.alike.specs.Renumbering.{renumber_stx}
use Rattle.pieces.specs.Pieces.{root_pieces, pieces_bytes, scopes_among, renumber_pieces}
use Rattle.pieces.proofs.PieceLaws.{no-scopes, scopes-among, join-none}
use Rattle.scopes.specs.Sets.{scopes_of}
use Rattle.steps.specs.declared.State.{State}
use Rattle.image.specs.declared.Judgement.{Judgement}
use Rattle.finish.specs.Headings.{head_after, Fitting, PutsHead}
use Rattle.text.specs.Placing.{Placed}
use Rattle.text.proofs.Placing.{placed_then, placed-length, renamed}
use Rattle.marking.specs.Kept.{kept_of}
use Rattle.marking.specs.declared.kept.Kept.{Kept}
use Rattle.ranking.specs.Ranks.{Ranked}
use Rattle.ranking.specs.Numbered.{pieces_by, binds_by, RoomFor, RootRoom, KeptRoom}
use Rattle.ranking.proofs.SetLaws.{first-room, then_room}
use Rattle.shrinker.specs.Using.{remaining_in, Held}
use Rattle.shrinker.specs.Job.{Writable, Makes}
use Rattle.shrinker.proofs.UseLaws.{G, I, fits, scopes-few, root-ahead, root-pieces, kept_in_lem, remaining_in_lem}
use Rattle.shrinker.proofs.ByteLaws.{pieces-by, binds-by, root-bytes, parts}

with_scopes_lem : (n : ℕ) (h : m.Head) → with_scopes n h ≡ record { words = h.words; names = h.names; scopes = n }
unfolding with_scopes
with_scopes_lem n h = refl

module _ {image store : List ℕ} {j : Judgement} {marks : List ℕ} {k : Kept} {ranks scratch : List ℕ} (y : Writable image store j marks k ranks scratch) where
  abbrev H : Held image store j
  H = y.held

  abbrev X : m.Image Stx
  X = I y.held

  abbrev U : Scopes
  U = remaining (I y.held).binds (I y.held).root

  remaining-are : remaining_in image ≡ U
  remaining-are = remaining_in_lem image [] X (G H).reads

  ranked : Ranked U ranks
  ranked = subst (λ (u : Scopes). Ranked u ranks) remaining-are y.ranked

  -- ---- its parts

  kept-bytes : binds_by ranks (kept_of marks store) ≡ binds_bytes (renumber_each (rank U) (kept X.root X.binds))
  kept-bytes =
      ap (binds_by ranks) (y.uses.kept-are ∙ kept_in_lem image [] X (G H).reads)
      ∙ binds-by U (small_u X (fits H)) ranks ranked X.head.scopes (scopes-few H) (kept X.root X.binds) (binds_under X (fits H))

  root-scopes : scopes_among (root_pieces image) ≡ scopes_in X.root
  root-scopes =
      ap scopes_among (root-pieces image [] X (G H).reads) ∙ scopes-among X.root [] ∙ ap (bit_or (scopes_in X.root)) no-scopes ∙ join-none (scopes_in X.root)

  same-scopes : j.front.head.scopes ≡ X.head.scopes
  same-scopes = ap (λ x. x.scopes) (G H).head-is

  root_bytes_are : pieces_by ranks (root_pieces image) ≡ stx_bytes (renumber_stx (rank U) X.root)
  root_bytes_are =
      pieces-by U (small_u X (fits H)) ranks ranked j.front.head.scopes (G H).scopes-to (root_pieces image) (root-ahead H).fit
      (subst (λ (s : Scopes). Sub s U) (sym root-scopes) (root_sub X.binds X.root))
      ∙ ap (λ l. pieces_bytes (renumber_pieces (rank U) l)) (root-pieces image [] X (G H).reads) ∙ root-bytes (rank U) X.root

  count-are : k.count ≡ length (kept X.root X.binds)
  count-are = y.uses.count-is ∙ ap length (kept_in_lem image [] X (G H).reads)

  pub write_cast : Fits w32 k.count
  write_cast = let a = y.uses.few in let b = y.marks-long in let c = (G H).few-binds in omega arith

  module _ {n : ℕ} (e : n ≡ length (members (scopes_of k.scopes))) where
    abbrev T : State
    T = record { top = 0; left = 0; names = j.front.head.names; scopes = n; bindings = k.count }

    abbrev A : List ℕ
    A = head_bytes 1 (head_after (G H).headed.words T)

    abbrev B : List ℕ
    B = num_bytes k.count

    abbrev C : List ℕ
    C = binds_by ranks (kept_of marks store)

    abbrev D : List ℕ
    D = pieces_by ranks (root_pieces image)

    head-is : head_after (G H).headed.words T ≡ with_scopes (length (members U)) X.head
    head-is =
        (λ z. record {
          words = (G H).same-words z;
          names = ((G H).head-is z).names;
          scopes = (e ∙ ap (λ (u : Scopes). length (members u)) (y.uses.scopes-are ∙ remaining-are)) z;
        }) ∙ sym (with_scopes_lem (length (members U)) X.head)

    whole : smaller image ≡ A ++ B ++ C ++ D
    whole =
        shrunk-bytes image [] X (G H).reads ∙ parts X
        ∙ (λ z. head_bytes 1 (sym head-is z) ++ num_bytes (sym count-are z) ++ sym kept-bytes z ++ sym root_bytes_are z)

    short : length (smaller image) ≤ 65536
    short = let a = (smaller_finished image [] X (G H).bytes (G H).reads).no_longer in let b = (G H).short in omega arith

    all : RoomFor scratch 0 ranks (A ++ B ++ C ++ D)
    all = let a = short in let b = y.room in let c = ap length whole in record { numbers = y.ranked.long; room = omega arith }

    three : RoomFor scratch 0 ranks (A ++ B ++ C)
    three = first-room (A ++ B ++ C) D all

    two : RoomFor scratch 0 ranks (A ++ B)
    two = first-room (A ++ B) C three

    pub write_head : Fitting image j.front 1 T scratch
    write_head = record {
      longer = record { headed = (G H).headed; more = omega arith };
      one_byte = omega arith;
      fits = let a = (first-room A B two).room in omega arith;
    }

    module _ {out₁ : List ℕ} {behind : ℕ} (p : PutsHead image j.front 1 T scratch out₁ behind) where
      one : Placed scratch 0 A out₁ behind
      one = let w = p.means (G H).headed in record { ends = w.past_is; is = w.out-is }

      pub write_count : behind + length (num_bytes k.count) ≤ length out₁
      write_count = (then_room A B two one).room

      module _ {out₂ : List ℕ} {first : ℕ} (i : first ≡ behind + length (num_bytes k.count)) (o : out₂ ≡ sets out₁ behind (num_bytes k.count)) where
        ahead : Placed scratch 0 (A ++ B) out₂ first
        ahead = placed_then one (record { ends = i; is = o })

        pub write_kept : KeptRoom out₂ first ranks store marks
        write_kept = record {
          room = then_room (A ++ B) C three ahead;
          held = let a = H.long in let b = (G H).few-binds in let c = y.uses.long in let d = y.marks-long in omega arith;
        }

        module _ {out₃ : List ℕ} {root : ℕ} (w : Placed out₂ first (binds_by ranks (kept_of marks store)) out₃ root) where
          pub write_root : RootRoom out₃ root ranks image j.front.head.scopes j.root
          write_root = record { room = then_room (A ++ B ++ C) D all (placed_then ahead w); ahead = root-ahead H }

          module _ {out₄ : List ℕ} {r : ℕ} (v : Placed out₃ root (pieces_by ranks (root_pieces image)) out₄ r) where
            made : Placed scratch 0 (smaller image) out₄ r
            made = renamed (sym whole) (placed_then (placed_then ahead w) v)

            pub write_made : Makes image scratch out₄ r
            write_made = record { placed = made; short = let a = short in let b = made.ends in omega arith }

            pub write_same : length out₄ ≡ length scratch
            write_same = placed-length made

pub ruleset write_laws = (write_cast, write_head, write_count, write_kept, write_root, write_made, write_same)
