-- Building an object: one law for each way out.
use mathlib.Core.Path.{◌≡◌, refl, sym, ap, ◌∙◌}
use mathlib.Core.List.{List}
use Prim.Native.Nat.{ℕ, ◌+◌, ◌-◌, ◌*◌, ◌≤◌, ◌<◌}
use native.Mathlib.Omega.{arith}
use lib.ListN.{length, drop}
use Rattle.model.specs.Objects as m
use Rattle.model.specs.Objects.{Atom, tag_of, content_of, Stxs, atom, list}
use Rattle.model.specs.Trees.{Tree, stx, from_stxs, load_size}
use Rattle.table.specs.Tags.{list_tag}
use Rattle.table.specs.declared.Sets.{Sets}
use Rattle.table.proofs.Laws.{same_trans}
use Rattle.things.specs.Making.{Roomy, StoredObject}
use Rattle.table.specs.Words.{sets_of}
use Rattle.things.proofs.ByTag.{tag-low}
use Rattle.builder.specs.declared.Built.{Built}
use Rattle.builder.specs.Reads.{ObjectRead, ObjectsRead}
use Rattle.builder.specs.Fronts.{Left, FrontHere, FrontIs, FrontRead}
use Rattle.builder.specs.Building.{Judged, JudgedAll, Builds, BuildsAll}
use Rattle.builder.proofs.Inverting.{ObjectBody, an_atom, a_list, ObjectAt, object-at}
use Rattle.builder.proofs.Sizes.{load-atom, load-list, load-some}
use Rattle.builder.proofs.Standing.{atom-stands, list-stands}
use Rattle.table.specs.Sizes.{node_size}

pub node_roomy : {R : List ℕ → Tree → List ℕ → Type 0} {l : List ℕ} {top : ℕ} {image : List ℕ} {at scopes : ℕ} → Judged R l top image at scopes → Roomy l top node_size
node_roomy s = record { fits = omega (arith, s.room.fits, load-some s.thing); small = s.room.small; low = s.room.low }

module _ {scopes : ℕ} {l : List ℕ} {top : ℕ} {image : List ℕ} {at : ℕ} (s : Judged (ObjectRead scopes) l top image at scopes) where
  it : ObjectAt scopes (drop at image) s.thing s.rest
  it = object-at s.read

  pub front-here : FrontHere image at scopes
  front-here = record { place = s.room.place; few = s.room.few; tag = it.tag; sets = it.sets; n = it.n; rest = it.u; is = it.front }

-- the parts, where it is a list
record ListAt (scopes : ℕ) (image : List ℕ) (at n past : ℕ) (c : Sets) (t : Tree) (rest : List ℕ) : Type 0 where
  sets : m.Sets
  parts : Stxs
  is : t ≡ stx (list sets parts)
  sets-are : sets_of c ≡ sets
  further : at + 1 ≤ past
  within : past ≤ length image
  read : ObjectsRead scopes n (drop past image) (from_stxs parts) rest

record AtomAt (image : List ℕ) (at tag n past : ℕ) (c : Sets) (t : Tree) (rest : List ℕ) : Type 0 where
  sets : m.Sets
  value : Atom
  is : t ≡ stx (atom sets value)
  sets-are : sets_of c ≡ sets
  tag_is : tag ≡ tag_of value
  content-is : n ≡ content_of value
  left : Left image (at + 1) past rest

module _ {scopes : ℕ} {image : List ℕ} {at tag n past : ℕ} {c : Sets} (f : FrontRead image at scopes tag c n past) where
  list_body : {tag₀ n₀ : ℕ} {sets₀ : m.Sets} {u rest : List ℕ} {t : Tree} → FrontIs image at tag c n past tag₀ sets₀ n₀ u → ObjectBody scopes tag₀ sets₀ n₀ u t rest → tag ≡ list_tag
      → ListAt scopes image at n past c t rest
  list_body i (an_atom {a = a} p q) h = absurd (omega (arith, i.tag_is, tag-low a))
  list_body {sets₀ = sets₀} i (a_list {ps = ps} {rest = rest} p q) h =
      record {
        sets = sets₀;
        parts = ps;
        is = refl;
        sets-are = i.sets-are;
        further = i.left.moved;
        within = i.left.inside;
        read = rw (i.number_is, ← i.left.is) q;
      }

  list_at : {t : Tree} {rest : List ℕ} → ObjectRead scopes (drop at image) t rest → tag ≡ list_tag → ListAt scopes image at n past c t rest
  list_at r h = let o = object-at r in list_body (f.means o.tag o.sets o.n o.u o.front) o.body h

  atom_body : {tag₀ n₀ : ℕ} {sets₀ : m.Sets} {u rest : List ℕ} {t : Tree} → FrontIs image at tag c n past tag₀ sets₀ n₀ u → ObjectBody scopes tag₀ sets₀ n₀ u t rest → ¬ (tag ≡ list_tag)
      → AtomAt image at tag n past c t rest
  atom_body {sets₀ = sets₀} i (an_atom {a = a} p q) h =
      record { sets = sets₀; value = a; is = refl; sets-are = i.sets-are; tag_is = i.tag_is ∙ sym p; content-is = i.number_is ∙ sym q; left = i.left }
  atom_body i (a_list p q) h = absurd (h (i.tag_is ∙ p))

  atom-at : {t : Tree} {rest : List ℕ} → ObjectRead scopes (drop at image) t rest → ¬ (tag ≡ list_tag) → AtomAt image at tag n past c t rest
  atom-at r h = let o = object-at r in atom_body (f.means o.tag o.sets o.n o.u o.front) o.body h

  module _ {l : List ℕ} {top : ℕ} where
    module _ (s : Judged (ObjectRead scopes) l top image at scopes) where
      pub parts-judged : tag ≡ list_tag → JudgedAll (ObjectsRead scopes) n l top image past scopes
      parts-judged h =
          let p = list_at s.read h in
          record {
            thing = from_stxs p.parts;
            rest = s.rest;
            read = p.read;
            room = record {
              fits = omega (arith, s.room.fits, ap load_size p.is, load-list p.sets p.parts);
              small = s.room.small;
              low = s.room.low;
              place = record { inside = p.within; short = s.room.place.short };
              few = s.room.few;
            };
          }

      pub parts-later : {t : ℕ} → tag ≡ list_tag → (length image - at) * 3 ≡ t → (length image - past) * 3 + 1 < t
      parts-later h z = let p = list_at s.read h in omega (arith, p.further, p.within)

      pub list_roomy : {l1 : List ℕ} {r : Built} → tag ≡ list_tag → BuildsAll (ObjectsRead scopes) n l l1 top image past r → length l1 ≡ length l → Roomy l1 r.top node_size
      list_roomy h b q =
          let p = list_at s.read h in
          let w = b.means (from_stxs p.parts) s.rest p.read in
          record {
            fits = omega (arith, s.room.fits, ap load_size p.is, load-list p.sets p.parts, w.grows);
            small = omega (arith, q, s.room.small);
            low = omega (arith, s.room.low, b.rises);
          }

    pub list_builds : {l1 l2 : List ℕ} {r : Built} {at1 top1 : ℕ} → tag ≡ list_tag → BuildsAll (ObjectsRead scopes) n l l1 top image past r
        → StoredObject l1 l2 r.top (record { tag = tag; content = r.at }) c at1 top1 → Builds (ObjectRead scopes) l l2 top image at (at + 1) (record { at = at1; top = top1; past = r.past })
    list_builds {l1} {l2} {r} h b o =
        record {
          kept = same_trans top r.top l l1 l2 b.rises b.kept o.stored.kept;
          rises = omega (arith, b.rises, o.stored.grows);
          means = λ t rest x.
              let p = list_at x h in
              let w = b.means (from_stxs p.parts) rest p.read in
              let y = w.left in
              rw p.is (record {
                shown = list-stands o h p.sets-are w.shown;
                grows = omega (arith, o.stored.grows, w.grows, load-list p.sets p.parts);
                left = record { moved = omega (arith, p.further, y.moved); inside = y.inside; is = y.is };
              });
        }

    pub atom_builds : {l1 : List ℕ} {at1 top1 : ℕ} → ¬ (tag ≡ list_tag) → StoredObject l l1 top (record { tag = tag; content = n }) c at1 top1
        → Builds (ObjectRead scopes) l l1 top image at (at + 1) (record { at = at1; top = top1; past = past })
    atom_builds {l1} h o =
        record {
          kept = o.stored.kept;
          rises = omega (arith, o.stored.grows);
          means = λ t rest x.
              let p = atom-at x h in
              rw p.is (record {
                shown = atom-stands o p.tag_is p.content-is p.sets-are;
                grows = omega (arith, o.stored.grows, load-atom p.sets p.value);
                left = p.left;
              });
        }

pub ruleset object_laws = (front-here, parts-judged, parts-later, list_roomy, node_roomy, list_builds, atom_builds)
