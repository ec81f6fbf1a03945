-- Building a tree: one law for each way out.
use mathlib.Core.Path.{◌≡◌, refl, sym, ap, ◌∙◌}
use mathlib.Core.List.{List}
use Prim.Native.Nat.{ℕ, ◌+◌, ◌-◌, ◌*◌, ◌≤◌, ◌<◌, ◌^◌}
use native.Mathlib.Omega.{arith}
use lib.ListN.{length, drop}
use Rattle.scopes.specs.Sets.{set_scopes}
use Rattle.model.specs.Objects.{Atom, tag_of, content_of}
use Rattle.model.specs.Trees.{Tree, Trees, var, fun, datum, tcons, load_size}
use Rattle.model.specs.Reading.{got, num}
use Rattle.table.specs.Tags.{variable_tag, application_tag, list_value_tag, atom_value_tag}
use Rattle.table.specs.declared.Node.{Node}
use Rattle.table.proofs.Laws.{same_trans}
use Rattle.things.specs.Making.{Roomy, Stored, Closable, Closed}
use Rattle.things.specs.Rep.{Rep, RepP}
use Rattle.things.proofs.ByTag.{tag-low}
use Rattle.builder.specs.declared.Built.{Built}
use Rattle.builder.specs.Reads.{ObjectRead, TreeRead, TreesRead, AtomRead, atom-read, FunctionRead, function_read, ListRead, application_read, list_read}
use Rattle.builder.specs.Fronts.{NumberHere, NumberRead}
use Rattle.builder.specs.Building.{load_sizes, Judged, JudgedAll, Builds, BuildsAll, StoredLeaf}
use Rattle.builder.proofs.Inverting.{TreeBody, a_variable, an_application, a_function, an_atom_value, a_list_value, a_syntax_value, tree-at}
use Rattle.builder.proofs.Sizes.{load-var, load-datum, load-app, load-lst, load-fun}
use Rattle.builder.proofs.Standing.{var-stands, datum-stands, app-stands, lst-stands}
use Rattle.builder.proofs.ObjectLaws.{node_roomy}
use Rattle.table.specs.Sizes.{node_size}

-- ---- from one way to read to another, further on

-- what is read at `at` in the one way is read at `past` in the other
pub record Leads (R Q : List ℕ → Tree → List ℕ → Type 0) (image : List ℕ) (at past : ℕ) : Type 0 where
  pub read : {t : Tree} {rest : List ℕ} → R (drop at image) t rest → Q (drop past image) t rest
  pub inside : {t : Tree} {rest : List ℕ} → R (drop at image) t rest → past ≤ length image
  pub further : {t : Tree} {rest : List ℕ} → R (drop at image) t rest → at + 1 ≤ past

module _ {R Q : List ℕ → Tree → List ℕ → Type 0} {image : List ℕ} {at past : ℕ} (L : Leads R Q image at past) {l : List ℕ} {top : ℕ} where
  leads_judged : {scopes k : ℕ} → k ≤ set_scopes → Judged R l top image at scopes → Judged Q l top image past k
  leads_judged h s =
      record {
        thing = s.thing;
        rest = s.rest;
        read = L.read s.read;
        room = record {
          fits = s.room.fits;
          small = s.room.small;
          low = s.room.low;
          place = record { inside = L.inside s.read; short = s.room.place.short };
          few = h;
        };
      }

  module _ {scopes t : ℕ} (s : Judged R l top image at scopes) (z : (length image - at) * 3 ≡ t) where
    leads_later : (length image - past) * 3 + 2 < t
    leads_later = omega (arith, L.further s.read, L.inside s.read)

  leads_builds : {l1 : List ℕ} {from : ℕ} {r : Built} → past ≤ from → Builds Q l l1 top image past from r → Builds R l l1 top image at (at + 1) r
  leads_builds h b =
      record {
        kept = b.kept;
        rises = b.rises;
        means = λ t rest x.
            let w = b.means t rest (L.read x) in
            let y = w.left in
            record {
              shown = w.shown;
              grows = w.grows;
              left = record { moved = omega (arith, L.further x, y.moved); inside = y.inside; is = y.is };
            };
      }

-- ---- by the tag

-- by the tag that was read
record Tagged (scopes : ℕ) (image : List ℕ) (at kind here : ℕ) (t : Tree) (rest : List ℕ) : Type 0 where
  further : at + 1 ≤ here
  inside : here ≤ length image
  body : TreeBody scopes kind (drop here image) t rest

tagged : {scopes : ℕ} {image : List ℕ} {at kind here : ℕ} {t : Tree} {rest : List ℕ} → NumberRead image at kind here → TreeRead scopes (drop at image) t rest
    → Tagged scopes image at kind here t rest
tagged f r =
    let o = tree-at r in
    let y = f.left o.tag o.u o.tag_read in
    record { further = y.moved; inside = y.inside; body = rw (f.value-is o.tag o.u o.tag_read, ← y.is) o.body }

-- the number behind the tag, and what follows it
record Next (Q : ℕ → List ℕ → Tree → List ℕ → Type 0) (u : List ℕ) (t : Tree) (rest : List ℕ) : Type 0 where
  n : ℕ
  v : List ℕ
  number : num u ≡ got n v
  read : Q n v t rest

data VariableRead (n : ℕ) (u : List ℕ) : Tree → List ℕ → Type 0 where
  variable-read : VariableRead n u (var n) u

variable : {n : ℕ} {u rest : List ℕ} {t : Tree} → VariableRead n u t rest → (t ≡ var n) × (rest ≡ u)
variable variable-read = (refl, refl)

data AnyRead (n : ℕ) (u : List ℕ) (t : Tree) (rest : List ℕ) : Type 0 where
  any_read : AnyRead n u t rest

by-syntax : {scopes k : ℕ} {u rest : List ℕ} {t : Tree} → k ≡ 5 → TreeBody scopes k u t rest → ObjectRead scopes u t rest
by-syntax h (a_variable e) = absurd (omega arith)
by-syntax h (an_application e r) = absurd (omega arith)
by-syntax h (a_function e r) = absurd (omega arith)
by-syntax h (an_atom_value e r) = absurd (omega arith)
by-syntax h (a_list_value e r) = absurd (omega arith)
by-syntax h (a_syntax_value r) = r

by_number : {scopes k : ℕ} {u rest : List ℕ} {t : Tree} → ¬ (k ≡ 5) → TreeBody scopes k u t rest → Next AnyRead u t rest
by_number h (a_variable {n = n} {rest = v} e) = record { n = n; v = v; number = e; read = any_read }
by_number h (an_application {n = n} {v = v} e r) = record { n = n; v = v; number = e; read = any_read }
by_number h (a_function {n = n} {v = v} e r) = record { n = n; v = v; number = e; read = any_read }
by_number h (an_atom_value {n = n} {v = v} e r) = record { n = n; v = v; number = e; read = any_read }
by_number h (a_list_value {n = n} {v = v} e r) = record { n = n; v = v; number = e; read = any_read }
by_number h (a_syntax_value r) = absurd (h refl)

by-variable : {scopes k : ℕ} {u rest : List ℕ} {t : Tree} → k ≡ 0 → TreeBody scopes k u t rest → Next VariableRead u t rest
by-variable h (a_variable {n = n} {rest = v} e) = record { n = n; v = v; number = e; read = variable-read }
by-variable h (an_application e r) = absurd (omega arith)
by-variable h (a_function e r) = absurd (omega arith)
by-variable h (an_atom_value e r) = absurd (omega arith)
by-variable h (a_list_value e r) = absurd (omega arith)
by-variable h (a_syntax_value r) = absurd (omega arith)

by-atom : {scopes k : ℕ} {u rest : List ℕ} {t : Tree} → k ≡ 3 → TreeBody scopes k u t rest → Next AtomRead u t rest
by-atom h (a_variable e) = absurd (omega arith)
by-atom h (an_application e r) = absurd (omega arith)
by-atom h (a_function e r) = absurd (omega arith)
by-atom h (an_atom_value {n = n} {v = v} e r) = record { n = n; v = v; number = e; read = r }
by-atom h (a_list_value e r) = absurd (omega arith)
by-atom h (a_syntax_value r) = absurd (omega arith)

by_function : {scopes k : ℕ} {u rest : List ℕ} {t : Tree} → k ≡ 2 → TreeBody scopes k u t rest → Next (FunctionRead scopes) u t rest
by_function h (a_variable e) = absurd (omega arith)
by_function h (an_application e r) = absurd (omega arith)
by_function h (a_function {n = n} {v = v} e r) = record { n = n; v = v; number = e; read = r }
by_function h (an_atom_value e r) = absurd (omega arith)
by_function h (a_list_value e r) = absurd (omega arith)
by_function h (a_syntax_value r) = absurd (omega arith)

by_application : {scopes k : ℕ} {u rest : List ℕ} {t : Tree} → k ≡ 1 → TreeBody scopes k u t rest → Next (λ n. ListRead scopes n application_tag) u t rest
by_application h (a_variable e) = absurd (omega arith)
by_application h (an_application {n = n} {v = v} e r) = record { n = n; v = v; number = e; read = r }
by_application h (a_function e r) = absurd (omega arith)
by_application h (an_atom_value e r) = absurd (omega arith)
by_application h (a_list_value e r) = absurd (omega arith)
by_application h (a_syntax_value r) = absurd (omega arith)

by-list : {scopes k : ℕ} {u rest : List ℕ} {t : Tree} → ¬ (k ≡ 5) → ¬ (k ≡ 0) → ¬ (k ≡ 3) → ¬ (k ≡ 2) → ¬ (k ≡ 1) → TreeBody scopes k u t rest → Next (λ n. ListRead scopes n list_value_tag) u t rest
by-list n5 n0 n3 n2 n1 (a_variable e) = absurd (n0 refl)
by-list n5 n0 n3 n2 n1 (an_application e r) = absurd (n1 refl)
by-list n5 n0 n3 n2 n1 (a_function e r) = absurd (n2 refl)
by-list n5 n0 n3 n2 n1 (an_atom_value e r) = absurd (n3 refl)
by-list n5 n0 n3 n2 n1 (a_list_value {n = n} {v = v} e r) = record { n = n; v = v; number = e; read = r }
by-list n5 n0 n3 n2 n1 (a_syntax_value r) = absurd (n5 refl)

pub tag-there : {scopes : ℕ} {l : List ℕ} {top : ℕ} {image : List ℕ} {at : ℕ} → Judged (TreeRead scopes) l top image at scopes → NumberHere image at
tag-there s = let o = tree-at s.read in record { place = s.room.place; n = o.tag; rest = o.u; is = o.tag_read }

module _ {scopes : ℕ} {image : List ℕ} {at kind here : ℕ} (f : NumberRead image at kind here) where
  leads_object : kind ≡ 5 → Leads (TreeRead scopes) (ObjectRead scopes) image at here
  leads_object h =
      record {
        read = λ x. let g = tagged f x in by-syntax h g.body;
        inside = λ x. let g = tagged f x in g.inside;
        further = λ x. let g = tagged f x in g.further;
      }

  pub syntax_value_judged : {l : List ℕ} {top : ℕ} → kind ≡ 5 → Judged (TreeRead scopes) l top image at scopes → Judged (ObjectRead scopes) l top image here scopes
  syntax_value_judged h s = leads_judged (leads_object h) s.room.few s

  pub syntax_value_builds : {l l1 : List ℕ} {top : ℕ} {r : Built} → kind ≡ 5 → Builds (ObjectRead scopes) l l1 top image here (here + 1) r → Builds (TreeRead scopes) l l1 top image at (at + 1) r
  syntax_value_builds h b = leads_builds (leads_object h) (omega arith) b

  pub number-there : {l : List ℕ} {top : ℕ} → ¬ (kind ≡ 5) → Judged (TreeRead scopes) l top image at scopes → NumberHere image here
  number-there h s =
      let g = tagged f s.read in
      let o = by_number h g.body in
      record { place = record { inside = g.inside; short = s.room.place.short }; n = o.n; rest = o.v; is = o.number }

  module _ {n past : ℕ} (w : NumberRead image here n past) where
    behind : (Q : ℕ → List ℕ → Tree → List ℕ → Type 0) → ((t : Tree) (rest : List ℕ) → TreeBody scopes kind (drop here image) t rest → Next Q (drop here image) t rest)
        → Leads (TreeRead scopes) (Q n) image at past
    behind Q by =
        record {
          read = λ {t} {rest} x.
              let g = tagged f x in
              let o = by t rest g.body in
              let y = w.left o.n o.v o.number in
              rw (w.value-is o.n o.v o.number, ← y.is) o.read;
          inside = λ {t} {rest} x. let g = tagged f x in let o = by t rest g.body in (w.left o.n o.v o.number).inside;
          further = λ {t} {rest} x. let g = tagged f x in let o = by t rest g.body in omega (arith, g.further, (w.left o.n o.v o.number).moved);
        }

    module _ (h : kind ≡ 3) where
      leads_atom : Leads (TreeRead scopes) (AtomRead n) image at past
      leads_atom = behind AtomRead (λ t rest x. by-atom h x)

      pub atom_value_judged : {l : List ℕ} {top : ℕ} → Judged (TreeRead scopes) l top image at scopes → Judged (AtomRead n) l top image past 0
      atom_value_judged s = leads_judged leads_atom (omega arith) s

      pub atom_value_builds : {l l1 : List ℕ} {top : ℕ} {r : Built} → Builds (AtomRead n) l l1 top image past past r → Builds (TreeRead scopes) l l1 top image at (at + 1) r
      atom_value_builds b = leads_builds leads_atom (omega arith) b

    module _ (h : kind ≡ 2) where
      leads_function : Leads (TreeRead scopes) (FunctionRead scopes n) image at past
      leads_function = behind (FunctionRead scopes) (λ t rest x. by_function h x)

      pub function_judged : {l : List ℕ} {top : ℕ} → Judged (TreeRead scopes) l top image at scopes → Judged (FunctionRead scopes n) l top image past scopes
      function_judged s = leads_judged leads_function s.room.few s

      pub function_later : {l : List ℕ} {top t : ℕ} → Judged (TreeRead scopes) l top image at scopes → (length image - at) * 3 ≡ t → (length image - past) * 3 + 1 < t
      function_later s z = omega (arith, leads_later leads_function s z)

      pub a_function_builds : {l l1 : List ℕ} {top : ℕ} {r : Built} → Builds (FunctionRead scopes n) l l1 top image past past r → Builds (TreeRead scopes) l l1 top image at (at + 1) r
      a_function_builds b = leads_builds leads_function (omega arith) b

    module _ (h : kind ≡ 1) where
      leads_application : Leads (TreeRead scopes) (ListRead scopes n application_tag) image at past
      leads_application = behind (λ k. ListRead scopes k application_tag) (λ t rest x. by_application h x)

      pub application_judged : {l : List ℕ} {top : ℕ} → Judged (TreeRead scopes) l top image at scopes → Judged (ListRead scopes n application_tag) l top image past scopes
      application_judged s = leads_judged leads_application s.room.few s

      pub application_later : {l : List ℕ} {top t : ℕ} → Judged (TreeRead scopes) l top image at scopes → (length image - at) * 3 ≡ t → (length image - past) * 3 + 2 < t
      application_later s z = leads_later leads_application s z

      pub application_builds : {l l1 : List ℕ} {top : ℕ} {r : Built} → Builds (ListRead scopes n application_tag) l l1 top image past past r
          → Builds (TreeRead scopes) l l1 top image at (at + 1) r
      application_builds b = leads_builds leads_application (omega arith) b

    module _ (n5 : ¬ (kind ≡ 5)) (n0 : ¬ (kind ≡ 0)) (n3 : ¬ (kind ≡ 3)) (n2 : ¬ (kind ≡ 2)) (n1 : ¬ (kind ≡ 1)) where
      leads_list : Leads (TreeRead scopes) (ListRead scopes n list_value_tag) image at past
      leads_list = behind (λ k. ListRead scopes k list_value_tag) (λ t rest x. by-list n5 n0 n3 n2 n1 x)

      pub list-judged : {l : List ℕ} {top : ℕ} → Judged (TreeRead scopes) l top image at scopes → Judged (ListRead scopes n list_value_tag) l top image past scopes
      list-judged s = leads_judged leads_list s.room.few s

      pub list-later : {l : List ℕ} {top t : ℕ} → Judged (TreeRead scopes) l top image at scopes → (length image - at) * 3 ≡ t → (length image - past) * 3 + 2 < t
      list-later s z = leads_later leads_list s z

      pub list_value_builds : {l l1 : List ℕ} {top : ℕ} {r : Built} → Builds (ListRead scopes n list_value_tag) l l1 top image past past r
          → Builds (TreeRead scopes) l l1 top image at (at + 1) r
      list_value_builds b = leads_builds leads_list (omega arith) b

    pub variable_builds : {l l1 : List ℕ} {top : ℕ} {r : Built} → kind ≡ 0 → StoredLeaf l l1 top (record { tag = variable_tag; content = n }) past r
        → Builds (TreeRead scopes) l l1 top image at (at + 1) r
    variable_builds {r = r} h o =
        let L = behind VariableRead (λ t rest x. by-variable h x) in
        record {
          kept = o.stored.kept;
          rises = omega (arith, o.stored.grows);
          means = λ t rest x.
              let q = variable (L.read x) in
              rw q.0 (record {
                shown = var-stands o.stored refl refl;
                grows = omega (arith, o.stored.grows, load-var n);
                left = record {
                  moved = omega (arith, L.further x, o.past_is);
                  inside = omega (arith, L.inside x, o.past_is);
                  is = q.1 ∙ ap (λ (k : ℕ). drop k image) (sym o.past_is);
                };
              });
        }

-- ---- an atom as a value

record Content (tag : ℕ) (s : List ℕ) (t : Tree) (rest : List ℕ) : Type 0 where
  value : Atom
  is : t ≡ datum value
  tag_is : tag_of value ≡ tag
  number : num s ≡ got (content_of value) rest

atom-value : {tag : ℕ} {s rest : List ℕ} {t : Tree} → AtomRead tag s t rest → Content tag s t rest
atom-value (atom-read {a = a} h e) = record { value = a; is = refl; tag_is = h; number = e }

module _ {tag : ℕ} {l : List ℕ} {top : ℕ} {image : List ℕ} {at : ℕ} where
  pub content-here : Judged (AtomRead tag) l top image at 0 → NumberHere image at
  content-here s = let p = atom-value s.read in record { place = s.room.place; n = content_of p.value; rest = s.rest; is = p.number }

  pub atom_tag_fits : Judged (AtomRead tag) l top image at 0 → atom_value_tag + tag < 2 ^ 32
  atom_tag_fits s = let p = atom-value s.read in omega (arith, p.tag_is, tag-low p.value)

  pub datum_builds : {l1 : List ℕ} {n past : ℕ} {r : Built} → NumberRead image at n past → StoredLeaf l l1 top (record { tag = atom_value_tag + tag; content = n }) past r
      → Builds (AtomRead tag) l l1 top image at at r
  datum_builds {n = n} f o =
      record {
        kept = o.stored.kept;
        rises = omega (arith, o.stored.grows);
        means = λ t rest x.
            let p = atom-value x in
            let y = f.left (content_of p.value) rest p.number in
            rw p.is (record {
              shown = datum-stands o.stored (ap (λ (k : ℕ). atom_value_tag + k) (sym p.tag_is)) (f.value-is (content_of p.value) rest p.number);
              grows = omega (arith, o.stored.grows, load-datum p.value);
              left = record {
                moved = omega (arith, y.moved, o.past_is);
                inside = omega (arith, y.inside, o.past_is);
                is = y.is ∙ ap (λ (k : ℕ). drop k image) (sym o.past_is);
              };
            });
      }

-- ---- a function

record Closing (scopes name : ℕ) (s : List ℕ) (t : Tree) (rest : List ℕ) : Type 0 where
  body : Tree
  is : t ≡ fun name body
  read : TreeRead scopes s body rest

function : {scopes name : ℕ} {s rest : List ℕ} {t : Tree} → FunctionRead scopes name s t rest → Closing scopes name s t rest
function (function_read {b = b} e) = record { body = b; is = refl; read = e }

module _ {scopes name : ℕ} {l : List ℕ} {top : ℕ} {image : List ℕ} {at : ℕ} where
  module _ (s : Judged (FunctionRead scopes name) l top image at scopes) where
    pub body_judged : Judged (TreeRead scopes) l top image at scopes
    body_judged =
        let p = function s.read in
        record {
          thing = p.body;
          rest = s.rest;
          read = p.read;
          room = record { fits = omega (arith, s.room.fits, ap load_size p.is, load-fun name p.body); small = s.room.small; low = s.room.low; place = s.room.place; few = s.room.few };
        }

    pub closable : {l1 : List ℕ} {from : ℕ} {r : Built} → Builds (TreeRead scopes) l l1 top image at from r → length l1 ≡ length l → Closable l1 r.top r.at
    closable b q =
        let p = function s.read in
        let w = b.means p.body s.rest p.read in
        record {
          thing = p.body;
          shown = w.shown;
          room = record {
            fits = omega (arith, s.room.fits, ap load_size p.is, load-fun name p.body, w.grows, q);
            small = omega (arith, s.room.small, q);
            low = omega (arith, s.room.low, b.rises);
          };
        }

  pub function_builds : {l1 l2 : List ℕ} {r : Built} {at1 top1 : ℕ} → Builds (TreeRead scopes) l l1 top image at (at + 1) r → Closed l1 l2 r.top name r.at at1 top1
      → Builds (FunctionRead scopes name) l l2 top image at at (record { at = at1; top = top1; past = r.past })
  function_builds {l1} {l2} {r} b o =
      record {
        kept = same_trans top r.top l l1 l2 b.rises b.kept o.kept;
        rises = omega (arith, b.rises, o.grows);
        means = λ t rest x.
            let p = function x in
            let w = b.means p.body rest p.read in
            rw p.is (record {
              shown = o.means p.body w.shown;
              grows = omega (arith, w.grows, o.grows, load-fun name p.body);
              left = record { moved = omega (arith, w.left.moved); inside = w.left.inside; is = w.left.is };
            });
      }

-- ---- an application or list value

record Listing (scopes count tag : ℕ) (s : List ℕ) (t : Tree) (rest : List ℕ) : Type 0 where
  parts : Trees
  size : load_size t ≡ 1 + load_sizes parts
  read : TreesRead scopes count s parts rest
  stands : {l l1 : List ℕ} {top i top1 : ℕ} {n : Node} → Stored l l1 top n i top1 → n.tag ≡ tag → RepP l top n.content parts → Rep l1 top1 i t

listed : {scopes count tag : ℕ} {s rest : List ℕ} {t : Tree} → ListRead scopes count tag s t rest → Listing scopes count tag s t rest
listed (application_read {h = h} {ts = ts} e) = record { parts = tcons h ts; size = load-app h ts; read = e; stands = λ o g r. app-stands o g r }
listed (list_read {ts = ts} e) = record { parts = ts; size = load-lst ts; read = e; stands = λ o g r. lst-stands o g r }

module _ {scopes count tag : ℕ} {l : List ℕ} {top : ℕ} {image : List ℕ} {at : ℕ} where
  module _ (s : Judged (ListRead scopes count tag) l top image at scopes) where
    pub trees-judged : JudgedAll (TreesRead scopes) count l top image at scopes
    trees-judged =
        let p = listed s.read in
        record {
          thing = p.parts;
          rest = s.rest;
          read = p.read;
          room = record { fits = omega (arith, s.room.fits, p.size); small = s.room.small; low = s.room.low; place = s.room.place; few = s.room.few };
        }

    pub trees_roomy : {l1 : List ℕ} {r : Built} → BuildsAll (TreesRead scopes) count l l1 top image at r → length l1 ≡ length l → Roomy l1 r.top node_size
    trees_roomy b q =
        let p = listed s.read in
        let w = b.means p.parts s.rest p.read in
        record { fits = omega (arith, s.room.fits, p.size, w.grows, q); small = omega (arith, s.room.small, q); low = omega (arith, s.room.low, b.rises) }

  pub trees_builds : {l1 l2 : List ℕ} {k r : Built} → BuildsAll (TreesRead scopes) count l l1 top image at k
      → StoredLeaf l1 l2 k.top (record { tag = tag; content = k.at }) k.past r → Builds (ListRead scopes count tag) l l2 top image at at r
  trees_builds {l1} {l2} {k} {r} b o =
      record {
        kept = same_trans top k.top l l1 l2 b.rises b.kept o.stored.kept;
        rises = omega (arith, b.rises, o.stored.grows);
        means = λ t rest x.
            let p = listed x in
            let w = b.means p.parts rest p.read in
            record {
              shown = p.stands o.stored refl w.shown;
              grows = omega (arith, w.grows, o.stored.grows, p.size);
              left = record {
                moved = omega (arith, w.left.moved, o.past_is);
                inside = omega (arith, w.left.inside, o.past_is);
                is = w.left.is ∙ ap (λ (y : ℕ). drop y image) (sym o.past_is);
              };
            };
      }

pub ruleset tree_laws = (tag-there, number-there, node_roomy, variable_builds, syntax_value_judged, syntax_value_builds, atom_value_judged, atom_value_builds, a_function_builds, application_builds, list_value_builds, content-here, atom_tag_fits, datum_builds)

pub ruleset parts_laws = (body_judged, closable, function_builds, trees-judged, trees_roomy, trees_builds)
