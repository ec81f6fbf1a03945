-- What the equations that the public functions meet say of the addresses listed.
use Prim.Native.Nat.{ℕ, ◌≤◌}
use mathlib.Core.Path.{◌≡◌, refl, sym, ap, ◌∙◌, subst}
use mathlib.Core.List.{List, ◌++◌}
use lib.ListN.{length, take, drop}
use lib.Seq.{length-take-le}
use Rattle.model.specs.Writing.{tree_image_bytes}
use Rattle.model.specs.Jobs.{Answer, Result, lent, parse_ending, parse_job}
use Rattle.addresses.specs.OneNameOneAddress.{image_written, OneNameOneAddress}
use Rattle.addresses.proofs.Endings.{lent-within, parse_job-is, take_whole}
use Rattle.requests.specs.Panel.{bits_of, PanelResult, panel_job}
use Rattle.requests.proofs.PanelAfterCondition3.{PanelOfExpanded, parse_writes_the_tree, panel_of_condition_3}
use Rattle.one_address.specs.Keeping.{Keeps}
use Rattle.one_address.specs.Listing.{OneAddressEach, Lists, Addresses}

-- ---- what is written lies within what was lent

module _ {a : Answer} {output' table' : List ℕ} (budget : ℕ) (table output : List ℕ) where
  pub parsed-within : (expanded : List ℕ) → record { answer = a; output = output'; table = table' } ≡ parse_job expanded budget table output → a.len ≤ length output'
  parsed-within expanded e =
      subst (λ (z : Result). z.answer.len ≤ length z.output) (sym (e ∙ parse_job-is expanded budget table output)) (lent-within budget table output (parse_ending expanded budget (length output)))

  pub parsed-long : (expanded : List ℕ) → record { answer = a; output = output'; table = table' } ≡ parse_job expanded budget table output → a.len ≡ length (take a.len output')
  parsed-long expanded e = sym (length-take-le a.len output' (parsed-within expanded e))

pub expanded_within : {image output : List ℕ} {a : Answer} → Keeps image output a → a.len ≤ length output
expanded_within k = k.within

pub expanded_long : {image output : List ℕ} {a : Answer} → Keeps image output a → a.len ≡ length (take a.len output)
expanded_long {output = output} {a = a} k = sym (length-take-le a.len output k.within)

-- ---- parsed and checked

pub refused_lists : (expanded bits : List ℕ) {a : Answer} → (a.code ≡ 0 → ⊥) → Lists expanded bits a
refused_lists expanded bits n = record { each = λ o q. absurd (n q) }

module _ {p a : Answer} {tree' table' bits' : List ℕ} (expanded : List ℕ) (budget : ℕ) (table tree : List ℕ) (bits : List ℕ) where
  pub checked_lists : record { answer = p; output = tree'; table = table' } ≡ parse_job expanded budget table tree → p.code ≡ 0 → {t : List ℕ} → t ≡ take p.len tree'
      → record { answer = a; bits = bits' } ≡ panel_job t bits → Lists expanded bits' a
  unfolding image_written
  checked_lists e z {t} i h =
      record {
        each = λ {image} o q.
            let w : t ≡ tree_image_bytes o.result.head o.tree =
            i ∙ ap image_written e ∙ parse_writes_the_tree o budget table tree (ap (λ (x : Result). x.answer.code) (sym e) ∙ z) in
            let g : record { answer = a; bits = bits' } ≡ panel_job (tree_image_bytes o.result.head o.tree) bits = h ∙ ap (λ (x : List ℕ). panel_job x bits) w in
            let k : PanelOfExpanded (tree_image_bytes o.result.head o.tree) bits = panel_of_condition_3 o bits (ap (λ (x : PanelResult). x.answer.code) (sym g) ∙ q) in
            let names = bits_of k.says.read.root in
            record {
              names = names;
              listed = ap (λ (x : PanelResult). take (length names) x.bits) g ∙ ap (take (length names)) k.says.bits_are ∙ take_whole names (drop (length names) bits);
              length-is = ap (λ (x : PanelResult). x.answer.len) g ∙ k.says.length-is;
              different = k.different;
              one_to_one = k.one_to_one;
            };
      }

-- ---- a whole program

pub refused_addresses : (bits : List ℕ) {a : Answer} → (a.code ≡ 0 → ⊥) → Addresses bits a
refused_addresses bits n = record { each = λ q. absurd (n q) }

pub lists_addresses : {image out bits : List ℕ} {p a : Answer} → Keeps image out p → p.code ≡ 0 → {t : List ℕ} → t ≡ take p.len out → Lists t bits a → Addresses bits a
lists_addresses {image} k z {t} i l = record { each = λ q. l.each (subst (OneNameOneAddress image) (sym i) (k.kept z)) q }

pub ruleset listing = (expanded_within, expanded_long, parsed-within, parsed-long, refused_lists, checked_lists, refused_addresses, lists_addresses)
