-- Whether an image is a program: one law for each way out, and why it is refused where it is none.
use Prim.Native.Nat.{ℕ, ◌-◌, ◌≤◌, ◌<◌}
use mathlib.Core.Path.{◌≡◌, refl, sym, ap, ◌∙◌, subst}
use mathlib.Core.Bool.{Bool, true, false}
use mathlib.Core.List.{List, []}
use native.Mathlib.Omega.{arith}
use lib.ListN.{length, get_or, drop}
use Rattle.std.specs.Prelude.{Option, Some, None, Result, Ok, Err}
use Rattle.std.specs.Result.{result_ok}
use mir.Syntax.{w8}
use mir.Val.{Fits}
use Rattle.model.specs.Limits.{most_nesting}
use Rattle.model.specs.Refusals as r
use Rattle.model.specs.Trees.{Tree}
use Rattle.model.specs.Reading as m
use Rattle.model.specs.Reading.{Read, Image, got, fault, next, at_end, read_head, read_tree, read_tree_image, read_image}
use Rattle.codec_laws.proofs.NumberTrip.{fault≢got, got-value}
use Rattle.codec_laws.proofs.Sequence.{next-got}
use Rattle.codec_laws.proofs.ImageLaws.{end_w}
use Rattle.refusals.specs.declared.Refusal.{Refusal}
use Rattle.refusals.specs.Refusing.{refusal_of}
use Rattle.numbers.specs.declared.Cursor.{Cursor}
use Rattle.head.specs.Heads.{head_at}
use Rattle.head.specs.declared.Head.{Head}
use Rattle.image.proofs.Heads.{bytes_of, image-short, image-long, HeadHere, head-here, head-fault, name-count, behind-head, few-names, head-within, rest-fits}
use Rattle.profile.specs.Taking.{Found, Tells}
use Rattle.panel_check.specs.Checking.{ProgramAt, NoProgram, Finds}

-- ---- the two answers

found_at : {image : List ℕ} {c : Cursor} → ProgramAt image c.at → Finds image (Some c)
found_at {image} {c} p =
    record {
      found = λ d e. (let z : c ≡ d = cc in subst (λ (x : Cursor). ProgramAt image x.at) z p);
      missed = λ e. absurd (let z : ◌≡◌ {A = ℕ} 0 1 = cc in omega arith);
    }

missed_by : {image : List ℕ} → NoProgram image → Finds image None
missed_by n = record { found = λ d e. absurd (let z : ◌≡◌ {A = ℕ} 0 1 = cc in omega arith); missed = λ e. n }

-- what faults is no program
faulty : (image : List ℕ) {c : r.Refusal} → read_image read_tree_image image ≡ fault c → NoProgram image
faulty image {c} e i q o = absurd (fault≢got c i [] (sym e ∙ q))

-- ---- what `ok` keeps

ok_some : {A : Type 0} {r : Result A Refusal} {o : Option A} {x : A} → o ≡ result_ok r → o ≡ Some x → r ≡ Ok x
ok_some {r = Ok y} {x = x} e d = let z : Some y ≡ Some x = sym e ∙ d in let w : y ≡ x = cc in ap (λ (v : _). Ok v) w
ok_some {r = Err f} {x = x} e d = let z : None ≡ Some x = sym e ∙ d in absurd (let w : ◌≡◌ {A = ℕ} 0 1 = cc in omega arith)

record Failed {A : Type 0} (r : Result A Refusal) : Type 0 where
  why : Refusal
  is : r ≡ Err why

ok_none : {A : Type 0} {r : Result A Refusal} {o : Option A} → o ≡ result_ok r → o ≡ None → Failed r
ok_none {r = Ok y} e d = let z : Some y ≡ None = sym e ∙ d in absurd (let w : ◌≡◌ {A = ℕ} 0 1 = cc in omega arith)
ok_none {r = Err f} e d = record { why = f; is = refl }

-- ---- the tree of an image that was read, behind its head

abbrev behind : m.Head → List ℕ → Read (Image Tree)
behind h t = next (read_tree most_nesting h 0 t) (λ x u. next (at_end u) (λ y w. got (record { head = h; binds = []; root = x }) w))

root-behind : (h : m.Head) (t : List ℕ) (i : Image Tree) → behind h t ≡ got i [] → read_tree most_nesting h 0 t ≡ got i.root []
root-behind h t i e =
    let g = next-got (read_tree most_nesting h 0 t) _ i [] e in
    let k = next-got (at_end g.1) _ i [] g.3 in
    let v = got-value _ i k.1 [] k.3 in
    g.2 ∙ ap (got g.0) (end_w g.1 k.1 k.0 k.2) ∙ ap (λ (x : Image Tree). got x.root []) v

module _ (s : List ℕ) where
  pub too_long_lem : 65536 < length s → Finds s None
  too_long_lem l = missed_by (faulty s (image-long read_tree_image s l))

  module _ (known : (i : ℕ) → Fits w8 (get_or s i 0)) (short : length s ≤ 65536) {q : Result (Head × Cursor) Refusal} (a : q ≡ head_at (length s) (read_head 2 s)) where
    pub head-missed : {f : Refusal} → q ≡ Err f → Finds s None
    unfolding read_tree_image
    head-missed {f} e =
        let g : read_tree_image s ≡ fault (refusal_of f) = rw (head-fault 2 s a e) in
        missed_by (faulty s (image-short read_tree_image s short ∙ g))

    module _ {o : Option (Head × Cursor)} (k : o ≡ result_ok q) where
      pub head_none : o ≡ None → Finds s None
      head_none e = let f : Failed q = ok_none k e in head-missed f.is

      pub head_some : {h : Head} {c : Cursor} → o ≡ Some (h, c) → q ≡ Ok (h, c)
      head_some e = ok_some k e

    module _ {h : Head} {c : Cursor} (e : q ≡ Ok (h, c)) where
      H : HeadHere 2 s h c.at
      H = head-here 2 s (bytes_of s known) a e

      from-head : read_image read_tree_image s ≡ behind H.head (drop c.at s)
      unfolding read_tree_image
      from-head = image-short read_tree_image s short ∙ ap (λ (g : Read m.Head). next g behind) H.reads

      module _ {u : List ℕ} (i : u ≡ drop (c.at - 0) s) {b : Bool} (t : Tells h.names u b) where
        pub program-missed : b ≡ false → Finds s None
        program-missed z =
            missed_by (λ x d o.
            t.missed z H.head (sym (name-count H)) x.root
            (ap (read_tree most_nesting H.head 0) (behind-head s c.at i) ∙ root-behind H.head (drop c.at s) x (sym from-head ∙ d)) o)

        pub program-found : b ≡ true → Finds s (Some c)
        unfolding at_end
        program-found z =
            let F : Found H.head u = t.found z H.head (sym (name-count H)) in
            let R : read_tree most_nesting H.head 0 (drop c.at s) ≡ got F.root [] = ap (read_tree most_nesting H.head 0) (sym (behind-head s c.at i)) ∙ F.reads in
            found_at (record {
              good = record {
                read = record { head = H.head; binds = []; root = F.root };
                reads = from-head ∙ rw R;
                owned = F.owned;
                bytes = bytes_of s known;
                short = short;
                head-fits = H.fits;
                root-within = H.within;
                root-reads = R;
              };
              program = F.program;
            })

pub ruleset finding_laws = (too_long_lem, head-missed, program-missed, program-found, few-names, head-within, rest-fits)
