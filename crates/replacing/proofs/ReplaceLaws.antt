-- The whole replacement: one law for each way on and out.
use Prim.Native.Nat.{ℕ, zero, suc, ◌+◌, ◌-◌, ◌*◌, ◌≤◌, ◌<◌}
use mathlib.Core.Path.{◌≡◌, refl, sym, ap, ap₂, ◌∙◌, subst}
use mathlib.Core.Bool.{Bool, true, false, ◌&&◌}
use mathlib.Core.List.{List, [], ◌++◌, append_assoc, append-nil}
use native.Mathlib.Omega.{arith}
use lib.Dec.{eqb, leb, ltb}
use lib.ListN.{length, take, drop, get_or, length-drop, length-append}
use lib.Seq.{sets, sets-eq, drop_at, take_at}
use mir.Syntax.{w8}
use mir.Val.{Fits}
use borrow.Author.Tests.{le-leb, lt-leb, lt-ltb, le-ltb, leb-true, eqb-true}
use Rattle.laws.proofs.Tests.{and_both}
use Rattle.model.specs.Choice.{when◌then◌else◌}
use Rattle.model.specs.Limits as limit
use Rattle.model.specs.Refusals.{too_long}
use Rattle.model.specs.Trees as m
use Rattle.model.specs.Trees.{var, app, fun, datum, lst, stx, Trees, tnil, tcons, tsize}
use Rattle.model.specs.Reading.{got, fault, at_end, read_tree, read_tree_image, read_image}
use Rattle.model.specs.Writing.{head_bytes, tree_bytes, tree_image_bytes}
use Rattle.codec_laws.specs.WellFormed.{TreeFits}
use Rattle.codec_laws.proofs.TreeTrip.{TreeTook, tree_w}
use Rattle.requests.specs.Uses as u
use Rattle.requests.specs.Uses.{things, belongs, refused_answer}
use Rattle.requests.specs.Replacing as q
use Rattle.requests.specs.Replacing.{spot, spot_among, spot_in, replaced, change_of, brought_up, read_part, with_part, replace_in, replace_answer, output_after_replace, summary_after_replace}
use Rattle.requests.proofs.Uses.{size-things, summary-length}
use Rattle.requests.proofs.Replacing as laws
use Rattle.requests.proofs.Replacing.{parted}
use Rattle.refusals.specs.Refusing.{refusal_of}
use Rattle.refusals.specs.declared.Refusal.{Refusal}
use Rattle.refusals.specs.declared.Refusal.TheVariants as base
use Rattle.std.specs.Prelude.{Result, Ok, Err}
use Rattle.numbers.specs.Answers.{read_at}
use Rattle.numbers.specs.Limits.{most_image}
use Rattle.numbers.specs.declared.Cursor.{Cursor}
use Rattle.roots.specs.declared.Extent.{Extent}
use Rattle.roots.specs.Measuring.{then_end, whole_tree}
use Rattle.numbers.proofs.Answering.{Kept}
use Rattle.roots.proofs.Kept.{counts_of, extent_of}
use Rattle.roots.proofs.Whole.{tree-refused, tree-read}
use Rattle.image.proofs.Heads.{bytes_of}
use Rattle.image.proofs.BehindHeads.{then_whole}
use Rattle.head.specs.declared.Counts.{Counts}
use Rattle.places.specs.Reading.{along}
use Rattle.places.specs.Standing.{At, Tree, Passed, Passes}
use Rattle.places.specs.declared.Span.{Span}
use Rattle.places.proofs.Along.{along-tree, tree-along}
use Rattle.text.specs.Placing.{Placed}
use Rattle.summaries.specs.declared.opening.Opened.{Opened}
use Rattle.summaries.specs.declared.refusal.UsesRefusal.{UsesRefusal}
use Rattle.summaries.specs.declared.refusal.UsesRefusal.TheVariants as refusal
use Rattle.summaries.specs.Refusing.{uses_refusal_of}
use Rattle.summaries.specs.Opening.{OpenedAt, Opens}
use Rattle.summaries.specs.Making.{belongs_to}
use Rattle.replacing.specs.declared.locating.Spot as code
use Rattle.replacing.specs.Locating.{Inside, Found, Locates}
use Rattle.replacing.specs.Replacing.{Parted, Held, BringsUp, Replaces, Asked, Ready}

-- ---- refusals

module _ (image part words out : List ℕ) (place : ℕ) where
  refused-ends : (f : UsesRefusal) → replace_in (length out) words place part (read_image read_tree_image image) ≡ q.refused (uses_refusal_of f) → Replaces image place part words words out out (Err f)
  unfolding replace_answer summary_after_replace output_after_replace
  refused-ends f e = record { short = λ n z. absurd (apart n z); answer = rw e refl; words_left = rw e refl; out-left = rw e refl }
    where
      apart : (n : ℕ) → ◌≡◌ {A = Result ℕ UsesRefusal} (Err f) (Ok n) → ⊥
      apart n z = let y : ◌≡◌ {A = ℕ} 0 1 = cc in omega arith

  module _ {o : Opened} (g : OpenedAt image o) where
    same-belongs : belongs words g.read ≡ belongs_to words o
    unfolding belongs belongs_to
    same-belongs = rw (← g.names-are, ← g.size_is) refl

    other-tree : (belongs_to words o && ltb place o.size) ≡ false → Replaces image place part words words out out (Err refusal.OtherTree)
    unfolding replace_in
    other-tree e =
        let z : (belongs words g.read && ltb place (tsize g.read.root)) ≡ false = ap₂ (λ (x : Bool) (y : ℕ). x && ltb place y) same-belongs (sym g.size_is) ∙ e in
        refused-ends refusal.OtherTree (rw (g.reads, z) refl)

  module _ {o : Opened} (A : Asked image o place words) where
    abbrev g : OpenedAt image o
    g = A.opened

    ending-asked : replace_in (length out) words place part (read_image read_tree_image image) ≡ with_part (length out) words place g.read (read_part g.read.head (spot_in place g.read.root) part)
    unfolding replace_in
    ending-asked =
        let z : (belongs words g.read && ltb place (tsize g.read.root)) ≡ true =
        ap₂ (λ (x : Bool) (y : ℕ). x && ltb place y) (same-belongs g ∙ A.belongs) (sym g.size_is) ∙ lt-ltb place o.size A.inside in
        rw (g.reads, z) refl

    part-refused : (f : Refusal) → read_part g.read.head (spot_in place g.read.root) part ≡ fault (refusal_of f) → Replaces image place part words words out out (Err (refusal.Base f))
    unfolding with_part
    part-refused f e = refused-ends (refusal.Base f) (ending-asked ∙ rw e refl)

-- ---- before the tree is asked

module _ (image part words out : List ℕ) (place : ℕ) {w : Result Opened Refusal} (h : Opens image w) where
  pub open_refused : {f : Refusal} → w ≡ Err f → Replaces image place part words words out out (Err (refusal.Base f))
  unfolding replace_in
  open_refused {f} e = refused-ends image part words out place (refusal.Base f) (rw (h.refused f e) refl)

  module _ {o : Opened} (e : w ≡ Ok o) where
    pub open_few : o.counts.names ≤ 1024
    open_few = (h.tree o e).at.declared.names-few

    module _ {b : Bool} (s : b ≡ belongs_to words o) where
      pub open_other : b ≡ false → Replaces image place part words words out out (Err refusal.OtherTree)
      open_other z = other-tree image part words out place (h.tree o e) (ap (λ (x : Bool). x && ltb place o.size) (sym s ∙ z))

      pub open_beyond : b ≡ true → o.size ≤ place → Replaces image place part words words out out (Err refusal.OtherTree)
      open_beyond z l = other-tree image part words out place (h.tree o e) (ap (λ (x : Bool). x && ltb place o.size) (sym s ∙ z) ∙ le-ltb place o.size l)

      pub open_asked : b ≡ true → place < o.size → Asked image o place words
      open_asked z l = record { opened = h.tree o e; belongs = sym s ∙ z; inside = l }

pub ruleset replace_laws = (open_refused, open_few, open_other, open_beyond, open_asked)

-- ---- the part judged

mutual
  unfolding spot spot_among q.nowhere

  spot-levels : (l low : ℕ) (t : m.Tree) (p : ℕ) → (spot l low t p).levels ≤ l
  spot-levels l low (var n) zero = omega arith
  spot-levels l low (var n) (suc p) = omega arith
  spot-levels l low (app h r) zero = omega arith
  spot-levels l low (app h r) (suc p) = either (ltb p (tsize h)) (spot-levels (l - 1) 0 h p) (among-levels (l - 1) 0 r (p - tsize h))
    where
      either : (b : Bool) → (spot (l - 1) 0 h p).levels ≤ l - 1 → (spot_among (l - 1) 0 r (p - tsize h)).levels ≤ l - 1 → (when b then spot (l - 1) 0 h p else spot_among (l - 1) 0 r (p - tsize h)).levels ≤ l
      either true x y = omega arith
      either false x y = omega arith
  spot-levels l low (fun n b) zero = omega arith
  spot-levels l low (fun n b) (suc p) = let x = spot-levels (l - 1) 0 b p in omega arith
  spot-levels l low (datum a) zero = omega arith
  spot-levels l low (datum a) (suc p) = omega arith
  spot-levels l low (lst r) zero = omega arith
  spot-levels l low (lst r) (suc p) = let x = among-levels (l - 1) 2 r p in omega arith
  spot-levels l low (stx s) zero = omega arith
  spot-levels l low (stx s) (suc p) = omega arith

  among-levels : (l low : ℕ) (r : Trees) (p : ℕ) → (spot_among l low r p).levels ≤ l
  among-levels l low tnil p = omega arith
  among-levels l low (tcons t r) p = either (ltb p (tsize t)) (spot-levels l low t p) (among-levels l low r (p - tsize t))
    where
      either : (b : Bool) → (spot l low t p).levels ≤ l → (spot_among l low r (p - tsize t)).levels ≤ l → (when b then spot l low t p else spot_among l low r (p - tsize t)).levels ≤ l
      either true x y = x
      either false x y = y

module _ (image part words out : List ℕ) (place : ℕ) {o : Opened} (A : Asked image o place words) where
  abbrev G : OpenedAt image o
  G = A.opened

  rooted : {s : List ℕ} → s ≡ drop (o.root - 0) image → s ≡ drop o.root image
  rooted e = e ∙ ap (λ (j : ℕ). drop j image) (let z : o.root - 0 ≡ o.root = omega arith in z)

  pub in_within : o.root ≤ 0 + length image
  in_within = omega (arith, G.root-within)

  pub in_fits : {s : List ℕ} → s ≡ drop (o.root - 0) image → o.root + length s ≤ most_image
  in_fits e = let l = ap length (rooted e) ∙ length-drop o.root image in omega (arith, G.root-within, G.short)

  pub in_scopes : o.counts.scopes ≤ 256
  in_scopes = G.at.declared.scopes-few

  pub in_names : o.counts.names ≤ 1024
  in_names = G.at.declared.names-few

  pub in_tree : {s : List ℕ} → s ≡ drop (o.root - 0) image → Inside o.counts s place
  in_tree {s} e = record {
    here = record { tree = G.read.root; rest = []; at = subst (λ (z : List ℕ). At o.counts z G.read.root []) (sym (rooted e)) G.at };
    inside = rw (← G.size_is) A.inside;
  }

  pub in_long : 65536 < length part → Replaces image place part words words out out (Err (refusal.Base base.OverLimit))
  unfolding read_part limit.most_image
  in_long h = part-refused image part words out place A base.OverLimit (rw (lt-leb (length part) 65536 h) refl)

  module _ (known : (i : ℕ) → Fits w8 (get_or part i 0)) (fits : length part ≤ 65536) {s : List ℕ} (e : s ≡ drop (o.root - 0) image) {sp : code.Spot} (L : Locates o.counts s o.root place sp)
      {x : Result (Extent × Cursor) Refusal} (w : x ≡ read_at (0 + length part) (whole_tree o.counts sp.levels sp.low part)) where
    found : Found o.counts (drop o.root image) o.root place G.read.root [] sp
    found = subst (λ (z : List ℕ). Found o.counts z o.root place G.read.root [] sp) (rooted e) (L G.read.root [] (subst (λ (z : List ℕ). At o.counts z G.read.root []) (sym (rooted e)) G.at) (rw (← G.size_is) A.inside))

    abbrev S : q.Spot
    S = spot_in place G.read.root

    measured : x ≡ read_at (0 + length part) (whole_tree (counts_of G.read.head) S.levels S.low part)
    measured =
        w ∙ ap (λ (k : Counts). read_at (0 + length part) (whole_tree k sp.levels sp.low part)) G.counts-are
        ∙ ap₂ (λ (j i : ℕ). read_at (0 + length part) (whole_tree (counts_of G.read.head) j i part)) found.levels-are found.low-is

    few : G.read.head.names ≤ 1024
    few = omega (arith, G.names-are, in_names)

    part-reads : read_part G.read.head S part ≡ then_end (read_tree S.levels G.read.head S.low) part
    unfolding read_part then_end limit.most_image
    part-reads = rw (le-leb (length part) 65536 fits) refl

    pub in_fault : {f : Refusal} → x ≡ Err f → Replaces image place part words words out out (Err (refusal.Base f))
    in_fault {f} d = part-refused image part words out place A f (part-reads ∙ tree-refused G.read.head few S.levels S.low 0 part measured d)

    module _ {y : Extent} {past : Cursor} (d : x ≡ Ok (y, past)) where
      K : Kept (extent_of []) (then_end (read_tree S.levels G.read.head S.low) part) y (drop (past.at - 0) part)
      K = tree-read G.read.head few S.levels S.low 0 part measured d

      whole : read_tree S.levels G.read.head S.low part ≡ got K.value []
      unfolding then_end
      whole = then_whole (read_tree S.levels G.read.head S.low part) K.value (drop (past.at - 0) part) K.is

      took_part : TreeTook S.levels G.read.head S.low part K.value []
      took_part = tree_w S.levels G.read.head (omega (arith, in_scopes, ap (λ (k : Counts). k.scopes) G.counts-are)) S.low K.value part [] (bytes_of part known) whole

      new-at : At o.counts part K.value []
      unfolding spot_in limit.most_nesting
      new-at = record {
        declared = G.at.declared;
        is = took_part.0.0;
        fits = subst (λ (k : Counts). TreeFits k.symbols k.names k.scopes K.value) (sym G.counts-are) took_part.1;
        shallow = let z = took_part.2 in let v = spot-levels 64 0 G.read.root place in omega arith;
        short = omega (arith, ap length took_part.0.0, length-append (tree_bytes K.value) []);
      }

      pub in_ready : Ready image o sp place part words
      unfolding then_end at_end
      in_ready = record { asked = A; found = found; new = K.value; reads = part-reads ∙ rw whole refl; new-at = new-at }

pub ruleset replace_in_laws = (in_within, in_fits, in_scopes, in_names, in_tree, in_long, in_fault, in_ready)

-- ---- the part put in its place

and_no : (a b : Bool) → b ≡ false → (a && b) ≡ false
and_no true b e = e
and_no false b e = refl

brought_long : (M : q.Change) (names : ℕ) (w : List ℕ) → length (brought_up M names w) ≡ 2 + 2 * names
unfolding brought_up
brought_long M names w = summary-length (get_or w 0 0 - length M.old + length M.new) names (q.entry_after M (u.entry_in w))

module _ {image part words : List ℕ} {place : ℕ} {o : Opened} {sp : code.Spot} (R : Ready image o sp place part words) where
  abbrev B : OpenedAt image o
  B = R.asked.opened

  abbrev root : m.Tree
  root = B.read.root

  abbrev old_part : m.Tree
  old_part = (spot_in place root).part

  abbrev F : Found o.counts (drop o.root image) o.root place root [] sp
  F = R.found

  -- the bytes before the old part, and those behind it
  front : List ℕ
  front = head_bytes 2 B.read.head ++ F.before

  front_long : length front ≡ sp.at.at
  unfolding front
  front_long = omega (arith, length-append (head_bytes 2 B.read.head) F.before, B.root_is, F.long)

  image-is : image ≡ front ++ (tree_bytes old_part ++ F.behind)
  unfolding front tree_image_bytes
  image-is =
      B.written ∙ ap (λ (z : List ℕ). head_bytes 2 B.read.head ++ z) F.bytes
      ∙ sym (append_assoc (head_bytes 2 B.read.head) F.before (tree_bytes old_part ++ F.behind))

  front-is : take sp.at.at image ≡ front
  front-is = ap (take sp.at.at) image-is ∙ take_at front (tree_bytes old_part ++ F.behind) sp.at.at front_long

  from_is : drop sp.at.at image ≡ tree_bytes old_part ++ F.behind
  from_is = ap (drop sp.at.at) image-is ∙ drop_at front (tree_bytes old_part ++ F.behind) sp.at.at front_long

  part-is : part ≡ tree_bytes R.new
  part-is = R.new-at.is ∙ append-nil (tree_bytes R.new)

  part-short : length part ≤ 65536
  part-short = omega (arith, ap length part-is, R.new-at.short)

  image-long : length image ≡ sp.at.at + (length (tree_bytes old_part) + length F.behind)
  image-long = ap length image-is ∙ length-append front (tree_bytes old_part ++ F.behind) ∙ ap₂ (λ (x y : ℕ). x + y) front_long (length-append (tree_bytes old_part) F.behind)

  old-at : At o.counts (drop sp.at.at image) old_part F.behind
  old-at = record { declared = F.part_at.declared; is = from_is; fits = F.part_at.fits; shallow = F.part_at.shallow; short = F.part_at.short }

  here : {s : List ℕ} → s ≡ drop (sp.at.at - 0) image → s ≡ drop sp.at.at image
  here e = e ∙ ap (λ (j : ℕ). drop j image) (let z : sp.at.at - 0 ≡ sp.at.at = omega arith in z)

  pub put_within : sp.at.at ≤ 0 + length image
  put_within = omega (arith, image-long)

  pub put_fits : {s : List ℕ} → s ≡ drop (sp.at.at - 0) image → sp.at.at + length s ≤ most_image
  put_fits e = let l = ap length (here e) ∙ length-drop sp.at.at image in omega (arith, image-long, B.short)

  pub put_scopes : o.counts.scopes ≤ 256
  put_scopes = B.at.declared.scopes-few

  pub put_old : {s : List ℕ} → s ≡ drop (sp.at.at - 0) image → Tree o.counts s
  put_old e = record { tree = old_part; rest = F.behind; at = subst (λ (z : List ℕ). At o.counts z old_part F.behind) (sym (here e)) old-at }

  pub put_part_fits : 0 + length part ≤ most_image
  put_part_fits = omega (arith, part-short)

  pub put_new : Tree o.counts part
  put_new = record { tree = R.new; rest = []; at = R.new-at }

  module _ {s : List ℕ} (e : s ≡ drop (sp.at.at - 0) image) {old new : Span} (P : Passes o.counts s sp.at.at old) (Q : Passes o.counts part 0 new) where
    old_passed : Passed sp.at.at old_part old
    old_passed = P old_part F.behind (subst (λ (z : List ℕ). At o.counts z old_part F.behind) (sym (here e)) old-at)

    new_passed : Passed 0 R.new new
    new_passed = Q R.new [] R.new-at

    to_is : drop old.end.at image ≡ F.behind
    to_is =
        let z : length (front ++ tree_bytes old_part) ≡ old.end.at = omega (arith, length-append front (tree_bytes old_part), front_long, old_passed.end_is) in
        ap (drop old.end.at) (image-is ∙ sym (append_assoc front (tree_bytes old_part) F.behind)) ∙ drop_at (front ++ tree_bytes old_part) F.behind old.end.at z

    pub cut-order : sp.at.at ≤ old.end.at
    cut-order = omega (arith, old_passed.end_is)

    pub cut-within : old.end.at ≤ length image
    cut-within = omega (arith, old_passed.end_is, image-long)

    -- the things behind the old part
    abbrev things_parted : laws.Parted (things root) (things old_part) place (λ v. things (replaced v root place))
    unfolding spot_in limit.most_nesting
    things_parted = parted 64 0 root place (rw (← B.size_is) R.asked.inside)

    sums : place + old.size ≤ o.size
    sums =
        omega (
          arith,
          old_passed.size_is,
          size-things old_part,
          B.size_is,
          size-things root,
          ap length things_parted.splits,
          length-append things_parted.before (things old_part ++ things_parted.behind),
          length-append (things old_part) things_parted.behind,
          things_parted.long,
        )

    abbrev rest : ℕ
    rest = o.size - place - old.size

    old-along : along o.counts (tsize old_part + rest) (drop (sp.at.at - o.root) (drop o.root image)) ≡ things old_part ++ along o.counts rest (F.behind ++ [])
    old-along = (tree-along old_part F.part_at).read rest

    things-are : things root ≡ F.met ++ (things old_part ++ along o.counts rest (F.behind ++ []))
    things-are =
        let z : tsize root ≡ place + (tsize old_part + rest) = omega (arith, sums, B.size_is, old_passed.size_is) in
        sym (along-tree B.at) ∙ ap (λ (n : ℕ). along o.counts n (drop o.root image)) z ∙ F.reads (tsize old_part + rest) ∙ ap (λ (l : List u.Thing). F.met ++ l) old-along

    behind-is : along o.counts rest (drop old.end.at image) ≡ drop (place + old.size) (things root)
    behind-is =
        let z : length (F.met ++ things old_part) ≡ place + old.size = omega (arith, length-append F.met (things old_part), F.met-long, size-things old_part, old_passed.size_is) in
        sym (
        ap (drop (place + old.size)) (things-are ∙ sym (append_assoc F.met (things old_part) (along o.counts rest (F.behind ++ []))))
        ∙ drop_at (F.met ++ things old_part) (along o.counts rest (F.behind ++ [])) (place + old.size) z
        ∙ ap (along o.counts rest) (append-nil F.behind ∙ sym to_is)
        )

    pub put_parted : Parted image o sp.at.at old.end.at part (record { place = place; old = old.size; new = new.size })
    put_parted = record {
      opened = B;
      new = R.new;
      new-at = R.new-at;
      old-at = subst (λ (z : List ℕ). At o.counts (drop sp.at.at image) old_part z) (sym to_is) old-at;
      old-is = old_passed.size_is;
      new_is = new_passed.size_is;
      from = cut-order;
      to = cut-within;
      behind-is = behind-is;
      sums = sums;
    }

    -- the new image
    new_bytes : List ℕ
    new_bytes = tree_image_bytes B.read.head (replaced R.new root place)

    spliced : take sp.at.at image ++ (part ++ drop old.end.at image) ≡ new_bytes
    unfolding new_bytes tree_image_bytes front
    spliced =
        ap (λ (z : List ℕ). z ++ (part ++ drop old.end.at image)) front-is ∙ ap₂ (λ (x y : List ℕ). front ++ (x ++ y)) part-is to_is
        ∙ append_assoc (head_bytes 2 B.read.head) F.before (tree_bytes R.new ++ F.behind) ∙ ap (λ (z : List ℕ). head_bytes 2 B.read.head ++ z) (sym (F.puts R.new))

    new-long : length new_bytes ≡ sp.at.at + length part + (length image - old.end.at)
    new-long =
        sym (ap length spliced) ∙ length-append (take sp.at.at image) (part ++ drop old.end.at image)
        ∙ ap₂ (λ (x y : ℕ). x + y) (ap length front-is ∙ front_long) (length-append part (drop old.end.at image) ∙ ap (λ (z : ℕ). length part + z) (length-drop old.end.at image))
        ∙ sym_assoc
      where
        sym_assoc : sp.at.at + (length part + (length image - old.end.at)) ≡ sp.at.at + length part + (length image - old.end.at)
        sym_assoc = omega arith

    module _ (out : List ℕ) where
      ending-is : replace_in (length out) words place part (read_image read_tree_image image)
          ≡ (when leb (length new_bytes) (length out) && leb (length new_bytes) 65536 then q.made new_bytes (brought_up (change_of place R.new root) B.read.head.names words) else q.refused (u.base too_long))
      unfolding with_part new_bytes limit.most_image
      ending-is = ending-asked image part words out place R.asked ∙ rw R.reads refl

      module _ {n : ℕ} (l : n ≡ sp.at.at + length part + (length image - old.end.at)) where
        pub put_over : 65536 < n → Replaces image place part words words out out (Err (refusal.Base base.TooLong))
        put_over h =
            let z : (leb (length new_bytes) (length out) && leb (length new_bytes) 65536) ≡ false = and_no (leb (length new_bytes) (length out)) (leb (length new_bytes) 65536) (lt-leb (length new_bytes) 65536 (omega (arith, new-long))) in
            refused-ends image part words out place (refusal.Base base.TooLong) (ending-is ∙ rw z refl)

        pub put_short : length out < n → Replaces image place part words words out out (Err (refusal.Base base.TooLong))
        put_short h =
            let z : leb (length new_bytes) (length out) ≡ false = lt-leb (length new_bytes) (length out) (omega (arith, new-long)) in
            refused-ends image part words out place (refusal.Base base.TooLong) (ending-is ∙ rw z refl)

        module _ (small : n ≤ 65536) (room : n ≤ length out) where
          pub put_room : sp.at.at + length part + (length image - old.end.at) ≤ length out
          put_room = omega arith

          made-is : replace_in (length out) words place part (read_image read_tree_image image) ≡ q.made new_bytes (brought_up (change_of place R.new root) B.read.head.names words)
          made-is = ending-is ∙ rw (le-leb (length new_bytes) (length out) (omega (arith, new-long)), le-leb (length new_bytes) 65536 (omega (arith, new-long))) refl

          pub put_made : {out' words' : List ℕ} {end : ℕ} → Placed out 0 (take sp.at.at image ++ (part ++ drop old.end.at image)) out' end
              → BringsUp image o sp.at.at old.end.at part (record { place = place; old = old.size; new = new.size }) words words'
              → Replaces image place part words words' out out' (Ok n)
          unfolding replace_answer summary_after_replace output_after_replace put_parted
          put_made {out'} {words'} pl bu = record {
            short = λ j z. (let y = same j z in omega arith);
            answer = rw made-is (ap (λ (j : ℕ). record { code = 0; units = 0; name = 0; len = j; first = 0; second = 0 }) (omega (arith, new-long)));
            words_left = rw made-is (bu put_parted ∙ words_same);
            out-left = rw made-is (out-same pl);
          }
            where
              same : (j : ℕ) → ◌≡◌ {A = Result ℕ UsesRefusal} (Ok n) (Ok j) → n ≡ j
              same j z = cc

              words_same : brought_up (change_of place R.new root) o.counts.names words ++ drop (2 + 2 * o.counts.names) words
                  ≡ brought_up (change_of place R.new root) B.read.head.names words ++ drop (length (brought_up (change_of place R.new root) B.read.head.names words)) words
              words_same =
                  ap (λ (j : ℕ). brought_up (change_of place R.new root) j words ++ drop (2 + 2 * j) words) B.names-are
                  ∙ ap (λ (j : ℕ). brought_up (change_of place R.new root) B.read.head.names words ++ drop j words) (sym (brought_long (change_of place R.new root) B.read.head.names words))

              out-same : {end : ℕ} → Placed out 0 (take sp.at.at image ++ (part ++ drop old.end.at image)) out' end → out' ≡ new_bytes ++ drop (length new_bytes) out
              out-same p =
                  p.is ∙ ap (sets out 0) spliced ∙ sets-eq new_bytes out 0 (omega (arith, new-long)) ∙ ap (λ (j : ℕ). new_bytes ++ drop j out) (let z : 0 + length new_bytes ≡ length new_bytes = omega arith in z)

  pub put_add : sp.at.at + length part < 18446744073709551616
  put_add = omega (arith, part-short, image-long, B.short)

  pub put_sum : {n : ℕ} → n ≤ length image → sp.at.at + length part + (length image - n) < 18446744073709551616
  put_sum h = omega (arith, part-short, image-long, B.short)

  pub put_held : Held o words
  unfolding belongs_to
  put_held =
      let first = and_both (leb (2 + 2 * o.counts.names) (length words) && eqb (get_or words 0 0) o.size) (eqb (get_or words 1 0) o.counts.names) R.asked.belongs in
      let second = and_both (leb (2 + 2 * o.counts.names) (length words)) (eqb (get_or words 0 0) o.size) first.0 in
      record {
        room = record { few = B.at.declared.names-few; long = leb-true (2 + 2 * o.counts.names) (length words) second.0 };
        size-told = eqb-true (get_or words 0 0) o.size second.1;
        names-told = eqb-true (get_or words 1 0) o.counts.names first.1;
      }

pub ruleset put_laws = (put_within, put_fits, put_scopes, put_old, put_part_fits, put_new, cut-order, cut-within, put_parted, put_over, put_short, put_room, put_made, put_add, put_sum, put_held)
