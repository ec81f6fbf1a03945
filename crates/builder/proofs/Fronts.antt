-- Numbers and sets that are known to stand at a place: what their readers answer there.
use mathlib.Core.Path.{◌≡◌, sym, ap, ◌∙◌}
use mathlib.Core.Bool.{Bool, true, false, not}
use mathlib.Core.List.{List, [], ◌∷◌}
use Prim.Native.Nat.{ℕ, zero, suc, ◌+◌, ◌-◌, ◌*◌, ◌≤◌}
use native.Mathlib.Omega.{arith}
use lib.Dec.{eqb, leb, ltb}
use lib.ListN.{length, take, drop, length-drop}
use lib.Seq.{drop-drop}
use Rattle.scopes.specs.Sets.{set_scopes}
use Rattle.numbers.specs.Limits.{most_image}
use Rattle.model.specs.Choice.{when◌then◌else◌}
use Rattle.model.specs.Refusals.{layout, over_limit}
use Rattle.model.specs.Reading.{Read, got, need, give, ◌>>◌, byte, groups, num, read_sets}
use Rattle.codec_laws.proofs.NumberTrip.{got-value, got-rest, fault≢got}
use Rattle.codec_laws.proofs.Sequence.{next-got, need-got}
use Rattle.refusals.specs.declared.Refusal.{Refusal}
use Rattle.std.specs.Prelude.{Result, Ok}
use Rattle.numbers.specs.Answers.{read_at, seen}
use Rattle.numbers.specs.declared.Cursor.{Cursor}
use Rattle.numbers.proofs.Answering.{Took, took, read_shape, whole}
use Rattle.numbers.proofs.Tails.{num_tail}
use Rattle.numbers.proofs.Reading.{part-from}
use Rattle.sets.proofs.Reading.{sets_tail}
use Rattle.table.specs.declared.Sets.{Sets}
use Rattle.table.specs.Words.{sets_of}
use Rattle.builder.specs.Fronts.{Within, Left, NumberHere, NumberRead, FrontHere, FrontRead}

-- ---- a number takes a byte at least

groups-short : (k w n v : ℕ) (s rest : List ℕ) → groups k w n s ≡ got v rest → length rest ≤ length s
unfolding groups byte
groups-short zero w n v [] rest e = absurd (fault≢got layout v rest e)
groups-short (suc k) w n v [] rest e = absurd (fault≢got layout v rest e)
groups-short zero w n v (b ∷ s) rest e =
    let g = next-got (need over_limit (leb b 15) s) _ v rest e in
    let p = need-got over_limit (leb b 15) g.0 s g.1 g.2 in
    let f = next-got (need layout (not (eqb b 0)) g.1) _ v rest g.3 in
    let q = need-got layout (not (eqb b 0)) f.0 g.1 f.1 f.2 in
    omega (arith, ap length p.1, ap length q.1, ap length (got-rest (n + b * w) v f.1 rest f.3))
groups-short (suc k) w n v (b ∷ s) rest e = go (ltb b 128) e (λ x. groups-short k (w * 128) (n + (b - 128) * w) v s rest x)
  where
    go : (t : Bool) → (when t then (need layout (not (eqb b 0)) >> give (n + b * w)) else groups k (w * 128) (n + (b - 128) * w)) s ≡ got v rest
        → (groups k (w * 128) (n + (b - 128) * w) s ≡ got v rest → length rest ≤ length s) → length rest ≤ suc (length s)
    go true x h =
        let f = next-got (need layout (not (eqb b 0)) s) _ v rest x in
        let q = need-got layout (not (eqb b 0)) f.0 s f.1 f.2 in
        omega (arith, ap length q.1, ap length (got-rest (n + b * w) v f.1 rest f.3))
    go false x h = omega (arith, h x)

num-short : (v : ℕ) (s rest : List ℕ) → num s ≡ got v rest → length rest + 1 ≤ length s
unfolding num byte
num-short v [] rest e = absurd (fault≢got layout v rest e)
num-short v (b ∷ s) rest e = go (ltb b 128) e (λ x. groups-short 3 128 (b - 128) v s rest x)
  where
    go : (t : Bool) → (when t then give b else groups 3 128 (b - 128)) s ≡ got v rest → (groups 3 128 (b - 128) s ≡ got v rest → length rest ≤ length s)
        → length rest + 1 ≤ suc (length s)
    go true x h = omega (arith, ap length (got-rest b v s rest x))
    go false x h = omega (arith, h x)

-- ---- what is read at a place

-- g was read of the image from `at` on: what is left is the image from `past` on
pub record Taken {K : Type 0} (image : List ℕ) (at past : ℕ) (g : Read K) (k : K) : Type 0 where
  pub moved : at ≤ past
  pub inside : past ≤ length image
  pub is : g ≡ got k (drop past image)

taken : {K : Type 0} {image : List ℕ} {at past : ℕ} {g : Read K} {k : K} → at ≤ length image → Took at (drop at image) g k past → Taken image at past g k
taken {image = image} {at = at} {past = past} {k = k} i t =
    let m = t.moved in
    let z : at + (past - at) ≡ past = omega arith in
    record { moved = m; inside = omega (arith, t.within, length-drop at image); is = t.is ∙ ap (got k) (drop-drop (past - at) at image ∙ ap (λ (n : ℕ). drop n image) z) }

taken-left : {K : Type 0} {image : List ℕ} {at past : ℕ} {g : Read K} {k v : K} {rest : List ℕ} → Taken image at past g k → g ≡ got v rest → (k ≡ v) × (rest ≡ drop past image)
taken-left {image = image} {past = past} {k = k} {v = v} {rest = rest} t e =
    let q : got k (drop past image) ≡ got v rest = sym t.is ∙ e in
    (got-value k v (drop past image) rest q, sym (got-rest k v (drop past image) rest q))

-- ---- a number

part : (image : List ℕ) (at : ℕ) → List ℕ
part image at = take (length image - at) (drop at image)

pub place_short : {image : List ℕ} {at : ℕ} → Within image at → at + length (take (length image - at) (drop at image)) ≤ most_image
place_short {image} {at} w = rw part-from (omega (arith, w.inside, w.short, length-drop at image))

module _ {image : List ℕ} {at : ℕ} (h : NumberHere image at) {r : Result (ℕ × Cursor) Refusal}
    (a : r ≡ read_at (at + length (take (length image - at) (drop at image))) (num (take (length image - at) (drop at image)))) where
  there : r ≡ read_at (at + length (drop at image)) (num (drop at image))
  there = rw part-from at a

  pub number_read : {n : ℕ} {past : Cursor} → r ≡ Ok (n, past) → NumberRead image at n past.at
  number_read {n} {past} e =
      let t = taken h.place.inside (took read_shape there e (num_tail (drop at image))) in
      record {
        value-is = λ v rest x. (taken-left t x).0;
        left = λ v rest x.
            let q = (taken-left t x).1 in
            let d : length rest ≡ length image - past.at = ap length q ∙ length-drop past.at image in
            let s = num-short v (drop at image) rest x in
            record { moved = omega (arith, s, d, length-drop at image, t.inside, h.place.inside); inside = t.inside; is = q };
      }

-- ---- an object's front

module _ {image : List ℕ} {at scopes : ℕ} (h : FrontHere image at scopes) where
  pub tag-here : NumberHere image at
  tag-here = record { place = h.place; n = h.tag; rest = h.is.behind-tag; is = h.is.tag_read }

  module _ {tag here : ℕ} (t : NumberRead image at tag here) where
    behind : Left image (at + 1) here h.is.behind-tag
    behind = t.left h.tag h.is.behind-tag h.is.tag_read

    pub here-inside : here ≤ length image
    here-inside = behind.inside

    pub here-short : here + length (take (length image - here) (drop here image)) ≤ most_image
    here-short = let w : Within image here = record { inside = here-inside; short = h.place.short } in place_short w

    pub few-scopes : scopes ≤ set_scopes
    few-scopes = h.few

    sets-here : read_sets scopes (drop here image) ≡ got h.sets h.is.behind-sets
    sets-here = ap (read_sets scopes) (sym behind.is) ∙ h.is.sets-read

    module _ {o : Result (Sets × Cursor) Refusal} {c : Sets} {past : Cursor} (e : o ≡ Ok (c, past))
        (a : seen sets_of o ≡ read_at (here + length (take (length image - here) (drop here image))) (read_sets scopes (take (length image - here) (drop here image)))) where
      seen-there : seen sets_of o ≡ read_at (here + length (drop here image)) (read_sets scopes (drop here image))
      seen-there = rw part-from at a

      sets-taken : Taken image here past.at (read_sets scopes (drop here image)) (sets_of c)
      sets-taken =
          let w = whole sets_of here (drop here image) (read_sets scopes (drop here image)) seen-there e (sets_tail scopes (drop here image)) in
          taken here-inside (took read_shape seen-there w (sets_tail scopes (drop here image)))

      pub number-here : NumberHere image past.at
      number-here =
          let q = taken-left sets-taken sets-here in
          let z : num (drop past.at image) ≡ got h.n h.rest = ap num (sym q.1) ∙ h.is.number_read in
          record { place = record { inside = sets-taken.inside; short = h.place.short }; n = h.n; rest = h.rest; is = z }

      pub front_read : {n after : ℕ} → NumberRead image past.at n after → FrontRead image at scopes tag c n after
      front_read {n} {after} w =
          record {
            means = λ tag₀ sets₀ n₀ rest f.
                let l = t.left tag₀ f.behind-tag f.tag_read in
                let s : read_sets scopes (drop here image) ≡ got sets₀ f.behind-sets = ap (read_sets scopes) (sym l.is) ∙ f.sets-read in
                let q = taken-left sets-taken s in
                let k : num (drop past.at image) ≡ got n₀ rest = ap num (sym q.1) ∙ f.number_read in
                let y = w.left n₀ rest k in
                record {
                  tag_is = t.value-is tag₀ f.behind-tag f.tag_read;
                  sets-are = q.0;
                  number_is = w.value-is n₀ rest k;
                  left = record { moved = omega (arith, l.moved, sets-taken.moved, y.moved); inside = y.inside; is = y.is };
                };
          }

pub ruleset laws = (place_short, number_read, tag-here, here-inside, here-short, few-scopes, number-here, front_read)
