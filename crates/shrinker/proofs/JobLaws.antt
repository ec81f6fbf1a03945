-- The job, by the steps that the code takes.
use Prim.Native.Nat.{ℕ, zero, suc, ◌+◌, ◌≤◌, ◌<◌, min}
use mathlib.Core.Path.{◌≡◌, refl, sym, ap, ◌∙◌, subst}
use mathlib.Core.Logic.{inl}
use mathlib.Core.List.{List, [], ◌++◌}
use native.Mathlib.Omega.{arith}
use lib.ListN.{length, take, drop, get_or, replicate, length-take, length-replicate}
use lib.Seq.{sets, sets-eq, take_at}
use Rattle.model.specs.Refusals as model
use Rattle.model.specs.Objects.{Stx}
use Rattle.model.specs.Reading.{got, fault, Image, read_image, read_syntax}
use Rattle.model.specs.Jobs as m
use Rattle.model.specs.Jobs.{with_image, fitted}
use Rattle.model.specs.Competing.{no_rivals}
use Rattle.shrinking.specs.Shrunk.{shrunk, bytes_of, smaller, shrink_ending}
use Rattle.shrinking.proofs.Readable.{shrunk-bytes}
use Rattle.refusals.specs.Refusing.{refusal_of}
use Rattle.refusals.specs.declared.Refusal.{Refusal}
use Rattle.refusals.specs.declared.Refusal.TheVariants as refusal
use Rattle.scopes.specs.Sets.{scopes_of}
use Rattle.image.specs.declared.Judgement.{Judgement}
use Rattle.std.specs.Prelude.{Result, Ok, Err}
use Rattle.image.specs.Judging.{syntax_kind, judged_as, Judges}
use Rattle.finish.specs.declared.Ending.{Ending}
use Rattle.finish.specs.declared.Ending.TheVariants.{Refused, Written}
use Rattle.finish.specs.Ends.{EndsAs}
use Rattle.finish.proofs.Ends.{ends-refused, ends_too_long, ends-written}
use Rattle.marking.specs.declared.kept.Kept.{Kept}
use Rattle.ranking.specs.Ranks.{Ranked}
use Rattle.shrinker.specs.Using.{Uses}
use Rattle.shrinker.specs.Job.{Begun, Roomy, Writable, Makes, Shrinks}
use Rattle.shrinker.specs.Job as job

-- ---- the output

start_is : (bytes out : List ℕ) → length bytes ≤ length out → sets out 0 bytes ≡ bytes ++ drop (length bytes) out
start_is bytes out h = sets-eq bytes out 0 (omega arith) ∙ ap (λ (n : ℕ). bytes ++ drop n out) (let z : 0 + length bytes ≡ length bytes = omega arith in z)

module _ (bytes out : List ℕ) (short : length bytes ≤ 65536) where
  pub finish_long : length out < length bytes → job.Fits bytes out out (Refused refusal.TooLong 0)
  finish_long h = ends_too_long bytes out 0 (inl h)

  pub finish_written : {v : List ℕ} → length bytes ≤ length out → v ≡ bytes → job.Fits bytes out (v ++ drop (length bytes) out) (Written (length bytes) 0)
  finish_written h e = ends-written bytes out 0 refl h short (ap (λ (z : List ℕ). z ++ drop (length bytes) out) e)

pub ruleset finish_laws = (finish_long, finish_written)

-- ---- with places for chains and marks

module _ {image store : List ℕ} {j : Judgement} {lasts befores marks scratch : List ℕ} (y : Begun image store j lasts befores marks scratch) where
  module _ {marks' : List ℕ} {k : Kept} (u : Uses image store marks marks' k) where
    pub with_writable : {ranks : List ℕ} → Ranked (scopes_of k.scopes) ranks → Writable image store j marks' k ranks scratch
    with_writable {ranks} r = record {
      held = y.unused.held;
      unmarked = marks;
      marks-long = y.unused.marks-long;
      uses = u;
      ranked = subst (λ (s : ℕ). Ranked s ranks) u.scopes-are r;
      room = y.room;
    }

pub ruleset with_laws = (with_writable)

-- ---- the places

zero-at : (n x : ℕ) → get_or (replicate {A = ℕ} n 0) x 0 ≡ 0
zero-at zero x = refl
zero-at (suc n) zero = refl
zero-at (suc n) (suc x) = zero-at n x

zero-taken : (c n x : ℕ) → get_or (take c (replicate {A = ℕ} n 0)) x 0 ≡ 0
zero-taken zero n x = refl
zero-taken (suc c) zero x = refl
zero-taken (suc c) (suc n) zero = refl
zero-taken (suc c) (suc n) (suc x) = zero-taken c n x

module _ {image store : List ℕ} {j : Judgement} {scratch : List ℕ} (y : Roomy image store j scratch) where
  pub make_count : j.bindings ≤ 512
  make_count = y.held.good.few-binds

  taken-long : length (take j.bindings (replicate {A = ℕ} 512 0)) ≡ j.bindings
  taken-long = let e = length-replicate {A = ℕ} 512 0 in let f = make_count in length-take j.bindings (replicate {A = ℕ} 512 0) ∙ (let z : min j.bindings (length (replicate {A = ℕ} 512 0)) ≡ j.bindings = omega arith in z)

  pub make_begun : Begun image store j (replicate 1024 0) (take j.bindings (replicate 512 0)) (take j.bindings (replicate 512 0)) scratch
  make_begun = record {
    unused = record {
      held = y.held;
      symbols = let e : length (replicate {A = ℕ} 1024 0) ≡ 1024 = length-replicate {A = ℕ} 1024 0 in omega arith;
      no-chain = zero-at 1024;
      befores_long = taken-long;
      marks-long = taken-long;
      no_mark = zero-taken j.bindings 512;
    };
    room = y.room;
  }

pub ruleset make_laws = (make_begun)

-- ---- of a judged image

module _ {image scratch scratch' : List ℕ} {r : ℕ} (room : 65536 ≤ length scratch) (v : Makes image scratch scratch' r) where
  fits : length (smaller image) ≤ length scratch
  fits = let a = v.short in let b = v.placed.ends in omega arith

  taken : take r scratch' ≡ smaller image
  taken = ap (take r) (v.placed.is ∙ start_is (smaller image) scratch fits) ∙ take_at (smaller image) (drop (length (smaller image)) scratch) r (let e = v.placed.ends in omega arith)

  pub good-made : {out out' : List ℕ} {e : Ending} → job.Fits (take r scratch') out out' e → job.Fits (smaller image) out out' e
  good-made {out} {out'} {e} f = subst (λ (b : List ℕ). EndsAs (fitted (length out) b 0) out out' e) taken f

pub ruleset good_laws = (good-made)

-- ---- judged

with_got : (i : Image Stx) (s : List ℕ) (f : Image Stx → m.Ending) → with_image (got i s) f ≡ f i
unfolding with_image
with_got i s f = refl

with_fault : (r : model.Refusal) (f : Image Stx → m.Ending) → with_image (fault r) f ≡ m.refused r no_rivals 0
unfolding with_image
with_fault r f = refl

ending-got : (image : List ℕ) (i : Image Stx) (room : ℕ) → read_image read_syntax image ≡ got i [] → shrink_ending image room ≡ fitted room (smaller image) 0
unfolding shrink_ending
ending-got image i room e =
    ap (λ z. with_image z (λ x. fitted room (bytes_of (shrunk x)) 0)) e ∙ with_got i [] (λ x. fitted room (bytes_of (shrunk x)) 0)
    ∙ ap (λ (b : List ℕ). fitted room b 0) (sym (shrunk-bytes image [] i e))

ending_fault : (image : List ℕ) (f : Refusal) (room : ℕ) → read_image read_syntax image ≡ fault (refusal_of f) → shrink_ending image room ≡ m.refused (refusal_of f) no_rivals 0
unfolding shrink_ending
ending_fault image f room e =
    ap (λ z. with_image z (λ x. fitted room (bytes_of (shrunk x)) 0)) e ∙ with_fault (refusal_of f) (λ x. fitted room (bytes_of (shrunk x)) 0)

module _ {image store : List ℕ} {r : Result Judgement Refusal} (h : Judges syntax_kind image store r) where
  pub job_fault : {out : List ℕ} {f : Refusal} → r ≡ Err f → Shrinks image out out (Refused f 0)
  job_fault {out} {f} e = ends-refused out (ending_fault image f (length out) (h.is ∙ ap (judged_as syntax_kind image store) e))

  module _ {j : Judgement} (e : r ≡ Ok j) where
    pub job_shrunk : {out out' : List ℕ} {q : Ending} → job.Fits (smaller image) out out' q → Shrinks image out out' q
    job_shrunk {out} {out'} {q} w =
        let g = h.good j e in
        subst (λ (z : m.Ending). EndsAs z out out' q) (sym (ending-got image g.image (length out) g.reads)) w

pub ruleset judged_laws = (job_fault, job_shrunk)
