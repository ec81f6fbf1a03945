-- Stores alike: the same leading bindings but for the numbers of their scopes, in whatever order. Such stores answer alike, what is not bound
-- in one is not bound in the other, and they stay alike when bindings alike are put in their places.
use mathlib.Core.Path.{◌≡◌, sym, ap, ap₂, ◌∙◌, subst}
use mathlib.Core.Logic.{◌⊎◌, inl, inr}
use Prim.Native.Nat.{ℕ, suc}
use mathlib.Core.Bool.{Bool, ◌&&◌}
use mathlib.Core.List.{List}
use lib.Dec.{eqb}
use lib.ListN.{length}
use Rattle.model.specs.Scopes.{Scopes}
use Rattle.model.specs.Resolving.{Bind, insert, Found, means, candidate, resolve}
use Rattle.laws.proofs.Stable.{Unbound}
use Rattle.addresses.proofs.States.{insert-length}
use Rattle.alike.proofs.Alike.{NewNumbers, SetAlike, BindAlike}
use Rattle.alike.proofs.SetLaws.{within_alike, eq_there, eq_back}
use Rattle.alike.proofs.Leads.{SameKey, key_trans, Lead, lead_in, in_lead, Ranked, insert-ranked, lead_old, lead_new, lead_cases, Top, LeadRule, free, found, unclear, lead_rule_one, resolve_leads}

-- the leading binding of r that is like b, and of l that c is like
pub record Partner (ρ : NewNumbers) (b : Bind) (r : List Bind) : Type 0 where
  pub it : Bind
  pub like : BindAlike ρ b it
  pub leads : Lead it r

pub record Origin (ρ : NewNumbers) (c : Bind) (l : List Bind) : Type 0 where
  pub it : Bind
  pub like : BindAlike ρ it c
  pub leads : Lead it l

pub record StoreAlike (ρ : NewNumbers) (l r : List Bind) : Type 0 where
  pub ranked_l : Ranked l
  pub ranked_r : Ranked r
  pub same_length : length l ≡ length r
  pub there : (b : Bind) → Lead b l → Partner ρ b r
  pub back : (c : Bind) → Lead c r → Origin ρ c l

module _ (ρ : NewNumbers) where
  key_there : (b c d e : Bind) → BindAlike ρ b c → BindAlike ρ d e → SameKey b d → SameKey c e
  key_there b c d e h i k = record {
    symb-is = sym h.symb-is ∙ k.symb-is ∙ i.symb-is;
    set_is = eq_there ρ b.set c.set d.set e.set h.set_like i.set_like k.set_is;
  }

  key_back : (b c d e : Bind) → BindAlike ρ b c → BindAlike ρ d e → SameKey c e → SameKey b d
  key_back b c d e h i k = record {
    symb-is = h.symb-is ∙ k.symb-is ∙ sym i.symb-is;
    set_is = eq_back ρ b.set c.set d.set e.set h.set_like i.set_like k.set_is;
  }

  module _ (l r : List Bind) (a : StoreAlike ρ l r) where
    unbound_there : (b c : Bind) → BindAlike ρ b c → Unbound b l → Unbound c r
    unbound_there b c h u e i x y =
        let g = in_lead e r i in
        let p = a.back g.0 g.2 in
        let k = key_back b c p.it g.0 h p.like (key_trans c e g.0 (record { symb-is = x; set_is = y }) g.1) in
        u p.it (lead_in p.it l p.leads) k.symb-is k.set_is

    unbound_back : (b c : Bind) → BindAlike ρ b c → Unbound c r → Unbound b l
    unbound_back b c h u e i x y =
        let g = in_lead e l i in
        let p = a.there g.0 g.2 in
        let k = key_there b c g.0 p.it h p.like (key_trans b e g.0 (record { symb-is = x; set_is = y }) g.1) in
        u p.it (lead_in p.it r p.leads) k.symb-is k.set_is

    pub insert_alike : (b c : Bind) → BindAlike ρ b c → StoreAlike ρ (insert b l) (insert c r)
    insert_alike b c h = record {
      ranked_l = insert-ranked b l a.ranked_l;
      ranked_r = insert-ranked c r a.ranked_r;
      same_length = insert-length b l ∙ ap suc a.same_length ∙ sym (insert-length c r);
      there = λ d w. there_cases d (lead_cases b d l a.ranked_l w);
      back = λ d w. back_cases d (lead_cases c d r a.ranked_r w);
    }
      where
        there_cases : (d : Bind) → Lead d l ⊎ ((d ≡ b) × Unbound b l) → Partner ρ d (insert c r)
        there_cases d (inl w) =
            let p = a.there d w in
            record { it = p.it; like = p.like; leads = lead_old c p.it r a.ranked_r p.leads }
        there_cases d (inr w) =
            record { it = c; like = subst (λ (z : Bind). BindAlike ρ z c) (sym w.0) h; leads = lead_new c r (unbound_there b c h w.1) }

        back_cases : (d : Bind) → Lead d r ⊎ ((d ≡ c) × Unbound c r) → Origin ρ d (insert b l)
        back_cases d (inl w) =
            let p = a.back d w in
            record { it = p.it; like = p.like; leads = lead_old b p.it l a.ranked_l p.leads }
        back_cases d (inr w) =
            record { it = b; like = subst (λ (z : Bind). BindAlike ρ b z) (sym w.0) h; leads = lead_new b l (unbound_back b c h w.1) }

    module _ (x : ℕ) (s t : Scopes) (i : SetAlike ρ s t) where
      candidate_alike : (b c : Bind) → BindAlike ρ b c → candidate x s b ≡ candidate x t c
      unfolding candidate
      candidate_alike b c h =
          ap₂ (λ (p q : Bool). p && q) (ap (λ (z : ℕ). eqb z x) h.symb-is) (within_alike ρ b.set c.set s t h.set_like i)

      top-there : (b c : Bind) → BindAlike ρ b c → Lead c r → Top x s l b → Top x t r c
      top-there b c h w k = record {
        leads = w;
        fits = sym (candidate_alike b c h) ∙ k.fits;
        above = λ d v e.
            let p = a.back d v in
            sym (within_alike ρ p.it.set d.set b.set c.set p.like.set_like h.set_like)
            ∙ k.above p.it p.leads (candidate_alike p.it d p.like ∙ e);
      }

      top_back : (b c : Bind) → BindAlike ρ b c → Lead b l → Top x t r c → Top x s l b
      top_back b c h w k = record {
        leads = w;
        fits = candidate_alike b c h ∙ k.fits;
        above = λ d v e.
            let p = a.there d v in
            within_alike ρ d.set p.it.set b.set c.set p.like.set_like h.set_like
            ∙ k.above p.it p.leads (sym (candidate_alike d p.it p.like) ∙ e);
      }

      rule_there : (f : Found) → LeadRule x s l f → LeadRule x t r f
      rule_there f (free n) = free (λ c w. let p = a.back c w in sym (candidate_alike p.it c p.like) ∙ n p.it p.leads)
      rule_there f (found b k) =
          let p = a.there b k.leads in
          subst (λ (z : ℕ). LeadRule x t r (means z)) (sym p.like.target_is) (found p.it (top-there b p.it p.like p.leads k))
      rule_there f (unclear b w e n) =
          let p = a.there b w in
          unclear p.it p.leads (sym (candidate_alike b p.it p.like) ∙ e) (λ c k.
          let q = a.back c k.leads in
          n q.it (top_back q.it c q.like q.leads k))

      pub resolve_alike : resolve x s l ≡ resolve x t r
      resolve_alike =
          lead_rule_one x t r (resolve x s l) (resolve x t r) (rule_there (resolve x s l) (resolve_leads x s l)) (resolve_leads x t r)
