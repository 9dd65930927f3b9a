-- What asks only whether some transition is there does not depend on their order: sites 3, 21, 22 and 23.
use mathlib.Core.Path.{◌≡◌, refl, ap, ◌∙◌}
use mathlib.Core.Logic.{◌↔◌}
use mathlib.Core.List.Permᴰ
use mathlib.Core.List.{List, [], ◌∷◌, Permᴰ}
use mathlib.Core.Option.{Option, none, some}
use mathlib.Core.Bool.{true, not}
use Rattle.reading.specs.Text.{Name}
use Rattle.reading.specs.Decl.{ConstructorGroup}
use Rattle.reading.specs.Transition.{Transition}
use Rattle.reading.specs.Module.{Module}
use Rattle.typing.specs.Names.{member}
use Rattle.typing.proofs.NameLaws.{eq_name_eq}
use Rattle.findings.specs.Lists.{placed}
use Rattle.findings.specs.Finding.{note, noted}
use Rattle.findings.specs.Reach.{IsChain, Leads, reached}
use Rattle.findings.specs.Mentions.{group_variants, touched, error_touched, all_touched}
use Rattle.findings.specs.Errors.{is_empty}
use Rattle.findings.specs.Warnings.{starts_at, leads_to, unreachable, uses_event, dead_in, dead, unused}
use Rattle.findings.specs.Demand.{StartsAt, with_transitions}
use Rattle.findings.proofs.ListLaws.{bool_ext, each_cong}
use Rattle.findings.proofs.Permutations.{perm_append, perm_mem, perm_any, perm_each}
use Rattle.findings.proofs.NamesOnce.{eq_name_of_eq, perm_member}
use Rattle.findings.proofs.Chains.{reached_iff}

pub starts_meant : (t : Transition) (s : Name) → starts_at t s ≡ true ↔ StartsAt t s
starts_meant t s = (eq_name_eq t.state s, λ e. eq_name_of_eq e)

-- a chain of some transitions is a chain of the rearranged ones
chain_perm : {ts us : List Transition} → Permᴰ ts us → (s : Name) (c : List Transition) → IsChain StartsAt leads_to ts s c → IsChain StartsAt leads_to us s c
chain_perm p s [] h = tt
chain_perm p s (t ∷ c) h = (perm_mem p h.0, h.1, chain_perm p t.next_state c h.2)

leads_perm : {ts us : List Transition} → Permᴰ ts us → (s n : Name) → Leads StartsAt leads_to ts s n → Leads StartsAt leads_to us s n
leads_perm p s n l = (l.0, chain_perm p s l.0 l.1, l.2)

pub perm_is_empty : {A : Type 0} {l k : List A} → Permᴰ l k → is_empty l ≡ is_empty k
unfolding is_empty
perm_is_empty Permᴰ.nil = refl
perm_is_empty (Permᴰ.cons e d) = refl
perm_is_empty (Permᴰ.swap e₁ e₂) = refl
perm_is_empty (Permᴰ.trans d₁ d₂) = perm_is_empty d₁ ∙ perm_is_empty d₂

module _ {ts us : List Transition} (p : Permᴰ ts us) where
  reached_perm : (s n : Name) → member n (reached starts_at leads_to s ts) ≡ member n (reached starts_at leads_to s us)
  reached_perm s n =
      let before = reached_iff StartsAt starts_at leads_to starts_meant ts s n in
      let after = reached_iff StartsAt starts_at leads_to starts_meant us s n in
      bool_ext _ _ (λ e. after.1 (leads_perm p s n (before.0 e))) (λ e. before.1 (leads_perm (Permᴰ.symm p) s n (after.0 e)))

  pub unreachable_perm : (vs : List Name) (s : Option Name) → unreachable vs s ts ≡ unreachable vs s us
  unfolding unreachable
  unreachable_perm vs none = refl
  unreachable_perm vs (some s) = simp (reached_perm s)

  pub dead_perm : (events : List ConstructorGroup) → dead events ts ≡ dead events us
  unfolding dead dead_in
  dead_perm events =
      each_cong (placed 0 events) λ g.
      each_cong (placed 0 (group_variants (some g.item))) λ v.
      ap (λ b. noted (not b) (note 22 g.place v.place 0)) (perm_any (uses_event events g.item.name v.item) p)

  touched_perm : (m : Module) (n : Name) → member n (all_touched (with_transitions ts m)) ≡ member n (all_touched (with_transitions us m))
  unfolding all_touched
  touched_perm m = perm_member (perm_append (perm_each touched p) (Permᴰ.refl (error_touched m.on_error)))

  pub unused_perm : (m : Module) → unused (all_touched (with_transitions ts m)) m.vars ≡ unused (all_touched (with_transitions us m)) m.vars
  unfolding unused
  unused_perm m = simp (touched_perm m)
