-- A name is among those reached exactly when a chain leads to it: each turn takes a step that was not taken yet, so that after as many
-- turns as there are steps the names reached are closed under steps.
use Prim.Native.Nat.{ℕ, zero, suc, ◌≤◌}
use mathlib.Core.Path.{◌≡◌, refl, sym, ap, subst, ◌∙◌}
use mathlib.Core.Logic.{◌⊎◌, inl, inr, ◌↔◌}
use mathlib.Core.List.Memᴰ
use mathlib.Core.List.{List, [], ◌∷◌, ◌++◌, Memᴰ}
use mathlib.Core.List.Permᴰ
use mathlib.Core.List.{Permᴰ}
use mathlib.Core.Bool.{Bool, true, false, cond, true≢false}
use native.Mathlib.Nat.{not-suc-le-zero}
use native.Mathlib.Omega.{arith}
use lib.ListN.{length}
use Rattle.reading.specs.Text.{Name}
use Rattle.typing.specs.Names.{member}
use Rattle.findings.specs.Lists.{any}
use Rattle.findings.specs.Reach.{end_of, IsChain, Leads, Choice, stuck, took, keep, choose, further, grown, reached}
use Rattle.findings.proofs.ListLaws.{bool_ext, any_some, some_any}
use Rattle.findings.proofs.Permutations.{perm_mem, perm_length}
use Rattle.findings.proofs.NamesOnce.{member_mem, mem_member}

module _ {S : Type 0} (starts : S → Name → Bool) where
  -- no step starts at one of the names; or one does, and the others are left
  abbrev Chosen : List Name → List S → Choice S → Type 0
  Chosen ns l stuck = (a : S) → Memᴰ a l → any (starts a) ns ≡ false
  Chosen ns l (took a rest) = (any (starts a) ns ≡ true) × Permᴰ l (a ∷ rest)

  chosen : (ns : List Name) (l : List S) → Chosen ns l (choose starts ns l)
  chosen ns [] = λ a m. absurd (Memᴰ.not-nil m)
  chosen ns (a ∷ l) = go (any (starts a) ns) refl (choose starts ns l) (chosen ns l)
    where
      go : (b : Bool) → any (starts a) ns ≡ b → (q : Choice S) → Chosen ns l q → Chosen ns (a ∷ l) (cond b (took a l) (keep a q))
      go true e q h = (e, Permᴰ.refl (a ∷ l))
      go false e stuck h = λ x m. put x (Memᴰ.cases_cons m)
        where
          put : (x : S) → (x ≡ a) ⊎ Memᴰ x l → any (starts x) ns ≡ false
          put x (inl p) = subst (λ y. any (starts y) ns ≡ false) (sym p) e
          put x (inr m) = h x m
      go false e (took b rest) h = (h.0, Permᴰ.trans (Permᴰ.cons refl h.1) (Permᴰ.swap refl refl))

-- starts tests Starts; all is the list of the steps
module _ {S : Type 0} (Starts : S → Name → Type 0) (starts : S → Name → Bool) (ends : S → Name) (meant : (a : S) (s : Name) → starts a s ≡ true ↔ Starts a s) (all : List S) where
  abbrev Closed : List Name → Type 0
  Closed ns = (a : S) (n : Name) → Memᴰ a all → Memᴰ n ns → Starts a n → Memᴰ (ends a) ns

  -- a chain with a step more
  chain_more : (s : Name) (c : List S) (a : S) → Memᴰ a all → IsChain Starts ends all s c → Starts a (end_of ends s c) → IsChain Starts ends all s (c ++ (a ∷ [])) × (end_of ends s (c ++ (a ∷ [])) ≡ ends a)
  chain_more s [] a m h t = ((m, t, tt), refl)
  chain_more s (b ∷ c) a m h t = let r = chain_more (ends b) c a m h.2 t in ((h.0, h.1, r.0), r.1)

  pub leads_more : (s n : Name) (a : S) → Memᴰ a all → Leads Starts ends all s n → Starts a n → Leads Starts ends all s (ends a)
  leads_more s n a m l t =
      let r = chain_more s l.0 a m l.1 (subst (λ x. Starts a x) (sym l.2) t) in
      (l.0 ++ (a ∷ []), r.0, r.1)

  grown_leads : (s : Name) (k : ℕ) (ns : List Name) (l : List S) → ((a : S) → Memᴰ a l → Memᴰ a all) → ((n : Name) → Memᴰ n ns → Leads Starts ends all s n) → (n : Name) → Memᴰ n (grown starts ends k ns l) → Leads Starts ends all s n
  grown_leads s zero ns l sub h = h
  grown_leads s (suc k) ns l sub h = go (choose starts ns l) (chosen starts ns l) (λ ms m f g. grown_leads s k ms m f g)
    where
      go : (q : Choice S) → Chosen starts ns l q
          → ((ms : List Name) (m : List S) → ((a : S) → Memᴰ a m → Memᴰ a all) → ((n : Name) → Memᴰ n ms → Leads Starts ends all s n) → (n : Name) → Memᴰ n (grown starts ends k ms m) → Leads Starts ends all s n)
          → (n : Name) → Memᴰ n (further ends (λ ms m. grown starts ends k ms m) ns q) → Leads Starts ends all s n
      go stuck p rec = h
      go (took a rest) p rec = rec (ends a ∷ ns) rest (λ b m. sub b (perm_mem (Permᴰ.symm p.1) (Memᴰ.tail m))) (λ n m. put n (Memᴰ.cases_cons m))
        where
          put : (n : Name) → (n ≡ ends a) ⊎ Memᴰ n ns → Leads Starts ends all s n
          put n (inl e) =
              let r = any_some (starts a) ns p.0 in
              let m = sub a (perm_mem (Permᴰ.symm p.1) (Memᴰ.head refl)) in
              subst (λ x. Leads Starts ends all s x) (sym e) (leads_more s r.0 a m (h r.0 r.1) ((meant a r.0).0 r.2))
          put n (inr m) = h n m

  grown_keeps : (k : ℕ) (ns : List Name) (l : List S) (n : Name) → Memᴰ n ns → Memᴰ n (grown starts ends k ns l)
  grown_keeps zero ns l n m = m
  grown_keeps (suc k) ns l n m = go (choose starts ns l) (λ ms r h. grown_keeps k ms r n h)
    where
      go : (q : Choice S) → ((ms : List Name) (r : List S) → Memᴰ n ms → Memᴰ n (grown starts ends k ms r)) → Memᴰ n (further ends (λ ms r. grown starts ends k ms r) ns q)
      go stuck rec = m
      go (took a rest) rec = rec (ends a ∷ ns) rest (Memᴰ.tail m)

  grown_closed : (k : ℕ) (ns : List Name) (l : List S) → length l ≤ k → ((a : S) → Memᴰ a all → Memᴰ a l ⊎ Memᴰ (ends a) ns) → Closed (grown starts ends k ns l)
  grown_closed zero ns [] b h = λ a n ma mn t. go a (h a ma)
    where
      go : (a : S) → Memᴰ a [] ⊎ Memᴰ (ends a) ns → Memᴰ (ends a) ns
      go a (inl m) = absurd (Memᴰ.not-nil m)
      go a (inr m) = m
  grown_closed zero ns (x ∷ l) b h = absurd (not-suc-le-zero b)
  grown_closed (suc k) ns l b h = go (choose starts ns l) (chosen starts ns l) (λ ms m c f. grown_closed k ms m c f)
    where
      go : (q : Choice S) → Chosen starts ns l q
          → ((ms : List Name) (m : List S) → length m ≤ k → ((a : S) → Memᴰ a all → Memᴰ a m ⊎ Memᴰ (ends a) ms) → Closed (grown starts ends k ms m))
          → Closed (further ends (λ ms m. grown starts ends k ms m) ns q)
      go stuck p rec = λ a n ma mn t. put a n mn t (h a ma)
        where
          put : (a : S) (n : Name) → Memᴰ n ns → Starts a n → Memᴰ a l ⊎ Memᴰ (ends a) ns → Memᴰ (ends a) ns
          put a n mn t (inl m) = absurd (true≢false (sym (some_any (starts a) mn ((meant a n).1 t)) ∙ p a m))
          put a n mn t (inr m) = m
      go (took x rest) p rec = rec (ends x ∷ ns) rest (omega (arith, perm_length p.1)) (λ a m. put a (h a m))
        where
          split : (a : S) → (a ≡ x) ⊎ Memᴰ a rest → Memᴰ a rest ⊎ Memᴰ (ends a) (ends x ∷ ns)
          split a (inl e) = inr (Memᴰ.head (ap ends e))
          split a (inr m) = inl m

          put : (a : S) → Memᴰ a l ⊎ Memᴰ (ends a) ns → Memᴰ a rest ⊎ Memᴰ (ends a) (ends x ∷ ns)
          put a (inl m) = split a (Memᴰ.cases_cons (perm_mem p.1 m))
          put a (inr m) = inr (Memᴰ.tail m)

  -- a closed list of names holds the end of every chain that starts in it
  chain_in : (ns : List Name) → Closed ns → (s : Name) (c : List S) → Memᴰ s ns → IsChain Starts ends all s c → Memᴰ (end_of ends s c) ns
  chain_in ns cl s [] m h = m
  chain_in ns cl s (a ∷ c) m h = chain_in ns cl (ends a) c (cl a s h.0 m h.1) h.2

  pub reached_iff : (s n : Name) → member n (reached starts ends s all) ≡ true ↔ Leads Starts ends all s n
  unfolding reached
  reached_iff s n = (to, from)
    where
      names : List Name
      names = grown starts ends (length all) (s ∷ []) all

      start : (x : Name) → Memᴰ x (s ∷ []) → Leads Starts ends all s x
      start x m = put (Memᴰ.cases_cons m)
        where
          put : (x ≡ s) ⊎ Memᴰ x [] → Leads Starts ends all s x
          put (inl e) = ([], tt, sym e)
          put (inr k) = absurd (Memᴰ.not-nil k)

      to : member n names ≡ true → Leads Starts ends all s n
      to h = grown_leads s (length all) (s ∷ []) all (λ a m. m) start n (member_mem n names h)

      closed : Closed names
      closed = grown_closed (length all) (s ∷ []) all (omega arith) (λ a m. inl m)

      from : Leads Starts ends all s n → member n names ≡ true
      from l =
          let first = grown_keeps (length all) (s ∷ []) all s (Memᴰ.head refl) in
          mem_member (Memᴰ.cast (sym l.2) (chain_in names closed s l.0 first l.1))

  -- marks are the test for what is reached, if the start is marked, the marks are closed under steps, and a chain leads to each
  pub reached_by : (s : Name) (marked : Name → Bool) → marked s ≡ true
      → ((a : S) (n : Name) → Memᴰ a all → marked n ≡ true → Starts a n → marked (ends a) ≡ true)
      → ((n : Name) → marked n ≡ true → Leads Starts ends all s n)
      → (n : Name) → member n (reached starts ends s all) ≡ marked n
  reached_by s marked h₀ cl sound n =
      bool_ext
      _
      _
      (λ e. let l = (reached_iff s n).0 e in subst (λ x. marked x ≡ true) l.2 (along s l.0 h₀ l.1))
      (λ e. (reached_iff s n).1 (sound n e))
    where
      along : (r : Name) (c : List S) → marked r ≡ true → IsChain Starts ends all r c → marked (end_of ends r c) ≡ true
      along r [] m h = m
      along r (a ∷ c) m h = along (ends a) c (cl a r h.0 m h.1) h.2
