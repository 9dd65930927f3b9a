-- The variants that patterns of a group use: what each pattern adds, and what the answers say.
use Rattle.std.specs.Prelude.{Option, Some, None, is_some}
use Prim.Native.Nat.{ℕ, zero, suc, ◌+◌, ◌*◌, ◌<◌, ◌≤◌}
use mathlib.Core.Path.{◌≡◌, refl, sym, ap, subst, ◌∙◌}
use mathlib.Core.Logic.{◌⊎◌, inl, inr}
use mathlib.Core.Bool.{Bool, true, false, ◌&&◌, ◌||◌}
use mathlib.Core.List.{List, [], ◌∷◌, ◌++◌, map, append_assoc, append-nil}
use mathlib.Core.Option.{none, some}
use native.Mathlib.Omega.{arith}
use lib.ListN.{length, get_or, get_elem?, drop, length-append, drop_of_length-le}
use lib.Seq.{length-sets}
use lib.Dec.{eqb}
use Rattle.reading.specs.Read.{pick, Read}
use Rattle.reading.specs.Limits.{max_list}
use Rattle.reading.specs.Text.{Name}
use Rattle.reading.specs.Combine.{list_of, optional}
use Rattle.reading.specs.Decl.{ConstructorVariant, read_constructor_variant}
use Rattle.reading.specs.Pattern.{Pattern, PatternVariant, read_pattern_variant, read_pattern}
use Rattle.reading.specs.Transition.{Transition}
use Rattle.reading.specs.Skip.{text_at}
use Rattle.reading.specs.Views.{PatternVariantAt, unit_pattern, struct_pattern}
use Rattle.reading.specs.declared.item.Tag.{Tag}
use Rattle.reading.proofs.Rules.{no}
use Rattle.reading.proofs.ExprLaws.{name_laws}
use Rattle.reading.proofs.Views.{pattern_at}
use Rattle.reading.proofs.CaseViews.{pattern_variant_at}
use Rattle.reading.proofs.Walks.{name_text}
use Rattle.typing.specs.Causes.{first_of}
use Rattle.typing.specs.Names.{eq_name, member, called, first_called}
use Rattle.typing.specs.Patterns.{declared_name, pattern_variant_name}
use Rattle.typing.specs.Table.{place_after, after_item, after_head, after_tag, Past}
use Rattle.typing.specs.First.{FirstVariant}
use Rattle.typing.specs.Lanes.{print}
use Rattle.typing.proofs.EnvLaws.{after_is, fields_head}
use Rattle.typing.proofs.FirstLaws.{found_no, found_yes}
use Rattle.typing.proofs.NameLaws.{eq_name_eq}
use Rattle.findings.specs.Scene.{Reads, field, Rows}
use Rattle.findings.specs.Classes.{Tabled}
use Rattle.findings.specs.Uses.{variant_names, is_bare, pattern_names, pattern_bare, named_by, bare_by, used_by, NamesAt, VariantsAt, variants_here, variants_none, AddsVariant, AddsUse, GroupPrint, UsesOf, HasVariant, IsUsed}
use Rattle.findings.specs.Variants.{VariantAt, Variants, put_variant, IsVariant}
use Rattle.findings.specs.declared.uses.Uses.{Uses}
use Rattle.findings.proofs.EachLaws.{get_some, drop_get}
use Rattle.findings.proofs.OptionLaws.{not_given, is_given}
use Rattle.findings.proofs.PairTests.{isn't}
use Rattle.findings.proofs.VariantLaws.{variant_put, variant_kept}

-- a name more, whose words go behind those of the others
get_append : {A : Type 0} (xs : List A) (y : A) (k : ℕ) (x : A) → get_elem? (xs ++ (y ∷ [])) k ≡ some x → ((k ≡ length xs) × (y ≡ x)) ⊎ ((k < length xs) × (get_elem? xs k ≡ some x))
get_append [] y zero x e = inl (refl, cc)
get_append [] y (suc k) x e = no (cc)
get_append (z ∷ xs) y zero x e = inr (omega arith, e)
get_append (z ∷ xs) y (suc k) x e = go (get_append xs y k x e)
  where
    go : ((k ≡ length xs) × (y ≡ x)) ⊎ ((k < length xs) × (get_elem? xs k ≡ some x)) → ((suc k ≡ suc (length xs)) × (y ≡ x)) ⊎ ((suc k < suc (length xs)) × (get_elem? xs k ≡ some x))
    go (inl (p, q)) = inl (ap suc p, q)
    go (inr (p, q)) = inr (omega arith, q)

pub named_more : (s table : List ℕ) (c : ℕ) (ns : List Name) (key : ℕ) (w : Name) → NamesAt s table c ns → 2 * c + 1 < length table → text_at s key ≡ w → NamesAt s (put_variant s key c table) (c + 1) (ns ++ (w ∷ []))
named_more s table c ns key w g h e = record {
  many = let m = g.many in omega (arith, length-append ns (w ∷ []));
  room = omega (arith, length-sets table (2 * c) (print 0 (text_at s key) ∷ key ∷ []));
  at = λ k x q. go k x (get_append ns w k x q);
}
  where
    go : (k : ℕ) (x : Name) → ((k ≡ length ns) × (w ≡ x)) ⊎ ((k < length ns) × (get_elem? ns k ≡ some x)) → VariantAt s (put_variant s key c table) k x
    go k x (inl (p, q)) = let i : k ≡ c = p ∙ sym g.many in rw i (variant_put s table key c h x (e ∙ q))
    go k x (inr (p, q)) = variant_kept s table key c h k x (let m = g.many in omega arith) (g.at k x q)

pub named_as : (s table : List ℕ) (c : ℕ) {xs : List Name} (ys : List Name) → xs ≡ ys → NamesAt s table c xs → NamesAt s table c ys
named_as s table c ys e g = subst (NamesAt s table c) e g

or_false_lem : (b : Bool) → b ≡ (b || false)
or_false_lem true = refl
or_false_lem false = refl

or_true : (b : Bool) → true ≡ (b || true)
or_true true = refl
or_true false = refl

-- the name of a pattern's variant stands after the case number
pattern_text : (s : List ℕ) {m c n : ℕ} {x : PatternVariant} → PatternVariantAt s m c x n → text_at s m ≡ pattern_variant_name x
unfolding pattern_variant_name
pattern_text s {m} (unit_pattern q) = name_text s m _ _ q
pattern_text s {m} (struct_pattern q r) = name_text s m _ _ q

variant_key : (s : List ℕ) (at : ℕ) (x : PatternVariant) → Reads read_pattern_variant s at x → text_at s (after_tag s at) ≡ pattern_variant_name x
unfolding place_after
variant_key s at x g = let v = pattern_variant_at s at x g.end g.is in ap (λ (m : Read Tag). text_at s (place_after m)) v.tagged ∙ pattern_text s v.fields

module _ (s : List ℕ) (at : ℕ) (table : List ℕ) (u : Uses) {b : Bool} (e : b ≡ eqb (get_or s at 0) 246) where
  pub variant_absent : b ≡ true → AddsVariant s at table u table (record { named = u.named; bare = true })
  unfolding variant_names is_bare
  variant_absent q = record {
    few = omega arith;
    names = λ w g ns n. rw (not_given read_pattern_variant s at g e q) (named_as s table u.named (ns ++ []) (sym (append-nil ns)) n);
    bare = λ w g. rw (not_given read_pattern_variant s at g e q) (or_true u.bare);
  }

  pub variant_present : {key : ℕ} {table' : List ℕ} → b ≡ false → u.named < 255 → length table ≡ 510 → key ≡ after_tag s at → table' ≡ put_variant s key u.named table → AddsVariant s at table u table' (record { named = u.named + 1; bare = u.bare })
  unfolding variant_names is_bare
  variant_present {key} {table'} q h l k t = record {
    few = omega arith;
    names = λ w g ns n.
        let v = is_given read_pattern_variant s at g e q in
        rw (v.is, t) (named_more s table u.named ns key (pattern_variant_name v.item) n (omega arith) (ap (text_at s) k ∙ variant_key s at v.item v.reads));
    bare = λ w g. let v = is_given read_pattern_variant s at g e q in rw v.is (or_false_lem u.bare);
  }

module _ (s : List ℕ) (at : ℕ) (g : Name) (table : List ℕ) (u : Uses) {name : ℕ} {text : Name} {b : Bool} (h : name ≡ after_head s at) (t : text ≡ text_at s name) (e : b ≡ eq_name text g) where
  group_test : (p : Pattern) (r : Reads read_pattern s at p) → b ≡ eq_name p.group g
  group_test p r =
      let v = pattern_at s at p r.end r.is in
      e ∙ ap (λ (x : Name). eq_name x g) (t ∙ ap (text_at s) (h ∙ fields_head 2 s at tt v.group v.opens) ∙ name_text s v.group p.group v.variant v.group_is)

  pub use_other : b ≡ false → AddsUse s at g table u table u
  unfolding pattern_names pattern_bare
  use_other q = record {
    few = omega arith;
    names = λ p r ns n. rw (sym (group_test p r) ∙ q) (named_as s table u.named (ns ++ []) (sym (append-nil ns)) n);
    bare = λ p r. rw (sym (group_test p r) ∙ q) (or_false_lem u.bare);
  }

  pub use_own : {variant : ℕ} {table' : List ℕ} {u' : Uses} → b ≡ true → Past s name variant → AddsVariant s variant table u table' u' → AddsUse s at g table u table' u'
  unfolding pattern_names pattern_bare
  use_own {variant} q o a = record {
    few = a.few;
    names = λ p r ns n. rw (sym (group_test p r) ∙ q) (a.names p.variant (there p r) ns n);
    bare = λ p r. rw (sym (group_test p r) ∙ q) (a.bare p.variant (there p r));
  }
    where
      there : (p : Pattern) → Reads read_pattern s at p → Reads (optional read_pattern_variant) s variant p.variant
      there p r =
          let v = pattern_at s at p r.end r.is in
          let i : name ≡ v.group = h ∙ fields_head 2 s at tt v.group v.opens in
          let j : variant ≡ v.variant = o.is ∙ ap (after_item s) i ∙ after_is name_laws s o.each v.group p.group v.variant v.group_is in
          record { end = r.end; is = rw j v.variant_is }

pub group_print : (s rows : List ℕ) (i : ℕ) {at name : ℕ} {text : Name} {r : ℕ} → at ≡ field rows i 2 → name ≡ after_head s at → text ≡ text_at s name → r ≡ print 0 text → GroupPrint s rows i r
group_print s rows i e h t q = q ∙ ap (print 0) (t ∙ ap (text_at s) (h ∙ ap (after_head s) e))

-- another print tells another group
use_apart : (s rows : List ℕ) (i : ℕ) (g : Name) (table : List ℕ) (u : Uses) {x mark : ℕ} → GroupPrint s rows i x → mark ≡ print 0 g → (x ≡ mark → ⊥) → AddsUse s (field rows i 2) g table u table u
use_apart s rows i g table u p e d = use_other s (field rows i 2) g table u refl refl refl (sym (isn't _ (λ y. d (p ∙ ap (print 0) (eq_name_eq _ g y) ∙ sym e))))

-- the patterns from number i on are still to be added
module _ (s rows : List ℕ) (count : ℕ) (g : Name) where
  pub record UsesLeft (table : List ℕ) (i : ℕ) (u : Uses) : Type 0 where
    pub few : u.named ≤ i
    pub names : (ts : List Transition) → Rows s rows ts → count ≡ length ts → (ns : List Name) × NamesAt s table u.named ns × (ns ++ named_by g (drop i ts) ≡ named_by g ts)
    pub bare : (ts : List Transition) → Rows s rows ts → count ≡ length ts → (u.bare || bare_by g (drop i ts)) ≡ bare_by g ts

  pub uses_start : (table : List ℕ) → UsesLeft table 0 (record { named = 0; bare = false })
  uses_start table = record {
    few = omega arith;
    names = λ ts w q. ([], record { many = refl; room = omega arith; at = λ k x e. no (cc) }, refl);
    bare = λ ts w q. refl;
  }

  or_or : (a b c : Bool) → ((a || b) || c) ≡ (a || (b || c))
  or_or true b c = refl
  or_or false b c = refl

  module _ (table : List ℕ) (i : ℕ) (u : Uses) (l : UsesLeft table i u) where
    uses_more : {table' : List ℕ} {u' : Uses} → i < count → AddsUse s (field rows i 2) g table u table' u' → UsesLeft table' (i + 1) u'
    uses_more {table'} {u'} h a = record {
      few = let x = a.few in let y = l.few in omega arith;
      names = λ ts w q.
          let t = get_some ts i (omega arith) in
          let d = drop_get ts i t.0 t.1 in
          let v = l.names ts w q in
          let p = t.0.pattern in
          (v.0 ++ pattern_names g p, a.names p (here ts w t) v.0 v.1, append_assoc v.0 (pattern_names g p) (named_by g (drop (i + 1) ts)) ∙ ap (λ (x : List Transition). v.0 ++ named_by g x) (sym d) ∙ v.2);
      bare = λ ts w q.
          let t = get_some ts i (omega arith) in
          let d = drop_get ts i t.0 t.1 in
          let p = t.0.pattern in
          ap (λ (b : Bool). b || bare_by g (drop (i + 1) ts)) (a.bare p (here ts w t)) ∙ or_or u.bare (pattern_bare g p) (bare_by g (drop (i + 1) ts)) ∙ ap (λ (x : List Transition). u.bare || bare_by g x) (sym d) ∙ l.bare ts w q;
    }
      where
        here : (ts : List Transition) → Rows s rows ts → (t : (x : Transition) × (get_elem? ts i ≡ some x)) → Reads read_pattern s (field rows i 2) t.0.pattern
        here ts w t = record { end = field rows i 3; is = (w.at i t.0 t.1).pattern_is }

    pub uses_done : count ≤ i → UsesOf s rows count g table u
    uses_done h = record {
      names = λ ts w q. let v = l.names ts w q in named_as s table u.named (named_by g ts) (sym (append-nil v.0) ∙ ap (λ (x : List Transition). v.0 ++ named_by g x) (sym (drop_of_length-le ts {i = i} (omega arith))) ∙ v.2) v.1;
      bare = λ ts w q. or_false_lem u.bare ∙ ap (λ (x : List Transition). u.bare || bare_by g x) (sym (drop_of_length-le ts {i = i} (omega arith))) ∙ l.bare ts w q;
    }

  -- one whose mark is another adds none
  pub uses_pass : (marks : List ℕ) {table : List ℕ} {i mark : ℕ} {u : Uses} → Tabled (GroupPrint s rows) count marks → mark ≡ print 0 g → UsesLeft table i u → i < count → (get_or marks i 0 ≡ mark → ⊥) → UsesLeft table (i + 1) u
  uses_pass marks {table} {i} {mark} {u} m e l h d = uses_more table i u l h (use_apart s rows i g table u (m.each i h) e d)

  pub uses_turn : {table : List ℕ} {i : ℕ} {u : Uses} {at : ℕ} {table' : List ℕ} {u' : Uses} → UsesLeft table i u → i < count → at ≡ field rows i 2 → AddsUse s at g table u table' u' → UsesLeft table' (i + 1) u'
  uses_turn {table} {i} {u} l h q a = uses_more table i u l h (rw q at a)

-- a variant among those of a list that was found
called_member : (w : Name) (xs : List ConstructorVariant) → first_called declared_name w xs ≡ none → member w (map declared_name xs) ≡ false
unfolding first_called called first_of member pick
called_member w [] e = refl
called_member w (x ∷ xs) e = go (eq_name (declared_name x) w) refl (called_member w xs)
  where
    go : (b : Bool) → eq_name (declared_name x) w ≡ b → (first_called declared_name w xs ≡ none → member w (map declared_name xs) ≡ false) → pick b true (member w (map declared_name xs)) ≡ false
    go true q r = let z = rw q at e in no (cc)
    go false q r = r (rw q at e)

called_some : (w : Name) (xs : List ConstructorVariant) (v : ConstructorVariant) → first_called declared_name w xs ≡ some v → member w (map declared_name xs) ≡ true
unfolding first_called called first_of member pick
called_some w [] v e = no (cc)
called_some w (x ∷ xs) v e = go (eq_name (declared_name x) w) refl (called_some w xs v)
  where
    go : (b : Bool) → eq_name (declared_name x) w ≡ b → (first_called declared_name w xs ≡ some v → member w (map declared_name xs) ≡ true) → pick b true (member w (map declared_name xs)) ≡ true
    go true q r = refl
    go false q r = r (rw q at e)

at_of : (s : List ℕ) {k : ℕ} {f : Option ℕ} {vs : List Name} → f ≡ Some k → VariantsAt s f vs → (xs : List ConstructorVariant) × (vs ≡ map declared_name xs) × Reads (list_of max_list read_constructor_variant) s k xs
at_of s {k} q (variants_here {k = j} {xs = xs} g) = let i : j ≡ k = cc in (xs, refl, subst (λ (y : ℕ). Reads (list_of max_list read_constructor_variant) s y xs) i g)
at_of s q variants_none = no (cc)

module _ (s : List ℕ) {f : Option ℕ} (w : Name) where
  pub variant_nowhere : f ≡ None → HasVariant s f w false
  unfolding member
  variant_nowhere q = record { of = λ vs g. go q g }
    where
      go : {vs : List Name} {f : Option ℕ} → f ≡ None → VariantsAt s f vs → false ≡ member w vs
      go q (variants_here g) = no (cc)
      go q variants_none = refl

  module _ {at : ℕ} {v : Option ℕ} (q : f ≡ Some at) (h : FirstVariant s at w v) where
    pub variant_found_lem : {k : ℕ} → v ≡ Some k → HasVariant s f w true
    variant_found_lem z = record {
      of = λ vs g.
          let x = at_of s q g in
          let y = found_yes (h.of x.0 x.2.end x.2.is) z in
          sym (ap (member w) x.1 ∙ called_some w x.0 y.0 y.3);
    }

    pub variant_missing : v ≡ None → HasVariant s f w false
    variant_missing z = record {
      of = λ vs g.
          let x = at_of s q g in
          sym (ap (member w) x.1 ∙ called_member w x.0 (found_no (h.of x.0 x.2.end x.2.is) z));
    }

    pub variant_some : {b : Bool} → b ≡ is_some v → HasVariant s f w b
    variant_some z = rw z (go v refl)
      where
        go : (x : Option ℕ) → v ≡ x → HasVariant s f w (is_some x)
        go None y = variant_missing y
        go (Some k) y = variant_found_lem y

module _ (s : List ℕ) (f : Option ℕ) (table : List ℕ) (bare : Bool) (at : ℕ) {w : Name} {p : ℕ} {b : Bool} (t : w ≡ text_at s at) (e : p ≡ print 0 w) (n : IsVariant s table at p b) where
  by_name : (x : Bool) → b ≡ x → (vs ns : List Name) → Variants s table ns → (x || (bare && member w vs)) ≡ used_by bare vs ns (text_at s at)
  by_name x q vs ns k = rw (sym t) (ap (λ (y : Bool). y || (bare && member w vs)) (sym q ∙ n.of ns w k (sym t) e))

  pub used_named : b ≡ true → IsUsed s f table bare at true
  used_named q = record { of = λ vs ns g k. by_name true q vs ns k }

  pub used_bare : {r : Bool} → b ≡ false → bare ≡ true → HasVariant s f w r → IsUsed s f table bare at r
  used_bare q z h = record { of = λ vs ns g k. h.of vs g ∙ ap (λ (y : Bool). y && member w vs) (sym z) ∙ by_name false q vs ns k }

  pub used_not : b ≡ false → bare ≡ false → IsUsed s f table bare at false
  used_not q z = record { of = λ vs ns g k. ap (λ (y : Bool). y && member w vs) (sym z) ∙ by_name false q vs ns k }
