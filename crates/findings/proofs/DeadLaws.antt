-- A variant is used by a transition exactly when it is among the names that patterns of its group give, or one gives none and the first
-- group has it; and a note for each that is not, group by group.
use Prim.Native.Nat.{ℕ, suc, ◌+◌, ◌-◌, ◌*◌, ◌/◌, ◌<◌, ◌≤◌}
use mathlib.Core.Path.{◌≡◌, refl, sym, ap, subst, ◌∙◌}
use mathlib.Core.Bool.{Bool, true, false, cond, not, ◌&&◌, ◌||◌}
use mathlib.Core.List.{List, [], ◌∷◌, ◌++◌, map}
use mathlib.Core.Option.{Option, none, some}
use native.Mathlib.Omega.{arith}
use lib.ListN.{length, get_or, take}
use Rattle.reading.specs.Read.{pick}
use Rattle.reading.specs.Limits.{max_list}
use Rattle.reading.specs.Item.{read_count}
use Rattle.reading.specs.Text.{Name}
use Rattle.reading.specs.Decl.{ConstructorGroup, read_constructor_variant}
use Rattle.reading.specs.Pattern.{PatternVariant}
use Rattle.reading.specs.Transition.{Transition}
use Rattle.reading.specs.Skip.{text_at}
use Rattle.reading.specs.Link.{answer}
use Rattle.reading.specs.declared.cursor.Cursor.{Cursor}
use Rattle.reading.proofs.DeclLaws.{constructor_variant_laws}
use Rattle.typing.specs.Names.{eq_name, member, first_called}
use Rattle.typing.specs.Patterns.{declared_name, pattern_variant_name}
use Rattle.typing.specs.Table.{after_tag, Past}
use Rattle.typing.proofs.EnvLaws.{after_is}
use Rattle.typing.proofs.FirstLaws.{variant_text}
use Rattle.findings.specs.Lists.{Placed, placed, any, each}
use Rattle.findings.specs.Finding.{Note, note, noted}
use Rattle.typing.specs.First.{group_name, GroupsAt, GroupFound, group_here, group_nothing, FirstVariants}
use Rattle.findings.specs.Mentions.{group_variants, variant_used}
use Rattle.findings.specs.Warnings.{uses_event, dead_in, dead}
use Rattle.findings.specs.Noting.{Noted}
use Rattle.findings.specs.Scene.{Rows}
use Rattle.findings.specs.Promises.{at_place}
use Rattle.findings.specs.WarningPromises.{NotesDead}
use Rattle.findings.specs.Uses.{variant_names, is_bare, pattern_names, pattern_bare, named_by, bare_by, used_by, NamesAt, VariantsAt, variants_here, variants_none, UsesOf, IsUsed, GroupKnown, unused_variant, NotesVariant, NotesVariants, NotesGroup, NotesGroups}
use Rattle.findings.specs.Variants.{Variants}
use Rattle.findings.specs.declared.uses.Uses.{Uses}
use Rattle.findings.proofs.NoteLaws.{note_as}
use Rattle.findings.proofs.EachLaws.{Left, left_all, get_some, each_from, each_turn, each_done, Walking, walk_start, walk_refused, walk_more, walk_done}
use Rattle.findings.proofs.ListLaws.{each_cong}
use Rattle.findings.proofs.VariantLaws.{variants_front}
-- the transitions that use a variant, by what their patterns give
use Rattle.std.specs.Prelude.{Result, Option as Maybe, Ok, Err}
use Rattle.reading.specs.declared.fault.Refusal.{Refusal}

absent_use : (a n b : Bool) → (a || (n || (b && a))) ≡ (n || a)
absent_use true true b = refl
absent_use true false b = refl
absent_use false true b = refl
absent_use false false true = refl
absent_use false false false = refl

present_use : (e n x : Bool) → (e || (n || x)) ≡ (pick e true n || x)
unfolding pick
present_use true n x = refl
present_use false n x = refl

same_use : (n : Bool) → (n || false) ≡ n
same_use true = refl
same_use false = refl

sole_use : (e n : Bool) → pick (pick e true false) true n ≡ pick e true n
unfolding pick
sole_use true n = refl
sole_use false n = refl

module _ (gs : List ConstructorGroup) (g v : Name) where
  uses_any : (ts : List Transition) → any (uses_event gs g v) ts ≡ used_by (bare_by g ts) (group_variants (first_called group_name g gs)) (named_by g ts) v
  unfolding uses_event variant_used pattern_names pattern_bare variant_names is_bare member pick
  uses_any [] = refl
  uses_any (t ∷ ts) = go (eq_name t.pattern.group g) t.pattern.variant (uses_any ts)
    where
      vs : List Name
      vs = group_variants (first_called group_name g gs)

      go : (b : Bool) (w : Option PatternVariant) → any (uses_event gs g v) ts ≡ used_by (bare_by g ts) vs (named_by g ts) v → (b && variant_used vs w v || any (uses_event gs g v) ts) ≡ used_by (b && is_bare w || bare_by g ts) vs (cond b (variant_names w) [] ++ named_by g ts) v
      go false w i = i
      go true none i = ap (λ (x : Bool). member v vs || x) i ∙ absent_use (member v vs) (member v (named_by g ts)) (bare_by g ts)
      go true (some w) i = ap (λ (x : Bool). eq_name (pattern_variant_name w) v || x) i ∙ present_use (eq_name (pattern_variant_name w) v) (member v (named_by g ts)) (bare_by g ts && member v vs)

-- what is given of each entry, where entries are told otherwise
each_placed : {A B : Type 0} (d : A → B) (f : Placed B → List Note) (k : ℕ) (xs : List A) → each (λ (p : Placed A). f (at_place p.place (d p.item))) (placed k xs) ≡ each f (placed k (map d xs))
each_placed d f k [] = refl
each_placed d f k (x ∷ xs) = ap (λ (l : List Note). f (at_place k (d x)) ++ l) (each_placed d f (suc k) xs)

-- the variants of the first group of a name
found_variants : {s : List ℕ} {f : Maybe ℕ} {o : Option ConstructorGroup} → GroupFound s f o → VariantsAt s f (group_variants o)
unfolding group_variants
found_variants (group_here e) = variants_here (record { end = _; is = e })
found_variants group_nothing = variants_none

-- a variant
pub variant_noted : (s : List ℕ) (owner : ℕ) (o : List ℕ) (skip n r : ℕ) (o' : List ℕ) (found : Maybe ℕ) (table : List ℕ) (bare : Bool) (g at j : ℕ) {key : ℕ} {used : Bool} → key ≡ after_tag s at → IsUsed s found table bare key used → Noted owner o skip n (noted (not used) (note 22 g j 0)) r o' → NotesVariant s owner o skip n r o' found table bare g at j
variant_noted s owner o skip n r o' found table bare g at j k i p = record {
  of = λ h x q.
      let w = ap (text_at s) k ∙ variant_text s at x q.end q.is in
      note_as owner (unused_variant bare g h (at_place j x)) (ap (λ (b : Bool). noted (not b) (note 22 g j 0)) (i.of h.variants h.names h.variants_at h.named ∙ ap (used_by bare h.variants h.names) w)) p;
}

-- variants, one after the other
module _ (s : List ℕ) (owner : ℕ) (o : List ℕ) (skip n : ℕ) (found : Maybe ℕ) (table : List ℕ) (bare : Bool) (g at : ℕ) where
  abbrev pub VariantsLeft : (count k j r : ℕ) → List ℕ → Type 0
  VariantsLeft = Walking read_constructor_variant (unused_variant {s = s} {found = found} {table = table} bare g) s max_list at owner o skip n

  module _ {a : Result (ℕ × Cursor) Refusal} (e : a ≡ answer (read_count max_list s at)) where
    pub variants_refused : {t : Refusal} → a ≡ Err t → NotesVariants s owner o skip n n o found table bare g at
    variants_refused q = record { of = λ h xs r. walk_refused read_constructor_variant (unused_variant {s = s} {found = found} {table = table} bare g) s max_list at owner o skip n e q xs r }

    pub variants_start : {count : ℕ} {c : Cursor} → a ≡ Ok (count, c) → VariantsLeft count c.at 0 n o
    variants_start q = walk_start read_constructor_variant (unused_variant {s = s} {found = found} {table = table} bare g) s max_list at owner o skip n e q

  module _ {count k j r : ℕ} {o' : List ℕ} (w : VariantsLeft count k j r o') where
    pub variants_more : {k' r' : ℕ} {o'' : List ℕ} → j < count → NotesVariant s owner o' skip r r' o'' found table bare g k j → Past s k k' → VariantsLeft count k' (j + 1) r' o''
    variants_more b p t = walk_more read_constructor_variant (unused_variant {s = s} {found = found} {table = table} bare g) s max_list at owner o skip n w b p.of (λ x e q. t.is ∙ after_is constructor_variant_laws s t.each k x e q)

    pub variants_done : count ≤ j → NotesVariants s owner o skip n r o' found table bare g at
    variants_done b = record { of = λ h xs q. walk_done read_constructor_variant (unused_variant {s = s} {found = found} {table = table} bare g) s max_list at owner o skip n w b h xs q }

-- by the first words of a table
pub front_noted : (s : List ℕ) (owner : ℕ) (o : List ℕ) (skip n r : ℕ) (o' : List ℕ) (found : Maybe ℕ) (table : List ℕ) (k : ℕ) (bare : Bool) (g at : ℕ) → NotesVariants s owner o skip n r o' found (take (k - 0) table) bare g at → NotesVariants s owner o skip n r o' found (take k table) bare g at
front_noted s owner o skip n r o' found table k bare g at p = let z : k - 0 ≡ k = omega arith in rw z at p

-- a group
pub group_noted : (s : List ℕ) (owner : ℕ) (o : List ℕ) (skip n r : ℕ) (o' rows : List ℕ) (count : ℕ) (groups : List ℕ) (g : ℕ) {text text₂ : Name} {table : List ℕ} {u : Uses} {found : Maybe ℕ} → text ≡ text_at s (get_or groups (2 * g) 0) → UsesOf s rows count text table u → text₂ ≡ text_at s (get_or groups (2 * g) 0) → FirstVariants s groups text₂ found → NotesVariants s owner o skip n r o' found (take (2 * u.named) table) u.bare g (get_or groups (2 * g + 1) 0) → NotesGroup s owner o skip n r o' rows count groups g
unfolding dead_in group_variants
group_noted s owner o skip n r o' rows count groups g {text} {text₂} {table} {u} {found} t y t₂ z p = record {
  of = λ gs x ts c e w q.
      let a : text ≡ x.name = t ∙ c.name_is g x e in
      let b : text₂ ≡ x.name = t₂ ∙ c.name_is g x e in
      let h : GroupKnown s found (take (2 * u.named) table) = record {
        variants = group_variants (first_called group_name x.name gs);
        names = named_by x.name ts;
        variants_at = found_variants (subst (λ (v : Name). GroupFound s found (first_called group_name v gs)) b (z.of gs c));
        named = front (named_by x.name ts) (subst (λ (v : Name). NamesAt s table u.named (named_by v ts)) a (y.names ts w q));
      } in
      let m : u.bare ≡ bare_by x.name ts = y.bare ts w q ∙ ap (λ (v : Name). bare_by v ts) a in
      note_as owner _
      (each_cong (placed 0 x.variants) (λ v. ap (λ (k : Bool). noted (not (used_by k h.variants h.names (declared_name v.item))) (note 22 g v.place 0)) m ∙ ap (λ (k : Bool). noted (not k) (note 22 g v.place 0)) (sym (uses_any gs x.name (declared_name v.item) ts)))
      ∙ each_placed declared_name (λ v. noted (not (any (uses_event gs x.name v.item) ts)) (note 22 g v.place 0)) 0 x.variants)
      (p.of h x.variants (record { end = (c.variants_are g x e).0; is = (c.variants_are g x e).1 }));
}
  where
    front : (ns : List Name) → NamesAt s table u.named ns → Variants s (take (2 * u.named) table) ns
    front ns n = variants_front s table ns n.many refl n.room n.at

-- groups, one after the other
module _ (s : List ℕ) (owner : ℕ) (o : List ℕ) (skip n : ℕ) (rows : List ℕ) (count : ℕ) (groups : List ℕ) (many : ℕ) where
  pub record GroupsLeft (g r : ℕ) (o' : List ℕ) : Type 0 where
    pub of : (gs : List ConstructorGroup) (ts : List Transition) → GroupsAt s groups gs → many ≡ length gs → Rows s rows ts → count ≡ length ts → Left owner o skip n (dead gs ts) r o' (each_from (dead_in gs ts) g gs)

  pub groups_start : GroupsLeft 0 n o
  unfolding dead
  groups_start = record { of = λ gs ts c m w q. left_all owner o skip n (dead gs ts) }

  module _ (g r : ℕ) {o' : List ℕ} (l : GroupsLeft g r o') where
    pub groups_more : {r' : ℕ} {o'' : List ℕ} → g < many → NotesGroup s owner o' skip r r' o'' rows count groups g → GroupsLeft (g + 1) r' o''
    groups_more h p = record {
      of = λ gs ts c m w q.
          let x = get_some gs g (omega arith) in
          each_turn (dead_in gs ts) g gs x.0 x.1 (l.of gs ts c m w q) (p.of gs x.0 ts c x.1 w q);
    }

    pub groups_done : many ≤ g → NotesGroups s owner o skip n r o' rows count groups many
    groups_done h = record { of = λ gs ts c m w q. each_done (dead_in gs ts) g gs (omega arith) (l.of gs ts c m w q) }

pub dead_noted : (s : List ℕ) (owner : ℕ) (o : List ℕ) (skip n r : ℕ) (o' rows : List ℕ) (count : ℕ) (events : List ℕ) {many : ℕ} → many ≡ length events / 2 → NotesGroups s owner o skip n r o' rows count events many → NotesDead s owner o skip n r o' rows count events
dead_noted s owner o skip n r o' rows count events m p = record { of = λ gs ts g y q. let i = g.room in p.of gs ts g (omega arith) y q }
