-- The laws of data enums, from those of the fields of each case: one row for a case.
use Prim.Native.Nat.{ℕ, suc, ◌+◌, ◌<◌}
use mathlib.Core.Path.{◌≡◌, refl, sym, ap, ◌∙◌, subst, subst⁻¹}
use mathlib.Core.List.{List, ◌++◌}
use mathlib.Core.Bool.{Bool, true, false}
use native.Mathlib.Omega.{arith}
use lib.Dec.{eqb, ltb, lit<, T}
use borrow.Author.Tests.{eqb-true, eq-eqb, ne_eqb}
use Rattle.reading.specs.Read.{Reader, ok}
use Rattle.reading.specs.Item.{read_tag}
use Rattle.reading.specs.Combine.{Cases, sized, row, unknown, enum_of}
use Rattle.reading.specs.Encode.{enc_head, enc_case}
use Rattle.reading.specs.Items.{Items}
use Rattle.reading.specs.declared.fault.Fault.{Fault}
use Rattle.reading.specs.declared.fault.Fault.TheVariants.{Unexpected}
use Rattle.reading.specs.declared.item.Tag.{Tag}
use Rattle.reading.proofs.Rules.{pick_true, pick_false, bind_ok, map_ok}
use Rattle.reading.proofs.Gives.{Gives, gives_refused, gives_pick, gives_bind, gives_map}
use Rattle.reading.proofs.At.{At, at_join, at_split}
use Rattle.reading.proofs.HeadSound.{Bytes}
use Rattle.reading.proofs.Blames.{Blames, Inner, blames_refused, blames_pick, blames_bind, blames_map, unexpected}
use Rattle.reading.proofs.Items.{items_join, array_item, plain_item}
use Rattle.reading.proofs.Formats.{Is, Laws, Format}
use Rattle.reading.proofs.ItemLaws.{kind_sound, kind_complete, tag_kinds, tag_blames}

-- one or the other
unfoldable pub either : Bool → Type 0 → Type 0 → Type 0
either true P Q = P
either false P Q = Q

-- the array's head and the case number stand there
pub record TagAt (s : List ℕ) (at : ℕ) (t : Tag) (n : ℕ) : Type 0 where
  pub array : At s at (enc_head 4 t.count) t.place
  pub number : At s t.place (enc_head 0 t.case) n

-- so many items follow the case number
pub record Filled (s : List ℕ) (t : Tag) (n m : ℕ) : Type 0 where
  pub fields : ℕ
  pub count : t.count ≡ suc fields
  pub items : Items s fields n m

-- a value of one case: its fields' bytes, and that they are read
pub record Shown {A : Type 0} (enc : A → List ℕ) (read : Cases A) (case : ℕ) (a : A) : Type 0 where
  pub items : ℕ
  pub fields : List ℕ
  pub some : items ≡ 0 → ⊥
  pub small : (items < 100) × (case < 100)
  pub bytes : enc a ≡ enc_case items case fields
  pub reads : (s : List ℕ) (at place n m : ℕ) → At s n fields m → read s (record { start = at; count = items; case = case; place = place }) n ≡ ok a m

-- what a value says: its bytes, and its limits
pub record Said : Type 1 where
  pub bytes : List ℕ
  pub limits : Type 0

module _ {A : Type 0} (enc : A → List ℕ) (Within : A → Type 0) (D : List ℕ → ℕ → Type 0) where
  -- some cases of a data enum; Has k a: the value a is of the case k, which is one of them
  pub record Rows : Type 1 where
    pub read : Cases A
    pub Has : ℕ → A → Type 0
    pub sound : (s : List ℕ) → Bytes s → (at : ℕ) (t : Tag) (n : ℕ) → TagAt s at t n → Gives (Is Within enc s at) (read s t n)
    pub complete : (case : ℕ) (a : A) → Has case a → Within a → Shown enc read case a
    pub items : (s : List ℕ) (t : Tag) (n : ℕ) → Gives (λ _ m. Filled s t n m) (read s t n)
    pub blames : (s : List ℕ) (t : Tag) (n : ℕ) → Blames (Inner (D s)) (read s t n)

-- what holds of the fields, where case and count are right, holds of the value
pub row_gives : {X A : Type 0} (k items : ℕ) (F : Reader X) (make : X → A) (rest : Cases A) (P : A → ℕ → Type 0) (s : List ℕ) (t : Tag) (n : ℕ)
    → (t.case ≡ k → t.count ≡ items → (x : X) (m : ℕ) → F s n ≡ ok x m → P (make x) m) → Gives P (rest s t n) → Gives P (row k items F make rest s t n)
unfolding row sized
row_gives k items F make rest P s t n h r =
    gives_pick P _ _ _ (λ q. gives_map P make _ (gives_pick _ _ _ _ (λ c. h (eqb-true _ _ q) (eqb-true _ _ c)) (λ _. gives_refused _ _ _))) (λ _. r)

-- and so for what is refused
pub row_blames : {X A : Type 0} (k items : ℕ) (F : Reader X) (make : X → A) (rest : Cases A) (P : Fault → ℕ → Type 0) (s : List ℕ) (t : Tag) (n : ℕ)
    → P Unexpected t.start → (t.case ≡ k → t.count ≡ items → Blames P (F s n)) → Blames P (rest s t n) → Blames P (row k items F make rest s t n)
unfolding row sized
row_blames k items F make rest P s t n u h r =
    blames_pick P _ _ _ (λ q. blames_map P make _ (blames_pick P _ _ _ (λ c. h (eqb-true _ _ q) (eqb-true _ _ c)) (λ _. blames_refused P _ _ u))) (λ _. r)

module _ {A : Type 0} (s : List ℕ) (t : Tag) (n : ℕ) where
  pub none_gives : (P : A → ℕ → Type 0) → Gives P (unknown s t n)
  unfolding unknown
  none_gives P = gives_refused P _ _

  pub none_blames : {D : ℕ → Type 0} → Blames {A = A} (Inner D) (unknown s t n)
  unfolding unknown
  none_blames {D} = blames_refused (Inner D) _ _ unexpected

module _ {A : Type 0} {enc : A → List ℕ} {Within : A → Type 0} {D : List ℕ → ℕ → Type 0} where
  -- no case
  abbrev pub none : Rows enc Within D
  none = record {
    read = unknown;
    Has = λ _ _. ⊥;
    sound = λ s B at t n h. none_gives s t n _;
    complete = λ case a h w. absurd h;
    items = λ s t n. none_gives s t n _;
    blames = λ s t n. none_blames s t n;
  }

  -- the case k with its fields, then the others
  module _ {X : Type 0} (k : ℕ) (F : Format D X) (make : X → A)
      (says : (x : X) → ◌≡◌ {A = Said} (record { bytes = enc (make x); limits = Within (make x) }) (record { bytes = enc_case (suc F.count) k (F.enc x); limits = F.Within x }))
      (small : T (ltb (F.count + k) 99)) (rest : Rows enc Within D) where
    abbrev pub row_read : Cases A
    row_read = row k (suc F.count) F.read make rest.read

    pub row_sound : (s : List ℕ) → Bytes s → (at : ℕ) (t : Tag) (n : ℕ) → TagAt s at t n → Gives (Is Within enc s at) (row_read s t n)
    row_sound s B at t n h = row_gives _ _ _ _ _ (Is Within enc s at) s t n (λ q c x m e.
        let i = F.laws.sound s B n h.number.fits x m e in
        let a : At s at (enc_case (suc F.count) k (F.enc x)) m =
        at_join (at_join (subst (λ (z : ℕ). At s at (enc_head 4 z) t.place) c h.array) (subst (λ (z : ℕ). At s t.place (enc_head 0 z) n) q h.number)) i.there in
        record {
          within = subst⁻¹ (λ (z : Said). z.limits) (says x) i.within;
          there = subst⁻¹ (λ (z : Said). At s at z.bytes m) (says x) a;
        }) (rest.sound s B at t n h)

    pub row_items : (s : List ℕ) (t : Tag) (n : ℕ) → Gives (λ _ m. Filled s t n m) (row_read s t n)
    row_items s t n = row_gives _ _ _ _ _ (λ _ m. Filled s t n m) s t n (λ q c x m e. record { fields = F.count; count = c; items = F.laws.items s n x m e }) (rest.items s t n)

    pub rows_blame : (s : List ℕ) (t : Tag) (n : ℕ) → Blames (Inner (D s)) (row_read s t n)
    rows_blame s t n = row_blames _ _ _ _ _ (Inner (D s)) s t n unexpected (λ _ _. F.laws.blames s n) (rest.blames s t n)

    abbrev pub Here : A → Type 0
    Here a = (x : X) × (make x ≡ a)

    pub row_shown : (case : ℕ) (a : A) (b : Bool) → eqb case k ≡ b → either b (Here a) (rest.Has case a) → Within a → Shown enc row_read case a
    unfolding either row sized
    row_shown case a true q (x, e) w =
        let c : case ≡ k = eqb-true _ _ q in
        let f : F.count + k < 99 = lit< small in
        let l : F.Within x = subst (λ (z : Said). z.limits) (says x) (subst⁻¹ Within e w) in
        record {
          items = suc F.count;
          fields = F.enc x;
          some = λ z. omega arith;
          small = (omega arith, omega arith);
          bytes = sym (ap enc e) ∙ ap (λ (z : Said). z.bytes) (says x) ∙ ap (λ (z : ℕ). enc_case (suc F.count) z (F.enc x)) (sym c);
          reads = λ s at place n m h. rw (q, pick_true, eq-eqb (suc F.count) (suc F.count) refl, pick_true, F.laws.complete s n x m l h, map_ok, e);
        }
    row_shown case a false q h w =
        let r = rest.complete case a h w in
        record {
          items = r.items;
          fields = r.fields;
          some = r.some;
          small = r.small;
          bytes = r.bytes;
          reads = λ s at place n m h. rw (q, pick_false, r.reads s at place n m h);
        }

    abbrev pub case : Rows enc Within D
    case = record {
      read = row_read;
      Has = λ case a. either (eqb case k) (Here a) (rest.Has case a);
      sound = row_sound;
      complete = λ case a. row_shown case a (eqb case k) refl;
      items = row_items;
      blames = rows_blame;
    }

  -- a data enum: its cases, and of which case each value is
  module _ (C : Rows enc Within D) (is : (a : A) → (k : ℕ) × C.Has k a) where
    enum_complete : (s : List ℕ) (at : ℕ) (x : A) (n : ℕ) → Within x → At s at (enc x) n → enum_of C.read s at ≡ ok x n
    unfolding enum_of read_tag
    enum_complete s at x n w a =
        let o = C.complete (is x).0 x (is x).1 w in
        let b : At s at (enc_case o.items (is x).0 o.fields) n = subst (λ (z : List ℕ). At s at z n) o.bytes a in
        let k = at_split (enc_head 4 o.items ++ enc_head 0 (is x).0) o.fields b in
        let j = at_split (enc_head 4 o.items) (enc_head 0 (is x).0) k.0 in
        rw (
          kind_complete s 4 at o.items _ (omega arith) (omega (arith, o.small.0)) j.0,
          bind_ok,
          ne_eqb o.items 0 o.some,
          pick_false,
          kind_complete s 0 _ (is x).0 _ (omega arith) (omega (arith, o.small.1)) j.1,
          bind_ok,
          bind_ok,
          o.reads s at _ _ n k.1,
        )

    pub enum_laws : Laws (enum_of C.read) enc Within 1 D
    unfolding enum_of
    enum_laws = record {
      sound = λ s B at _. gives_bind _ _ _ λ t n e.
          let h = tag_kinds s at t n e in
          C.sound s B at t n (record { array = (kind_sound s B 4 at _ _ h.array).there; number = (kind_sound s B 0 _ _ n h.number).there });
      complete = enum_complete;
      items = λ s at. gives_bind _ _ _ λ t n e x m q.
          let h = tag_kinds s at t n e in
          let f = C.items s t n x m q in
          let c : 1 + f.fields ≡ t.count = omega (arith, f.count) in
          array_item h.array (subst (λ (z : ℕ). Items s z t.place m) c (items_join (plain_item 0 refl refl h.number) f.items));
      blames = λ s at. blames_bind (Inner (D s)) _ _ (tag_blames s at) λ t n _. C.blames s t n;
    }
