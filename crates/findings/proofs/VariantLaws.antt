-- A table of names while it is filled, name by name; and a name looked up in it: equal names have equal prints.
use Prim.Native.Nat.{ℕ, zero, suc, ◌+◌, ◌*◌, ◌/◌, ◌<◌, ◌≤◌}
use mathlib.Core.Path.{◌≡◌, refl, sym, ap, ap₂, subst, ◌∙◌}
use mathlib.Core.List.{List, [], ◌∷◌}
use mathlib.Core.Bool.{Bool, true, false, not}
use mathlib.Core.Logic.{◌≢◌}
use mathlib.Core.Option.{some}
use native.Mathlib.Omega.{arith}
use native.Mathlib.Numerals.{add-one}
use borrow.Author.Tests.{ltb-true, ltb-false}
use lib.Dec.{ltb}
use lib.ListN.{length, drop, take, get_or, get_elem?, set, length-set, drop_of_length-le}
use lib.Seq.{sets, length-take-le, get_or-take, get_or-set_same, get_or-set_other}
use Rattle.reading.specs.Read.{pick}
use Rattle.reading.specs.Limits.{max_list}
use Rattle.reading.specs.Item.{read_count}
use Rattle.reading.specs.Text.{Name, read_name}
use Rattle.reading.specs.Combine.{list_of}
use Rattle.reading.specs.Decl.{read_names}
use Rattle.reading.specs.Skip.{text_at}
use Rattle.reading.specs.Views.{Rest}
use Rattle.reading.specs.Link.{answer}
use Rattle.reading.specs.declared.cursor.Cursor.{Cursor}
use Rattle.reading.proofs.Rules.{no, by}
use Rattle.reading.proofs.Answers.{got, out}
use Rattle.reading.proofs.ExprLaws.{name_laws}
use Rattle.reading.proofs.ListViews.{list_at, rest_all, turn}
use Rattle.reading.proofs.Walks.{name_text}
use Rattle.typing.specs.Names.{eq_name, member}
use Rattle.typing.specs.Table.{Past}
use Rattle.typing.specs.Lanes.{print}
use Rattle.typing.proofs.EnvLaws.{after_is}
use Rattle.typing.proofs.NameLaws.{eq_name_eq}
use Rattle.findings.specs.Finding.{note, noted}
use Rattle.findings.specs.Noting.{Noted}
use Rattle.findings.specs.Errors.{unknown_state}
use Rattle.findings.specs.Scene.{Reads, StatesAt, states_here, states_none}
use Rattle.findings.specs.Variants.{VariantAt, Variants, put_variant, NamesFilled, StatesFilled, StandsAt, IsVariant, Hinted}
use Rattle.findings.specs.Promises.{NotesVariant}
use Rattle.findings.proofs.PlaceLaws.{entry_at, entry_below, drop_entry}
use Rattle.findings.proofs.NoteLaws.{note_as}
use Rattle.findings.proofs.PairTests.{isn't}
-- the words of number j, and those before them
use Rattle.std.specs.Prelude.{Result, Option, Some, None, Ok, Err}
use Rattle.reading.specs.declared.fault.Refusal.{Refusal}

module _ (p : List ℕ) (j : ℕ) (h : 2 * j + 1 < length p) (a b : ℕ) where
  put_print : get_or (sets p (2 * j) (a ∷ b ∷ [])) (2 * j) 0 ≡ a
  put_print =
      let x : 2 * j ≢ suc (2 * j) = λ q. omega arith in
      get_or-set_other (set p (2 * j) a) (suc (2 * j)) (2 * j) b 0 x ∙ get_or-set_same p (2 * j) a 0 (omega arith)

  put_place : get_or (sets p (2 * j) (a ∷ b ∷ [])) (2 * j + 1) 0 ≡ b
  put_place =
      let z : 2 * j + 1 ≡ suc (2 * j) = omega arith in
      rw z (get_or-set_same (set p (2 * j) a) (suc (2 * j)) b 0 (omega (arith, length-set p (2 * j) a)))

  put_before : (k : ℕ) → k < 2 * j → get_or (sets p (2 * j) (a ∷ b ∷ [])) k 0 ≡ get_or p k 0
  put_before k l =
      let x : k ≢ suc (2 * j) = λ q. omega arith in
      let y : k ≢ 2 * j = λ q. omega arith in
      get_or-set_other (set p (2 * j) a) (suc (2 * j)) k b 0 x ∙ get_or-set_other p (2 * j) k a 0 y

pub put_variant_lem : (s table : List ℕ) (at j : ℕ) {p : ℕ} {x : List ℕ} → p ≡ print 0 x → x ≡ text_at s at → set (set table (2 * j) p) (2 * j + 1) at ≡ put_variant s at j table
put_variant_lem s table at j e q = rw (e, q, add-one)

-- the table with the name at k as number j
module _ (s table : List ℕ) (k j : ℕ) (h : 2 * j + 1 < length table) where
  pub variant_put : (w : Name) → text_at s k ≡ w → VariantAt s (put_variant s k j table) j w
  variant_put w e = record {
    print_is = put_print table j h _ _ ∙ ap (print 0) e;
    name_is = ap (text_at s) (put_place table j h _ _) ∙ e;
  }

  pub variant_kept : (i : ℕ) (w : Name) → i < j → VariantAt s table i w → VariantAt s (put_variant s k j table) i w
  variant_kept i w l y = record {
    print_is = put_before table j h _ _ (2 * i) (omega arith) ∙ y.print_is;
    name_is = ap (text_at s) (put_before table j h _ _ (2 * i + 1) (omega arith)) ∙ y.name_is;
  }

-- the first words of a table
pub variants_front : (s table : List ℕ) (vs : List Name) {many words : ℕ} → many ≡ length vs → words ≡ 2 * many → words ≤ length table → ((i : ℕ) (x : Name) → get_elem? vs i ≡ some x → VariantAt s table i x) → Variants s (take words table) vs
variants_front s table vs {many} {words} m e room f = record {
  room = length-take-le words table room ∙ e ∙ ap (λ (x : ℕ). 2 * x) m;
  at = λ i x g.
      let l = entry_below vs i x g in
      let y = f i x g in
      record {
        print_is = get_or-take words table (2 * i) 0 (omega arith) ∙ y.print_is;
        name_is = ap (text_at s) (get_or-take words table (2 * i + 1) 0 (omega arith)) ∙ y.name_is;
      };
}

module _ (s : List ℕ) (at : ℕ) where
  -- the names before number j have their words; name number j stands at k
  pub record Listing (vs : List Name) (many k j : ℕ) (table : List ℕ) : Type 0 where
    pub end : ℕ
    pub as_many : many ≡ length vs
    pub rest : Rest read_name s k j vs end
    pub before : (i : ℕ) (v : Name) → i < j → get_elem? vs i ≡ some v → VariantAt s table i v

  pub record VariantsSoFar (many k j : ℕ) (table : List ℕ) : Type 0 where
    pub of : (vs : List Name) → Reads (list_of max_list read_name) s at vs → Listing vs many k j table

  module _ {a : Result (ℕ × Cursor) Refusal} (e : a ≡ answer (read_count max_list s at)) (table : List ℕ) where
    pub names_refused : {t : Refusal} → a ≡ Err t → NamesFilled s at 0 table
    names_refused q = record { of = λ vs g. let l = list_at read_name s max_list at vs g.end g.is in no (let x = out _ e q in let y = l.opens in cc) }

    pub names_start : {many : ℕ} {c : Cursor} → a ≡ Ok (many, c) → VariantsSoFar many c.at 0 table
    names_start {many} {c} q = record {
      of = λ vs g.
          let l = list_at read_name s max_list at vs g.end g.is in
          let x = got _ e q in
          let y = l.opens in
          let u : many ≡ length vs = cc in
          let v : l.first ≡ c.at = cc in
          record {
            end = g.end;
            as_many = u;
            rest = subst (λ (k : ℕ). Rest read_name s k 0 vs g.end) v (rest_all read_name s l);
            before = λ i w h. absurd (omega arith);
          };
    }

  module _ {many k j : ℕ} {table : List ℕ} (w : VariantsSoFar many k j table) where
    pub names_more : {k' : ℕ} {table' : List ℕ} → j < many → many ≤ 255 → 510 ≤ length table → table' ≡ put_variant s k j table → Past s k k' → VariantsSoFar many k' (j + 1) table'
    names_more {k'} {table'} b few room e t = record { of = λ vs g. go vs (w.of vs g) }
      where
        go : (vs : List Name) → Listing vs many k j table → Listing vs many k' (j + 1) table'
        go vs v =
            let m = v.as_many in
            let u = turn read_name s (omega arith) v.rest in
            record {
              end = v.end;
              as_many = v.as_many;
              rest = subst (λ (x : ℕ). Rest read_name s x (j + 1) vs v.end) (sym (t.is ∙ after_is name_laws s t.each k u.entry u.end u.here)) u.next;
              before = λ i x l f. by (ltb i j) (λ q. earlier i x (ltb-true i j q) f) (λ q. let y = ltb-false i j q in here i x (omega arith) f);
            }
          where
            bound : 2 * j + 1 < length table
            bound = omega arith

            here : (i : ℕ) (x : Name) → i ≡ j → get_elem? vs i ≡ some x → VariantAt s table' i x
            here i x q f =
                let m = v.as_many in
                let u = turn read_name s (omega arith) v.rest in
                let d = drop_entry vs j x (rw q at f) in
                let z = u.split in
                let y : u.entry ≡ x = cc in
                rw (q, e) (variant_put s table k j bound x (name_text s k u.entry u.end u.here ∙ y))

            earlier : (i : ℕ) (x : Name) → i < j → get_elem? vs i ≡ some x → VariantAt s table' i x
            earlier i x l f = rw e (variant_kept s table k j bound i x l (v.before i x l f))

    pub names_done : {words : ℕ} → many ≤ j → many ≤ 255 → 510 ≤ length table → words ≡ 2 * many → NamesFilled s at words table
    names_done {words} b few room e = record {
      of = λ vs g.
          let v = w.of vs g in
          let m = v.as_many in
          variants_front s table vs m e (omega arith) (λ i x f. let l = entry_below vs i x f in v.before i x (omega arith) f);
    }

-- the State variants
module _ (s : List ℕ) {found : Option ℕ} (table : List ℕ) where
  pub states_unfilled : found ≡ None → StatesFilled s found 0 table
  states_unfilled q = record { of = λ vs g. go q g }
    where
      go : {f : Option ℕ} {vs : List Name} → f ≡ None → StatesAt s f vs → Variants s (take 0 table) vs
      go q (states_here g) = no (cc)
      go q states_none = record { room = refl; at = λ j v e. no (cc) }

  pub states_filled : {at words : ℕ} → found ≡ Some at → NamesFilled s at words table → StatesFilled s found words table
  unfolding read_names
  states_filled {at} {words} q p = record { of = λ vs g. go q g }
    where
      go : {f : Option ℕ} {vs : List Name} → f ≡ Some at → StatesAt s f vs → Variants s (take words table) vs
      go q (states_here {k = k} {vs = vs} g) = let i : k ≡ at = cc in p.of vs (subst (λ (y : ℕ). Reads (list_of max_list read_name) s y vs) i g)
      go q states_none = no (cc)

-- a name looked up
member_at_lem : (w : Name) (vs : List Name) (j : ℕ) (v : Name) → get_elem? vs j ≡ some v → true ≡ eq_name v w → true ≡ member w vs
unfolding member pick
member_at_lem w [] j v e q = no (cc)
member_at_lem w (x ∷ vs) zero v e q = let i : v ≡ x = cc in rw (sym (q ∙ ap (λ (y : Name). eq_name y w) i))
member_at_lem w (x ∷ vs) (suc j) v e q = go (eq_name x w) (member_at_lem w vs j v e q)
  where
    go : (b : Bool) → true ≡ member w vs → true ≡ pick b true (member w vs)
    go true r = refl
    go false r = r

module _ (s table : List ℕ) (at p : ℕ) where
  module _ (j : ℕ) where
    pub stands_apart : (get_or table (2 * j) 0 ≡ p → ⊥) → StandsAt s table at p j false
    stands_apart d = record { of = λ v w x t e. isn't (eq_name v w) (λ y. d (x.print_is ∙ ap (print 0) (eq_name_eq v w y) ∙ sym e)) }

    pub stands_bytes : {b : Bool} → b ≡ eq_name (text_at s (get_or table (2 * j + 1) 0)) (text_at s at) → StandsAt s table at p j b
    stands_bytes q = record { of = λ v w x t e. q ∙ ap₂ eq_name x.name_is t }

    pub look_found : {b : Bool} {many : ℕ} → StandsAt s table at p j b → b ≡ true → many ≡ length table / 2 → j < many → IsVariant s table at p true
    look_found x z m h = record {
      of = λ vs w g t e.
          let r = g.room in
          let v = entry_at vs j (omega arith) in
          member_at_lem w vs j v.item v.is (sym z ∙ x.of v.item w (g.at j v.item v.is) t e);
    }

    pub hint_stands : {b : Bool} → StandsAt s table at p j b → j < length table / 2 → Hinted s table at p b
    hint_stands x h = record { of = λ z. look_found x z refl h }

  pub hint_past : Hinted s table at p false
  hint_past = record { of = λ z. no (cc) }

  pub hint_is : {b : Bool} → Hinted s table at p b → b ≡ true → IsVariant s table at p true
  hint_is x z = x.of z

  -- none of the names before number j is the name
  pub record Looking (j : ℕ) : Type 0 where
    pub of : (vs : List Name) (w : Name) → Variants s table vs → text_at s at ≡ w → p ≡ print 0 w → member w (drop j vs) ≡ member w vs

  pub look_start : Looking 0
  look_start = record { of = λ vs w g t e. refl }

  member_here : (w v : Name) (vs ys : List Name) → ys ≡ v ∷ vs → false ≡ eq_name v w → member w ys ≡ member w vs
  unfolding member pick
  member_here w v vs ys e q = ap (member w) e ∙ ap (λ (x : Bool). pick x true (member w vs)) (sym q)

  module _ {j many : ℕ} (l : Looking j) (m : many ≡ length table / 2) where
    pub look_other : {b : Bool} → j < many → StandsAt s table at p j b → b ≡ false → Looking (j + 1)
    look_other h x z = record {
      of = λ vs w g t e.
          let r = g.room in
          let v = entry_at vs j (omega arith) in
          sym (member_here w v.item (drop (j + 1) vs) (drop j vs) (drop_entry vs j v.item v.is) (sym z ∙ x.of v.item w (g.at j v.item v.is) t e)) ∙ l.of vs w g t e;
    }

    pub look_done : many ≤ j → IsVariant s table at p false
    unfolding member
    look_done h = record {
      of = λ vs w g t e.
          let r = g.room in
          sym (ap (member w) (drop_of_length-le vs {i = j} (omega arith))) ∙ l.of vs w g t e;
    }

pub variant_noted : (s variants : List ℕ) (at p owner : ℕ) {o o' : List ℕ} {skip n r site first : ℕ} {b : Bool} → IsVariant s variants at p b → Noted owner o skip n (noted (not b) (note site first 0 0)) r o' → NotesVariant s owner o skip n r o' variants at p site first
unfolding unknown_state
variant_noted s variants at p owner {site = site} {first = first} i x = record {
  of = λ vs w g t e. note_as owner _ (ap (λ (z : Bool). noted (not z) (note site first 0 0)) (i.of vs w g t e)) x;
}
