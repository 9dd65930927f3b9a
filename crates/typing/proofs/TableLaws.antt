-- What the code's scans of tables and lists mean, over whatever they are given.
use Rattle.std.specs.Prelude.{Option as Maybe, Some, None, Result, Ok, Err}
use Prim.Native.Nat.{ℕ, zero, suc, ◌+◌, ◌-◌, ◌*◌, ◌<◌, ◌≤◌}
use mathlib.Core.Path.{◌≡◌, refl, sym, ap, ◌∙◌}
use mathlib.Core.Bool.{Bool, true, false}
use mathlib.Core.List.{List}
use mathlib.Core.Option.{Option, none, some}
use native.Mathlib.Omega.{arith}
use native.Mathlib.Numerals.{add-one}
use lib.ListN.{length, get_or, set, length-set}
use lib.Seq.{sets}
use borrow.Author.Tests.{ne_eqb}
use Rattle.reading.specs.Read.{Read, ok, refused, pick}
use Rattle.reading.specs.Limits.{max_u32, max_list}
use Rattle.reading.specs.Item.{read_number, read_count, read_tag}
use Rattle.reading.specs.Text.{Name}
use Rattle.reading.specs.Skip.{text_at}
use Rattle.reading.specs.Link.{answer, stands}
use Rattle.reading.specs.declared.cursor.Cursor.{Cursor}
use Rattle.reading.specs.declared.item.Tag.{Tag}
use Rattle.reading.proofs.Rules.{no}
use Rattle.reading.proofs.Answers.{got, out}
use Rattle.reading.proofs.ItemLaws.{number_kind}
use Rattle.typing.specs.Names.{eq_name}
use Rattle.typing.specs.Causes.{first_of}
use Rattle.typing.specs.Means.{ty_of}
use Rattle.typing.specs.Env.{given}
use Rattle.typing.specs.Table.{place_after, after_item, after_head, pairs_from, pairs_of, pairs_at, Filled, Ended, Differs, find_first, found, width_type, case_type, expr_type_at, member_from, member_of, member_at}
use Rattle.typing.specs.Entries.{opened}
use Rattle.typing.specs.declared.entries.Entries.{Entries}
use Rattle.typing.specs.declared.ty.Ty.{Ty}
use Rattle.typing.specs.declared.ty.Ty.TheVariants as ty
use Rattle.typing.proofs.ShortLaws.{ended_after}
-- what was read, from what the code learnt of its answer
use Rattle.reading.specs.declared.fault.Refusal.{Refusal}

-- the place after a data enum's head, and after an item
pub tag_to : (m : Read Tag) {r : Result (Tag × Cursor) Refusal} {t : Tag} {c : Cursor} → r ≡ answer m → r ≡ Ok (t, c) → c.at ≡ place_after m
unfolding place_after
tag_to m e q = rw (got m e q)

pub tag_away : (m : Read Tag) {r : Result (Tag × Cursor) Refusal} {f : Refusal} → r ≡ answer m → r ≡ Err f → f.place ≡ place_after m
unfolding place_after
tag_away m e q = rw (out m e q)

pub after_to : (m : Read (Unit {0})) {r : Result Cursor Refusal} {c : Cursor} → r ≡ stands m → r ≡ Ok c → c.at ≡ place_after m
unfolding stands place_after
after_to (ok a n) {r} {c} e q = let u : c ≡ record { at = n } = cc in ap (λ (z : Cursor). z.at) u
after_to (refused f p) e q = no (cc)

pub after_out : (m : Read (Unit {0})) {r : Result Cursor Refusal} {f : Refusal} → r ≡ stands m → r ≡ Err f → f.place ≡ place_after m
unfolding stands place_after
after_out (ok a n) e q = no (cc)
after_out (refused f p) e q = cc

-- the first of some that has something
pub first_first : {A : Type 0} (a b c : Option A) → first_of (first_of a b) c ≡ first_of a (first_of b c)
unfolding first_of
first_first none b c = refl
first_first (some a) b c = refl

pub first_none : {A : Type 0} (a : Option A) → first_of a none ≡ a
unfolding first_of
first_none none = refl
first_none (some a) = refl

-- of two, by the code's answer for the first
pub first_hit : {f : Maybe ℕ} {place : ℕ} (y z : Option ℕ) → f ≡ found y → f ≡ Some place → f ≡ found (first_of y z)
unfolding found first_of
first_hit none z e q = no (cc)
first_hit (some a) z e q = e

pub first_miss : {f : Maybe ℕ} (y z : Option ℕ) → f ≡ found y → f ≡ None → z ≡ first_of y z
unfolding found first_of
first_miss none z e q = refl
first_miss (some a) z e q = no (cc)

-- o stands under a name in the first i pairs of a table, from the last of them on
module _ (s : List ℕ) (n : Name) (table : List ℕ) (i : ℕ) {o : Option ℕ} (r : find_first s n table i ≡ o) where
  pub find_none : i ≤ 0 → None ≡ found o
  unfolding find_first found
  find_none h = let z : i ≡ 0 = omega arith in ap found (sym (ap (find_first s n table) z) ∙ r)

  module _ (h : 0 < i) {b : Bool} {key : Name} (e : b ≡ eq_name key n) (t : key ≡ text_at s (get_or table (2 * (i - 1)) 0)) where
    last_pair : o ≡ pick b (some (get_or table (2 * (i - 1) + 1) 0)) (find_first s n table (i - 1))
    unfolding find_first
    last_pair =
        let k : i ≡ suc (i - 1) = omega arith in
        sym r ∙ ap (find_first s n table) k ∙ rw (sym t, sym e)

    pub find_hit : b ≡ true → (Some (get_or table (2 * (i - 1) + 1) 0)) ≡ found o
    unfolding found pick
    find_hit q = rw (last_pair, q)

    pub find_miss : b ≡ false → find_first s n table (i - 1) ≡ o
    unfolding pick
    find_miss q = rw (last_pair, q)

-- the names and what stands under them decide
pub find_kept : (s : List ℕ) (n : Name) (table table' : List ℕ) (k : ℕ) → ((j : ℕ) → j < 2 * k → get_or table' j 0 ≡ get_or table j 0) → find_first s n table' k ≡ find_first s n table k
unfolding find_first
find_kept s n table table' zero h = refl
find_kept s n table table' (suc k) h =
    rw (h (2 * k) (omega arith), h (2 * k + 1) (omega arith), find_kept s n table table' k (λ j i. h j (omega arith)))

-- whether something stands under a name
pub given_at : {f : Maybe ℕ} {k : ℕ} (o : Option ℕ) → f ≡ found o → f ≡ Some k → true ≡ given o
unfolding given found
given_at none e q = no (cc)
given_at (some x) e q = refl

pub given_not : {f : Maybe ℕ} (o : Option ℕ) → f ≡ found o → f ≡ None → false ≡ given o
unfolding given found
given_not none e q = refl
given_not (some x) e q = no (cc)

pub given_pick : (b : Bool) (k : ℕ) (o : Option ℕ) → given (pick b (some k) o) ≡ pick b true (given o)
unfolding given pick
given_pick true k o = refl
given_pick false k o = refl

-- a list of names, from place k on
module _ (s : List ℕ) (at : ℕ) (n : Name) where
  opened_names : (m : Read ℕ) → member_from (opened m).many s (opened m).first n ≡ member_of s m n
  unfolding opened member_from member_of
  opened_names (ok c k) = refl
  opened_names (refused f p) = refl

  pub names_open : {e : Entries} → e ≡ opened (read_count max_list s at) → member_from e.many s e.first n ≡ member_at s at n
  unfolding member_at
  names_open h = ap (λ (z : Entries). member_from z.many s z.first n) h ∙ opened_names (read_count max_list s at)

  module _ (k left : ℕ) (r : member_from left s k n ≡ member_at s at n) where
    pub name_none : left ≤ 0 → false ≡ member_at s at n
    unfolding member_from
    name_none h = let z : left ≡ 0 = omega arith in sym (ap (λ (l : ℕ). member_from l s k n) z) ∙ r

    module _ (h : 0 < left) {b : Bool} {key : Name} (e : b ≡ eq_name key n) (t : key ≡ text_at s k) where
      first_name : member_at s at n ≡ pick b true (member_from (left - 1) s (after_item s k) n)
      unfolding member_from
      first_name =
          let z : left ≡ suc (left - 1) = omega arith in
          sym r ∙ ap (λ (l : ℕ). member_from l s k n) z ∙ rw (sym t, sym e)

      pub name_hit : b ≡ true → true ≡ member_at s at n
      unfolding pick
      name_hit q = rw (first_name, q)

      pub name_miss : {m : ℕ} → b ≡ false → m ≡ after_item s k → member_from (left - 1) s m n ≡ member_at s at n
      unfolding pick
      name_miss q g = rw (first_name, q, g)

    pub name_passed : {o : Maybe ℕ} {m : ℕ} → 0 < left → Differs s k n o → o ≡ Some m → member_from (left - 1) s m n ≡ member_at s at n
    unfolding Differs
    name_passed {o} {m} h d q =
        let u : Ended s k m × (eq_name (text_at s k) n ≡ false) = rw q at d in
        name_miss h refl refl u.1 (ended_after u.0)

-- a declared type
module _ (s : List ℕ) (at : ℕ) where
  module _ {a : Result (ℕ × Cursor) Refusal} (e : a ≡ answer (read_number max_u32 s at)) where
    pub width_small : {w : ℕ} {c : Cursor} → a ≡ Ok (w, c) → w ≤ max_u32
    width_small q = (number_kind s at max_u32 _ _ (got _ e q)).1

    pub width_is : {w : ℕ} {c : Cursor} → a ≡ Ok (w, c) → ty_of s (ty.Bit w) ≡ width_type (read_number max_u32 s at)
    unfolding ty_of width_type
    width_is q = rw (got _ e q)

    pub width_none : {f : Refusal} → a ≡ Err f → ty_of s ty.Bool ≡ width_type (read_number max_u32 s at)
    unfolding ty_of width_type
    width_none q = rw (out _ e q)

  module _ {a : Result (Tag × Cursor) Refusal} (e : a ≡ answer (read_tag s at)) where
    pub type_none : {f : Refusal} → a ≡ Err f → ty_of s ty.Bool ≡ expr_type_at s at
    unfolding ty_of expr_type_at case_type
    type_none q = rw (out _ e q)

    module _ {t : Tag} {c : Cursor} (q : a ≡ Ok (t, c)) where
      pub case_width : t.case ≡ 1 → width_type (read_number max_u32 s c.at) ≡ expr_type_at s at
      unfolding expr_type_at case_type pick
      case_width k = rw (got _ e q, k)

      pub type_width : (r : Ty) → t.case ≡ 1 → ty_of s r ≡ width_type (read_number max_u32 s c.at) → ty_of s r ≡ expr_type_at s at
      type_width r k g = g ∙ case_width k

      pub type_enum : t.case ≡ 2 → ty_of s (ty.Enum c.at) ≡ expr_type_at s at
      unfolding ty_of expr_type_at case_type pick
      type_enum k = rw (got _ e q, k)

      pub type_bool : t.case ≡ 0 → ty_of s ty.Bool ≡ expr_type_at s at
      unfolding ty_of expr_type_at case_type pick
      type_bool k = rw (got _ e q, k)

      pub type_beyond : (t.case ≡ 1 → ⊥) → (t.case ≡ 2 → ⊥) → ty_of s ty.Bool ≡ expr_type_at s at
      unfolding ty_of expr_type_at case_type pick
      type_beyond h k = rw (got _ e q, ne_eqb t.case 1 h, ne_eqb t.case 2 k)

pub pairs_length : (c : ℕ) (s : List ℕ) (k : ℕ) → length (pairs_from c s k) ≡ 2 * c
unfolding pairs_from
pairs_length zero s k = refl
pairs_length (suc c) s k = let q = pairs_length c s (after_item s k) in omega arith

-- the place after a record's head
pub head_to : (m : Read ℕ) {r : Result (ℕ × Cursor) Refusal} {v : ℕ} {c : Cursor} → r ≡ answer m → r ≡ Ok (v, c) → c.at ≡ place_after m
unfolding place_after
head_to m e q = rw (got m e q)

pub head_out : (m : Read ℕ) {r : Result (ℕ × Cursor) Refusal} {f : Refusal} → r ≡ answer m → r ≡ Err f → f.place ≡ place_after m
unfolding place_after
head_out m e q = rw (out m e q)

-- a table that is filled: what is still to come, put from place j on, makes the whole
module _ (s : List ℕ) (at : ℕ) (table : List ℕ) where
  pub record Filling (left k j : ℕ) (now : List ℕ) : Type 0 where
    pub size : length now ≡ length table
    pub few : j + 2 * left ≤ 2 * max_list
    pub place : j + 2 * left ≡ length (pairs_at s at)
    pub rest : sets now j (pairs_from left s k) ≡ sets table 0 (pairs_at s at)

  opened_pairs : (m : Read ℕ) → pairs_of s m ≡ pairs_from (opened m).many s (opened m).first
  unfolding opened pairs_from pairs_of
  opened_pairs (ok c k) = refl
  opened_pairs (refused f p) = refl

  pub fill_start : {e : Entries} → e ≡ opened (read_count max_list s at) → e.many ≤ 255 → Filling e.many e.first 0 table
  unfolding pairs_at
  fill_start {e} h o =
      let l = pairs_length e.many s e.first in
      let u : pairs_at s at ≡ pairs_from e.many s e.first = opened_pairs (read_count max_list s at) ∙ ap (λ (z : Entries). pairs_from z.many s z.first) (sym h) in
      record { size = refl; few = omega arith; place = let v = sym l ∙ ap length (sym u) in omega arith; rest = ap (sets table 0) (sym u) }

  module _ {left k j : ℕ} {now : List ℕ} (g : Filling left k j now) where
    pub fill_done : left ≤ 0 → Filled table (pairs_at s at) j now
    unfolding pairs_from
    fill_done h =
        let z : left ≡ 0 = omega arith in
        let p = g.place in
        record { many = omega arith; words = rw z at g.rest }

    pub fill_few : j ≤ 510
    fill_few = let m = g.few in omega arith

    pub fill_more : {name under k' : ℕ} {now' now'' : List ℕ} → 0 < left → name ≡ after_head s k → now' ≡ set now j name → under ≡ after_item s name → now'' ≡ set now' (j + 1) under → k' ≡ after_item s k → Filling (left - 1) k' (j + 2) now''
    unfolding pairs_from
    fill_more {name} {under} {k'} {now'} {now''} h a b c d i =
        let z : left ≡ suc (left - 1) = omega arith in
        let p = g.place in
        let m = g.few in
        let q : j + 2 ≡ suc (suc j) = omega arith in
        let w = ap (λ (l : ℕ). sets now j (pairs_from l s k)) (sym z) ∙ g.rest in
        record {
          size = rw (d, b) (length-set (set now j name) (j + 1) under ∙ length-set now j name ∙ g.size);
          few = omega arith;
          place = omega arith;
          rest = rw (d, b, i, c, a, add-one j, q) w;
        }
