-- The tables of a module's variables and enums mean what its declarations mean.
use Prim.Native.Nat.{ℕ, zero, suc, ◌+◌, ◌*◌, ◌/◌, ◌≤◌}
use mathlib.Core.Path.{◌≡◌, refl, sym, ap, ◌∙◌}
use mathlib.Core.Bool.{Bool, true, false}
use mathlib.Core.List.{List, [], ◌∷◌}
use mathlib.Core.Option.{Option, none, some}
use native.Mathlib.Omega.{arith}
use lib.ListN.{length, get_or, take}
use lib.Seq.{get_or-take}
use lib.Dec.{eqb}
use Rattle.reading.specs.Read.{Reader, ok, pick}
use Rattle.reading.specs.Limits.{max_u32, max_list}
use Rattle.reading.specs.Item.{read_number, read_fields}
use Rattle.reading.specs.Text.{Name, read_name}
use Rattle.reading.specs.Combine.{entries, list_of}
use Rattle.reading.specs.Decl.{Ty, EnumDecl, VarDecl, read_ty, read_names, read_enum_decl, read_var_decl}
use Rattle.reading.specs.Module.{Module}
use Rattle.reading.specs.Skip.{text_at}
use Rattle.reading.specs.Views.{TyAt, bool_ty, bit_ty, enum_ty}
use Rattle.reading.proofs.Gives.{Gives, gives_ok, gives_refused, gives_pick, gives_bind, gives_map}
use Rattle.reading.proofs.HeadSound.{Bytes}
use Rattle.reading.proofs.Formats.{Laws}
use Rattle.reading.proofs.ExprLaws.{name_laws}
use Rattle.reading.proofs.DeclLaws.{var_decl_laws, enum_decl_laws}
use Rattle.reading.proofs.Views.{enum_decl_at, var_decl_at}
use Rattle.reading.proofs.CaseViews.{ty_at}
use Rattle.reading.proofs.ListViews.{list_at}
use Rattle.reading.proofs.Walks.{passed, name_text}
use Rattle.typing.specs.Types.{ExprType, bool, enum, type_to_expr_type}
use Rattle.typing.specs.Causes.{first_of}
use Rattle.typing.specs.Names.{eq_name, member, called, last_called}
use Rattle.typing.specs.Env.{Env, Binding, binding_type, var_type, given, enum_has, for_module, with_bindings, Agree}
use Rattle.typing.specs.Table.{place_after, after_item, after_head, pairs_from, pairs_of, pairs_at, find_first, last_in, width_type, case_type, expr_type_at, member_from, member_of, member_at, type_found, variant_found}
use Rattle.typing.specs.Segments.{variant_held}
use Rattle.typing.specs.Blocks.{block_find, Keeps, KeepsEnums, env_at}
use Rattle.typing.specs.First.{enum_name}
use Rattle.typing.specs.Blames.{Bound, none_bound, more_bound}
use Rattle.typing.proofs.TableLaws.{pairs_length}
use Rattle.typing.proofs.BlockLaws.{enum_block, one_block, two_blocks, block_kept}

-- an entry, and those after it
pub record Uncons {A : Type 0} (F : Reader A) (s : List ℕ) (c k : ℕ) (l : List A) (n : ℕ) : Type 0 where
  pub head : A
  pub end : ℕ
  pub tail : List A
  pub here : F s k ≡ ok head end
  pub rest : entries c F s end ≡ ok tail n
  pub split : head ∷ tail ≡ l

uncons : {A : Type 0} (F : Reader A) (s : List ℕ) (c k : ℕ) → Gives (Uncons F s c k) (entries (suc c) F s k)
unfolding entries
uncons F s c k = gives_bind _ _ _ λ a m q. gives_map (Uncons F s c k) _ _ λ ys n w. record { head = a; end = m; tail = ys; here = q; rest = w; split = refl }

pub record Entry {A : Type 0} (F : Reader A) (s : List ℕ) (k : ℕ) (x : A) (xs : List A) (n : ℕ) : Type 0 where
  pub end : ℕ
  pub here : F s k ≡ ok x end
  pub rest : entries (length xs) F s end ≡ ok xs n

pub entry : {A : Type 0} (F : Reader A) (s : List ℕ) (k : ℕ) (x : A) (xs : List A) (n : ℕ) → entries (length (x ∷ xs)) F s k ≡ ok (x ∷ xs) n → Entry F s k x xs n
entry {A} F s k x xs n e =
    let u = uncons F s (length xs) k (x ∷ xs) n e in
    let q = u.split in
    let a : u.head ≡ x = cc in
    let b : u.tail ≡ xs = cc in
    record { end = u.end; here = u.here ∙ ap (λ (z : A). ok z u.end) a; rest = u.rest ∙ ap (λ (z : List A). ok z n) b }

-- the place after an item that reads
pub after_is : {A : Type 0} {read : Reader A} {enc : A → List ℕ} {Within : A → Type 0} {D : List ℕ → ℕ → Type 0} → Laws read enc Within 1 D → (s : List ℕ) → Bytes s → (at : ℕ) → Gives (λ _ n. after_item s at ≡ n) (read s at)
unfolding place_after
after_is L s B at x n e = ap place_after (passed L s B at x n e)

pub fields_head : (k : ℕ) (s : List ℕ) (at : ℕ) → Gives (λ _ n. after_head s at ≡ n) (read_fields k s at)
unfolding read_fields place_after
fields_head k s at = gives_bind _ _ _ λ v n e. gives_pick _ _ _ _ (λ _. gives_ok (λ _ m. after_head s at ≡ m) tt n (ap place_after e)) (λ _. gives_refused _ _ _)

-- a list of names
members : (s : List ℕ) → Bytes s → (w : Name) (ws : List Name) (k n : ℕ) → entries (length ws) read_name s k ≡ ok ws n → member_from (length ws) s k w ≡ member w ws
unfolding member_from member
members s B w [] k n e = refl
members s B w (x ∷ xs) k n e =
    let u = entry read_name s k x xs n e in
    rw (name_text s k x u.end u.here, after_is name_laws s B k x u.end u.here, members s B w xs u.end n u.rest)

pub member_is : (s : List ℕ) → Bytes s → (at : ℕ) (w : Name) → Gives (λ ws _. member_at s at w ≡ member w ws) (read_names s at)
unfolding read_names member_at member_of
member_is s B at w ws n e =
    let l = list_at read_name s max_list at ws n e in
    rw l.opens (members s B w ws l.first n l.entries_are)

-- a declared type
type_of : (s : List ℕ) {m k : ℕ} {t : Ty} {n : ℕ} (r : ℕ) → TyAt s m k t n → k ≡ r → pick (eqb r 1) (width_type (read_number max_u32 s m)) (pick (eqb r 2) (enum (text_at s m)) bool) ≡ type_to_expr_type t
unfolding pick width_type type_to_expr_type
type_of s r bool_ty z = rw (sym z)
type_of s r (bit_ty q) z = rw (sym z, q)
type_of s {m} r (enum_ty q) z = rw (sym z) (ap enum (name_text s m _ _ q))

pub type_is : (s : List ℕ) (at : ℕ) → Gives (λ t _. expr_type_at s at ≡ type_to_expr_type t) (read_ty s at)
unfolding expr_type_at case_type
type_is s at t n e =
    let v = ty_at s at t n e in
    rw v.tagged (type_of s v.tag.case v.fields refl)

-- a table with one pair more in front
get_or_pair : (a b : ℕ) (T : List ℕ) (k : ℕ) → (get_or (a ∷ (b ∷ T)) (2 * suc k) 0 ≡ get_or T (2 * k) 0) × (get_or (a ∷ (b ∷ T)) (2 * suc k + 1) 0 ≡ get_or T (2 * k + 1) 0)
get_or_pair a b T k =
    let p : 2 * suc k ≡ suc (suc (2 * k)) = omega arith in
    let q : 2 * suc k + 1 ≡ suc (suc (2 * k + 1)) = omega arith in
    (ap (λ (i : ℕ). get_or (a ∷ (b ∷ T)) i 0) p, ap (λ (i : ℕ). get_or (a ∷ (b ∷ T)) i 0) q)

pick_first : {A : Type 0} (t : Bool) (x y : Option A) (z : A) → first_of (pick t (some z) x) y ≡ pick t (some z) (first_of x y)
unfolding first_of pick
pick_first true x y z = refl
pick_first false x y z = refl

find_cons : (s : List ℕ) (w : Name) (a b : ℕ) (T : List ℕ) (k : ℕ) → find_first s w (a ∷ (b ∷ T)) (suc k) ≡ first_of (find_first s w T k) (pick (eq_name (text_at s a) w) (some b) none)
unfolding find_first first_of
find_cons s w a b T zero = refl
find_cons s w a b T (suc k) =
    let g = get_or_pair a b T k in
    rw (g.0, g.1, find_cons s w a b T k, pick_first)

find_pairs : (s : List ℕ) (w : Name) (c k : ℕ) → last_in s w (pairs_from c s k) ≡ find_first s w (pairs_from c s k) c
find_pairs s w c k =
    let q = pairs_length c s k in
    let h : length (pairs_from c s k) / 2 ≡ c = omega arith in
    ap (find_first s w (pairs_from c s k)) h

-- what is found under a name is what the last entry of that name declares: an entry's name stands first, and value says what follows it
module _ {A B : Type 0} (F : Reader A) (name : A → Name) (value : Option A → B) (look : Option ℕ → B) (join : B → B → B) (s : List ℕ)
    (each : (k : ℕ) (x : A) (n : ℕ) → F s k ≡ ok x n → (text_at s (after_head s k) ≡ name x) × (after_item s k ≡ n) × (look (some (after_item s (after_head s k))) ≡ value (some x)))
    (empty : look none ≡ value none)
    (look-first : (a b : Option ℕ) → look (first_of a b) ≡ join (look a) (look b))
    (value-first : (a b : Option A) → value (first_of a b) ≡ join (value a) (value b)) where
  one : (t : Bool) (b : ℕ) (x : A) → look (some b) ≡ value (some x) → look (pick t (some b) none) ≡ value (pick t (some x) none)
  unfolding pick
  one true b x e = e
  one false b x e = empty

  find_last : (w : Name) (xs : List A) (k n : ℕ) → entries (length xs) F s k ≡ ok xs n → look (find_first s w (pairs_from (length xs) s k) (length xs)) ≡ value (last_called name w xs)
  unfolding pairs_from find_first last_called called
  find_last w [] k n e = empty
  find_last w (x ∷ xs) k n e =
      let u = entry F s k x xs n e in
      let g = each k x u.end u.here in
      let i = find_last w xs u.end n u.rest in
      rw (find_cons s w (after_head s k) (after_item s (after_head s k)) (pairs_from (length xs) s (after_item s k)) (length xs), look-first, value-first, g.1, i, g.0)
      (ap (join (value (last_called name w xs))) (one (eq_name (name x) w) (after_item s (after_head s k)) x g.2))

  found_last : (at : ℕ) (w : Name) → Gives (λ xs _. look (last_in s w (pairs_at s at)) ≡ value (last_called name w xs)) (list_of max_list F s at)
  unfolding pairs_at pairs_of
  found_last at w xs n e =
      let l = list_at F s max_list at xs n e in
      rw (l.opens, find_pairs s w (length xs) l.first) (find_last w xs l.first n l.entries_are)

-- variables with their types
type_first : (s : List ℕ) (a b : Option ℕ) → type_found s (first_of a b) ≡ first_of (type_found s a) (type_found s b)
unfolding first_of type_found
type_first s none b = refl
type_first s (some a) b = refl

var_first : (a b : Option VarDecl) → var_type (first_of a b) ≡ first_of (var_type a) (var_type b)
unfolding first_of var_type
var_first none b = refl
var_first (some a) b = refl

abbrev var_name : VarDecl → Name
var_name v = v.name

module _ (s : List ℕ) (B : Bytes s) where
  var_entry : (k : ℕ) (x : VarDecl) (n : ℕ) → read_var_decl s k ≡ ok x n → (text_at s (after_head s k) ≡ var_name x) × (after_item s k ≡ n) × (type_found s (some (after_item s (after_head s k))) ≡ var_type (some x))
  unfolding type_found var_type
  var_entry k x n e =
      let v = var_decl_at s k x n e in
      let h : after_head s k ≡ v.name = fields_head 3 s k tt v.name v.opens in
      let a : after_item s v.name ≡ v.ty = after_is name_laws s B v.name x.name v.ty v.name_is in
      (ap (text_at s) h ∙ name_text s v.name x.name v.ty v.name_is, after_is var_decl_laws s B k x n e, ap some (ap (λ (z : ℕ). expr_type_at s (after_item s z)) h ∙ ap (expr_type_at s) a ∙ type_is s v.ty x.ty v.init v.ty_is))

  pub vars_are : (at : ℕ) (w : Name) → Gives (λ vs _. type_found s (last_in s w (pairs_at s at)) ≡ var_type (last_called var_name w vs)) (list_of max_list read_var_decl s at)
  unfolding type_found var_type
  vars_are = found_last read_var_decl var_name var_type (type_found s) first_of s var_entry refl (type_first s) var_first

  -- enums with their variants
  abbrev holds : Name → Option EnumDecl → Option Bool
  holds v none = none
  holds v (some e) = some (member v e.variants)

  abbrev holds_at : Name → Option ℕ → Option Bool
  holds_at v none = none
  holds_at v (some at) = some (member_at s at v)

  enum_entry : (u : Name) (k : ℕ) (x : EnumDecl) (n : ℕ) → read_enum_decl s k ≡ ok x n → (text_at s (after_head s k) ≡ enum_name x) × (after_item s k ≡ n) × (holds_at u (some (after_item s (after_head s k))) ≡ holds u (some x))
  enum_entry u k x n e =
      let v = enum_decl_at s k x n e in
      let h : after_head s k ≡ v.name = fields_head 2 s k tt v.name v.opens in
      let a : after_item s v.name ≡ v.variants = after_is name_laws s B v.name x.name v.variants v.name_is in
      (ap (text_at s) h ∙ name_text s v.name x.name v.variants v.name_is, after_is enum_decl_laws s B k x n e, ap some (ap (λ (z : ℕ). member_at s (after_item s z) u) h ∙ ap (λ (z : ℕ). member_at s z u) a ∙ member_is s B v.variants u x.variants n v.variants_is))

  holds_at_first : (u : Name) (a b : Option ℕ) → holds_at u (first_of a b) ≡ first_of (holds_at u a) (holds_at u b)
  unfolding first_of
  holds_at_first u none b = refl
  holds_at_first u (some a) b = refl

  holds_first : (u : Name) (a b : Option EnumDecl) → holds u (first_of a b) ≡ first_of (holds u a) (holds u b)
  unfolding first_of
  holds_first u none b = refl
  holds_first u (some a) b = refl

  enums_hold : (u : Name) (at : ℕ) (w : Name) → Gives (λ es _. holds_at u (last_in s w (pairs_at s at)) ≡ holds u (last_called enum_name w es)) (list_of max_list read_enum_decl s at)
  enums_hold u = found_last read_enum_decl enum_name (holds u) (holds_at u) first_of s (enum_entry u) refl (holds_at_first u) (holds_first u)

  abbrev or_false : Option Bool → Bool
  or_false none = false
  or_false (some b) = b

  found_or : (u : Name) (o : Option ℕ) → variant_found s u o ≡ or_false (holds_at u o)
  unfolding variant_found
  found_or u none = refl
  found_or u (some at) = refl

  has_or : (u : Name) (o : Option EnumDecl) → enum_has o u ≡ or_false (holds u o)
  unfolding enum_has
  has_or u none = refl
  has_or u (some e) = refl

  given_at : (u : Name) (o : Option ℕ) → given o ≡ given (holds_at u o)
  unfolding given
  given_at u none = refl
  given_at u (some at) = refl

  given_of : (u : Name) (o : Option EnumDecl) → given o ≡ given (holds u o)
  unfolding given
  given_of u none = refl
  given_of u (some e) = refl

  -- the tables of a module's variables and enums mean what the module declares
  pub tables_agree : (names known : List ℕ) (vars enums : ℕ) (m : Module) (i j : ℕ) → length names ≡ 829 → 829 ≤ length known → Keeps s (pairs_at s vars) names 0 → KeepsEnums s (pairs_at s enums) known → list_of max_list read_var_decl s vars ≡ ok m.vars i → list_of max_list read_enum_decl s enums ≡ ok m.enums j → Agree (env_at s names known) (for_module m)
  unfolding env_at for_module first_of
  tables_agree names known vars enums m i j k l p q e f = record {
    names = λ w. ap (type_found s) (one_block s w names k ∙ p.finds w) ∙ vars_are vars w m.vars i e;
    enums = λ w. ap given (enum_block s w known l) ∙ q.known w ∙ given_at [] (last_in s w (pairs_at s enums)) ∙ ap given (enums_hold [] enums w m.enums j f) ∙ sym (given_of [] (last_called enum_name w m.enums));
    variants = λ w u. ap (variant_held s known u) (enum_block s w known l) ∙ q.has w u ∙ found_or u (last_in s w (pairs_at s enums)) ∙ ap or_false (enums_hold u enums w m.enums j f) ∙ sym (has_or u (last_called enum_name w m.enums));
  }

abbrev binding_name : Binding → Name
binding_name b = b.name

pub bound_length : {s T : List ℕ} {bs : List Binding} → Bound s T bs → length T ≡ 2 * length bs
bound_length none_bound = refl
bound_length (more_bound p q b) = let l = bound_length b in omega arith

binding_first : (a b : Option Binding) → binding_type (first_of a b) ≡ first_of (binding_type a) (binding_type b)
unfolding first_of binding_type
binding_first none b = refl
binding_first (some a) b = refl

bound_one : (s : List ℕ) (t : Bool) (b : ℕ) (x : Binding) → expr_type_at s b ≡ x.type → type_found s (pick t (some b) none) ≡ binding_type (pick t (some x) none)
unfolding pick type_found binding_type
bound_one s true b x e = ap some e
bound_one s false b x e = refl

bound_find : {s T : List ℕ} {bs : List Binding} (w : Name) → Bound s T bs → type_found s (find_first s w T (length bs)) ≡ binding_type (last_called binding_name w bs)
unfolding find_first last_called called type_found binding_type
bound_find w none_bound = refl
bound_find {s} w (more_bound {a} {b} {T} {x} {bs} p q r) =
    rw (find_cons s w a b T (length bs), type_first s, binding_first, bound_find w r, p)
    (ap (first_of (binding_type (last_called binding_name w bs))) (bound_one s (eq_name x.name w) b x q))

-- bindings in a block after a module's variables mean what the pattern binds
pub bindings_agree : (s names enums T pairs : List ℕ) (bs : List Binding) (env : Env) → length names ≡ 829 → length T ≡ 1658 → take 829 T ≡ names → Keeps s pairs T 829 → Bound s pairs bs → Agree (env_at s names enums) env → (env.bindings ≡ (λ n. none)) → Agree (env_at s T enums) (with_bindings bs env)
unfolding env_at with_bindings first_of
bindings_agree s names enums T pairs bs env l m q p b g z = record {
  names = λ w.
      let c = bound_length b in
      let h : length pairs / 2 ≡ length bs = omega arith in
      let v = block_kept s w T names 0 (λ j a. ap (λ (y : List ℕ). get_or y j 0) (sym q) ∙ get_or-take 829 T j 0 (omega arith)) in
      ap (type_found s) (two_blocks s w T m)
      ∙ type_first s (block_find s w T 829) (block_find s w T 0)
      ∙ ap (λ (o : Option ℕ). first_of (type_found s o) (type_found s (block_find s w T 0))) (p.finds w ∙ ap (find_first s w pairs) h)
      ∙ ap (λ (o : Option ExprType). first_of o (type_found s (block_find s w T 0))) (bound_find w b)
      ∙ ap (first_of (binding_type (last_called binding_name w bs))) (ap (type_found s) (sym (one_block s w names l ∙ v)) ∙ g.names w ∙ ap (λ (f : Name → Option ExprType). first_of (f w) (env.vars w)) z);
  enums = g.enums;
  variants = g.variants;
}

-- no bindings change nothing
pub unbound_agree : (s names enums : List ℕ) (bs : List Binding) (env : Env) → Bound s [] bs → Agree (env_at s names enums) env → (env.bindings ≡ (λ n. none)) → Agree (env_at s names enums) (with_bindings bs env)
unfolding with_bindings last_called binding_type first_of
unbound_agree s names enums [] env none_bound g z = record {
  names = λ w. g.names w ∙ ap (λ (f : Name → Option ExprType). first_of (f w) (env.vars w)) z;
  enums = g.enums;
  variants = g.variants;
}
unbound_agree s names enums (_ ∷ _) env x5 g z = elim x5 [ ]
