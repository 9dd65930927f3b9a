-- What each step of a path's meaning gives, over whatever the code is given.
use Rattle.std.specs.Prelude.{Option as Maybe, Some, None, Ok, Err, Result}
use Prim.Native.Nat.{ℕ, ◌+◌, ◌<◌, ◌≤◌}
use mathlib.Core.Path.{◌≡◌, refl, sym, ap, subst, ◌∙◌}
use mathlib.Core.Bool.{Bool, true, false}
use mathlib.Core.List.{List, [], ◌∷◌}
use mathlib.Core.Option.{Option, none, some}
use native.Mathlib.Omega.{arith}
use lib.ListN.{length, get_or}
use borrow.Author.Tests.{lt-ltb, le-ltb}
use Rattle.reading.specs.Read.{ok, pick, bind}
use Rattle.reading.specs.Text.{Name}
use Rattle.reading.specs.Limits.{max_path}
use Rattle.reading.specs.Item.{read_kind, read_count}
use Rattle.reading.specs.Text.{read_name}
use Rattle.reading.specs.Expr.{read_path}
use Rattle.reading.specs.Views.{Rest, ListAt}
use Rattle.reading.specs.Link.{answer}
use Rattle.reading.specs.Skip.{text_at}
use Rattle.reading.specs.declared.cursor.Cursor.{Cursor}
use Rattle.reading.proofs.Rules.{no}
use Rattle.reading.proofs.Answers.{got, out}
use Rattle.reading.proofs.HeadSound.{Bytes}
use Rattle.reading.proofs.ExprLaws.{name_laws, path_laws}
use Rattle.reading.proofs.ListViews.{list_at, rest_all, rest_none, turn}
use Rattle.reading.proofs.Walks.{passed, name_text}
use Rattle.typing.specs.Types.{ExprType}
use Rattle.typing.specs.Causes.{first_of}
use Rattle.typing.specs.Names.{eq_name, state_word, state_enum}
use Rattle.typing.specs.Env.{given, state_variants}
use Rattle.typing.specs.Typing.{resolve_state, or_state, resolve_name, resolve_variant, resolve_path}
use Rattle.typing.specs.Means.{good, ty_of, cause_of, typed_of, outcome, Typed}
use Rattle.typing.specs.Tells.{Ends}
use Rattle.typing.specs.Table.{place_after, after_item, Past, found, expr_type_at, type_found}
use Rattle.typing.specs.Segments.{variant_in, variant_held}
use Rattle.typing.specs.Blocks.{find_in, enum_find, env_at}
use Rattle.typing.specs.Typed.{Resolves}
use Rattle.typing.specs.declared.ty.Ty.{Ty}
use Rattle.typing.specs.declared.ty.Ty.TheVariants as ty
use Rattle.typing.specs.declared.cause.Cause.TheVariants.{UnknownIdentifier, UnknownEnum, UnknownVariant, PathLength, EmptyPath}
use Rattle.typing.proofs.ShortLaws.{head_one}
use Rattle.typing.proofs.EnvLaws.{after_is}
-- what a search found
use Rattle.reading.specs.declared.fault.Refusal.{Refusal}

pub found_at : (o : Option ℕ) {f : Maybe ℕ} {at : ℕ} → f ≡ found o → f ≡ Some at → o ≡ some at
unfolding found
found_at (some a) e q = cc
found_at none e q = no (cc)

pub found_none : (o : Option ℕ) {f : Maybe ℕ} → f ≡ found o → f ≡ None → o ≡ none
unfolding found
found_none (some a) e q = no (cc)
found_none none e q = refl

module _ (s enums : List ℕ) where
  module _ (n : Name) {f : Maybe ℕ} (e : f ≡ found (enum_find s state_enum enums)) where
    pub state_listed : {at : ℕ} {x : Bool} → f ≡ Some at → x ≡ variant_in s enums n at → x ≡ state_variants (env_at s [] enums) n
    unfolding env_at variant_held
    state_listed q g = rw (found_at _ e q) g

    pub state_unlisted : f ≡ None → false ≡ state_variants (env_at s [] enums) n
    unfolding env_at variant_held
    state_unlisted q = rw (found_none _ e q)

  module _ (at next : ℕ) {x : Bool} {n : Name} (e : x ≡ state_variants (env_at s [] enums) n) (t : n ≡ text_at s at) where
    state_test : state_variants (env_at s [] enums) (text_at s at) ≡ x
    state_test = rw (sym t) (sym e)

    pub state_is : x ≡ true → typed_of s (Ok (ty.State, next)) ≡ outcome next (resolve_state (env_at s [] enums) (text_at s at))
    unfolding resolve_state pick typed_of outcome ty_of
    state_is q = rw (state_test ∙ q)

    pub state_unknown : x ≡ false → typed_of s (Err (UnknownIdentifier at)) ≡ outcome next (resolve_state (env_at s [] enums) (text_at s at))
    unfolding resolve_state pick typed_of outcome cause_of
    state_unknown q = rw (state_test ∙ q)

-- a path of one name
module _ (s names enums : List ℕ) (at next : ℕ) {x : Bool} {n : Name} (e : x ≡ eq_name n state_word) (t : n ≡ text_at s at) where
  abbrev Named : Typed → Type 0
  Named r = typed_of s r ≡ outcome next (resolve_name (env_at s names enums) (text_at s at))

  state_word_lem : eq_name (text_at s at) state_word ≡ x
  state_word_lem = rw (sym t) (sym e)

  pub name_state : x ≡ true → Named (Ok (ty.State, next))
  unfolding resolve_name pick typed_of outcome ty_of
  name_state q = rw (state_word_lem ∙ q)

  module _ (q : x ≡ false) {f : Maybe ℕ} (g : f ≡ found (find_in s n names)) where
    search_is : f ≡ found (find_in s (text_at s at) names)
    search_is = rw t at g

    pub name_found_lem : {under : ℕ} (τ : Ty) → f ≡ Some under → ty_of s τ ≡ expr_type_at s under → Named (Ok (τ, next))
    unfolding resolve_name pick outcome env_at type_found first_of or_state typed_of
    name_found_lem τ h k = rw (state_word_lem ∙ q, found_at _ search_is h) (ap (λ (z : ExprType). good z next) k)

    pub name_other : (r : Typed) → f ≡ None → typed_of s r ≡ outcome next (resolve_state (env_at s [] enums) (text_at s at)) → Named r
    unfolding resolve_name pick env_at type_found first_of or_state resolve_state
    name_other r h k = rw (state_word_lem ∙ q, found_none _ search_is h) k

-- a longer path
module _ (s enums : List ℕ) (at m next : ℕ) {f : Maybe ℕ} {n : Name} (g : f ≡ found (enum_find s n enums)) (t : n ≡ text_at s at) where
  abbrev Longer : Typed → Type 0
  Longer r = typed_of s r ≡ outcome next (resolve_variant (env_at s [] enums) (text_at s at) (text_at s (after_item s at)) m)

  enum_found : f ≡ found (enum_find s (text_at s at) enums)
  enum_found = rw t at g

  pub enum_unknown : f ≡ None → Longer (Err (UnknownEnum at))
  unfolding resolve_variant pick env_at given typed_of outcome cause_of
  enum_unknown q = rw (found_none _ enum_found q)

  module _ {list v : ℕ} {w : Name} {x : Bool} (q : f ≡ Some list) (h : v ≡ after_item s at) (u : w ≡ text_at s v) (k : x ≡ variant_in s enums w list) where
    variant_test : variant_held s enums (text_at s (after_item s at)) (enum_find s (text_at s at) enums) ≡ x
    unfolding variant_held
    variant_test = rw (found_at _ enum_found q, sym h, sym u) (sym k)

    enum_known : given (enum_find s (text_at s at) enums) ≡ true
    unfolding given
    enum_known = rw (found_at _ enum_found q)

    pub variant_long : x ≡ true → 2 < m → Longer (Err (PathLength m))
    unfolding resolve_variant pick env_at typed_of outcome cause_of
    variant_long a b = rw (enum_known, variant_test ∙ a, lt-ltb 2 m b)

    pub variant_is : x ≡ true → m ≤ 2 → Longer (Ok (ty.Enum at, next))
    unfolding resolve_variant pick env_at typed_of outcome ty_of
    variant_is a b = rw (enum_known, variant_test ∙ a, le-ltb 2 m b)

    pub variant_unknown : x ≡ false → Longer (Err (UnknownVariant v at))
    unfolding resolve_variant pick env_at typed_of outcome cause_of
    variant_unknown a = rw (enum_known, variant_test ∙ a, h)

-- the path that stands at a place
module _ (s names enums : List ℕ) (at next : ℕ) {a : Result (ℕ × Cursor) Refusal} (e : a ≡ answer (read_count max_path s at)) where
  abbrev Resolved : Typed → List Name → Type 0
  Resolved r p = typed_of s r ≡ outcome next (resolve_path (env_at s names enums) p)

  pub path_none : (r : Typed) {f : Refusal} → a ≡ Err f → Resolves (env_at s names enums) s at next r
  unfolding read_path
  path_none r q = record { of = λ p n g. let l = list_at read_name s max_path at p n g in no (let x = out _ e q in let y = l.opens in cc) }

  -- its names, from the first on
  pub record Segments (k m : ℕ) (p : List Name) (n : ℕ) : Type 0 where
    pub many : length p ≡ m
    pub all : Rest read_name s k 0 p n

  segments : {m : ℕ} {c : Cursor} → a ≡ Ok (m, c) → (p : List Name) (n : ℕ) → read_path s at ≡ ok p n → Segments c.at m p n
  unfolding read_path
  segments {m} {c} q p n g =
      let l = list_at read_name s max_path at p n g in
      let x = got _ e q in
      let y = l.opens in
      let u : length p ≡ m = cc in
      let v : l.first ≡ c.at = cc in
      record { many = u; all = subst (λ (z : ℕ). Rest read_name s z 0 p n) v (rest_all read_name s l) }

  module _ {m : ℕ} {c : Cursor} (q : a ≡ Ok (m, c)) where
    pub path_empty : m ≡ 0 → Resolves (env_at s names enums) s at next (Err EmptyPath)
    unfolding resolve_path typed_of outcome cause_of
    path_empty z = record { of = λ p n g. go p ((segments q p n g).many ∙ z) }
      where
        go : (p : List Name) → length p ≡ 0 → Resolved (Err EmptyPath) p
        go [] h = refl
        go (x ∷ xs) h = absurd (omega arith)

    pub path_one : (r : Typed) → m ≡ 1 → typed_of s r ≡ outcome next (resolve_name (env_at s names enums) (text_at s c.at)) → Resolves (env_at s names enums) s at next r
    unfolding resolve_path
    path_one r z h = record { of = λ p n g. let y = segments q p n g in go p n (y.many ∙ z) y.all }
      where
        go : (p : List Name) (n : ℕ) → length p ≡ 1 → Rest read_name s c.at 0 p n → Resolved r p
        go [] n i w = absurd (omega arith)
        go (x ∷ []) n i w =
            let t = turn read_name s (omega arith) w in
            let u = t.split in
            let v : x ≡ t.entry = cc in
            rw (v, sym (name_text s c.at t.entry t.end t.here)) h
        go (x ∷ (y ∷ ys)) n i w = absurd (omega arith)

    pub path_long : (r : Typed) → Bytes s → (m ≡ 0 → ⊥) → (m ≡ 1 → ⊥) → typed_of s r ≡ outcome next (resolve_variant (env_at s [] enums) (text_at s c.at) (text_at s (after_item s c.at)) m) → Resolves (env_at s names enums) s at next r
    unfolding resolve_path resolve_variant env_at place_after
    path_long r B z z' h = record { of = λ p n g. let y = segments q p n g in go p n y.many y.all }
      where
        go : (p : List Name) (n : ℕ) → length p ≡ m → Rest read_name s c.at 0 p n → Resolved r p
        go [] n i w = absurd (z (sym i))
        go (x ∷ []) n i w = absurd (z' (sym i))
        go (x ∷ (y ∷ ys)) n i w =
            let t = turn read_name s (omega arith) w in
            let u = t.split in
            let v : x ≡ t.entry = cc in
            let k : after_item s c.at ≡ t.end = ap place_after (passed name_laws s B c.at t.entry t.end t.here) in
            let t' = turn read_name s (omega arith) t.next in
            let u' = t'.split in
            let v' : y ≡ t'.entry = cc in
            let a1 : text_at s c.at ≡ x = name_text s c.at t.entry t.end t.here ∙ sym v in
            let a2 : text_at s (after_item s c.at) ≡ y = ap (text_at s) k ∙ name_text s t.end t'.entry t'.end t'.here ∙ sym v' in
            rw (a1, a2, sym i) at h

-- a path ends where the item does, and one of one or two names where the last of them does
pub path_ends : (s : List ℕ) (at : ℕ) {r : ℕ} → Past s at r → Ends (read_path s at) r
path_ends s at o = record { of = λ p n g. o.is ∙ after_is path_laws s o.each at p n g }

module _ (s : List ℕ) (at : ℕ) (h : at < length s) where
  one_opens : get_or s at 0 ≡ 129 → read_count max_path s at ≡ ok 1 (at + 1)
  unfolding read_count read_kind bind pick
  one_opens b = rw (head_one s at h 4 1 (omega arith) (omega arith) (omega arith) (omega arith))

  two_opens : get_or s at 0 ≡ 130 → read_count max_path s at ≡ ok 2 (at + 1)
  unfolding read_count read_kind bind pick
  two_opens b = rw (head_one s at h 4 2 (omega arith) (omega arith) (omega arith) (omega arith))

  pub name_ends : {r : ℕ} → get_or s at 0 ≡ 129 → Past s (at + 1) r → Ends (read_path s at) r
  unfolding read_path
  name_ends {r} b o = record { of = λ p n g. go p n (list_at read_name s max_path at p n g) }
    where
      go : (p : List Name) (n : ℕ) → ListAt max_path read_name s at p n → r ≡ n
      go p n l =
          let u = l.opens in
          let v = one_opens b in
          let i : length p ≡ 1 = cc in
          let j : l.first ≡ at + 1 = cc in
          let t = turn read_name s (omega arith) (rest_all read_name s l) in
          let k = after_is name_laws s o.each l.first t.entry t.end t.here in
          o.is ∙ ap (after_item s) (sym j) ∙ k ∙ rest_none read_name s (omega arith) t.next

  pub names_end : {m r : ℕ} → get_or s at 0 ≡ 130 → Past s (at + 1) m → Past s m r → Ends (read_path s at) r
  unfolding read_path
  names_end {m} {r} b o w = record { of = λ p n g. go p n (list_at read_name s max_path at p n g) }
    where
      go : (p : List Name) (n : ℕ) → ListAt max_path read_name s at p n → r ≡ n
      go p n l =
          let u = l.opens in
          let v = two_opens b in
          let i : length p ≡ 2 = cc in
          let j : l.first ≡ at + 1 = cc in
          let t = turn read_name s (omega arith) (rest_all read_name s l) in
          let y = turn read_name s (omega arith) t.next in
          let k : m ≡ t.end = o.is ∙ ap (after_item s) (sym j) ∙ after_is name_laws s o.each l.first t.entry t.end t.here in
          w.is ∙ ap (after_item s) k ∙ after_is name_laws s w.each t.end y.entry y.end y.here ∙ rest_none read_name s (omega arith) y.next
