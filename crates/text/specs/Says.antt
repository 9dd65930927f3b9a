-- What the code that finds the arguments of a message promises: for whatever module reads, it says what the definition says.
use Rattle.std.specs.Prelude.{ℕ, zero, suc, ◌≤◌, ◌≡◌, List, cond, length, take, ltb, Option as Maybe, Some, None, Result, ⊤}
use Rattle.std.proofs.Math.Option.{Option, none, some}
use Rattle.std.proofs.Math.ListN.{get_elem?}
use Rattle.reading.specs.Read.{Read, Reader, ok, refused}
use Rattle.reading.specs.Limits.{max_u64, max_list}
use Rattle.reading.specs.Item.{read_number, read_count}
use Rattle.reading.specs.Combine.{list_of}
use Rattle.reading.specs.Decl.{ConstructorVariant, ConstructorGroup, read_constructor_variant}
use Rattle.reading.specs.Transition.{Transition}
use Rattle.reading.specs.Module.{Module, Ir, read_module}
use Rattle.reading.specs.Document.{read_document}
use Rattle.typing.specs.Causes.{Answer}
use Rattle.typing.specs.Guards.{contradictory_equalities}
use Rattle.typing.specs.Patterns.{validate_event_pattern}
use Rattle.typing.specs.Env.{for_module, Agree}
use Rattle.typing.specs.Means.{typed_of, outcome, blame_of, Typed}
use Rattle.typing.specs.Table.{after_item}
use Rattle.typing.specs.Blocks.{env_at}
use Rattle.typing.specs.declared.cause.Blame.{Blame}
use Rattle.findings.specs.Scene.{Bytes, Reads, RowAt, Rows, Scene, StatesAt}
use Rattle.findings.specs.Promises.{Claims}
use Rattle.findings.specs.Errors.{claims}
use Rattle.findings.specs.Finding.{note, in_module}
use Rattle.findings.specs.declared.whole.Ready.{Ready}
use Rattle.findings.specs.Mentions.{states}
use Rattle.text.specs.Message.{Saying, saying, saying_text, message_of, of_given, of_entry, untyped, inside, of_state, of_next, of_pattern, of_guard, of_guard_type, of_set, of_value, of_emit, of_priority, of_two, of_id, of_clash}
use Rattle.text.specs.Put.{Put}
use Rattle.text.specs.Said.{saying_of}
use Rattle.text.specs.declared.said.Said.{Said}

-- the place k items after a place
unfoldable pub passed : ℕ → List ℕ → ℕ → ℕ
passed zero s at = at
passed (suc k) s at = passed k s (after_item s at)

-- entry k of the list at a place
unfoldable pub entry_of : List ℕ → ℕ → Read ℕ → Maybe ℕ
entry_of s k (ok many first) = cond (ltb k many) (Some (passed k s first)) None
entry_of s k (refused f p) = None

unfoldable pub entry_at : ℕ → List ℕ → ℕ → ℕ → Maybe ℕ
entry_at most s at k = entry_of s k (read_count most s at)

-- in a document, which is made of bytes
pub record Picked (most : ℕ) (s : List ℕ) (at k : ℕ) (r : Maybe ℕ) : Type 0 where
  pub is : r ≡ entry_at most s at k
  pub each : Bytes s

-- the entry reads where it was found; or there is none
pub data Entry {A : Type 0} (F : Reader A) (s : List ℕ) : Maybe ℕ → Option A → Type 0 where
  entry_here : {k : ℕ} {x : A} → Reads F s k x → Entry F s (Some k) (some x)
  entry_none : Entry F s None none

-- the variants of a group, if it is given
unfoldable pub variants_in : Option ConstructorGroup → Option (List ConstructorVariant)
variants_in none = none
variants_in (some g) = some g.variants

-- why an expression has no type
pub record Untyped (s : List ℕ) (t : Typed) (r : Result ⊤ Blame) : Type 0 where
  pub of : (a : Answer) (n : ℕ) → typed_of s t ≡ outcome n a → blame_of s r ≡ untyped a

-- what is known of a module's tables: the places of its fields, and with them the names that are declared; its properties and
-- assumptions; both; its State variants
abbrev pub WithNames : List ℕ → List ℕ → List ℕ → List ℕ → Module → Type 0
WithNames s places names enums m = Scene s places m × Agree (env_at s names enums) (for_module m)

abbrev pub WithClaims : List ℕ → List ℕ → List ℕ → Module → Type 0
WithClaims s places properties m = Scene s places m × Claims s properties (claims m)

abbrev pub WithFormulas : List ℕ → List ℕ → List ℕ → List ℕ → List ℕ → Module → Type 0
WithFormulas s places properties names enums m = WithNames s places names enums m × WithClaims s places properties m

abbrev pub WithStates : List ℕ → List ℕ → Maybe ℕ → Module → Type 0
WithStates s places found m = Scene s places m × StatesAt s found (states m)

-- the place of the list of variants of event group i
pub record VariantsOf (places : List ℕ) (i : ℕ) (r : Maybe ℕ) : Type 0 where
  pub of : (s : List ℕ) (m : Module) → Scene s places m → Entry (list_of max_list read_constructor_variant) s r (variants_in (get_elem? m.events i))

-- the places of its transitions' fields, and with them the names that are declared
abbrev pub WithRows : List ℕ → List ℕ → List ℕ → ℕ → Module → Type 0
WithRows s places rows count m = Scene s places m × (Rows s rows m.transitions × (count ≡ length m.transitions))

abbrev pub WithOwn : List ℕ → List ℕ → List ℕ → ℕ → List ℕ → List ℕ → Module → Type 0
WithOwn s places rows count names enums m = WithRows s places rows count m × Agree (env_at s names enums) (for_module m)

-- what X says of a module of which H is known
pub record Says (H : Module → Type 0) (s : List ℕ) (X : Module → Option Saying) (r : Maybe Said) : Type 0 where
  pub of : (m : Module) → H m → saying_of s r ≡ X m

-- what X says of transition i, whose row is known
module _ (s places rows : List ℕ) (i : ℕ) where
  abbrev OfRow : (Module → Transition → Option Saying) → Maybe Said → Type 0
  OfRow X r = (m : Module) (t : Transition) → Scene s places m → RowAt s rows i t → saying_of s r ≡ X m t

  pub record SaysState (r : Maybe Said) : Type 0 where
    pub of : OfRow (λ m t. of_state m i t) r

  pub record SaysNext (r : Maybe Said) : Type 0 where
    pub of : OfRow (λ m t. of_next m i t) r

  pub record SaysSet (j : ℕ) (r : Maybe Said) : Type 0 where
    pub of : OfRow (λ m t. of_entry t.assignments j (of_set m i t)) r

  pub record SaysId (r : Maybe Said) : Type 0 where
    pub of : OfRow of_id r

  pub record SaysClash (r : Maybe Said) : Type 0 where
    pub of : OfRow (λ m t. of_given (λ e. of_given (of_clash m t) (contradictory_equalities e)) t.guard) r

  -- and of transition j
  pub record SaysPriority (j : ℕ) (r : Maybe Said) : Type 0 where
    pub of : (u : Transition) → RowAt s rows j u → OfRow (λ m t. of_given (of_priority m t u) t.priority) r

  pub record SaysPair (j : ℕ) (r : Maybe Said) : Type 0 where
    pub of : (u : Transition) → RowAt s rows j u → OfRow (λ m t. of_two m t u) r

  -- by the names that the transition sees
  module _ (names enums : List ℕ) where
    abbrev OfInside : (Module → Transition → Option Saying) → Maybe Said → Type 0
    OfInside X r = (m : Module) (t : Transition) → Scene s places m → RowAt s rows i t → Agree (env_at s names enums) (inside m t) → saying_of s r ≡ X m t

    pub record SaysGuard (r : Maybe Said) : Type 0 where
      pub of : OfInside (λ m t. of_given (of_guard m i t) t.guard) r

    pub record SaysGuardType (r : Maybe Said) : Type 0 where
      pub of : OfInside (λ m t. of_given (of_guard_type m i t) t.guard) r

    pub record SaysValue (j : ℕ) (r : Maybe Said) : Type 0 where
      pub of : OfInside (λ m t. of_entry t.assignments j (of_value m i t)) r

    pub record SaysEmit (j : ℕ) (r : Maybe Said) : Type 0 where
      pub of : OfInside (λ m t. of_entry t.emits j (of_emit m i t)) r

    -- by site
    pub record SaysInside (site j : ℕ) (r : Maybe Said) : Type 0 where
      pub guard : site ≡ 9 → SaysGuard r
      pub guard_type : site ≡ 10 → SaysGuardType r
      pub value : site ≡ 12 → SaysValue j r
      pub emit : site ≡ 13 → SaysEmit j r

  -- by the names of the module's variables
  module _ (vars enums : List ℕ) where
    abbrev OfJudged : (Module → Transition → Option Saying) → Maybe Said → Type 0
    OfJudged X r = (m : Module) (t : Transition) → Scene s places m → RowAt s rows i t → Agree (env_at s vars enums) (for_module m) → saying_of s r ≡ X m t

    pub record SaysJudged (site j : ℕ) (r : Maybe Said) : Type 0 where
      pub pattern : site ≡ 8 → OfJudged (λ m t. of_pattern m i t) r
      pub guard : site ≡ 9 → OfJudged (λ m t. of_given (of_guard m i t) t.guard) r
      pub guard_type : site ≡ 10 → OfJudged (λ m t. of_given (of_guard_type m i t) t.guard) r
      pub value : site ≡ 12 → OfJudged (λ m t. of_entry t.assignments j (of_value m i t)) r
      pub emit : site ≡ 13 → OfJudged (λ m t. of_entry t.emits j (of_emit m i t)) r

-- by what is wrong with the pattern
pub record SaysPattern (s places : List ℕ) (i : ℕ) (w : Result ⊤ Blame) (r : Maybe Said) : Type 0 where
  pub of : (m : Module) (t : Transition) → Scene s places m → blame_of s w ≡ (validate_event_pattern m.events t.pattern).fault → saying_of s r ≡ of_pattern m i t

-- the number at a place
pub record NumberAt (s : List ℕ) (at r : ℕ) : Type 0 where
  pub of : (most n k : ℕ) → most ≤ max_u64 → read_number most s at ≡ ok n k → r ≡ n

-- all tables of a module
pub record Tables (s places rows : List ℕ) (count : ℕ) (found : Maybe ℕ) (names enums properties : List ℕ) (m : Module) : Type 0 where
  pub scene : Scene s places m
  pub rows_are : Rows s rows m.transitions
  pub count_is : count ≡ length m.transitions
  pub states_at : StatesAt s found (states m)
  pub agree : Agree (env_at s names enums) (for_module m)
  pub claims_are : Claims s properties (claims m)

-- those that a warning needs
pub record Warned (s places rows : List ℕ) (count : ℕ) (found : Maybe ℕ) (m : Module) : Type 0 where
  pub scene : Scene s places m
  pub rows_are : Rows s rows m.transitions
  pub count_is : count ≡ length m.transitions
  pub states_at : StatesAt s found (states m)

-- warnings, which have the sites from 21 on
pub record SaysWarning (H : Module → Type 0) (s : List ℕ) (site i j : ℕ) (r : Maybe Said) : Type 0 where
  pub of : 21 ≤ site → Says H s (saying site i j) r

-- sites 6 to 13, and the others
pub record SaysOwn (H : Module → Type 0) (s : List ℕ) (site i j : ℕ) (r : Maybe Said) : Type 0 where
  pub of : 6 ≤ site → site ≤ 13 → Says H s (saying site i j) r

pub record SaysPlain (H : Module → Type 0) (s : List ℕ) (site i j : ℕ) (r : Maybe Said) : Type 0 where
  pub below : site ≤ 5 → Says H s (saying site i j) r
  pub above : 14 ≤ site → Says H s (saying site i j) r

-- by the words of a table that are in use: the first block of names, so many words of the properties and assumptions
abbrev pub Named : List ℕ → List ℕ → List ℕ → ℕ → Ready → List ℕ → List ℕ → List ℕ → Module → Type 0
Named s places rows count known table enums properties m = Tables s places rows count known.found (take 829 table) enums (take known.claims properties) m

-- what is said of a finding in the module at a place
pub record SaysIn (s : List ℕ) (at site i j : ℕ) (r : Maybe Said) : Type 0 where
  pub of : (m : Module) (n : ℕ) → read_module s at ≡ ok m n → saying_of s r ≡ saying site i j m

-- the place of module number k
pub record ModuleAt (s : List ℕ) (k : ℕ) (r : Maybe ℕ) : Type 0 where
  pub of : (x : Ir) (n : ℕ) → read_document s ≡ ok x n → Entry read_module s r (get_elem? x.modules k)

-- the text of what is said of a finding, by its words
pub record SaysWords (s : List ℕ) (owner site i j : ℕ) (r : Maybe Said) : Type 0 where
  pub of : (x : Ir) (n c : ℕ) → read_document s ≡ ok x n → saying_text site (saying_of s r) ≡ message_of x (in_module owner (note site i j c))

-- what is said, of which S is known, is put into o from place at on
pub record PutsSaid (S : Maybe Said → Type 0) (s : List ℕ) (site : ℕ) (o : List ℕ) (at r : ℕ) (o' : List ℕ) : Type 0 where
  pub said : Maybe Said
  pub says : S said
  pub put : Put o at (saying_text site (saying_of s said)) r o'

-- the message of a finding is put into o from place at on, where H is known of its module
pub record PutsFinding (H : Module → Type 0) (site i j : ℕ) (o : List ℕ) (at r : ℕ) (o' : List ℕ) : Type 0 where
  pub of : (m : Module) → H m → Put o at (saying_text site (saying site i j m)) r o'
