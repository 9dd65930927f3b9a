-- Notes written one list after another, and what a walk has still to note.
use Prim.Native.Nat.{ℕ, ◌+◌, ◌-◌, ◌*◌, ◌≤◌, ◌<◌}
use mathlib.Core.Path.{◌≡◌, refl, subst}
use mathlib.Core.List.{List, [], ◌∷◌, ◌++◌, map-append}
use mathlib.Core.Bool.{Bool, true, false}
use mathlib.Core.Option.{Option, none, some}
use native.Mathlib.Omega.{arith}
use lib.ListN.{length}
use lib.Seq.{sets}
use lib.Dec.{eqb}
use borrow.Author.Tests.{eq-eqb, ne_eqb}
use Rattle.typing.specs.Causes as causes
use Rattle.typing.specs.Causes.{Cause, Blame, cause_word, blame_word, number}
use Rattle.findings.specs.Finding.{Note, note, in_module, words, noted, caused, blamed}
use Rattle.findings.specs.Noting.{Noted, numbered}
use Rattle.findings.proofs.SheetLaws.{nothing, then, written_before, written_full, written_one}

module _ (owner : ℕ) where
  pub note_nothing : (o : List ℕ) (skip n : ℕ) → Noted owner o skip n [] n o
  note_nothing o skip n = record { written = nothing o skip n }

  pub note_then : {o o' o'' : List ℕ} {skip n r r' : ℕ} {xs ys : List Note} → Noted owner o skip n xs r o' → Noted owner o' skip r ys r' o'' → Noted owner o skip n (xs ++ ys) r' o''
  note_then {xs} {ys} p q = record { written = rw (map-append (in_module owner) xs ys) (then p.written q.written) }

  -- the same notes, told otherwise
  pub note_as : {o o' : List ℕ} {skip n r : ℕ} {xs : List Note} (ys : List Note) → xs ≡ ys → Noted owner o skip n xs r o' → Noted owner o skip n ys r o'
  note_as {o} {o'} {skip} {n} {r} ys e p = subst (λ (x : List Note). Noted owner o skip n x r o') e p

  module _ {o : List ℕ} {skip n : ℕ} {x : Note} where
    pub note_before : n < skip → Noted owner o skip n (x ∷ []) (n + 1) o
    note_before h = record { written = written_before h }

    pub note_full : length o < 5 * (n - skip) + 5 → Noted owner o skip n (x ∷ []) (n + 1) o
    note_full h = record { written = written_full h }

    pub note_one : {o' : List ℕ} {w : ℕ} → skip ≤ n → 5 * (n - skip) + 5 ≤ length o → w ≡ 5 * (n - skip) → o' ≡ sets o w (words (in_module owner x)) → Noted owner o skip n (x ∷ []) (n + 1) o'
    note_one h l e p = record { written = written_one h l e p }

  -- a note by a test, and by a cause's number
  module _ {o o' : List ℕ} {skip n r : ℕ} {x : Note} {b : Bool} where
    pub noted_yes : b ≡ true → Noted owner o skip n (x ∷ []) r o' → Noted owner o skip n (noted b x) r o'
    noted_yes e p = rw e p

  pub noted_no : {o : List ℕ} {skip n : ℕ} (x : Note) {b : Bool} → b ≡ false → Noted owner o skip n (noted b x) n o
  noted_no {o} {skip} {n} x e = rw e (note_nothing o skip n)

  pub numbered_none : {o : List ℕ} {skip n : ℕ} (site first second : ℕ) {c : ℕ} → c ≡ 0 → Noted owner o skip n (numbered site first second c) n o
  unfolding numbered
  numbered_none {o} {skip} {n} site first second {c} e = rw (eq-eqb c 0 e) (note_nothing o skip n)

  pub numbered_one : {o o' : List ℕ} {skip n r site first second c : ℕ} → (c ≡ 0 → ⊥) → Noted owner o skip n (note site first second c ∷ []) r o' → Noted owner o skip n (numbered site first second c) r o'
  unfolding numbered
  numbered_one {c} e p = rw (ne_eqb c 0 e) p

  -- one note is one number more
  pub note_more : {o o' : List ℕ} {skip n r : ℕ} {x : Note} → Noted owner o skip n (x ∷ []) r o' → r ≤ n + 1
  note_more p = omega (arith, p.written.count)

-- a cause's number is never 0
cause_number : (c : Cause) → eqb (number c) 0 ≡ false
unfolding number
cause_number (causes.unknown_event_group g) = refl
cause_number (causes.unknown_event_variant v g) = refl
cause_number (causes.field_count v m n) = refl
cause_number (causes.duplicate_binding n) = refl
cause_number (causes.unit_with_fields v) = refl
cause_number (causes.fields_without v) = refl
cause_number (causes.does_not_fit v w) = refl
cause_number causes.integer_on_bool = refl
cause_number causes.integer_on_enum = refl
cause_number causes.boolean_literal = refl
cause_number (causes.variant_path p e) = refl
cause_number causes.variant_on_non_enum = refl
cause_number (causes.unknown_output_group g) = refl
cause_number (causes.bare_output g) = refl
cause_number (causes.unknown_output_variant v g) = refl
cause_number (causes.argument_count v m n) = refl
cause_number (causes.must_be_bool w t) = refl
cause_number causes.bit_not = refl
cause_number causes.negation = refl
cause_number causes.empty_path = refl
cause_number (causes.unknown_identifier n) = refl
cause_number (causes.unknown_enum e) = refl
cause_number (causes.unknown_variant v e) = refl
cause_number (causes.path_length n) = refl
cause_number causes.shift_left = refl
cause_number causes.shift_right = refl
cause_number (causes.width_mismatch a b) = refl
cause_number causes.needs_bitvectors = refl
cause_number causes.integer_as_bool = refl
cause_number (causes.type_mismatch a b) = refl
cause_number causes.binding_in_formula = refl

-- the cause's number tells whether there is one
pub caused_numbered : (site first second : ℕ) (o : Option Cause) → numbered site first second (cause_word o) ≡ caused (λ c. note site first second c) o
unfolding numbered cause_word caused
caused_numbered site first second none = refl
caused_numbered site first second (some c) = rw (cause_number c)

pub blamed_numbered : (site first second : ℕ) (o : Option Blame) → numbered site first second (blame_word o) ≡ blamed (λ c. note site first second c) o
unfolding numbered blame_word blamed
blamed_numbered site first second none = refl
blamed_numbered site first second (some b) = rw (cause_number b.cause)
