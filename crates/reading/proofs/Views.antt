-- From a record that is read to its fields: each stands where the one before it ends.
use Prim.Native.Nat.{ℕ}
use mathlib.Core.Path.{◌≡◌}
use mathlib.Core.List.{List}
use Rattle.reading.specs.Read.{Reader, ok}
use Rattle.reading.specs.Item.{read_fields}
use Rattle.reading.specs.Combine.{◌then◌, record_of}
use Rattle.reading.specs.Decl.{read_enum_decl, read_field_decl, read_constructor_group, read_var_decl}
use Rattle.reading.specs.Pattern.{read_pattern_field, read_pattern}
use Rattle.reading.specs.Transition.{read_output_expr, read_assignment, read_on_error, read_transition}
use Rattle.reading.specs.Module.{read_property, read_module, read_ir}
use Rattle.reading.specs.Document.{read_document}
use Rattle.reading.specs.Views.{EnumDeclAt, FieldDeclAt, ConstructorGroupAt, VarDeclAt, PatternFieldAt, PatternAt, OutputExprAt, AssignmentAt, OnErrorAt, TransitionAt, PropertyAt, ModuleAt, IrAt}
use Rattle.reading.proofs.Gives.{Gives, gives_ok, gives_refused, gives_pick, gives_bind, gives_map}

-- one after the other
pub record Both {A B : Type 0} (F : Reader A) (G : Reader B) (s : List ℕ) (at : ℕ) (p : A × B) (n : ℕ) : Type 0 where
  pub place : ℕ
  pub first : F s at ≡ ok p.0 place
  pub second : G s place ≡ ok p.1 n

pub both : {A B : Type 0} {F : Reader A} {G : Reader B} {s : List ℕ} {at : ℕ} → Gives (Both F G s at) ((F then G) s at)
unfolding ◌then◌
both {A} {B} {F} {G} {s} {at} = gives_bind _ _ _ λ a k e. gives_map (Both F G s at) _ _ λ b n q. record { place = k; first = e; second = q }

-- a record: its array, then its fields
record_gives : {A B : Type 0} (k : ℕ) (F : Reader A) (make : A → B) (s : List ℕ) (at : ℕ) (P : B → ℕ → Type 0) → ((a : A) (m n : ℕ) → read_fields k s at ≡ ok tt m → F s m ≡ ok a n → P (make a) n) → Gives P (record_of k F make s at)
unfolding record_of
record_gives k F make s at P h = gives_bind P _ _ λ u m e. gives_map P make (F s m) λ a n q. h a m n e q

pub enum_decl_at : (s : List ℕ) (at : ℕ) → Gives (EnumDeclAt s at) (read_enum_decl s at)
unfolding read_enum_decl
enum_decl_at s at = record_gives _ _ _ s at (EnumDeclAt s at) λ p m n o e.
    let b1 = both _ _ e in
    record { name = m; variants = b1.place; opens = o; name_is = b1.first; variants_is = b1.second }

pub field_decl_at : (s : List ℕ) (at : ℕ) → Gives (FieldDeclAt s at) (read_field_decl s at)
unfolding read_field_decl
field_decl_at s at = record_gives _ _ _ s at (FieldDeclAt s at) λ p m n o e.
    let b1 = both _ _ e in
    record { name = m; ty = b1.place; opens = o; name_is = b1.first; ty_is = b1.second }

pub constructor_group_at : (s : List ℕ) (at : ℕ) → Gives (ConstructorGroupAt s at) (read_constructor_group s at)
unfolding read_constructor_group
constructor_group_at s at = record_gives _ _ _ s at (ConstructorGroupAt s at) λ p m n o e.
    let b1 = both _ _ e in
    record { name = m; variants = b1.place; opens = o; name_is = b1.first; variants_is = b1.second }

pub var_decl_at : (s : List ℕ) (at : ℕ) → Gives (VarDeclAt s at) (read_var_decl s at)
unfolding read_var_decl
var_decl_at s at = record_gives _ _ _ s at (VarDeclAt s at) λ p m n o e.
    let b1 = both _ _ e in
    let b2 = both _ _ b1.second in
    record { name = m; ty = b1.place; init = b2.place; opens = o; name_is = b1.first; ty_is = b2.first; init_is = b2.second }

pub pattern_field_at : (s : List ℕ) (at : ℕ) → Gives (PatternFieldAt s at) (read_pattern_field s at)
unfolding read_pattern_field
pattern_field_at s at = record_gives _ _ _ s at (PatternFieldAt s at) λ p m n o e.
    let b1 = both _ _ e in
    record { name = m; pattern = b1.place; opens = o; name_is = b1.first; pattern_is = b1.second }

pub pattern_at : (s : List ℕ) (at : ℕ) → Gives (PatternAt s at) (read_pattern s at)
unfolding read_pattern
pattern_at s at = record_gives _ _ _ s at (PatternAt s at) λ p m n o e.
    let b1 = both _ _ e in
    record { group = m; variant = b1.place; opens = o; group_is = b1.first; variant_is = b1.second }

pub output_expr_at : (s : List ℕ) (at : ℕ) → Gives (OutputExprAt s at) (read_output_expr s at)
unfolding read_output_expr
output_expr_at s at = record_gives _ _ _ s at (OutputExprAt s at) λ p m n o e.
    let b1 = both _ _ e in
    let b2 = both _ _ b1.second in
    record { group = m; variant = b1.place; args = b2.place; opens = o; group_is = b1.first; variant_is = b2.first; args_is = b2.second }

pub assignment_at : (s : List ℕ) (at : ℕ) → Gives (AssignmentAt s at) (read_assignment s at)
unfolding read_assignment
assignment_at s at = record_gives _ _ _ s at (AssignmentAt s at) λ p m n o e.
    let b1 = both _ _ e in
    record { var = m; value = b1.place; opens = o; var_is = b1.first; value_is = b1.second }

pub on_error_at : (s : List ℕ) (at : ℕ) → Gives (OnErrorAt s at) (read_on_error s at)
unfolding read_on_error
on_error_at s at = record_gives _ _ _ s at (OnErrorAt s at) λ p m n o e.
    let b1 = both _ _ e in
    record { next_state = m; emits = b1.place; opens = o; next_state_is = b1.first; emits_is = b1.second }

pub transition_at : (s : List ℕ) (at : ℕ) → Gives (TransitionAt s at) (read_transition s at)
unfolding read_transition
transition_at s at = record_gives _ _ _ s at (TransitionAt s at) λ p m n o e.
    let b1 = both _ _ e in
    let b2 = both _ _ b1.second in
    let b3 = both _ _ b2.second in
    let b4 = both _ _ b3.second in
    let b5 = both _ _ b4.second in
    let b6 = both _ _ b5.second in
    let b7 = both _ _ b6.second in
    record { id = m; state = b1.place; pattern = b2.place; guard = b3.place; next_state = b4.place; emits = b5.place; assignments = b6.place; priority = b7.place; opens = o; id_is = b1.first; state_is = b2.first; pattern_is = b3.first; guard_is = b4.first; next_state_is = b5.first; emits_is = b6.first; assignments_is = b7.first; priority_is = b7.second }

pub property_at : (s : List ℕ) (at : ℕ) → Gives (PropertyAt s at) (read_property s at)
unfolding read_property
property_at s at = record_gives _ _ _ s at (PropertyAt s at) λ p m n o e.
    let b1 = both _ _ e in
    record { name = m; formula = b1.place; opens = o; name_is = b1.first; formula_is = b1.second }

pub module_at : (s : List ℕ) (at : ℕ) → Gives (ModuleAt s at) (read_module s at)
unfolding read_module
module_at s at = record_gives _ _ _ s at (ModuleAt s at) λ p m n o e.
    let b1 = both _ _ e in
    let b2 = both _ _ b1.second in
    let b3 = both _ _ b2.second in
    let b4 = both _ _ b3.second in
    let b5 = both _ _ b4.second in
    let b6 = both _ _ b5.second in
    let b7 = both _ _ b6.second in
    let b8 = both _ _ b7.second in
    let b9 = both _ _ b8.second in
    let b10 = both _ _ b9.second in
    record { name = m; version = b1.place; on_error = b2.place; enums = b3.place; initial_state = b4.place; events = b5.place; outputs = b6.place; vars = b7.place; transitions = b8.place; properties = b9.place; assumptions = b10.place; opens = o; name_is = b1.first; version_is = b2.first; on_error_is = b3.first; enums_is = b4.first; initial_state_is = b5.first; events_is = b6.first; outputs_is = b7.first; vars_is = b8.first; transitions_is = b9.first; properties_is = b10.first; assumptions_is = b10.second }

pub ir_at : (s : List ℕ) (at : ℕ) → Gives (IrAt s at) (read_ir s at)
unfolding read_ir
ir_at s at = record_gives _ _ _ s at (IrAt s at) λ p m n o e.
    let b1 = both _ _ e in
    record { ir_version = m; modules = b1.place; opens = o; ir_version_is = b1.first; modules_is = b1.second }

-- an accepted document is read from its start
pub document_at : (s : List ℕ) → Gives (λ x n. read_ir s 0 ≡ ok x n) (read_document s)
unfolding read_document
document_at s =
    gives_pick _ _ _ _ (λ _. gives_refused _ _ _) λ _.
    gives_bind _ _ _ λ x n e.
    gives_pick _ _ _ _ (λ _. gives_refused _ _ _) λ _. gives_ok (λ x n. read_ir s 0 ≡ ok x n) x n e
