-- The laws of modules, from those of their fields; and of a document's content, whose first number has a refusal of its own.
use Prim.Native.Nat.{ℕ}
use mathlib.Core.Path.{◌≡◌, refl}
use mathlib.Core.List.{List, append_assoc}
use mathlib.Core.Logic.{◌⊎◌, inl, inr}
use native.Mathlib.Omega.{arith}
use borrow.Author.Tests.{ltb-true}
use Rattle.reading.specs.Read.{Reader, ok}
use Rattle.reading.specs.Item.{read_number, read_ir_version}
use Rattle.reading.specs.Combine.{◌then◌, record_of, list_of}
use Rattle.reading.specs.Items.{Items}
use Rattle.reading.specs.Refusals.{NewerVersion}
use Rattle.reading.specs.declared.fault.Fault.{Fault}
use Rattle.reading.specs.declared.fault.Fault.TheVariants.{UnknownVersion}
use Rattle.reading.proofs.Rules.{pick_false, bind_ok, map_ok}
use Rattle.reading.proofs.Gives.{Gives, gives_ok, gives_refused, gives_pick, gives_bind, gives_map}
use Rattle.reading.proofs.Blames.{Blames, Inner, blames_ok, blames_refused, blames_pick, blames_bind, blames_map, kind_blames}
use Rattle.reading.proofs.At.{At}
use Rattle.reading.proofs.HeadSound.{Bytes}
use Rattle.reading.specs.Limits.{max_list, max_depth, max_modules, max_version}
use Rattle.reading.specs.Expr.{read_expr}
use Rattle.reading.specs.Formula.{read_formula}
use Rattle.reading.specs.Module.{Ir, read_property, read_module, read_ir, enc_property, enc_module, enc_ir, WithinProperty, WithinModule, WithinIr}
use Rattle.reading.proofs.Formats.{Is, Laws, From, of, deeper, flat, by_bytes, item_sound}
use Rattle.reading.proofs.ExprLaws.{name_laws, name_solid, version_laws, version_solid}
use Rattle.reading.proofs.DeclLaws.{enum_decl_laws, constructor_group_laws, var_decl_laws}
use Rattle.reading.proofs.TransitionLaws.{on_error_laws, on_error_solid, transition_laws}
use Rattle.reading.proofs.FormulaLaws.{formula_laws}
use Rattle.reading.proofs.ItemLaws.{number_laws, fields_blames}
use Rattle.reading.proofs.RecordLaws.{◌also◌, record_laws}
use Rattle.reading.proofs.ListLaws.{list_laws}
use Rattle.reading.proofs.OptionLaws.{option_laws}

pub property_laws : Laws read_property enc_property WithinProperty 1 (From (read_formula max_depth))
unfolding read_property enc_property WithinProperty
property_laws = record_laws (flat name_laws also of (formula_laws max_depth)) _ (λ x. (x.name, x.formula)) (λ _. refl) (λ _. refl) (omega arith)

-- where a top expression or formula is too deep
abbrev pub Nested : List ℕ → ℕ → Type 0
Nested s p = From (read_expr max_depth) s p ⊎ From (read_formula max_depth) s p

pub module_laws : Laws read_module enc_module WithinModule 1 Nested
unfolding read_module enc_module WithinModule
module_laws =
    by_bytes (λ _. simp append_assoc)
    (record_laws
    (flat name_laws
    also flat (option_laws version_laws version_solid)
    also of (deeper (λ s p. inl) (option_laws on_error_laws on_error_solid))
    also flat (list_laws enum_decl_laws max_list (omega arith))
    also flat (option_laws name_laws name_solid)
    also flat (list_laws constructor_group_laws max_list (omega arith))
    also flat (list_laws constructor_group_laws max_list (omega arith))
    also of (deeper (λ s p. inl) (list_laws var_decl_laws max_list (omega arith)))
    also of (deeper (λ s p. inl) (list_laws transition_laws max_list (omega arith)))
    also of (deeper (λ s p. inr) (list_laws property_laws max_list (omega arith)))
    also of (deeper (λ s p. inr) (list_laws property_laws max_list (omega arith))))
    _
    (λ x. (x.name, (x.version, (x.on_error, (x.enums, (x.initial_state, (x.events, (x.outputs, (x.vars, (x.transitions, (x.properties, x.assumptions)))))))))))
    (λ _. refl) (λ _. refl) (omega arith))

-- whatever F accepts, G accepts alike
abbrev pub Agree : {A : Type 0} → Reader A → Reader A → Type 0
Agree F G = (s : List ℕ) (at : ℕ) → Gives (λ x n. G s at ≡ ok x n) (F s at)

then_agrees : {A B : Type 0} {F G : Reader A} (H : Reader B) → Agree F G → Agree (F then H) (G then H)
unfolding ◌then◌
then_agrees {F = F} {G = G} H h s at =
    gives_bind _ _ _ λ a n e. gives_map (λ x m. (G then H) s at ≡ ok x m) (λ b. (a, b)) _ λ b m q. rw (h s at a n e, bind_ok, q, map_ok)

record_agrees : {A B : Type 0} (k : ℕ) {F G : Reader A} (make : A → B) → Agree F G → Agree (record_of k F make) (record_of k G make)
unfolding record_of
record_agrees k {F} {G} make h s at =
    gives_bind _ _ _ λ u n e. gives_map (λ x m. record_of k G make s at ≡ ok x m) make _ λ a m q. rw (e, bind_ok, h s n a m q, map_ok)

pub version_agrees : Agree read_ir_version (read_number max_version)
unfolding read_ir_version read_number
version_agrees s at =
    gives_bind _ _ _ λ v n e. gives_pick _ _ _ _ (λ _. gives_refused _ _ _) λ q. gives_ok (λ x m. read_number max_version s at ≡ ok x m) v n (rw (e, bind_ok, q, pick_false))

number_agrees : Agree (read_number max_version) read_ir_version
unfolding read_ir_version read_number
number_agrees s at =
    gives_bind _ _ _ λ v n e. gives_pick _ _ _ _ (λ _. gives_refused _ _ _) λ q. gives_ok (λ x m. read_ir_version s at ≡ ok x m) v n (rw (e, bind_ok, q, pick_false))

-- the same with a number of the usual kind
abbrev plain_ir : Reader Ir
plain_ir = record_of 2 (read_number max_version then list_of max_modules read_module) λ p. record { ir_version = p.0; modules = p.1 }

plain_laws : Laws plain_ir enc_ir WithinIr 1 Nested
unfolding enc_ir WithinIr
plain_laws =
    record_laws (flat (number_laws max_version (omega arith)) also of (list_laws module_laws max_modules (omega arith))) _ (λ x. (x.ir_version, x.modules)) (λ _. refl) (λ _. refl) (omega arith)

ir_agrees : Agree read_ir plain_ir
unfolding read_ir
ir_agrees = record_agrees 2 _ (then_agrees (list_of max_modules read_module) version_agrees)

plain_agrees : Agree plain_ir read_ir
unfolding read_ir
plain_agrees = record_agrees 2 _ (then_agrees (list_of max_modules read_module) number_agrees)

pub ir_sound : (s : List ℕ) → Bytes s → (at : ℕ) → Gives (Is WithinIr enc_ir s at) (read_ir s at)
ir_sound s B at x n e = item_sound plain_laws s B at x n (ir_agrees s at x n e)

pub ir_complete : (s : List ℕ) (at : ℕ) (x : Ir) (n : ℕ) → WithinIr x → At s at (enc_ir x) n → read_ir s at ≡ ok x n
ir_complete s at x n w a = plain_agrees s at x n (plain_laws.complete s at x n w a)

pub ir_items : (s : List ℕ) (at : ℕ) → Gives (λ _ n. Items s 1 at n) (read_ir s at)
ir_items s at x n e = plain_laws.items s at x n (ir_agrees s at x n e)

-- a fault of an item, or 9
pub ir_blames : (s : List ℕ) (at : ℕ) → Blames (λ f p. Inner (Nested s) f p ⊎ ((f ≡ UnknownVersion) × NewerVersion s at p)) (read_ir s at)
unfolding read_ir record_of ◌then◌ read_ir_version
ir_blames s at =
    let Q : Fault → ℕ → Type 0 = λ f p. Inner (Nested s) f p ⊎ ((f ≡ UnknownVersion) × NewerVersion s at p) in
    blames_bind Q _ _ (λ f p e. inl (fields_blames s at 2 f p e)) λ u n o.
    blames_map Q _ _
    (blames_bind Q _ _
    (blames_bind Q _ _ (λ f p e. inl (kind_blames s n 0 f p e)) λ v m e.
    blames_pick Q _ _ _ (λ q. blames_refused Q _ _ (inr (refl, record { opens = o; version = v; end = m; number = e; newer = ltb-true _ _ q }))) (λ _. blames_ok Q _ _))
    λ v m e. blames_map Q _ _ λ f p q. inl ((list_laws module_laws max_modules (omega arith)).blames s m f p q))
