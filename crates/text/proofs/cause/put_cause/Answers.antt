-- By the cause's case.
use mathlib.Core.Path.{refl}
use Rattle.typing.specs.Means.{cause_of}
use Rattle.text.specs.CauseText.{cause_text}
use Rattle.text.proofs.CauseLaws.{name_told, pair_told, trio_told}
use Rattle.text.proofs.cause.put_cause.Goals as goal

pub returns-in-UnknownEventGroup-clause-put : goal.returns-in-UnknownEventGroup-clause-put
unfolding cause_text cause_of
returns-in-UnknownEventGroup-clause-put c = name_told _ c.in-UnknownEventGroup.is c.put_name.ensures.put_within refl refl refl

pub returns-in-DuplicateBinding-clause-put : goal.returns-in-DuplicateBinding-clause-put
unfolding cause_text cause_of
returns-in-DuplicateBinding-clause-put c = name_told _ c.in-DuplicateBinding.is c.put_name-in-DuplicateBinding.ensures.put_within refl refl refl

pub returns-in-UnitWithFields-clause-put : goal.returns-in-UnitWithFields-clause-put
unfolding cause_text cause_of
returns-in-UnitWithFields-clause-put c = name_told _ c.in-UnitWithFields.is c.put_name-in-UnitWithFields.ensures.put_within refl refl refl

pub returns-in-FieldsWithout-clause-put : goal.returns-in-FieldsWithout-clause-put
unfolding cause_text cause_of
returns-in-FieldsWithout-clause-put c = name_told _ c.in-FieldsWithout.is c.put_name-in-FieldsWithout.ensures.put_within refl refl refl

pub returns-in-UnknownOutputGroup-clause-put : goal.returns-in-UnknownOutputGroup-clause-put
unfolding cause_text cause_of
returns-in-UnknownOutputGroup-clause-put c = name_told _ c.in-UnknownOutputGroup.is c.put_name-in-UnknownOutputGroup.ensures.put_within refl refl refl

pub returns-in-BareOutput-clause-put : goal.returns-in-BareOutput-clause-put
unfolding cause_text cause_of
returns-in-BareOutput-clause-put c = name_told _ c.in-BareOutput.is c.put_name-in-BareOutput.ensures.put_within refl refl refl

pub returns-in-UnknownIdentifier-clause-put : goal.returns-in-UnknownIdentifier-clause-put
unfolding cause_text cause_of
returns-in-UnknownIdentifier-clause-put c = name_told _ c.in-UnknownIdentifier.is c.put_name-in-UnknownIdentifier.ensures.put_within refl refl refl

pub returns-in-UnknownEnum-clause-put : goal.returns-in-UnknownEnum-clause-put
unfolding cause_text cause_of
returns-in-UnknownEnum-clause-put c = name_told _ c.in-UnknownEnum.is c.put_name-in-UnknownEnum.ensures.put_within refl refl refl

pub returns-in-UnknownEventVariant-clause-put : goal.returns-in-UnknownEventVariant-clause-put
unfolding cause_text cause_of
returns-in-UnknownEventVariant-clause-put c = pair_told _ c.in-UnknownEventVariant.is c.put_variant.ensures.put refl refl refl refl

pub returns-in-UnknownOutputVariant-clause-put : goal.returns-in-UnknownOutputVariant-clause-put
unfolding cause_text cause_of
returns-in-UnknownOutputVariant-clause-put c = pair_told _ c.in-UnknownOutputVariant.is c.put_variant-in-UnknownOutputVariant.ensures.put refl refl refl refl

pub returns-in-UnknownVariant-clause-put : goal.returns-in-UnknownVariant-clause-put
unfolding cause_text cause_of
returns-in-UnknownVariant-clause-put c = pair_told _ c.in-UnknownVariant.is c.put_variant-in-UnknownVariant.ensures.put refl refl refl refl

pub returns-in-DoesNotFit-clause-put : goal.returns-in-DoesNotFit-clause-put
unfolding cause_text cause_of
returns-in-DoesNotFit-clause-put c = pair_told _ c.in-DoesNotFit.is c.put_widths.ensures.put refl refl refl refl

pub returns-in-WidthMismatch-clause-put : goal.returns-in-WidthMismatch-clause-put
unfolding cause_text cause_of
returns-in-WidthMismatch-clause-put c = pair_told _ c.in-WidthMismatch.is c.put_widths-in-WidthMismatch.ensures.put refl refl refl refl

pub returns-in-FieldCount-clause-put : goal.returns-in-FieldCount-clause-put
unfolding cause_text cause_of
returns-in-FieldCount-clause-put c = trio_told _ c.in-FieldCount.is c.put_counts.ensures.put refl refl refl refl

pub returns-in-ArgumentCount-clause-put : goal.returns-in-ArgumentCount-clause-put
unfolding cause_text cause_of
returns-in-ArgumentCount-clause-put c = trio_told _ c.in-ArgumentCount.is c.put_counts-in-ArgumentCount.ensures.put refl refl refl refl
