-- By whether each has fields.
use Rattle.typing.proofs.EventLaws.{nothing_spares, alone_spares, variant_structs, variant_with, variant_without, variant_units}
use Rattle.typing.proofs.event.judge_variant.Goals as goal

pub returns-then-due-clause-judges_variant : goal.returns-then-due-clause-judges_variant
returns-then-due-clause-judges_variant c = search variant_structs

pub returns-then-has_case-clause-judges_variant : goal.returns-then-has_case-clause-judges_variant
returns-then-has_case-clause-judges_variant c = search variant_with

pub returns-then-has_case-clause-spares : goal.returns-then-has_case-clause-spares
returns-then-has_case-clause-spares c = search alone_spares

pub returns-then-due-2-clause-judges_variant : goal.returns-then-due-2-clause-judges_variant
returns-then-due-2-clause-judges_variant c = search variant_without

pub returns-then-due-2-clause-spares : goal.returns-then-due-2-clause-spares
returns-then-due-2-clause-spares c = search alone_spares

pub returns-clause-judges_variant : goal.returns-clause-judges_variant
returns-clause-judges_variant c = search variant_units

pub returns-clause-spares : goal.returns-clause-spares
returns-clause-spares c = search nothing_spares
