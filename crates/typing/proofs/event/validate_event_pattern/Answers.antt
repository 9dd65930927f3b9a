-- By the first group of its name, then by its variant, which may be absent.
use Rattle.typing.proofs.EventLaws.{nothing_spares, alone_spares, pattern_none, pattern_bare_lem, variant_goes}
use Rattle.typing.proofs.event.validate_event_pattern.Goals as goal

pub returns-in_default-clause-judges_pattern : goal.returns-in_default-clause-judges_pattern
returns-in_default-clause-judges_pattern c = search pattern_none

pub returns-in_default-clause-spares : goal.returns-in_default-clause-spares
returns-in_default-clause-spares c = search alone_spares

pub returns-then-null_at-clause-judges_pattern : goal.returns-then-null_at-clause-judges_pattern
returns-then-null_at-clause-judges_pattern c = search pattern_bare_lem

pub returns-then-null_at-clause-spares : goal.returns-then-null_at-clause-spares
returns-then-null_at-clause-spares c = search nothing_spares

pub returns-clause-judges_pattern : goal.returns-clause-judges_pattern
returns-clause-judges_pattern c = search variant_goes
