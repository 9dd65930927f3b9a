-- The enum first, then its variant, then the length.
use Rattle.typing.proofs.PathLaws.{enum_unknown, variant_long, variant_is, variant_unknown}
use Rattle.typing.proofs.path.resolve_variant.Goals as goal

pub returns-in_default : goal.returns-in_default
returns-in_default c = search enum_unknown

pub returns-then-segments-gt2 : goal.returns-then-segments-gt2
returns-then-segments-gt2 c = search variant_long

pub returns-then-has_variant : goal.returns-then-has_variant
returns-then-has_variant c = search variant_is

pub returns : goal.returns
returns c = search variant_unknown
