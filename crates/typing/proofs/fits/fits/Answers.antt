-- From 64 on every u64 fits; below, the shift is the power of two.
use borrow.Author.Rules.{rules}
use Rattle.typing.proofs.FitLaws.{fit_wide, fit_narrow}
use Rattle.typing.proofs.fits.fits.Goals as goal

pub returns-then-width-ge64 : goal.returns-then-width-ge64
returns-then-width-ge64 c = fit_wide _ _ (search rules) (search rules)

pub returns : goal.returns
returns c = fit_narrow _ _ (search rules)
