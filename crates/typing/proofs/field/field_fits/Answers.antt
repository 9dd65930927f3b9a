-- By what is wrong with its pattern.
use Rattle.typing.proofs.FieldLaws.{fits_fine, fits_not}
use Rattle.typing.proofs.field.field_fits.Goals as goal

pub returns-in-Ok : goal.returns-in-Ok
returns-in-Ok c = search fits_fine

pub returns-in-Err : goal.returns-in-Err
returns-in-Err c = search fits_not
