-- By whether the table has so many.
use Rattle.text.specs.Message.{site_form}
use Rattle.text.proofs.SiteLaws.{form_in, past_sites}
use Rattle.text.proofs.site.form_of.Goals as goal

pub returns-then-i-lt27 : goal.returns-then-i-lt27
unfolding site_form
returns-then-i-lt27 c = search form_in

pub returns : goal.returns
returns c = search past_sites
