-- By the site.
use mathlib.Core.Path.{refl}
use Rattle.text.specs.Message.{site_form}
use Rattle.text.proofs.PieceLaws.{form_put, told_first, told_second}
use Rattle.text.proofs.pieces.put_both.Goals as goal

pub returns-then-site-eq15-clause-put : goal.returns-then-site-eq15-clause-put
unfolding site_form
returns-then-site-eq15-clause-put c =
    told_first _ _ _ _ _ _ _ _ _ _ c.if-site-eq15.true (form_put _ _ _ _ _ c.put_state-a.ensures.put c.put_ids.ensures.put refl refl refl)

pub returns-clause-put : goal.returns-clause-put
unfolding site_form
returns-clause-put c =
    told_second _ _ _ _ _ _ _ _ _ _ c.requires.site_value c.if-site-eq15.false (form_put _ _ _ _ _ c.put_state-a.ensures.put c.put_ids-2.ensures.put refl refl refl)
