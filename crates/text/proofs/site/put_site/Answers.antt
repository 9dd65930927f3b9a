-- Its form is put.
use borrow.Author.Rules.{rules}
use Rattle.text.proofs.SiteLaws.{short_form}
use Rattle.text.proofs.site.put_site.Goals as goal

pub put_form-requires : goal.put_form-requires
put_form-requires c = (search rules, search rules, rw c.form_of.ensures (short_form _))

pub returns : goal.returns
returns c = record { put = rw c.form_of.ensures at c.put_form.ensures.put; upper_bound = search rules }
