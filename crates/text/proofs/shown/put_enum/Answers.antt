-- One text after another.
use Rattle.typing.specs.Means.{ty_of}
use Rattle.text.specs.Shown.{debug_type}
use Rattle.text.proofs.PutLaws.{◌then◌}
use borrow.Author.Rules.{rules}
use Rattle.text.proofs.shown.put_enum.Goals as goal

pub returns : goal.returns
unfolding debug_type ty_of
returns c = record { put = c.put_bytes-a.ensures then c.put_text-b.ensures.put then c.put_bytes.ensures; upper_bound = search rules }
