-- No name, or the first and then the others.
use native.Mathlib.Omega.{arith}
use Rattle.text.proofs.PutLaws.{put_is, ◌then◌}
use Rattle.text.proofs.PathLaws.{list_none, list_some}
use borrow.Author.Rules.{rules}
use Rattle.text.proofs.path.put_list.Goals as goal

pub returns-then-count-eq0 : goal.returns-then-count-eq0
returns-then-count-eq0 c = record { put = put_is (list_none _ _ _ c.if-count-eq0.true) c.put_bytes.ensures; upper_bound = search rules }

pub returns : goal.returns
returns c =
    record {
      put = put_is (list_some _ _ _ c.if-count-eq0.false c.after_name.ensures)
          (c.put_bytes-a.ensures then c.put_quoted-b.ensures.put then c.put_more-c.ensures.put then c.put_bytes-2.ensures);
      upper_bound = omega (arith, c.put_bytes-a.ensures.next, c.put_quoted-b.ensures.upper_bound, c.put_more-c.ensures.upper_bound, c.put_bytes-2.ensures.next, c.requires.2);
    }
