-- No list, a list with a fault, or a list of names.
use Rattle.text.proofs.PutLaws.{put_is}
use Rattle.text.proofs.PathLaws.{path_refused, path_few, path_none, path_names}
use borrow.Author.Rules.{rules}
use Rattle.text.proofs.path.put_names.Goals as goal

pub returns-in_default : goal.returns-in_default
returns-in_default c = record { put = put_is (path_refused _ _ c.count.ensures c.in_default.is) c.put_bytes.ensures; upper_bound = search rules }

pub put_list-requires : goal.put_list-requires
put_list-requires c =
    let k = c.in-Ok.is in
    let few = path_few _ _ c.count.ensures k in
    (search rules, search rules, few)

pub returns-then-names_read : goal.returns-then-names_read
returns-then-names_read c = record { put = put_is (path_names _ _ c.count.ensures c.in-Ok.is c.names_read.ensures c.if-names_read.true) c.put_list.ensures.put; upper_bound = search rules }

pub returns : goal.returns
returns c = record { put = put_is (path_none _ _ c.count.ensures c.in-Ok.is c.names_read.ensures c.if-names_read.false) c.put_bytes-2.ensures; upper_bound = search rules }
