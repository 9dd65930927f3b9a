use Rattle.text.proofs.PutLaws.{put_none, put_is, ◌then◌}
use Rattle.text.proofs.DecimalLaws.{digits_none, digits_one, digits_more}
use Rattle.text.proofs.decimal.+put_digits.Goals as goal

pub returns-then-left-eq0-clause-put : goal.returns-then-left-eq0-clause-put
returns-then-left-eq0-clause-put t c = put_none (digits_none _ _ c.if-left-eq0.true)

pub returns-then-n-lt10-clause-put : goal.returns-then-n-lt10-clause-put
returns-then-n-lt10-clause-put t c = put_is (digits_one _ _ c.if-left-eq0.false c.if-n-lt10.true c.digit.ensures) c.put_byte.ensures.put

pub returns-clause-put : goal.returns-clause-put
returns-clause-put t c = put_is (digits_more _ _ c.if-left-eq0.false c.if-n-lt10.false c.digit-2.ensures) (c.put_digits-k.ensures.put then c.put_byte-2.ensures.put)
