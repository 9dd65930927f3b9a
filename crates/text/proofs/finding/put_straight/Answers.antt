-- What is put is what the site says.
use Rattle.text.proofs.FindingLaws.{first_of_two, finding_5, finding_11, finding_14, finding_15, finding_17, finding_18, finding_19, finding_warning, said_length}
use Rattle.text.proofs.finding.put_straight.Goals as goal

pub returns-in_default-clause-puts_finding : goal.returns-in_default-clause-puts_finding
returns-in_default-clause-puts_finding c = search finding_warning

pub returns-in-11-clause-puts_finding : goal.returns-in-11-clause-puts_finding
returns-in-11-clause-puts_finding c = search finding_11

pub returns-in-11-clause-out_len_unchanged : goal.returns-in-11-clause-out_len_unchanged
returns-in-11-clause-out_len_unchanged c = search said_length

pub returns-in-14-clause-puts_finding : goal.returns-in-14-clause-puts_finding
returns-in-14-clause-puts_finding c = search finding_14

pub returns-in-14-clause-out_len_unchanged : goal.returns-in-14-clause-out_len_unchanged
returns-in-14-clause-out_len_unchanged c = search said_length

pub put_pair_at-requires-clause-site_value : goal.put_pair_at-requires-clause-site_value
put_pair_at-requires-clause-site_value c = search first_of_two

pub returns-in-15-clause-puts_finding : goal.returns-in-15-clause-puts_finding
returns-in-15-clause-puts_finding c = search finding_15

pub returns-in-15-clause-out_len_unchanged : goal.returns-in-15-clause-out_len_unchanged
returns-in-15-clause-out_len_unchanged c = search said_length

pub returns-in-5-clause-puts_finding : goal.returns-in-5-clause-puts_finding
returns-in-5-clause-puts_finding c = search finding_5

pub returns-in-5-clause-out_len_unchanged : goal.returns-in-5-clause-out_len_unchanged
returns-in-5-clause-out_len_unchanged c = search said_length

pub returns-in-17-clause-puts_finding : goal.returns-in-17-clause-puts_finding
returns-in-17-clause-puts_finding c = search finding_17

pub returns-in-17-clause-out_len_unchanged : goal.returns-in-17-clause-out_len_unchanged
returns-in-17-clause-out_len_unchanged c = search said_length

pub returns-in-18-clause-puts_finding : goal.returns-in-18-clause-puts_finding
returns-in-18-clause-puts_finding c = search finding_18

pub returns-in-18-clause-out_len_unchanged : goal.returns-in-18-clause-out_len_unchanged
returns-in-18-clause-out_len_unchanged c = search said_length

pub returns-in-19-clause-puts_finding : goal.returns-in-19-clause-puts_finding
returns-in-19-clause-puts_finding c = search finding_19

pub returns-in-19-clause-out_len_unchanged : goal.returns-in-19-clause-out_len_unchanged
returns-in-19-clause-out_len_unchanged c = search said_length
