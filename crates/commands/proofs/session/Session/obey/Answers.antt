use Rattle.std.proofs.Common.{rules}
use Rattle.commands.proofs.SessionLaws.{same_session}
use Rattle.commands.proofs.session.Session.obey.Goals as goal

pub returns-in_err-site-in-Lay-clause-question_or_refusal_changes_nothing : goal.returns-in_err-site-in-Lay-clause-question_or_refusal_changes_nothing
returns-in_err-site-in-Lay-clause-question_or_refusal_changes_nothing g c left = same_session _ _ (search rules)

pub returns-in-Err-clause-question_or_refusal_changes_nothing : goal.returns-in-Err-clause-question_or_refusal_changes_nothing
returns-in-Err-clause-question_or_refusal_changes_nothing g c left = same_session _ _ (search rules)

pub returns-in_err-ok_or-in-Take-clause-question_or_refusal_changes_nothing : goal.returns-in_err-ok_or-in-Take-clause-question_or_refusal_changes_nothing
returns-in_err-ok_or-in-Take-clause-question_or_refusal_changes_nothing g c left = same_session _ _ (search rules)

pub returns-in_err-taken-in-Take-clause-question_or_refusal_changes_nothing : goal.returns-in_err-taken-in-Take-clause-question_or_refusal_changes_nothing
returns-in_err-taken-in-Take-clause-question_or_refusal_changes_nothing g c left = same_session _ _ (search rules)

pub returns-in_err-ok_or-in-GiveBack-clause-question_or_refusal_changes_nothing : goal.returns-in_err-ok_or-in-GiveBack-clause-question_or_refusal_changes_nothing
returns-in_err-ok_or-in-GiveBack-clause-question_or_refusal_changes_nothing g c left = same_session _ _ (search rules)

pub returns-in_err-give_back-in-GiveBack-clause-question_or_refusal_changes_nothing : goal.returns-in_err-give_back-in-GiveBack-clause-question_or_refusal_changes_nothing
returns-in_err-give_back-in-GiveBack-clause-question_or_refusal_changes_nothing g c left = same_session _ _ (search rules)
