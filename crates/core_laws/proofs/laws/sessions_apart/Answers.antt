use Rattle.core_laws.proofs.Alone as alone
use Rattle.core_laws.proofs.laws.sessions_apart.Goals as goal

pub returns-clause-left_out : goal.returns-clause-left_out
returns-clause-left_out c = alone.left_out

pub returns-clause-session : goal.returns-clause-session
returns-clause-session c = alone.session_alone

pub returns-clause-told : goal.returns-clause-told
returns-clause-told c = alone.told_alone
