use Rattle.host_laws.proofs.Refusals as refusals
use Rattle.host_laws.proofs.laws.nothing_refused_without_cause.Goals as goal

pub returns-clause-check : goal.returns-clause-check
returns-clause-check c = refusals.check_refuses_none c.one_site.ensures c.site_or_fault.ensures

pub returns-clause-get : goal.returns-clause-get
returns-clause-get c = refusals.get_refuses_none c.one_site.ensures c.site_or_fault.ensures c.one_request_outcome.ensures

pub returns-clause-replay : goal.returns-clause-replay
returns-clause-replay c = refusals.replay_refuses_none c.one_site.ensures c.site_or_fault.ensures
    c.one_recording.ensures c.recording_not_refused.ensures

pub returns-clause-serve : goal.returns-clause-serve
returns-clause-serve c = refusals.serve_refuses_none c.one_site.ensures c.site_or_fault.ensures

pub returns-clause-generated : goal.returns-clause-generated
returns-clause-generated c = refusals.gen_refuses_none c.one_site.ensures c.site_or_fault.ensures
