use Rattle.std.proofs.Common.{◌≡◌, ◌+◌, ◌≤◌, drop}
use Rattle.asp_core.specs.Sessions.{account_closed}
use Rattle.asp_core.proofs.account.queue_runs.Given as goal

abbrev pub invariant-loop-entry : goal.invariant-loop-entry
invariant-loop-entry l = record {
  account : account_closed (drop l.entry-index l.entries) l.sessions.account
      ≡ account_closed l.entries l.fn.sessions.account;
  room : l.fn.sessions.run_room ≤ l.sessions.run_room + l.entry-index;
  key_room : l.fn.sessions.key_room ≤ l.sessions.key_room;
}
