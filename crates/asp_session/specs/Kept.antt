-- What the code keeps of the session keys.
use Rattle.std.specs.Prelude.{ℕ, ◌≤◌, ◌-◌, length, All, IfSome}
use Rattle.std.specs.Vec.{vec_capacity}
use Rattle.indexmap.specs.IndexMap.{spare}
use Rattle.asp_job.specs.Session.{IsSession}
use Rattle.asp_session.specs.declared.key.KeyState.{KeyState}
use Rattle.asp_session.specs.declared.sessions.Sessions.TheInside.{Inside}
use Rattle.asp_session.specs.Account.{Account, WithRoom}

-- the account
abbrev pub account_in : Inside → Account
account_in sessions = record {
  seed = sessions.seed;
  keys = sessions.keys.entries;
  waiting = sessions.waiting.items;
  made = sessions.made;
  opened = sessions.opened;
}

-- the account, and the room that is left
abbrev pub view_of : Inside → WithRoom
view_of sessions = record {
  account = account_in sessions;
  key_room = spare sessions.keys;
  run_room = vec_capacity sessions.waiting - length sessions.waiting.items;
}

-- a key that was made, whose session, if it has one, may be
pub record IsKeyOf (made : ℕ) (entry : ℕ × KeyState) : Type 0 where
  pub below : entry.0 ≤ made
  pub session : IfSome entry.1.session IsSession

-- each key was made, and its session may be
abbrev pub AreKeys : Inside → Type 0
AreKeys sessions = All (IsKeyOf sessions.made) sessions.keys.entries
