-- How a draft is held: with the size of what was said of its head.
use Rattle.std.specs.Prelude.{◌≡◌, ◌≤◌}
use Rattle.asp_response.specs.declared.draft.Draft.TheInside.{Inside}
use Rattle.asp_response.specs.HeadSize.{head_size}
use Rattle.asp_response.specs.View.{Draft}

-- the draft
abbrev pub draft_in : Inside → Draft
draft_in held = record {
  body = held.body;
  flushed = held.flushed;
  sent = held.sent;
  buffer = held.buffer;
  status = held.status;
  content_type = held.content_type;
  charset = held.charset;
  cache = held.cache;
  location = held.location;
  cookies = held.cookies;
  added = held.added;
}

-- its head's size is told, and one that a head may have
pub record IsSized (held : Inside) : Type 0 where
  pub is : held.head ≡ head_size (draft_in held)
  pub small : held.head ≤ 65536
