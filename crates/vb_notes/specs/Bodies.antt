-- The bodies of procedures, as calls see them.
use Rattle.std.specs.Option.{option_copied}
use Rattle.vb_syntax.specs.scope.Units.{Body as Seen}
use Rattle.vb_notes.specs.declared.body.Body.{Body}

-- a body behind its references
abbrev pub body_seen : Body → Seen
body_seen body = record {
  line = body.line;
  in_class = body.in_class;
  exit = body.exit;
  result = option_copied body.result;
  parameters = body.parameters.now;
  statements = body.statements.now;
}
