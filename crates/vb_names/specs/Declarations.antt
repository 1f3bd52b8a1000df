-- What scopes declare, as calls see it.
use Rattle.vb_syntax.specs.scope.Scopes.{Declarations as Seen, Scopes as SeenScopes, scopes_of}
use Rattle.vb_names.specs.declared.declarations.Declarations.{Declarations}
use Rattle.vb_names.specs.declared.scopes.Scopes.{Scopes}

-- what one scope declares
abbrev pub declarations_seen : Declarations → Seen
declarations_seen found = record {
  names = found.names;
  meanings = found.meanings;
  variables = found.variables;
  constants = found.constants;
  procedures = found.procedures;
  classes = found.classes;
  members = found.members;
}

-- the scopes around a place
abbrev pub scopes_seen : Scopes → SeenScopes
scopes_seen scopes = scopes_of (declarations_seen scopes.page.now) (declarations_seen scopes.class.now)
    (declarations_seen scopes.body.now)
