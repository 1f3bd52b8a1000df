-- Whether a member of a class is a Sub of a name, as a call answers it.
use Rattle.std.specs.Prelude.{Bool, false, Option, Some, None}
use Rattle.vb_syntax.specs.declared.unit.ClassMember.{ClassMember}
use Rattle.vb_syntax.specs.declared.unit.ClassMember.TheVariants as member
use Rattle.vb_syntax.specs.scope.Names.{Name}
use Rattle.vb_syntax.specs.scope.Programs.{sub_name, is_named}

-- nothing where it is no procedure
abbrev pub sub_found : Name → ClassMember → Option Bool
sub_found word (member.Fields line access fields) = None
sub_found word (member.Method found) = Some (is_named word (sub_name found.kind found.name))
sub_found word (member.Property found) = Some false
