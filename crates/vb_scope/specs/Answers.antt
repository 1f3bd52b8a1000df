-- What the call that resolves a script answers.
use Rattle.std.specs.Prelude.{Result, Ok, Err}
use Rattle.vb_value.specs.declared.stop.Stop.{Stop}
use Rattle.vb_syntax.specs.declared.note.ScopeFault.{ScopeFault}
use Rattle.vb_syntax.specs.declared.program.Program.{Program}
use Rattle.vb_syntax.specs.scope.Programs.{Parts}

-- the parts of a program
abbrev pub parts_of : Program → Parts
parts_of program = record {
  unit = program.unit;
  vars = program.vars;
  procs = program.procs;
  classes = program.classes;
  explicit = program.explicit;
}

-- the answer, with the parts of its program
abbrev pub answered : Result Program (Stop ScopeFault) → Result Parts (Stop ScopeFault)
answered (Ok program) = Ok (parts_of program)
answered (Err stop) = Err stop
