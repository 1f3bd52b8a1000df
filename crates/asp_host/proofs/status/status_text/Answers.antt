use Rattle.asp_host.proofs.Literals.{accept_characters, memory_characters, read_characters, usage_characters, write_characters}
use Rattle.asp_host.proofs.status.status_text.Goals as goal

pub returns-in-Memory : goal.returns-in-Memory
returns-in-Memory c = rw (c.in-Memory.is, ← memory_characters) c.from_str.ensures

pub returns-in-Usage : goal.returns-in-Usage
returns-in-Usage c = rw (c.in-Usage.is, ← usage_characters) c.from_str-in-Usage.ensures

pub returns-in-ReadFault : goal.returns-in-ReadFault
returns-in-ReadFault c = rw (c.in-ReadFault.is, ← read_characters) c.from_str-in-ReadFault.ensures

pub returns-in-WriteFault : goal.returns-in-WriteFault
returns-in-WriteFault c = rw (c.in-WriteFault.is, ← write_characters) c.from_str-in-WriteFault.ensures

pub returns-in-AcceptFault : goal.returns-in-AcceptFault
returns-in-AcceptFault c = rw (c.in-AcceptFault.is, ← accept_characters) c.from_str-in-AcceptFault.ensures
