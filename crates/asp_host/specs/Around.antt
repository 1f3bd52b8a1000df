-- What the outside tells of a command: the files of its folder, what its streams have before it and after it, the seed and
-- the wire of a host.
use Rattle.std.specs.Prelude.{◌≡◌, ℕ, Bool, Option, List}
use Rattle.vb_value.specs.declared.site_file.SiteFile.{SiteFile}

-- what a stream tells before a command and after it: a source the bytes that are left, a sink the bytes that it holds
pub record Change : Type 0 where
  pub before : Option (List ℕ)
  pub after : Option (List ℕ)

-- the stream is left as it was
abbrev pub IsLeft : Change → Type 0
IsLeft stream = stream.after ≡ stream.before

-- What is told of a command; a folder, a source or a sink of the system tells nothing. The seed is that from which the
-- letters of session keys are drawn, and the wire's is whether it may come to an end.
pub record Around : Type 0 where
  pub files : Option (List SiteFile)
  pub source : Change
  pub sink : Change
  pub seed : List ℕ
  pub wire_ends : Bool
