-- What bytes say in UTF-8 (RFC 3629).
use Rattle.std.specs.Prelude.{ℕ, List, Result, Ok, Err, if◌then◌else◌}
use Rattle.std.specs.Str.{chars, is_utf8}
use Rattle.vb_value.specs.declared.text.Utf8Stop.{Utf8Stop}
use Rattle.vb_value.specs.declared.text.Utf8Stop.TheVariants.{NotUtf8}

-- the characters that the bytes encode, where they are UTF-8
abbrev pub decoded : List ℕ → Result (List ℕ) Utf8Stop
decoded bytes = if is_utf8 bytes then Ok (chars bytes) else Err NotUtf8
