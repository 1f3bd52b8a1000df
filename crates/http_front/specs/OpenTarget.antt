-- This crate's own: a request target that is still being read.
use Rattle.std.specs.Prelude.{ℕ, ◌<◌, List, [], ◌∷◌, ◌++◌, length, Option, Some, None, if◌then◌else◌, ◌==◌, IsUtf8}
use Rattle.httparse.specs.Grammar.{AllPass, is_uri_byte}

-- the bytes after the first space
abbrev pub after_space : List ℕ → Option (List ℕ)
after_space [] = None
after_space (b ∷ bytes) = if b == 32 then Some bytes else after_space bytes

-- some bytes of a target can follow that make the text UTF-8
abbrev pub GoesOn : List ℕ → Type 0
GoesOn text = (more : List ℕ) × (0 < length more) × AllPass is_uri_byte more × IsUtf8 (text ++ more)

-- no bytes can follow that make the text UTF-8
abbrev pub IsNoText : List ℕ → Type 0
IsNoText text = (more : List ℕ) → ¬ (IsUtf8 (text ++ more))
