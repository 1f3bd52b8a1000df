-- The characters of the texts that a status says: they are ASCII, so each is one byte.
use Rattle.std.proofs.Common.{◌≡◌, ℕ, nat_lt, ◌<◌, ◌^◌, Bool, true, List, [], ◌∷◌, ◌++◌, refl, codes, arith}
use Rattle.std.specs.List.{list_all}
use Rattle.std.specs.Str.{chars, IsAscii}
use Rattle.std.proofs.lemmas.Str.{chars-IsAscii, IsAscii-append}
use Rattle.std.proofs.lemmas.Str.Ascii.{IsAscii-nil, IsAscii-cons}
use Rattle.std.proofs.lemmas.Fmt.{IsAscii-decimal}
use Rattle.std.specs.Fmt.{decimal}
use Rattle.vb_value.specs.declared.site_file.FaultKind.{FaultKind}
use Rattle.vb_value.specs.declared.site_file.FaultKind.TheVariants as fault
use Rattle.asp_host.specs.Status.{kind_text_of, place_text}

pub global_characters : chars (codes "/global.asa") ≡ codes "/global.asa"
unfolding chars
global_characters = refl

pub memory_characters : chars (codes "out of memory") ≡ codes "out of memory"
unfolding chars
memory_characters = refl

pub usage_characters :
    chars (codes "usage: get SITE PATH, check SITE, replay SITE, serve SITE --requests N, gen N")
    ≡ codes "usage: get SITE PATH, check SITE, replay SITE, serve SITE --requests N, gen N"
unfolding chars
usage_characters = refl

pub read_characters : chars (codes "read fault") ≡ codes "read fault"
unfolding chars
read_characters = refl

pub write_characters : chars (codes "write fault") ≡ codes "write fault"
unfolding chars
write_characters = refl

pub accept_characters : chars (codes "accept fault") ≡ codes "accept fault"
unfolding chars
accept_characters = refl

abbrev is_ascii : List ℕ → Bool
is_ascii text = list_all (λ c. nat_lt c 128) text

ascii_text : (text : List ℕ) → is_ascii text ≡ true → IsAscii text
ascii_text [] all = IsAscii-nil
ascii_text (c ∷ text) all = grind (IsAscii-cons, ascii_text text, arith)

kind_is_ascii : (kind : FaultKind) → is_ascii (kind_text_of kind) ≡ true
kind_is_ascii fault.NotYet = refl
kind_is_ascii fault.NotUtf8 = refl
kind_is_ascii fault.OpenBlock = refl
kind_is_ascii fault.LateDirective = refl
kind_is_ascii fault.BadDirective = refl
kind_is_ascii fault.ObjectTag = refl
kind_is_ascii fault.NotFound = refl
kind_is_ascii fault.BadPath = refl
kind_is_ascii fault.Cycle = refl
kind_is_ascii fault.Depth = refl
kind_is_ascii fault.BadGlobal = refl
kind_is_ascii fault.TooLarge = refl
kind_is_ascii fault.OpenString = refl
kind_is_ascii fault.OpenBracket = refl
kind_is_ascii fault.LongName = refl
kind_is_ascii fault.BadNumber = refl
kind_is_ascii fault.DateLiteral = refl
kind_is_ascii fault.BadOperator = refl
kind_is_ascii fault.BadCharacter = refl
kind_is_ascii fault.Unexpected = refl
kind_is_ascii fault.CallParens = refl
kind_is_ascii fault.TextHere = refl
kind_is_ascii fault.TooDeep = refl
kind_is_ascii fault.Redefined = refl
kind_is_ascii fault.BadExit = refl
kind_is_ascii fault.ConstTarget = refl
kind_is_ascii fault.BadMember = refl
kind_is_ascii fault.TooMany = refl

-- the place of a fault
pub place_characters : (line : ℕ) (kind : FaultKind) → line < 2 ^ 32
    → chars (place_text line kind) ≡ place_text line kind
place_characters line kind fits =
    let before : IsAscii (codes ":") = ascii_text (codes ":") refl in
    let between : IsAscii (codes ": ") = ascii_text (codes ": ") refl in
    let after : IsAscii (kind_text_of kind) = ascii_text (kind_text_of kind) (kind_is_ascii kind) in
    let digits : IsAscii (decimal line) = IsAscii-decimal line (omega arith) in
    chars-IsAscii _ (IsAscii-append (codes ":" ++ decimal line ++ codes ": ") (kind_text_of kind)
    (IsAscii-append (codes ":" ++ decimal line) (codes ": ") (IsAscii-append (codes ":")
    (decimal line) before digits) between) after)
