-- A script element of a page holds declarations alone (ASP 3.0, "Writing Procedures"). Its first word that is none of a
-- declaration is stray.
use Rattle.std.specs.Prelude.{ℕ, suc, ◌-◌, Bool, true, false, List, [], ◌∷◌, Option, None, Some}
use Rattle.vb_value.specs.declared.token.Keyword.{Keyword}
use Rattle.vb_value.specs.declared.token.Keyword.TheVariants as k
use Rattle.vb_value.specs.declared.token.Symbol.TheVariants as symbols
use Rattle.vb_value.specs.declared.token.Token.{Token}
use Rattle.vb_value.specs.declared.token.TokenKind.{TokenKind}
use Rattle.vb_value.specs.declared.token.TokenKind.TheVariants as kinds
use Rattle.page_build.specs.declared.declaring.Body.{Body}
use Rattle.page_build.specs.declared.declaring.Body.TheVariants as body
use Rattle.page_build.specs.declared.declaring.Mark.{Mark}
use Rattle.page_build.specs.declared.declaring.Mark.TheVariants as mark
use Rattle.page_build.specs.declared.declaring.Standing.{Standing}
use Rattle.page_build.specs.declared.declaring.Standing.TheVariants.{First, Access, Rest, Inside, Ending}

-- what a keyword is to declarations
abbrev pub keyword_mark : Keyword → Mark
keyword_mark k.Public = mark.Access
keyword_mark k.Private = mark.Access
keyword_mark k.Dim = mark.Declares
keyword_mark k.Const = mark.Declares
keyword_mark k.Sub = mark.Opens body.Sub
keyword_mark k.Function = mark.Opens body.Function
keyword_mark k.Class = mark.Opens body.Class
keyword_mark k.End = mark.End
keyword_mark _ = mark.Other

-- what a word is to declarations
abbrev pub mark_of : TokenKind → Mark
mark_of kinds.LineEnd = mark.Separates
mark_of (kinds.Symbol symbols.Colon) = mark.Separates
mark_of (kinds.Keyword keyword) = keyword_mark keyword
mark_of _ = mark.Other

-- the two open with one word
abbrev pub is_same : Body → Body → Bool
is_same body.Sub body.Sub = true
is_same body.Function body.Function = true
is_same body.Class body.Class = true
is_same _ _ = false

-- behind a word that opens this body, where the word behind `End` in it is the other
abbrev pub behind_opener : Body → Bool → Standing
behind_opener opened true = Rest
behind_opener opened false = Inside opened

-- behind the word that stands behind `End` in a body
abbrev pub behind_end : Body → Mark → Standing
behind_end opened (mark.Opens other) = behind_opener opened (is_same opened other)
behind_end opened mark.End = Ending opened
behind_end opened _ = Inside opened

-- where the next word stands, if this one is of a declaration
abbrev pub next_standing : Standing → Mark → Option Standing
next_standing First mark.Separates = Some First
next_standing First mark.Access = Some Access
next_standing First mark.Declares = Some Rest
next_standing First (mark.Opens opened) = Some (Inside opened)
next_standing First _ = None
next_standing Access mark.Separates = Some First
next_standing Access (mark.Opens opened) = Some (Inside opened)
next_standing Access _ = Some Rest
next_standing Rest mark.Separates = Some First
next_standing Rest _ = Some Rest
next_standing (Inside opened) mark.End = Some (Ending opened)
next_standing (Inside opened) _ = Some (Inside opened)
next_standing (Ending opened) word = Some (behind_end opened word)

-- a body is open
abbrev pub is_open : Standing → Bool
is_open (Inside opened) = true
is_open (Ending opened) = true
is_open _ = false

-- the word at a place is stray, or those behind it say which is
abbrev pub stray_here : ℕ → (Standing → Option ℕ) → Option Standing → Option ℕ
stray_here at later (Some standing) = later standing
stray_here at later None = Some at

-- the last of so many words is stray, where a body is open behind it
abbrev pub stray_last : ℕ → Bool → Option ℕ
stray_last count true = Some (count - 1)
stray_last count false = None

-- the place of the first stray word, behind so many words
abbrev pub stray_from : ℕ → Standing → List Token → Option ℕ
stray_from at standing [] = stray_last at (is_open standing)
stray_from at standing (token ∷ tokens) =
    stray_here at (λ (next : Standing). stray_from (suc at) next tokens) (next_standing standing (mark_of token.kind))

-- the place of the first stray word of an element
abbrev pub stray_in : List Token → Option ℕ
stray_in tokens = stray_from 0 First tokens
