-- The forms of a page other than plain text: which begins at a place, and what it is.
use Rattle.std.specs.Prelude.{ℕ, ◌+◌, ◌-◌, length, Bool, true, false, not, ◌&&◌, ◌||◌, ◌==◌, if◌then◌else◌, List, [], ◌∷◌, take}
use Rattle.std.specs.Prelude.{drop}
use Rattle.std.specs.Prelude.{bytes_eq, codes, slice_index, Option, None, Some, Result, Ok, Err}
use Rattle.std.specs.List.{list_all, list_any, prefix_len}
use Rattle.std.specs.Option.{is_some, option_map, option_and_then}
use Rattle.vb_value.specs.Folding.{folded}
use Rattle.vb_value.specs.Lines.{line_ends}
use Rattle.page_read.specs.declared.attribute.Attribute.{Attribute}
use Rattle.page_read.specs.declared.fault.PageFault.{PageFault}
use Rattle.page_read.specs.declared.fault.PageFault.TheVariants.{OpenBlock, LateDirective, BadDirective, ObjectTag}
use Rattle.page_read.specs.declared.fragment.Fragment.{Fragment}
use Rattle.page_read.specs.declared.fragment.Fragment.TheVariants.{Directive, Script, Write, Element, Include}
use Rattle.page_read.specs.Attributes.{attributes_of}
use Rattle.page_read.specs.Marks.{begins, behind, cut_by, is_blank_text, unblanked}

-- ---- includes

-- what stands behind the mark, where nothing but blanks stands before it
abbrev pub next_behind : List ℕ → List ℕ → Option (List ℕ)
next_behind mark text = behind mark (unblanked text)

-- the path between the quotes behind `=`, and what follows it
abbrev pub quoted_path : List ℕ → Option (List ℕ × List ℕ)
quoted_path text =
    option_and_then (cut_by (codes "\"")) (option_and_then (next_behind (codes "\"")) (next_behind (codes "=") text))

-- an include of this path, up to its `-->`
abbrev pub closed_include : Bool → List ℕ × List ℕ → Option (Bool × List ℕ × List ℕ)
closed_include from_root found =
    option_map (λ (rest : List ℕ). (from_root, found.0, rest)) (next_behind (codes "-->") found.1)

-- an include, from behind the word `file` or `virtual`
abbrev pub include_behind : Bool → List ℕ → Option (Bool × List ℕ × List ℕ)
include_behind from_root text = option_and_then (closed_include from_root) (quoted_path text)

-- an include, from behind `#include`, where this stands behind the word `file`
abbrev pub include_or_virtual : List ℕ → Option (List ℕ) → Option (Bool × List ℕ × List ℕ)
include_or_virtual text (Some rest) = include_behind false rest
include_or_virtual text None = option_and_then (include_behind true) (next_behind (codes "virtual") text)

-- an include, from behind `#include`
abbrev pub include_named : List ℕ → Option (Bool × List ℕ × List ℕ)
include_named text = include_or_virtual text (next_behind (codes "file") text)

-- The include at the front: `<!--`, `#include`, `file` or `virtual`, `=`, the path in `"`, and `-->`, with blanks
-- between them. It is said whether the path is from the root, the path, and what follows the include.
unfoldable pub include_of : List ℕ → Option (Bool × List ℕ × List ℕ)
include_of text =
    option_and_then include_named (option_and_then (next_behind (codes "#include")) (behind (codes "<!--") text))

-- ---- tags

-- neither `<` nor `>`
abbrev pub is_inside : ℕ → Bool
is_inside c = not (c == 60 || c == 62)

-- what a tag has behind its name, up to its `>` and without a `<`, and what follows the tag
abbrev pub inside_of_tag : List ℕ → Option (List ℕ × List ℕ)
inside_of_tag text =
    let at = prefix_len is_inside text in
    if slice_index text at == 62 then Some (take at text, drop (at + 1) text) else None

-- the attribute has this name
abbrev pub has_name : List ℕ → Attribute → Bool
has_name name attribute = bytes_eq attribute.name name

-- the attribute has this name and this value
abbrev pub is_setting : List ℕ → List ℕ → Attribute → Bool
is_setting name value attribute = bytes_eq attribute.name name && bytes_eq attribute.value value

-- the element is to run on the server
abbrev pub is_for_server : List Attribute → Bool
is_for_server attributes = list_any (is_setting (codes "runat") (codes "server")) attributes

-- the attributes, where they say that the element is to run on the server, and what follows the tag
abbrev pub server_only : List ℕ → List Attribute → Option (List Attribute × List ℕ)
server_only rest attributes = if is_for_server attributes then Some (attributes, rest) else None

-- the tag with these attributes inside, where it is that of an element that is to run on the server
abbrev pub tag_read : List ℕ × List ℕ → Option (List Attribute × List ℕ)
tag_read found = option_and_then (server_only found.1) (attributes_of (folded found.0))

-- the tag of this name at the front, of an element that is to run on the server, and what follows the tag
unfoldable pub server_tag : List ℕ → List ℕ → Option (List Attribute × List ℕ)
server_tag name text = option_and_then tag_read (option_and_then inside_of_tag (behind name text))

-- ---- what begins a form

-- a form other than plain text begins at the front of the text
unfoldable pub begins_form : List ℕ → Bool
begins_form text = (begins (codes "<%") text || is_some (include_of text))
    || (is_some (server_tag (codes "<script") text) || is_some (server_tag (codes "<object") text))

-- ---- directives

-- an attribute of a directive with a value that is taken
abbrev pub is_taken : Attribute → Bool
is_taken attribute =
    (is_setting (codes "language") (codes "vbscript") attribute
    || is_setting (codes "codepage") (codes "65001") attribute)
    || (is_setting (codes "enablesessionstate") (codes "true") attribute
    || is_setting (codes "enablesessionstate") (codes "false") attribute)

-- no two of the attributes have one name
abbrev pub are_distinct : List Attribute → Bool
are_distinct [] = true
are_distinct (first ∷ more) = not (list_any (has_name first.name) more) && are_distinct more

-- whether a page with a directive of these attributes has sessions, where they are taken, each at most once
abbrev pub session_of : List Attribute → Option Bool
session_of attributes =
    if list_all is_taken attributes && are_distinct attributes
    then Some (not (list_any (is_setting (codes "enablesessionstate") (codes "false")) attributes)) else None

-- the directive that has sessions or not, or else is bad
abbrev pub directive_of : Option Bool → Result Fragment PageFault
directive_of (Some session) = Ok (Directive session)
directive_of None = Err BadDirective

-- the directive of this text behind its `<%@`, where only blanks may stand before it on the page
unfoldable pub directive_at : List ℕ → List ℕ → Result Fragment PageFault
directive_at before inside =
    if is_blank_text before then directive_of (option_and_then session_of (attributes_of (folded (32 ∷ inside))))
    else Err LateDirective

-- ---- what stands between `<%` and `%>`

-- what a block with this text inside is, behind this text of the page and in this line
abbrev pub block_of : List ℕ → ℕ → List ℕ → Result Fragment PageFault
block_of before line [] = Ok (Script [] line)
block_of before line (c ∷ inside) =
    if c == 61 then Ok (Write inside line) else if c == 64 then directive_at before inside else Ok (Script (c ∷
    inside) line)

-- the piece and what follows it
abbrev pub with_rest : List ℕ → Result Fragment PageFault → Result (Fragment × List ℕ) PageFault
with_rest rest (Ok piece) = Ok (piece, rest)
with_rest rest (Err fault) = Err fault

-- the block with this text inside and this text behind its `%>`, or that of which the `%>` is missing
abbrev pub closed_block : List ℕ → ℕ → Option (List ℕ × List ℕ) → Result (Fragment × List ℕ) PageFault
closed_block before line (Some found) = with_rest found.1 (block_of before line found.0)
closed_block before line None = Err OpenBlock

-- the block from behind its `<%`: it ends at the first `%>`, whatever that stands in
abbrev pub block_behind : List ℕ → ℕ → List ℕ → Result (Fragment × List ℕ) PageFault
block_behind before line inside = closed_block before line (cut_by (codes "%>") inside)

-- ---- script elements

-- an attribute of a script element that is taken: any but `src` and another language than VBScript
abbrev pub is_for_element : Attribute → Bool
is_for_element attribute = not (has_name (codes "src") attribute)
    && (not (has_name (codes "language") attribute) || bytes_eq attribute.value (codes "vbscript"))

-- the line of what stands behind a tag at the front of a text, in this line
abbrev pub line_behind : ℕ → List ℕ → List ℕ → ℕ
line_behind line text rest = line + line_ends (length text - length rest) text

-- the element with this text inside and this text behind its end, or that of which the end is missing
abbrev pub closed_element : ℕ → Option (List ℕ × List ℕ) → Result (Fragment × List ℕ) PageFault
closed_element line (Some found) = Ok (Element found.0 line, found.1)
closed_element line None = Err OpenBlock

-- the script element with these attributes in its tag, of which this stands behind the tag, in this line
abbrev pub element_at : ℕ → List Attribute × List ℕ → Result (Fragment × List ℕ) PageFault
element_at line tag =
    if list_all is_for_element tag.0 then closed_element line (cut_by (codes "</script>") tag.1) else Err BadDirective

-- ---- the piece at a place where a form begins

-- the element with this tag, or that of an object
abbrev pub element_or_object : ℕ → List ℕ → Option (List Attribute × List ℕ) → Result (Fragment × List ℕ) PageFault
element_or_object line text (Some tag) = element_at (line_behind line text tag.1) tag
element_or_object line text None = Err ObjectTag

-- this include, or the element at the front of the text
abbrev pub include_or_element : ℕ → List ℕ → Option (Bool × List ℕ × List ℕ) → Result (Fragment × List ℕ) PageFault
include_or_element line text (Some found) = Ok (Include found.0 found.1 line, found.2)
include_or_element line text None = element_or_object line text (server_tag (codes "<script") text)

-- the block of which this stands behind its `<%`, or what else begins at the front of the text
abbrev pub block_or_other : List ℕ → ℕ → List ℕ → Option (List ℕ) → Result (Fragment × List ℕ) PageFault
block_or_other before line text (Some inside) = block_behind before line inside
block_or_other before line text None = include_or_element line text (include_of text)

-- the piece at the front of a text at which a form begins, in this line and behind this text of the page, and what
-- follows the piece; or what is wrong with it
unfoldable pub opened : List ℕ → ℕ → List ℕ → Result (Fragment × List ℕ) PageFault
opened before line text = block_or_other before line text (behind (codes "<%") text)
