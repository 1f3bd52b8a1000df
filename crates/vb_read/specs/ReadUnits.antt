-- Reading procedures, classes and whole units: each reader is the rule of its name, and asks the next token alone.
-- What a word before it may begin is read from behind that word.
use Rattle.std.specs.Prelude.{ℕ, Bool, true, false, ◌||◌, List, [], ◌∷◌, ◌++◌, Option, Some, None, codes}
use Rattle.vb_value.specs.declared.token.Keyword.{Keyword}
use Rattle.vb_value.specs.declared.token.Keyword.TheVariants as k
use Rattle.vb_value.specs.declared.token.Token.{Token}
use Rattle.vb_value.specs.declared.token.TokenKind.{TokenKind}
use Rattle.vb_value.specs.declared.token.TokenKind.TheVariants as kind
use Rattle.vb_syntax.specs.declared.declaration.Access.{Access}
use Rattle.vb_syntax.specs.declared.declaration.Access.TheVariants as access
use Rattle.vb_syntax.specs.declared.statement.Statement.{Statement}
use Rattle.vb_syntax.specs.declared.statement.StatementKind.TheVariants as st
use Rattle.vb_syntax.specs.declared.unit.Class.{Class}
use Rattle.vb_syntax.specs.declared.unit.ClassMember.{ClassMember}
use Rattle.vb_syntax.specs.declared.unit.ClassMember.TheVariants as member
use Rattle.vb_syntax.specs.declared.unit.FieldAccess.{FieldAccess}
use Rattle.vb_syntax.specs.declared.unit.FieldAccess.TheVariants as field
use Rattle.vb_syntax.specs.declared.unit.Item.{Item}
use Rattle.vb_syntax.specs.declared.unit.Item.TheVariants as item
use Rattle.vb_syntax.specs.declared.unit.Procedure.{Procedure}
use Rattle.vb_syntax.specs.declared.unit.ProcedureKind.{ProcedureKind}
use Rattle.vb_syntax.specs.declared.unit.ProcedureKind.TheVariants as procedure_kind
use Rattle.vb_syntax.specs.declared.unit.Property.{Property}
use Rattle.vb_syntax.specs.declared.unit.PropertyKind.{PropertyKind}
use Rattle.vb_syntax.specs.declared.unit.PropertyKind.TheVariants as property_kind
use Rattle.vb_syntax.specs.declared.unit.Unit.{Unit as Script}
use Rattle.vb_syntax.specs.grammar.Words.{name_of}
use Rattle.vb_syntax.specs.grammar.SimpleStatements.{Looser, quoted_at, statement, text_at}
use Rattle.vb_syntax.specs.grammar.Statements.{passed}
use Rattle.vb_read.specs.Reader.{Reader, Look, ◌>>=◌, ◌>>◌, pure, one, keyword, sees, asks, passes, case, gate, many}
use Rattle.vb_read.specs.Reader.{whole}
use Rattle.vb_read.specs.ReadExpressions.{list_of, more_of}
use Rattle.vb_read.specs.ReadDeclarations.{opened, sees_access, access_word, begun, declared, declared_from}
use Rattle.vb_read.specs.ReadDeclarations.{parameters}
use Rattle.vb_read.specs.ReadSimpleStatements.{quoted, sees_quoted, const_from}
use Rattle.vb_read.specs.ReadLines.{breaks, «end»}
use Rattle.vb_read.specs.ReadStatements.{passed_texts, keyword_begins_statement, kind_begins_statement, sentence}
use Rattle.vb_read.specs.ReadStatements.{blocks, blocks_inside}
use Rattle.vb_read.specs.Depths.{opens}

-- ---- procedures

abbrev pub sees_procedure : Look
sees_procedure token = sees (kind.Keyword k.Sub) token || sees (kind.Keyword k.Function) token

-- the word that a procedure begins and ends with
abbrev pub procedure_word : ProcedureKind → Keyword
procedure_word procedure_kind.Sub = k.Sub
procedure_word procedure_kind.Function = k.Function

module _ (looser : Looser) where
  -- block
  abbrev pub block : ℕ → Reader (List Statement)
  block depth = (blocks looser depth).block

  -- a procedure of the kind, behind the word before it, which was read
  abbrev pub procedure_of : ProcedureKind → ℕ → Option (ℕ × Access) → Reader Procedure
  procedure_of kind depth before = opened depth (λ within. do
    line ← keyword (procedure_word kind)
    name ← one name_of
    given ← parameters within
    «end»
    body ← block within
    keyword k.End
    keyword (procedure_word kind)
    pure (record {
      line = (begun before line).0;
      access = (begun before line).1;
      kind = kind;
      name = name;
      parameters = given;
      body = body;
    }))

  -- proc, behind the word before it
  abbrev pub procedure : ℕ → Option (ℕ × Access) → Reader Procedure
  procedure depth before = case (sees (kind.Keyword k.Sub))
      (procedure_of procedure_kind.Sub depth before)
      (procedure_of procedure_kind.Function depth before)

-- ---- properties

abbrev pub sees_property_kind : Look
sees_property_kind token = sees (kind.Keyword k.Get) token
    || (sees (kind.Keyword k.Let) token || sees (kind.Keyword k.Set) token)

-- "Get" | "Let" | "Set"
abbrev pub kind_of_property : Reader PropertyKind
kind_of_property = case (sees (kind.Keyword k.Get)) (do keyword k.Get; pure property_kind.Get)
    (case (sees (kind.Keyword k.Let)) (do keyword k.Let; pure property_kind.Let)
    (do keyword k.Set; pure property_kind.Set))

-- the name that a quoted word is, as it is written
abbrev pub name_where : Option ℕ → Option (List ℕ) → Option (List ℕ)
name_where None name = None
name_where (Some line) name = name

abbrev pub quoted_name : List ℕ → Token → Option (List ℕ)
quoted_name text token = name_where (quoted_at text token) (name_of token)

module _ (looser : Looser) where
  -- a property behind the word "Property", with its line and the word before it
  abbrev pub property_from : ℕ → ℕ × Option Access → Reader Property
  property_from depth first = opened depth (λ within. do
    kind ← kind_of_property
    name ← one name_of
    given ← parameters within
    «end»
    body ← block looser within
    keyword k.End
    quoted (codes "property")
    pure (record {
      line = first.0;
      access = first.1;
      kind = kind;
      name = name;
      parameters = given;
      body = body;
    }))

  -- a property without a word before it
  abbrev pub property_alone : ℕ → Reader Property
  property_alone depth = gate (opens depth) (do line ← quoted (codes "property"); property_from depth (line, None))

-- ---- fields

-- what stands behind a field's access, where the name of the first field was read
abbrev pub fields_from : ℕ → ℕ → FieldAccess → List ℕ → Reader ClassMember
fields_from depth line access name = do
  first ← declared_from depth name
  more ← more_of (declared depth)
  pure (member.Fields line access (first ∷ more))

-- "Dim" decl { "," decl }
abbrev pub dim_fields : ℕ → Reader ClassMember
dim_fields depth = do
  line ← keyword k.Dim
  name ← one name_of
  fields_from depth line field.Dim name

-- the same word before fields
abbrev pub field_access : Access → FieldAccess
field_access access.Public = field.Public
field_access access.Private = field.Private

-- ---- classes

abbrev pub keyword_begins_member : Keyword → Bool
keyword_begins_member k.Dim = true
keyword_begins_member k.Function = true
keyword_begins_member k.Private = true
keyword_begins_member k.Public = true
keyword_begins_member k.Sub = true
keyword_begins_member _ = false

abbrev pub kind_begins_member : TokenKind → Bool
kind_begins_member (kind.Keyword keyword) = keyword_begins_member keyword
kind_begins_member _ = false

abbrev pub begins_member : Look
begins_member token = asks kind_begins_member token || sees_quoted (codes "property") token

module _ (looser : Looser) where
  -- Behind "Property", which "Get", "Let" or "Set" makes a property, and anything else the name of a field.
  abbrev pub behind_property : ℕ → ℕ × Access → List ℕ → Reader ClassMember
  behind_property depth before name = case sees_property_kind
      (do found ← property_from looser depth (before.0, Some before.1); pure (member.Property found))
      (fields_from depth before.0 (field_access before.1) name)

  -- what stands behind "Public" or "Private" in a class
  abbrev pub behind_access : ℕ → ℕ × Access → Reader ClassMember
  behind_access depth before = case sees_procedure
      (do found ← procedure looser depth (Some before); pure (member.Method found))
      (case (sees_quoted (codes "property"))
      (do name ← one (quoted_name (codes "property")); behind_property depth before name)
      (do name ← one name_of; fields_from depth before.0 (field_access before.1) name))

  -- member
  abbrev pub class_member : ℕ → Reader ClassMember
  class_member depth = case sees_access (do before ← access_word; behind_access depth before)
      (case (sees (kind.Keyword k.Dim)) (dim_fields depth)
      (case sees_procedure (do found ← procedure looser depth None; pure (member.Method found))
      (do found ← property_alone looser depth; pure (member.Property found))))

  -- a member and its end, before texts that are passed over
  abbrev pub member_line : ℕ → Reader ClassMember
  member_line depth = do found ← class_member depth; «end»; passed_texts looser.texts; pure found

  -- { member end }
  abbrev pub members : ℕ → Reader (List ClassMember)
  members depth = many begins_member (member_line depth)

  -- class
  abbrev pub class : ℕ → Reader Class
  class depth = opened depth (λ within. do
    line ← keyword k.Class
    name ← one name_of
    «end»
    passed_texts looser.texts
    found ← members within
    keyword k.End
    keyword k.Class
    pure (record { line = line; name = name; members = found }))

-- ---- units

abbrev pub keyword_begins_item : Keyword → Bool
keyword_begins_item k.Class = true
keyword_begins_item k.Function = true
keyword_begins_item k.Sub = true
keyword_begins_item keyword = keyword_begins_statement keyword

abbrev pub kind_begins_item : TokenKind → Bool
kind_begins_item (kind.Keyword keyword) = keyword_begins_item keyword
kind_begins_item kind = kind_begins_statement kind

abbrev pub begins_item : Look
begins_item = asks kind_begins_item

-- a blank text, with its line
abbrev pub text_where : Option (Unit {0}) → Option (ℕ × List ℕ) → Option (ℕ × List ℕ)
text_where None text = None
text_where (Some is_blank) text = text

abbrev pub blank_at : Token → Option (ℕ × List ℕ)
blank_at token = text_where (passed false token) (text_at token)

-- a blank text as an item, and its end
abbrev pub blank_item : Reader Item
blank_item = do
  found ← one blank_at
  «end»
  pure (item.Statement (statement found.0 (st.PageText found.1)))

-- The blank texts that a script begins with. Where "Option" "Explicit" stands behind them they are passed over, and
-- else they are its first items.
abbrev pub blank_items : Reader (List Item)
blank_items = many (passes blank_at) blank_item

abbrev pub kept : Bool → List Item → List Item
kept true first = []
kept false first = first

module _ (looser : Looser) where
  -- Behind "Public" or "Private" at the top: a constant, a procedure, or variables.
  abbrev pub item_behind : ℕ → ℕ × Access → Reader Item
  item_behind depth before = case (sees (kind.Keyword k.Const))
      (do found ← const_from (Some before); pure (item.Statement found))
      (case sees_procedure
      (do found ← procedure looser depth (Some before); pure (item.Procedure found))
      (do found ← list_of (declared depth); pure (item.Variables before.0 before.1 found)))

  -- an item that no statement is, by the word that it begins with
  abbrev pub other_item : ℕ → Reader Item
  other_item depth = case sees_access (do before ← access_word; item_behind depth before)
      (case sees_procedure (do found ← procedure looser depth None; pure (item.Procedure found))
      (do found ← class looser depth; pure (item.Class found)))

  -- whether such a word comes next
  abbrev pub sees_other_item : Look
  sees_other_item token = sees_access token || (sees_procedure token || sees (kind.Keyword k.Class) token)

  -- item end
  abbrev pub item_line : ℕ → Reader Item
  item_line depth = case sees_other_item (do found ← other_item depth; «end»; pure found)
      (do found ← sentence looser depth (blocks_inside looser depth); pure (item.Statement found))

  -- { item end }
  abbrev pub items : ℕ → Reader (List Item)
  items depth = many begins_item (item_line depth)

  -- [ end ]
  abbrev pub first_end : Reader (Unit {0})
  first_end = case breaks «end» (pure tt)

  -- [ "Option" "Explicit" end ], and whether it stands there
  abbrev pub option_explicit : Reader Bool
  option_explicit = case (sees (kind.Keyword k.Option))
      (do keyword k.Option; quoted (codes "explicit"); «end»; pure true)
      (pure false)

  -- unit
  abbrev pub unit : ℕ → Reader Script
  unit depth = do
    first_end
    first ← blank_items
    explicit ← option_explicit
    found ← items depth
    pure (record { option_explicit = explicit; items = kept explicit first ++ found })

-- a unit, with no token behind it
unfoldable pub whole_unit : Looser → ℕ → Reader Script
whole_unit looser depth = whole (unit looser depth)
