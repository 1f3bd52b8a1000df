-- The members of the objects that a page is given (ASP 3.0 object reference), and those of Err (VBScript 5.6
-- language reference, "Err Object"): which one a path means. The table of the members is `MEMBERS` of
-- `src/member_table.rt`; of its rows that fit a path the first counts.
use Rattle.std.specs.Prelude.{ℕ, ◌+◌, Bool, true, false, ◌&&◌, if◌then◌else◌, List, [], ◌∷◌, codes}
use Rattle.std.specs.Prelude.{Option, Some, None}
use Rattle.vb_value.specs.Folding.{same_name, beside}
use Rattle.vb_syntax.specs.declared.member_table.MemberRow.{MemberRow}
use Rattle.vb_syntax.specs.declared.member_table.MemberStep.{MemberStep}
use Rattle.vb_syntax.specs.declared.member_table.MemberStep.TheVariants as step
use Rattle.vb_syntax.specs.declared.member_table.Stands.{Stands}
use Rattle.vb_syntax.specs.declared.member_table.Stands.TheVariants as stands
use Rattle.vb_syntax.specs.declared.member_table.TheConstants.{MEMBERS}
use Rattle.vb_syntax.specs.declared.member_word.MemberWord.{MemberWord}
use Rattle.vb_syntax.specs.declared.member_word.MemberWord.TheVariants as word
use Rattle.vb_syntax.specs.declared.note.PageObject.{PageObject}
use Rattle.vb_syntax.specs.declared.note.PageObject.TheVariants as object
use Rattle.vb_syntax.specs.declared.note.Shape.{Shape}
use Rattle.vb_syntax.specs.declared.note.Shape.TheVariants as shape
use Rattle.vb_syntax.specs.declared.program.name.ErrMember.{ErrMember}
use Rattle.vb_syntax.specs.declared.program.name.ErrMember.TheVariants as err
use Rattle.vb_syntax.specs.scope.Names.{Name}

-- the steps behind an object
abbrev pub Shapes : Type 0
Shapes = List Shape

-- ---- the rows

-- the word in small letters
abbrev pub spelling : MemberWord → Name
spelling word.Count = codes "count"
spelling word.QueryString = codes "querystring"
spelling word.Item = codes "item"
spelling word.Key = codes "key"
spelling word.Form = codes "form"
spelling word.Cookies = codes "cookies"
spelling word.HasKeys = codes "haskeys"
spelling word.ServerVariables = codes "servervariables"
spelling word.TotalBytes = codes "totalbytes"
spelling word.Write = codes "write"
spelling word.Clear = codes "clear"
spelling word.End = codes "end"
spelling word.Flush = codes "flush"
spelling word.Redirect = codes "redirect"
spelling word.Buffer = codes "buffer"
spelling word.ContentType = codes "contenttype"
spelling word.Charset = codes "charset"
spelling word.Status = codes "status"
spelling word.AddHeader = codes "addheader"
spelling word.CacheControl = codes "cachecontrol"
spelling word.Path = codes "path"
spelling word.Domain = codes "domain"
spelling word.Secure = codes "secure"
spelling word.IsClientConnected = codes "isclientconnected"
spelling word.HtmlEncode = codes "htmlencode"
spelling word.UrlEncode = codes "urlencode"
spelling word.MapPath = codes "mappath"
spelling word.CreateObject = codes "createobject"
spelling word.ScriptTimeout = codes "scripttimeout"
spelling word.Contents = codes "contents"
spelling word.Remove = codes "remove"
spelling word.RemoveAll = codes "removeall"
spelling word.SessionId = codes "sessionid"
spelling word.Timeout = codes "timeout"
spelling word.Abandon = codes "abandon"
spelling word.Lock = codes "lock"
spelling word.Unlock = codes "unlock"

-- whether two objects are the same
abbrev pub same_object : PageObject → PageObject → Bool
same_object object.Request object.Request = true
same_object object.Response object.Response = true
same_object object.Server object.Server = true
same_object object.Session object.Session = true
same_object object.Application object.Application = true
same_object _ _ = false

-- whether a path may go on with these steps, and whether a For Each goes over it
abbrev pub may_stand : Stands → Bool → Shapes → Bool
may_stand stands.Anywhere is_group steps = true
may_stand stands.Alone is_group [] = true
may_stand stands.Group is_group [] = is_group
may_stand _ is_group steps = false

-- whether a path has the steps of a row, and goes on as the row says
abbrev pub fits : Stands → Bool → List MemberStep → Shapes → Bool
fits where_it is_group [] steps = may_stand where_it is_group steps
fits where_it is_group (step.End ∷ rest) steps = may_stand where_it is_group steps
fits where_it is_group (step.Name found ∷ rest) (shape.Member name ∷ more) =
    same_name (spelling found) name && fits where_it is_group rest more
fits where_it is_group (step.Arguments ∷ rest) (shape.Group ∷ more) = fits where_it is_group rest more
fits where_it is_group _ _ = false

-- the steps of a row
abbrev pub steps_of : MemberRow → List MemberStep
steps_of row = row.first ∷ row.second ∷ row.third ∷ row.fourth ∷ []

-- the first of some rows that fits the steps behind an object
abbrev pub first_row : List MemberRow → PageObject → Bool → Shapes → Option MemberRow
first_row [] object is_group steps = None
first_row (row ∷ rows) object is_group steps =
    if same_object row.object object && fits row.stands is_group (steps_of row) steps then Some row
    else first_row rows object is_group steps

-- The row of the member that stands behind an object; none is a fault. A For Each goes over the path where `is_group`
-- is true.
unfoldable pub member_meant : PageObject → Bool → Shapes → Option MemberRow
member_meant = first_row MEMBERS

-- how many steps say which member is meant
abbrev pub length_of : List MemberStep → ℕ
length_of [] = 0
length_of (step.End ∷ rest) = 0
length_of (found ∷ rest) = 1 + length_of rest

-- the parenthesis right behind a row that ends with a name
abbrev pub right_behind : Bool → Shape → ℕ
right_behind false shape.Group = 1
right_behind _ said = 0

-- How many of the path's first parentheses hold the arguments of the member: those that the row has, and the one right
-- behind it where the row ends with a name.
abbrev pub groups_behind : Bool → List MemberStep → Shapes → ℕ
groups_behind ended (step.Name found ∷ rest) (said ∷ more) = groups_behind false rest more
groups_behind ended (step.Arguments ∷ rest) (said ∷ more) = 1 + groups_behind true rest more
groups_behind ended _ (said ∷ more) = right_behind ended said
groups_behind ended _ [] = 0

-- ---- Err

-- the members of Err
abbrev pub err_members : List (Name × ErrMember)
err_members =
    (codes "number", err.Number)
    ∷ (codes "description", err.Description)
    ∷ (codes "source", err.Source)
    ∷ (codes "clear", err.Clear)
    ∷ (codes "raise", err.Raise)
    ∷ []

-- Behind Err, and how many steps say so. Alone it is its number, and another member is an error when it runs.
unfoldable pub err_meant : Shapes → ErrMember × ℕ
err_meant (shape.Member name ∷ more) = meant (beside err_members name)
  where
    meant : Option ErrMember → ErrMember × ℕ
    meant None = (err.Absent, 1)
    meant (Some found) = (found, 1)
err_meant _ = (err.Number, 0)
