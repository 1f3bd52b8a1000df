-- What an If begins with.
use Rattle.vb_value.specs.declared.token.Keyword.TheVariants as k
use Rattle.vb_syntax.specs.declared.expression.Expression.{Expression}
use Rattle.vb_read.specs.declared.line.Head.{Head}
use Rattle.vb_read.specs.Reader.{Reader, ◌>>=◌, ◌>>◌, pure, keyword}

-- "If" expr "Then"
abbrev pub head_of : Reader Expression → Reader Head
head_of expression = do
  line ← keyword k.If
  condition ← expression
  keyword k.Then
  pure (record { line = line; condition = condition })
