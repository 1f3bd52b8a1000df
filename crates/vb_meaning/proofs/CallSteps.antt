-- A path that a statement calls, where something stands behind its beginning.
use Rattle.std.proofs.Common.{◌≡◌, List, ◌∷◌, refl}
use Rattle.vb_syntax.specs.declared.program.expression.Head.{Head}
use Rattle.vb_syntax.specs.declared.program.expression.Head.TheVariants as head
use Rattle.vb_syntax.specs.declared.program.name.Named.TheVariants as named
use Rattle.vb_meaning.specs.Accesses.{Access}
use Rattle.vb_meaning.specs.Inner.{Inner}
use Rattle.vb_meaning.specs.Reading.{from_head}
use Rattle.vb_meaning.specs.State.{State}
use Rattle.vb_meaning.specs.Statements.{call_head}
use Rattle.vb_meaning.specs.Step.{◌>>◌, pure}

pub call_more : (E : Type 0) (m : Inner E) (found : Head) (first : Access) (more : List Access) (s : State E)
    → call_head E m found (first ∷ more) s ≡ (from_head E m found (first ∷ more) >> pure tt) s
call_more E m (head.Named (named.Place slot)) first more s = refl
call_more E m (head.Named (named.Own number)) first more s = refl
call_more E m (head.Named (named.PageConstant number)) first more s = refl
call_more E m (head.Named (named.LocalConstant number)) first more s = refl
call_more E m (head.Named (named.Value literal)) first more s = refl
call_more E m (head.Named (named.Procedure number)) first more s = refl
call_more E m (head.Named (named.Class number)) first more s = refl
call_more E m (head.Named (named.StringFunction function)) first more s = refl
call_more E m (head.Named (named.PlainFunction function)) first more s = refl
call_more E m (head.Named named.TypeName) first more s = refl
call_more E m (head.Named named.CreateObject) first more s = refl
call_more E m (head.Named named.Err) first more s = refl
call_more E m (head.Named named.Unknown) first more s = refl
call_more E m head.Me first more s = refl
call_more E m (head.With name) first more s = refl
call_more E m (head.Err asked) first more s = refl
call_more E m (head.Member asked groups takes) first more s = refl
