-- Parentheses of their own around an expression are taken away one by one.
use Rattle.std.proofs.Common.{◌≡◌, ℕ, zero, suc, ◌-◌, Some, None, refl, arith}
use Rattle.vb_syntax.specs.declared.program.expression.Expression.{Expression, out-Expression}
use Rattle.vb_syntax.specs.declared.program.expression.Expression.TheOpen.{Expression-F}
use Rattle.vb_meaning.specs.Expressions.{Said, inside_or, without_parentheses}
use Rattle.vb_meaning.specs.Parentheses.{parenthesized}

said_end : (more : ℕ) (e : Expression) (said : Said) → parenthesized (suc more) said ≡ None
    → inside_or (without_parentheses more) e said ≡ e
said_end more e (Expression-F.Parenthesis inside) none = cc
said_end more e (Expression-F.Literal literal) none = refl
said_end more e Expression-F.Nothing none = refl
said_end more e (Expression-F.New class) none = refl
said_end more e (Expression-F.Path path) none = refl
said_end more e (Expression-F.Negative operand) none = refl
said_end more e (Expression-F.Not operand) none = refl
said_end more e (Expression-F.Chain first rest) none = refl

pub bare_end : (more : ℕ) (e : Expression) → parenthesized more (out-Expression e) ≡ None
    → without_parentheses more e ≡ e
bare_end zero e none = refl
bare_end (suc more) e none = said_end more e (out-Expression e) none

said_on : (more : ℕ) (e : Expression) (said : Said) (inside : Expression) → parenthesized (suc more) said ≡ Some inside
    → inside_or (without_parentheses more) e said ≡ without_parentheses more inside
said_on more e (Expression-F.Parenthesis found) inside some = cc
said_on more e (Expression-F.Literal literal) inside some = cc
said_on more e Expression-F.Nothing inside some = cc
said_on more e (Expression-F.New class) inside some = cc
said_on more e (Expression-F.Path path) inside some = cc
said_on more e (Expression-F.Negative operand) inside some = cc
said_on more e (Expression-F.Not operand) inside some = cc
said_on more e (Expression-F.Chain first rest) inside some = cc

pub bare_on : (more : ℕ) (e inside : Expression) → parenthesized more (out-Expression e) ≡ Some inside
    → without_parentheses more e ≡ without_parentheses (more - 1) inside
bare_on zero e inside some = cc
bare_on (suc more) e inside some =
    let one : suc more - 1 ≡ more = omega arith in
    rw one (said_on more e (out-Expression e) inside some)
