-- Which object of the page a name stands for, by what it stands for where it is called.
use Rattle.std.proofs.Common.{◌≡◌, Bool, true, false, [], ◌∷◌, Option, Some, None, refl, sym, ap, ◌∙◌}
use Rattle.std.specs.Prelude.{if◌then◌else◌, is_some, unwrap_or}
use Rattle.std.proofs.lemmas.Bool.{false≢true}
use Rattle.vb_value.specs.Folding.{folded}
use Rattle.vb_syntax.specs.declared.program.name.Named.{Named}
use Rattle.vb_syntax.specs.declared.program.name.Named.TheVariants as named
use Rattle.vb_syntax.specs.scope.Names.{Name, first_of, of_language, object_named}
use Rattle.vb_syntax.specs.scope.Scopes.{Scopes, declared_in, named_in, object_in, standing_in, is_unknown, where_called}

-- what stands for a name, where a scope declares it or else the language
abbrev standing : Option Named → Option Named → Named
standing declared language = unwrap_or (first_of (declared ∷ language ∷ [])) named.Unknown

-- what is no object where it is called is none where it is not
as_called : (body class page language : Option Named)
    → is_unknown (standing (first_of (where_called true body ∷ class ∷ page ∷ [])) language) ≡ false
    → is_unknown (standing (first_of (body ∷ class ∷ page ∷ [])) language) ≡ false
as_called None class page language is = is
as_called (Some (named.Place found)) class page language is = refl
as_called (Some (named.Own number)) class page language is = refl
as_called (Some (named.PageConstant number)) class page language is = refl
as_called (Some (named.LocalConstant number)) class page language is = refl
as_called (Some (named.Value found)) class page language is = refl
as_called (Some (named.Procedure number)) class page language is = refl
as_called (Some (named.Class number)) class page language is = refl
as_called (Some (named.StringFunction found)) class page language is = refl
as_called (Some (named.PlainFunction found)) class page language is = refl
as_called (Some named.TypeName) class page language is = refl
as_called (Some named.CreateObject) class page language is = refl
as_called (Some named.Err) class page language is = refl
as_called (Some named.Unknown) class page language is = is

-- what no scope declares where it is not called is the same where it is
free_called : (body class page : Option Named) → first_of (body ∷ class ∷ page ∷ []) ≡ None
    → first_of (where_called true body ∷ class ∷ page ∷ []) ≡ None
free_called None class page free = free
free_called (Some found) class page free = absurd (false≢true (sym (ap is_some free)))

module _ (scopes : Scopes) (name : Name) where
  -- a name that stands for something is no object
  pub object_none : (is_called : Bool) → is_unknown (named_in scopes is_called name) ≡ false
      → object_in scopes name ≡ None
  unfolding object_in named_in declared_in
  object_none false is = ap (λ b. if b then object_named name else None) is
  object_none true is = ap (λ b. if b then object_named name else None)
      (as_called (standing_in scopes.body (folded name)) (standing_in scopes.class (folded name))
      (standing_in scopes.page (folded name)) (of_language name) is)

  -- a name that stands for nothing is an object if there is one of the name
  pub object_plain : is_unknown (named_in scopes false name) ≡ true → object_in scopes name ≡ object_named name
  unfolding object_in
  object_plain is = ap (λ b. if b then object_named name else None) is

  -- the same, of a name that stands for nothing where it is called
  pub object_free : declared_in scopes false (folded name) ≡ None → is_unknown (named_in scopes true name) ≡ true
      → object_in scopes name ≡ object_named name
  unfolding object_in named_in declared_in
  object_free free is = ap (λ b. if b then object_named name else None)
      (ap (λ d. is_unknown (standing d (of_language name))) (free
      ∙ sym (free_called (standing_in scopes.body (folded name)) (standing_in scopes.class (folded name))
      (standing_in scopes.page (folded name)) free)) ∙ is)

  -- a name that a scope declares as something
  pub object_declared : (found : Named) → declared_in scopes false (folded name) ≡ Some found
      → is_unknown found ≡ false → object_in scopes name ≡ None
  unfolding object_in named_in
  object_declared found is known = ap (λ b. if b then object_named name else None)
      (ap (λ d. is_unknown (standing d (of_language name))) is ∙ known)

  -- a name that a scope declares as nothing
  pub object_undeclared : (found : Named) → declared_in scopes false (folded name) ≡ Some found
      → is_unknown found ≡ true → object_in scopes name ≡ object_named name
  unfolding object_in named_in
  object_undeclared found is unknown = ap (λ b. if b then object_named name else None)
      (ap (λ d. is_unknown (standing d (of_language name))) is ∙ unknown)

pub ruleset objects = (object_none, object_plain, object_free, object_declared, object_undeclared)
