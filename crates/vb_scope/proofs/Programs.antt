-- A program is what a script resolves to.
use Rattle.std.proofs.Common.{◌≡◌, ◌∙◌, ℕ, Bool, List, [], map, Option, ap}
use Rattle.std.specs.List.{flat_map}
use Rattle.vb_syntax.specs.declared.declaration.Access.{Access}
use Rattle.vb_syntax.specs.declared.declaration.Parameter.{Parameter}
use Rattle.vb_syntax.specs.declared.program.name.DictionaryMember.{DictionaryMember}
use Rattle.vb_syntax.specs.declared.program.statement.Statement.{Statement}
use Rattle.vb_syntax.specs.declared.program.unit.Class.{Class}
use Rattle.vb_syntax.specs.declared.program.unit.Constant.{Constant}
use Rattle.vb_syntax.specs.declared.program.unit.Procedure.{Procedure}
use Rattle.vb_syntax.specs.declared.program.unit.ProcedureKind.{ProcedureKind}
use Rattle.vb_syntax.specs.declared.program.unit.Unit.{Unit as Code}
use Rattle.vb_syntax.specs.declared.program.unit.Variable.{Variable}
use Rattle.vb_syntax.specs.declared.program.unit.Field.{Field}
use Rattle.vb_syntax.specs.declared.unit.Class.{Class as SourceClass}
use Rattle.vb_syntax.specs.declared.unit.Unit.{Unit as Script}
use Rattle.vb_syntax.specs.scope.Resolving.{Resolves}
use Rattle.vb_syntax.specs.scope.Faults.{faults_of, names_of}
use Rattle.vb_syntax.specs.scope.Names.{Name, name_number, dictionary_member}
use Rattle.vb_syntax.specs.scope.Programs.{Parts, program_of, own_statement, procedure_of, class_of}
use Rattle.vb_syntax.specs.scope.Programs.{is_private, procedure_in, names_where, is_place, is_procedure, is_class}
use Rattle.vb_syntax.specs.scope.Programs.{fields_of, procedure_member, sub_number}
use Rattle.std.specs.Prelude.{codes}
use Rattle.vb_syntax.specs.scope.Scopes.{Declarations, class_scope, page_scope, body_scope, body_scopes}
use Rattle.vb_syntax.specs.scope.Trees.{statement_of}
use Rattle.vb_syntax.specs.scope.Units.{Body, procedures_of, classes_of}

-- the program of a script without a fault
pub resolved : (script : Script) (parts : Parts) → faults_of script ≡ [] → parts ≡ program_of script
    → ∥ ((script : Script) × Resolves script parts) ∥₁
resolved script parts faultless is = ∣ (script, record { faultless = faultless; is = is }) ∣₁

-- the trees of a script, in the scope of its page and with its names
abbrev pub code_in : Script → Declarations → List Name → List Statement → List Procedure → List Class → Type 0
code_in script page names body procedures classes =
    (body ≡ flat_map (own_statement page names) script.items)
    × (procedures ≡ map (procedure_of script.option_explicit page names) (procedures_of script.items))
    × (classes ≡ map (class_of script.option_explicit page names) (classes_of script.items))

-- the names that a program lists
abbrev pub listed_in : Declarations → List Name → List Name → List Name → Type 0
listed_in page vars procs classes =
    (vars ≡ names_where is_place page.names page.meanings)
    × (procs ≡ names_where is_procedure page.names page.meanings)
    × (classes ≡ names_where is_class page.names page.meanings)

-- these trees and names are the program of the script
pub parts_are : (script : Script) (page : Declarations) (names : List Name) (body : List Statement)
    (procedures : List Procedure) (classes : List Class) (written vars procs class_names : List Name)
    (variables : List Variable) (constants : List Constant)
    (dictionary : List (Option DictionaryMember)) (code : Code)
    → page ≡ page_scope script → names ≡ names_of script
    → code_in script page names body procedures classes → listed_in page vars procs class_names
    → variables ≡ page.variables → constants ≡ page.constants
    → written ≡ names → dictionary ≡ map dictionary_member names
    → code ≡ record {
      body = body;
      variables = variables;
      constants = constants;
      procedures = procedures;
      classes = classes;
      names = written;
      dictionary = dictionary;
    }
    → record {
      unit = code;
      vars = vars;
      procs = procs;
      classes = class_names;
      explicit = script.option_explicit;
    }
    ≡ program_of script
unfolding program_of
parts_are script page names body procedures classes written vars procs class_names variables constants
    dictionary code in_page with_names are_trees are_listed are_variables are_constants are_written are_said
    are_code = cc

-- these parts are the procedure
pub procedure_is : (explicit : Bool) (page : Declarations) (names : List Name) (class : Declarations)
    (access : Option Access) (kind : ProcedureKind) (name : Name) (body : Body) (private : Bool) (number : ℕ)
    (by_value : List Bool) (scope : Declarations) (variables : List Variable) (constants : List Constant)
    (statements : List Statement)
    → private ≡ is_private access → number ≡ name_number names name
    → by_value ≡ map (λ (found : Parameter). found.by_value) body.parameters
    → scope ≡ body_scope explicit page class body → variables ≡ scope.variables → constants ≡ scope.constants
    → statements ≡ map (statement_of names (body_scopes explicit page class body)) body.statements
    → record {
      line = body.line;
      is_private = private;
      kind = kind;
      name = number;
      by_value = by_value;
      variables = variables;
      constants = constants;
      body = statements;
    }
    ≡ procedure_in explicit page names class access kind name body
procedure_is explicit page names class access kind name body private number by_value scope variables constants statements
    is_it is_number are_by_value is_scope are_variables are_constants are_statements = cc

-- a procedure is what its parts make it
pub same_procedure : (explicit : Bool) (page : Declarations) (names : List Name) (class outer : Declarations)
    (access given : Option Access) (kind is_kind : ProcedureKind) (name is_name : Name) (body is_body : Body)
    → class ≡ outer → access ≡ given → kind ≡ is_kind → name ≡ is_name → body ≡ is_body
    → procedure_in explicit page names class access kind name body
    ≡ procedure_in explicit page names outer given is_kind is_name is_body
same_procedure explicit page names class outer access given kind is_kind name is_name body is_body a b c d e =
    ap (λ (x : Declarations). procedure_in explicit page names x access kind name body) a
    ∙ ap (λ (x : Option Access). procedure_in explicit page names outer x kind name body) b
    ∙ ap (λ (x : ProcedureKind). procedure_in explicit page names outer given x name body) c
    ∙ ap (λ (x : Name). procedure_in explicit page names outer given is_kind x body) d
    ∙ ap (λ (x : Body). procedure_in explicit page names outer given is_kind is_name x) e

-- these parts are the class
pub class_is : (explicit : Bool) (page : Declarations) (names : List Name) (found : SourceClass) (class : Declarations)
    (fields : List Field) (procedures : List Procedure) (initialize terminate : Option ℕ)
    → class ≡ class_scope found → fields ≡ flat_map (fields_of names) found.members
    → procedures ≡ flat_map (procedure_member explicit page names class) found.members
    → initialize ≡ sub_number (codes "class_initialize") found.members
    → terminate ≡ sub_number (codes "class_terminate") found.members
    → record {
      line = found.line;
      fields = fields;
      procedures = procedures;
      initialize = initialize;
      terminate = terminate;
    }
    ≡ class_of explicit page names found
class_is explicit page names found class fields procedures initialize terminate a b c d e = cc
