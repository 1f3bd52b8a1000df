-- This crate's own: what is found in the words of a command.
use Rattle.std.specs.Prelude.{◌≡◌, ℕ, ◌≤◌, ◌++◌, Bool, List, [], ◌∷◌, Option, MatchOption, chars, codes}
use Rattle.std.specs.Fmt.{decimal}
use Rattle.http_front.specs.Target.{query_of}
use Rattle.asp_command.specs.declared.words.Command.{Command}
use Rattle.asp_command.specs.declared.words.Command.TheVariants.{Get}
use Rattle.asp_command.specs.declared.options.Options.{Options}
use Rattle.asp_command.specs.declared.options.Said.{Said}
use Rattle.asp_command.specs.Words.{AreOptions, HasRange, IsNoTarget, IsTarget, SayFurther, SaysGen, SaysReplay, SaysServe}
use Rattle.asp_command.specs.Words.{option_words}

-- ---- targets and numbers

-- the path that the word names, or nothing, where it is no target
abbrev pub IsTargetPath : List ℕ → Option (List ℕ) → Type 0
IsTargetPath word found = MatchOption found (IsNoTarget word) (λ path. IsTarget word path (query_of word))

-- the word is the decimal text of this number, which is not 0 and not greater than the most
pub record IsNumber (most : ℕ) (word : List ℕ) (number : ℕ) : Type 0 where
  pub word_is : word ≡ decimal number
  pub some : 1 ≤ number
  pub few : number ≤ most

-- it is that of none
abbrev pub IsNoNumber : ℕ → List ℕ → Type 0
IsNoNumber most word = (number : ℕ) → ¬ (IsNumber most word number)

-- ---- what stands first

-- this word does not
abbrev pub IsNotFirst : List ℕ → List (List ℕ) → Type 0
IsNotFirst word words = (rest : List (List ℕ)) → ¬ (words ≡ word ∷ rest)

-- this option, with a number that it may have
pub record IsFirst (words : List (List ℕ)) (said : Said) (rest : List (List ℕ)) : Type 0 where
  pub range : HasRange said
  pub words_are : words ≡ option_words said ++ rest

-- no option does
abbrev pub IsNoneFirst : List (List ℕ) → Type 0
IsNoneFirst words = (said : Said) (rest : List (List ℕ)) → ¬ (IsFirst words said rest)

-- ---- words of commands

-- behind the options that were said before, the words say no options
abbrev pub SayNone : Options → List (List ℕ) → Type 0
SayNone before words = (said : List Said) (all : Options) → ¬ (SayFurther before said words all)

-- they say some, and all together are these
abbrev pub SaySome : Options → List (List ℕ) → Options → Type 0
SaySome before words all = (said : List Said) × SayFurther before said words all

-- the words are no options
abbrev pub AreNoOptions : List (List ℕ) → Type 0
AreNoOptions words = (options : Options) → ¬ (AreOptions words options)

-- the command is `get` for the folder of this word and the target that is this word
pub record IsGetOf (site word : List ℕ) (command : Command) : Type 0 where
  pub path : List ℕ
  pub query : List ℕ
  pub target : IsTarget word path query
  pub command_is : command ≡ Get (chars site) path query

-- the words are `get` and these two; they are `check` and this one
abbrev pub AreGetWords : List (List ℕ) → List ℕ → List ℕ → Type 0
AreGetWords words site target = words ≡ codes "get" ∷ site ∷ target ∷ []

abbrev pub AreCheckWords : List (List ℕ) → List ℕ → Type 0
AreCheckWords words site = words ≡ codes "check" ∷ site ∷ []

-- they are not; they are not those of `replay`, of `serve`, nor of `gen`
abbrev pub AreNoGet : List (List ℕ) → Type 0
AreNoGet words = (site target : List ℕ) → ¬ (AreGetWords words site target)

abbrev pub AreNoCheck : List (List ℕ) → Type 0
AreNoCheck words = (site : List ℕ) → ¬ (AreCheckWords words site)

abbrev pub AreNoReplay : List (List ℕ) → Type 0
AreNoReplay words = (site : List ℕ) (workers : ℕ) (journal strict : Bool)
    → ¬ (SaysReplay words site workers journal strict)

abbrev pub AreNoServe : List (List ℕ) → Type 0
AreNoServe words = (site : List ℕ) (requests workers port : ℕ) (strict : Bool)
    → ¬ (SaysServe words site requests workers port strict)

abbrev pub AreNoGen : List (List ℕ) → Type 0
AreNoGen words = (count : ℕ) (journal : Bool) → ¬ (SaysGen words count journal)
