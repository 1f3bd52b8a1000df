-- The words of a command line, each as its bytes, and the command that they say.
use Rattle.std.specs.Prelude.{◌≡◌, ℕ, ◌+◌, ◌^◌, ◌<◌, ◌≤◌, Bool, true, false, IsTrue, None, Some, is_some}
use Rattle.std.specs.Prelude.{unwrap_or}
use Rattle.std.specs.Prelude.{List, [], ◌∷◌, ◌++◌, length, chars, codes}
use Rattle.std.specs.Fmt.{decimal}
use Rattle.asp_text.specs.Path.{begins_with_slash}
use Rattle.http_front.specs.Target.{path_of, query_of}
use Rattle.asp_command.specs.declared.words.Command.{Command}
use Rattle.asp_command.specs.declared.words.Command.TheVariants.{Get, Check, Replay, Serve, Gen}
use Rattle.asp_command.specs.declared.options.Options.{Options}
use Rattle.asp_command.specs.declared.options.Said.{Said}
use Rattle.asp_command.specs.declared.options.Said.TheVariants as said

-- ---- paths of requests

-- The word is the target of a request from its path on (RFC 9112, section 3.2.1), and names this path and this query,
-- which are not longer together than a request may be.
pub record IsTarget (word path query : List ℕ) : Type 0 where
  pub rooted : IsTrue (begins_with_slash word)
  pub path_is : path_of word ≡ Some path
  pub query_is : query ≡ query_of word
  pub short : length path + length query < 2 ^ 24

-- the word is no such target
abbrev pub IsNoTarget : List ℕ → Type 0
IsNoTarget word = (path query : List ℕ) → ¬ (IsTarget word path query)

-- ---- options

-- the words of an option: its name, and the number of one that has a number
abbrev pub option_words : Said → List (List ℕ)
option_words said.Journal = codes "--journal" ∷ []
option_words said.StrictLock = codes "--strict-lock" ∷ []
option_words (said.Workers number) = codes "--workers" ∷ decimal number ∷ []
option_words (said.Requests number) = codes "--requests" ∷ decimal number ∷ []
option_words (said.Port number) = codes "--port" ∷ decimal number ∷ []

-- the option may have the number that it has
abbrev pub HasRange : Said → Type 0
HasRange said.Journal = Unit {0}
HasRange said.StrictLock = Unit {0}
HasRange (said.Workers number) = (1 ≤ number) × (number ≤ 16)
HasRange (said.Requests number) = (1 ≤ number) × (number ≤ 100000)
HasRange (said.Port number) = (1 ≤ number) × (number ≤ 65535)

-- it is among the options that were said
abbrev pub is_among : Options → Said → Bool
is_among options said.Journal = options.journal
is_among options said.StrictLock = options.strict
is_among options (said.Workers number) = is_some options.workers
is_among options (said.Requests number) = is_some options.requests
is_among options (said.Port number) = is_some options.port

-- these options, and this one
abbrev pub with_option : Options → Said → Options
with_option options said.Journal = record {
  journal = true;
  strict = options.strict;
  workers = options.workers;
  requests = options.requests;
  port = options.port;
}
with_option options said.StrictLock = record {
  journal = options.journal;
  strict = true;
  workers = options.workers;
  requests = options.requests;
  port = options.port;
}
with_option options (said.Workers number) = record {
  journal = options.journal;
  strict = options.strict;
  workers = Some number;
  requests = options.requests;
  port = options.port;
}
with_option options (said.Requests number) = record {
  journal = options.journal;
  strict = options.strict;
  workers = options.workers;
  requests = Some number;
  port = options.port;
}
with_option options (said.Port number) = record {
  journal = options.journal;
  strict = options.strict;
  workers = options.workers;
  requests = options.requests;
  port = Some number;
}

-- none
abbrev pub no_options : Options
no_options = record { journal = false; strict = false; workers = None; requests = None; port = None }

-- Behind the options that were said before, the words say these, one after another, none of which was said before it;
-- and then all together are those.
abbrev pub SayFurther : Options → List Said → List (List ℕ) → Options → Type 0
SayFurther before [] words all = (words ≡ []) × (all ≡ before)
SayFurther before (said ∷ more) words all = (is_among before said ≡ false) × HasRange said
    × ((rest : List (List ℕ)) × (words ≡ option_words said ++ rest) × SayFurther (with_option before said) more rest all)

-- the words are these options, in any order, each at most once
abbrev pub AreOptions : List (List ℕ) → Options → Type 0
AreOptions words options = (said : List Said) × SayFurther no_options said words options

-- ---- commands

-- the words are `get`, a word for the folder of the site, and the path of a request with its query
pub record SaysGet (words : List (List ℕ)) (site path query : List ℕ) : Type 0 where
  pub site_word : List ℕ
  pub path_word : List ℕ
  pub words_are : words ≡ codes "get" ∷ site_word ∷ path_word ∷ []
  pub site_is : site ≡ chars site_word
  pub target : IsTarget path_word path query

-- the words are `check` and a word for the folder of the site
pub record SaysCheck (words : List (List ℕ)) (site : List ℕ) : Type 0 where
  pub site_word : List ℕ
  pub words_are : words ≡ codes "check" ∷ site_word ∷ []
  pub site_is : site ≡ chars site_word

-- the words are `replay`, a word for the folder of the site, and options: how many workers, the journal, and the strict
-- rule
pub record SaysReplay (words : List (List ℕ)) (site : List ℕ) (workers : ℕ) (journal strict : Bool) : Type 0 where
  pub site_word : List ℕ
  pub behind : List (List ℕ)
  pub options : Options
  pub words_are : words ≡ codes "replay" ∷ site_word ∷ behind
  pub site_is : site ≡ chars site_word
  pub are_options : AreOptions behind options
  pub no_requests : options.requests ≡ None
  pub no_port : options.port ≡ None
  pub workers_are : workers ≡ unwrap_or options.workers 4
  pub journal_is : journal ≡ options.journal
  pub strict_is : strict ≡ options.strict

-- the words are `serve`, a word for the folder of the site, and options: how many requests, which must be said, how
-- many workers, the port, and the strict rule
pub record SaysServe (words : List (List ℕ)) (site : List ℕ) (requests workers port : ℕ) (strict : Bool) : Type 0 where
  pub site_word : List ℕ
  pub behind : List (List ℕ)
  pub options : Options
  pub words_are : words ≡ codes "serve" ∷ site_word ∷ behind
  pub site_is : site ≡ chars site_word
  pub are_options : AreOptions behind options
  pub no_journal : options.journal ≡ false
  pub requests_are : options.requests ≡ Some requests
  pub workers_are : workers ≡ unwrap_or options.workers 4
  pub port_is : port ≡ unwrap_or options.port 8080
  pub strict_is : strict ≡ options.strict

-- the words are `gen`, the number of requests, and perhaps the option for the journal
pub record SaysGen (words : List (List ℕ)) (count : ℕ) (journal : Bool) : Type 0 where
  pub behind : List (List ℕ)
  pub options : Options
  pub words_are : words ≡ codes "gen" ∷ decimal count ∷ behind
  pub some : 1 ≤ count
  pub few : count ≤ 10000
  pub are_options : AreOptions behind options
  pub no_strict : options.strict ≡ false
  pub no_workers : options.workers ≡ None
  pub no_requests : options.requests ≡ None
  pub no_port : options.port ≡ None
  pub journal_is : journal ≡ options.journal

-- the words say this command
abbrev pub IsCommand : List (List ℕ) → Command → Type 0
IsCommand words (Get site path query) = SaysGet words site path query
IsCommand words (Check site) = SaysCheck words site
IsCommand words (Replay site workers journal strict) = SaysReplay words site workers journal strict
IsCommand words (Serve site requests workers port strict) = SaysServe words site requests workers port strict
IsCommand words (Gen count journal) = SaysGen words count journal

-- the words say no command
abbrev pub SaysNoCommand : List (List ℕ) → Type 0
SaysNoCommand words = (command : Command) → ¬ (IsCommand words command)
