-- What stands behind the first words of a command.
use Rattle.std.proofs.Common.{◌≡◌, ℕ, true, false, List, ◌∷◌, None, Some, codes}
use Rattle.std.proofs.Common.{subst}
use Rattle.std.specs.Fmt.{decimal}
use Rattle.asp_command.specs.declared.options.Options.{Options}
use Rattle.asp_command.specs.Saying.{AreNoGen, AreNoOptions, AreNoReplay, AreNoServe}
use Rattle.asp_command.specs.Words.{AreOptions}
use Rattle.asp_command.proofs.OptionWords.{one_options}

-- the options behind two words are those behind the same two words
there : (words behind rest : List (List ℕ)) (name site word : List ℕ) (options : Options)
    → words ≡ name ∷ site ∷ behind → words ≡ name ∷ word ∷ rest → AreOptions rest options → AreOptions behind options
there words behind rest name site word options are also said =
    let same : rest ≡ behind = cc in
    subst (λ (w : List (List ℕ)). AreOptions w options) same said

-- they are no options of `replay`
pub no_replay : (words behind : List (List ℕ)) (site : List ℕ) → words ≡ codes "replay" ∷ site ∷ behind
    → AreNoOptions behind → AreNoReplay words
no_replay words behind site are none word workers journal strict says =
    none says.options (there words behind says.behind (codes "replay") site says.site_word says.options are
    says.words_are says.are_options)

pub other_replay : (words behind : List (List ℕ)) (site : List ℕ) (options : Options)
    → words ≡ codes "replay" ∷ site ∷ behind → AreOptions behind options
    → ¬ ((options.requests ≡ None) × (options.port ≡ None)) → AreNoReplay words
other_replay words behind site options are said other word workers journal strict says =
    let one = one_options behind options says.options said (there words behind says.behind (codes "replay") site
    says.site_word says.options are says.words_are says.are_options) in
    other (cc (one, says.no_requests), cc (one, says.no_port))

-- nor of `serve`
pub no_serve : (words behind : List (List ℕ)) (site : List ℕ) → words ≡ codes "serve" ∷ site ∷ behind
    → AreNoOptions behind → AreNoServe words
no_serve words behind site are none word requests workers port strict says =
    none says.options (there words behind says.behind (codes "serve") site says.site_word says.options are
    says.words_are says.are_options)

pub unsaid_serve : (words behind : List (List ℕ)) (site : List ℕ) (options : Options)
    → words ≡ codes "serve" ∷ site ∷ behind → AreOptions behind options → options.requests ≡ None → AreNoServe words
unsaid_serve words behind site options are said none word requests workers port strict says =
    let one = one_options behind options says.options said (there words behind says.behind (codes "serve") site
    says.site_word says.options are says.words_are says.are_options) in
    let no : None ≡ Some requests = cc (one, none, says.requests_are) in
    cc

pub journal_served : (words behind : List (List ℕ)) (site : List ℕ) (options : Options)
    → words ≡ codes "serve" ∷ site ∷ behind → AreOptions behind options → options.journal ≡ true → AreNoServe words
journal_served words behind site options are said journal word requests workers port strict says =
    let one = one_options behind options says.options said (there words behind says.behind (codes "serve") site
    says.site_word says.options are says.words_are says.are_options) in
    cc (one, journal, says.no_journal)

-- nor of `gen`
pub no_gen : (words behind : List (List ℕ)) (count : List ℕ) → words ≡ codes "gen" ∷ count ∷ behind
    → AreNoOptions behind → AreNoGen words
no_gen words behind count are none number journal says =
    none says.options (there words behind says.behind (codes "gen") count (decimal number) says.options are
    says.words_are says.are_options)

pub other_gen : (words behind : List (List ℕ)) (count : List ℕ) (options : Options)
    → words ≡ codes "gen" ∷ count ∷ behind → AreOptions behind options
    → ¬ ((options.strict ≡ false) × (options.workers ≡ None) × (options.requests ≡ None) × (options.port ≡ None)) → AreNoGen words
other_gen words behind count options are said other number journal says =
    let one = one_options behind options says.options said (there words behind says.behind (codes "gen") count
    (decimal number) says.options are says.words_are says.are_options) in
    other (cc (one, says.no_strict), cc (one, says.no_workers), cc (one, says.no_requests), cc (one, says.no_port))
