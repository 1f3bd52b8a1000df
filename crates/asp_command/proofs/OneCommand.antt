-- Words say one command.
use Rattle.std.proofs.Common.{◌≡◌, ℕ, Bool, Some, List, [], ◌∷◌, get_or, codes, chars}
use Rattle.std.proofs.Common.{arith, sym, ap, subst, ◌∙◌}
use Rattle.std.specs.Fmt.{decimal}
use Rattle.std.proofs.lemmas.Fmt.{decimal_injective}
use Rattle.std.proofs.lemmas.Option.{same_Some}
use Rattle.http_front.specs.Target.{path_of, query_of}
use Rattle.asp_command.specs.declared.words.Command.{Command}
use Rattle.asp_command.specs.declared.words.Command.TheVariants.{Get, Check, Replay, Serve, Gen}
use Rattle.asp_command.specs.Words.{AreOptions, IsCommand, IsTarget, SaysCheck, SaysGen, SaysGet, SaysReplay}
use Rattle.asp_command.specs.Words.{SaysServe}
use Rattle.asp_command.specs.declared.options.Options.{Options}
use Rattle.asp_command.proofs.OptionWords.{one_options}

-- the third letter of the first word, by which commands are told apart
abbrev letter : List (List ℕ) → ℕ
letter words = get_or (get_or words 0 []) 2 0

abbrev letter_of : Command → ℕ
letter_of (Get site path query) = 116
letter_of (Check site) = 101
letter_of (Replay site workers journal strict) = 112
letter_of (Serve site requests workers port strict) = 114
letter_of (Gen count journal) = 110

letter_is : (words : List (List ℕ)) (command : Command) → IsCommand words command → letter words ≡ letter_of command
letter_is words (Get site path query) says = ap letter says.words_are
letter_is words (Check site) says = ap letter says.words_are
letter_is words (Replay site workers journal strict) says = ap letter says.words_are
letter_is words (Serve site requests workers port strict) says = ap letter says.words_are
letter_is words (Gen count journal) says = ap letter says.words_are

one_letter : (words : List (List ℕ)) (command other : Command) → IsCommand words command → IsCommand words other
    → letter_of command ≡ letter_of other
one_letter words command other says also = sym (letter_is words command says) ∙ letter_is words other also

-- ---- each command

-- a word names one path
one_path : (word other path path' query query' : List ℕ) → word ≡ other → IsTarget word path query
    → IsTarget other path' query' → path ≡ path'
one_path word other path path' query query' same says also =
    same_Some path path' (sym says.path_is ∙ ap path_of same ∙ also.path_is)

one_get : (words : List (List ℕ)) (site path query site' path' query' : List ℕ) → SaysGet words site path query
    → SaysGet words site' path' query' → Get site path query ≡ Get site' path' query'
one_get words site path query site' path' query' says also =
    let same : codes "get" ∷ says.site_word ∷ says.path_word ∷ [] ≡ codes "get" ∷ also.site_word ∷ also.path_word ∷ [] =
    sym says.words_are ∙ also.words_are in
    let site_words : says.site_word ≡ also.site_word = ap (λ (w : List (List ℕ)). get_or w 1 []) same in
    let path_words : says.path_word ≡ also.path_word = ap (λ (w : List (List ℕ)). get_or w 2 []) same in
    let sites : site ≡ site' = says.site_is ∙ (ap chars site_words ∙ sym also.site_is) in
    let paths : path ≡ path' = one_path says.path_word also.path_word path path' query query' path_words says.target
    also.target in
    let queries : query ≡ query' = says.target.query_is ∙ (ap query_of path_words ∙ sym also.target.query_is) in
    cc

one_check : (words : List (List ℕ)) (site site' : List ℕ) → SaysCheck words site → SaysCheck words site'
    → Check site ≡ Check site'
one_check words site site' says also =
    let site_words : says.site_word ≡ also.site_word =
    ap (λ (w : List (List ℕ)). get_or w 1 []) (sym says.words_are ∙ also.words_are) in
    let sites : site ≡ site' = says.site_is ∙ (ap chars site_words ∙ sym also.site_is) in
    cc

-- the options behind the same words are the same
same_options : (words rest : List (List ℕ)) (options other : Options) → AreOptions words options
    → AreOptions rest other → words ≡ rest → options ≡ other
same_options words rest options other are also same =
    one_options words options other are (subst (λ (w : List (List ℕ)). AreOptions w other) (sym same) also)

one_replay : (words : List (List ℕ)) (site site' : List ℕ) (workers workers' : ℕ)
    (journal journal' strict strict' : Bool) → SaysReplay words site workers journal strict
    → SaysReplay words site' workers' journal' strict'
    → Replay site workers journal strict ≡ Replay site' workers' journal' strict'
one_replay words site site' workers workers' journal journal' strict strict' says also =
    let same : codes "replay" ∷ says.site_word ∷ says.behind ≡ codes "replay" ∷ also.site_word ∷ also.behind =
    sym says.words_are ∙ also.words_are in
    let site_words : says.site_word ≡ also.site_word = cc in
    let behind : says.behind ≡ also.behind = cc in
    let sites : site ≡ site' = says.site_is ∙ (ap chars site_words ∙ sym also.site_is) in
    let one = same_options says.behind also.behind says.options also.options says.are_options also.are_options behind in
    cc (
      sites,
      one,
      says.workers_are,
      also.workers_are,
      says.journal_is,
      also.journal_is,
      says.strict_is,
      also.strict_is,
    )

one_serve : (words : List (List ℕ)) (site site' : List ℕ) (requests requests' workers workers' port port' : ℕ)
    (strict strict' : Bool) → SaysServe words site requests workers port strict
    → SaysServe words site' requests' workers' port' strict'
    → Serve site requests workers port strict ≡ Serve site' requests' workers' port' strict'
one_serve words site site' requests requests' workers workers' port port' strict strict' says also =
    let same : codes "serve" ∷ says.site_word ∷ says.behind ≡ codes "serve" ∷ also.site_word ∷ also.behind =
    sym says.words_are ∙ also.words_are in
    let site_words : says.site_word ≡ also.site_word = cc in
    let behind : says.behind ≡ also.behind = cc in
    let sites : site ≡ site' = says.site_is ∙ (ap chars site_words ∙ sym also.site_is) in
    let one = same_options says.behind also.behind says.options also.options says.are_options also.are_options behind in
    let asked : Some requests ≡ Some requests' = cc (one, says.requests_are, also.requests_are) in
    let counts : requests ≡ requests' = same_Some requests requests' asked in
    cc (
      sites,
      one,
      counts,
      says.workers_are,
      also.workers_are,
      says.port_is,
      also.port_is,
      says.strict_is,
      also.strict_is,
    )

one_gen : (words : List (List ℕ)) (count count' : ℕ) (journal journal' : Bool) → SaysGen words count journal
    → SaysGen words count' journal' → Gen count journal ≡ Gen count' journal'
one_gen words count count' journal journal' says also =
    let same : codes "gen" ∷ decimal count ∷ says.behind ≡ codes "gen" ∷ decimal count' ∷ also.behind =
    sym says.words_are ∙ also.words_are in
    let texts : decimal count ≡ decimal count' = cc in
    let counts = decimal_injective count count' (omega (arith, says.few)) (omega (arith, also.few)) texts in
    let behind : says.behind ≡ also.behind = cc in
    let one = same_options says.behind also.behind says.options also.options says.are_options also.are_options behind in
    cc (counts, one, says.journal_is, also.journal_is)

-- words say one command
pub one_command : (words : List (List ℕ)) (command other : Command) → IsCommand words command → IsCommand words other
    → command ≡ other
one_command words (Get site path query) (Get site' path' query') says also =
    one_get words site path query site' path' query' says also
one_command words (Check site) (Check site') says also = one_check words site site' says also
one_command words (Replay site workers journal strict) (Replay site' workers' journal' strict') says also =
    one_replay words site site' workers workers' journal journal' strict strict' says also
one_command words (Serve site requests workers port strict) (Serve site' requests' workers' port' strict') says also =
    one_serve words site site' requests requests' workers workers' port port' strict strict' says also
one_command words (Gen count journal) (Gen count' journal') says also =
    one_gen words count count' journal journal' says also
one_command words command other says also = absurd (omega (arith, one_letter words command other says also))
