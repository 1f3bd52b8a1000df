-- Options: words are such in at most one way.
use Rattle.std.proofs.Common.{◌≡◌, ◌≢◌, ℕ, ◌≤◌, true, false, List, [], ◌∷◌, ◌++◌}
use Rattle.std.proofs.Common.{Option, None, Some, MatchOption, length, map, get_or, arith, refl, sym, ap, subst, ◌∙◌}
use Rattle.std.specs.Fmt.{decimal}
use Rattle.std.proofs.lemmas.Fmt.{decimal_injective}
use Rattle.asp_command.specs.declared.options.Options.{Options}
use Rattle.asp_command.specs.declared.options.Said.{Said}
use Rattle.asp_command.specs.declared.options.Said.TheVariants as said
use Rattle.asp_command.specs.Saying.{IsFirst, IsNoneFirst, SayNone, SaySome}
use Rattle.asp_command.specs.Words.{AreOptions, SayFurther, is_among, no_options, option_words, with_option}

-- ---- what stands first is one option

-- the third letter of the first word, by which options are told apart
abbrev letter : List (List ℕ) → ℕ
letter words = get_or (get_or words 0 []) 2 0

abbrev letter_of : Said → ℕ
letter_of said.Journal = 106
letter_of said.StrictLock = 115
letter_of (said.Workers number) = 119
letter_of (said.Requests number) = 114
letter_of (said.Port number) = 112

letter_is : (words rest : List (List ℕ)) (option : Said) → words ≡ option_words option ++ rest
    → letter words ≡ letter_of option
letter_is words rest said.Journal are = ap letter are
letter_is words rest said.StrictLock are = ap letter are
letter_is words rest (said.Workers number) are = ap letter are
letter_is words rest (said.Requests number) are = ap letter are
letter_is words rest (said.Port number) are = ap letter are

-- a number is that of one text
one_number : (first second : ℕ) (words rest : List (List ℕ)) → decimal first ∷ words ≡ decimal second ∷ rest
    → first ≤ 100000 → second ≤ 100000 → (first ≡ second) × (words ≡ rest)
one_number first second words rest same few small =
    let texts : decimal first ≡ decimal second = cc in
    (decimal_injective first second (omega arith) (omega arith) texts, cc)

pub one_first : (words rest more : List (List ℕ)) (option other : Said) → IsFirst words option rest
    → IsFirst words other more → (option ≡ other) × (rest ≡ more)
one_first words rest more said.Journal said.Journal is also = (refl, cc (is.words_are, also.words_are))
one_first words rest more said.StrictLock said.StrictLock is also = (refl, cc (is.words_are, also.words_are))
one_first words rest more (said.Workers first) (said.Workers second) is also =
    let one = one_number first second rest more (cc (is.words_are, also.words_are)) (omega (arith, is.range.1))
    (omega (arith, also.range.1)) in
    (ap said.Workers one.0, one.1)
one_first words rest more (said.Requests first) (said.Requests second) is also =
    let one = one_number first second rest more (cc (is.words_are, also.words_are)) (omega (arith, is.range.1))
    (omega (arith, also.range.1)) in
    (ap said.Requests one.0, one.1)
one_first words rest more (said.Port first) (said.Port second) is also =
    let one = one_number first second rest more (cc (is.words_are, also.words_are)) (omega (arith, is.range.1))
    (omega (arith, also.range.1)) in
    (ap said.Port one.0, one.1)
one_first words rest more option other is also =
    absurd (omega (arith, letter_is words rest option is.words_are, letter_is words more other also.words_are))

-- ---- options, one after another

-- what stands first, of words that say further options
pub first_of : (before : Options) (option : Said) (more : List Said) (words rest : List (List ℕ)) (all : Options)
    (found : Said) → SayFurther before (option ∷ more) words all → IsFirst words found rest
    → (is_among before found ≡ false) × SayFurther (with_option before found) more rest all
first_of before option more words rest all found say is =
    let also : IsFirst words option say.2.0 = record { range = say.1; words_are = say.2.1 } in
    let one = one_first words rest say.2.0 found option is also in
    let among = subst (λ (o : Said). is_among before o ≡ false) (sym one.0) say.0 in
    let tail = subst (λ (o : Said). SayFurther (with_option before o) more say.2.0 all) (sym one.0) say.2.2 in
    (among, subst (λ (w : List (List ℕ)). SayFurther (with_option before found) more w all) (sym one.1) tail)

-- some letter stands in the words of each option
has_letter : (option : Said) → 1 ≤ letter_of option
has_letter said.Journal = omega arith
has_letter said.StrictLock = omega arith
has_letter (said.Workers number) = omega arith
has_letter (said.Requests number) = omega arith
has_letter (said.Port number) = omega arith

-- no words are no option's
no_words : (words rest : List (List ℕ)) (option : Said) → words ≡ [] → words ≡ option_words option ++ rest → ⊥
no_words words rest option none are =
    omega (arith, ap letter none, letter_is words rest option are, has_letter option)

-- words say further options in one way
same_further : (before : Options) (said other : List Said) (words : List (List ℕ)) (all again : Options)
    → SayFurther before said words all → SayFurther before other words again → all ≡ again
same_further before [] [] words all again say also = say.1 ∙ sym also.1
same_further before [] (option ∷ more) words all again say also =
    absurd (no_words words also.2.0 option say.0 also.2.1)
same_further before (option ∷ more) [] words all again say also =
    absurd (no_words words say.2.0 option also.0 say.2.1)
same_further before (option ∷ more) (second ∷ rest) words all again say also =
    let is : IsFirst words option say.2.0 = record { range = say.1; words_are = say.2.1 } in
    let next = first_of before second rest words say.2.0 again option also is in
    same_further (with_option before option) more rest say.2.0 all again say.2.2 next.1

pub one_options : (words : List (List ℕ)) (options other : Options) → AreOptions words options → AreOptions words other
    → options ≡ other
one_options words options other are also = same_further no_options are.0 also.0 words options other are.1 also.1

-- no words say nothing further
pub none_further : (before : Options) (words : List (List ℕ)) → words ≡ [] → SaySome before words before
none_further before words none = ([], (none, refl))

-- some say an option and then further ones
pub some_further : (before : Options) (words rest : List (List ℕ)) (found : Said) (all : Options)
    → IsFirst words found rest → is_among before found ≡ false → SaySome (with_option before found) rest all
    → SaySome before words all
some_further before words rest found all is new say =
    (found ∷ say.0, (new, is.range, (rest, is.words_are, say.1)))

-- words at whose front no option stands say none
pub no_option : (before : Options) (words : List (List ℕ)) → words ≢ [] → IsNoneFirst words → SayNone before words
no_option before words some none [] all say = some say.0
no_option before words some none (option ∷ more) all say =
    none option say.2.0 (record { range = say.1; words_are = say.2.1 })

-- nor do those at whose front one stands that was said before
pub said_again : (before : Options) (words rest : List (List ℕ)) (found : Said) → IsFirst words found rest
    → is_among before found ≡ true → SayNone before words
said_again before words rest found is again [] all say = no_words words rest found say.0 is.words_are
said_again before words rest found is again (option ∷ more) all say =
    let next = first_of before option more words rest all found say is in
    let no : true ≡ false = sym again ∙ next.0 in
    cc

-- nor those behind whose front nothing is said
pub none_behind : (before : Options) (words rest : List (List ℕ)) (found : Said) → IsFirst words found rest
    → SayNone (with_option before found) rest → SayNone before words
none_behind before words rest found is none [] all say = no_words words rest found say.0 is.words_are
none_behind before words rest found is none (option ∷ more) all say =
    none more all (first_of before option more words rest all found say is).1

-- what is found of what is said behind the front
pub behind_first : (before : Options) (words rest : List (List ℕ)) (found : Said) (result : Option Options)
    → IsFirst words found rest → is_among before found ≡ false
    → MatchOption result (SayNone (with_option before found) rest) (λ all. SaySome (with_option before found) rest all)
    → MatchOption result (SayNone before words) (λ all. SaySome before words all)
behind_first before words rest found None is new say = none_behind before words rest found is say
behind_first before words rest found (Some all) is new say = some_further before words rest found all is new say

-- a list with items stays one where each is mapped
pub some_mapped : {X Y : Type 0} (f : X → Y) (items : List X) → length items ≢ 0 → map f items ≢ []
some_mapped f [] some none = some refl
some_mapped f (x ∷ items) some none = cc
