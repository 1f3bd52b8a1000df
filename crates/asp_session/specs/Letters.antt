-- The letters by which a client knows its key: the value of the session cookie. Their form is our own, and their
-- words are those of ChaCha20 (RFC 8439, with a counter and a nonce of 64 bits).
use Rattle.std.specs.Prelude.{ℕ, zero, suc, ◌+◌, ◌-◌, ◌*◌, ◌/◌, ◌%◌, ◌&&◌, nat_eq, nat_lt, Bool, if◌then◌else◌}
use Rattle.std.specs.Prelude.{List, [], ◌∷◌, ◌++◌, take, fold, Option, Some, None}
use Rattle.std.specs.Cmp.Lexicographic.{pointwise}
use Rattle.rand_chacha.specs.ChaCha.{word_at, key_of}

-- the letter of a number: A to Z for 0 to 25, and so on again
abbrev pub letter : ℕ → ℕ
letter number = 65 + number % 26

-- a number in base 26 with so many letters, the highest first
abbrev pub number_letters : ℕ → ℕ → List ℕ
number_letters zero number = []
number_letters (suc count) number = number_letters count (number / 26) ++ letter number ∷ []

-- the letters of so many words of the key stream of a seed, from a place on
abbrev pub word_letters : List ℕ → ℕ → ℕ → List ℕ
word_letters seed zero place = []
word_letters seed (suc count) place = letter (word_at 10 (key_of seed) 0 place) ∷ word_letters seed count (place + 1)

-- The letters of a key, counted from 1: 8 for its number, and 16 for the words of its own block.
abbrev pub letters_of : List ℕ → ℕ → List ℕ
letters_of seed key = number_letters 8 key ++ word_letters seed 16 (16 * (key - 1))

-- what a letter counts in base 26
abbrev pub digit : ℕ → ℕ
digit letter = letter - 65

-- the number that letters in base 26 say
abbrev pub number_of : List ℕ → ℕ
number_of letters = fold (λ number letter. number * 26 + digit letter) 0 letters

-- the keys that there may be: 1 to 2^31 - 1
abbrev pub may_be_key : ℕ → Bool
may_be_key key = nat_lt 0 key && nat_lt key 2147483648

-- the key whose letters these are, if there is one
abbrev pub key_of_letters : List ℕ → List ℕ → Option ℕ
key_of_letters seed letters =
    let key = number_of (take 8 letters) in
    if may_be_key key && pointwise nat_eq letters (letters_of seed key) then Some key else None
