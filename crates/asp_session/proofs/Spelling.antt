-- The letters of keys.
use Rattle.std.proofs.Common.{◌≡◌, ℕ, zero, suc, ◌+◌, ◌-◌, ◌*◌, ◌/◌, ◌%◌, ◌^◌, ◌<◌, ◌≤◌, Bool, true, false, ◌&&◌}
use Rattle.std.proofs.Common.{List, [], ◌∷◌, ◌++◌, length, take, drop, fold, get_or, slice_set, nat_eq, nat_lt, Option}
use Rattle.std.proofs.Common.{Some, None, if◌then◌else◌}
use Rattle.std.proofs.Common.{refl, sym, ap, subst, ◌∙◌, arith, add-one, append_assoc, length-append}
use Rattle.std.proofs.lemmas.Bool.{lt-ltb}
use Rattle.std.proofs.lemmas.List.{append-nil, drop-set, drop-set-lt, take_all, take_at, take_more, take_more_set}
use Rattle.std.proofs.lemmas.List.Sums.{fold_push}
use Rattle.std.proofs.Math.Nat.{pow-suc, pow-le-pow_right}
use Rattle.std.specs.Cmp.Lexicographic.{pointwise, nat_list_eq_equiv}
use Rattle.rand_chacha.specs.ChaCha.{word_at, key_of}
use Rattle.asp_session.specs.Letters.{letter, digit, number_letters, word_letters, letters_of, number_of, may_be_key}
use Rattle.asp_session.specs.Letters.{key_of_letters}

-- so many letters
pub number_length : (count number : ℕ) → length (number_letters count number) ≡ count
number_length zero number = refl
number_length (suc count) number =
    length-append (number_letters count (number / 26)) (letter number ∷ [])
    ∙ ap (λ (n : ℕ). n + 1) (number_length count (number / 26)) ∙ omega arith

pub word_length : (seed : List ℕ) (count place : ℕ) → length (word_letters seed count place) ≡ count
word_length seed zero place = refl
word_length seed (suc count) place = ap suc (word_length seed count (place + 1))

-- a letter of the number is written
pub number_step : (key number at place one : ℕ) (letters : List ℕ) → at < 8 → place ≡ at + 1 → one ≡ letter number
    → length letters ≡ 24
    → number_letters 8 key ++ drop 8 letters ≡ number_letters place number ++ drop place letters
    → number_letters 8 key ++ drop 8 (slice_set letters at one)
    ≡ number_letters at (number / 26) ++ drop at (slice_set letters at one)
number_step key number at place one letters within next is long same =
    let behind : drop 8 (slice_set letters at one) ≡ drop 8 letters = drop-set-lt 8 letters at one within in
    let inside : at < length letters = omega arith in
    let here : drop at (slice_set letters at one) ≡ one ∷ drop (at + 1) letters = drop-set letters at one inside in
    let spelled : number_letters (at + 1) number ≡ number_letters at (number / 26) ++ letter number ∷ [] =
    rw add-one refl in
    (λ i. number_letters 8 key ++ behind i)
    ∙ same
    ∙ (λ i. number_letters (next i) number ++ drop (next i) letters)
    ∙ (λ i. spelled i ++ drop (at + 1) letters)
    ∙ append_assoc (number_letters at (number / 26)) (letter number ∷ []) (drop (at + 1) letters)
    ∙ (λ i. number_letters at (number / 26) ++ sym is i ∷ drop (at + 1) letters)
    ∙ (λ i. number_letters at (number / 26) ++ sym here i)

-- all of them are
pub number_done : (seed letters : List ℕ) (key number place : ℕ) → place ≡ 0
    → number_letters 8 key ++ drop 8 letters ≡ number_letters place number ++ drop place letters
    → letters_of seed key ≡ take 8 letters ++ word_letters seed 16 (16 * (key - 1) + 0)
number_done seed letters key number place none same =
    let whole : number_letters 8 key ++ drop 8 letters ≡ letters =
    same ∙ (λ i. number_letters (none i) number ++ drop (none i) letters) in
    let front : take 8 letters ≡ number_letters 8 key =
    ap (take 8) (sym whole) ∙ take_at (number_letters 8 key) (drop 8 letters) 8 (number_length 8 key) in
    let first : 16 * (key - 1) ≡ 16 * (key - 1) + 0 = omega arith in
    λ i. sym front i ++ word_letters seed 16 (first i)

-- a letter of a word is written
pub word_step : (seed letters : List ℕ) (key at word one : ℕ) → 8 ≤ at → at < 24 → length letters ≡ 24
    → word ≡ word_at 10 (key_of seed) 0 (16 * (key - 1) + (at - 8)) → one ≡ letter word
    → letters_of seed key ≡ take at letters ++ word_letters seed (24 - at) (16 * (key - 1) + (at - 8))
    → letters_of seed key
    ≡ take (at + 1) (slice_set letters at one) ++ word_letters seed (24 - (at + 1)) (16 * (key - 1) + (at + 1 - 8))
word_step seed letters key at word one from within long is spells same =
    let inside : at < length letters = omega arith in
    let front : take (at + 1) (slice_set letters at one) ≡ take at letters ++ one ∷ [] =
    take_more_set letters at one inside in
    let count : 24 - at ≡ suc (24 - (at + 1)) = omega arith in
    let next : 16 * (key - 1) + (at - 8) + 1 ≡ 16 * (key - 1) + (at + 1 - 8) = omega arith in
    same
    ∙ (λ i. take at letters ++ word_letters seed (count i) (16 * (key - 1) + (at - 8)))
    ∙ (λ i. take at letters ++ sym (spells ∙ ap letter is) i ∷ word_letters seed (24 - (at + 1)) (next i))
    ∙ sym (append_assoc (take at letters) (one ∷ [])
    (word_letters seed (24 - (at + 1)) (16 * (key - 1) + (at + 1 - 8))))
    ∙ (λ i. sym front i ++ word_letters seed (24 - (at + 1)) (16 * (key - 1) + (at + 1 - 8)))

-- all of them are
pub word_done : (seed letters : List ℕ) (key at : ℕ) → at ≡ 24 → length letters ≡ 24
    → letters_of seed key ≡ take at letters ++ word_letters seed (24 - at) (16 * (key - 1) + (at - 8))
    → letters ≡ letters_of seed key
word_done seed letters key at end long same =
    let all : take at letters ≡ letters = take_all at letters (omega arith) in
    let none : 24 - at ≡ 0 = omega arith in
    sym (same ∙ (λ i. all i ++ word_letters seed (none i) (16 * (key - 1) + (at - 8))) ∙ append-nil letters)

-- one letter more behind others
number_push : (letters : List ℕ) (letter : ℕ) → number_of (letters ++ letter ∷ []) ≡ number_of letters * 26 + digit letter
number_push letters letter = fold_push (λ number letter. number * 26 + digit letter) 0 letters letter

pub number_more : (letters : List ℕ) (at : ℕ) (letter : ℕ) → at < length letters
    → number_of (take (at + 1) letters) ≡ number_of (take at letters) * 26 + digit (get_or letters at letter)
number_more letters at letter within =
    ap number_of (take_more letters at letter within) ∙ number_push (take at letters) (get_or letters at letter)

-- a number of so many letters stays small
pub stays_small : (number at more : ℕ) → number < 256 * 64 ^ at → more < 256 → number * 26 + more < 256 * 64 ^ (at + 1)
stays_small number at more small less =
    let power : 64 ^ (at + 1) ≡ 64 ^ at * 64 = rw add-one (pow-suc 64 at) in
    omega arith

pub small_enough : (number at : ℕ) → number < 256 * 64 ^ at → at < 8 → number < 2 ^ 50
small_enough number at small few =
    let positive : 0 < 64 = omega arith in
    let within : at ≤ 7 = omega arith in
    let power : 64 ^ at ≤ 64 ^ 7 = pow-le-pow_right {n = 64} positive {i = at} {j = 7} within in
    omega arith

-- a letter counts what it is the letter of
digit_back : (number : ℕ) → digit (letter number) ≡ number % 26
digit_back number = omega arith

-- a number is read back
pub number_back : (count number : ℕ) → number < 26 ^ count → number_of (number_letters count number) ≡ number
number_back zero number below = omega arith
number_back (suc count) number below =
    let power : 26 ^ suc count ≡ 26 ^ count * 26 = pow-suc 26 count in
    let rest = number_back count (number / 26) (omega arith) in
    number_push (number_letters count (number / 26)) (letter number)
    ∙ (λ i. rest i * 26 + digit_back number i)
    ∙ omega arith

-- a key is read back
pub key_back : (seed : List ℕ) (key : ℕ) → 0 < key → key < 2147483648 → key_of_letters seed (letters_of seed key) ≡ Some key
key_back seed key positive below =
    let front : take 8 (letters_of seed key) ≡ number_letters 8 key =
    take_at (number_letters 8 key) (word_letters seed 16 (16 * (key - 1))) 8 (number_length 8 key) in
    let number : number_of (take 8 (letters_of seed key)) ≡ key = ap number_of front ∙ number_back 8 key (omega arith) in
    let may : may_be_key key ≡ true = λ i. lt-ltb 0 key positive i && lt-ltb key 2147483648 below i in
    let same : pointwise nat_eq (letters_of seed key) (letters_of seed key) ≡ true =
    nat_list_eq_equiv.refl (letters_of seed key) in
    subst (λ (number : ℕ).
    (if may_be_key number && pointwise nat_eq (letters_of seed key) (letters_of seed number) then Some number else None)
    ≡ Some key) (sym number) (λ i. if may i && same i then Some key else None)
