-- Which values the functions give: what holds of all errors, of Null, of all numbers and of texts holds of their answers.
use Rattle.std.proofs.Common.{ℕ, Bool, true, false, ◌||◌, nat_lt, if◌then◌else◌, ℤ, pos, negsuc, ◌-ℤ◌, List, [], ◌∷◌}
use Rattle.std.proofs.Common.{Result, Ok, Err, length}
use Rattle.vb_value.specs.declared.fault.VbError.{VbError}
use Rattle.vb_value.specs.declared.value.Value.{Value, Null, Int, Long, Str, out-Value}
use Rattle.vb_value.specs.declared.value.Value.TheOpen.{Value-F}
use Rattle.vb_value.specs.declared.value.Array.{Array}
use Rattle.vb_value.specs.Arguments.{the_argument, is_null, null_or}
use Rattle.vb_value.specs.Conversions.{to_str_of, to_long_of}
use Rattle.vb_value.specs.Errors.{and_then, type_mismatch, invalid_use_of_null, invalid_call, wrong_number}
use Rattle.vb_value.specs.Numbers.{as_long}
use Rattle.vb_strings.specs.declared.comparing.Comparison.{Comparison}
use Rattle.vb_strings.specs.declared.comparing.Comparison.TheVariants.{Exact}
use Rattle.vb_strings.specs.Characters.{asc_of, chr_of, number_of, code_of, character_of}
use Rattle.vb_strings.specs.Comparing.{comparison_of, str_comp_of, compared}
use Rattle.vb_strings.specs.Joining.{join_of, join_value, join_level, join_items, texts_of}
use Rattle.vb_strings.specs.Letters.{lcase_of, ucase_of, str_reverse_of}
use Rattle.vb_strings.specs.Parts.{len_of, left_of, right_of, mid_of, ltrim_of, rtrim_of, trim_of, part, front, back}
use Rattle.vb_strings.specs.Parts.{rest, middle, changed}
use Rattle.vb_strings.specs.Repeating.{space_of, string_of, repeated, filling_of, first_of}
use Rattle.vb_strings.specs.Replacing.{replace_of, replace_value}
use Rattle.vb_strings.specs.Results.{long, before_place, count_of, most_of}
use Rattle.vb_strings.specs.Searching.{in_str_of, in_str, search_from, in_str_rev_of, in_str_rev, search_up_to, end_of}
use Rattle.vb_strings.specs.Splitting.{one_space}

module _ (P : Result Value VbError → Type 0) (err : (e : VbError) → P (Err e)) where
  pub then_all : {T : Type 0} (answer : Result T VbError) (next : T → Result Value VbError)
      → ((given : T) → P (next given)) → P (and_then answer next)
  then_all (Ok given) next each = each given
  then_all (Err refused) next each = err refused

  if_all : (test : Bool) (a b : Result Value VbError) → P a → P b → P (if test then a else b)
  if_all true a b first second = first
  if_all false a b first second = second

  module _ (null : P (Ok Null)) (integer : (n : ℤ) → P (Ok (Int n))) (whole : (n : ℤ) → P (Ok (Long n))) where
    one_all : (function : Value → Result Value VbError) (arguments : List Value)
        → ((value : Value) → P (function value)) → P (and_then (the_argument arguments) (null_or function))
    one_all function arguments each =
        then_all (the_argument arguments) (null_or function) (λ value.
        if_all (is_null value) (Ok Null) (function value) null (each value))

    long_all : (n : ℕ) → P (long n)
    long_all n = then_all (as_long (pos n)) (λ z. Ok (Long z)) whole

    pub len_all : (arguments : List Value) → P (len_of arguments)
    len_all arguments = one_all (λ value. and_then (to_str_of value) (λ text. long (length text))) arguments (λ value.
        then_all (to_str_of value) (λ text. long (length text)) (λ text. long_all (length text)))

    search_from_all : (comparison : Comparison) (text pattern : List ℕ) (place : ℤ)
        → P (search_from comparison text pattern place)
    unfolding search_from
    search_from_all comparison text pattern place = then_all (before_place place) _ (λ skipped. long_all _)

    in_str_all : (from : Result ℤ VbError) (a b : Value) (comparison : Result Comparison VbError)
        → P (in_str from a b comparison)
    in_str_all from a b comparison =
        if_all (is_null a || is_null b) (Ok Null) _ null (then_all from _ (λ place. then_all (to_str_of a) _ (λ text.
        then_all (to_str_of b) _ (λ pattern. then_all comparison _ (λ chosen.
        search_from_all chosen text pattern place)))))

    pub in_str_of_all : (arguments : List Value) → P (in_str_of arguments)
    in_str_of_all [] = err wrong_number
    in_str_of_all (a ∷ []) = err wrong_number
    in_str_of_all (a ∷ b ∷ []) = in_str_all (Ok (pos 1)) a b (Ok Exact)
    in_str_of_all (i ∷ a ∷ b ∷ []) = in_str_all (to_long_of i) a b (Ok Exact)
    in_str_of_all (i ∷ a ∷ b ∷ c ∷ []) = in_str_all (to_long_of i) a b (comparison_of c)
    in_str_of_all (i ∷ a ∷ b ∷ c ∷ d ∷ more) = err wrong_number

    search_up_to_all : (comparison : Comparison) (text pattern : List ℕ) (place : ℤ)
        → P (search_up_to comparison text pattern place)
    unfolding search_up_to
    search_up_to_all comparison text pattern place = then_all (end_of text place) _ (λ last. long_all _)

    in_str_rev_all : (a b : Value) (from : Result ℤ VbError) (comparison : Result Comparison VbError)
        → P (in_str_rev a b from comparison)
    in_str_rev_all a b from comparison =
        if_all (is_null a || is_null b) (Ok Null) _ null (then_all (to_str_of a) _ (λ text.
        then_all (to_str_of b) _ (λ pattern. then_all from _ (λ place. then_all comparison _ (λ chosen.
        search_up_to_all chosen text pattern place)))))

    pub in_str_rev_of_all : (arguments : List Value) → P (in_str_rev_of arguments)
    in_str_rev_of_all [] = err wrong_number
    in_str_rev_of_all (a ∷ []) = err wrong_number
    in_str_rev_of_all (a ∷ b ∷ []) = in_str_rev_all a b (Ok (negsuc 0)) (Ok Exact)
    in_str_rev_of_all (a ∷ b ∷ i ∷ []) = in_str_rev_all a b (to_long_of i) (Ok Exact)
    in_str_rev_of_all (a ∷ b ∷ i ∷ c ∷ []) = in_str_rev_all a b (to_long_of i) (comparison_of c)
    in_str_rev_of_all (a ∷ b ∷ i ∷ c ∷ d ∷ more) = err wrong_number

    compared_all : (a b : Value) (comparison : Result Comparison VbError) → P (compared a b comparison)
    compared_all a b comparison =
        if_all (is_null a || is_null b) (Ok Null) _ null (then_all (to_str_of a) _ (λ first.
        then_all (to_str_of b) _ (λ second. then_all comparison _ (λ chosen. integer _))))

    pub str_comp_of_all : (arguments : List Value) → P (str_comp_of arguments)
    str_comp_of_all [] = err wrong_number
    str_comp_of_all (a ∷ []) = err wrong_number
    str_comp_of_all (a ∷ b ∷ []) = compared_all a b (Ok Exact)
    str_comp_of_all (a ∷ b ∷ c ∷ []) = compared_all a b (comparison_of c)
    str_comp_of_all (a ∷ b ∷ c ∷ d ∷ more) = err wrong_number

    number_all : (character : ℕ) → P (Ok (number_of character))
    number_all character =
        let split : (low middle : Bool) → P (Ok (if low then Int (pos character)
        else if middle then Int (pos character -ℤ pos 65536) else Long (pos character))) =
        λ low middle. elim low as (λ v. P (Ok (if v then Int (pos character)
        else if middle then Int (pos character -ℤ pos 65536) else Long (pos character)))) [
          | true ↦ integer _
          | false ↦ elim middle as (λ v. P (Ok (if v then Int (pos character -ℤ pos 65536) else Long (pos character)))) [
            | true ↦ integer _
            | false ↦ whole _
          ]
        ] in
        split (nat_lt character 32768) (nat_lt character 65536)

    pub asc_of_all : (arguments : List Value) → P (asc_of arguments)
    asc_of_all arguments = then_all (the_argument arguments) _ (λ s. then_all (to_str_of s) _ (λ text.
        then_all (first_of text) _ (λ first. number_all first)))

  pub chr_of_all : ((character : ℕ) → P (Ok (Str (character ∷ [])))) → (arguments : List Value) → P (chr_of arguments)
  chr_of_all letter arguments = then_all (the_argument arguments) _ (λ n. then_all (to_long_of n) _ (λ number.
      then_all (code_of number) _ (λ code. then_all (character_of code) _ (λ character. letter character))))

  module _ (null : P (Ok Null)) (made : (text : List ℕ) → P (Ok (Str text))) where
    part_all : (measured : List ℕ → ℕ → List ℕ) (s n : Value) → P (part measured s n)
    part_all measured s n = then_all (to_str_of s) _ (λ text. then_all (to_long_of n) _ (λ number.
        then_all (count_of number) _ (λ count. made _)))

    or_all : (function : Value → Result Value VbError) (s : Value) → P (function s) → P (null_or function s)
    or_all function s is = if_all (is_null s) (Ok Null) (function s) null is

    pub left_of_all : (arguments : List Value) → P (left_of arguments)
    left_of_all [] = err wrong_number
    left_of_all (s ∷ []) = err wrong_number
    left_of_all (s ∷ n ∷ []) = or_all (λ value. part front value n) s (part_all front s n)
    left_of_all (s ∷ n ∷ i ∷ more) = err wrong_number

    pub right_of_all : (arguments : List Value) → P (right_of arguments)
    right_of_all [] = err wrong_number
    right_of_all (s ∷ []) = err wrong_number
    right_of_all (s ∷ n ∷ []) = or_all (λ value. part back value n) s (part_all back s n)
    right_of_all (s ∷ n ∷ i ∷ more) = err wrong_number

    pub mid_of_all : (arguments : List Value) → P (mid_of arguments)
    mid_of_all [] = err wrong_number
    mid_of_all (s ∷ []) = err wrong_number
    mid_of_all (s ∷ i ∷ []) = or_all (λ value. rest value i) s (then_all (to_str_of s) _ (λ text.
        then_all (to_long_of i) _ (λ place. then_all (before_place place) _ (λ skipped. made _))))
    mid_of_all (s ∷ i ∷ n ∷ []) = or_all (λ value. middle value i n) s (then_all (to_str_of s) _ (λ text.
        then_all (to_long_of i) _ (λ place. then_all (to_long_of n) _ (λ number.
        then_all (before_place place) _ (λ skipped. then_all (count_of number) _ (λ count. made _))))))
    mid_of_all (s ∷ i ∷ n ∷ d ∷ more) = err wrong_number

    changed_all : (change : List ℕ → List ℕ) (s : Value) → P (changed change s)
    changed_all change s = then_all (to_str_of s) _ (λ text. made _)

    change_or_all : (change : List ℕ → List ℕ) (arguments : List Value)
        → P (and_then (the_argument arguments) (null_or (changed change)))
    change_or_all change arguments = then_all (the_argument arguments) _ (λ s.
        or_all (changed change) s (changed_all change s))

    pub ltrim_of_all : (arguments : List Value) → P (ltrim_of arguments)
    ltrim_of_all arguments = change_or_all _ arguments

    pub rtrim_of_all : (arguments : List Value) → P (rtrim_of arguments)
    rtrim_of_all arguments = change_or_all _ arguments

    pub trim_of_all : (arguments : List Value) → P (trim_of arguments)
    trim_of_all arguments = change_or_all _ arguments

    pub lcase_of_all : (arguments : List Value) → P (lcase_of arguments)
    lcase_of_all arguments = change_or_all _ arguments

    pub ucase_of_all : (arguments : List Value) → P (ucase_of arguments)
    ucase_of_all arguments = change_or_all _ arguments

    pub str_reverse_of_all : (arguments : List Value) → P (str_reverse_of arguments)
    str_reverse_of_all arguments = then_all (the_argument arguments) _ (λ s. changed_all _ s)

    repeated_all : (number : ℤ) (character : ℕ) → P (repeated number character)
    repeated_all number character = then_all (count_of number) _ (λ count. made _)

    pub space_of_all : (arguments : List Value) → P (space_of arguments)
    space_of_all arguments = then_all (the_argument arguments) _ (λ n.
        then_all (to_long_of n) _ (λ number. repeated_all number 32))

    pub string_of_all : (arguments : List Value) → P (string_of arguments)
    string_of_all [] = err wrong_number
    string_of_all (n ∷ []) = err wrong_number
    string_of_all (n ∷ c ∷ []) = if_all (is_null n || is_null c) (Ok Null) _ null
        (then_all (to_long_of n) _ (λ number. then_all (filling_of c) _ (λ character. repeated_all number character)))
    string_of_all (n ∷ c ∷ d ∷ more) = err wrong_number

    replace_all : (s a b : Value) (i n : Result ℤ VbError) (comparison : Result Comparison VbError)
        → P (replace_value s a b i n comparison)
    replace_all s a b i n comparison =
        then_all (to_str_of s) _ (λ text. then_all (to_str_of a) _ (λ pattern. then_all (to_str_of b) _ (λ other.
        then_all i _ (λ place. then_all n _ (λ number. then_all comparison _ (λ chosen.
        then_all (before_place place) _ (λ skipped. then_all (most_of (length text) number) _ (λ most. made _))))))))

    pub replace_of_all : (arguments : List Value) → P (replace_of arguments)
    replace_of_all [] = err wrong_number
    replace_of_all (s ∷ []) = err wrong_number
    replace_of_all (s ∷ a ∷ []) = err wrong_number
    replace_of_all (s ∷ a ∷ b ∷ []) = replace_all s a b (Ok (pos 1)) (Ok (negsuc 0)) (Ok Exact)
    replace_of_all (s ∷ a ∷ b ∷ i ∷ []) = replace_all s a b (to_long_of i) (Ok (negsuc 0)) (Ok Exact)
    replace_of_all (s ∷ a ∷ b ∷ i ∷ n ∷ []) = replace_all s a b (to_long_of i) (to_long_of n) (Ok Exact)
    replace_of_all (s ∷ a ∷ b ∷ i ∷ n ∷ c ∷ []) =
        replace_all s a b (to_long_of i) (to_long_of n) (comparison_of c)
    replace_of_all (s ∷ a ∷ b ∷ i ∷ n ∷ c ∷ d ∷ more) = err wrong_number

    items_all : (bounds : List ℤ) (items : List Value) (separator : List ℕ) → P (join_items bounds items separator)
    items_all bounds items separator =
        if_all _ _ (Err invalid_call) (then_all (texts_of items) _ (λ texts. made _)) (err invalid_call)

    level_all : (level : Value-F Value Array) (separator : List ℕ) → P (join_level level separator)
    level_all (Value-F.Arr array) separator = items_all array.bounds array.items separator
    level_all _ separator = err type_mismatch

    join_all : (a d : Value) → P (join_value a d)
    join_all a d = if_all (is_null a) (Err invalid_use_of_null) _ (err invalid_use_of_null)
        (then_all (to_str_of d) _ (λ separator. level_all (out-Value a) separator))

    pub join_of_all : (arguments : List Value) → P (join_of arguments)
    join_of_all [] = err wrong_number
    join_of_all (a ∷ []) = join_all a one_space
    join_of_all (a ∷ d ∷ []) = join_all a d
    join_of_all (a ∷ d ∷ e ∷ more) = err wrong_number
