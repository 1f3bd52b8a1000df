-- The laws of StrComp, and of characters and their numbers.
use Rattle.std.proofs.Common.{◌≡◌, ℕ, ◌≤◌, pos, neg_ℤ}
use Rattle.std.proofs.Common.{List, [], ◌∷◌, map, Result, Ok, Err, length, refl, sym, ap, ◌∙◌, arith}
use Rattle.std.specs.declared.cmp.Ordering.{Ordering}
use Rattle.std.specs.declared.cmp.Ordering.TheVariants.{Less, Equal, Greater}
use Rattle.std.specs.Char.{to_ascii_lowercase}
use Rattle.std.specs.Cmp.Lexicographic.{slice_cmp}
use Rattle.std.specs.Ordering.{nat_cmp, ordering_reverse}
use Rattle.std.proofs.lemmas.Cmp.{nat_list_cmp_total}
use Rattle.std.proofs.lemmas.List.{length-map}
use Rattle.vb_value.specs.declared.fault.VbError.{VbError}
use Rattle.vb_value.specs.declared.function.StrFn.TheVariants.{LCase, StrComp}
use Rattle.vb_value.specs.declared.value.Value.{Value, Int, Str}
use Rattle.vb_value.specs.Errors.{and_then}
use Rattle.vb_value.specs.Folding.{folded}
use Rattle.vb_value.specs.TextLimit.{most_characters}
use Rattle.vb_strings.specs.declared.comparing.Comparison.{Comparison}
use Rattle.vb_strings.specs.Comparing.{order_of, sign_of, counted, comparison_of}
use Rattle.vb_strings.specs.Functions.{call_string_of}
use Rattle.string_laws.specs.Laws.{ComparesLetters, ComparesTurned}
use Rattle.vb_strings.specs.Results.{bounded}
use Rattle.vb_strings.proofs.Bounds.{limited_fits}
use Rattle.vb_strings.proofs.Orders.{exact_order}

-- LCase of a text that is not too long
pub lcase_is : (text : List ℕ) → length text ≤ most_characters
    → call_string_of LCase (Str text ∷ []) ≡ Ok (Str (folded text))
lcase_is text short = limited_fits (folded text) (omega (arith, length-map text to_ascii_lowercase))

-- two texts in small letters, and what is made of them
pub both_lowered : {T : Type 0} (a b : List ℕ) (next : Value → Value → Result T VbError) → length a ≤ most_characters
    → length b ≤ most_characters
    → and_then (call_string_of LCase (Str a ∷ [])) (λ first. and_then (call_string_of LCase (Str b ∷ [])) (next first))
    ≡ next (Str (folded a)) (Str (folded b))
both_lowered a b next short also =
    ap (λ answer. and_then answer (λ first. and_then (call_string_of LCase (Str b ∷ [])) (next first))) (lcase_is a short)
    ∙ ap (λ answer. and_then answer (next (Str (folded a)))) (lcase_is b also)

pub compares_letters : ComparesLetters
compares_letters a b short also =
    ap (λ order. Ok (Int (sign_of order))) (exact_order (folded a) (folded b))
    ∙ sym (both_lowered a b (λ first second. call_string_of StrComp (first ∷ second ∷ Int (pos 0) ∷ [])) short also)

-- the opposite of an order
sign_turned : (order : Ordering) → sign_of (ordering_reverse order) ≡ neg_ℤ (sign_of order)
sign_turned Less = refl
sign_turned Equal = refl
sign_turned Greater = refl

order_turned : (a b : List ℕ) → slice_cmp nat_cmp b a ≡ ordering_reverse (slice_cmp nat_cmp a b)
order_turned a b = nat_list_cmp_total.antisymm b a

pub compares_turned : ComparesTurned
compares_turned a b comparison order is =
    let split : (chosen : Result Comparison VbError)
    → bounded (and_then chosen (λ given. Ok (Int (sign_of (order_of given a b))))) ≡ Ok (Int order)
    → bounded (and_then chosen (λ given. Ok (Int (sign_of (order_of given b a))))) ≡ Ok (Int (neg_ℤ order)) =
    elim [
      | Ok given ↦ λ same.
          let sign : sign_of (order_of given a b) ≡ order = cc in
          ap (λ turned. Ok (Int (sign_of turned))) (order_turned (map (counted given) a) (map (counted given) b))
          ∙ ap (λ n. Ok (Int n)) (sign_turned (order_of given a b) ∙ ap neg_ℤ sign)
      | Err refused ↦ λ same. absurd (cc)
    ] in
    split (comparison_of comparison) is
