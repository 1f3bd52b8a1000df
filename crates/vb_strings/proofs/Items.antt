-- Values as texts, one value further.
use Rattle.std.proofs.Common.{◌≡◌, ℕ, ◌+◌, ◌<◌, List, [], ◌∷◌, ◌++◌, Result, Ok, Err, length, get_or, drop}
use Rattle.std.proofs.Common.{refl, ap, ◌∙◌, append_assoc}
use Rattle.std.proofs.lemmas.List.{drop_more}
use Rattle.vb_value.specs.declared.fault.VbError.{VbError}
use Rattle.vb_value.specs.declared.fault.VbFault.{VbFault}
use Rattle.vb_value.specs.declared.value.Value.{Value}
use Rattle.vb_value.specs.Conversions.{to_str_of}
use Rattle.vb_value.specs.Errors.{and_then, reported}
use Rattle.vb_strings.specs.Joining.{texts_of}

-- what is made of the texts of the values that are left, where some are done
abbrev pub resumed : List (List ℕ) → Result (List (List ℕ)) VbError → Result (List (List ℕ)) VbError
resumed done left = and_then left (λ texts. Ok (done ++ texts))

reported_ok : {T : Type 0} (answer : Result T VbError) (given : T) → reported answer ≡ Ok given → answer ≡ Ok given
reported_ok (Ok other) given is = cc
reported_ok (Err refused) given is = absurd (cc)

told_err : {T U : Type 0} (answer : Result T VbError) (next : T → Result U VbError) (stop : VbFault)
    → reported answer ≡ Err stop → reported (and_then answer next) ≡ Err stop
told_err (Ok given) next stop is = absurd (cc)
told_err (Err refused) next stop is = cc

one_further : (done : List (List ℕ)) (text : List ℕ) (left : Result (List (List ℕ)) VbError)
    → resumed done (and_then left (λ texts. Ok (text ∷ texts))) ≡ resumed (done ++ text ∷ []) left
one_further done text (Ok texts) = simp append_assoc
one_further done text (Err refused) = refl

-- the next value has a text
pub texts_more : (values : List Value) (at : ℕ) (d : Value) (done : List (List ℕ)) (text : List ℕ)
    → at < length values → texts_of values ≡ resumed done (texts_of (drop at values))
    → reported (to_str_of (get_or values at d)) ≡ Ok text
    → texts_of values ≡ resumed (done ++ text ∷ []) (texts_of (drop (at + 1) values))
texts_more values at d done text within so_far is =
    so_far
    ∙ ap (λ left. resumed done (texts_of left)) (drop_more values at d within)
    ∙ ap (λ answer. resumed done (and_then answer
    (λ first. and_then (texts_of (drop (at + 1) values)) (λ texts. Ok (first ∷ texts)))))
    (reported_ok (to_str_of (get_or values at d)) text is)
    ∙ one_further done text (texts_of (drop (at + 1) values))

-- the next value has none
pub texts_stop : (values : List Value) (at : ℕ) (d : Value) (done : List (List ℕ)) (stop : VbFault)
    → at < length values → texts_of values ≡ resumed done (texts_of (drop at values))
    → reported (to_str_of (get_or values at d)) ≡ Err stop → reported (texts_of values) ≡ Err stop
texts_stop values at d done stop within so_far is =
    ap reported (so_far ∙ ap (λ left. resumed done (texts_of left)) (drop_more values at d within))
    ∙ told_err (texts_of (get_or values at d ∷ drop (at + 1) values)) (λ texts. Ok (done ++ texts)) stop
    (told_err (to_str_of (get_or values at d))
    (λ first. and_then (texts_of (drop (at + 1) values)) (λ texts. Ok (first ∷ texts))) stop is)
