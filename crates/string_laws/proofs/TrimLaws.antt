-- What the trims leave of a text.
use Rattle.std.proofs.Common.{◌≡◌, ℕ, zero, suc, ◌+◌, ◌≤◌, Bool, true, false, if◌then◌else◌, List, [], ◌∷◌, ◌++◌}
use Rattle.std.proofs.Common.{length, reverse, replicate, refl, sym, ap, ◌∙◌, arith, length-append}
use Rattle.std.proofs.lemmas.Bool.{eqb-true, eq-eqb}
use Rattle.std.proofs.lemmas.List.{reverse-reverse, reverse-append, replicate-append-replicate}
use Rattle.vb_value.specs.Characters.{space}
use Rattle.vb_value.specs.NumericText.{without_first, without_last}
use Rattle.vb_value.specs.TextLimit.{most_characters}
use Rattle.string_laws.specs.Laws.{Trims, TrimmedLeft, TrimmedRight, TrimmedBoth, BeginsWithSpace, EndsWithSpace}
use Rattle.vb_strings.specs.Parts.{is_space}
use Rattle.vb_strings.proofs.Bounds.{limited_fits}

-- spaces and what is left of a text behind them
record Fronted (text rest : List ℕ) : Type 0 where
  before : ℕ
  whole : text ≡ replicate before space ++ rest

one_fronted : (character : ℕ) (text rest : List ℕ) → is_space character ≡ true → Fronted text rest
    → Fronted (character ∷ text) rest
one_fronted character text rest is fronted =
    let same : character ≡ space = eqb-true character space is in
    record {
      before = suc fronted.before;
      whole = ap (λ c. c ∷ text) same ∙ ap (λ more. space ∷ more) fronted.whole;
    }

fronted : (text : List ℕ) → Fronted text (without_first is_space text)
fronted [] = record { before = 0; whole = refl }
fronted (character ∷ text) =
    let split : (is : Bool) → is_space character ≡ is
    → Fronted (character ∷ text) (if is then without_first is_space text else character ∷ text) =
    elim [
      | true ↦ λ is. one_fronted character text (without_first is_space text) is (fronted text)
      | false ↦ λ is. record { before = 0; whole = refl }
    ] in
    split (is_space character) refl

-- what is left begins with no space
no_first : (text : List ℕ) → ¬ (BeginsWithSpace (without_first is_space text))
no_first [] = λ (rest, is). absurd (cc)
no_first (character ∷ text) =
    let split : (is : Bool) → is_space character ≡ is
    → ¬ (BeginsWithSpace (if is then without_first is_space text else character ∷ text)) =
    elim [
      | true ↦ λ is. no_first text
      | false ↦ λ other (rest, is).
          let same : character ≡ space = cc in
          let spaced : is_space character ≡ true = eq-eqb character space same in
          absurd (cc)
    ] in
    split (is_space character) refl

spaces_more : (count : ℕ) → replicate count space ++ space ∷ [] ≡ replicate (suc count) space
spaces_more count =
    let further : count + 1 ≡ suc count = omega arith in
    replicate-append-replicate count 1 space ∙ ap (λ n. replicate n space) further

spaces_turned : (count : ℕ) → reverse (replicate count space) ≡ replicate count space
spaces_turned zero = refl
spaces_turned (suc count) =
    reverse-append (space ∷ []) (replicate count space)
    ∙ ap (λ spaces. spaces ++ space ∷ []) (spaces_turned count)
    ∙ spaces_more count

-- what is left of a text before its last spaces
record Backed (text rest : List ℕ) : Type 0 where
  behind : ℕ
  whole : text ≡ rest ++ replicate behind space

backed : (text : List ℕ) → Backed text (without_last is_space text)
backed text =
    let front : Fronted (reverse text) (without_first is_space (reverse text)) = fronted (reverse text) in
    let rest : List ℕ = without_first is_space (reverse text) in
    record {
      behind = front.before;
      whole = sym (reverse-reverse text)
          ∙ ap reverse front.whole
          ∙ reverse-append (replicate front.before space) rest
          ∙ ap (λ spaces. reverse rest ++ spaces) (spaces_turned front.before);
    }

-- what is left ends with no space
no_last : (text : List ℕ) → ¬ (EndsWithSpace (without_last is_space text))
no_last text (rest, is) =
    let turned : without_first is_space (reverse text) ≡ space ∷ reverse rest =
    sym (reverse-reverse (without_first is_space (reverse text))) ∙ ap reverse is ∙ reverse-append rest (space ∷ []) in
    no_first (reverse text) (reverse rest, turned)

-- a text without spaces at its beginning has none there when those at its end are gone
still_no_first : (text rest : List ℕ) → Backed text rest → ¬ (BeginsWithSpace text) → ¬ (BeginsWithSpace rest)
still_no_first text rest back none (more, is) =
    none (more ++ replicate back.behind space, back.whole ∙ ap (λ first. first ++ replicate back.behind space) is)

fronted_length : (text rest : List ℕ) → Fronted text rest → length rest ≤ length text
fronted_length text rest front =
    let whole : length text ≡ length (replicate front.before space) + length rest =
    ap length front.whole ∙ length-append (replicate front.before space) rest in
    omega arith

backed_length : (text rest : List ℕ) → Backed text rest → length rest ≤ length text
backed_length text rest back =
    let whole : length text ≡ length rest + length (replicate back.behind space) =
    ap length back.whole ∙ length-append rest (replicate back.behind space) in
    omega arith

trimmed_left : (text : List ℕ) → length text ≤ most_characters → TrimmedLeft text
trimmed_left text short =
    let rest : List ℕ = without_first is_space text in
    let front : Fronted text (without_first is_space text) = fronted text in
    let less : length (without_first is_space text) ≤ length text =
    fronted_length text (without_first is_space text) front in
    record {
      before = front.before;
      rest = without_first is_space text;
      given = limited_fits (without_first is_space text) (omega arith);
      whole = front.whole;
      no_space = no_first text;
    }

trimmed_right : (text : List ℕ) → length text ≤ most_characters → TrimmedRight text
trimmed_right text short =
    let back : Backed text (without_last is_space text) = backed text in
    let less : length (without_last is_space text) ≤ length text =
    backed_length text (without_last is_space text) back in
    record {
      rest = without_last is_space text;
      behind = back.behind;
      given = limited_fits (without_last is_space text) (omega arith);
      whole = back.whole;
      no_space = no_last text;
    }

trimmed_both : (text : List ℕ) → length text ≤ most_characters → TrimmedBoth text
trimmed_both text short =
    let first : List ℕ = without_first is_space text in
    let front : Fronted text first = fronted text in
    let back : Backed first (without_last is_space first) = backed first in
    let less : length first ≤ length text = fronted_length text first front in
    let least : length (without_last is_space first) ≤ length first =
    backed_length first (without_last is_space first) back in
    record {
      before = front.before;
      rest = without_last is_space first;
      behind = back.behind;
      given = limited_fits (without_last is_space first) (omega arith);
      whole = front.whole ∙ ap (λ more. replicate front.before space ++ more) back.whole;
      no_first = still_no_first first (without_last is_space first) back (no_first text);
      no_last = no_last first;
    }

pub trims : Trims
trims text short = (trimmed_left text short, trimmed_right text short, trimmed_both text short)
