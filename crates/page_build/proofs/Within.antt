-- A word more behind some words leaves a fault where it stands, unless it is at their end.
use Rattle.std.proofs.Common.{◌≡◌, ◌≢◌, ◌∙◌, ℕ, ◌⊎◌, inl, inr, List, [], ◌∷◌, ◌++◌, refl, sym, ap, subst}
use Rattle.std.proofs.Common.{append_assoc, append-nil}
use Rattle.std.specs.Prelude.{Option, Some, MatchOption}
use Rattle.vb_value.specs.declared.token.Token.{Token}
use Rattle.vb_syntax.specs.grammar.Faults.{GoesOn, IsFault, fault_line, last_line}
use Rattle.vb_syntax.specs.grammar.Units.{Derives}
use Rattle.vb_syntax.specs.declared.unit.Unit.{Unit as Script}
use Rattle.vb_parse.specs.Outcome.{HasFault, IsKind}
use Rattle.vb_parse.specs.declared.fault.ParseFault.{ParseFault}
use Rattle.vb_parse.specs.declared.fault.ParseFault.TheVariants as kinds
use Rattle.page_build.specs.Building.{BeginsScript, HasFaultWithin}

-- ---- beginnings of scripts

-- a script begins with its own words
pub begins_whole : (tokens : List Token) (unit : Script) → Derives tokens unit → BeginsScript tokens
unfolding BeginsScript
begins_whole tokens unit spelled =
    ([], unit, subst (λ (all : List Token). Derives all unit) (sym (append-nil tokens)) spelled)

-- what begins a script with one word more begins one without it
pub begins_without : (tokens : List Token) (last : Token) → BeginsScript (tokens ++ last ∷ []) → BeginsScript tokens
unfolding BeginsScript
begins_without tokens last goes =
    let same = append_assoc tokens (last ∷ []) goes.0 in
    (last ∷ goes.0, goes.1, subst (λ (all : List Token). Derives all goes.1) same goes.2)

-- ---- a fault that stays

-- the kind of a fault is told by the first word that is left
same_kind : (front : List Token) (first : Token) (rest others : List Token) (kind : ParseFault)
    → IsKind front (first ∷ rest) kind → IsKind front (first ∷ others) kind
same_kind front first rest others kinds.TooDeep is = is
same_kind front first rest others kinds.CallParens is = is
same_kind front first rest others kinds.TextHere is = is
same_kind front first rest others kinds.Unexpected is = is

stays_at : (tokens left : List Token) (last : Token) (kind : ParseFault) (line : ℕ)
    → (fault : IsFault Derives tokens left) → left ≢ [] → IsKind fault.front left kind → line ≡ fault_line tokens left
    → HasFault (tokens ++ last ∷ []) kind line
stays_at tokens [] last kind line fault within is in_line = absurd (within refl)
stays_at tokens (first ∷ rest) last kind line fault within is in_line = record {
  left = first ∷ rest ++ last ∷ [];
  fault = record {
    front = fault.front;
    split = ap (λ (all : List Token). all ++ last ∷ []) fault.split
        ∙ append_assoc fault.front (first ∷ rest) (last ∷ []);
    goes_on = fault.goes_on;
    ends = fault.ends;
  };
  is_kind = same_kind fault.front first rest (rest ++ last ∷ []) kind is;
  in_line = in_line;
}

-- a fault at one of the words stays
pub stays : (tokens : List Token) (last : Token) (kind : ParseFault) (line : ℕ) → HasFaultWithin tokens kind line
    → HasFault (tokens ++ last ∷ []) kind line
stays tokens last kind line has = stays_at tokens has.fault.left last kind line has.fault.fault has.within
    has.fault.is_kind has.fault.in_line

-- ---- a fault at the end

at_end : (tokens left : List Token) (fault : IsFault Derives tokens left) → left ≡ [] → BeginsScript tokens
unfolding BeginsScript
at_end tokens left fault none =
    let whole : tokens ≡ fault.front = fault.split ∙ ap (λ (all : List Token). fault.front ++ all) none
    ∙ append-nil fault.front in
    subst (GoesOn Derives) (sym whole) fault.goes_on

is_left : (left : List Token) → (left ≡ []) ⊎ (left ≢ [])
is_left [] = inl refl
is_left (first ∷ rest) = inr (λ is. cc)

-- a fault is at one of the words, or all of them begin a script
pub within_or_begins : (tokens : List Token) (kind : ParseFault) (line : ℕ) → HasFault tokens kind line
    → HasFaultWithin tokens kind line ⊎ BeginsScript tokens
within_or_begins tokens kind line has = within_by tokens kind line has (is_left has.left)
  where
    within_by : (tokens : List Token) (kind : ParseFault) (line : ℕ) (has : HasFault tokens kind line)
        → (has.left ≡ []) ⊎ (has.left ≢ []) → HasFaultWithin tokens kind line ⊎ BeginsScript tokens
    within_by tokens kind line has (inl none) = inr (at_end tokens has.left has.fault none)
    within_by tokens kind line has (inr some) = inl (record { fault = has; within = some })

-- ---- a fault that does not come of the last word

-- the last line is that of the last word
last_of : (line : ℕ) (tokens : List Token) (last : Token) → last_line line (tokens ++ last ∷ []) ≡ last.line
last_of line [] last = refl
last_of line (token ∷ tokens) last = last_of token.line tokens last

-- where words with one more are split, that word is the first that is left or stands behind it
abbrev IsSplit : List Token → Token → List Token → Token → List Token → Type 0
IsSplit tokens last front first rest = (last ≡ first)
    ⊎ ((middle : List Token) × (rest ≡ middle ++ last ∷ []) × (tokens ≡ front ++ first ∷ middle))

abbrev words_behind : List Token → List Token
words_behind [] = []
words_behind (token ∷ tokens) = tokens

abbrev first_word : Token → List Token → Token
first_word none [] = none
first_word none (token ∷ tokens) = token

split_last : (tokens : List Token) (last : Token) (front : List Token) (first : Token) (rest : List Token)
    → tokens ++ last ∷ [] ≡ front ++ first ∷ rest → IsSplit tokens last front first rest
split_last [] last [] first rest is = inl cc
split_last [] last (token ∷ front) first rest is = absurd (no_words front first rest (ap words_behind is))
  where
    no_words : (front : List Token) (first : Token) (rest : List Token) → [] ≡ front ++ first ∷ rest → ⊥
    no_words [] first rest is = cc
    no_words (token ∷ front) first rest is = cc
split_last (token ∷ tokens) last [] first rest is =
    inr (tokens, cc, cc)
split_last (token ∷ tokens) last (other ∷ front) first rest is = deeper token tokens last other front first rest
    (ap (first_word token) is) (split_last tokens last front first rest (ap words_behind is))
  where
    deeper : (token : Token) (tokens : List Token) (last other : Token) (front : List Token) (first : Token)
        (rest : List Token) → token ≡ other → IsSplit tokens last front first rest
        → IsSplit (token ∷ tokens) last (other ∷ front) first rest
    deeper token tokens last other front first rest same (inl is) = inl is
    deeper token tokens last other front first rest same (inr split) = inr (split.0, split.1, cc)

within_longer : (tokens left : List Token) (last : Token) (kind : ParseFault) (line : ℕ)
    → (fault : IsFault Derives (tokens ++ last ∷ []) left) → IsKind fault.front left kind
    → line ≡ fault_line (tokens ++ last ∷ []) left → line ≢ last.line → HasFaultWithin tokens kind line
within_longer tokens [] last kind line fault is in_line other = absurd (other (in_line ∙ last_of 1 tokens last))
within_longer tokens (first ∷ rest) last kind line fault is in_line other =
    by_split tokens first rest last kind line fault is in_line other (split_last tokens last fault.front first rest fault.split)
  where
    by_split : (tokens : List Token) (first : Token) (rest : List Token) (last : Token) (kind : ParseFault) (line : ℕ)
        → (fault : IsFault Derives (tokens ++ last ∷ []) (first ∷ rest)) → IsKind fault.front (first ∷ rest) kind
        → line ≡ first.line → line ≢ last.line → IsSplit tokens last fault.front first rest
        → HasFaultWithin tokens kind line
    by_split tokens first rest last kind line fault is in_line other (inl same) =
        absurd (other (in_line ∙ sym (ap (λ (token : Token). token.line) same)))
    by_split tokens first rest last kind line fault is in_line other (inr split) = record {
      fault = record {
        left = first ∷ split.0;
        fault = record { front = fault.front; split = split.2; goes_on = fault.goes_on; ends = fault.ends };
        is_kind = same_kind fault.front first rest split.0 kind is;
        in_line = in_line;
      };
      within = λ is. cc;
    }

-- a fault of words with one more behind them, in another line than that one, is at one of the words
pub within_shorter : (tokens : List Token) (last : Token) (kind : ParseFault) (line : ℕ)
    → HasFault (tokens ++ last ∷ []) kind line → line ≢ last.line → HasFaultWithin tokens kind line
within_shorter tokens last kind line has other =
    within_longer tokens has.left last kind line has.fault has.is_kind has.in_line other

-- ---- which of the two it is

-- what faults are of words: one, in one line
abbrev pub OneFault : Type 0
OneFault = (tokens : List Token) (kind other : ParseFault) (line number : ℕ) → HasFault tokens kind line
    → HasFault tokens other number → (kind ≡ other) × (line ≡ number)

-- where the fault of the words in a line becomes one of the line end behind them, they begin a script
pub ends_there : OneFault → (tokens : List Token) (last : Token) (kind other : ParseFault) (line at : ℕ)
    → HasFault tokens kind line → HasFault (tokens ++ last ∷ []) other at → at ≡ last.line → last.line ≢ line
    → BeginsScript tokens
ends_there one tokens last kind other line at has longer is not = by_place (within_or_begins tokens kind line has)
  where
    by_place : HasFaultWithin tokens kind line ⊎ BeginsScript tokens → BeginsScript tokens
    by_place (inl within) =
        let stayed = stays tokens last kind line within in
        let same = (one (tokens ++ last ∷ []) kind other line at stayed longer).1 in
        absurd (not (sym is ∙ sym same))
    by_place (inr goes) = goes

-- the fault that was found of words
pub found_fault : (now longer : List Token) (found : Option (ParseFault × ℕ)) (kind : ParseFault) (line : ℕ)
    → MatchOption found (BeginsScript now) (λ (fault : ParseFault × ℕ). HasFault now fault.0 fault.1)
    → found ≡ Some (kind, line) → now ≡ longer → HasFault longer kind line
found_fault now longer found kind line has is same = subst (λ (tokens : List Token). HasFault tokens kind line) same
    (subst (λ (f : Option (ParseFault × ℕ)).
    MatchOption f (BeginsScript now) (λ (fault : ParseFault × ℕ). HasFault now fault.0 fault.1)) is has)
