-- Bytes are the lines of at most one list, and are not refused where they are.
use Rattle.std.proofs.Common.{◌≡◌, ◌≢◌, ℕ, ◌-◌, ◌<◌, List, [], ◌∷◌, ◌++◌, length, Option, Some, None}
use Rattle.std.proofs.Common.{Result, Ok, Err, refl, sym, ap, ◌∙◌, append_assoc, append-nil, arith}
use Rattle.std.specs.Prelude.{IfOk}
use Rattle.std.specs.List.{flat_map}
use Rattle.std.proofs.lemmas.List.{length-append}
use Rattle.std.proofs.lemmas.Grind.{flat_map-append}
use Rattle.std.proofs.lemmas.Option.{some_pair_parts}
use Rattle.vb_value.specs.Outcome.{Answers}
use Rattle.asp_record.specs.declared.journal.Line.{Line}
use Rattle.asp_record.specs.declared.stop.RecordStop.{RecordStop}
use Rattle.asp_record.specs.declared.stop.RecordStop.TheVariants.{Memory, Refused}
use Rattle.asp_record.specs.Journal.{AreLines, HasNoLine, IsJournal, IsLine, IsNoJournalAt, line_body, line_text}
use Rattle.asp_record.specs.ReadingLines.{line_at}
use Rattle.asp_record.specs.Recorded.{OnRefused}
use Rattle.asp_record.proofs.LineLaws.{line_again}

pub has_no_line : (bytes : List ℕ) → line_at bytes ≡ None → HasNoLine bytes
has_no_line bytes e = λ l rest right text.
    let again : line_at bytes ≡ Some (l, rest) = ap line_at text ∙ line_again l rest right in
    absurd (let no : ◌≡◌ {A = Option (Line × List ℕ)} None (Some (l, rest)) = sym e ∙ again in cc)

-- no bytes are no line
none_is_no_line : (l : Line) (rest : List ℕ) → IsLine l → [] ≢ line_text l ++ rest
unfolding line_at
none_is_no_line l rest right = λ text.
    let again : line_at [] ≡ Some (l, rest) = ap line_at text ∙ line_again l rest right in
    let no : ◌≡◌ {A = Option (Line × List ℕ)} None (Some (l, rest)) = again in cc

lines_on : (lines more : List Line) (left : List ℕ) → AreLines lines → AreLines more
    → flat_map line_text lines ++ left ≡ flat_map line_text more
    → (others : List Line) × (more ≡ lines ++ others) × (left ≡ flat_map line_text others) × AreLines others
lines_on [] more left right all e = (more, refl, e, all)
lines_on (l ∷ lines) [] left right all e =
    absurd (none_is_no_line l (flat_map line_text lines ++ left) right.0
    (sym (sym (append_assoc (line_text l) (flat_map line_text lines) left) ∙ e)))
lines_on (l ∷ lines) (m ∷ more) left right all e =
    let a = flat_map line_text lines ++ left in
    let b = flat_map line_text more in
    let cut : line_text l ++ a ≡ line_text m ++ b = sym (append_assoc (line_text l) (flat_map line_text lines) left)
    ∙ e in
    let same = some_pair_parts l m a b (sym (line_again l a right.0) ∙ ap line_at cut ∙ line_again m b all.0) in
    let next = lines_on lines more left right.1 all.1 same.1 in
    (next.0, ap (λ i. i ∷ more) (sym same.0) ∙ ap (λ k. l ∷ k) next.1, next.2, next.3)

no_others : (others : List Line) → AreLines others → [] ≡ flat_map line_text others → others ≡ []
no_others [] all e = refl
no_others (l ∷ others) all e = absurd (none_is_no_line l (flat_map line_text others) all.0 e)

pub one_journal : (bytes : List ℕ) (lines others : List Line) → IsJournal bytes lines → IsJournal bytes others →
    lines ≡ others
one_journal bytes lines others one other =
    let e : flat_map line_text lines ++ [] ≡ flat_map line_text others =
    append-nil (flat_map line_text lines) ∙ sym one.text ∙ other.text in
    let on = lines_on lines others [] one.right other.right e in
    sym (on.1 ∙ ap (λ l. lines ++ l) (no_others on.0 on.3 on.2) ∙ append-nil lines)

goes_on : (rest : List ℕ) (others : List Line) → rest ≢ [] → HasNoLine rest → AreLines others →
    rest ≡ flat_map line_text others → ⊥
goes_on rest [] some last all e = some e
goes_on rest (l ∷ others) some last all e = last l (flat_map line_text others) all.0 e

pub not_refused : (bytes : List ℕ) (lines : List Line) (offset : ℕ) → IsJournal bytes lines →
    IsNoJournalAt bytes offset → ⊥
not_refused bytes lines offset journal refused =
    let on = lines_on refused.lines lines refused.rest refused.right journal.right (sym refused.text ∙ journal.text) in
    goes_on refused.rest on.0 refused.some refused.last on.3 on.2

pub only_one : (bytes : List ℕ) (result : Result (List Line) RecordStop) → IfOk result (IsJournal bytes)
    → OnRefused result (IsNoJournalAt bytes) → (lines : List Line) → IsJournal bytes lines
    → Answers result Memory (Ok lines)
only_one bytes (Ok read) found refused lines journal = ap Ok (one_journal bytes lines read journal found)
only_one bytes (Err (Refused offset)) found refused lines journal =
    λ other. absurd (not_refused bytes lines offset journal refused)
only_one bytes (Err Memory) found refused lines journal = λ other. absurd (other refl)

-- one line more
pub lines_more : (lines : List Line) (l : Line) → AreLines lines → IsLine l → AreLines (lines ++ l ∷ [])
lines_more [] l right more = (more, tt)
lines_more (first ∷ lines) l right more = (right.0, lines_more lines l right.1 more)

pub text_more : (lines longer : List Line) (l : Line) (bytes before after : List ℕ) →
    bytes ≡ flat_map line_text lines ++ before
    → before ≡ line_text l ++ after → longer ≡ lines ++ l ∷ [] → bytes ≡ flat_map line_text longer ++ after
text_more lines longer l bytes before after text found pushed =
    let all : flat_map line_text (lines ++ l ∷ []) ≡ flat_map line_text lines ++ line_text l =
    flat_map-append line_text lines (l ∷ []) ∙ ap (λ t. flat_map line_text lines ++ t) (append-nil (line_text l)) in
    text ∙ ap (λ t. flat_map line_text lines ++ t) found ∙ sym
    (append_assoc (flat_map line_text lines) (line_text l) after)
    ∙ ap (λ t. t ++ after) (sym all) ∙ ap (λ ls. flat_map line_text ls ++ after) (sym pushed)

pub shorter : (l : Line) (before after : List ℕ) → IsLine l → before ≡ line_text l ++ after →
    length after < length before
shorter l before after right text =
    let size = ap length text in
    let sum = length-append (line_text l) after in
    let whole = length-append (line_body l.lane l.what) (10 ∷ []) in
    omega (arith, size, sum, whole)

pub all_read : (bytes rest : List ℕ) (lines : List Line) → AreLines lines → bytes ≡ flat_map line_text lines ++ rest →
    rest ≡ []
    → IsJournal bytes lines
all_read bytes rest lines right text none = record {
  right = right;
  text = text ∙ ap (λ r. flat_map line_text lines ++ r) none ∙ append-nil (flat_map line_text lines);
}

pub refused_here : (bytes rest : List ℕ) (lines : List Line) (at : ℕ) → AreLines lines →
    bytes ≡ flat_map line_text lines ++ rest
    → rest ≢ [] → line_at rest ≡ None → at ≡ length bytes - length rest → IsNoJournalAt bytes at
refused_here bytes rest lines at right text some none is =
    let size = ap length text in
    let sum = length-append (flat_map line_text lines) rest in
    record {
      lines = lines;
      rest = rest;
      right = right;
      text = text;
      some = some;
      last = has_no_line rest none;
      place = omega (arith, size, sum, is);
    }
