-- The pieces of a page, one after another, and that there is one list of them.
use Rattle.std.proofs.Common.{◌≡◌, ◌≢◌, ℕ, suc, ◌<◌, ◌≤◌, true, false, List, [], ◌∷◌, ◌++◌, Ok, Err, length}
use Rattle.std.proofs.Common.{take, drop, refl, sym, ◌∙◌, ap, subst, arith, inl, inr}
use Rattle.std.specs.Prelude.{Result, chars}
use Rattle.std.specs.Borrow.{Bor}
use Rattle.std.proofs.lemmas.List.{length-take-le, take-append-drop}
use Rattle.vb_value.specs.declared.stop.Stop.{Stop}
use Rattle.vb_value.specs.declared.stop.Stop.TheVariants.{Fault, Memory}
use Rattle.page_read.specs.declared.fault.PageFault.{PageFault}
use Rattle.page_read.specs.declared.fragment.Fragment.{Fragment}
use Rattle.page_read.specs.declared.fragment.Fragment.TheVariants.{Text}
use Rattle.page_read.specs.Forms.{begins_form, include_of, opened, server_tag}
use Rattle.page_read.specs.Fragments.{AreCut, BeginsNoFormWithin, EndsPlain, HasFault, HasFaultHere, IsFirst}
use Rattle.page_read.specs.Fragments.{IsFragmentsOf, IsPlain, line_of, text_before, unmarked}
use Rattle.page_read.specs.Reading.{ReadsFirst, ReadsOn}

-- ---- reading

-- plain text at the front
pub text_first : (page text plain rest : List ℕ) (count line : ℕ) → plain ≡ take count text → rest ≡ drop count text
    → line ≡ line_of page text → 0 < count → count ≤ length text → BeginsNoFormWithin count text
    → EndsPlain (drop count text) → IsFirst page text (Text plain line) rest
text_first page text plain rest count line plain_is rest_is line_is some within none ends =
    let long : length plain ≡ count = ap length plain_is ∙ length-take-le count text within in
    let whole : take count text ++ drop count text ≡ plain ++ rest = cc in
    inr (record {
      front = plain;
      is_text = ap (Text plain) line_is;
      spelled = sym (take-append-drop count text) ∙ whole;
      filled = λ empty. let none_long = ap length empty in absurd (omega (arith, none_long, long, some));
      plain = subst (λ (n : ℕ). BeginsNoFormWithin n text) (sym long) none;
      ends = subst EndsPlain (sym rest_is) ends;
    })

-- what a reader gives at a place where a form begins
pub form_read : (page text before : List ℕ) (line : ℕ) (result : Result (Fragment × Bor (List ℕ)) (Stop PageFault))
    → begins_form text ≡ true → before ≡ text_before page text → line ≡ line_of page text
    → ReadsOn result line (opened before line text) → ReadsFirst result page text
form_read page text before line (Ok found) form before_is line_is reads =
    inl (record {
      form = form;
      piece = (ap (λ (b : List ℕ). opened b (line_of page text) text) (sym before_is)
          ∙ ap (λ (n : ℕ). opened before n text) (sym line_is)) ∙ reads;
    })
form_read page text before line (Err (Fault kind at)) form before_is line_is reads = (
  record {
    form = form;
    fault = (ap (λ (b : List ℕ). opened b (line_of page text) text) (sym before_is)
        ∙ ap (λ (n : ℕ). opened before n text) (sym line_is)) ∙ reads.0;
  },
  reads.1 ∙ line_is,
)
form_read page text before line (Err Memory) form before_is line_is reads = tt

-- where no plain text is at the front, a form begins
pub form_there : (text : List ℕ) (count : ℕ) → count ≡ 0 → 0 < length text → EndsPlain (drop count text)
    → begins_form text ≡ true
form_there text count none filled ends = elim (subst (λ (n : ℕ). EndsPlain (drop n text)) none ends) [
  | inl empty ↦ let none_long = ap length empty in absurd (omega (arith, none_long, filled))
  | inr form ↦ form
]

-- one piece more
pub cut_more : (page text end rest : List ℕ) (pieces : List Fragment) (piece : Fragment) → AreCut page text pieces end
    → IsFirst page end piece rest → AreCut page text (pieces ++ piece ∷ []) rest
cut_more page text end rest [] piece cut first =
    (rest, subst (λ (t : List ℕ). IsFirst page t piece rest) (sym cut) first, refl)
cut_more page text end rest (one ∷ pieces) piece cut first =
    (cut.0, cut.1, cut_more page cut.0 end rest pieces piece cut.2 first)

-- ---- one list

-- no form begins in nothing
no_form : begins_form [] ≡ false
unfolding begins_form include_of server_tag
no_form = refl

-- no form begins where plain text does
plain_no_form : (page text rest : List ℕ) (piece : Fragment) → IsPlain page text piece rest
    → begins_form text ≡ false
plain_no_form page text rest piece is = at_front is.front is.filled is.plain
  where
    at_front : (front : List ℕ) → front ≢ [] → BeginsNoFormWithin (length front) text → begins_form text ≡ false
    at_front [] filled none = absurd (filled refl)
    at_front (c ∷ front) filled none = none 0 (omega arith)

-- plain text up to a form or the end is the only one
plain_unique : (a b x y : List ℕ) → BeginsNoFormWithin (length a) (a ++ x) → BeginsNoFormWithin (length b) (b ++ y)
    → EndsPlain x → EndsPlain y → a ++ x ≡ b ++ y → (a ≡ b) × (x ≡ y)
plain_unique [] [] x y plain_a plain_b end_x end_y same = (refl, same)
plain_unique [] (d ∷ b) x y plain_a plain_b end_x end_y same = elim end_x [
  | inl empty ↦ cc
  | inr form ↦ let none = plain_b 0 (omega arith) in let there = ap begins_form same in cc
]
plain_unique (c ∷ a) [] x y plain_a plain_b end_x end_y same = elim end_y [
  | inl empty ↦ cc
  | inr form ↦ let none = plain_a 0 (omega arith) in let there = ap begins_form same in cc
]
plain_unique (c ∷ a) (d ∷ b) x y plain_a plain_b end_x end_y same =
    let tails : a ++ x ≡ b ++ y = cc in
    let heads : c ≡ d = cc in
    let both = plain_unique a b x y (λ at less. plain_a (suc at) (omega arith))
    (λ at less. plain_b (suc at) (omega arith)) end_x end_y tails in
    let fronts : a ≡ b = both.0 in
    (cc, both.1)

-- one answer has one piece and one rest
parts_unique : (one other : Fragment × List ℕ) (answer : Result (Fragment × List ℕ) PageFault) → answer ≡ Ok one
    → answer ≡ Ok other → (one.0 ≡ other.0) × (one.1 ≡ other.1)
parts_unique one other answer is also =
    let same : one ≡ other = cc in
    (ap (λ (pair : Fragment × List ℕ). pair.0) same, ap (λ (pair : Fragment × List ℕ). pair.1) same)

-- a text has one first piece
first_unique : (page text rest left : List ℕ) (piece other : Fragment) → IsFirst page text piece rest
    → IsFirst page text other left → (piece ≡ other) × (rest ≡ left)
first_unique page text rest left piece other first next = elim first [
  | inl form ↦ elim next [
    | inl also ↦ parts_unique (piece, rest) (other, left) _ form.piece also.piece
    | inr plain ↦ let none = plain_no_form page text left other plain in let there = form.form in cc
  ]
  | inr plain ↦ elim next [
    | inl form ↦ let none = plain_no_form page text rest piece plain in let there = form.form in cc
    | inr also ↦
        let one = subst (BeginsNoFormWithin (length plain.front)) plain.spelled plain.plain in
        let two = subst (BeginsNoFormWithin (length also.front)) also.spelled also.plain in
        let both = plain_unique plain.front also.front rest left one two plain.ends also.ends
        (sym plain.spelled ∙ also.spelled) in
        (plain.is_text ∙ (ap (λ (t : List ℕ). Text t (line_of page text)) both.0 ∙ sym also.is_text), both.1)
  ]
]

-- with the text no piece begins
abbrev pub IsStuck : List ℕ → List ℕ → Type 0
IsStuck page text = (piece : Fragment) (rest : List ℕ) → ¬ (IsFirst page text piece rest)

-- nothing begins with no piece
pub nothing_stuck : (page : List ℕ) → IsStuck page []
nothing_stuck page piece rest first = elim first [
  | inl form ↦ let there = form.form in let none = no_form in cc
  | inr plain ↦ at_front plain.front plain.spelled plain.filled
]
  where
    at_front : (front : List ℕ) → [] ≡ front ++ rest → front ≢ [] → ⊥
    at_front [] spelled filled = filled refl
    at_front (c ∷ front) spelled filled = cc

-- where a fault stands no piece begins
pub fault_stuck : (page text : List ℕ) (kind : PageFault) → HasFaultHere page text kind → IsStuck page text
fault_stuck page text kind fault piece rest first = elim first [
  | inl form ↦ let there = form.piece in let here = fault.fault in cc
  | inr plain ↦ let none = plain_no_form page text rest piece plain in let there = fault.form in cc
]

-- pieces up to a place where none begins are the only ones
pub cut_unique : (page text end left : List ℕ) (these those : List Fragment) → AreCut page text these end
    → AreCut page text those left → IsStuck page end → IsStuck page left → (these ≡ those) × (end ≡ left)
cut_unique page text end left [] [] cut also stuck stopped = (refl, sym cut ∙ also)
cut_unique page text end left [] (other ∷ those) cut also stuck stopped =
    absurd (stuck other also.0 (subst (λ (t : List ℕ). IsFirst page t other also.0) cut also.1))
cut_unique page text end left (piece ∷ these) [] cut also stuck stopped =
    absurd (stopped piece cut.0 (subst (λ (t : List ℕ). IsFirst page t piece cut.0) also cut.1))
cut_unique page text end left (piece ∷ these) (other ∷ those) cut also stuck stopped =
    let same = first_unique page text cut.0 also.0 piece other cut.1 also.1 in
    let back : AreCut page cut.0 those left =
    subst (λ (t : List ℕ). AreCut page t those left) (sym same.1) also.2 in
    let others = cut_unique page cut.0 end left these those cut.2 back stuck stopped in
    let heads = same.0 in
    let tails = others.0 in
    (cc, others.1)

-- ---- files

-- at most one list of pieces belongs to some bytes
pub one_list : (bytes : List ℕ) (these those : List Fragment) → IsFragmentsOf bytes these → IsFragmentsOf bytes those
    → these ≡ those
one_list bytes these those is also =
    let page = unmarked (chars bytes) in
    (cut_unique page page [] [] these those is.cut also.cut (nothing_stuck page) (nothing_stuck page)).0

-- bytes to which pieces belong have no fault
pub list_or_fault : (bytes : List ℕ) (pieces : List Fragment) (kind : PageFault) (line : ℕ) → IsFragmentsOf bytes pieces
    → HasFault bytes kind line → ⊥
list_or_fault bytes pieces kind line is fault = elim fault [
  | inl whole ↦ whole.2 is.utf8
  | inr text ↦
      let page = unmarked (chars bytes) in
      let stops = text.1 in
      let ends = (cut_unique page page [] stops.end pieces stops.pieces is.cut stops.cut (nothing_stuck page)
      (fault_stuck page stops.end kind stops.fault)).1 in
      let there = stops.fault.form in
      let none = no_form in
      cc
]

-- bytes have one fault, in one line
pub one_fault : (bytes : List ℕ) (kind other : PageFault) (line number : ℕ) → HasFault bytes kind line
    → HasFault bytes other number → (kind ≡ other) × (line ≡ number)
one_fault bytes kind other line number fault also = elim fault [
  | inl whole ↦ elim also [
    | inl same ↦ (whole.0 ∙ sym same.0, whole.1 ∙ sym same.1)
    | inr text ↦ absurd (whole.2 text.0)
  ]
  | inr text ↦ elim also [
    | inl whole ↦ absurd (whole.2 text.0)
    | inr next ↦
        let page = unmarked (chars bytes) in
        let here = text.1 in
        let there = next.1 in
        let ends = (cut_unique page page here.end there.end here.pieces there.pieces here.cut there.cut
        (fault_stuck page here.end kind here.fault) (fault_stuck page there.end other there.fault)).1 in
        let one = here.fault.fault in
        let two = subst (λ (t : List ℕ). HasFaultHere page t other) (sym ends) there.fault in
        let three = two.fault in
        let lines = ap (line_of page) ends in
        (cc, here.at_line ∙ (lines ∙ sym there.at_line))
  ]
]
