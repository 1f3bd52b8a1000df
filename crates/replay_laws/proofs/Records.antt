-- Behind the records of answers the same bytes stand, however the records are read.
use Rattle.std.proofs.Common.{◌≡◌, ◌≢◌, ℕ, ◌^◌, ◌<◌, ◌≤◌, List, [], ◌∷◌, ◌++◌, length}
use Rattle.std.proofs.Common.{drop, refl, sym, ap, ◌∙◌, append_assoc, arith}
use Rattle.std.specs.Prelude.{codes}
use Rattle.std.specs.Char.{digit_value}
use Rattle.std.specs.Fmt.{decimal}
use Rattle.std.specs.Str.Parse.{AllDigits}
use Rattle.std.proofs.lemmas.Fmt.{decimal_injective, decimal_is_IsNumeral}
use Rattle.std.proofs.lemmas.List.{append_cancel_left, drop_at, length-append}
use Rattle.asp_feed.specs.Shown.{AreRecords, Shown, record_text}

-- ---- one record

-- digits end where another byte stands
digits_end : (digits others : List ℕ) (mark : ℕ) (rest last : List ℕ) → AllDigits 10 digits → AllDigits 10 others
    → 10 ≤ digit_value mark → digits ++ mark ∷ rest ≡ others ++ mark ∷ last → (digits ≡ others) × (rest ≡ last)
digits_end [] [] mark rest last all also apart e =
    let same : mark ∷ rest ≡ mark ∷ last = e in
    let back : rest ≡ last = cc in
    (refl, back)
digits_end [] (digit ∷ others) mark rest last all also apart e =
    let same : mark ∷ rest ≡ digit ∷ (others ++ mark ∷ last) = e in
    let first : mark ≡ digit = cc in
    absurd (omega (arith, apart, also.0, ap digit_value first))
digits_end (digit ∷ digits) [] mark rest last all also apart e =
    let same : digit ∷ (digits ++ mark ∷ rest) ≡ mark ∷ last = e in
    let first : digit ≡ mark = cc in
    absurd (omega (arith, apart, all.0, ap digit_value first))
digits_end (digit ∷ digits) (other ∷ others) mark rest last all also apart e =
    let same : digit ∷ (digits ++ mark ∷ rest) ≡ other ∷ (others ++ mark ∷ last) = e in
    let first : digit ≡ other = cc in
    let next : digits ++ mark ∷ rest ≡ others ++ mark ∷ last = cc in
    let more = digits_end digits others mark rest last all.1 also.1 apart next in
    let left : digits ≡ others = more.0 in
    (λ i. first i ∷ left i, more.1)

-- what stands behind the word and the number of a record
abbrev behind_run : List ℕ → List ℕ → List ℕ → List ℕ
behind_run size text rest = size ++ 10 ∷ (text ++ 10 ∷ rest)

record_parts : (word run size text rest : List ℕ)
    → (word ++ run ++ (32 ∷ []) ++ size ++ (10 ∷ []) ++ text ++ 10 ∷ []) ++ rest
    ≡ word ++ (run ++ 32 ∷ behind_run size text rest)
record_parts word run size text rest = simp append_assoc

text_ends : (text other rest last : List ℕ) → length text ≡ length other → text ++ 10 ∷ rest ≡ other ++ 10 ∷ last
    → rest ≡ last
text_ends text other rest last size e =
    let back : 10 ∷ rest ≡ 10 ∷ last =
    sym (drop_at text (10 ∷ rest) (length other) size) ∙ ap (λ t. drop (length other) t) e
    ∙ drop_at other (10 ∷ last) (length other) refl in
    cc

record_ends : (run other : ℕ) (text more rest last : List ℕ) → run < 2 ^ 64 → other < 2 ^ 64 → length text < 2 ^ 64
    → length more < 2 ^ 64 → record_text run text ++ rest ≡ record_text other more ++ last → rest ≡ last
record_ends run other text more rest last small low short brief e =
    let one = decimal_is_IsNumeral run small in
    let two = decimal_is_IsNumeral other low in
    let size = decimal_is_IsNumeral (length text) short in
    let size_more = decimal_is_IsNumeral (length more) brief in
    let a = behind_run (decimal (length text)) text rest in
    let b = behind_run (decimal (length more)) more last in
    let whole : codes "answer " ++ (decimal run ++ 32 ∷ a) ≡ codes "answer " ++ (decimal other ++ 32 ∷ b) =
    sym (record_parts (codes "answer ") (decimal run) (decimal (length text)) text rest) ∙ e
    ∙ record_parts (codes "answer ") (decimal other) (decimal (length more)) more last in
    let numbered = append_cancel_left (codes "answer ") (decimal run ++ 32 ∷ a) (decimal other ++ 32 ∷ b) whole in
    let sized = digits_end (decimal run) (decimal other) 32 a b one.0.1 two.0.1 (omega arith) numbered in
    let ends = digits_end (decimal (length text)) (decimal (length more)) 10 (text ++ 10 ∷ rest) (more ++ 10 ∷ last)
    size.0.1 size_more.0.1 (omega arith) sized.1 in
    text_ends text more rest last (decimal_injective (length text) (length more) short brief ends.0) ends.1

-- ---- the records

-- the numbers of the runs are of 64 bits
abbrev pub AreNumbered : List Shown → Type 0
AreNumbered [] = Unit {0}
AreNumbered (first ∷ rest) = (first.run < 2 ^ 64) × AreNumbered rest

-- no record begins the bytes
abbrev pub HasNoRecord : List ℕ → Type 0
HasNoRecord bytes = (rest : List ℕ) → bytes ≢ 97 ∷ rest

-- a record begins with `a`
begins_record : (run : ℕ) (text rest bytes : List ℕ) → HasNoRecord bytes → bytes ≢ record_text run text ++ rest
begins_record run text rest bytes none = λ e.
    none (codes "nswer " ++ (decimal run ++ 32 ∷ behind_run (decimal (length text)) text rest))
    (e ∙ record_parts (codes "answer ") (decimal run) (decimal (length text)) text rest)

-- the text of a record is shorter than bytes that have it at their front
shorter : (run : ℕ) (text rest : List ℕ) → (length text ≤ length (record_text run text ++ rest))
    × (length rest ≤ length (record_text run text ++ rest))
shorter run text rest =
    let size = ap length (record_parts (codes "answer ") (decimal run) (decimal (length text)) text rest) in
    let a = length-append (codes "answer ") (decimal run ++ 32 ∷ behind_run (decimal (length text)) text rest) in
    let b = length-append (decimal run) (32 ∷ behind_run (decimal (length text)) text rest) in
    let c = length-append (decimal (length text)) (10 ∷ (text ++ 10 ∷ rest)) in
    let d = length-append text (10 ∷ rest) in
    (omega (arith, size, a, b, c, d), omega (arith, size, a, b, c, d))

-- records before a tail: the first, and the others before the tail
split : (first : Shown) (rest : List Shown) (bytes tail : List ℕ) (are : AreRecords (first ∷ rest) bytes)
    → bytes ++ tail ≡ record_text first.run are.2.text ++ (are.1 ++ tail)
split first rest bytes tail are =
    ap (λ t. t ++ tail) (are.4 ∙ ap (λ t. t ++ are.1) are.2.bytes_are)
    ∙ append_assoc (record_text first.run are.2.text) are.1 tail

pub same_tails : (shown others : List Shown) (bytes more tail last : List ℕ) → AreNumbered shown
    → AreNumbered others → AreRecords shown bytes → AreRecords others more → HasNoRecord tail → HasNoRecord last
    → length (bytes ++ tail) < 2 ^ 64 → bytes ++ tail ≡ more ++ last → tail ≡ last
same_tails [] [] bytes more tail last right also are were none never short e =
    sym (ap (λ t. t ++ tail) are) ∙ e ∙ ap (λ t. t ++ last) were
same_tails [] (other ∷ others) bytes more tail last right also are were none never short e =
    absurd (begins_record other.run were.2.text (were.1 ++ last) tail none
    (sym (ap (λ t. t ++ tail) are) ∙ e ∙ split other others more last were))
same_tails (first ∷ shown) [] bytes more tail last right also are were none never short e =
    absurd (begins_record first.run are.2.text (are.1 ++ tail) last never
    (sym (ap (λ t. t ++ last) were) ∙ sym e ∙ split first shown bytes tail are))
same_tails (first ∷ shown) (other ∷ others) bytes more tail last right also are were none never short e =
    let here = split first shown bytes tail are in
    let there = split other others more last were in
    let size = ap length here in
    let size_there = ap length (sym here ∙ e ∙ there) in
    let one = shorter first.run are.2.text (are.1 ++ tail) in
    let two = shorter other.run were.2.text (were.1 ++ last) in
    let rest = record_ends first.run other.run are.2.text were.2.text (are.1 ++ tail) (were.1 ++ last) right.0 also.0
    (omega (arith, short, size, one.0)) (omega (arith, short, size, size_there, two.0)) (sym here ∙ e ∙ there) in
    same_tails shown others are.1 were.1 tail last right.1 also.1 are.3 were.3 none never
    (omega (arith, short, size, one.1)) rest
