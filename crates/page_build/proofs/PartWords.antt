-- The words of parts, one part after the other.
use Rattle.std.proofs.Common.{◌≡◌, ◌∙◌, ℕ, ◌+◌, ◌<◌, ◌≤◌, zero, suc, inr, Bool, List, ◌∷◌, ◌++◌, [], refl, sym, ap, subst}
use Rattle.std.proofs.Common.{arith, length, take, drop, get_or}
use Rattle.std.proofs.Math.ListN.{set}
use Rattle.std.proofs.Math.Seq.{drop-cons}
use Rattle.vb_value.specs.declared.site_file.SiteFault.{SiteFault}
use Rattle.vb_value.specs.declared.token.Token.{Token}
use Rattle.page_read.specs.declared.located.Located.{Located}
use Rattle.page_build.specs.declared.joining.PageWords.{PageWords}
use Rattle.page_build.specs.Words.{AreWordsBehind, AreWordsOf, HasWordFault, shifted, shifted_word, with_part}

-- ---- the words of a part

-- the first words moved, and the others as they were
abbrev pub moved_to : ℕ → ℕ → List Token → List Token
moved_to base at words = shifted base (take at words) ++ drop at words

moved_word : (base at : ℕ) (words : List Token) (other : Token) → at < length words
    → get_or (moved_to base at words) at other ≡ get_or words at other
moved_word base at [] other within = absurd (omega arith)
moved_word base zero (word ∷ words) other within = refl
moved_word base (suc at) (word ∷ words) other within = moved_word base at words other (omega arith)

moved_more : (base at : ℕ) (words : List Token) (other : Token) → at < length words
    → set (moved_to base at words) at (shifted_word base (get_or words at other)) ≡ moved_to base (suc at) words
moved_more base at [] other within = absurd (omega arith)
moved_more base zero (word ∷ words) other within = refl
moved_more base (suc at) (word ∷ words) other within =
    ap (λ (all : List Token). shifted_word base word ∷ all) (moved_more base at words other (omega arith))

length-moved : (base at : ℕ) (words : List Token) → length (moved_to base at words) ≡ length words
length-moved base zero words = refl
length-moved base (suc at) [] = refl
length-moved base (suc at) (word ∷ words) = ap suc (length-moved base at words)

moved_whole : (base at : ℕ) (words : List Token) → length words ≤ at → moved_to base at words ≡ shifted base words
moved_whole base zero [] past = refl
moved_whole base (suc at) [] past = refl
moved_whole base zero (word ∷ words) past = absurd (omega arith)
moved_whole base (suc at) (word ∷ words) past =
    ap (λ (all : List Token). shifted_word base word ∷ all) (moved_whole base at words (omega arith))

-- one word more is moved
pub next_moved : (base at : ℕ) (words items : List Token) (other : Token) (line : ℕ) → at < length items
    → items ≡ moved_to base at words → line ≡ base + (get_or items at other).line
    → set items at (record (get_or items at other) { line = line }) ≡ moved_to base (at + 1) words
next_moved base at words items other line within so_far moved =
    let inside : at < length words = omega (arith, within, ap length so_far, length-moved base at words) in
    let there : get_or items at other ≡ get_or words at other =
    ap (λ (all : List Token). get_or all at other) so_far ∙ moved_word base at words other inside in
    let next : suc at ≡ at + 1 = omega arith in
    ap (λ (l : ℕ). set items at (record (get_or items at other) { line = l })) moved
    ∙ ap (λ (all : List Token). set all at (shifted_word base (get_or items at other))) so_far
    ∙ ap (λ (word : Token). set (moved_to base at words) at (shifted_word base word)) there
    ∙ moved_more base at words other inside ∙ ap (λ (n : ℕ). moved_to base n words) next

-- all are moved
pub all_moved : (base at : ℕ) (words items : List Token) → length items ≤ at → items ≡ moved_to base at words
    → items ≡ shifted base words
all_moved base at words items past so_far =
    let whole : length words ≤ at = omega (arith, past, ap length so_far, length-moved base at words) in
    so_far ∙ moved_whole base at words whole

-- ---- the words of two lists

behind_all : (back front : List Token) → drop (length back) (back ++ front) ≡ front
behind_all [] front = refl
behind_all (word ∷ back) front = behind_all back front

before_all : (back front : List Token) → take (length back) (back ++ front) ≡ back
before_all [] front = refl
before_all (word ∷ back) front = ap (λ (all : List Token). word ∷ all) (before_all back front)

-- what stands in front is turned behind
pub turned : (back front : List Token)
    → drop (length back) (back ++ front) ++ take (length back) (back ++ front) ≡ front ++ back
turned back front = ap (λ (all : List Token). all ++ take (length back) (back ++ front)) (behind_all back front)
    ∙ ap (λ (all : List Token). front ++ all) (before_all back front)

-- ---- parts

-- the part at a place
pub part_there : (parts : List Located) (at : ℕ) (part : Located) → at < length parts → part ≡ get_or parts at part
    → drop at parts ≡ part ∷ drop (at + 1) parts
part_there parts at part within is =
    let next : suc at ≡ at + 1 = omega arith in
    drop-cons parts at part within ∙ ap (λ (first : Located). first ∷ drop (suc at) parts) (sym is)
    ∙ ap (λ (n : ℕ). part ∷ drop n parts) next

-- one part more
pub more_words : (global : Bool) (so_far next : PageWords) (rest later : List Located) (part : Located)
    (words : List Token) → rest ≡ part ∷ later → AreWordsOf global part.fragment words
    → next ≡ with_part so_far part words → (all : PageWords) → AreWordsBehind global next later all
    → AreWordsBehind global so_far rest all
more_words global so_far next rest later part words is of joined all behind =
    subst (λ (parts : List Located). AreWordsBehind global so_far parts all) (sym is)
    (words, of, subst (λ (before : PageWords). AreWordsBehind global before later all) joined behind)

-- a fault behind a part that has words
pub later_fault : (global : Bool) (rest later : List Located) (part : Located) (words : List Token)
    → rest ≡ part ∷ later → AreWordsOf global part.fragment words → (fault : SiteFault)
    → HasWordFault global later fault → HasWordFault global rest fault
later_fault global rest later part words is of fault has =
    subst (λ (parts : List Located). HasWordFault global parts fault) (sym is) (inr ((words, of), has))
