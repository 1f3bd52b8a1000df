-- Each piece of a page is spelled as it says, and their spellings are the page's text.
use Rattle.std.proofs.Common.{◌≡◌, ℕ, suc, ◌+◌, Bool, true, false, List, [], ◌∷◌, ◌++◌, codes, length, take, drop}
use Rattle.std.proofs.Common.{refl, sym, ◌∙◌, ap, subst, arith, append_assoc, Ok, Err}
use Rattle.std.specs.Prelude.{cond, Option, Some, None, ◌==◌}
use Rattle.std.specs.Option.{option_map, option_and_then}
use Rattle.std.specs.List.{list_all, prefix_len}
use Rattle.std.specs.Char.{to_ascii_lowercase}
use Rattle.std.proofs.lemmas.Bool.{and_from, eqb-true}
use Rattle.std.proofs.lemmas.List.{drop-drop, take-append-drop, take-map, map-append}
use Rattle.std.proofs.lemmas.Slice.Eq.{bytes_eq-Decides}
use Rattle.vb_value.specs.Folding.{folded}
use Rattle.page_read.specs.Marks.{begins, behind, cut_by, is_blank, is_blank_text, place_of, unblanked}
use Rattle.page_read.specs.declared.fault.PageFault.TheVariants.{LateDirective}
use Rattle.page_read.specs.declared.fragment.Fragment.{Fragment}
use Rattle.page_read.specs.declared.fragment.Fragment.TheVariants.{Directive, Script, Write}
use Rattle.page_read.specs.Attributes.{attributes_of}
use Rattle.page_read.specs.Forms.{block_of, directive_at, directive_of, next_behind, session_of}
use Rattle.page_read.specs.Spelling.{IsMark, Spells}

-- ---- what an answer came from

-- a value that was made of another
pub map_from : {A B : Type 0} (f : A → B) (found : Option A) (made : B) → option_map f found ≡ Some made
    → (from : A) × (found ≡ Some from) × (f from ≡ made)
map_from f None made is = cc
map_from f (Some from) made is = (from, refl, cc)

-- a step that was taken behind another
pub then_from : {A B : Type 0} (f : A → Option B) (found : Option A) (made : B) → option_and_then f found ≡ Some made
    → (from : A) × (found ≡ Some from) × (f from ≡ Some made)
then_from f None made is = cc
then_from f (Some from) made is = (from, refl, is)

-- a value under a test
pub test_from : {A : Type 0} (b : Bool) (kept made : A) → cond b (Some kept) None ≡ Some made
    → (b ≡ true) × (kept ≡ made)
test_from true kept made is = (refl, cc)
test_from false kept made is = cc

-- ---- marks

-- a mark at the front
mark_first : (mark text : List ℕ) → begins mark text ≡ true → IsMark mark (take (length mark) text)
mark_first mark text is =
    sym (take-map to_ascii_lowercase (length mark) text)
    ∙ (bytes_eq-Decides (take (length mark) (folded text)) mark).0 is

-- what stands behind a mark
pub behind_is : (mark text rest : List ℕ) → behind mark text ≡ Some rest
    → (word : List ℕ) × IsMark mark word × (text ≡ word ++ rest)
behind_is mark text rest is =
    let both = test_from (begins mark text) (drop (length mark) text) rest is in (
      take (length mark) text,
      mark_first mark text both.0,
      sym (take-append-drop (length mark) text) ∙ ap (λ (t : List ℕ). take (length mark) text ++ t) both.1,
    )

-- one blank more at the front
one_blank : (c : ℕ) (text : List ℕ) (b : Bool) → is_blank c ≡ b
    → list_all is_blank (take (prefix_len is_blank text) text) ≡ true
    → list_all is_blank (take (cond b (1 + prefix_len is_blank text) 0) (c ∷ text)) ≡ true
one_blank c text true is others =
    let count : suc (prefix_len is_blank text) ≡ 1 + prefix_len is_blank text = omega arith in
    let whole : list_all is_blank (c ∷ take (prefix_len is_blank text) text) ≡ true = and_from _ _ is others in
    subst (λ (n : ℕ). list_all is_blank (take n (c ∷ text)) ≡ true) count whole
one_blank c text false is others = refl

-- blanks at the front
blanks_first : (text : List ℕ) → list_all is_blank (take (prefix_len is_blank text) text) ≡ true
blanks_first [] = refl
blanks_first (c ∷ text) = one_blank c text (is_blank c) refl (blanks_first text)

-- what stands behind a mark with blanks before it
pub next_is : (mark text rest : List ℕ) → next_behind mark text ≡ Some rest
    → (blanks : List ℕ) × (word : List ℕ) × (list_all is_blank blanks ≡ true) × IsMark mark word
    × (text ≡ blanks ++ word ++ rest)
next_is mark text rest is =
    let there = behind_is mark (unblanked text) rest is in
    let count = prefix_len is_blank text in (
      take count text,
      there.0,
      blanks_first text,
      there.1,
      sym (take-append-drop count text) ∙ (ap (λ (t : List ℕ). take count text ++ t) there.2
          ∙ sym (append_assoc (take count text) there.0 rest)),
    )

-- the mark stands at its first place, found at the front or behind it
one_place : (mark text : List ℕ) (c at : ℕ) (b : Bool) → begins mark (c ∷ text) ≡ b
    → cond b (Some 0) (option_map (λ (k : ℕ). k + 1) (place_of mark text)) ≡ Some at
    → ((k : ℕ) → place_of mark text ≡ Some k → begins mark (drop k text) ≡ true)
    → begins mark (drop at (c ∷ text)) ≡ true
one_place mark text c at true here is later =
    let front : 0 ≡ at = cc in subst (λ (n : ℕ). begins mark (drop n (c ∷ text)) ≡ true) front here
one_place mark text c at false other is later =
    let from = map_from (λ (k : ℕ). k + 1) (place_of mark text) at is in
    let next : suc from.0 ≡ at = omega (arith, from.2) in
    subst (λ (n : ℕ). begins mark (drop n (c ∷ text)) ≡ true) next (later from.0 from.1)

-- the mark stands at its first place
place_begins : (mark text : List ℕ) (at : ℕ) → place_of mark text ≡ Some at → begins mark (drop at text) ≡ true
unfolding place_of
place_begins mark [] at is = cc
place_begins mark (c ∷ text) at is =
    one_place mark text c at (begins mark (c ∷ text)) refl is (λ k there. place_begins mark text k there)

-- what stands before a mark, and behind it
pub cut_is : (mark text before rest : List ℕ) → cut_by mark text ≡ Some (before, rest)
    → (word : List ℕ) × IsMark mark word × (text ≡ before ++ word ++ rest)
cut_is mark text before rest is =
    let from = map_from (λ (at : ℕ). (take at text, drop (at + length mark) text)) (place_of mark text) (
      before,
      rest,
    ) is in
    let at = from.0 in
    let word = take (length mark) (drop at text) in
    let before_is : take at text ≡ before = ap (λ (pair : List ℕ × List ℕ). pair.0) from.2 in
    let rest_is : drop (at + length mark) text ≡ rest = ap (λ (pair : List ℕ × List ℕ). pair.1) from.2 in
    let behind : drop at text ≡ word ++ rest =
    sym (take-append-drop (length mark) (drop at text))
    ∙ ap (λ (t : List ℕ). word ++ t) (drop-drop (length mark) at text ∙ rest_is) in (
      word,
      mark_first mark (drop at text) (place_begins mark text at from.1),
      sym (take-append-drop at text) ∙ (ap (λ (t : List ℕ). t ++ drop at text) before_is
          ∙ (ap (λ (t : List ℕ). before ++ t) behind ∙ sym (append_assoc before word rest))),
    )

-- ---- blocks

-- a directive
directive_is : (before inside : List ℕ) (piece : Fragment) → directive_at before inside ≡ Ok piece
    → (session : Bool) × (Directive session ≡ piece)
unfolding directive_at
directive_is before inside piece is =
    answered (is_blank_text before) (option_and_then session_of (attributes_of (folded (32 ∷ inside)))) is
  where
    answered : (b : Bool) (found : Option Bool) → cond b (directive_of found) (Err LateDirective) ≡ Ok piece
        → (session : Bool) × (Directive session ≡ piece)
    answered true (Some session) same = (session, cc)
    answered true None same = cc
    answered false found same = cc

-- a mark with one character more, which is no letter
longer_mark : (mark word : List ℕ) (c : ℕ) → IsMark mark word → to_ascii_lowercase c ≡ c
    → IsMark (mark ++ c ∷ []) (word ++ c ∷ [])
longer_mark mark word c is small =
    map-append to_ascii_lowercase word (c ∷ []) ∙ (ap (λ (t : List ℕ). t ++ to_ascii_lowercase c ∷ []) is
    ∙ ap (λ (n : ℕ). mark ++ n ∷ []) small)

-- one character between the marks belongs to the first
shifted : (first more last : List ℕ) (c : ℕ) → first ++ (c ∷ more) ++ last ≡ (first ++ c ∷ []) ++ more ++ last
shifted first more last c = simp append_assoc

-- a block that begins with this character
marked_block : (before more first last : List ℕ) (line c : ℕ) (piece : Fragment) (writes directs : Bool)
    → (c == 61) ≡ writes → (c == 64) ≡ directs
    → cond writes (Ok (Write more line)) (cond directs (directive_at before more) (Ok (Script (c ∷ more) line)))
    ≡ Ok piece
    → IsMark (codes "<%") first → IsMark (codes "%>") last → Spells piece (first ++ (c ∷ more) ++ last)
marked_block before more first last line c piece true directs is_equal is_at is opens closes =
    let same : Write more line ≡ piece = cc in
    let sign : c ≡ 61 = eqb-true c 61 is_equal in
    subst (λ (p : Fragment). Spells p (first ++ (c ∷ more) ++ last)) same (record {
      first = first ++ c ∷ [];
      last = last;
      opened = subst (λ (n : ℕ). IsMark (codes "<%=") (first ++ n ∷ [])) (sym sign)
          (longer_mark (codes "<%") first 61 opens refl);
      closed = closes;
      spelled = shifted first more last c;
    })
marked_block before more first last line c piece false true is_equal is_at is opens closes =
    let directive = directive_is before more piece is in
    let sign : c ≡ 64 = eqb-true c 64 is_at in
    subst (λ (p : Fragment). Spells p (first ++ (c ∷ more) ++ last)) directive.1 (
      more,
      record {
        first = first ++ c ∷ [];
        last = last;
        opened = subst (λ (n : ℕ). IsMark (codes "<%@") (first ++ n ∷ [])) (sym sign)
            (longer_mark (codes "<%") first 64 opens refl);
        closed = closes;
        spelled = shifted first more last c;
      },
    )
marked_block before more first last line c piece false false is_equal is_at is opens closes =
    let same : Script (c ∷ more) line ≡ piece = cc in
    subst (λ (p : Fragment). Spells p (first ++ (c ∷ more) ++ last)) same
    (record { first = first; last = last; opened = opens; closed = closes; spelled = refl })

-- a block
pub block_is : (before inside first last : List ℕ) (line : ℕ) (piece : Fragment)
    → block_of before line inside ≡ Ok piece
    → IsMark (codes "<%") first → IsMark (codes "%>") last → Spells piece (first ++ inside ++ last)
block_is before [] first last line piece is opens closes =
    let same : Script [] line ≡ piece = cc in
    subst (λ (p : Fragment). Spells p (first ++ [] ++ last)) same
    (record { first = first; last = last; opened = opens; closed = closes; spelled = refl })
block_is before (c ∷ more) first last line piece is opens closes =
    marked_block before more first last line c piece (c == 61) (c == 64) refl refl is opens closes
