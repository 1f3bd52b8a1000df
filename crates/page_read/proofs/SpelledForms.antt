-- Includes, script elements and whole pages are spelled as they say.
use Rattle.std.proofs.Common.{◌≡◌, ℕ, zero, suc, ◌+◌, Bool, true, false, List, [], ◌∷◌, ◌++◌, codes, take, drop}
use Rattle.std.proofs.Common.{refl, sym, ◌∙◌, ap, subst, arith, append_assoc, Ok, Err, inl, inr, take-append-drop}
use Rattle.std.specs.Prelude.{cond, Option, Some, None, Result, ◌==◌, slice_index, chars}
use Rattle.std.specs.Option.{option_and_then}
use Rattle.std.specs.List.{list_all, prefix_len}
use Rattle.std.proofs.lemmas.Bool.{eqb-true}
use Rattle.vb_value.specs.Folding.{folded}
use Rattle.page_read.specs.declared.attribute.Attribute.{Attribute}
use Rattle.page_read.specs.declared.fault.PageFault.{PageFault}
use Rattle.page_read.specs.declared.fault.PageFault.TheVariants.{BadDirective}
use Rattle.page_read.specs.declared.fragment.Fragment.{Fragment}
use Rattle.page_read.specs.declared.fragment.Fragment.TheVariants.{Element, Include}
use Rattle.page_read.specs.Attributes.{attributes_of}
use Rattle.page_read.specs.Marks.{behind, cut_by}
use Rattle.page_read.specs.Forms as form
use Rattle.page_read.specs.Fragments.{AreCut, IsFirst, IsForm, IsFragmentsOf, line_of, text_before, unmarked}
use Rattle.page_read.specs.Spelling.{AreMarks, IsInclude, IsMark, SpellTogether, Spells, base_word}
use Rattle.page_read.proofs.Spelling.{behind_is, block_is, cut_is, map_from, next_is, test_from, then_from}

-- ---- script elements

-- the `>` at a place
angle_at : (text : List ℕ) (at : ℕ) → slice_index text at ≡ 62 → drop at text ≡ 62 ∷ drop (suc at) text
angle_at [] zero is = cc
angle_at [] (suc at) is = cc
angle_at (c ∷ text) zero is = ap (λ (n : ℕ). n ∷ text) is
angle_at (c ∷ text) (suc at) is = angle_at text at is

-- what a tag has inside, and its end
inside_is : (text inside rest : List ℕ) → form.inside_of_tag text ≡ Some (inside, rest)
    → text ≡ inside ++ (62 ∷ []) ++ rest
inside_is text inside rest is =
    let at = prefix_len form.is_inside text in
    let both = test_from (slice_index text at == 62) (take at text, drop (at + 1) text) (inside, rest) is in
    let angle : drop at text ≡ 62 ∷ drop (suc at) text = angle_at text at (eqb-true (slice_index text at) 62 both.0) in
    let inside_is : take at text ≡ inside = ap (λ (pair : List ℕ × List ℕ). pair.0) both.1 in
    let rest_is : drop (at + 1) text ≡ rest = ap (λ (pair : List ℕ × List ℕ). pair.1) both.1 in
    let count : suc at ≡ at + 1 = omega arith in
    let behind : drop at text ≡ 62 ∷ rest =
    angle ∙ ap (λ (t : List ℕ). 62 ∷ t) (ap (λ (n : ℕ). drop n text) count ∙ rest_is) in
    sym (take-append-drop at text) ∙ (ap (λ (t : List ℕ). t ++ drop at text) inside_is
    ∙ (ap (λ (t : List ℕ). inside ++ t) behind ∙ simp append_assoc))

-- a tag of an element that is to run on the server
pub tag_is : (name text : List ℕ) (tag : List Attribute × List ℕ) → form.server_tag name text ≡ Some tag
    → (first : List ℕ) × (inside : List ℕ) × IsMark name first × (text ≡ first ++ inside ++ (62 ∷ []) ++ tag.1)
unfolding form.server_tag
tag_is name text tag is =
    let one = then_from form.tag_read (option_and_then form.inside_of_tag (behind name text)) tag is in
    let found = one.0 in
    let two = then_from form.inside_of_tag (behind name text) found one.1 in
    let three = then_from (form.server_only found.1) (attributes_of (folded found.0)) tag one.2 in
    let four = test_from (form.is_for_server three.0) (three.0, found.1) tag three.2 in
    let rest_is : found.1 ≡ tag.1 = ap (λ (pair : List Attribute × List ℕ). pair.1) four.1 in
    let mark = behind_is name text two.0 two.1 in
    let inside = inside_is two.0 found.0 found.1 two.2 in
    let whole : two.0 ≡ found.0 ++ (62 ∷ []) ++ tag.1 =
    inside ∙ ap (λ (t : List ℕ). found.0 ++ (62 ∷ []) ++ t) rest_is in
    (mark.0, found.0, mark.1, mark.2 ∙ (ap (λ (t : List ℕ). mark.0 ++ t) whole ∙ simp append_assoc))

-- the text of an element, and what follows it
element_cases : (line : ℕ) (b : Bool) (found : Option (List ℕ × List ℕ)) (piece : Fragment) (rest : List ℕ)
    → cond b (form.closed_element line found) (Err BadDirective) ≡ Ok (piece, rest)
    → (inner : List ℕ) × (found ≡ Some (inner, rest)) × (Element inner line ≡ piece)
element_cases line true (Some pair) piece rest is =
    let both : (Element pair.0 line, pair.1) ≡ (piece, rest) = cc in
    let rests : pair.1 ≡ rest = ap (λ (found : Fragment × List ℕ). found.1) both in (
      pair.0,
      ap (λ (t : List ℕ). Some (pair.0, t)) rests,
      ap (λ (found : Fragment × List ℕ). found.0) both,
    )
element_cases line true None piece rest is = cc
element_cases line false found piece rest is = cc

-- an element
pub element_is : (text rest : List ℕ) (line : ℕ) (piece : Fragment) (tag : List Attribute × List ℕ)
    → form.server_tag (codes "<script") text ≡ Some tag → form.element_at line tag ≡ Ok (piece, rest)
    → (spelling : List ℕ) × (text ≡ spelling ++ rest) × Spells piece spelling
element_is text rest line piece tag tagged is =
    let tag_parts = tag_is (codes "<script") text tag tagged in
    let parts = element_cases line (list_all form.is_for_element tag.0) (cut_by (codes "</script>") tag.1) piece rest
    is in
    let cut = cut_is (codes "</script>") tag.1 parts.0 rest parts.1 in
    let spelling = tag_parts.0 ++ tag_parts.1 ++ (62 ∷ []) ++ parts.0 ++ cut.0 in (
      spelling,
      tag_parts.3 ∙ (ap (λ (t : List ℕ). tag_parts.0 ++ tag_parts.1 ++ (62 ∷ []) ++ t) cut.2 ∙ simp append_assoc),
      subst (λ (p : Fragment). Spells p spelling) parts.2 (record {
        first = tag_parts.0;
        attributes = tag_parts.1;
        tag_end = 62 ∷ [];
        last = cut.0;
        opened = tag_parts.2;
        ended = refl;
        closed = cut.1;
        spelled = refl;
      }),
    )

-- ---- includes

-- the marks stand at the front, with blanks before each, and this follows them
abbrev BeginWith : List (List ℕ) → List ℕ → List ℕ → Type 0
BeginWith marks text rest = (front : List ℕ) × AreMarks marks front × (text ≡ front ++ rest)

-- one mark more
one_mark : (mark text behind rest : List ℕ) (marks : List (List ℕ)) → form.next_behind mark text ≡ Some behind
    → BeginWith marks behind rest → BeginWith (mark ∷ marks) text rest
one_mark mark text behind rest marks is begin =
    let next = next_is mark text behind is in
    let front = next.0 ++ next.1 ++ begin.0 in (
      front,
      (next.0, next.1, begin.0, refl, next.2, next.3, begin.1),
      next.4 ∙ (ap (λ (t : List ℕ). next.0 ++ next.1 ++ t) begin.2 ∙ simp append_assoc),
    )

-- an include from behind the word `file` or `virtual`
record IsPathPart (text path rest : List ℕ) : Type 0 where
  pub quote : List ℕ
  pub last : List ℕ
  pub inner : List ℕ
  pub begins : BeginWith (codes "=" ∷ codes "\"" ∷ []) text inner
  pub quoted : IsMark (codes "\"") quote
  pub closed : AreMarks (codes "-->" ∷ []) last
  pub spelled : inner ≡ path ++ quote ++ last ++ rest

path_part : (text : List ℕ) (from_root : Bool) (made : Bool × List ℕ × List ℕ)
    → form.include_behind from_root text ≡ Some made
    → IsPathPart text made.1 made.2 × (from_root ≡ made.0)
path_part text from_root made is =
    let one = then_from (form.closed_include from_root) (form.quoted_path text) made is in
    let found = one.0 in
    let two = map_from (λ (rest : List ℕ). (from_root, found.0, rest)) (form.next_behind (codes "-->") found.1) made
    one.2 in
    let three = then_from (cut_by (codes "\"")) (option_and_then (form.next_behind (codes "\""))
    (form.next_behind (codes "=") text)) found one.1 in
    let four = then_from (form.next_behind (codes "\"")) (form.next_behind (codes "=") text) three.0 three.1 in
    let cut = cut_is (codes "\"") three.0 found.0 found.1 three.2 in
    let closes = one_mark (codes "-->") found.1 two.0 two.0 [] two.1 ([], refl, refl) in
    let path_is : found.0 ≡ made.1 = ap (λ (t : Bool × List ℕ × List ℕ). t.1) two.2 in
    let rest_is : two.0 ≡ made.2 = ap (λ (t : Bool × List ℕ × List ℕ). t.2) two.2 in (
      record {
        quote = cut.0;
        last = closes.0;
        inner = three.0;
        begins = one_mark (codes "=") text four.0 three.0 (codes "\"" ∷ []) four.1
            (one_mark (codes "\"") four.0 three.0 three.0 [] four.2 ([], refl, refl));
        quoted = cut.1;
        closed = closes.1;
        spelled = cut.2 ∙ (ap (λ (t : List ℕ). found.0 ++ cut.0 ++ t) (closes.2
            ∙ ap (λ (t : List ℕ). closes.0 ++ t) rest_is)
            ∙ (ap (λ (t : List ℕ). t ++ cut.0 ++ (closes.0 ++ made.2)) path_is ∙ simp append_assoc));
      },
      ap (λ (t : Bool × List ℕ × List ℕ). t.0) two.2,
    )

-- an include from behind `#include`
record IsNamedPart (text : List ℕ) (from_root : Bool) (path rest : List ℕ) : Type 0 where
  pub after : List ℕ
  pub word : form.next_behind (base_word from_root) text ≡ Some after
  pub part : IsPathPart after path rest

named_part : (text : List ℕ) (made : Bool × List ℕ × List ℕ) (found : Option (List ℕ))
    → form.next_behind (codes "file") text ≡ found → form.include_or_virtual text found ≡ Some made
    → IsNamedPart text made.0 made.1 made.2
named_part text made (Some after) word is =
    let part = path_part after false made is in
    subst (λ (b : Bool). IsNamedPart text b made.1 made.2) part.1
    (record { after = after; word = word; part = part.0 })
named_part text made None word is =
    let from = then_from (form.include_behind true) (form.next_behind (codes "virtual") text) made is in
    let part = path_part from.0 true made from.2 in
    subst (λ (b : Bool). IsNamedPart text b made.1 made.2) part.1
    (record { after = from.0; word = from.1; part = part.0 })

-- an include
pub include_is : (text : List ℕ) (made : Bool × List ℕ × List ℕ) → form.include_of text ≡ Some made
    → (spelling : List ℕ) × (text ≡ spelling ++ made.2) × IsInclude made.0 made.1 spelling
unfolding form.include_of
include_is text made is =
    let one = then_from form.include_named (option_and_then (form.next_behind (codes "#include"))
    (behind (codes "<!--") text)) made is in
    let two = then_from (form.next_behind (codes "#include")) (behind (codes "<!--") text) one.0 one.1 in
    let named = named_part one.0 made (form.next_behind (codes "file") one.0) refl one.2 in
    let comment = behind_is (codes "<!--") text two.0 two.1 in
    let part = named.part in
    let marks = one_mark (codes "#include") two.0 one.0 part.inner (base_word made.0 ∷ codes "=" ∷ codes "\"" ∷ [])
    two.2
    (one_mark (base_word made.0) one.0 named.after part.inner (codes "=" ∷ codes "\"" ∷ []) named.word part.begins) in
    let spelling = comment.0 ++ marks.0 ++ made.1 ++ part.quote ++ part.last in (
      spelling,
      comment.2 ∙ (ap (λ (t : List ℕ). comment.0 ++ t) (marks.2 ∙ ap (λ (t : List ℕ). marks.0 ++ t) part.spelled)
          ∙ simp append_assoc),
      record {
        first = comment.0;
        named = marks.0;
        quote = part.quote;
        last = part.last;
        opened = comment.1;
        marks = marks.1;
        quoted = part.quoted;
        closed = part.closed;
        spelled = refl;
      },
    )

-- ---- what stands at a place

-- the piece at the front, so spelled, and what follows it
abbrev pub IsSpelledFirst : List ℕ → Fragment → List ℕ → Type 0
IsSpelledFirst text piece rest = (spelling : List ℕ) × (text ≡ spelling ++ rest) × Spells piece spelling

-- the block that is closed by this
block_cases : (before inside first : List ℕ) (line : ℕ) (piece : Fragment) (rest : List ℕ)
    (found : Option (List ℕ × List ℕ)) → cut_by (codes "%>") inside ≡ found
    → form.closed_block before line found ≡ Ok (piece, rest) → IsMark (codes "<%") first
    → IsSpelledFirst (first ++ inside) piece rest
block_cases before inside first line piece rest None cut is opens = cc
block_cases before inside first line piece rest (Some pair) cut is opens =
    block_closed (form.block_of before line pair.0) refl is
  where
    block_closed : (answer : Result Fragment PageFault) → form.block_of before line pair.0 ≡ answer
        → form.with_rest pair.1 answer ≡ Ok (piece, rest) → IsSpelledFirst (first ++ inside) piece rest
    block_closed (Err fault) block same = cc
    block_closed (Ok one) block same =
        let both : (one, pair.1) ≡ (piece, rest) = cc in
        let piece_is : one ≡ piece = ap (λ (found : Fragment × List ℕ). found.0) both in
        let rest_is : pair.1 ≡ rest = ap (λ (found : Fragment × List ℕ). found.1) both in
        let ends = cut_is (codes "%>") inside pair.0 pair.1 cut in (
          first ++ pair.0 ++ ends.0,
          ap (λ (t : List ℕ). first ++ t) (ends.2 ∙ ap (λ (t : List ℕ). pair.0 ++ ends.0 ++ t) rest_is)
              ∙ simp append_assoc,
          block_is before pair.0 first ends.0 line piece (block ∙ ap (λ (p : Fragment). Ok p) piece_is) opens ends.1,
        )

-- an element or an object
element_or_object_is : (text rest : List ℕ) (line : ℕ) (piece : Fragment) (found : Option (List Attribute × List ℕ))
    → form.server_tag (codes "<script") text ≡ found → form.element_or_object line text found ≡ Ok (piece, rest)
    → IsSpelledFirst text piece rest
element_or_object_is text rest line piece (Some tag) tagged is =
    element_is text rest (form.line_behind line text tag.1) piece tag tagged is
element_or_object_is text rest line piece None tagged is = cc

-- an include or an element
include_or_element_is : (text rest : List ℕ) (line : ℕ) (piece : Fragment) (found : Option (Bool × List ℕ × List ℕ))
    → form.include_of text ≡ found → form.include_or_element line text found ≡ Ok (piece, rest)
    → IsSpelledFirst text piece rest
include_or_element_is text rest line piece (Some made) found is =
    let both : (Include made.0 made.1 line, made.2) ≡ (piece, rest) = cc in
    let piece_is : Include made.0 made.1 line ≡ piece = ap (λ (one : Fragment × List ℕ). one.0) both in
    let rest_is : made.2 ≡ rest = ap (λ (one : Fragment × List ℕ). one.1) both in
    let spelled = include_is text made found in (
      spelled.0,
      spelled.1 ∙ ap (λ (t : List ℕ). spelled.0 ++ t) rest_is,
      subst (λ (p : Fragment). Spells p spelled.0) piece_is spelled.2,
    )
include_or_element_is text rest line piece None found is =
    element_or_object_is text rest line piece (form.server_tag (codes "<script") text) refl is

-- a block or another form
block_or_other_is : (before text rest : List ℕ) (line : ℕ) (piece : Fragment) (found : Option (List ℕ))
    → behind (codes "<%") text ≡ found → form.block_or_other before line text found ≡ Ok (piece, rest)
    → IsSpelledFirst text piece rest
block_or_other_is before text rest line piece (Some inside) found is =
    let mark = behind_is (codes "<%") text inside found in
    let block = block_cases before inside mark.0 line piece rest (cut_by (codes "%>") inside) refl is mark.1 in
    (block.0, mark.2 ∙ block.1, block.2)
block_or_other_is before text rest line piece None found is =
    include_or_element_is text rest line piece (form.include_of text) refl is

-- any form
form_spelled : (page text rest : List ℕ) (piece : Fragment) → IsForm page text piece rest
    → IsSpelledFirst text piece rest
unfolding form.opened
form_spelled page text rest piece is =
    block_or_other_is (text_before page text) text rest (line_of page text) piece (behind (codes "<%") text) refl
    is.piece

-- the first piece
first_spelled : (page text rest : List ℕ) (piece : Fragment) → IsFirst page text piece rest
    → IsSpelledFirst text piece rest
first_spelled page text rest piece first = elim first [
  | inl is ↦ form_spelled page text rest piece is
  | inr plain ↦ (
    plain.front,
    plain.spelled,
    subst (λ (p : Fragment). Spells p plain.front) (sym plain.is_text) refl,
  )
]

-- all pieces
all_spelled : (page text : List ℕ) (pieces : List Fragment) → AreCut page text pieces [] → SpellTogether pieces text
all_spelled page text [] cut = cut
all_spelled page text (piece ∷ pieces) cut =
    let first = first_spelled page text cut.0 piece cut.1 in
    (first.0, cut.0, first.1, first.2, all_spelled page cut.0 pieces cut.2)

-- the pieces of a file
pub pieces_spelled : (bytes : List ℕ) (pieces : List Fragment) → IsFragmentsOf bytes pieces
    → SpellTogether pieces (unmarked (chars bytes))
pieces_spelled bytes pieces is = all_spelled (unmarked (chars bytes)) (unmarked (chars bytes)) pieces is.cut
