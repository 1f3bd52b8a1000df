-- Lines are read one after the other, whatever follows that begins no line.
use Rattle.std.proofs.Common.{◌≡◌, ◌≢◌, ℕ, zero, suc, ◌+◌, ◌<◌, ◌≤◌, List, [], ◌∷◌, ◌++◌, length, take, drop}
use Rattle.std.proofs.Common.{refl, sym, ap, ◌∙◌, append_assoc, append-nil, inl, inr, arith}
use Rattle.std.specs.List.{flat_map}
use Rattle.std.proofs.lemmas.Bool.{cases_lt}
use Rattle.std.proofs.lemmas.Grind.{flat_map-append}
use Rattle.std.proofs.lemmas.List.{append_cancel_left, length-append, take-append-drop, take-append-le, take_at}
use Rattle.asp_record.specs.declared.journal.Line.{Line}
use Rattle.asp_record.specs.Journal.{AreLines, HasNoLine, IsJournal, IsLine, IsNoJournalAt, line_body, line_text}

-- bytes are the lines of at most one list, and are refused nowhere where they are: the laws of asp_record
abbrev pub LinesAreOne : Type 0
LinesAreOne = (bytes : List ℕ) (lines others : List Line) → IsJournal bytes lines → IsJournal bytes others
    → lines ≡ others

abbrev pub NoneRefused : Type 0
NoneRefused = (bytes : List ℕ) (lines : List Line) (offset : ℕ) → IsJournal bytes lines → IsNoJournalAt bytes offset → ⊥

-- one line more
pub lines_more : (lines : List Line) (l : Line) → AreLines lines → IsLine l → AreLines (lines ++ l ∷ [])
lines_more [] l are right = (right, tt)
lines_more (first ∷ lines) l are right = (are.0, lines_more lines l are.1 right)

text_more : (lines : List Line) (l : Line) (text before after : List ℕ) → text ≡ flat_map line_text lines ++ before
    → before ≡ line_text l ++ after → text ≡ flat_map line_text (lines ++ l ∷ []) ++ after
text_more lines l text before after e found =
    let all : flat_map line_text (lines ++ l ∷ []) ≡ flat_map line_text lines ++ line_text l =
    flat_map-append line_text lines (l ∷ []) ∙ ap (λ t. flat_map line_text lines ++ t) (append-nil (line_text l)) in
    e ∙ ap (λ t. flat_map line_text lines ++ t) found
    ∙ sym (append_assoc (flat_map line_text lines) (line_text l) after) ∙ ap (λ t. t ++ after) (sym all)

shorter : (l : Line) (before after : List ℕ) → before ≡ line_text l ++ after → length after < length before
shorter l before after e =
    let size = ap length e in
    let sum = length-append (line_text l) after in
    let whole = length-append (line_body l.lane l.what) (10 ∷ []) in
    omega (arith, size, sum, whole)

one_line : (l : Line) → IsLine l → IsJournal (line_text l) (l ∷ [])
one_line l right = record { right = (right, tt); text = sym (append-nil (line_text l)) }

module _ (one : LinesAreOne) (none_refused : NoneRefused) where
  -- one line more, behind others and before bytes
  goes_on : (m first : Line) (lines : List Line) (l : Line) (behind : List ℕ) → IsLine m
      → AreLines (first ∷ (lines ++ l ∷ []))
      → line_text m ≡ flat_map line_text (first ∷ (lines ++ l ∷ [])) ++ behind → (behind ≢ [] → ⊥) → ⊥
  goes_on m first lines l [] right are e more =
      let both = one (line_text m) (m ∷ []) (first ∷ (lines ++ l ∷ [])) (one_line m right)
      (record { right = are; text = e ∙ append-nil (flat_map line_text (first ∷ (lines ++ l ∷ []))) }) in
      let size : 1 ≡ suc (length (lines ++ l ∷ [])) = ap length both in
      let sum : length (lines ++ l ∷ []) ≡ length lines + 1 = length-append lines (l ∷ []) in
      omega (arith, size, sum)
  goes_on m first lines l (byte ∷ behind) right are e more =
      more (λ none. let same : ◌≡◌ {A = List ℕ} (byte ∷ behind) [] = none in cc)

  -- no line is others and more bytes
  no_longer : (most : ℕ) (m first : Line) (lines : List Line) (rest : List ℕ) → IsLine m → AreLines (first ∷ lines)
      → rest ≢ [] → length rest < most → line_text m ≡ flat_map line_text (first ∷ lines) ++ rest → ⊥
  no_longer zero m first lines rest right are some short e = omega (arith, short)
  no_longer (suc most) m first lines rest right are some short e =
      none_refused (line_text m) (m ∷ []) (length (flat_map line_text (first ∷ lines))) (one_line m right) (record {
        lines = first ∷ lines;
        rest = rest;
        right = are;
        text = e;
        some = some;
        last = λ l behind its found.
            let wider = lines_more (first ∷ lines) l are its in
            let longer = text_more (first ∷ lines) l (line_text m) rest behind e found in
            goes_on m first lines l behind right wider longer (λ left. no_longer most m first (lines ++ l ∷ []) behind
            right wider left (omega (arith, short, shorter l rest behind found)) longer);
        place = refl;
      })

  by_rest : (l m : Line) (rest : List ℕ) → IsLine l → IsLine m → line_text m ≡ line_text l ++ rest → l ≡ m
  by_rest l m [] right also e =
      let both : l ∷ [] ≡ m ∷ [] = one (line_text l) (l ∷ []) (m ∷ []) (one_line l right) (record {
        right = (also, tt);
        text = sym (append-nil (line_text l)) ∙ sym e ∙ sym (append-nil (line_text m));
      }) in
      cc
  by_rest l m (byte ∷ rest) right also e =
      absurd (no_longer (length rest + 2) m l [] (byte ∷ rest) also (right, tt)
      (λ none. let same : ◌≡◌ {A = List ℕ} (byte ∷ rest) [] = none in cc) (omega arith)
      (e ∙ ap (λ t. t ++ byte ∷ rest) (sym (append-nil (line_text l)))))

  by_length : (l m : Line) (a b : List ℕ) → IsLine l → IsLine m → length (line_text l) ≤ length (line_text m)
      → line_text l ++ a ≡ line_text m ++ b → l ≡ m
  by_length l m a b right also low e =
      let size = length (line_text l) in
      let front : take size (line_text m) ≡ line_text l =
      sym (take-append-le size (line_text m) b low) ∙ ap (λ t. take size t) (sym e)
      ∙ take_at (line_text l) a size refl in
      by_rest l m (drop size (line_text m)) right also
      (sym (take-append-drop size (line_text m)) ∙ ap (λ t. t ++ drop size (line_text m)) front)

  same_line : (l m : Line) (a b : List ℕ) → IsLine l → IsLine m → line_text l ++ a ≡ line_text m ++ b → l ≡ m
  same_line l m a b right also e = elim (cases_lt (length (line_text m)) (length (line_text l))) [
    | inl above ↦ sym (by_length m l b a also right (omega (arith, above)) (sym e))
    | inr below ↦ by_length l m a b right also (omega (arith, below)) e
  ]

  pub same_lines : (lines others : List Line) (rest last : List ℕ) → AreLines lines → AreLines others → HasNoLine rest
      → HasNoLine last → flat_map line_text lines ++ rest ≡ flat_map line_text others ++ last
      → (lines ≡ others) × (rest ≡ last)
  same_lines [] [] rest last right also none never e = (refl, e)
  same_lines [] (m ∷ others) rest last right also none never e =
      absurd (none m (flat_map line_text others ++ last) also.0
      (e ∙ append_assoc (line_text m) (flat_map line_text others) last))
  same_lines (l ∷ lines) [] rest last right also none never e =
      absurd (never l (flat_map line_text lines ++ rest) right.0
      (sym e ∙ append_assoc (line_text l) (flat_map line_text lines) rest))
  same_lines (l ∷ lines) (m ∷ others) rest last right also none never e =
      let a = flat_map line_text lines ++ rest in
      let b = flat_map line_text others ++ last in
      let cut : line_text l ++ a ≡ line_text m ++ b =
      sym (append_assoc (line_text l) (flat_map line_text lines) rest)
      ∙ e ∙ append_assoc (line_text m) (flat_map line_text others) last in
      let front : l ≡ m = same_line l m a b right.0 also.0 cut in
      let left : a ≡ b = append_cancel_left (line_text m) a b (ap (λ k. line_text k ++ a) (sym front) ∙ cut) in
      let more = same_lines lines others rest last right.1 also.1 none never left in
      let back : lines ≡ others = more.0 in
      (λ i. front i ∷ back i, more.1)
