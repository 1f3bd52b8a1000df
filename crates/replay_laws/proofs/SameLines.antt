-- The lines of a journal are read from its text, whatever follows that begins no line.
use Rattle.std.proofs.Common.{◌≡◌, ◌≢◌, ℕ, ◌<◌, List, [], ◌∷◌, ◌++◌, reverse, get_or, Option, Some, None, subst}
use Rattle.std.proofs.Common.{refl, sym, ap, ◌∙◌, append_assoc, append-nil, arith}
use Rattle.std.specs.List.{cons_option, flat_map}
use Rattle.std.proofs.lemmas.Grind.{reverse_onto}
use Rattle.std.proofs.lemmas.List.{reverse-reverse}
use Rattle.std.proofs.lemmas.List.Elements.{filter_map-append}
use Rattle.asp_job.specs.declared.entry.Entry.{Entry}
use Rattle.asp_job.specs.declared.entry.What.{What}
use Rattle.asp_job.specs.declared.entry.What.TheVariants as entry
use Rattle.asp_job.specs.History.{with_lane}
use Rattle.asp_record.specs.declared.journal.Line.{Line}
use Rattle.asp_record.specs.declared.journal.LineWhat.{LineWhat}
use Rattle.asp_record.specs.declared.journal.LineWhat.TheVariants as what
use Rattle.asp_record.specs.Entries.{entry_text}
use Rattle.asp_record.specs.EntryLines.{line_in, lines_in}
use Rattle.asp_record.specs.Journal.{AreLines, HasNoLine, line_text}
use Rattle.replay_laws.proofs.LineTexts.{LinesAreOne, NoneRefused, lines_more, same_lines}

-- ---- the lines of entries

of_what : (lane : ℕ) (done : What) (past : List Entry)
    → flat_map entry_text past ≡ flat_map line_text (lines_in past)
    → flat_map entry_text (with_lane lane done ∷ past) ≡ flat_map line_text (lines_in (with_lane lane done ∷ past))
of_what lane (entry.Queue run work key) past e = ap (λ t. entry_text (with_lane lane (entry.Queue run work key)) ++ t) e
of_what lane (entry.Admit run key fresh job) past e =
    ap (λ t. entry_text (with_lane lane (entry.Admit run key fresh job)) ++ t) e
of_what lane (entry.Refuse run job) past e = ap (λ t. entry_text (with_lane lane (entry.Refuse run job)) ++ t) e
of_what lane (entry.Tick moment) past e = ap (λ t. entry_text (with_lane lane (entry.Tick moment)) ++ t) e
of_what lane (entry.Begin run serial) past e = ap (λ t. entry_text (with_lane lane (entry.Begin run serial)) ++ t) e
of_what lane (entry.App run call reply) past e =
    ap (λ t. entry_text (with_lane lane (entry.App run call reply)) ++ t) e
of_what lane (entry.End run kind status size made finished) past e =
    ap (λ t. entry_text (with_lane lane (entry.End run kind status size made finished)) ++ t) e
of_what lane (entry.Take run) past e = e
of_what lane entry.Stop past e = ap (λ t. entry_text (with_lane lane entry.Stop) ++ t) e
of_what lane entry.Halt past e = e

text_of_lines : (past : List Entry) → flat_map entry_text past ≡ flat_map line_text (lines_in past)
text_of_lines [] = refl
text_of_lines (first ∷ past) = of_what first.lane first.what past (text_of_lines past)

-- ---- the oldest first

reverse_more : (found : Option Line) (lines : List Line)
    → reverse (cons_option found lines) ≡ reverse lines ++ cons_option found []
reverse_more (Some l) lines = reverse_onto lines l []
reverse_more None lines = sym (append-nil (reverse lines))

lines_reversed : (past : List Entry) → lines_in (reverse past) ≡ reverse (lines_in past)
lines_reversed [] = refl
lines_reversed (first ∷ past) =
    ap lines_in (reverse_onto past first [])
    ∙ filter_map-append line_in (reverse past) (first ∷ [])
    ∙ ap (λ lines. lines ++ cons_option (line_in first) []) (lines_reversed past)
    ∙ sym (reverse_more (line_in first) (lines_in past))

are_reversed : (lines : List Line) → AreLines lines → AreLines (reverse lines)
are_reversed [] right = tt
are_reversed (l ∷ lines) right =
    subst AreLines (sym (reverse_onto lines l [])) (lines_more (reverse lines) l (are_reversed lines right.1) right.0)

text_is : (past : List Entry) → flat_map entry_text (reverse past) ≡ flat_map line_text (reverse (lines_in past))
text_is past = text_of_lines (reverse past) ∙ ap (λ lines. flat_map line_text lines) (lines_reversed past)

pub one_lines : LinesAreOne → NoneRefused → (past other : List Entry) (rest last : List ℕ) → AreLines (lines_in past)
    → AreLines (lines_in other) → HasNoLine rest → HasNoLine last
    → flat_map entry_text (reverse past) ++ rest ≡ flat_map entry_text (reverse other) ++ last
    → (lines_in past ≡ lines_in other) × (rest ≡ last)
one_lines one none_refused past other rest last right also none never e =
    let text = sym (ap (λ t. t ++ rest) (text_is past)) ∙ e ∙ ap (λ t. t ++ last) (text_is other) in
    let same = same_lines one none_refused (reverse (lines_in past)) (reverse (lines_in other)) rest last
    (are_reversed (lines_in past) right) (are_reversed (lines_in other) also) none never text in (
      sym (reverse-reverse (lines_in past)) ∙ ap (λ lines. reverse lines) same.0 ∙ reverse-reverse (lines_in other),
      same.1,
    )

-- ---- the first byte of a line

-- a line begins with an upper-case letter
first_upper : (lane : ℕ) (done : LineWhat) (first : ℕ) (more rest : List ℕ)
    → first ∷ more ≡ line_text (record { lane = lane; what = done }) ++ rest → first < 91
first_upper lane (what.Queue run work key) first more rest e =
    let same : first ≡ 81 = ap (λ (l : List ℕ). get_or l 0 0) e in omega (arith, same)
first_upper lane (what.Admit run key moment) first more rest e =
    let same : first ≡ 65 = ap (λ (l : List ℕ). get_or l 0 0) e in omega (arith, same)
first_upper lane (what.Refuse run moment) first more rest e =
    let same : first ≡ 88 = ap (λ (l : List ℕ). get_or l 0 0) e in omega (arith, same)
first_upper lane (what.Tick moment) first more rest e =
    let same : first ≡ 84 = ap (λ (l : List ℕ). get_or l 0 0) e in omega (arith, same)
first_upper lane (what.Begin run serial) first more rest e =
    let same : first ≡ 66 = ap (λ (l : List ℕ). get_or l 0 0) e in omega (arith, same)
first_upper lane (what.App run call reply) first more rest e =
    let same : first ≡ 80 = ap (λ (l : List ℕ). get_or l 0 0) e in omega (arith, same)
first_upper lane (what.End run kind status size made finished) first more rest e =
    let same : first ≡ 69 = ap (λ (l : List ℕ). get_or l 0 0) e in omega (arith, same)
first_upper lane what.Stop first more rest e =
    let same : first ≡ 83 = ap (λ (l : List ℕ). get_or l 0 0) e in omega (arith, same)

pub no_line_begins : (first : ℕ) (rest : List ℕ) → 90 < first → HasNoLine (first ∷ rest)
no_line_begins first rest above = λ l more right e.
    let below = first_upper l.lane l.what first rest more e in absurd (omega (arith, below, above))

-- lines and what begins no line begin with nothing else
lines_begin : (lines : List Line) (first : ℕ) (rest : List ℕ) (other : ℕ) (more : List ℕ) → 90 < other
    → first ≢ other → flat_map line_text lines ++ first ∷ rest ≢ other ∷ more
lines_begin [] first rest other more above apart = λ e. apart (ap (λ (l : List ℕ). get_or l 0 0) e)
lines_begin (l ∷ lines) first rest other more above apart = λ e.
    let cut = sym e ∙ append_assoc (line_text l) (flat_map line_text lines) (first ∷ rest) in
    let below = first_upper l.lane l.what other more (flat_map line_text lines ++ first ∷ rest) cut in
    omega (arith, below, above)

pub text_begins : (past : List Entry) (first : ℕ) (rest : List ℕ) (other : ℕ) (more : List ℕ) → 90 < other
    → first ≢ other → flat_map entry_text (reverse past) ++ first ∷ rest ≢ other ∷ more
text_begins past first rest other more above apart = λ e.
    lines_begin (reverse (lines_in past)) first rest other more above apart
    (ap (λ t. t ++ first ∷ rest) (sym (text_is past)) ∙ e)
