-- Reading goes on at a mark: what is known of the section behind it is known of the head.
use Rattle.std.proofs.Common.{◌≡◌, ℕ, ◌+◌, ◌<◌, ◌≤◌, List, [], ◌∷◌, ◌++◌, length, take, drop, refl, sym, ap, subst, ◌∙◌}
use Rattle.std.proofs.Common.{arith, append_assoc, append-nil, length-append, flat_map}
use Rattle.std.specs.Prelude.{All}
use Rattle.std.proofs.lemmas.List.{take-append-le, take-append-drop}
use Rattle.std.proofs.lemmas.List.Elements.{All-append}
use Rattle.std.proofs.lemmas.Grind.{flat_map-append}
use Rattle.httparse.specs.Grammar.{LineEnd, print_end, Field, IsField, print_field, print_section, HasNoSection}
use Rattle.httparse.specs.Grammar.{NeverHasSection, MayBecomeSection, RequestHead, ReadsRequest, NeverHasRequest}
use Rattle.httparse.specs.Pieces.{Section, RequestStart}
use Rattle.httparse.proofs.PieceLemmas.{RequestStart_deterministic, Section_skip}
use Rattle.httparse.proofs.GrammarLemmas.{RequestTree, request_tree, request_head, request_pieces, request_from_pieces}
use Rattle.std.proofs.Common.{true, false}
use Rattle.std.specs.Prelude.{not, ◌==◌, codes}
use Rattle.std.specs.List.{list_all}
use Rattle.std.proofs.lemmas.List.{append_cancel_left, take_all, length-drop}
use Rattle.std.proofs.lemmas.List.Elements.{All-nil}
use Rattle.std.proofs.lemmas.List.Folds.{list_all-append}
use Rattle.std.proofs.lemmas.List.Sums.{list_all-from_AllPass}
use Rattle.std.proofs.lemmas.Bool.{and_from}
use Rattle.std.proofs.lemmas.Bool.Decides.{nat_tests}
use Rattle.std.proofs.str.Laws.{order}
use mathlib.Core.Logic.{⊎_elim}
use Rattle.httparse.specs.Grammar.{is_uri_byte, is_token_byte, print_blank, print_version, IsRequestHead, HasNoRequest}
use Rattle.httparse.proofs.PieceLemmas.{Stops_token}
use Rattle.httparse.proofs.GrammarLemmas.{print_request-append, cons-append}
use Rattle.asp_text.proofs.Places.{both_true}
use Rattle.http_front.proofs.Shortest.{longer_prefix}
use Rattle.http_front.proofs.Cuts.{no_feed, all_of, feed_is_no_token, end_body, end_is, end_none, left_feed, section_cut}
use Rattle.http_front.specs.Front.{BeginsHead}
use Rattle.std.proofs.Common.{zero, suc, get_or, inl, inr, length-take, length-take-le}
use Rattle.std.proofs.lemmas.List.{take-take, take_more, get_or_append_left}
use Rattle.httparse.specs.Grammar.{crlf, lf}
use Rattle.httparse.specs.Pieces.{is_newline}
use Rattle.http_front.specs.Front.{window}
use Rattle.http_front.proofs.Fronts.{not_both}
use Rattle.http_front.specs.Mark.{IsMark, IsMarked}

-- the start line, and then the field lines and what follows
start_reads : (w more : List ℕ) (mark : ℕ) (m : IsMark w mark)
    → RequestStart m.start (w ++ more) (flat_map print_field m.fields ++ (drop mark w ++ more))
start_reads w more mark m =
    subst (λ l. RequestStart m.start l (flat_map print_field m.fields ++ (drop mark w ++ more)))
    (sym (append_assoc (take mark w) (drop mark w) more) ∙ ap (λ l. l ++ more) (take-append-drop mark w))
    (m.reads (drop mark w ++ more))

-- Where no section can come behind the mark, no head can come.
pub mark_never : (w : List ℕ) (mark : ℕ) → IsMark w mark → NeverHasSection (drop mark w) → NeverHasRequest w
mark_never w mark m never more h rest reads =
    let pieces = request_pieces (w ++ more) h rest reads in
    let here = start_reads w more mark m in
    let same = RequestStart_deterministic.unique m.start (request_tree h).0 (w ++ more) _ pieces.0 here pieces.1 in
    let later = flat_map print_field m.fields ++ (drop mark w ++ more) in
    let section : Section (h.fields, h.last) later rest = subst (λ l. Section (h.fields, h.last) l rest) (sym same.1) pieces.2 in
    let skipped = Section_skip m.fields h.fields h.last later (drop mark w ++ more) rest (m.valid, refl) section in
    never more skipped.0 h.last rest skipped.2

-- Where a section is begun behind the mark, a head is begun.
pub mark_begins : (w : List ℕ) (mark : ℕ) → IsMark w mark → MayBecomeSection (drop mark w) → HasNoSection (drop mark w)
    → BeginsHead w
mark_begins w mark m may none =
    let more = may.0 in
    let tree : RequestTree = (m.start, (m.fields ++ may.1, may.2)) in
    let lines = flat_map print_field m.fields in
    let there : drop mark w ++ more ≡ (flat_map print_field may.1 ++ print_end may.2) ++ [] = may.3.1 in
    let text : lines ++ (drop mark w ++ more) ≡ print_section (m.fields ++ may.1) may.2 ++ [] =
    ap (λ l. lines ++ l) there ∙ sym (append_assoc lines (flat_map print_field may.1 ++ print_end may.2) [])
    ∙ ap (λ l. l ++ []) (sym (append_assoc lines (flat_map print_field may.1) (print_end may.2))
    ∙ ap (λ l. l ++ print_end may.2) (sym (flat_map-append print_field m.fields may.1))) in
    let reads = request_from_pieces (w ++ more) tree []
    (lines ++ (drop mark w ++ more), start_reads w more mark m, (All-append IsField m.fields may.1 m.valid may.3.0, text)) in
    (more, request_head tree, some more refl, reads)
  where
    some : (l : List ℕ) → may.0 ≡ l → 0 < length l
    some [] e = absurd (none may.1 may.2 []
        (may.3.0, sym (append-nil (drop mark w)) ∙ ap (λ l. drop mark w ++ l) (sym e) ∙ may.3.1))
    some (b ∷ l) e = omega arith

-- More bytes leave the mark.
pub mark_stays : (w more : List ℕ) (mark : ℕ) → IsMark w mark → IsMark (w ++ more) mark
mark_stays w more mark m = record {
  within = omega (arith, length-append w more, m.within);
  start = m.start;
  fields = m.fields;
  valid = m.valid;
  reads = λ after. subst (λ l. RequestStart m.start (l ++ after) (flat_map print_field m.fields ++ after))
      (sym (take-append-le mark w more m.within)) (m.reads after);
}

-- ---- the first mark

version_none : (minor : ℕ) → minor ≤ 1 → list_all no_feed (print_version minor) ≡ true
version_none minor small =
    let other : not ((48 + minor) == 10) ≡ true = grind (arith, nat_tests) in
    list_all-append no_feed (codes "HTTP/1.") ((48 + minor) ∷ []) ∙ and_from _ _ refl (and_from _ _ other refl)

-- the request line before its line feed
line_body : RequestHead → List ℕ
line_body h = h.method ++ 32 ∷ (h.target ++ 32 ∷ (print_version h.minor ++ end_body h.line_end))

line_none : (h : RequestHead) → IsRequestHead h → list_all no_feed (line_body h) ≡ true
unfolding line_body
line_none h is =
    let version = list_all-append no_feed (print_version h.minor) (end_body h.line_end)
    ∙ and_from _ _ (version_none h.minor is.minor) (end_none h.line_end) in
    let target = list_all-append no_feed h.target (32 ∷ (print_version h.minor ++ end_body h.line_end))
    ∙ and_from _ _ (all_of is_uri_byte refl h.target (list_all-from_AllPass is_uri_byte h.target is.target.1)) version in
    list_all-append no_feed h.method (32 ∷ (h.target ++ 32 ∷ (print_version h.minor ++ end_body h.line_end)))
    ∙ and_from _ _ (all_of is_token_byte feed_is_no_token h.method
    (list_all-from_AllPass is_token_byte h.method is.method.1)) target

regroup : (a b c d e x : List ℕ) → a ++ (b ++ 32 ∷ (c ++ 32 ∷ (d ++ (e ++ x)))) ≡ a ++ ((b ++ 32 ∷ (c ++ 32 ∷ (d ++ e))) ++ x)
regroup a b c d e x = simp (append_assoc, cons-append)

-- after the request line
line_reads : (h : RequestHead) (x : List ℕ)
    → print_blank h.blank ++ (h.method
    ++ 32 ∷ (h.target ++ 32 ∷ (print_version h.minor ++ (print_end h.line_end ++ x))))
    ≡ print_blank h.blank ++ (line_body h ++ 10 ∷ x)
unfolding line_body
line_reads h x =
    ap (λ l. print_blank h.blank ++ (h.method ++ 32 ∷ (h.target ++ 32 ∷ (print_version h.minor ++ l))))
    (ap (λ l. l ++ x) (end_is h.line_end) ∙ append_assoc (end_body h.line_end) (10 ∷ []) x)
    ∙ regroup (print_blank h.blank) h.method h.target (print_version h.minor) (end_body h.line_end) (10 ∷ x)

-- the first line feed is behind what has none
feed_at : (q b x y : List ℕ) → list_all no_feed b ≡ true → q ++ 10 ∷ x ≡ b ++ 10 ∷ y → length b ≤ length q
feed_at q [] x y none e = omega arith
feed_at [] (c ∷ b) x y none e =
    let parts = both_true (no_feed c) (list_all no_feed b) none in
    let same : c ≡ 10 = cc in
    let wrong : false ≡ true = subst (λ v. not (v == 10) ≡ true) same parts.0 in
    absurd cc
feed_at (d ∷ q) (c ∷ b) x y none e =
    let parts = both_true (no_feed c) (list_all no_feed b) none in
    let later : q ++ 10 ∷ x ≡ b ++ 10 ∷ y = cc in
    omega (arith, feed_at q b x y parts.1 later)

-- the lines of a head, printed, are a mark, whatever follows
mark_of : (h : RequestHead) → IsRequestHead h → (gs : List Field) → All IsField gs → (text : List ℕ)
    → text ≡ print_blank h.blank ++ (line_body h ++ 10 ∷ flat_map print_field gs) → IsMark text (length text)
mark_of h is gs valid text e = record {
  within = omega arith;
  start = (request_tree h).0;
  fields = gs;
  valid = valid;
  reads = λ more.
      let lines = flat_map print_field gs in
      let all : take (length text) text ++ more
      ≡ print_blank h.blank ++ (h.method
      ++ 32 ∷ (h.target ++ 32 ∷ (print_version h.minor ++ (print_end h.line_end ++ (lines ++ more))))) =
      ap (λ l. l ++ more) (take_all (length text) text (omega arith) ∙ e)
      ∙ append_assoc (print_blank h.blank) (line_body h ++ 10 ∷ lines) more
      ∙ ap (λ l. print_blank h.blank ++ l) (append_assoc (line_body h) (10 ∷ lines) more)
      ∙ sym (line_reads h (lines ++ more)) in (
        _,
        (all, Stops_token h.method _ is.method.0 is.method.1),
        (
          _,
          (is.method.0, is.method.1, refl),
          (_, ((is.target.0, is.target.1, refl), is.target_text), (_, (is.minor, refl), refl)),
        ),
      );
}

-- A window that ends in a line feed behind its empty lines, and goes on to a head, is whole lines.
pub mark_cut : (p more : List ℕ) (h : RequestHead) → ReadsRequest ((p ++ 10 ∷ []) ++ more) h []
    → length (print_blank h.blank) ≤ length p
    → HasNoRequest (p ++ 10 ∷ []) → IsMark (p ++ 10 ∷ []) (length (p ++ 10 ∷ []))
mark_cut p more h reads behind none =
    let text : List ℕ = p ++ 10 ∷ [] in
    let blank = print_blank h.blank in
    let body = line_body h in
    let section : List ℕ = print_section h.fields h.last ++ [] in
    let e : text ++ more ≡ blank ++ (body ++ 10 ∷ section) = reads.1 ∙ print_request-append h [] ∙ line_reads h section in
    let first = longer_prefix blank (body ++ 10 ∷ section) text more (sym e) (omega (arith, length-append p (10 ∷ []))) in
    let t : List ℕ = drop (length blank) text in
    let some : 0 < length t = omega (arith, length-drop (length blank) text, length-append p (10 ∷ [])) in
    let ends = left_feed blank t p first some in
    let q = ends.0 in
    let rest : t ++ more ≡ body ++ 10 ∷ section =
    append_cancel_left blank (t ++ more) (body ++ 10 ∷ section)
    (sym (append_assoc blank t more) ∙ ap (λ l. l ++ more) (sym first) ∙ e) in
    let feeds : q ++ 10 ∷ more ≡ body ++ 10 ∷ section =
    sym (append_assoc q (10 ∷ []) more) ∙ ap (λ l. l ++ more) (sym ends.1) ∙ rest in
    let far = feed_at q body more section (line_none h reads.0) feeds in
    let line : List ℕ = body ++ 10 ∷ [] in
    let lined : line ++ section ≡ t ++ more = append_assoc body (10 ∷ []) section ∙ sym rest in
    let second = longer_prefix line section t more lined
    (omega (arith, ap length ends.1, length-append q (10 ∷ []), length-append body (10 ∷ []))) in
    let s : List ℕ = drop (length line) t in
    let left : s ++ more ≡ section =
    append_cancel_left line (s ++ more) section (sym (append_assoc line s more) ∙ ap (λ l. l ++ more) (sym second) ∙ sym lined) in
    let whole : (gs : List Field) → s ≡ flat_map print_field gs
    → text ≡ blank ++ (body ++ 10 ∷ flat_map print_field gs) = λ gs is.
    first ∙ ap (λ l. blank ++ l) (second ∙ append_assoc body (10 ∷ []) s ∙ ap (λ l. body ++ 10 ∷ l) is) in
    ⊎_elim
    (λ (z : length s < 1).
    mark_of h reads.0 [] (All-nil IsField) text (whole [] (no_length s (omega arith))))
    (λ (z : 1 ≤ length s).
    let again = left_feed line s q (sym ends.1 ∙ second) z in
    let no_section : HasNoSection (again.0 ++ 10 ∷ []) = λ gs l r x.
    let k : RequestHead = record h { fields = gs; last = l } in
    none k r (
      record {
        method = reads.0.method;
        target = reads.0.target;
        target_text = reads.0.target_text;
        minor =
            reads.0.minor;
        fields = x.0;
      },
      first ∙ ap (λ v. blank ++ v) (second ∙ append_assoc body (10 ∷ []) s ∙ ap (λ v. body ++ 10 ∷ v) (again.1 ∙ x.1))
          ∙ sym (line_reads h (print_section gs l ++ r)) ∙ sym (print_request-append k r),
    ) in
    let cut = section_cut h.fields h.last again.0 more reads.0.fields
    (ap (λ l. l ++ more) (sym again.1) ∙ left ∙ append-nil (print_section h.fields h.last)) no_section in
    mark_of h reads.0 cut.0 cut.1 text (whole cut.0 (again.1 ∙ cut.2)))
    (order (length s) 1)
  where
    no_length : (l : List ℕ) → length l ≡ 0 → l ≡ []
    no_length [] z = refl
    no_length (b ∷ l) z = absurd (omega arith)

-- ---- marks of the window and of all bytes

blank_newlines : (ends : List LineEnd) → list_all is_newline (print_blank ends) ≡ true
blank_newlines [] = refl
blank_newlines (crlf ∷ ends) = blank_newlines ends
blank_newlines (lf ∷ ends) = blank_newlines ends

-- the empty lines end before the first byte of another kind
blank_short : (blank rest w : List ℕ) (first : ℕ) → list_all is_newline blank ≡ true → w ≡ blank ++ rest
    → is_newline (get_or w first 0) ≡ false → length blank ≤ first
blank_short [] rest w first all e other = omega arith
blank_short (b ∷ blank) rest w zero all e other =
    let parts = both_true (is_newline b) (list_all is_newline blank) all in
    let same : get_or w 0 0 ≡ b = ap (λ l. get_or l 0 0) e in
    let test : is_newline (get_or w 0 0) ≡ is_newline b = ap is_newline same in
    absurd (cc (test, parts.0, other))
blank_short (b ∷ blank) rest [] (suc first) all e other = absurd (omega (arith, ap length e))
blank_short (b ∷ blank) rest (c ∷ w) (suc first) all e other =
    let parts = both_true (is_newline b) (list_all is_newline blank) all in
    let later : w ≡ blank ++ rest = cc in
    omega (arith, blank_short blank rest w first parts.1 later other)

-- a window that begins a head has a mark behind each line feed that stands past its empty lines
pub window_mark : (w : List ℕ) (first at : ℕ) → BeginsHead w → first ≤ at → at < length w → get_or w at 0 ≡ 10
    → is_newline (get_or w first 0) ≡ false → IsMark w (at + 1)
window_mark w first at begins order_is inside feed other =
    let p = take at w in
    let text : List ℕ = p ++ 10 ∷ [] in
    let size : length p ≡ at = length-take-le at w (omega arith) in
    let cut : take (at + 1) w ≡ text = take_more w at 0 inside ∙ ap (λ b. p ++ b ∷ []) feed in
    let split : w ≡ text ++ drop (at + 1) w = sym (take-append-drop (at + 1) w) ∙ ap (λ l. l ++ drop (at + 1) w) cut in
    let more = drop (at + 1) w ++ begins.0 in
    let h = begins.1 in
    let joined : w ++ begins.0 ≡ text ++ more = ap (λ l. l ++ begins.0) split ∙ append_assoc text (drop (at + 1) w) begins.0 in
    let reads : ReadsRequest (text ++ more) h [] = subst (λ l. ReadsRequest l h []) joined begins.3 in
    let whole : w ++ begins.0 ≡ print_blank h.blank ++ _ = begins.3.1 ∙ print_request-append h [] in
    let there : is_newline (get_or (w ++ begins.0) first 0) ≡ false =
    ap is_newline (get_or_append_left w begins.0 0 first (omega arith)) ∙ other in
    let short = blank_short (print_blank h.blank) _ (w ++ begins.0) first (blank_newlines h.blank) whole there in
    let opened : BeginsHead text = (more, h, omega (arith, length-append (drop (at + 1) w) begins.0, begins.2), reads) in
    let none : HasNoRequest text = λ k r x. not_both text r k x opened in
    let mark = mark_cut p more h reads (omega (arith, short, size)) none in
    let here : IsMark w (length text) =
    subst (λ l. IsMark l (length text)) (sym split) (mark_stays text (drop (at + 1) w) (length text) mark) in
    subst (IsMark w) (let e : length text ≡ at + 1 = omega (arith, length-append p (10 ∷ []), size) in e) here

pub marked_stays : (w more : List ℕ) (mark : ℕ) → IsMarked w mark → IsMarked (w ++ more) mark
marked_stays w more mark (inl none) = inl none
marked_stays w more mark (inr m) = inr (m.0, mark_stays w more mark m.1)

-- a mark of the window is one of the bytes
pub marked_bytes : (bytes : List ℕ) (mark : ℕ) → IsMarked (window bytes) mark → IsMarked bytes mark
marked_bytes bytes mark m =
    subst (λ l. IsMarked l mark) (take-append-drop 16384 bytes) (marked_stays (window bytes) (drop 16384 bytes) mark m)

-- and the other way round
pub marked_window : (bytes : List ℕ) (mark : ℕ) → IsMarked bytes mark → IsMarked (window bytes) mark
marked_window bytes mark (inl none) = inl none
marked_window bytes mark (inr m) = inr (
  m.0,
  record {
    within = omega (arith, length-take 16384 bytes, m.0, m.1.within);
    start = m.1.start;
    fields = m.1.fields;
    valid = m.1.valid;
    reads = λ more. subst (λ l. RequestStart m.1.start (l ++ more) (flat_map print_field m.1.fields ++ more))
        (sym (take-take mark 16384 bytes m.0)) (m.1.reads more);
  },
)

pub marked_some : (w : List ℕ) (mark : ℕ) → IsMarked w mark → (mark ≡ 0 → ⊥) → IsMark w mark
marked_some w mark (inl none) other = absurd (other none)
marked_some w mark (inr m) other = m.1
