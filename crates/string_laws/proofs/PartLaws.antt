-- What the parts of a text are: how many, how long, and where a separator stands in them.
use Rattle.std.proofs.Common.{◌≡◌, ℕ, zero, suc, ◌+◌, ◌-◌, ◌<◌, ◌≤◌, min, nat_le, Bool, true, false, cond, ◌&&◌, List}
use Rattle.std.proofs.Common.{[], ◌∷◌, ◌++◌}
use Rattle.std.proofs.Common.{Option, Some, None, length, get_or, take, drop, refl, sym, ap, ◌∙◌, arith, length-drop}
use Rattle.std.proofs.Common.{length-append}
use Rattle.std.specs.List.{find, range_with_len, list_all}
use Rattle.std.proofs.lemmas.Bool.{false_from_ne_true, le-leb}
use Rattle.std.proofs.lemmas.List.{length-take, length-take-le, get_or_append_left, get_or-append_right, append_assoc}
use Rattle.std.proofs.lemmas.List.{nil_from_length}
use Rattle.std.proofs.lemmas.List.FromFn.{length-range_with_len, get_or-range_with_len}
use Rattle.vb_strings.specs.declared.comparing.Comparison.{Comparison}
use Rattle.vb_strings.specs.declared.comparing.Comparison.TheVariants.{Exact}
use Rattle.vb_strings.specs.Searching.{stands, first_in}
use Rattle.vb_strings.specs.Splitting.{cut, parts}
use Rattle.vb_strings.specs.Joining.{behind, joined}
use Rattle.vb_strings.proofs.Found.{fits, first_is}
use Rattle.string_laws.proofs.Rejoined.{around_first, some_part}
use Rattle.vb_strings.proofs.Searched.{stands_agrees, agrees_stands}

-- where something was found
record FoundAt (test : ℕ → Bool) (numbers : List ℕ) (n : ℕ) : Type 0 where
  at : ℕ
  within : at < length numbers
  is : get_or numbers at 0 ≡ n
  passes : test n ≡ true
  before : (k : ℕ) → k < at → test (get_or numbers k 0) ≡ false

found_later : (test : ℕ → Bool) (m : ℕ) (numbers : List ℕ) (n : ℕ) → test m ≡ false → FoundAt test numbers n
    → FoundAt test (m ∷ numbers) n
found_later test m numbers n fails found =
    let before : (k : ℕ) → k < suc found.at → test (get_or (m ∷ numbers) k 0) ≡ false =
    elim [ zero ↦ λ below. fails | suc k ↦ λ below. found.before k (omega arith) ] in
    record {
      at = suc found.at;
      within = omega (arith, found.within);
      is = found.is;
      passes = found.passes;
      before = before;
    }

found_at : (test : ℕ → Bool) (numbers : List ℕ) (n : ℕ) → find test numbers ≡ Some n → FoundAt test numbers n
found_at test [] n is = absurd (cc)
found_at test (m ∷ numbers) n is =
    let split : (passes : Bool) → test m ≡ passes → cond passes (Some m) (find test numbers) ≡ Some n
    → FoundAt test (m ∷ numbers) n =
    elim [
      | true ↦ λ passed found.
          let same : m ≡ n = cc in
          record {
            at = 0;
            within = omega arith;
            is = same;
            passes = ap test (sym same) ∙ passed;
            before = λ k below. absurd (omega arith);
          }
      | false ↦ λ failed found. found_later test m numbers n failed (found_at test numbers n found)
    ] in
    split (test m) refl is

-- the first place of a separator: it stands there, and nowhere before
record FirstAt (comparison : Comparison) (text separator : List ℕ) (before : ℕ) : Type 0 where
  within : before < length text
  here : stands comparison text separator before ≡ true
  none : (k : ℕ) → k < before → stands comparison text separator k ≡ false

first_at : (comparison : Comparison) (text separator : List ℕ) (before : ℕ)
    → first_in comparison text separator ≡ Some before → FirstAt comparison text separator before
first_at comparison text separator before is =
    let found : FoundAt (stands comparison text separator) (range_with_len 0 (length text)) before =
    found_at (stands comparison text separator) (range_with_len 0 (length text)) before is in
    let long : length (range_with_len 0 (length text)) ≡ length text = length-range_with_len 0 (length text) in
    let within : found.at < length text = omega (arith, found.within) in
    let place : get_or (range_with_len 0 (length text)) found.at 0 ≡ 0 + found.at =
    get_or-range_with_len 0 (length text) found.at 0 within in
    let at : found.at ≡ before = omega (arith, place, found.is) in
    record {
      within = omega arith;
      here = found.passes;
      none = λ k below.
          let number : get_or (range_with_len 0 (length text)) k 0 ≡ k =
          get_or-range_with_len 0 (length text) k 0 (omega arith) ∙ omega arith in
          ap (stands comparison text separator) (sym number) ∙ found.before k (omega arith);
    }

-- a separator stands in a text where it stands in a part from the front
stands_further : (text more separator : List ℕ) (k : ℕ) → k ≤ length text → stands Exact text separator k ≡ true
    → stands Exact (text ++ more) separator k ≡ true
stands_further text more separator k within is =
    let ends : k + length separator ≤ length text = fits Exact text separator k within is in
    let long : length (text ++ more) ≡ length text + length more = length-append text more in
    agrees_stands Exact (text ++ more) separator k (omega arith) (λ j below.
    get_or_append_left text more 0 (k + j) (omega arith) ∙ stands_agrees Exact text separator k is j below)

-- a separator behind a text stands there
stands_behind : (text separator : List ℕ) → stands Exact (text ++ separator) separator (length text) ≡ true
stands_behind text separator =
    let long : length (text ++ separator) ≡ length text + length separator = length-append text separator in
    agrees_stands Exact (text ++ separator) separator (length text) (omega arith) (λ j below.
    let back : length text + j - length text ≡ j = omega arith in
    get_or-append_right text separator (length text) (length text + j) 0 refl (omega arith)
    ∙ ap (λ n. get_or separator n 0) back)

-- in what stands before the first separator, with the separator behind it, that is the first one too
first_ended : (text separator : List ℕ) (before : ℕ) → 0 < length separator
    → first_in Exact text separator ≡ Some before
    → first_in Exact (take before text ++ separator) separator ≡ Some (length (take before text))
first_ended text separator before wide is =
    let first : FirstAt Exact text separator before = first_at Exact text separator before is in
    let within : before < length text = first.within in
    let width : length (take before text) ≡ before = length-take-le before text (omega arith) in
    let long : length (take before text ++ separator) ≡ length (take before text) + length separator =
    length-append (take before text) separator in
    let whole : (take before text ++ separator) ++ drop (before + length separator) text ≡ text =
    append_assoc (take before text) separator (drop (before + length separator) text)
    ∙ around_first text separator before is in
    first_is Exact (take before text ++ separator) separator (length (take before text)) (omega arith)
    (λ k below. false_from_ne_true (stands Exact (take before text ++ separator) separator k) (λ stood.
    let further : stands Exact text separator k ≡ true =
    ap (λ given. stands Exact given separator k) (sym whole)
    ∙ stands_further (take before text ++ separator) (drop (before + length separator) text) separator k
    (omega arith) stood in
    let nowhere : stands Exact text separator k ≡ false = first.none k (omega arith) in
    absurd (cc)))
    (stands_behind (take before text) separator)

-- each part but the last ends where the separator first stands
pub parts_ended : (separator : List ℕ) → 0 < length separator → (cuts : ℕ) (text : List ℕ) (at : ℕ)
    → at + 1 < length (parts Exact separator cuts text)
    → first_in Exact (get_or (parts Exact separator cuts text) at [] ++ separator) separator
    ≡ Some (length (get_or (parts Exact separator cuts text) at []))
parts_ended separator wide zero text at more = absurd (omega arith)
parts_ended separator wide (suc cuts) text at more =
    let Ended : ℕ → List (List ℕ) → Type 0 = λ k texts.
    first_in Exact (get_or texts k [] ++ separator) separator ≡ Some (length (get_or texts k [])) in
    let split : (first : Option ℕ) → first_in Exact text separator ≡ first
    → at + 1 < length (cut (length separator) (parts Exact separator cuts) text first)
    → Ended at (cut (length separator) (parts Exact separator cuts) text first) =
    elim [
      | None ↦ λ is none. absurd (omega arith)
      | Some before ↦ λ is some.
          let rest : List ℕ = drop (before + length separator) text in
          let each : (k : ℕ) → k + 1 < length (take before text ∷ parts Exact separator cuts rest)
          → Ended k (take before text ∷ parts Exact separator cuts rest) =
          elim [
            | zero ↦ λ below. first_ended text separator before wide is
            | suc k ↦ λ below. parts_ended separator wide cuts rest k (omega arith)
          ] in
          each at some
    ] in
    split (first_in Exact text separator) refl more

last_later : (first : List ℕ) (texts : List (List ℕ)) → 0 < length texts
    → get_or (first ∷ texts) (length (first ∷ texts) - 1) [] ≡ get_or texts (length texts - 1) []
last_later first [] some = absurd (omega arith)
last_later first (second ∷ texts) some =
    let further : length (first ∷ second ∷ texts) - 1 ≡ suc (length (second ∷ texts) - 1) = omega arith in
    ap (λ n. get_or (first ∷ second ∷ texts) n []) further

-- the last of all parts holds no separator
pub parts_last : (separator : List ℕ) → 0 < length separator → (cuts : ℕ) (text : List ℕ) → length text ≤ cuts
    → first_in Exact (get_or (parts Exact separator cuts text) (length (parts Exact separator cuts text) - 1) []) separator
    ≡ None
parts_last separator wide zero text enough =
    let empty : text ≡ [] = nil_from_length text (omega arith) in
    ap (λ given. first_in Exact given separator) empty
parts_last separator wide (suc cuts) text enough =
    let Last : List (List ℕ) → Type 0 = λ texts.
    first_in Exact (get_or texts (length texts - 1) []) separator ≡ None in
    let split : (first : Option ℕ) → first_in Exact text separator ≡ first
    → Last (cut (length separator) (parts Exact separator cuts) text first) =
    elim [
      | None ↦ λ is. is
      | Some before ↦ λ is.
          let rest : List ℕ = drop (before + length separator) text in
          let short : length rest ≤ cuts = omega (arith, length-drop (before + length separator) text) in
          ap (λ last. first_in Exact last separator)
          (last_later (take before text) (parts Exact separator cuts rest) (some_part Exact separator cuts rest))
          ∙ parts_last separator wide cuts rest short
    ] in
    split (first_in Exact text separator) refl

-- a text has no more parts than characters, and one
pub few_by_text : (separator : List ℕ) → 0 < length separator → (cuts : ℕ) (text : List ℕ)
    → length (parts Exact separator cuts text) ≤ length text + 1
few_by_text separator wide zero text = omega arith
few_by_text separator wide (suc cuts) text =
    let split : (first : Option ℕ) → first_in Exact text separator ≡ first
    → length (cut (length separator) (parts Exact separator cuts) text first) ≤ length text + 1 =
    elim [
      | None ↦ λ is. omega arith
      | Some before ↦ λ is.
          let rest : List ℕ = drop (before + length separator) text in
          let within : before < length text = (first_at Exact text separator before is).within in
          let fewer : length (parts Exact separator cuts rest) ≤ length rest + 1 =
          few_by_text separator wide cuts rest in
          omega (arith, length-drop (before + length separator) text)
    ] in
    split (first_in Exact text separator) refl

-- with fewer cuts there are as many parts as cuts allow, or as many as with more
pub parts_count : (separator : List ℕ) (cuts more : ℕ) (text : List ℕ) → cuts ≤ more
    → length (parts Exact separator cuts text) ≡ min (cuts + 1) (length (parts Exact separator more text))
parts_count separator zero more text less =
    let some : 0 < length (parts Exact separator more text) = some_part Exact separator more text in
    omega arith
parts_count separator (suc cuts) zero text less = absurd (omega arith)
parts_count separator (suc cuts) (suc more) text less =
    let split : (first : Option ℕ)
    → length (cut (length separator) (parts Exact separator cuts) text first)
    ≡ min (suc cuts + 1) (length (cut (length separator) (parts Exact separator more) text first)) =
    elim [
      | None ↦ omega arith
      | Some before ↦
          let rest : List ℕ = drop (before + length separator) text in
          let fewer : length (parts Exact separator cuts rest) ≡ min (cuts + 1) (length (parts Exact separator more rest)) =
          parts_count separator cuts more rest (omega arith) in
          omega arith
    ] in
    split (first_in Exact text separator)

-- texts none of which is longer
abbrev pub NoneLonger : ℕ → List (List ℕ) → Type 0
NoneLonger most texts = list_all (λ text. nat_le (length text) most) texts ≡ true

both_true : (a b : Bool) → a ≡ true → b ≡ true → a && b ≡ true
both_true a b first second = rw first second

-- the parts of a text are no longer than it is
pub parts_short : (separator : List ℕ) (most cuts : ℕ) (text : List ℕ) → length text ≤ most
    → NoneLonger most (parts Exact separator cuts text)
parts_short separator most zero text short = both_true (nat_le (length text) most) true (le-leb (length text) most short) refl
parts_short separator most (suc cuts) text short =
    let split : (first : Option ℕ)
    → NoneLonger most (cut (length separator) (parts Exact separator cuts) text first) =
    elim [
      | None ↦ both_true (nat_le (length text) most) true (le-leb (length text) most short) refl
      | Some before ↦
          let rest : List ℕ = drop (before + length separator) text in
          let first : length (take before text) ≤ most = omega (arith, length-take before text) in
          let others : length rest ≤ most = omega (arith, length-drop (before + length separator) text) in
          both_true (nat_le (length (take before text)) most)
          (list_all (λ part. nat_le (length part) most) (parts Exact separator cuts rest))
          (le-leb (length (take before text)) most first) (parts_short separator most cuts rest others)
    ] in
    split (first_in Exact text separator)

-- texts behind separators are no longer than all of them together
behind_short : (separator : List ℕ) (most : ℕ) (texts : List (List ℕ)) → length (behind separator texts) ≤ most
    → NoneLonger most texts
behind_short separator most [] short = refl
behind_short separator most (text ∷ texts) short =
    let all : length (behind separator (text ∷ texts)) ≡ length separator + length text + length (behind separator texts) =
    length-append (separator ++ text) (behind separator texts)
    ∙ ap (λ n. n + length (behind separator texts)) (length-append separator text) in
    both_true (nat_le (length text) most) (list_all (λ part. nat_le (length part) most) texts)
    (le-leb (length text) most (omega arith)) (behind_short separator most texts (omega arith))

pub joined_short : (separator : List ℕ) (most : ℕ) (texts : List (List ℕ)) → length (joined separator texts) ≤ most
    → NoneLonger most texts
joined_short separator most [] short = refl
joined_short separator most (first ∷ others) short =
    let all : length (joined separator (first ∷ others)) ≡ length first + length (behind separator others) =
    length-append first (behind separator others) in
    both_true (nat_le (length first) most) (list_all (λ part. nat_le (length part) most) others)
    (le-leb (length first) most (omega arith)) (behind_short separator most others (omega arith))
