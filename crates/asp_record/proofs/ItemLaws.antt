-- An item that is read is the item that was written, and what was written is read again.
use Rattle.std.proofs.Common.{◌≡◌, ℕ, ◌<◌, true, cond, ltb, List, [], ◌∷◌, ◌++◌, length, Option, Some, None}
use Rattle.std.proofs.Common.{refl, sym, ap, ◌∙◌, append_assoc, arith}
use Rattle.std.specs.Prelude.{codes}
use Rattle.std.specs.Fmt.{decimal}
use Rattle.std.proofs.lemmas.Bool.{lt-ltb}
use Rattle.std.proofs.lemmas.Option.{cond_some, some_pair_parts}
use Rattle.asp_record.specs.declared.recording.Item.{Item}
use Rattle.asp_record.specs.declared.recording.Item.TheVariants.{Request, Tick}
use Rattle.asp_record.specs.Lines.{number}
use Rattle.asp_record.specs.Recording.{item_text, request_text, tick_text}
use Rattle.asp_record.specs.Fields.{◌>>=◌, behind, counted_at, marked_at}
use Rattle.asp_record.specs.Reading.{item_at, item_by, request_at, tick_at}
use Rattle.asp_record.proofs.FieldLaws.{behind_is, counted_again, counted_is, marked_again, marked_is, step_is}

-- the numbers of an item are those that a line may have
abbrev pub IsSmall : Item → Type 0
IsSmall (Request client moment bytes) = (client < 4294967296) × (moment < 18446744073709551616)
    × (length bytes < 18446744073709551616)
IsSmall (Tick moment) = moment < 18446744073709551616

tick_again : (moment : ℕ) (rest : List ℕ) → moment < 18446744073709551616
    → tick_at (decimal moment ++ 10 ∷ rest) ≡ Some (Tick moment, rest)
unfolding tick_at
tick_again moment rest small = rw (marked_again moment 10 [] rest small refl) refl

request_again : (client moment : ℕ) (bytes rest : List ℕ) → IsSmall (Request client moment bytes)
    → request_at (decimal client ++ 32 ∷ (decimal moment ++ 32 ∷ (decimal (length bytes) ++ 10 ∷ (bytes ++ 10 ∷ rest))))
    ≡ Some (Request client moment bytes, rest)
unfolding request_at
request_again client moment bytes rest small =
    let third = decimal (length bytes) ++ 10 ∷ (bytes ++ 10 ∷ rest) in
    let second = decimal moment ++ 32 ∷ third in
    let low : ltb client 4294967296 ≡ true = lt-ltb client 4294967296 small.0 in
    rw (
      marked_again client 32 [] second (omega (arith, small.0)) refl,
      marked_again moment 32 [] third small.1 refl,
      marked_again (length bytes) 10 [] (bytes ++ 10 ∷ rest) small.2 refl,
      counted_again bytes rest,
      low,
    ) refl

parts : (a b c d mark bytes end rest : List ℕ) → (((a ++ b ++ c ++ d) ++ mark) ++ (bytes ++ end)) ++ rest
    ≡ a ++ (b ++ (c ++ (d ++ (mark ++ (bytes ++ (end ++ rest))))))
parts a b c d mark bytes end rest = simp append_assoc

-- the text of a request, from its first word on
request_parts : (client moment : ℕ) (bytes rest : List ℕ) → request_text client moment bytes ++ rest
    ≡ codes "request " ++
    (decimal client ++ 32 ∷ (decimal moment ++ 32 ∷ (decimal (length bytes) ++ 10 ∷ (bytes ++ 10 ∷ rest))))
request_parts client moment bytes rest =
    parts (codes "request") (number client) (number moment) (number (length bytes)) (10 ∷ []) bytes (10 ∷ []) rest

tick_parts : (moment : ℕ) (rest : List ℕ) → tick_text moment ++ rest ≡ codes "tick " ++ (decimal moment ++ 10 ∷ rest)
tick_parts moment rest = simp append_assoc

pub item_again : (item : Item) (rest : List ℕ) → IsSmall item → item_at (item_text item ++ rest) ≡ Some (item, rest)
unfolding item_at
item_again (Request client moment bytes) rest small =
    ap item_at (request_parts client moment bytes rest) ∙ request_again client moment bytes rest small
item_again (Tick moment) rest small = ap item_at (tick_parts moment rest) ∙ tick_again moment rest small

-- what is read at last is what stands in the text
same_text : (text : List ℕ) (item other : Item) (rest later : List ℕ) → text ≡ item_text item ++ rest
    → ◌≡◌ {A = Option (Item × List ℕ)} (Some (item, rest)) (Some (other, later)) → text ≡ item_text other ++ later
same_text text item other rest later is same =
    let parts = some_pair_parts item other rest later same in
    is ∙ ap (λ i. item_text i ++ rest) parts.0 ∙ ap (λ l. item_text other ++ l) parts.1

tick_is : (bytes : List ℕ) (item : Item) (rest : List ℕ) → tick_at bytes ≡ Some (item, rest)
    → codes "tick " ++ bytes ≡ item_text item ++ rest
unfolding tick_at
tick_is bytes item rest e =
    let s = step_is (marked_at (10 ∷ []) bytes) (λ moment. Some (Tick moment.0, moment.1)) (item, rest) e in
    let m = s.0 in
    let text = marked_is (10 ∷ []) bytes m.0 m.1 s.1 in
    let whole : codes "tick " ++ bytes ≡ item_text (Tick m.0) ++ m.1 =
    ap (λ l. codes "tick " ++ l) text.0 ∙ sym (tick_parts m.0 m.1) in
    same_text (codes "tick " ++ bytes) (Tick m.0) item m.1 rest whole s.2

request_is : (bytes : List ℕ) (item : Item) (rest : List ℕ) → request_at bytes ≡ Some (item, rest)
    → codes "request " ++ bytes ≡ item_text item ++ rest
unfolding request_at
request_is bytes item rest e =
    let last = λ (client moment : ℕ) (text : List ℕ × List ℕ). cond (ltb client 4294967296)
    (Some (Request client moment text.0, text.1)) None in
    let a = step_is (marked_at (32 ∷ []) bytes) (λ client. marked_at (32 ∷ []) client.1 >>= λ moment.
    marked_at (10 ∷ []) moment.1 >>= λ count. counted_at count.0 count.1 >>= last client.0 moment.0) (item, rest) e in
    let client = a.0 in
    let b = step_is (marked_at (32 ∷ []) client.1) (λ moment.
    marked_at (10 ∷ []) moment.1 >>= λ count. counted_at count.0 count.1 >>= last client.0 moment.0) (item, rest) a.2 in
    let moment = b.0 in
    let c = step_is (marked_at (10 ∷ []) moment.1) (λ count. counted_at count.0 count.1 >>= last client.0 moment.0)
    (item, rest) b.2 in
    let count = c.0 in
    let d = step_is (counted_at count.0 count.1) (last client.0 moment.0) (item, rest) c.2 in
    let text = d.0 in
    let g = cond_some (ltb client.0 4294967296) (Request client.0 moment.0 text.0, text.1) (item, rest) d.2 in
    let first = marked_is (32 ∷ []) bytes client.0 client.1 a.1 in
    let second = marked_is (32 ∷ []) client.1 moment.0 moment.1 b.1 in
    let third = marked_is (10 ∷ []) moment.1 count.0 count.1 c.1 in
    let fourth = counted_is count.0 count.1 text.0 text.1 d.1 in
    let counted : count.1 ≡ text.0 ++ 10 ∷ text.1 = fourth.0 in
    let numbered : moment.1 ≡ decimal (length text.0) ++ 10 ∷ (text.0 ++ 10 ∷ text.1) =
    third.0 ∙ ap (λ l. decimal count.0 ++ 10 ∷ l) counted ∙ ap (λ n. decimal n ++ 10 ∷ (text.0 ++ 10 ∷ text.1))
    (sym fourth.1) in
    let later : client.1 ≡ decimal moment.0 ++ 32 ∷ (decimal (length text.0) ++ 10 ∷ (text.0 ++ 10 ∷ text.1)) =
    second.0 ∙ ap (λ l. decimal moment.0 ++ 32 ∷ l) numbered in
    let all : bytes ≡ decimal client.0 ++ 32 ∷ (decimal moment.0 ++ 32 ∷
    (decimal (length text.0) ++ 10 ∷ (text.0 ++ 10 ∷ text.1))) =
    first.0 ∙ ap (λ l. decimal client.0 ++ 32 ∷ l) later in
    let whole : codes "request " ++ bytes ≡ item_text (Request client.0 moment.0 text.0) ++ text.1 =
    ap (λ l. codes "request " ++ l) all ∙ sym (request_parts client.0 moment.0 text.0 text.1) in
    same_text (codes "request " ++ bytes) (Request client.0 moment.0 text.0) item text.1 rest whole
    (ap (λ p. Some p) g.1)

by_is : (tick request : Option (List ℕ)) (bytes : List ℕ) (item : Item) (rest : List ℕ)
    → behind (codes "tick ") bytes ≡ tick → behind (codes "request ") bytes ≡ request
    → item_by tick request ≡ Some (item, rest) → bytes ≡ item_text item ++ rest
by_is (Some later) request bytes item rest ticks requests e =
    behind_is (codes "tick ") bytes later ticks ∙ tick_is later item rest e
by_is None (Some later) bytes item rest ticks requests e =
    behind_is (codes "request ") bytes later requests ∙ request_is later item rest e
by_is None None bytes item rest ticks requests e = absurd cc

pub item_is : (bytes : List ℕ) (item : Item) (rest : List ℕ) → item_at bytes ≡ Some (item, rest)
    → bytes ≡ item_text item ++ rest
unfolding item_at
item_is bytes item rest e =
    by_is (behind (codes "tick ") bytes) (behind (codes "request ") bytes) bytes item rest refl refl e
