-- Which item comes next.
use Rattle.std.proofs.Common.{◌≡◌, ℕ, ◌^◌, ◌<◌, ◌≤◌, Bool, true, false, List, [], ◌∷◌, ◌++◌, length, Some, None, Result}
use Rattle.std.proofs.Common.{Ok, Err}
use Rattle.std.proofs.Common.{refl, sym, ap, subst, ◌∙◌, append_assoc, append-nil, arith}
use Rattle.std.specs.Prelude.{IfOk}
use Rattle.std.specs.Bool.{Decides}
use Rattle.std.specs.List.{flat_map}
use Rattle.std.proofs.lemmas.List.{length-append}
use Rattle.std.proofs.lemmas.Grind.{flat_map-append}
use Rattle.std.proofs.lemmas.Option.{some_pair_parts}
use Rattle.vb_value.specs.declared.memory.Memory.{Memory}
use Rattle.asp_record.specs.declared.recording.Item.{Item}
use Rattle.asp_record.specs.declared.recording.Item.TheVariants.{Request, Tick}
use Rattle.asp_record.specs.Recording.{item_text}
use Rattle.asp_record.specs.Reading.{item_at}
use Rattle.asp_record.specs.Recorded.{AreItems, HasNoItem, IsNext, IsOneRequest, last_of, moment_of, most_bytes}
use Rattle.asp_record.proofs.ItemLaws.{IsSmall, item_again, item_is}

pub request_next : (now client moment : ℕ) (bytes : List ℕ) (told : Bool) → now ≤ moment → moment ≤ 253402300799
    → client < 2 ^ 32
    → length bytes ≤ most_bytes → Decides told (IsOneRequest bytes)
    → Decides told (IsNext now (Request client moment bytes))
request_next now client moment bytes told rises ends low short tells =
    (λ e. record { rises = rises; ends = ends; held = (low, short, tells.0 e) }, λ next. tells.1 next.held.2)

pub request_told : (result : Result Bool Memory) (now client moment : ℕ) (bytes : List ℕ) → now ≤ moment
    → moment ≤ 253402300799
    → client < 2 ^ 32 → length bytes ≤ most_bytes → IfOk result (λ told. Decides told (IsOneRequest bytes))
    → IfOk result (λ told. Decides told (IsNext now (Request client moment bytes)))
request_told (Ok told) now client moment bytes rises ends low short tells =
    request_next now client moment bytes told rises ends low short tells
request_told (Err stop) now client moment bytes rises ends low short tells = tt

pub small : (now : ℕ) (item : Item) → IsNext now item → IsSmall item
small now (Request client moment bytes) next =
    let ends : moment ≤ 253402300799 = next.ends in
    let low : client < 2 ^ 32 = next.held.0 in
    let short : length bytes ≤ most_bytes = next.held.1 in
    (omega (arith, low), omega (arith, ends), omega (arith, short))
small now (Tick moment) next = let ends : moment ≤ 253402300799 = next.ends in omega (arith, ends)

pub is_found : (bytes : List ℕ) (now : ℕ) (item : Item) (rest : List ℕ) → item_at bytes ≡ Some (item, rest)
    → IsNext now item
    → IsNext now item × (bytes ≡ item_text item ++ rest)
is_found bytes now item rest e next = (next, item_is bytes item rest e)

pub has_none : (bytes : List ℕ) (now : ℕ) → item_at bytes ≡ None → HasNoItem now bytes
has_none bytes now e = λ item rest next text.
    let again : item_at bytes ≡ Some (item, rest) = ap item_at text ∙ item_again item rest (small now item next) in
    absurd (let no : None ≡ Some (item, rest) = sym e ∙ again in cc)

pub is_not_next : (bytes : List ℕ) (now : ℕ) (found : Item) (left : List ℕ) → item_at bytes ≡ Some (found, left)
    → Decides false (IsNext now found) → HasNoItem now bytes
is_not_next bytes now found left e tells = λ item rest next text.
    let again : item_at bytes ≡ Some (item, rest) = ap item_at text ∙ item_again item rest (small now item next) in
    let same = some_pair_parts found item left rest (sym e ∙ again) in
    absurd (let no : false ≡ true = tells.1 (subst (IsNext now) (sym same.0) next) in cc)

-- one item more
pub items_more : (now : ℕ) (items : List Item) (item : Item) → AreItems now items → IsNext (last_of now items) item
    → AreItems now (items ++ item ∷ [])
items_more now [] item right next = (next, tt)
items_more now (first ∷ items) item right next = (right.0, items_more (moment_of first) items item right.1 next)

pub last_more : (now : ℕ) (items : List Item) (item : Item) → last_of now (items ++ item ∷ []) ≡ moment_of item
last_more now [] item = refl
last_more now (first ∷ items) item = last_more (moment_of first) items item

pub text_more : (items : List Item) (item : Item) (bytes before after : List ℕ)
    → bytes ≡ flat_map item_text items ++ before
    → before ≡ item_text item ++ after → bytes ≡ flat_map item_text (items ++ item ∷ []) ++ after
text_more items item bytes before after text found =
    let all : flat_map item_text (items ++ item ∷ []) ≡ flat_map item_text items ++ item_text item =
    flat_map-append item_text items (item ∷ []) ∙ ap (λ l. flat_map item_text items ++ l)
    (append-nil (item_text item)) in
    text ∙ ap (λ l. flat_map item_text items ++ l) found ∙ sym
    (append_assoc (flat_map item_text items) (item_text item) after)
    ∙ ap (λ l. l ++ after) (sym all)

some_text : (item : Item) → 0 < length (item_text item)
some_text (Request client moment bytes) = omega arith
some_text (Tick moment) = omega arith

-- what is left gets shorter
pub shorter : (item : Item) (before after : List ℕ) → before ≡ item_text item ++ after → length after < length before
shorter item before after found =
    let one = some_text item in
    let sum = length-append (item_text item) after in
    let size = ap length found in
    omega (arith, one, sum, size)

-- the items that are read, and what is left, with one item more
pub record ReadOn (bytes : List ℕ) (items : List Item) (moment : ℕ) (rest : List ℕ) : Type 0 where
  pub right : AreItems 0 items
  pub text : bytes ≡ flat_map item_text items ++ rest
  pub time : moment ≡ last_of 0 items

pub read_on : (bytes rest after : List ℕ) (items longer : List Item) (now moment : ℕ) (item copy : Item)
    → AreItems 0 items
    → bytes ≡ flat_map item_text items ++ rest → now ≡ last_of 0 items
    → IsNext now item × (rest ≡ item_text item ++ after)
    → copy ≡ item → longer ≡ items ++ copy ∷ [] → moment ≡ moment_of item → ReadOn bytes longer moment after
read_on bytes rest after items longer now moment item copy right text time found same pushed comes =
    let all : longer ≡ items ++ item ∷ [] = pushed ∙ ap (λ i. items ++ i ∷ []) same in
    let next = subst (λ n. IsNext n item) time found.0 in
    record {
      right = subst (AreItems 0) (sym all) (items_more 0 items item right next);
      text = text_more items item bytes rest after text found.1 ∙ ap (λ l. flat_map item_text l ++ after) (sym all);
      time = comes ∙ sym (last_more 0 items item) ∙ ap (last_of 0) (sym all);
    }
