-- Calls and replies that are read are those that were written, and what was written is read again.
use Rattle.std.proofs.Common.{◌≡◌, ℕ, ◌<◌, true, cond}
use Rattle.std.proofs.Common.{List, [], ◌∷◌, ◌++◌}
use Rattle.std.proofs.Common.{length, Some, None, refl, ap, subst, ◌∙◌, append_assoc, arith}
use Rattle.std.specs.Prelude.{codes, All}
use Rattle.std.specs.List.{list_all}
use Rattle.std.specs.Str.{bytes_eq}
use Rattle.std.proofs.Math.Utf8.{scalars}
use Rattle.std.proofs.lemmas.List.{length-append}
use Rattle.std.proofs.lemmas.List.Elements.{All-head, All-tail}
use Rattle.std.proofs.lemmas.Option.{cond_some, some_pair_parts}
use Rattle.std.proofs.lemmas.Slice.Eq.{bytes_eq-Decides}
use Rattle.vb_value.specs.declared.application.AppCall.{AppCall}
use Rattle.vb_value.specs.declared.application.AppCall.TheVariants as call
use Rattle.vb_value.specs.declared.application.AppReply.{AppReply}
use Rattle.vb_value.specs.declared.application.AppReply.TheVariants as reply
use Rattle.vb_value.specs.declared.value.Value.{Value}
use Rattle.vb_value.specs.Folding.{folded}
use Rattle.asp_job.specs.Calls.{IsAppCall, IsName, IsReply, IsShared}
use Rattle.asp_record.specs.Fields.{◌>>=◌, behind}
use Rattle.asp_record.specs.Journal.{call_ranged, is_ranged, reply_ranged}
use Rattle.asp_record.specs.Lines.{with_commas}
use Rattle.asp_record.specs.Values.{call_text, reply_text, text_form, value_text}
use Rattle.asp_record.specs.ReadingValues.{name_at, text_at}
use Rattle.asp_record.specs.ReadingLines.{call_at, key_at, name_reply_at, named_at, names_at, number_reply_at}
use Rattle.asp_record.specs.ReadingLines.{put_at, reply_at, value_reply_at, word_call_at, word_reply_at}
use Rattle.asp_record.proofs.FieldLaws.{behind_is, step_is}
use Rattle.asp_record.proofs.ListLaws.{AreGood, commas, commas_size, more_again}
use Rattle.asp_record.proofs.SignedLaws.{IsCut, long_again}
use Rattle.asp_record.proofs.TextLaws.{text_again, text_is}
use Rattle.asp_record.proofs.ValueLaws.{IsGood, both, reply_falls, value_again}

-- a name that may be read
abbrev pub IsGoodName : List ℕ → Type 0
IsGoodName name = IsName name × (scalars name ≡ true)

pub name_again : (name rest : List ℕ) → IsGoodName name → IsCut rest →
    name_at (text_form name ++ rest) ≡ Some (name, rest)
unfolding name_at
name_again name rest good cut =
    let same : bytes_eq (folded name) name ≡ true = (bytes_eq-Decides (folded name) name).1 good.0 in
    rw (text_again name rest good.1 cut, same) refl

pub name_right : (bytes name rest : List ℕ) → name_at bytes ≡ Some (name, rest) →
    (bytes ≡ text_form name ++ rest) × IsGoodName name
unfolding name_at
name_right bytes name rest e =
    let a = step_is (behind (codes "s") bytes) (λ later. text_at later >>= λ n. cond (bytes_eq (folded n.0) n.0)
    (Some n) None) (name, rest) e in
    let b = step_is (text_at a.0) (λ n. cond (bytes_eq (folded n.0) n.0) (Some n) None) (name, rest) a.2 in
    let n = b.0 in
    let g = cond_some (bytes_eq (folded n.0) n.0) n (name, rest) b.2 in
    let same = some_pair_parts n.0 name n.1 rest (ap (λ p. Some p) g.1) in
    let text = text_is a.0 n.0 n.1 b.1 in
    let good : IsGoodName n.0 = ((bytes_eq-Decides (folded n.0) n.0).0 g.0, text.1) in (
      behind_is (codes "s") bytes a.0 a.1 ∙ ap (λ l. 115 ∷ l) text.0 ∙ ap (λ m. text_form m ++ n.1) same.0
          ∙ ap (λ l. text_form name ++ l) same.1,
      subst IsGoodName same.0 good,
    )

good_value : (value : Value) → IsShared value → is_ranged value ≡ true → IsGood 64 value
good_value value shared ranged = record {
  sound = shared.1;
  free = shared.0.free;
  flat = shared.0.flat;
  ranged =
      ranged;
}

pub shared_value : (value : Value) → IsGood 64 value → IsShared value
shared_value value good = (record { free = good.free; flat = good.flat }, good.sound)

pub call_again : (asked : AppCall) (rest : List ℕ) → IsAppCall asked → call_ranged asked ≡ true
    → call_at (call_text asked ++ 32 ∷ rest) ≡ Some (asked, 32 ∷ rest)
unfolding call_at named_at put_at key_at word_call_at
call_again (call.Get name) rest right ranged = rw (name_again name (32 ∷ rest) (right, ranged) refl) refl
call_again (call.Put name value) rest right ranged =
    let r = both _ _ ranged in
    let parts : call_text (call.Put name value) ++ 32 ∷ rest
    ≡ codes "put " ++ (text_form name ++ 32 ∷ (value_text value ++ 32 ∷ rest)) =
    append_assoc (codes "put " ++ text_form name) (32 ∷ value_text value) (32 ∷ rest) in
    let first = name_again name (32 ∷ (value_text value ++ 32 ∷ rest)) (right.0, r.0) refl in
    let second = value_again 64 value (32 ∷ rest) (good_value value right.1 r.1) refl in
    ap call_at parts ∙ rw (first, second) refl
call_again (call.Remove name) rest right ranged = rw (name_again name (32 ∷ rest) (right, ranged) refl) refl
call_again call.RemoveAll rest right ranged = refl
call_again call.Count rest right ranged = refl
call_again (call.KeyAt place) rest right ranged = rw (long_again place (32 ∷ rest) ranged refl) refl
call_again call.Names rest right ranged = refl
call_again call.Lock rest right ranged = refl
call_again call.Unlock rest right ranged = refl

good_names : (names : List (List ℕ)) → All IsName names → list_all scalars names ≡ true → AreGood IsGoodName names
good_names [] right ranged = tt
good_names (name ∷ names) right ranged =
    let r = both (scalars name) (list_all scalars names) ranged in
    ((All-head IsName name names right, r.0), good_names names (All-tail IsName name names right) r.1)

pub reply_again : (given : AppReply) (rest : List ℕ) → IsReply given → reply_ranged given ≡ true
    → reply_at (reply_text given ++ 10 ∷ rest) ≡ Some (given, rest)
unfolding reply_at number_reply_at name_reply_at names_at word_reply_at value_reply_at with_commas
reply_again (reply.Value value) rest right ranged =
    let good = good_value value right ranged in
    reply_falls 64 value rest good ∙ rw (value_again 64 value (10 ∷ rest) good refl) refl
reply_again (reply.Number n) rest right ranged = rw (long_again n (10 ∷ rest) ranged refl) refl
reply_again (reply.Name name) rest right ranged = rw (name_again name (10 ∷ rest) (right, ranged) refl) refl
reply_again reply.NoName rest right ranged = refl
reply_again (reply.Names []) rest right ranged = refl
reply_again (reply.Names (name ∷ names)) rest right ranged =
    let good = good_names (name ∷ names) right ranged in
    let later = commas name_at text_form IsGoodName names ++ (codes "\n" ++ rest) in
    let parts : reply_text (reply.Names (name ∷ names)) ++ 10 ∷ rest ≡ codes "names " ++ (text_form name ++ later) =
    append_assoc (codes "names " ++ text_form name) (commas name_at text_form IsGoodName names) (10 ∷ rest) in
    let size = commas_size name_at text_form IsGoodName names in
    let a = length-append (text_form name) later in
    let b = length-append (commas name_at text_form IsGoodName names) (codes "\n" ++ rest) in
    let fits : length names < length (text_form name ++ later) = omega (arith, size, a, b) in
    let more = more_again name_at text_form IsGoodName (codes "\n") rest (length (text_form name ++ later)) name names
    (λ n l g cut. name_again n l g cut) (record { cuts = λ l. refl; apart = λ l. refl }) good.0 good.1 fits in
    ap reply_at parts ∙ rw more refl
reply_again reply.Done rest right ranged = refl
reply_again reply.Full rest right ranged = refl
