-- Calls and replies that are read are those that were written.
use Rattle.std.proofs.Common.{◌≡◌, ℕ, true, ◌⊎◌, inl, inr, List, [], ◌∷◌, ◌++◌}
use Rattle.std.proofs.Common.{length, Option, Some, None, refl, sym, ap, subst, ◌∙◌, append_assoc}
use Rattle.std.specs.Prelude.{codes, All}
use Rattle.std.specs.List.{list_all}
use Rattle.std.specs.Fmt.{signed_decimal}
use Rattle.std.proofs.Math.Utf8.{scalars}
use Rattle.std.proofs.lemmas.List.Elements.{All-cons, All-nil}
use Rattle.std.proofs.lemmas.Option.{some_pair_parts}
use Rattle.vb_value.specs.declared.application.AppCall.{AppCall}
use Rattle.vb_value.specs.declared.application.AppCall.TheVariants as call
use Rattle.vb_value.specs.declared.application.AppReply.{AppReply}
use Rattle.vb_value.specs.declared.application.AppReply.TheVariants as reply
use Rattle.asp_job.specs.Calls.{IsAppCall, IsName, IsReply}
use Rattle.asp_record.specs.Fields.{◌>>=◌, behind}
use Rattle.asp_record.specs.Journal.{call_ranged, reply_ranged}
use Rattle.asp_record.specs.Lines.{with_commas}
use Rattle.asp_record.specs.Values.{call_text, reply_text, text_form, value_text}
use Rattle.asp_record.specs.ReadingValues.{long_at, more_at, name_at, value_at}
use Rattle.asp_record.specs.ReadingLines.{call_at, choose, key_at, name_reply_at, named_at, names_at, number_reply_at}
use Rattle.asp_record.specs.ReadingLines.{put_at, reply_at, value_reply_at, word_call_at, word_reply_at}
use Rattle.asp_record.proofs.CallLaws.{IsGoodName, name_right, shared_value}
use Rattle.asp_record.proofs.FieldLaws.{behind_is, step_is}
use Rattle.asp_record.proofs.ListLaws.{AreGood, commas, more_right}
use Rattle.asp_record.proofs.SignedLaws.{long_is}
use Rattle.asp_record.proofs.ValuesRead.{value_right}

-- a choice that led to a value
pub chosen : {A : Type 0} (o : Option (List ℕ)) (f : List ℕ → Option A) (other : Option A) (r : A) →
    choose o f other ≡ Some r
    → ((rest : List ℕ) × (o ≡ Some rest) × (f rest ≡ Some r)) ⊎ (other ≡ Some r)
chosen (Some rest) f other r e = inl (rest, refl, e)
chosen None f other r e = inr e

-- the call was written
pub record CallRight (bytes : List ℕ) (asked : AppCall) (rest : List ℕ) : Type 0 where
  pub text : bytes ≡ call_text asked ++ rest
  pub right : IsAppCall asked
  pub ranged : call_ranged asked ≡ true

call_from : (bytes : List ℕ) (made asked : AppCall) (left rest : List ℕ) → bytes ≡ call_text made ++ left →
    IsAppCall made
    → call_ranged made ≡ true → ◌≡◌ {A = Option (AppCall × List ℕ)} (Some (made, left)) (Some (asked, rest))
    → CallRight bytes asked rest
call_from bytes made asked left rest text right ranged e =
    let same = some_pair_parts made asked left rest e in
    record {
      text = text ∙ ap (λ c. call_text c ++ left) same.0 ∙ ap (λ l. call_text asked ++ l) same.1;
      right = subst IsAppCall same.0 right;
      ranged = ap call_ranged (sym same.0) ∙ ranged;
    }

get_right : (bytes later : List ℕ) (asked : AppCall) (rest : List ℕ) → behind (codes "get ") bytes ≡ Some later
    → named_at call.Get later ≡ Some (asked, rest) → CallRight bytes asked rest
unfolding named_at
get_right bytes later asked rest found e =
    let a = step_is (name_at later) (λ n. Some (call.Get n.0, n.1)) (asked, rest) e in
    let name = name_right later a.0.0 a.0.1 a.1 in
    call_from bytes (call.Get a.0.0) asked a.0.1 rest (behind_is (codes "get ") bytes later found
    ∙ ap (λ l. codes "get " ++ l) name.0)
    name.1.0 name.1.1 a.2

remove_right : (bytes later : List ℕ) (asked : AppCall) (rest : List ℕ) → behind (codes "remove ") bytes ≡ Some later
    → named_at call.Remove later ≡ Some (asked, rest) → CallRight bytes asked rest
unfolding named_at
remove_right bytes later asked rest found e =
    let a = step_is (name_at later) (λ n. Some (call.Remove n.0, n.1)) (asked, rest) e in
    let name = name_right later a.0.0 a.0.1 a.1 in
    call_from bytes (call.Remove a.0.0) asked a.0.1 rest (behind_is (codes "remove ") bytes later found
    ∙ ap (λ l. codes "remove " ++ l) name.0)
    name.1.0 name.1.1 a.2

put_right : (bytes later : List ℕ) (asked : AppCall) (rest : List ℕ) → behind (codes "put ") bytes ≡ Some later
    → put_at later ≡ Some (asked, rest) → CallRight bytes asked rest
unfolding put_at
put_right bytes later asked rest found e =
    let a = step_is (name_at later) (λ n. behind (codes " ") n.1 >>= λ l. value_at 64 l >>= λ v. Some
    (call.Put n.0 v.0, v.1)) (asked, rest) e in
    let n = a.0 in
    let b = step_is (behind (codes " ") n.1) (λ l. value_at 64 l >>= λ v. Some (call.Put n.0 v.0, v.1))
    (asked, rest) a.2 in
    let c = step_is (value_at 64 b.0) (λ v. Some (call.Put n.0 v.0, v.1)) (asked, rest) b.2 in
    let v = c.0 in
    let name = name_right later n.0 n.1 a.1 in
    let value = value_right 64 b.0 v.0 v.1 c.1 in
    call_from bytes (call.Put n.0 v.0) asked v.1 rest
    (behind_is (codes "put ") bytes later found ∙ ap (λ l. codes "put " ++ l) (name.0 ∙ ap (λ l. text_form n.0 ++ l)
    (behind_is (codes " ") n.1 b.0 b.1 ∙ ap (λ l. 32 ∷ l) value.0))
    ∙ sym (append_assoc (codes "put " ++ text_form n.0) (32 ∷ value_text v.0) v.1))
    (name.1.0, shared_value v.0 value.1) (rw (name.1.1, value.1.ranged) refl) c.2

key_right : (bytes later : List ℕ) (asked : AppCall) (rest : List ℕ) → behind (codes "keyat ") bytes ≡ Some later
    → key_at later ≡ Some (asked, rest) → CallRight bytes asked rest
unfolding key_at
key_right bytes later asked rest found e =
    let a = step_is (long_at later) (λ n. Some (call.KeyAt n.0, n.1)) (asked, rest) e in
    let n = long_is later a.0.0 a.0.1 a.1 in
    call_from bytes (call.KeyAt a.0.0) asked a.0.1 rest (behind_is (codes "keyat ") bytes later found
    ∙ ap (λ l. codes "keyat " ++ l) n.0) tt n.1 a.2

word_right : (bytes : List ℕ) (asked : AppCall) (rest : List ℕ) → word_call_at bytes ≡ Some (asked, rest) →
    CallRight bytes asked rest
unfolding word_call_at
word_right bytes asked rest e = elim (chosen (behind (codes "removeall") bytes) _ _ (asked, rest) e) [
  | inl a ↦ call_from bytes call.RemoveAll asked a.0 rest (behind_is (codes "removeall") bytes a.0 a.1) tt refl a.2
  | inr a ↦ elim (chosen (behind (codes "count") bytes) _ _ (asked, rest) a) [
    | inl b ↦ call_from bytes call.Count asked b.0 rest (behind_is (codes "count") bytes b.0 b.1) tt refl b.2
    | inr b ↦ elim (chosen (behind (codes "names") bytes) _ _ (asked, rest) b) [
      | inl c ↦ call_from bytes call.Names asked c.0 rest (behind_is (codes "names") bytes c.0 c.1) tt refl c.2
      | inr c ↦ elim (chosen (behind (codes "lock") bytes) _ _ (asked, rest) c) [
        | inl d ↦ call_from bytes call.Lock asked d.0 rest (behind_is (codes "lock") bytes d.0 d.1) tt refl d.2
        | inr d ↦ elim (chosen (behind (codes "unlock") bytes) _ _ (asked, rest) d) [
          | inl f ↦ call_from bytes call.Unlock asked f.0 rest (behind_is (codes "unlock") bytes f.0 f.1) tt refl f.2
          | inr f ↦ absurd cc
        ]
      ]
    ]
  ]
]

pub call_right : (bytes : List ℕ) (asked : AppCall) (rest : List ℕ) → call_at bytes ≡ Some (asked, rest) →
    CallRight bytes asked rest
unfolding call_at
call_right bytes asked rest e = elim (chosen (behind (codes "get ") bytes) _ _ (asked, rest) e) [
  | inl a ↦ get_right bytes a.0 asked rest a.1 a.2
  | inr a ↦ elim (chosen (behind (codes "put ") bytes) _ _ (asked, rest) a) [
    | inl b ↦ put_right bytes b.0 asked rest b.1 b.2
    | inr b ↦ elim (chosen (behind (codes "remove ") bytes) _ _ (asked, rest) b) [
      | inl c ↦ remove_right bytes c.0 asked rest c.1 c.2
      | inr c ↦ elim (chosen (behind (codes "keyat ") bytes) _ _ (asked, rest) c) [
        | inl d ↦ key_right bytes d.0 asked rest d.1 d.2
        | inr d ↦ word_right bytes asked rest d
      ]
    ]
  ]
]

-- the reply was written, and the end of its line
pub record ReplyRight (bytes : List ℕ) (given : AppReply) (rest : List ℕ) : Type 0 where
  pub text : bytes ≡ reply_text given ++ 10 ∷ rest
  pub right : IsReply given
  pub ranged : reply_ranged given ≡ true

reply_from : (bytes : List ℕ) (made given : AppReply) (left rest : List ℕ) → bytes ≡ reply_text made ++ 10 ∷ left →
    IsReply made
    → reply_ranged made ≡ true → ◌≡◌ {A = Option (AppReply × List ℕ)} (Some (made, left)) (Some (given, rest))
    → ReplyRight bytes given rest
reply_from bytes made given left rest text right ranged e =
    let same = some_pair_parts made given left rest e in
    record {
      text = text ∙ ap (λ c. reply_text c ++ 10 ∷ left) same.0 ∙ ap (λ l. reply_text given ++ 10 ∷ l) same.1;
      right = subst IsReply same.0 right;
      ranged = ap reply_ranged (sym same.0) ∙ ranged;
    }

number_right : (bytes later : List ℕ) (given : AppReply) (rest : List ℕ) → behind (codes "number ") bytes ≡ Some later
    → number_reply_at later ≡ Some (given, rest) → ReplyRight bytes given rest
unfolding number_reply_at
number_right bytes later given rest found e =
    let a = step_is (long_at later) (λ n. behind (codes "\n") n.1 >>= λ l. Some (reply.Number n.0, l))
    (given, rest) e in
    let b = step_is (behind (codes "\n") a.0.1) (λ l. Some (reply.Number a.0.0, l)) (given, rest) a.2 in
    let n = long_is later a.0.0 a.0.1 a.1 in
    reply_from bytes (reply.Number a.0.0) given b.0 rest (behind_is (codes "number ") bytes later found
    ∙ ap (λ l. codes "number " ++ l) (n.0 ∙ ap (λ l. signed_decimal a.0.0 ++ l) (behind_is (codes "\n") a.0.1 b.0 b.1)))
    tt n.1 b.2

name_reply_right : (bytes later : List ℕ) (given : AppReply) (rest : List ℕ) → behind (codes "name ") bytes ≡ Some later
    → name_reply_at later ≡ Some (given, rest) → ReplyRight bytes given rest
unfolding name_reply_at
name_reply_right bytes later given rest found e =
    let a = step_is (name_at later) (λ n. behind (codes "\n") n.1 >>= λ l. Some (reply.Name n.0, l)) (given, rest) e in
    let b = step_is (behind (codes "\n") a.0.1) (λ l. Some (reply.Name a.0.0, l)) (given, rest) a.2 in
    let n = name_right later a.0.0 a.0.1 a.1 in
    reply_from bytes (reply.Name a.0.0) given b.0 rest (behind_is (codes "name ") bytes later found
    ∙ ap (λ l. codes "name " ++ l) (n.0 ∙ ap (λ l. text_form a.0.0 ++ l) (behind_is (codes "\n") a.0.1 b.0 b.1))) n.1.0
    n.1.1 b.2

value_reply_right : (bytes : List ℕ) (given : AppReply) (rest : List ℕ) → value_reply_at bytes ≡ Some (given, rest) →
    ReplyRight bytes given rest
unfolding value_reply_at
value_reply_right bytes given rest e =
    let a = step_is (value_at 64 bytes) (λ v. behind (codes "\n") v.1 >>= λ l. Some (reply.Value v.0, l))
    (given, rest) e in
    let b = step_is (behind (codes "\n") a.0.1) (λ l. Some (reply.Value a.0.0, l)) (given, rest) a.2 in
    let v = value_right 64 bytes a.0.0 a.0.1 a.1 in
    reply_from bytes (reply.Value a.0.0) given b.0 rest (v.0
    ∙ ap (λ l. value_text a.0.0 ++ l) (behind_is (codes "\n") a.0.1 b.0 b.1))
    (shared_value a.0.0 v.1) v.1.ranged b.2

all_names : (names : List (List ℕ)) → AreGood IsGoodName names → All IsName names × (list_all scalars names ≡ true)
all_names [] all = (All-nil IsName, refl)
all_names (name ∷ names) all =
    let more = all_names names all.1 in
    (All-cons IsName name names all.0.0 more.0, rw (all.0.1, more.1) refl)

names_right : (bytes later : List ℕ) (given : AppReply) (rest : List ℕ) → behind (codes "names") bytes ≡ Some later
    → names_at later ≡ Some (given, rest) → ReplyRight bytes given rest
unfolding names_at with_commas
names_right bytes later given rest found e = elim (chosen (behind (codes "\n") later) _ _ (given, rest) e) [
  | inl a ↦ reply_from bytes (reply.Names []) given a.0 rest
      (behind_is (codes "names") bytes later found ∙ ap (λ l. codes "names" ++ l)
      (behind_is (codes "\n") later a.0 a.1)) (All-nil IsName) refl a.2
  | inr a ↦
      let b = step_is (behind (codes " ") later) (λ l. more_at name_at (codes "\n") (length l) l >>= λ m. Some
      (reply.Names m.0, m.1)) (given, rest) a in
      let c = step_is (more_at name_at (codes "\n") (length b.0) b.0) (λ m. Some (reply.Names m.0, m.1))
      (given, rest) b.2 in
      let m = more_right name_at text_form IsGoodName (codes "\n") (length b.0) b.0 c.0
      (λ bs n r f. name_right bs n r f) c.1 in
      let all = all_names (m.first ∷ m.others) (m.right, m.all) in
      let split = sym (append_assoc (codes "names " ++ text_form m.first) (commas name_at text_form IsGoodName m.others)
      (10 ∷ c.0.1)) in
      reply_from bytes (reply.Names (m.first ∷ m.others)) given c.0.1 rest
      (behind_is (codes "names") bytes later found ∙ ap (λ l. codes "names" ++ l)
      (behind_is (codes " ") later b.0 b.1 ∙ ap (λ l. 32 ∷ l) m.text_is) ∙ split)
      all.0 all.1 (ap (λ l. Some (reply.Names l, c.0.1)) (sym m.items_are) ∙ c.2)
]

word_reply_right : (bytes : List ℕ) (given : AppReply) (rest : List ℕ) → word_reply_at bytes ≡ Some (given, rest) →
    ReplyRight bytes given rest
unfolding word_reply_at
word_reply_right bytes given rest e = elim (chosen (behind (codes "noname\n") bytes) _ _ (given, rest) e) [
  | inl a ↦ reply_from bytes reply.NoName given a.0 rest (behind_is (codes "noname\n") bytes a.0 a.1) tt refl a.2
  | inr a ↦ elim (chosen (behind (codes "done\n") bytes) _ _ (given, rest) a) [
    | inl b ↦ reply_from bytes reply.Done given b.0 rest (behind_is (codes "done\n") bytes b.0 b.1) tt refl b.2
    | inr b ↦ elim (chosen (behind (codes "full\n") bytes) _ _ (given, rest) b) [
      | inl c ↦ reply_from bytes reply.Full given c.0 rest (behind_is (codes "full\n") bytes c.0 c.1) tt refl c.2
      | inr c ↦ value_reply_right bytes given rest c
    ]
  ]
]

pub reply_right : (bytes : List ℕ) (given : AppReply) (rest : List ℕ) → reply_at bytes ≡ Some (given, rest) →
    ReplyRight bytes given rest
unfolding reply_at
reply_right bytes given rest e = elim (chosen (behind (codes "number ") bytes) _ _ (given, rest) e) [
  | inl a ↦ number_right bytes a.0 given rest a.1 a.2
  | inr a ↦ elim (chosen (behind (codes "name ") bytes) _ _ (given, rest) a) [
    | inl b ↦ name_reply_right bytes b.0 given rest b.1 b.2
    | inr b ↦ elim (chosen (behind (codes "names") bytes) _ _ (given, rest) b) [
      | inl c ↦ names_right bytes c.0 given rest c.1 c.2
      | inr c ↦ word_reply_right bytes given rest c
    ]
  ]
]
