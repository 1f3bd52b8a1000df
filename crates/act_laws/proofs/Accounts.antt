-- Accounts of objects: what is made of one when an object is made, when its terminator begins, and when it ends.
use Rattle.std.proofs.Common.{ℕ, ◌+◌, ◌≡◌, ◌≢◌, ◌<◌, ◌≤◌, Bool, true, false, cond, List, [], ◌∷◌, ◌++◌}
use Rattle.std.proofs.Common.{Some, None, refl, sym, ap, ◌∙◌, inl, inr, arith, length-append}
use Rattle.vb_heap.specs.Below.{EachBelow}
use Rattle.vb_heap.specs.Limits.{most_objects}
use Rattle.vb_heap.specs.Store.{is_number, numbered, replaced, without}
use Rattle.vb_heap.proofs.Numbered.{below_more, below_less, below_other}
use Rattle.act_laws.specs.Objects.{Account, AddsUp, Differ, HasBegun, IsEnding, IsLive, Onward, Settled}
use Rattle.std.proofs.lemmas.Bool.{cases_lt}
use Rattle.std.proofs.lemmas.Map.{length-set_value}
use Rattle.act_laws.proofs.Numbers.{itself, compared, none_replaced, none_without, none_above, other_replaced}
use Rattle.act_laws.proofs.Numbers.{other_without, with_one_more, there_replaced, length_without, differ}

-- ---- from one account to another

-- the account is the same, and adds up
pub onward_still : (account : Account) → AddsUp account → Onward account account
onward_still account right = record {
  adds_up = right;
  made = omega arith;
  finished = omega arith;
  begun = λ number has. has;
  ended = λ number has. has;
}

pub onward_then : {a b c : Account} → Onward a b → Onward b c → Onward a c
onward_then {a} {b} {c} first second = record {
  adds_up = second.adds_up;
  made = omega (arith, first.made, second.made);
  finished = omega (arith, first.finished, second.finished);
  begun = λ number has. second.begun number (first.begun number has);
  ended = λ number has. second.ended number (first.ended number has);
}

pub settled_still : (account : Account) → AddsUp account → Settled account account
settled_still account right = record {
  onward = onward_still account right;
  stays = λ number is. is;
  stood = λ number is. is;
}

pub settled_then : {a b c : Account} → Settled a b → Settled b c → Settled a c
settled_then {a} {b} {c} first second = record {
  onward = onward_then first.onward second.onward;
  stays = λ number is. second.stays number (first.stays number is);
  stood = λ number is. first.stood number (second.stood number is);
}

-- ---- numbers that differ

differ_replaced : (objects : List (ℕ × Bool)) (at : ℕ) (mark : Bool) → Differ objects
    → Differ (replaced at mark objects)
differ_replaced [] at mark apart = tt
differ_replaced (first ∷ others) at mark apart = elim (is_number at first.0)
    as (λ b. Differ (cond b ((first.0, mark) ∷ others) (first ∷ replaced at mark others))) [
      | true ↦ apart
      | false ↦ (none_replaced others at first.0 mark apart.0, differ_replaced others at mark apart.1)
    ]

differ_without : (objects : List (ℕ × Bool)) (gone : ℕ) → Differ objects → Differ (without gone objects)
differ_without [] gone apart = tt
differ_without (first ∷ others) gone apart = elim (is_number gone first.0)
    as (λ b. Differ (cond b others (first ∷ without gone others))) [
      | true ↦ apart.1
      | false ↦ (none_without others gone first.0 apart.0, differ_without others gone apart.1)
    ]

differ_more : (objects : List (ℕ × Bool)) (made : ℕ) (mark : Bool) → EachBelow made objects → Differ objects
    → Differ (objects ++ (made, mark) ∷ [])
differ_more [] made mark below apart = (refl, tt)
differ_more (first ∷ others) made mark below apart =
    let away : is_number first.0 made ≡ false = differ first.0 made (λ same. absurd (omega (arith, same, below.0))) in (
      with_one_more others made first.0 mark away ∙ apart.0,
      differ_more others made mark below.1 apart.1,
    )

-- an object that is gone
gone_without : (objects : List (ℕ × Bool)) (gone : ℕ) → Differ objects → numbered gone (without gone objects) ≡ None
gone_without [] gone apart = refl
gone_without (first ∷ others) gone apart = elim (compared gone first.0) [
  | inl same ↦ let here : is_number gone first.0 ≡ true = ap (is_number gone) (sym same) ∙ itself gone in
      rw here (ap (λ n. numbered n others) same ∙ apart.0)
  | inr away ↦ rw (away.1) (rw (away.1) (gone_without others gone apart.1))
]

-- ---- an object is made

abbrev pub with_live : Account → Account
with_live account = record account {
  objects = account.objects ++ (account.made, false) ∷ [];
  made = account.made + 1;
}

kept_number : (account : Account) (number : ℕ) → AddsUp account → number < account.made
    → numbered number (with_live account).objects ≡ numbered number account.objects
kept_number account number right before = with_one_more account.objects account.made number false
    (differ number account.made (λ same. absurd (omega (arith, same, before))))

newest : (objects : List (ℕ × Bool)) (made : ℕ) → EachBelow made objects
    → numbered made (objects ++ (made, false) ∷ []) ≡ Some false
newest [] made below = rw (itself made) refl
newest (first ∷ others) made below =
    let away : is_number made first.0 ≡ false = differ made first.0 (λ same. absurd (omega (arith, same, below.0))) in
    rw away (newest others made below.1)

no_ending_newest : (account : Account) (number : ℕ) → AddsUp account → IsEnding number (with_live account)
    → IsEnding number account
no_ending_newest account number right is = elim (compared number account.made) [
  | inl same ↦ let live : Some false ≡ Some true = sym (newest account.objects account.made right.below)
      ∙ ap (λ n. numbered n (with_live account).objects) (sym same) ∙ is in absurd (cc)
  | inr away ↦ sym (with_one_more account.objects account.made number false away.1) ∙ is
]

pub there_below : (objects : List (ℕ × Bool)) (made number : ℕ) (mark : Bool) → EachBelow made objects
    → numbered number objects ≡ Some mark → number < made
there_below objects made number mark below is = elim (cases_lt number made) [
  | inl before ↦ before
  | inr above ↦ let none = none_above objects made number below above in absurd (cc)
]

pub made_live : (account : Account) → AddsUp account → account.made + 1 ≤ most_objects
    → Settled account (with_live account)
made_live account right most = record {
  onward = record {
    adds_up = record {
      differ = differ_more account.objects account.made false right.below right.differ;
      below = (below_more account.objects account.made false (record { each = right.below })).each;
      count = let length_is = length-append account.objects ((account.made, false) ∷ []) in
          omega (arith, length_is, right.count);
      most = most;
    };
    made = omega arith;
    finished = omega arith;
    begun = λ number has. (omega (arith, has.0), λ live. has.1 (sym (kept_number account number right has.0) ∙ live));
    ended = λ number has. (omega (arith, has.0), kept_number account number right has.0 ∙ has.1);
  };
  stays = λ number is. kept_number account number right
      (there_below account.objects account.made number true right.below is) ∙ is;
  stood = λ number is. no_ending_newest account number right is;
}

-- ---- its terminator begins

abbrev pub with_mark : ℕ → Account → Account
with_mark number account = record account { objects = replaced number true account.objects }

pub marked : (account : Account) (at : ℕ) → AddsUp account → IsLive at account → IsEnding at (with_mark at account)
marked account at right live = there_replaced account.objects at false true live

-- any other object is as it was
pub unmarked : (account : Account) (at number : ℕ) → number ≢ at
    → numbered number (with_mark at account).objects ≡ numbered number account.objects
unmarked account at number apart = other_replaced account.objects at number true (differ number at apart)

begun_marked : (account : Account) (at number : ℕ) → AddsUp account → IsLive at account → HasBegun number account
    → HasBegun number (with_mark at account)
begun_marked account at number right live has = (
  has.0,
  λ again. elim (compared number at) [
    | inl same ↦ absurd (has.1 (ap (λ n. numbered n account.objects) same ∙ live))
    | inr away ↦ has.1 (sym (unmarked account at number away.0) ∙ again)
  ],
)

pub mark_onward : (account : Account) (at : ℕ) → AddsUp account → IsLive at account
    → Onward account (with_mark at account)
mark_onward account at right live = record {
  adds_up = record {
    differ = differ_replaced account.objects at true right.differ;
    below = (below_other account.objects at account.made true (record { each = right.below })).each;
    count = let same = length-set_value (is_number at) account.objects true in omega (arith, same, right.count);
    most = right.most;
  };
  made = omega arith;
  finished = omega arith;
  begun = λ number has. begun_marked account at number right live has;
  ended = λ number has. (has.0, none_replaced account.objects at number true has.1);
}

-- ---- it has ended

abbrev pub with_end : ℕ → Account → Account
with_end number account = record account {
  objects = without number account.objects;
  finished = account.finished + 1;
}

pub not_there : (account : Account) (gone : ℕ) → AddsUp account
    → numbered gone (with_end gone account).objects ≡ None
not_there account gone right = gone_without account.objects gone right.differ

-- any other object is as it was
not_gone : (account : Account) (gone number : ℕ) → number ≢ gone
    → numbered number (with_end gone account).objects ≡ numbered number account.objects
not_gone account gone number apart = other_without account.objects gone number (differ number gone apart)

begun_ended : (account : Account) (gone number : ℕ) → AddsUp account → HasBegun number account
    → HasBegun number (with_end gone account)
begun_ended account gone number right has = (
  has.0,
  λ again. elim (compared number gone) [
    | inl same ↦ let live : None ≡ Some false = sym (not_there account gone right)
        ∙ ap (λ n. numbered n (with_end gone account).objects) (sym same) ∙ again in absurd (cc)
    | inr away ↦ has.1 (sym (not_gone account gone number away.0) ∙ again)
  ],
)

pub end_onward : (account : Account) (gone : ℕ) → AddsUp account → IsEnding gone account
    → Onward account (with_end gone account)
end_onward account gone right is = record {
  adds_up = record {
    differ = differ_without account.objects gone right.differ;
    below = (below_less account.objects gone account.made (record { each = right.below })).each;
    count = let less = length_without account.objects gone true is in omega (arith, less, right.count);
    most = right.most;
  };
  made = omega arith;
  finished = omega arith;
  begun = λ number has. begun_ended account gone number right has;
  ended = λ number has. (has.0, none_without account.objects gone number has.1);
}

-- ---- from where its terminator begins to its end

apart_live : (account : Account) (at number : ℕ) → IsLive at account → IsEnding number account → number ≢ at
apart_live account at number live is same =
    let both : Some false ≡ Some true = sym live ∙ ap (λ n. numbered n account.objects) (sym same) ∙ is in absurd (cc)

apart_gone : (account : Account) (gone number : ℕ) → AddsUp account → IsEnding number (with_end gone account)
    → number ≢ gone
apart_gone account gone number right is same =
    let both : None ≡ Some true = sym (not_there account gone right)
    ∙ ap (λ n. numbered n (with_end gone account).objects) (sym same) ∙ is in absurd (cc)

-- a live object's terminator begins, runs, and the object has ended
pub settled_one : (before after : Account) (at : ℕ) → AddsUp before → IsLive at before
    → Settled (with_mark at before) after → Settled before (with_end at after)
settled_one before after at right live run = record {
  onward = onward_then (mark_onward before at right live) (onward_then run.onward
      (end_onward after at run.onward.adds_up (run.stays at (marked before at right live))));
  stays = λ number is. let apart = apart_live before at number live is in
      not_gone after at number apart ∙ run.stays number (unmarked before at number apart ∙ is);
  stood = λ number is. let apart = apart_gone after at number run.onward.adds_up is in
      sym (unmarked before at number apart) ∙ run.stood number (sym (not_gone after at number apart) ∙ is);
}
