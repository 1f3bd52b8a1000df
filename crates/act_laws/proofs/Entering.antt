-- From worlds and their notes to later ones: how terminators are entered.
use Rattle.std.proofs.Common.{ℕ, ◌≡◌, ◌<◌, ◌≤◌, ◌⊎◌, Bool, true, false, if◌then◌else◌, List, [], ◌∷◌}
use Rattle.std.proofs.Common.{◌++◌}
use Rattle.std.proofs.Common.{Option, Some, None, refl, sym, ap, subst, ◌∙◌, inl, inr, arith, append_assoc, append-nil}
use Rattle.std.proofs.lemmas.Bool.{cases_lt}
use Rattle.std.specs.Option.{option_map}
use Rattle.vb_syntax.specs.declared.program.Program.{Program}
use Rattle.vb_syntax.specs.declared.program.unit.Procedure.{Procedure}
use Rattle.vb_heap.specs.Store.{is_number, numbered, replaced, without}
use Rattle.vb_meaning.specs.World.{World}
use Rattle.vb_meaning.specs.Objects.{class_at}
use Rattle.vb_meaning.specs.Releases.{terminator_in}
use Rattle.act_laws.specs.Entries.{AreOf, EntersEach, Notes, entries_of, is_among, listed, noted_entry, standing}
use Rattle.act_laws.specs.Entries.{standings, terminators}
use Rattle.act_laws.specs.Objects.{Account, AddsUp, HasBegun, IsEnding, IsLive, Onward, Settled, account_of}
use Rattle.act_laws.proofs.Accounts.{end_onward, mark_onward, marked, not_there, there_below, unmarked, with_end}
use Rattle.act_laws.proofs.Accounts.{with_mark}
use Rattle.act_laws.proofs.Numbers.{compared, itself, other_replaced, other_without, there_replaced}
use Rattle.act_laws.proofs.Standings.{begun_or_not, live_by, mark_of, not_begun_live, same_class, standing_of}

-- what is said of objects that are there stays so
abbrev pub Stay : World → World → Type 0
Stay before after = (number : ℕ) (found : Bool × Option ℕ) → standing number before ≡ Some found
    → standing number after ≡ Some found

-- ---- where nothing is entered

pub stay_enters : (program : Program) (before after : World) (notes : Notes) → Stay before after
    → EntersEach program before notes after notes
stay_enters program before after notes stay = record {
  grows = ([], sym (append-nil notes.entered));
  not_yet = λ number not. refl;
  no_more = λ number has. refl;
  once = λ number class live has. absurd (has.1 (live_by number after class (stay number (false, class) live)));
  made = λ number above has. (None, sym (append-nil (entries_of number notes.entered)));
  classes = λ number begun again class other is later_is.
      same_class begun again class other (sym (stay number (begun, class) is) ∙ later_is);
}

pub still_enters : (program : Program) (world : World) (notes : Notes) → EntersEach program world notes world notes
still_enters program world notes = stay_enters program world world notes (λ number found is. is)

-- ---- one after the other

module _ (program : Program) (a b c : World) (first second third : Notes) (right : AddsUp (account_of a))
    (onward : Onward (account_of a) (account_of b)) (later : Onward (account_of b) (account_of c))
    (one : EntersEach program a first b second) (other : EntersEach program b second c third) where
  not_before : (number : ℕ) → (HasBegun number (account_of c) → ⊥) → HasBegun number (account_of b) → ⊥
  not_before number not has = not (later.begun number has)

  both_once : (number : ℕ) (class : Option ℕ) → standing number a ≡ Some (false, class)
      → HasBegun number (account_of c)
      → HasBegun number (account_of b) ⊎ (HasBegun number (account_of b) → ⊥)
      → entries_of number third.entered ≡ entries_of number first.entered ++ terminators program class
  both_once number class live has (inl before) = other.no_more number before ∙ one.once number class live before
  both_once number class live has (inr not) =
      let below : number < a.store.objects_made = there_below (account_of a).objects a.store.objects_made number false
      right.below (live_by number a class live) in
      let made = onward.made in
      let now = standing_of number b false (not_begun_live number (account_of b) (omega (arith, below, made)) not) in
      let same : now.0 ≡ class = one.classes number false false class now.0 live now.1 in
      other.once number now.0 now.1 has ∙ ap (λ found. found ++ terminators program now.0) (one.not_yet number not)
      ∙ ap (λ found. entries_of number first.entered ++ terminators program found) same

  both_made : (number : ℕ) → a.store.objects_made ≤ number → HasBegun number (account_of c)
      → HasBegun number (account_of b) ⊎ (HasBegun number (account_of b) → ⊥)
      → (class : Option ℕ)
      × (entries_of number third.entered ≡ entries_of number first.entered ++ terminators program class)
  both_made number above has (inl before) = let found = one.made number above before in
      (found.0, other.no_more number before ∙ found.1)
  both_made number above has (inr not) = elim (cases_lt number b.store.objects_made) [
    | inl below ↦ let now = standing_of number b false (not_begun_live number (account_of b) below not) in (
      now.0,
      other.once number now.0 now.1 has
          ∙ ap (λ found. found ++ terminators program now.0) (one.not_yet number not),
    )
    | inr unmade ↦ let found = other.made number unmade has in (
      found.0,
      found.1 ∙ ap (λ entries. entries ++ terminators program found.0) (one.not_yet number not),
    )
  ]

  both_classes : (number : ℕ) (begun again : Bool) (class end : Option ℕ) → standing number a ≡ Some (begun, class)
      → standing number c ≡ Some (again, end) → (found : Option (Bool × Option ℕ)) → standing number b ≡ found
      → end ≡ class
  both_classes number begun again class end is later_is (Some found) there =
      other.classes number found.0 again found.1 end there later_is
      ∙ one.classes number begun found.0 class found.1 is there
  both_classes number begun again class end is later_is None there =
      let marked = mark_of a.store.objects number ∙ ap (λ found. option_map (λ (told : Bool × Option ℕ). told.0) found)
      is in
      let below = there_below (account_of a).objects a.store.objects_made number begun right.below marked in
      let made = onward.made in
      let gone = later.ended number (
        omega (arith, below, made),
        mark_of b.store.objects number
            ∙ ap (λ found. option_map (λ (told : Bool × Option ℕ). told.0) found) there,
      ) in
      let there_still = mark_of c.store.objects number
      ∙ ap (λ found. option_map (λ (told : Bool × Option ℕ). told.0) found) later_is in
      let both : None ≡ Some again = sym gone.1 ∙ there_still in absurd (cc)

  pub enters_then : EntersEach program a first c third
  enters_then = record {
    grows = (
      one.grows.0 ++ other.grows.0,
      other.grows.1 ∙ ap (λ found. found ++ other.grows.0) one.grows.1
          ∙ append_assoc first.entered one.grows.0 other.grows.0,
    );
    not_yet = λ number not. other.not_yet number not ∙ one.not_yet number (not_before number not);
    no_more = λ number has. other.no_more number (onward.begun number has) ∙ one.no_more number has;
    once = λ number class live has. both_once number class live has (begun_or_not number (account_of b));
    made = λ number above has. both_made number above has (begun_or_not number (account_of b));
    classes = λ number begun again class end is later_is.
        both_classes number begun again class end is later_is (standing number b) refl;
  }

-- ---- notes of a world

pub right_on : (before after : World) (noted notes : Notes) → AreOf before noted
    → Settled (account_of before) (account_of after) → notes.running ≡ noted.running → AreOf after notes
right_on before after noted notes right settled same = record {
  adds_up = settled.onward.adds_up;
  ending = λ number is. ap (λ running. is_among number running) same ∙ right.ending number (settled.stood number is);
  running = λ number is. settled.onward.begun number
      (right.running number (sym (ap (λ running. is_among number running) same) ∙ is));
}

-- ---- an object begins to end

entries_more : (number : ℕ) (entered others : List (ℕ × Procedure))
    → entries_of number (entered ++ others) ≡ entries_of number entered ++ entries_of number others
entries_more number [] others = refl
entries_more number (first ∷ rest) others = elim (is_number number first.0)
    as (λ b. (if b then first.1 ∷ entries_of number (rest ++ others) else entries_of number (rest ++ others))
    ≡ (if b then first.1 ∷ entries_of number rest else entries_of number rest) ++ entries_of number others) [
      | true ↦ ap (λ found. first.1 ∷ found) (entries_more number rest others)
      | false ↦ entries_more number rest others
    ]

own_entry : (object : ℕ) (procedure : Procedure) (entered : List (ℕ × Procedure))
    → entries_of object (entered ++ (object, procedure) ∷ []) ≡ entries_of object entered ++ procedure ∷ []
own_entry object procedure entered = entries_more object entered ((object, procedure) ∷ [])
    ∙ ap (λ b. entries_of object entered ++ (if b then procedure ∷ [] else [])) (itself object)

other_entry : (object number : ℕ) (procedure : Procedure) (entered : List (ℕ × Procedure))
    → is_number number object ≡ false
    → entries_of number (entered ++ (object, procedure) ∷ []) ≡ entries_of number entered
other_entry object number procedure entered apart = entries_more number entered ((object, procedure) ∷ [])
    ∙ ap (λ b. entries_of number entered ++ (if b then procedure ∷ [] else [])) apart
    ∙ append-nil (entries_of number entered)

-- what is noted where the terminator of a class is entered, if it has one
abbrev pub noted_end : ℕ → Option Procedure → Notes → Notes
noted_end object (Some procedure) notes = noted_entry (Some object) procedure notes
noted_end object None notes = notes

own_end : (object : ℕ) (found : Option Procedure) (notes : Notes)
    → entries_of object (noted_end object found notes).entered ≡ entries_of object notes.entered ++ listed found
own_end object (Some procedure) notes = own_entry object procedure notes.entered
own_end object None notes = sym (append-nil (entries_of object notes.entered))

other_end : (object number : ℕ) (found : Option Procedure) (notes : Notes) → is_number number object ≡ false
    → entries_of number (noted_end object found notes).entered ≡ entries_of number notes.entered
other_end object number (Some procedure) notes apart = other_entry object number procedure notes.entered apart
other_end object number None notes apart = refl

end_grows : (object : ℕ) (found : Option Procedure) (notes : Notes)
    → (more : List (ℕ × Procedure)) × ((noted_end object found notes).entered ≡ notes.entered ++ more)
end_grows object (Some procedure) notes = ((object, procedure) ∷ [], refl)
end_grows object None notes = ([], sym (append-nil notes.entered))

module _ (program : Program) (object : ℕ) (class : Option ℕ) (a m : World) (notes : Notes) (right : AreOf a notes)
    (live : standing object a ≡ Some (false, class))
    (told : standings m.store.objects ≡ replaced object (true, class) (standings a.store.objects))
    (account : account_of m ≡ with_mark object (account_of a)) where
  abbrev ends_as : Option Procedure
  ends_as = terminator_in (class_at program class)

  is_live : IsLive object (account_of a)
  is_live = live_by object a class live

  pub begins_onward : Onward (account_of a) (account_of m)
  begins_onward = subst (λ found. Onward (account_of a) found) (sym account)
      (mark_onward (account_of a) object right.adds_up is_live)

  pub is_ending : IsEnding object (account_of m)
  is_ending = subst (λ found. IsEnding object found) (sym account) (marked (account_of a) object right.adds_up is_live)

  has_begun : HasBegun object (account_of m)
  has_begun = (
    there_below (account_of m).objects m.store.objects_made object true begins_onward.adds_up.below is_ending,
    λ again. let both : Some true ≡ Some false = sym is_ending ∙ again in absurd (cc),
  )

  same_made : m.store.objects_made ≡ a.store.objects_made
  same_made = ap (λ (found : Account). found.made) account

  other_told : (number : ℕ) → is_number number object ≡ false → standing number m ≡ standing number a
  other_told number apart = ap (λ found. numbered number found) told
      ∙ other_replaced (standings a.store.objects) object number (true, class) apart

  pub own_told : standing object m ≡ Some (true, class)
  own_told = ap (λ found. numbered object found) told
      ∙ there_replaced (standings a.store.objects) object (false, class) (true, class) live

  pub begins_enters : EntersEach program a notes m (noted_end object ends_as notes)
  begins_enters = record {
    grows = end_grows object ends_as notes;
    not_yet = λ number not. elim (compared number object) [
      | inl same ↦ absurd (not (subst (λ n. HasBegun n (account_of m)) (sym same) has_begun))
      | inr away ↦ other_end object number ends_as notes away.1
    ];
    no_more = λ number has. elim (compared number object) [
      | inl same ↦ absurd (has.1 (subst (λ n. IsLive n (account_of a)) (sym same) is_live))
      | inr away ↦ other_end object number ends_as notes away.1
    ];
    once = λ number other is has. elim (compared number object) [
      | inl same ↦ own_once number other is same
      | inr away ↦ absurd (has.1 (live_by number m other (other_told number away.1 ∙ is)))
    ];
    made = λ number above has. let below = has.0 in absurd (omega (arith, above, below, same_made));
    classes = λ number begun again other end is now. elim (compared number object) [
      | inl same ↦ own_class number begun again other end is now same
      | inr away ↦ same_class begun again other end (sym is ∙ sym (other_told number away.1) ∙ now)
    ];
  }
    where
      own_once : (number : ℕ) (other : Option ℕ) → standing number a ≡ Some (false, other) → number ≡ object
          → entries_of number (noted_end object ends_as notes).entered
          ≡ entries_of number notes.entered ++ terminators program other
      own_once number other is same =
          let one : class ≡ other =
          same_class false false other class (sym is ∙ ap (λ n. standing n a) same ∙ live) in
          ap (λ n. entries_of n (noted_end object ends_as notes).entered) same ∙ own_end object ends_as notes
          ∙ ap (λ n. entries_of n notes.entered ++ terminators program class) (sym same)
          ∙ ap (λ found. entries_of number notes.entered ++ terminators program found) one

      own_class : (number : ℕ) (begun again : Bool) (other end : Option ℕ) → standing number a ≡ Some (begun, other)
          → standing number m ≡ Some (again, end) → number ≡ object → end ≡ other
      own_class number begun again other end is now same =
          same_class true again class end (sym own_told ∙ ap (λ n. standing n m) (sym same) ∙ now)
          ∙ same_class begun false other class (sym is ∙ ap (λ n. standing n a) same ∙ live)

  -- an object that had begun to end, or that is that one
  is_running : (number : ℕ) → is_among number (object ∷ notes.running) ≡ true → HasBegun number (account_of m)
  is_running number among = elim (compared number object) [
    | inl same ↦ subst (λ n. HasBegun n (account_of m)) (sym same) has_begun
    | inr away ↦ begins_onward.begun number (right.running number
        (sym (ap (λ b. if b then true else is_among number notes.running) (away.1)) ∙ among))
  ]

  was_ending : (number : ℕ) → IsEnding number (account_of m) → is_among number (object ∷ notes.running) ≡ true
  was_ending number is = elim (compared number object) [
    | inl same ↦ ap (λ b. if b then true else is_among number notes.running)
        (ap (λ n. is_number n object) same ∙ itself object)
    | inr away ↦ ap (λ b. if b then true else is_among number notes.running) (away.1)
        ∙ right.ending number (sym (unmarked (account_of a) object number (away.0))
        ∙ ap (λ (found : Account). numbered number found.objects) (sym account) ∙ is)
  ]

  pub begins_right : (procedure : Procedure) → AreOf m (noted_entry (Some object) procedure notes)
  begins_right procedure = record { adds_up = begins_onward.adds_up; ending = was_ending; running = is_running }

  -- its terminator is not being run
  pub not_running : is_among object notes.running ≡ false
  not_running = by (is_among object notes.running) refl
    where
      by : (b : Bool) → is_among object notes.running ≡ b → is_among object notes.running ≡ false
      by true is = absurd ((right.running object is).1 is_live)
      by false is = is

-- ---- an object has ended

module _ (program : Program) (object : ℕ) (u f : World) (notes : Notes) (right : AddsUp (account_of u))
    (ends : IsEnding object (account_of u)) (told : standings f.store.objects
    ≡ without object (standings u.store.objects))
    (account : account_of f ≡ with_end object (account_of u)) where
  pub ended_onward : Onward (account_of u) (account_of f)
  ended_onward = subst (λ found. Onward (account_of u) found) (sym account)
      (end_onward (account_of u) object right ends)

  others_told : (number : ℕ) → is_number number object ≡ false → standing number f ≡ standing number u
  others_told number apart = ap (λ found. numbered number found) told
      ∙ other_without (standings u.store.objects) object number apart

  gone : numbered object (account_of f).objects ≡ None
  gone = ap (λ (found : Account). numbered object found.objects) account ∙ not_there (account_of u) object right

  pub ended_enters : EntersEach program u notes f notes
  ended_enters = record {
    grows = ([], sym (append-nil notes.entered));
    not_yet = λ number not. refl;
    no_more = λ number has. refl;
    once = λ number class live has. elim (compared number object) [
      | inl same ↦ let both : Some false ≡ Some true = sym (live_by number u class live)
          ∙ ap (λ n. numbered n (account_of u).objects) same ∙ ends in absurd (cc)
      | inr away ↦ absurd (has.1 (live_by number f class (others_told number away.1 ∙ live)))
    ];
    made = λ number above has. (None, sym (append-nil (entries_of number notes.entered)));
    classes = λ number begun again class end is now. elim (compared number object) [
      | inl same ↦ let both : None ≡ Some again = sym gone ∙ ap (λ n. numbered n (account_of f).objects) (sym same)
          ∙ mark_of f.store.objects number ∙ ap (λ found. option_map (λ (told : Bool × Option ℕ). told.0) found) now in
          absurd (cc)
      | inr away ↦ same_class begun again class end (sym is ∙ sym (others_told number away.1) ∙ now)
    ];
  }
