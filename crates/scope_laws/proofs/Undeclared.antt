-- A name that nothing declares is a variable where it is mentioned.
use Rattle.std.proofs.Common.{◌≡◌, ◌⊎◌, inl, inr, ℕ, ◌+◌, ◌<◌, Bool, true, false, not, ◌&&◌, cond, List, [], ◌∷◌, ◌++◌}
use Rattle.std.proofs.Common.{length, fold, nat_eq, is_some, Option, Some, None, unwrap_or, if◌then◌else◌, get_or}
use Rattle.std.proofs.Common.{refl, sym, ap, subst, ◌∙◌, arith}
use Rattle.std.specs.Cmp.Lexicographic.{pointwise}
use Rattle.std.specs.List.{position_from, slice_get}
use Rattle.std.proofs.lemmas.List.{length_push, get_or_push}
use Rattle.std.proofs.lemmas.List.Sums.{fold-append}
use Rattle.std.proofs.lemmas.Option.{slice_get-get_or, slice_get_read}
use Rattle.std.proofs.Math.ListN.{get_or-append}
use Rattle.std.proofs.lemmas.Slice.Eq.{bytes_eq-Decides}
use Rattle.vb_value.specs.Folding.{folded}
use Rattle.vb_syntax.specs.declared.note.Level.{Level}
use Rattle.vb_syntax.specs.declared.note.Level.TheVariants as level
use Rattle.vb_syntax.specs.declared.note.Note.{Note}
use Rattle.vb_syntax.specs.declared.note.NoteKind.{NoteKind}
use Rattle.vb_syntax.specs.declared.note.NoteKind.TheVariants as say
use Rattle.vb_syntax.specs.declared.program.name.Named.{Named}
use Rattle.vb_syntax.specs.declared.program.name.Named.TheVariants as named
use Rattle.vb_syntax.specs.declared.program.name.Slot.TheVariants as slot
use Rattle.vb_syntax.specs.declared.program.unit.Variable.{Variable}
use Rattle.vb_syntax.specs.scope.Names.{Name, number_of_key, first_of, of_language, object_named}
use Rattle.vb_syntax.specs.scope.Notes.{Notes}
use Rattle.vb_syntax.specs.scope.Scopes.{Declarations, Scopes, with_name, with_variable, place_at, declare}
use Rattle.vb_syntax.specs.scope.Scopes.{declare_note, variable_of}
use Rattle.vb_syntax.specs.scope.Scopes.{declared, nothing_declared, standing_in, standing_at, declared_in, named_in}
use Rattle.vb_syntax.specs.scope.Scopes.{is_unknown, mentioned, resized, made_by, with_made, on_page_in, scopes_of}
use Rattle.vb_syntax.specs.scope.Scopes.{page_scope_of, body_scope_of}
use Rattle.scope_laws.specs.Lives.{Mentions, IsUndeclared, IsOnPage, IsLocal}

-- ---- numbers of names

-- the first of two that is there
abbrev or_else : {A : Type 0} → Option A → Option A → Option A
or_else None other = other
or_else (Some found) other = Some found

position-push : (test : Name → Bool) (at : ℕ) (names : List Name) (name : Name)
    → position_from test at (names ++ name ∷ [])
    ≡ or_else (position_from test at names) (cond (test name) (Some (at + length names)) None)
position-push test at [] name = ap (λ n. cond (test name) (Some n) None) (omega arith)
position-push test at (first ∷ names) name = go (test first) (position-push test (at + 1) names name)
  where
    more : at + 1 + length names ≡ at + length (first ∷ names)
    more = omega arith

    go : (passes : Bool) → position_from test (at + 1) (names ++ name ∷ [])
        ≡ or_else (position_from test (at + 1) names) (cond (test name) (Some (at + 1 + length names)) None)
        → cond passes (Some at) (position_from test (at + 1) (names ++ name ∷ []))
        ≡ or_else (cond passes (Some at) (position_from test (at + 1) names))
        (cond (test name) (Some (at + length (first ∷ names))) None)
    go true later = refl
    go false later = later
        ∙ ap (λ n. or_else (position_from test (at + 1) names) (cond (test name) (Some n) None)) more

none_some : {A : Type 0} (found : A) → None ≡ Some found → ⊥
none_some found is = cc

same_number : (one other : ℕ) → Some one ≡ Some other → one ≡ other
same_number one other is = cc

position-below : (test : Name → Bool) (at : ℕ) (names : List Name) (i : ℕ) → position_from test at names ≡ Some i
    → i < at + length names
position-below test at [] i is = absurd (none_some i is)
position-below test at (first ∷ names) i is = go (test first) (position-below test (at + 1) names i) is
  where
    go : (passes : Bool) → (position_from test (at + 1) names ≡ Some i → i < at + 1 + length names)
        → cond passes (Some at) (position_from test (at + 1) names) ≡ Some i → i < at + length (first ∷ names)
    go true later is = let same : at ≡ i = same_number at i is in omega arith
    go false later is = let below : i < at + 1 + length names = later is in omega arith

-- ---- one name more in a scope

-- a scope has beside each name what it stands for
abbrev Aligned : Declarations → Type 0
Aligned found = length found.names ≡ length found.meanings

aligned-push : (name : Name) (meaning : Named) (found : Declarations) → Aligned found
    → Aligned (with_name name meaning found)
aligned-push name meaning found aligned = length_push found.names name ∙ ap (λ n. n + 1) aligned
    ∙ sym (length_push found.meanings meaning)

aligned-declare : (at : Level) (line : ℕ) (found : Declarations) (kind : NoteKind) → Aligned found
    → Aligned (declare at line found kind)
aligned-declare at line found (say.Fault fault) aligned = aligned
aligned-declare at line found (say.Variable variable) aligned = aligned-push variable.name _ found aligned
aligned-declare at line found (say.Constant constant) aligned = aligned-push constant.name _ found aligned
aligned-declare at line found (say.Procedure name) aligned = aligned-push name _ found aligned
aligned-declare at line found (say.Class name) aligned = aligned-push name _ found aligned
aligned-declare at line found (say.Member name accessor) aligned = aligned-push name _ found aligned
aligned-declare at line found (say.Result name) aligned = aligned-push name _ found aligned
aligned-declare at line found (say.Use name steps is_group) aligned = aligned
aligned-declare at line found (say.Write name) aligned = aligned
aligned-declare at line found (say.Resize name) aligned = aligned
aligned-declare at line found (say.Part name) aligned = aligned

aligned-notes : (at : Level) (found : Declarations) (notes : Notes) → Aligned found
    → Aligned (fold (declare_note at) found notes)
aligned-notes at found [] aligned = aligned
aligned-notes at found (note ∷ notes) aligned = aligned-notes at (declare_note at found note) notes
    (aligned-declare at note.line found note.kind aligned)

aligned-declared : (at : Level) (notes : Notes) → Aligned (declared at notes)
aligned-declared at notes = aligned-notes at nothing_declared notes refl

meaning-push : (names : List Name) (meanings : List Named) (meaning : Named) (passes : Bool) (number : Option ℕ)
    → length names ≡ length meanings → ((i : ℕ) → number ≡ Some i → i < 0 + length names)
    → standing_at (meanings ++ meaning ∷ []) (or_else number (cond passes (Some (0 + length names)) None))
    ≡ or_else (standing_at meanings number) (cond passes (Some meaning) None)
meaning-push names meanings meaning passes (Some i) aligned below =
    let in_names : i < 0 + length names = below i refl in
    let within : i < length meanings = omega arith in
    let longer : length (meanings ++ meaning ∷ []) ≡ length meanings + 1 = length_push meanings meaning in
    let within_more : i < length (meanings ++ meaning ∷ []) = omega arith in
    slice_get-get_or (meanings ++ meaning ∷ []) i meaning within_more
    ∙ ap Some (get_or-append meanings (meaning ∷ []) meaning i within)
    ∙ sym (ap (λ o. or_else o (cond passes (Some meaning) None)) (slice_get-get_or meanings i meaning within))
meaning-push names meanings meaning true None aligned below =
    let longer : length (meanings ++ meaning ∷ []) ≡ length meanings + 1 = length_push meanings meaning in
    let within : 0 + length names < length (meanings ++ meaning ∷ []) = omega arith in
    let at : length meanings ≡ 0 + length names = omega arith in
    slice_get_read (meanings ++ meaning ∷ []) (length (meanings ++ meaning ∷ [])) (0 + length names) meaning refl within
    (sym (get_or_push meanings meaning meaning (0 + length names) at))
meaning-push names meanings meaning false None aligned below = refl

standing-push : (found : Declarations) (name key : Name) (meaning : Named) → Aligned found
    → standing_in (with_name name meaning found) key
    ≡ or_else (standing_in found key) (cond (pointwise nat_eq key (folded name)) (Some meaning) None)
standing-push found name key meaning aligned =
    ap (standing_at (found.meanings ++ meaning ∷ []))
    (position-push (λ (other : Name). pointwise nat_eq key (folded other)) 0 found.names name)
    ∙ meaning-push found.names found.meanings meaning (pointwise nat_eq key (folded name))
    (number_of_key found.names key) aligned
    (position-below (λ (other : Name). pointwise nat_eq key (folded other)) 0 found.names)

-- ---- what becomes of a key

-- nothing so far, or a made variable
abbrev Made : Level → Option Named → Type 0
Made at found = (found ≡ None) ⊎ ((number : ℕ) × (found ≡ Some (named.Place (place_at at number))))

made-push : (at : Level) (variable : Variable) (found : Declarations) (name key : Name) → Aligned found
    → Made at (standing_in found key) → Made at (standing_in (with_variable at name variable found) key)
made-push at variable found name key aligned (inl none) = go (pointwise nat_eq key (folded name))
    (standing-push found name key (named.Place (place_at at (length found.variables))) aligned
    ∙ ap (λ o. or_else o (cond (pointwise nat_eq key (folded name))
    (Some (named.Place (place_at at (length found.variables)))) None)) none)
  where
    go : (passes : Bool) → standing_in (with_variable at name variable found) key
        ≡ cond passes (Some (named.Place (place_at at (length found.variables)))) None
        → Made at (standing_in (with_variable at name variable found) key)
    go true is = inr (length found.variables, is)
    go false is = inl is
made-push at variable found name key aligned (inr made) = inr (
  made.0,
  standing-push found name key (named.Place (place_at at (length found.variables))) aligned
      ∙ ap (λ o. or_else o (cond (pointwise nat_eq key (folded name))
      (Some (named.Place (place_at at (length found.variables)))) None)) made.1,
)

made-with : (at : Level) (line : ℕ) (found : Declarations) (made : Option Name) (key : Name) → Aligned found
    → Made at (standing_in found key) → Made at (standing_in (with_made at line found made) key)
made-with at line found None key aligned so_far = so_far
made-with at line found (Some name) key aligned so_far =
    made-push at (variable_of line None) found name key aligned so_far

aligned-with : (at : Level) (line : ℕ) (found : Declarations) (made : Option Name) → Aligned found
    → Aligned (with_made at line found made)
aligned-with at line found None aligned = aligned
aligned-with at line found (Some name) aligned = aligned-push name _ found aligned

kept-with : (at : Level) (line : ℕ) (found : Declarations) (made : Option Name) (key : Name) (meaning : Named)
    → Aligned found → standing_in found key ≡ Some meaning
    → standing_in (with_made at line found made) key ≡ Some meaning
kept-with at line found None key meaning aligned is = is
kept-with at line found (Some name) key meaning aligned is =
    standing-push found name key (named.Place (place_at at (length found.variables))) aligned
    ∙ ap (λ o. or_else o (cond (pointwise nat_eq key (folded name))
    (Some (named.Place (place_at at (length found.variables)))) None)) is

-- ---- the places of a scope

module _ (at : Level) (around : Declarations → Scopes) where
  -- behind one more place
  abbrev step : Declarations → Note → Declarations
  step found note = with_made at note.line found (made_by false (around found) note.kind)

  made-notes : (found : Declarations) (notes : Notes) (key : Name) → Aligned found → Made at (standing_in found key)
      → Made at (standing_in (fold step found notes) key)
  made-notes found [] key aligned so_far = so_far
  made-notes found (note ∷ notes) key aligned so_far = made-notes (step found note) notes key
      (aligned-with at note.line found (made_by false (around found) note.kind) aligned)
      (made-with at note.line found (made_by false (around found) note.kind) key aligned so_far)

  aligned-all : (found : Declarations) (notes : Notes) → Aligned found → Aligned (fold step found notes)
  aligned-all found [] aligned = aligned
  aligned-all found (note ∷ notes) aligned = aligned-all (step found note) notes
      (aligned-with at note.line found (made_by false (around found) note.kind) aligned)

  kept-notes : (found : Declarations) (notes : Notes) (key : Name) (meaning : Named) → Aligned found
      → standing_in found key ≡ Some meaning → standing_in (fold step found notes) key ≡ Some meaning
  kept-notes found [] key meaning aligned is = is
  kept-notes found (note ∷ notes) key meaning aligned is = kept-notes (step found note) notes key meaning
      (aligned-with at note.line found (made_by false (around found) note.kind) aligned)
      (kept-with at note.line found (made_by false (around found) note.kind) key meaning aligned is)

  named-nowhere : (found : Declarations) (name : Name) → declared_in (around found) false (folded name) ≡ None
      → of_language name ≡ None → named_in (around found) false name ≡ named.Unknown
  unfolding named_in
  named-nowhere found name nowhere no_word =
      ap (λ o. unwrap_or (first_of (o ∷ of_language name ∷ [])) named.Unknown) nowhere
      ∙ ap (λ o. unwrap_or (first_of (None ∷ o ∷ [])) named.Unknown) no_word

  mentioned-nowhere : (found : Declarations) (name : Name) → declared_in (around found) false (folded name) ≡ None
      → of_language name ≡ None → object_named name ≡ None → mentioned false (around found) name ≡ Some name
  mentioned-nowhere found name nowhere no_word no_object =
      ap (λ n. if is_unknown n && not (is_some (object_named name)) then Some name else None)
      (named-nowhere found name nowhere no_word)
      ∙ ap (λ o. if true && not (is_some o) then Some name else None) no_object

  made-here : (found : Declarations) (kind : NoteKind) (name : Name) → Mentions kind name
      → declared_in (around found) false (folded name) ≡ None → of_language name ≡ None → object_named name ≡ None
      → made_by false (around found) kind ≡ Some name
  made-here found (say.Use other steps is_group) name is nowhere no_word no_object =
      ap (mentioned false (around found)) is ∙ mentioned-nowhere found name nowhere no_word no_object
  made-here found (say.Write other) name is nowhere no_word no_object =
      ap (mentioned false (around found)) is ∙ mentioned-nowhere found name nowhere no_word no_object
  made-here found (say.Resize other) name is nowhere no_word no_object = ap (resized (around found)) is
      ∙ ap (λ o. if is_some o then None else Some name) nowhere
  made-here found (say.Fault fault) name is nowhere no_word no_object = absurd is
  made-here found (say.Variable variable) name is nowhere no_word no_object = absurd is
  made-here found (say.Constant constant) name is nowhere no_word no_object = absurd is
  made-here found (say.Procedure other) name is nowhere no_word no_object = absurd is
  made-here found (say.Class other) name is nowhere no_word no_object = absurd is
  made-here found (say.Member other accessor) name is nowhere no_word no_object = absurd is
  made-here found (say.Result other) name is nowhere no_word no_object = absurd is
  made-here found (say.Part other) name is nowhere no_word no_object = absurd is

  -- what stands for a key around a scope, where the scope has none
  abbrev Outside : Name → Option Named → Type 0
  Outside key rest = (found : Declarations) → declared_in (around found) false key ≡ or_else (standing_in found key)
      rest

  itself : (key : Name) → pointwise nat_eq key key ≡ true
  itself key = (bytes_eq-Decides key key).1 refl

  made-at : (found : Declarations) (note : Note) (name : Name) (rest : Option Named) → Aligned found
      → Outside (folded name) rest → rest ≡ None → Mentions note.kind name → of_language name ≡ None
      → object_named name ≡ None → Made at (standing_in found (folded name))
      → (number : ℕ) × (standing_in (step found note) (folded name) ≡ Some (named.Place (place_at at number)))
  made-at found note name rest aligned outside no_rest mentions no_word no_object (inl none) =
      let nowhere : declared_in (around found) false (folded name) ≡ None =
      outside found ∙ ap (λ o. or_else o rest) none ∙ no_rest in (
        length found.variables,
        ap (λ made. standing_in (with_made at note.line found made) (folded name))
            (made-here found note.kind name mentions nowhere no_word no_object)
            ∙ standing-push found name (folded name) (named.Place (place_at at (length found.variables))) aligned
            ∙ ap (λ o. or_else o (cond (pointwise nat_eq (folded name) (folded name))
            (Some (named.Place (place_at at (length found.variables)))) None)) none
            ∙ ap (λ b. cond b (Some (named.Place (place_at at (length found.variables)))) None) (itself (folded name)),
      )
  made-at found note name rest aligned outside no_rest mentions no_word no_object (inr made) = (
    made.0,
    kept-with at note.line found (made_by false (around found) note.kind) (folded name)
        (named.Place (place_at at made.0))
        aligned made.1,
  )

  both_none : (one rest : Option Named) → or_else one rest ≡ None → (one ≡ None) × (rest ≡ None)
  both_none None rest none = (refl, none)
  both_none (Some found) rest none = absurd (none_some found (sym none))

  named-at : (found : Declarations) (name : Name) (rest : Option Named) (meaning : Named) → Outside (folded name) rest
      → standing_in found (folded name) ≡ Some meaning → named_in (around found) false name ≡ meaning
  unfolding named_in
  named-at found name rest meaning outside is =
      ap (λ o. unwrap_or (first_of (o ∷ of_language name ∷ [])) named.Unknown)
      (outside found ∙ ap (λ o. or_else o rest) is)

  lives : (start : Declarations) (before : Notes) (note : Note) (after : Notes) (name : Name) (rest : Option Named)
      → Aligned start → Outside (folded name) rest → Mentions note.kind name → IsUndeclared (around start) name
      → (number : ℕ) × (named_in (around (fold step start (before ++ note ∷ after))) false name
      ≡ named.Place (place_at at number))
  lives start before note after name rest aligned outside mentions undeclared =
      let nones = both_none (standing_in start (folded name)) rest (sym (outside start) ∙ undeclared.nowhere) in
      let first = fold step start before in
      let aligned_first = aligned-all start before aligned in
      let so_far = made-notes start before (folded name) aligned (inl nones.0) in
      let made = made-at first note name rest aligned_first outside nones.1 mentions undeclared.no_word
      undeclared.no_object so_far in (
        made.0,
        named-at (fold step start (before ++ note ∷ after)) name rest (named.Place (place_at at made.0)) outside
            (ap (λ found. standing_in found (folded name)) (fold-append step start before (note ∷ after))
            ∙ kept-notes (step first note) after (folded name) (named.Place (place_at at made.0))
            (aligned-with at note.line first (made_by false (around first) note.kind) aligned_first) made.1),
      )

-- ---- the page and procedures

first-alone : (found : Option Named) → first_of (found ∷ []) ≡ or_else found None
first-alone None = refl
first-alone (Some found) = refl

outside-page : (key : Name) → Outside level.Page on_page_in key None
unfolding declared_in
outside-page key found = first-alone (standing_in found key)

first-more : (found : Option Named) (more : List (Option Named)) → first_of (found ∷ more) ≡ or_else found (first_of
    more)
first-more None more = refl
first-more (Some found) more = refl

outside-body : (page class : Declarations) (key : Name) → Outside level.Body (scopes_of page class) key
    (first_of (standing_in class key ∷ standing_in page key ∷ []))
unfolding declared_in
outside-body page class key found =
    first-more (standing_in found key) (standing_in class key ∷ standing_in page key ∷ [])

pub undeclared_on_page_lem : (before : Notes) (note : Note) (after : Notes) (name : Name) → Mentions note.kind name
    → IsUndeclared (on_page_in (declared level.Page (before ++ note ∷ after))) name
    → IsOnPage (named_in (on_page_in (page_scope_of false (before ++ note ∷ after))) false name)
unfolding page_scope_of
undeclared_on_page_lem before note after name mentions undeclared =
    lives level.Page on_page_in (declared level.Page (before ++ note ∷ after)) before note after name None
    (aligned-declared level.Page (before ++ note ∷ after)) (outside-page (folded name)) mentions undeclared

pub undeclared_in_procedure_lem : (page class : Declarations) (before : Notes) (note : Note) (after : Notes)
    (name : Name) → Mentions note.kind name
    → IsUndeclared (scopes_of page class (declared level.Body (before ++ note ∷ after))) name
    → IsLocal (named_in (scopes_of page class (body_scope_of false page class (before ++ note ∷ after))) false name)
unfolding body_scope_of
undeclared_in_procedure_lem page class before note after name mentions undeclared =
    lives level.Body (scopes_of page class) (declared level.Body (before ++ note ∷ after)) before note after name
    (first_of (standing_in class (folded name) ∷ standing_in page (folded name) ∷ []))
    (aligned-declared level.Body (before ++ note ∷ after)) (outside-body page class (folded name)) mentions undeclared
