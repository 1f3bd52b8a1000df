-- The attributes of a text, read one after another.
use Rattle.std.proofs.Common.{◌≡◌, ℕ, suc, ◌+◌, Bool, true, false, List, [], ◌∷◌, ◌++◌, length, refl, sym, ◌∙◌, ap}
use Rattle.std.proofs.Common.{append_assoc, append-nil}
use Rattle.std.specs.Prelude.{Option, Some, None, cond}
use Rattle.std.specs.Option.{option_map, option_and_then}
use Rattle.page_read.specs.declared.attribute.Attribute.{Attribute}
use Rattle.page_read.specs.Attributes.{attributes_of, attributes_within, first_attribute}
use Rattle.page_read.specs.Marks.{is_blank_text}

-- the attributes that were read, and those to come
abbrev pub with_more : List Attribute → Option (List Attribute) → Option (List Attribute)
with_more found more = option_map (λ others. found ++ others) more

-- at first none was read
pub none_read : (text : List ℕ) → attributes_of text ≡ with_more [] (attributes_within (length text + 1) text)
none_read text = kept (attributes_of text)
  where
    kept : (more : Option (List Attribute)) → more ≡ with_more [] more
    kept None = refl
    kept (Some others) = refl

-- where nothing but blanks is left, those that were read are all
pub all_read : (most : ℕ) (rest : List ℕ) (found : List Attribute) (whole : Option (List Attribute))
    → whole ≡ with_more found (attributes_within (suc most) rest) → is_blank_text rest ≡ true → Some found ≡ whole
unfolding attributes_within
all_read most rest found whole before blank =
    let more = option_and_then (λ (first : Attribute × List ℕ). option_map (λ (others : List Attribute).
    first.0 ∷ others) (attributes_within most first.1)) (first_attribute rest) in
    let none : attributes_within (suc most) rest ≡ Some [] = ap (λ (b : Bool). cond b (Some []) more) blank in
    sym (before ∙ ap (with_more found) none ∙ ap (λ (l : List Attribute). Some l) (append-nil found))

-- what is left, where it is more than blanks
more_left : (most : ℕ) (rest : List ℕ) → is_blank_text rest ≡ false → attributes_within (suc most) rest
    ≡ option_and_then (λ (first : Attribute × List ℕ). option_map (λ (others : List Attribute). first.0 ∷ others)
    (attributes_within most first.1)) (first_attribute rest)
unfolding attributes_within
more_left most rest filled =
    let more = option_and_then (λ (first : Attribute × List ℕ). option_map (λ (others : List Attribute).
    first.0 ∷ others) (attributes_within most first.1)) (first_attribute rest) in
    ap (λ (b : Bool). cond b (Some []) more) filled

-- where no attribute is next, the text has other things
pub none_next : (most : ℕ) (rest : List ℕ) (found : List Attribute) (whole : Option (List Attribute))
    → whole ≡ with_more found (attributes_within (suc most) rest) → is_blank_text rest ≡ false
    → first_attribute rest ≡ None → None ≡ whole
none_next most rest found whole before filled none =
    let next = λ (first : Attribute × List ℕ). option_map (λ (others : List Attribute). first.0 ∷ others)
    (attributes_within most first.1) in
    sym (before ∙ ap (with_more found) (more_left most rest filled ∙ ap (option_and_then next) none))

-- one attribute more before others
one_before : (found : List Attribute) (first : Attribute) (others : Option (List Attribute))
    → with_more found (option_map (λ (l : List Attribute). first ∷ l) others) ≡ with_more (found ++ first ∷ []) others
one_before found first None = refl
one_before found first (Some others) = ap (λ (l : List Attribute). Some l) (simp append_assoc)

-- one attribute more
pub next_read : (most : ℕ) (rest behind : List ℕ) (found more : List Attribute) (first : Attribute)
    (whole : Option (List Attribute)) → whole ≡ with_more found (attributes_within (suc most) rest)
    → is_blank_text rest ≡ false → first_attribute rest ≡ Some (first, behind) → more ≡ found ++ first ∷ []
    → whole ≡ with_more more (attributes_within most behind)
next_read most rest behind found more first whole before filled is pushed =
    let next = λ (one : Attribute × List ℕ). option_map (λ (others : List Attribute). one.0 ∷ others)
    (attributes_within most one.1) in
    before ∙ ap (with_more found) (more_left most rest filled ∙ ap (option_and_then next) is)
    ∙ one_before found first (attributes_within most behind)
    ∙ ap (λ (l : List Attribute). with_more l (attributes_within most behind)) (sym pushed)

-- the same number of attributes to come, otherwise said
pub renumbered : (left most : ℕ) (rest : List ℕ) (found : List Attribute) (whole : Option (List Attribute))
    → left ≡ most
    → whole ≡ with_more found (attributes_within left rest) → whole ≡ with_more found (attributes_within most rest)
renumbered left most rest found whole same before =
    before ∙ ap (λ (n : ℕ). with_more found (attributes_within n rest)) same

-- where no more may come, the text has other things
pub none_left : (left : ℕ) (rest : List ℕ) (found : List Attribute) (whole : Option (List Attribute)) → left ≡ 0
    → whole ≡ with_more found (attributes_within left rest) → None ≡ whole
unfolding attributes_within
none_left left rest found whole none before = sym (renumbered left 0 rest found whole none before)
