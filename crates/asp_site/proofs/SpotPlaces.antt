-- The lines of stretches, at their places.
use Rattle.std.proofs.Common.{◌≡◌, ◌∙◌, ℕ, zero, suc, ◌+◌, ◌-◌, ◌<◌, ◌≤◌, List, [], ◌∷◌, ◌++◌, Some, refl, sym, ap}
use Rattle.std.proofs.Common.{arith, append_assoc, append-nil, drop, get_or, length, length-append}
use Rattle.std.proofs.Math.Seq.{drop-cons}
use Rattle.std.specs.Prelude.{slice_get}
use Rattle.asp_site.specs.declared.stretch.Stretch.{Stretch}
use Rattle.asp_site.specs.declared.site.LineSpot.{LineSpot}
use Rattle.asp_site.specs.Spots.{spot, spots, spots_of}

-- ---- one stretch

-- a line at a place in it
spot_within : (path : List ℕ) (first count : ℕ) (later : List LineSpot) (at : ℕ) → at < count
    → slice_get (spots path first count ++ later) at ≡ Some (spot path (first + at))
spot_within path first zero later at within = absurd (omega arith)
spot_within path first (suc count) later zero within =
    let same : first ≡ first + zero = omega arith in ap (λ (line : ℕ). Some (spot path line)) same
spot_within path first (suc count) later (suc at) within =
    let same : suc first + at ≡ first + suc at = omega arith in
    spot_within path (suc first) count later at (omega arith) ∙ ap (λ (line : ℕ). Some (spot path line)) same

-- a line at a place behind it
spot_past : (path : List ℕ) (first count : ℕ) (later : List LineSpot) (at : ℕ) → count ≤ at
    → slice_get (spots path first count ++ later) at ≡ slice_get later (at - count)
spot_past path first zero later at past =
    let same : at ≡ at - zero = omega arith in ap (slice_get later) same
spot_past path first (suc count) later zero past = absurd (omega arith)
spot_past path first (suc count) later (suc at) past =
    let same : at - count ≡ suc at - suc count = omega arith in
    spot_past path (suc first) count later at (omega arith) ∙ ap (slice_get later) same

length-spots : (path : List ℕ) (first count : ℕ) → length (spots path first count) ≡ count
length-spots path first zero = refl
length-spots path first (suc count) = ap suc (length-spots path (suc first) count)

-- ---- stretches, one behind the other

-- the stretches from one on
from_one : (stretches : List Stretch) (at : ℕ) (stretch : Stretch) → at < length stretches
    → stretch ≡ get_or stretches at stretch
    → spots_of (drop at stretches) ≡ spots_of (stretch ∷ drop (at + 1) stretches)
from_one stretches at stretch within is =
    let next : suc at ≡ at + 1 = omega arith in
    ap spots_of (drop-cons stretches at stretch within)
    ∙ ap (λ (first : Stretch). spots_of (first ∷ drop (suc at) stretches)) (sym is)
    ∙ ap (λ (n : ℕ). spots_of (stretch ∷ drop n stretches)) next

-- the line at a place in the first of them
pub spot_there : (stretches : List Stretch) (at : ℕ) (stretch : Stretch) (place : ℕ) → at < length stretches
    → stretch ≡ get_or stretches at stretch → place < stretch.count
    → slice_get (spots_of (drop at stretches)) place ≡ Some (spot stretch.path (stretch.first + place))
spot_there stretches at stretch place inside is within =
    ap (λ (lines : List LineSpot). slice_get lines place) (from_one stretches at stretch inside is)
    ∙ spot_within stretch.path stretch.first stretch.count (spots_of (drop (at + 1) stretches)) place within

-- the line at a place behind the first of them
pub spot_behind : (stretches : List Stretch) (at : ℕ) (stretch : Stretch) (place : ℕ) → at < length stretches
    → stretch ≡ get_or stretches at stretch → stretch.count ≤ place
    → slice_get (spots_of (drop at stretches)) place
    ≡ slice_get (spots_of (drop (at + 1) stretches)) (place - stretch.count)
spot_behind stretches at stretch place inside is past =
    ap (λ (lines : List LineSpot). slice_get lines place) (from_one stretches at stretch inside is)
    ∙ spot_past stretch.path stretch.first stretch.count (spots_of (drop (at + 1) stretches)) place past

one_more : (stretches : List Stretch) (stretch : Stretch)
    → spots_of (stretches ++ stretch ∷ []) ≡ spots_of stretches ++ spots stretch.path stretch.first stretch.count
one_more [] stretch = append-nil (spots stretch.path stretch.first stretch.count)
one_more (first ∷ stretches) stretch =
    ap (λ (lines : List LineSpot). spots first.path first.first first.count ++ lines) (one_more stretches stretch)
    ∙ sym (append_assoc (spots first.path first.first first.count) (spots_of stretches)
    (spots stretch.path stretch.first stretch.count))

-- the lines of one stretch more
pub grown : (before after : List Stretch) (stretch : Stretch) (path : List ℕ) → stretch.path ≡ path
    → after ≡ before ++ stretch ∷ [] → spots_of after ≡ spots_of before ++ spots path stretch.first stretch.count
grown before after stretch path named is = ap spots_of is ∙ one_more before stretch
    ∙ ap (λ (file : List ℕ). spots_of before ++ spots file stretch.first stretch.count) named

-- how many lines there are then
pub length-grown : (lines more : List LineSpot) (path : List ℕ) (first count len total : ℕ) → len ≡ length lines
    → total ≡ len + count → more ≡ lines ++ spots path first count → total ≡ length more
length-grown lines more path first count len total before is longer =
    omega (
      arith,
      before,
      is,
      ap length longer,
      length-append lines (spots path first count),
      length-spots path first count,
    )
