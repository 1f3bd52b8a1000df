-- The text of a date is printable.
use Rattle.std.proofs.Common.{◌≡◌, ℕ, suc, zero, ◌+◌, ◌-◌, ◌<◌, ◌≤◌, ◌/◌, ◌%◌, true, List, [], ◌∷◌, refl, arith}
use Rattle.std.specs.Prelude.{◌==◌, ◌||◌, codes, cond, slice_index_or}
use Rattle.std.specs.List.{list_all}
use Rattle.std.proofs.lemmas.Bool.{cond_both}
use Rattle.httpdate.specs.Calendar.{days_in_month, is_leap_year}
use Rattle.httpdate.specs.Date.{date_text}
use Rattle.httpdate.specs.Text.{day_name, month_name, two_digits, four_digits, time_of_day}
use Rattle.httpdate.specs.declared.date.HttpDate.{HttpDate}
use Rattle.asp_response.specs.Head.{is_value}
use Rattle.asp_response.specs.Sound.{IsGraphic, IsPrintable}
use Rattle.asp_response.proofs.Printable.{both_printable, left_true, nothing_printable, one_more, printable_of, right_true}

-- what a table has at a place
looked_up : (table : List (List ℕ)) (at : ℕ) → list_all is_value table ≡ true → IsPrintable (slice_index_or table at [])
looked_up [] at met = nothing_printable
looked_up (text ∷ table) zero met = printable_of text (left_true (is_value text) (list_all is_value table) met)
looked_up (text ∷ table) (suc at) met =
    looked_up table at (right_true (is_value text) (list_all is_value table) met)

two_printable : (n : ℕ) → n < 100 → IsPrintable (two_digits n)
two_printable n small =
    let tens : IsGraphic (48 + n / 10) = record { least = omega arith; most = omega arith } in
    let units : IsGraphic (48 + n % 10) = record { least = omega arith; most = omega arith } in
    one_more tens (one_more units nothing_printable)

month_days : (year month : ℕ) → days_in_month year month ≤ 31
month_days year month =
    let leap = is_leap_year year in
    let short = (month == 4) || (month == 6) || (month == 9) || (month == 11) in
    cond_both (month == 2) (cond leap 29 28) (cond short 30 31) (λ days. days ≤ 31)
    (λ second. cond_both leap 29 28 (λ days. days ≤ 31) (λ is. omega arith) (λ other. omega arith))
    (λ others. cond_both short 30 31 (λ days. days ≤ 31) (λ is. omega arith) (λ other. omega arith))

pub date_printable : (date : HttpDate) → IsPrintable (date_text date)
date_printable date =
    let p = date.parts in
    let day : IsPrintable (two_digits p.day) = two_printable p.day (omega (arith, month_days p.year p.mon)) in
    let year : IsPrintable (four_digits p.year) =
    both_printable (two_printable (p.year / 100) (omega arith)) (two_printable (p.year % 100) (omega arith)) in
    let colon : IsPrintable (codes ":") = printable_of (codes ":") refl in
    let space : IsPrintable (codes " ") = printable_of (codes " ") refl in
    let time : IsPrintable (time_of_day p) =
    both_printable (both_printable (both_printable (both_printable (two_printable p.hour (omega arith)) colon)
    (two_printable p.min (omega arith))) colon) (two_printable p.sec (omega arith)) in
    let name : IsPrintable (day_name p.wday) =
    looked_up (codes "Mon" ∷ codes "Tue" ∷ codes "Wed" ∷ codes "Thu" ∷ codes "Fri" ∷ codes "Sat" ∷ codes "Sun" ∷ [])
    (p.wday - 1) refl in
    let month : IsPrintable (month_name p.mon) =
    looked_up (codes "Jan" ∷ codes "Feb" ∷ codes "Mar" ∷ codes "Apr" ∷ codes "May" ∷ codes "Jun" ∷ codes "Jul"
    ∷ codes "Aug" ∷ codes "Sep" ∷ codes "Oct" ∷ codes "Nov" ∷ codes "Dec" ∷ []) (p.mon - 1) refl in
    both_printable (both_printable (both_printable (both_printable (both_printable (both_printable (both_printable
    (both_printable (both_printable name (printable_of (codes ", ") refl)) day) space) month) space) year) space) time)
    (printable_of (codes " GMT") refl)
