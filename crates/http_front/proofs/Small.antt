-- A request that comes from the bytes of a connection is small.
use Rattle.std.proofs.Common.{◌≡◌, ℕ, ◌+◌, ◌^◌, ◌<◌, ◌≤◌, Bool, true, false, cond, Option, Some, None, List, [], ◌∷◌}
use Rattle.std.proofs.Common.{◌++◌, length, take, drop, map, refl, sym, ap, subst, arith, length-append, length-drop}
use Rattle.std.proofs.Common.{length-take, Result, Ok, Err, reverse}
use Rattle.std.specs.Prelude.{nat_le, nat_lt, not, ◌&&◌, sum_by, codes, bytes_eq}
use Rattle.std.specs.List.{flat_map, list_any, after_first, before_first, position_or_len}
use Rattle.std.specs.Option.{option_and_then, option_map, is_some, unwrap_or}
use Rattle.std.specs.Result.{result_ok}
use Rattle.std.proofs.lemmas.List.{length-reverse}
use Rattle.std.proofs.lemmas.List.Sums.{sum_by-cons}
use Rattle.std.proofs.lemmas.Bool.Decides.{nat_tests}
use Rattle.httparse.specs.Grammar.{Field, LineEnd, RequestHead, is_ows, print_blank, print_end, print_field}
use Rattle.httparse.specs.Grammar.{print_request, print_version, skip_ows, trim_ows}
use Rattle.httparse.specs.Spans.{name_and_value}
use Rattle.asp_text.specs.declared.path.PathStop.{PathStop}
use Rattle.asp_text.specs.Path.{begins_with_slash, normal_path_of}
use Rattle.asp_text.proofs.Places.{by_cases}
use Rattle.asp_job.specs.declared.request.Header.{Header}
use Rattle.asp_job.specs.declared.request.Request as request
use Rattle.asp_job.specs.Size.{header_size, request_size}
use Rattle.http_front.specs.Fields.{fields_of}
use Rattle.http_front.specs.Front.{Hopeless, IsFront, IsOpening, More, Opening, Refused, Request, Unfinished, Whole}
use Rattle.http_front.specs.Front.{answered, front_of}
use Rattle.http_front.specs.Request.{IsRequestFor, header_parts}
use Rattle.http_front.specs.Status.{body_size, headers_of, verb_of, is_in_order, lacks_length, status_by, status_of}
use Rattle.http_front.specs.Target.{after_host, from_path_on, is_number_sign, is_question, is_slash}
use Rattle.http_front.specs.Target.{normal_front, path_of, query_of}
use Rattle.http_front.proofs.Bounds.{opening_is_bounded}
use Rattle.http_front.proofs.Paths.{normal_path_is_short}

-- ---- the parts of a head

line_of : (blank : List LineEnd) (method target version end section : List ℕ)
    → length target + length section
    ≤ length (print_blank blank ++ method ++ 32 ∷ target ++ 32 ∷ version ++ end ++ section)
line_of blank method target version end section = simp length-append (omega arith)

head_has : (h : RequestHead) → length h.target + length (flat_map print_field h.fields) ≤ length (print_request h)
unfolding print_request
head_has h =
    omega (
      arith,
      line_of h.blank h.method h.target (print_version h.minor) (print_end h.line_end)
          (flat_map print_field h.fields ++ print_end h.last),
      length-append (flat_map print_field h.fields) (print_end h.last),
    )

-- ---- headers

skip_is_short : (bytes : List ℕ) → length (skip_ows bytes) ≤ length bytes
skip_is_short [] = omega arith
skip_is_short (b ∷ bytes) =
    by_cases (λ t. is_ows b ≡ t → length (cond t (skip_ows bytes) (b ∷ bytes)) ≤ length (b ∷ bytes)) (is_ows b)
    (λ _ _. omega (arith, skip_is_short bytes)) (λ _ _. omega arith) refl

trim_is_short : (bytes : List ℕ) → length (trim_ows bytes) ≤ length bytes
unfolding trim_ows
trim_is_short bytes =
    omega (
      arith,
      skip_is_short bytes,
      skip_is_short (reverse (skip_ows bytes)),
      length-reverse (skip_ows bytes),
      length-reverse (skip_ows (reverse (skip_ows bytes))),
    )

field_has : (name raw end : List ℕ) → length name + length raw + 1 ≤ length (name ++ 58 ∷ raw ++ end)
field_has name raw end = simp length-append (omega arith)

headers_are_short : (headers : List Header) (fields : List Field) → map header_parts headers ≡ map name_and_value fields
    → sum_by header_size headers ≤ length (flat_map print_field fields)
headers_are_short [] fields same = omega arith
headers_are_short (header ∷ headers) [] same = absurd cc
headers_are_short (header ∷ headers) (field ∷ fields) same =
    let first : header_parts header ≡ name_and_value field = cc in
    let rest : map header_parts headers ≡ map name_and_value fields = cc in
    omega (
      arith,
      sum_by-cons header_size header headers,
      ap (λ h. length h.0) first,
      ap (λ h. length h.1) first,
      trim_is_short field.raw,
      field_has field.name field.raw (print_end field.end),
      headers_are_short headers fields rest,
      length-append (print_field field) (flat_map print_field fields),
    )

-- ---- targets

after_host_is_short : (bytes rest : List ℕ) → after_host bytes ≡ Some rest → length rest ≤ length bytes
after_host_is_short bytes rest is =
    let host = position_or_len is_slash bytes in
    by_cases (λ t. (nat_lt 0 host && nat_lt host (length bytes)) ≡ t → cond t (Some (drop host bytes)) None ≡ Some rest
    → length rest ≤ length bytes) (nat_lt 0 host && nat_lt host (length bytes))
    (λ _ _ f. let same : drop host bytes ≡ rest = cc in omega (arith, ap length same, length-drop host bytes))
    (λ _ _ f. absurd cc) refl is

from_path_is_short : (target rest : List ℕ) → from_path_on target ≡ Some rest → length rest ≤ length target
from_path_is_short target rest is =
    let absolute = bytes_eq (take 7 target) (codes "http://") in
    by_cases (λ t. begins_with_slash target ≡ t
    → cond t (Some target) (cond absolute (after_host (drop 7 target)) None) ≡ Some rest → length rest ≤ length target)
    (begins_with_slash target)
    (λ _ _ f. let same : target ≡ rest = cc in omega (arith, ap length same))
    (λ _ _. by_cases (λ t. absolute ≡ t → cond t (after_host (drop 7 target)) None ≡ Some rest
    → length rest ≤ length target) absolute
    (λ _ _ f. omega (arith, after_host_is_short (drop 7 target) rest f, length-drop 7 target))
    (λ _ _ f. absurd cc) refl) refl is

normal_front_is_short : (bytes path : List ℕ) → normal_front bytes ≡ Some path → length path ≤ length bytes + 2
normal_front_is_short bytes path is = from (normal_path_of (before_first is_question bytes)) refl is
  where
    from : (told : Result (List ℕ) PathStop) → normal_path_of (before_first is_question bytes) ≡ told
        → result_ok told ≡ Some path → length path ≤ length bytes + 2
    from (Err stop) f g = absurd cc
    from (Ok normal) f g =
        let same : normal ≡ path = cc in
        omega (
          arith,
          ap length same,
          normal_path_is_short (before_first is_question bytes) normal f,
          length-take (position_or_len is_question bytes) bytes,
        )

path_is_short : (target path : List ℕ) → path_of target ≡ Some path → length path ≤ length target + 2
unfolding path_of
path_is_short target path is =
    by_cases (λ t. list_any is_number_sign target ≡ t
    → cond t None (option_and_then normal_front (from_path_on target)) ≡ Some path → length path ≤ length target + 2)
    (list_any is_number_sign target) (λ _ _ f. absurd cc) (λ _ _ f. from (from_path_on target) refl f) refl is
  where
    from : (rest : Option (List ℕ)) → from_path_on target ≡ rest → option_and_then normal_front rest ≡ Some path
        → length path ≤ length target + 2
    from None f g = absurd cc
    from (Some rest) f g = omega (arith, normal_front_is_short rest path g, from_path_is_short target rest f)

query_is_short : (target : List ℕ) → length (query_of target) ≤ length target
unfolding query_of
query_is_short target = from (from_path_on target) refl
  where
    from : (rest : Option (List ℕ)) → from_path_on target ≡ rest
        → length (unwrap_or (option_map (after_first is_question) rest) []) ≤ length target
    from None f = omega arith
    from (Some rest) f =
        omega (arith, from_path_is_short target rest f, length-drop (position_or_len is_question rest + 1) rest)

-- ---- requests

pub small_request : (bytes : List ℕ) (h : RequestHead) (body rest : List ℕ) (r : request.Request)
    → IsFront bytes (Request h body rest) → IsRequestFor h body r → request_size r < 2 ^ 24
small_request bytes h body rest r front is =
    let bounds = opening_is_bounded (length bytes) bytes front.opening h body rest front.opens front.gives in
    omega (
      arith,
      bounds.head_fits,
      bounds.body_fits,
      head_has h,
      path_is_short h.target r.path is.path,
      query_is_short h.target,
      ap length is.query,
      headers_are_short r.headers h.fields is.headers,
      ap length is.body_is,
    )
