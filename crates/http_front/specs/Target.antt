-- What the target of a request names on this host (RFC 9112, section 3.2): a path (RFC 3986, section 3.3) and a query.
use Rattle.std.specs.Prelude.{ℕ, Bool, ◌&&◌, ◌==◌, nat_lt, if◌then◌else◌, List, [], length, take, drop, codes, bytes_eq}
use Rattle.std.specs.Prelude.{Option, None, Some}
use Rattle.std.specs.List.{list_any, position_or_len, before_first, after_first}
use Rattle.std.specs.Option.{option_and_then, option_map, unwrap_or}
use Rattle.std.specs.Result.{result_ok}
use Rattle.asp_text.specs.Path.{begins_with_slash, normal_path_of}

-- the byte is `/`; it is `?`; it is `#`
abbrev pub is_slash : ℕ → Bool
is_slash b = b == 47

abbrev pub is_question : ℕ → Bool
is_question b = b == 63

abbrev pub is_number_sign : ℕ → Bool
is_number_sign b = b == 35

-- what follows a host of at least one byte, from the first slash on
abbrev pub after_host : List ℕ → Option (List ℕ)
after_host bytes =
    let host = position_or_len is_slash bytes in
    if nat_lt 0 host && nat_lt host (length bytes) then Some (drop host bytes) else None

-- the target from its path on: the origin-form as it is, and what follows the host of the absolute-form
abbrev pub from_path_on : List ℕ → Option (List ℕ)
from_path_on target =
    if begins_with_slash target then Some target
    else (if bytes_eq (take 7 target) (codes "http://") then after_host (drop 7 target) else None)

-- the normal path of what stands before the first `?`
abbrev pub normal_front : List ℕ → Option (List ℕ)
normal_front bytes = result_ok (normal_path_of (before_first is_question bytes))

-- the normal path that a target names, if it names one; it may not have a fragment
unfoldable pub path_of : List ℕ → Option (List ℕ)
path_of target = if list_any is_number_sign target then None else option_and_then normal_front (from_path_on target)

-- what stands behind the first `?`, if there is one
unfoldable pub query_of : List ℕ → List ℕ
query_of target = unwrap_or (option_map (after_first is_question) (from_path_on target)) []
