-- What is kept of the cookies of a request.
use Rattle.std.specs.Prelude.{◌≡◌, ℕ, List, map}
use Rattle.std.specs.BTreeMap.{get}
use Rattle.std.specs.Cmp.Lexicographic.{slice_cmp}
use Rattle.std.specs.Ordering.{nat_cmp}
use Rattle.vb_value.specs.Folding.{folded}
use Rattle.asp_request.specs.declared.cookies.Cookies.{Cookies}
use Rattle.asp_request.specs.Collection.{Collects}
use Rattle.asp_request.specs.Pairs.{Pair, firsts, first_of, values_in}
use Rattle.asp_request.specs.Request.{with_decoded}

-- what is kept has the first pair of each name, and beside each name the value as it was written
pub record CollectsCookies (kept : Cookies) (pairs : List Pair) : Type 0 where
  pub first : Collects kept.kept (map with_decoded (firsts pairs))
  pub raw : (name : List ℕ) → get (slice_cmp nat_cmp) kept.raw (folded name) ≡ first_of (values_in pairs name)
