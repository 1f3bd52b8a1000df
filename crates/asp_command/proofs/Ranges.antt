-- The numbers that options say are such as they may have.
use Rattle.std.proofs.Common.{◌≡◌, ℕ, ◌≤◌, Bool, List, [], ◌∷◌, Option, Some, None, IfSome, unwrap_or, arith, sym, subst}
use Rattle.asp_command.specs.declared.options.Options.{Options}
use Rattle.asp_command.specs.declared.options.Said.{Said}
use Rattle.asp_command.specs.declared.options.Said.TheVariants as said
use Rattle.asp_command.specs.Words.{HasRange, SayFurther, SaysReplay, SaysServe, no_options, with_option}

-- the number is not 0, and not greater than the most
abbrev IsWithin : ℕ → ℕ → Type 0
IsWithin most number = (1 ≤ number) × (number ≤ most)

-- each option that was said has a number that it may have
abbrev HaveRanges : Options → Type 0
HaveRanges options = IfSome options.workers (IsWithin 16) × IfSome options.requests (IsWithin 100000)
    × IfSome options.port (IsWithin 65535)

with_range : (before : Options) (option : Said) → HaveRanges before → HasRange option
    → HaveRanges (with_option before option)
with_range before said.Journal have range = have
with_range before said.StrictLock have range = have
with_range before (said.Workers number) have range = (range, have.1, have.2)
with_range before (said.Requests number) have range = (have.0, range, have.2)
with_range before (said.Port number) have range = (have.0, have.1, range)

have_ranges : (before : Options) (said : List Said) (words : List (List ℕ)) (all : Options) → HaveRanges before
    → SayFurther before said words all → HaveRanges all
have_ranges before [] words all have say = subst HaveRanges (sym say.1) have
have_ranges before (option ∷ more) words all have say = have_ranges (with_option before option) more say.2.0 all
    (with_range before option have say.1) say.2.2

or_within : (most unsaid : ℕ) (said : Option ℕ) → IsWithin most unsaid → IfSome said (IsWithin most)
    → IsWithin most (unwrap_or said unsaid)
or_within most unsaid None usual have = usual
or_within most unsaid (Some number) usual have = have

some_within : (most number : ℕ) (said : Option ℕ) → said ≡ Some number → IfSome said (IsWithin most)
    → IsWithin most number
some_within most number said is have = subst (λ (said : Option ℕ). IfSome said (IsWithin most)) is have

-- that of `replay`
pub replay_within : (words : List (List ℕ)) (site : List ℕ) (workers : ℕ) (journal strict : Bool)
    → SaysReplay words site workers journal strict → (1 ≤ workers) × (workers ≤ 16)
replay_within words site workers journal strict says =
    let have = have_ranges no_options says.are_options.0 says.behind says.options (tt, tt, tt) says.are_options.1 in
    subst (IsWithin 16) (sym says.workers_are)
    (or_within 16 4 says.options.workers (omega arith, omega arith) have.0)

-- those of `serve`
pub serve_within : (words : List (List ℕ)) (site : List ℕ) (requests workers port : ℕ) (strict : Bool)
    → SaysServe words site requests workers port strict
    → (1 ≤ requests) × (requests ≤ 100000) × (1 ≤ workers) × (workers ≤ 16) × (1 ≤ port) × (port ≤ 65535)
serve_within words site requests workers port strict says =
    let have = have_ranges no_options says.are_options.0 says.behind says.options (tt, tt, tt) says.are_options.1 in
    let asked = some_within 100000 requests says.options.requests says.requests_are have.1 in
    let few = subst (IsWithin 16) (sym says.workers_are)
    (or_within 16 4 says.options.workers (omega arith, omega arith) have.0) in
    let there = subst (IsWithin 65535) (sym says.port_is)
    (or_within 65535 8080 says.options.port (omega arith, omega arith) have.2) in
    (asked.0, asked.1, few.0, few.1, there.0, there.1)
