-- What each kind of atomic step tells the seat that makes it: n is the seat after a step of the seat m.
use Rattle.std.specs.Prelude.{◌≡◌, ℕ, suc, zero, ◌%◌, ◌<◌, ◌==◌, MatchBool, List, [], ◌∷◌, ◌++◌, length}
use Rattle.std.specs.Prelude.{Option, Some, None}
use Rattle.atomic_table.specs.Table.{Me}
use Rattle.turn_desk.specs.declared.view.Known.{Known}
use Rattle.turn_desk.specs.declared.view.Stage.{Stage}
use Rattle.turn_desk.specs.declared.view.Stage.TheVariants.{Idle, Waiting, Serving}
use Rattle.turn_desk.specs.declared.view.View.{View}
use Rattle.turn_desk.specs.Histories.{own_part, Agrees}
use Rattle.turn_desk.specs.Rule.{known, view}

-- the ticket of a seat that has one
abbrev pub ticket_of : Stage → ℕ
ticket_of Idle = 0
ticket_of (Waiting ticket) = ticket
ticket_of (Serving ticket) = ticket

module _ {E : Type 0} where
  -- the number of a seat's first lane, what that has seen, and its own entries
  abbrev pub number_of : List (Known E) → ℕ
  number_of [] = 0
  number_of (lane ∷ lanes) = lane.number

  abbrev pub seen_of : List (Known E) → List E
  seen_of [] = []
  seen_of (lane ∷ lanes) = lane.seen

  abbrev pub own_of : List (Known E) → List E
  own_of [] = []
  own_of (lane ∷ lanes) = lane.own

  -- the first of some lanes alone, and the others
  abbrev pub first_lane : List (Known E) → List (Known E)
  first_lane [] = []
  first_lane (lane ∷ lanes) = lane ∷ []

  abbrev pub other_lanes : List (Known E) → List (Known E)
  other_lanes [] = []
  other_lanes (lane ∷ lanes) = lanes

-- ---- seats

module _ {S E F : Type 0} where
  -- a seat with one lane: without a ticket, with one, and with the turn and what the slot then holds
  abbrev pub idle : Known E → Option F → Me (Option S) (View E F)
  idle lane fixed = (view (lane ∷ []) Idle fixed, [])

  abbrev pub waits : Known E → ℕ → Option F → Me (Option S) (View E F)
  waits lane ticket fixed = (view (lane ∷ []) (Waiting ticket) fixed, [])

  abbrev pub serves : Known E → ℕ → Option F → Option S → Me (Option S) (View E F)
  serves lane ticket fixed held = (view (lane ∷ []) (Serving ticket) fixed, (0, held) ∷ [])

-- a seat with one lane and without a ticket
abbrev pub IsIdle : {S E F : Type 0} → Me (Option S) (View E F) → Type 0
IsIdle {S} {E} {F} m = (lane : Known E) × (fixed : Option F) × (m ≡ idle lane fixed)

-- a seat with one lane and a ticket, of which the lane holds the low half
abbrev pub IsWaiting : {S E F : Type 0} → ℕ → Me (Option S) (View E F) → Type 0
IsWaiting {S} {E} {F} low m =
    (lane : Known E) × (ticket : ℕ) × (fixed : Option F) × (m ≡ waits lane ticket fixed) × (low ≡ ticket % 4294967296)

-- a seat with some lanes and without a ticket
abbrev pub IsAtRest : {S E F : Type 0} → Me (Option S) (View E F) → Type 0
IsAtRest m = (m ≡ (view m.0.lanes Idle m.0.fixed, [])) × (0 < length m.0.lanes)

-- ---- split and join

module _ {E : Type 0} (lane_of : E → ℕ) where
  -- so many lanes, numbered from this number on, which have seen all of a history
  abbrev pub fresh_lanes : List E → ℕ → ℕ → List (Known E)
  fresh_lanes history number zero = []
  fresh_lanes history number (suc count) =
      known number history (own_part lane_of number history) ∷ fresh_lanes history (suc number) count

-- lanes numbered from this number on, each with its own entries of what it has seen
abbrev pub Numbered : {E : Type 0} → (E → ℕ) → ℕ → List (Known E) → Type 0
Numbered lane_of number [] = Unit {0}
Numbered lane_of number (lane ∷ lanes) =
    (lane.number ≡ number) × (own_part lane_of lane.number lane.seen ≡ lane.own) × Numbered lane_of (suc number) lanes

module _ {E F : Type 0} where
  -- split: the first lane goes to a seat of its own, and the others stay
  abbrev pub split_off : View E F → View E F
  split_off v = view (first_lane v.lanes) Idle v.fixed

  abbrev pub left_behind : View E F → View E F
  left_behind v = view (other_lanes v.lanes) v.stage v.fixed

  -- join: the lanes of the second seat come before those of the first
  abbrev pub joined : View E F → View E F → View E F
  joined v w = view (w.lanes ++ v.lanes) v.stage v.fixed

  -- a seat without lanes
  abbrev pub blank : View E F
  blank = view [] Idle None

-- ---- draw, look and raise

module _ {E F : Type 0} where
  -- a seat with a ticket; with the turn, having seen this history; and behind its turn
  abbrev pub with_ticket : View E F → ℕ → View E F
  with_ticket v ticket = view v.lanes (Waiting ticket) v.fixed

  abbrev pub in_turn : View E F → List E → View E F
  in_turn v history = view (known (number_of v.lanes) history (own_of v.lanes) ∷ []) (Serving (ticket_of v.stage))
      v.fixed

  abbrev pub behind_turn : (E → ℕ) → View E F → List E → View E F
  behind_turn lane_of v history =
      view (known (number_of v.lanes) history (own_part lane_of (number_of v.lanes) history) ∷ []) Idle v.fixed

module _ {S E F : Type 0} where
  -- draw: the number found is the ticket
  abbrev pub Draws : Me (Option S) (View E F) → ℕ → Me (Option S) (View E F) → Type 0
  Draws m found n = (ticket : ℕ) × (found ≡ ticket % 18446744073709551616) × (n ≡ (with_ticket m.0 ticket, m.1))

module _ {S E F : Type 0} (lane_of : E → ℕ) (entries : S → List E) (fixed : S → F) where
  -- the state that a lane finds in its turn: its history agrees with what the lane knew, and its fixed part is known
  abbrev pub IsFound : View E F → S → Type 0
  IsFound v state =
      Agrees lane_of (entries state) (number_of v.lanes) (seen_of v.lanes) (own_of v.lanes)
      × (Some (fixed state) ≡ v.fixed) × (length (entries state) < 4294967296)

  -- the turn has come: the slot is out with the seat
  abbrev pub HasTurn : Me (Option S) (View E F) → Me (Option S) (View E F) → Type 0
  HasTurn m n = (state : S) × (n ≡ (in_turn m.0 (entries state), (0, Some state) ∷ [])) × IsFound m.0 state

  -- look: the low half of the number found says whether the turn has come
  abbrev pub Looks : Me (Option S) (View E F) → ℕ → Me (Option S) (View E F) → Type 0
  Looks m found n = MatchBool (found % 4294967296 == ticket_of m.0.stage % 4294967296) (HasTurn m n) (n ≡ m)

  -- state out: the slot is empty, and the state with the lane
  abbrev pub TakesTurn : Me (Option S) (View E F) → S → Me (Option S) (View E F) → Type 0
  TakesTurn m state n = (n ≡ (in_turn m.0 (entries state), (0, None) ∷ [])) × IsFound m.0 state

  -- raise: the history of the state in the slot is the desk's from now on
  abbrev pub Raises : Me (Option S) (View E F) → Me (Option S) (View E F) → Type 0
  Raises m n = (state : S) × (m.1 ≡ (0, Some state) ∷ []) × (n ≡ (behind_turn lane_of m.0 (entries state), []))
