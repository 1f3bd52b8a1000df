-- A text has one list of tokens at most, or one fault.
use Rattle.std.proofs.Common.{◌≡◌, ℕ, ◌<◌, List, [], ◌∷◌, ◌++◌, Ok, Err, Result, IfOk, length, refl, sym, ap, ◌∙◌}
use Rattle.std.proofs.Common.{subst, arith}
use Rattle.vb_value.specs.Outcome.{Answers, OnFault}
use Rattle.vb_value.specs.declared.stop.Stop.{Stop}
use Rattle.vb_value.specs.declared.stop.Stop.TheVariants as stop
use Rattle.vb_value.specs.declared.token.Token.{Token}
use Rattle.vb_lex.specs.declared.fault.LexFault.{LexFault}
use Rattle.vb_lex.specs.declared.piece.Piece.{Piece}
use Rattle.vb_lex.specs.declared.piece.Piece.TheVariants.{Fault}
use Rattle.vb_lex.specs.declared.place.Place.{Place}
use Rattle.vb_lex.specs.Places.{first_place, past}
use Rattle.vb_lex.specs.Tokens.{FaultsAt, IsCut, IsTaken, Reaches, Tokenizes, edge, piece_at, tokens_from}

-- No piece goes on from the place.
abbrev Stops : List ℕ → Place → Type 0
Stops text place = place.at < length text → IsTaken (piece_at text place) → ⊥

stops_whole : (text : List ℕ) (place : Place) → place.at ≡ length text → Stops text place
stops_whole text place whole within taken = omega arith

stops_fault : (text : List ℕ) (place : Place) (fault : LexFault) → piece_at text place ≡ Fault fault
    → Stops text place
stops_fault text place fault faulty within taken = subst IsTaken faulty taken

-- from one place on the text is cut in one way
cut_one : (text : List ℕ) (from : Place) (pieces others : List Piece) (to end : Place)
    → IsCut text from pieces to → IsCut text from others end → Stops text to → Stops text end
    → (pieces ≡ others) × (to ≡ end)
cut_one text from [] [] to end cut other stops ends = (refl, sym cut ∙ other)
cut_one text from [] (two ∷ others) to end cut other stops ends =
    let Stop : Place → Type 0 = λ p. Stops text p in
    absurd (subst Stop (sym cut) stops other.0 (subst IsTaken (sym other.1) other.2))
cut_one text from (one ∷ pieces) [] to end cut other stops ends =
    let Stop : Place → Type 0 = λ p. Stops text p in
    absurd (subst Stop (sym other) ends cut.0 (subst IsTaken (sym cut.1) cut.2))
cut_one text from (one ∷ pieces) (two ∷ others) to end cut other stops ends =
    let same : one ≡ two = sym cut.1 ∙ other.1 in
    let Rest : Piece → Type 0 = λ p. IsCut text (past text from p) others end in
    let rest = cut_one text (past text from one) pieces others to end cut.3 (subst Rest
    (sym same) other.3) stops ends in
    (ap (λ p. p ∷ pieces) same ∙ ap (λ ps. two ∷ ps) rest.0, rest.1)

reaches_one : (text : List ℕ) (tokens others : List Token) (to end : Place)
    → Reaches text tokens to → Reaches text others end → Stops text to → Stops text end
    → (tokens ≡ others) × (to ≡ end)
reaches_one text tokens others to end one two stops ends =
    let same = cut_one text first_place one.pieces two.pieces to end one.cut two.cut stops ends in
    (one.spelled ∙ ap (λ ps. edge first_place ∷ tokens_from text first_place ps) same.0 ∙ sym two.spelled, same.1)

pub tokens_one : (text : List ℕ) (tokens others : List Token) → Tokenizes text tokens → Tokenizes text others
    → tokens ≡ others
tokens_one text tokens others one two =
    let same = reaches_one text one.before two.before one.last two.last one.reaches two.reaches
    (stops_whole text one.last one.whole) (stops_whole text two.last two.whole) in
    one.spelled ∙ ap (λ ts. ts ++ edge one.last ∷ []) same.0 ∙ ap (λ p. two.before ++ edge p ∷ []) same.1
    ∙ sym two.spelled

pub fault_one : (text : List ℕ) (fault other : LexFault) (line number : ℕ) → FaultsAt text fault line
    → FaultsAt text other number → (fault ≡ other) × (line ≡ number)
fault_one text fault other line number one two =
    let same = reaches_one text one.before two.before one.last two.last one.reaches two.reaches
    (stops_fault text one.last fault one.faulty) (stops_fault text two.last other two.faulty) in
    let faults : Fault fault ≡ Fault other = sym one.faulty ∙ ap (λ p. piece_at text p) same.1 ∙ two.faulty in
    (cc, one.line_is ∙ ap (λ (p : Place). p.line) same.1 ∙ sym two.line_is)

pub tokens_or_fault : (text : List ℕ) (tokens : List Token) (fault : LexFault) (line : ℕ) → Tokenizes text tokens
    → FaultsAt text fault line → ⊥
tokens_or_fault text tokens fault line one two =
    let same = reaches_one text one.before two.before one.last two.last one.reaches two.reaches
    (stops_whole text one.last one.whole) (stops_fault text two.last fault two.faulty) in
    let at = ap (λ (p : Place). p.at) same.1 in
    let whole = one.whole in
    let within = two.within in
    omega arith

-- what a call answers whose Ok and faults are right
pub only_tokens : (text : List ℕ) (result : Result (List Token) (Stop LexFault)) → IfOk result (Tokenizes text)
    → OnFault result (FaultsAt text) → (tokens : List Token) → Tokenizes text tokens
    → Answers result stop.Memory (Ok tokens)
only_tokens text (Ok found) right faulty tokens is = ap (λ ts. Ok ts) (tokens_one text tokens found is right)
only_tokens text (Err stop.Memory) right faulty tokens is = λ differs. absurd (differs refl)
only_tokens text (Err (stop.Fault fault line)) right faulty tokens is =
    absurd (tokens_or_fault text tokens fault line is faulty)

pub only_fault : (text : List ℕ) (result : Result (List Token) (Stop LexFault)) → IfOk result (Tokenizes text)
    → OnFault result (FaultsAt text) → (fault : LexFault) (line : ℕ) → FaultsAt text fault line
    → Answers result stop.Memory (Err (stop.Fault fault line))
only_fault text (Ok found) right faulty fault line is = absurd (tokens_or_fault text found fault line right is)
only_fault text (Err stop.Memory) right faulty fault line is = λ differs. absurd (differs refl)
only_fault text (Err (stop.Fault other number)) right faulty fault line is =
    let same = fault_one text fault other line number is faulty in
    λ _. ap (λ f. Err (stop.Fault f line)) same.0 ∙ ap (λ n. Err (stop.Fault other n)) same.1
