use Rattle.std.proofs.Common.{◌∙◌, ℕ, List, Option, Bor, ap, sym}
use Rattle.std.specs.Option.{option_map}
use Rattle.asp_session.specs.Letters.{key_of_letters}
use Rattle.asp_core.specs.Cookie as spec
use Rattle.asp_core.proofs.cookie.key_in_piece.Goals as goal

pub returns-in-Some : goal.returns-in-Some
returns-in-Some c =
    c.key_of_letters.ensures
    ∙ ap (λ (letters : List ℕ). key_of_letters c.args.seed.now letters) c.letters_in.ensures
    ∙ ap (λ (one : Option (Bor (List ℕ))). spec.key_in_piece c.args.seed.now (option_map (λ piece. piece.now) one))
    (sym c.in-Some.is)
