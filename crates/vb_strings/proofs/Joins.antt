-- Texts one behind another, one text further.
use Rattle.std.proofs.Common.{◌≡◌, ℕ, ◌+◌, ◌<◌, List, [], ◌∷◌, ◌++◌, length, get_or, take, ap, ◌∙◌}
use Rattle.std.proofs.Common.{append-nil, append_assoc, length-append}
use Rattle.std.proofs.lemmas.List.{take_more}
use Rattle.std.proofs.lemmas.List.Concat.{flat_map-append}
use Rattle.vb_strings.specs.Joining.{behind}

pub behind_more : (separator : List ℕ) (texts : List (List ℕ)) (at : ℕ) (d : List ℕ) → at < length texts
    → behind separator (take (at + 1) texts) ≡ behind separator (take at texts) ++ (separator ++ get_or texts at d)
behind_more separator texts at d within =
    ap (behind separator) (take_more texts at d within)
    ∙ flat_map-append (λ text. separator ++ text) (take at texts) (get_or texts at d ∷ [])
    ∙ simp append-nil

-- the text made so far, and one more behind a separator
pub together_more : (first separator : List ℕ) (others : List (List ℕ)) (at : ℕ) (d : List ℕ) → at < length others
    → first ++ behind separator (take at others) ++ separator ++ get_or others at d
    ≡ first ++ behind separator (take (at + 1) others)
together_more first separator others at d within = rw (behind_more separator others at d within) (simp append_assoc)

-- the length so far, and that of one more behind a separator
pub length_more : (separator : List ℕ) (texts : List (List ℕ)) (at : ℕ) (d : List ℕ) → at < length texts
    → length (behind separator (take (at + 1) texts))
    ≡ length (behind separator (take at texts)) + (length separator + length (get_or texts at d))
length_more separator texts at d within =
    ap length (behind_more separator texts at d within) ∙ simp length-append
