-- Records of answers, one behind the other.
use Rattle.std.proofs.Common.{ℕ, List, [], ◌∷◌, ◌++◌, refl, ap, sym, ◌∙◌, subst, append_assoc, append-nil}
use Rattle.asp_feed.specs.Shown.{AreRecords, IsRecord, Shown}

pub records_both : (earlier later : List Shown) (front back : List ℕ) → AreRecords earlier front
    → AreRecords later back → AreRecords (earlier ++ later) (front ++ back)
records_both [] later front back none are = subst (AreRecords later) (sym (ap (λ bytes. bytes ++ back) none)) are
records_both (first ∷ rest) later front back before are =
    let one = before.0 in
    let others = before.1 in
    let bytes = ap (λ bytes. bytes ++ back) before.4 ∙ append_assoc one others back in
    (one, others ++ back, before.2, records_both rest later others back before.3 are, bytes)

pub records_one : (shown : Shown) (bytes : List ℕ) → IsRecord shown bytes → AreRecords (shown ∷ []) bytes
records_one shown bytes is = (bytes, [], is, refl, sym (append-nil bytes))

-- one record more
pub records_more : (earlier : List Shown) (shown : Shown) (front back : List ℕ) → AreRecords earlier front
    → IsRecord shown back → AreRecords (earlier ++ shown ∷ []) (front ++ back)
records_more earlier shown front back before is =
    records_both earlier (shown ∷ []) front back before (records_one shown back is)
