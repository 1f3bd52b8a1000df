-- The definition of a front agrees with the shortest prefix that decides.
use Rattle.std.proofs.Common.{◌≡◌, ℕ, true, false, cond, ◌<◌, ◌≤◌, List, [], ◌++◌, length, take, drop, refl, sym, ap}
use Rattle.std.proofs.Common.{subst, ◌∙◌, arith, inl, inr, append_assoc, append-nil, length-append, length-take}
use Rattle.std.proofs.Common.{length-drop}
use Rattle.std.specs.Prelude.{nat_lt}
use Rattle.std.proofs.lemmas.List.{take-append-le, take-append-drop, take_at}
use Rattle.std.proofs.lemmas.Bool.Decides.{nat_tests}
use Rattle.std.proofs.str.Laws.{order}
use mathlib.Core.Logic.{⊎_elim}
use Rattle.httparse.specs.Grammar.{RequestHead, print_request, ReadsRequest, NeverHasRequest}
use Rattle.httparse.proofs.GrammarLemmas.{request_unique, ReadsRequest-append}
use Rattle.http_front.specs.Status.{status_of}
use Rattle.http_front.specs.Front.{Opening, Unfinished, Hopeless, Whole, window, BeginsHead, IsOpening, Front, More}
use Rattle.http_front.specs.Front.{Refused, answered, front_of, IsFront}
use Rattle.http_front.specs.Shortest.{IsWhole, BeginsNone, Decides, IsByShortest}
use Rattle.http_front.proofs.Fronts.{not_both, not_hopeless}

-- of two prefixes the longer one begins with the shorter
pub longer_prefix : (a b c d : List ℕ) → a ++ b ≡ c ++ d → length a ≤ length c → c ≡ a ++ drop (length a) c
longer_prefix a b c d e short =
    let front : take (length a) c ≡ a =
    sym (take-append-le (length a) c d short) ∙ ap (take (length a)) (sym e) ∙ take_at a b (length a) refl in
    sym (take-append-drop (length a) c) ∙ ap (λ l. l ++ drop (length a) c) front

-- a prefix of at most 16,384 bytes stands at the window's front
in_window : (bytes prefix rest : List ℕ) → bytes ≡ prefix ++ rest → length prefix ≤ 16384
    → window bytes ≡ prefix ++ drop (length prefix) (window bytes)
in_window bytes prefix rest split short =
    longer_prefix prefix rest (window bytes) (drop 16384 bytes) (sym split ∙ sym (take-append-drop 16384 bytes))
    (omega (arith, length-take 16384 bytes, ap length split, length-append prefix rest))

-- what begins a longer head does not decide
open_decides_not : (p : List ℕ) → BeginsHead p → length p ≤ 16384 → Decides p → ⊥
open_decides_not p b short (inl whole) = not_both p [] whole.0 whole.1 b
open_decides_not p b short (inr (inl none)) = none b.1 b.0 b.3
open_decides_not p b short (inr (inr long)) = omega arith

opens_front : (w p s : List ℕ) → w ≡ p ++ s → BeginsHead w → BeginsHead p
opens_front w p s split b = (
  s ++ b.0,
  b.1,
  omega (arith, length-append s b.0, b.2),
  (b.3.0, sym (append_assoc p s b.0) ∙ ap (λ l. l ++ b.0) (sym split) ∙ b.3.1),
)

never_begins : (w : List ℕ) → NeverHasRequest w → BeginsNone w
never_begins w never h more reads = never more h [] reads

whole_head : (h : RequestHead) (bytes after : List ℕ) → ReadsRequest bytes h after → IsWhole (print_request h)
whole_head h bytes after reads = (h, (reads.0, sym (append-nil (print_request h))))

-- ---- where the window is the beginning of a head

unfinished : (bytes : List ℕ) → IsOpening bytes Unfinished → IsByShortest bytes (front_of (length bytes) Unfinished)
unfinished bytes opens = record {
  some = λ prefix rest s.
      let short_not : length prefix < 16385 → ⊥ = λ short.
      open_decides_not prefix (opens_front (window bytes) prefix _ (in_window bytes prefix rest s.split (omega arith))
      opens) (omega arith) s.decides in record {
        long = λ is. ap (λ t. cond t (Refused 431) More)
            (let many : 16384 < length bytes = omega (arith, ap length s.split, length-append prefix rest) in
            let test : nat_lt 16384 (length bytes) ≡ true = grind (arith, nat_tests) in test);
        none = λ short _. absurd (short_not short);
        whole = λ short _ _. absurd (short_not short);
      };
  none = λ never.
      ⊎_elim
      (λ (p : length bytes < 16385). ap (λ t. cond t (Refused 431) More)
      (let test : nat_lt 16384 (length bytes) ≡ false = grind (arith, nat_tests) in test))
      (λ (p : 16385 ≤ length bytes).
      absurd (never (take 16385 bytes) (drop 16385 bytes) (sym (take-append-drop 16385 bytes))
      (inr (inr (omega (arith, length-take 16385 bytes))))))
      (order (length bytes) 16385);
}

-- ---- where no head can come of it

hopeless : (bytes : List ℕ) → IsOpening bytes Hopeless → IsByShortest bytes (Refused 400)
hopeless bytes never = record {
  some = λ prefix rest s. record {
    long = λ is.
        let w = window bytes in
        let size : length w ≡ 16384 = omega (arith, length-take 16384 bytes, ap length s.split, length-append prefix rest) in
        let split = longer_prefix w (drop 16384 bytes) prefix rest (take-append-drop 16384 bytes ∙ s.split) (omega arith) in
        absurd (s.shortest w (drop (length w) prefix) split (omega (arith, length-drop (length w) prefix))
        (inr (inl (never_begins w never))));
    none = λ short _. refl;
    whole = λ short h reads.
        let split = in_window bytes prefix rest s.split (omega arith) in
        let w = window bytes in
        absurd (not_hopeless w (drop (length prefix) w) h
        (subst (λ l. ReadsRequest l h (drop (length prefix) w)) (sym split)
        (ReadsRequest-append prefix h [] (drop (length prefix) w) reads)) never);
  };
  none = λ each. absurd (each (window bytes) (drop 16384 bytes) (sym (take-append-drop 16384 bytes))
      (inr (inl (never_begins (window bytes) never))));
}

-- ---- where a head stands at the front

whole : (bytes after : List ℕ) (h : RequestHead) → IsOpening bytes (Whole h after)
    → IsByShortest bytes (answered (status_of h) h after)
whole bytes after h opens =
    let p = print_request h in record {
      some = λ prefix rest s.
          let past : length p < length prefix → ⊥ = λ longer.
          let split = longer_prefix p after prefix rest (sym opens.0.1 ∙ s.split) (omega arith) in
          s.shortest p (drop (length p) prefix) split (omega (arith, length-drop (length p) prefix))
          (inl (whole_head h bytes after opens.0)) in record {
            long = λ is. absurd (past (omega (arith, opens.1)));
            none = λ short begins.
                ⊎_elim (λ (q : length p < length prefix). absurd (past q))
                (λ (q : length prefix ≤ length p).
                let split = longer_prefix prefix rest p after (sym s.split ∙ opens.0.1) q in
                absurd (begins h (drop (length prefix) p) (opens.0.0, sym split ∙ sym (append-nil p))))
                (order (length p) (length prefix));
            whole = λ short k reads.
                let there : ReadsRequest bytes k rest =
                (reads.0, s.split ∙ ap (λ l. l ++ rest) (reads.1 ∙ append-nil (print_request k))) in
                let same = request_unique bytes h k after rest opens.0 there in
                λ i. answered (status_of (same.0 i)) (same.0 i) (same.1 i);
          };
      none = λ each. absurd (each p after opens.0.1 (inl (whole_head h bytes after opens.0)));
    }

by_opening : (bytes : List ℕ) (o : Opening) → IsOpening bytes o → IsByShortest bytes (front_of (length bytes) o)
by_opening bytes Unfinished opens = unfinished bytes opens
by_opening bytes Hopeless opens = hopeless bytes opens
by_opening bytes (Whole h after) opens = whole bytes after h opens

-- What bytes give first is what the shortest prefix that decides gives.
pub front_by_shortest : (bytes : List ℕ) (front : Front) → IsFront bytes front → IsByShortest bytes front
front_by_shortest bytes front x = subst (IsByShortest bytes) (sym x.gives) (by_opening bytes x.opening x.opens)
