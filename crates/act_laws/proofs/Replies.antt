-- Laws of an act and of the replies that it is given.
use Rattle.std.proofs.Common.{ℕ, ◌+◌, ◌≡◌, ◌≤◌, List, [], ◌++◌, length, take, drop, slice_get, Option, Some, None}
use Rattle.std.proofs.Common.{refl, sym, ap, ◌∙◌, arith, append_assoc}
use Rattle.std.proofs.lemmas.List.{take-append-drop, length-take-le}
use Rattle.std.proofs.lemmas.Option.{slice_get_past}
use Rattle.vb_value.specs.declared.application.AppReply.{AppReply}
use Rattle.vb_syntax.specs.declared.act.Act.{Act}
use Rattle.vb_syntax.specs.declared.program.Program.{Program}
use Rattle.vb_meaning.specs.declared.plain_end.PlainEnd.{PlainEnd}
use Rattle.vb_meaning.specs.declared.plain_end.PlainEnd.TheVariants.{Wants, Ends as Ended}
use Rattle.vb_meaning.specs.Acts.{act_of}
use Rattle.vb_meaning.specs.Asking.{Host}
use Rattle.act_laws.specs.Calls.{Noting, noting, calls_of, wanted}
use Rattle.act_laws.specs.Laws.{RepliesBeyond, CallsInOrder, CallsStay, NotesChangeNothing}
use Rattle.act_laws.proofs.Acting.{ActsAlike, both_end, both_lack, both_want, one_wants, acts_alike}
use Rattle.act_laws.proofs.Getting.{begins_with}
use Rattle.act_laws.proofs.Links.{the_same, asks_same, the_first, asks_first}

-- ---- what follows from two acts side by side

module _ (E : Type 0) (host : Host E) (n : ℕ) where
  same_act : (first : Option PlainEnd × E) (second : Option PlainEnd × Noting E)
      → ActsAlike (the_same E host n) first second → second ≡ (first.0, (first.1, second.1.1))
  same_act _ _ (both_end done env replies other others now) = ap (λ found. (Some (Ended done), (found, other.1))) now.0
  same_act _ _ (both_lack env replies other others now) = ap (λ found. (None, (found, other.1))) now.0
  same_act _ _ (both_want call env replies other others now) = ap (λ found. (Some (Wants call), (found, other.1))) now.0
  same_act _ _ (one_wants call env other others past) = absurd past

  few_calls : (first : Option PlainEnd × E) (second : Option PlainEnd × Noting E)
      → ActsAlike (the_same E host n) first second → length second.1.1 ≤ n + 1
  few_calls _ _ (both_end done env replies other others now) = let count = now.2 in omega arith
  few_calls _ _ (both_lack env replies other others now) = let count = now.2 in omega arith
  few_calls _ _ (both_want call env replies other others now) = let count = now.1 in omega arith
  few_calls _ _ (one_wants call env other others past) = absurd past

  next_call : (more : List AppReply) (first : Option PlainEnd × E) (second : Option PlainEnd × Noting E)
      → ActsAlike (the_first E host n more) first second → wanted first.0 ≡ slice_get second.1.1 n
  next_call more _ _ (both_end done env replies other others now) =
      let count = now.2 in sym (slice_get_past other.1 n (omega arith))
  next_call more _ _ (both_lack env replies other others now) =
      let count = now.2 in sym (slice_get_past other.1 n (omega arith))
  next_call more _ _ (both_want call env replies other others now) = absurd now
  next_call more _ _ (one_wants call env other others past) = sym past

  ended_act : (more : List AppReply) (first : Option PlainEnd × E) (second : Option PlainEnd × Noting E)
      → ActsAlike (the_first E host n more) first second → wanted first.0 ≡ None
      → (second.0 ≡ first.0) × (second.1.0 ≡ first.1)
  ended_act more _ _ (both_end done env replies other others now) is = (refl, now.0)
  ended_act more _ _ (both_lack env replies other others now) is = (refl, now.0)
  ended_act more _ _ (both_want call env replies other others now) is = absurd now
  ended_act more _ _ (one_wants call env other others past) is = absurd (cc)

-- ---- the laws

module _ (E : Type 0) where
  same_acts : (host : Host E) (program : Program) (which : Act) (env : E) (replies : List AppReply)
      → ActsAlike (the_same E host (length replies)) (act_of E host program which env replies)
      (act_of (Noting E) (noting host) program which (env, []) replies)
  same_acts host program which env replies = acts_alike (the_same E host (length replies)) (λ none. none)
      (asks_same E host (length replies)) program which env replies (env, []) replies
      (refl, refl, omega arith)

  first_acts : (host : Host E) (program : Program) (which : Act) (env : E) (first more : List AppReply)
      → ActsAlike (the_first E host (length first) more) (act_of E host program which env first)
      (act_of (Noting E) (noting host) program which (env, []) (first ++ more))
  first_acts host program which env first more = acts_alike (the_first E host (length first) more) (λ none. none)
      (asks_first E host (length first) more) program which env first (env, []) (first ++ more)
      (refl, refl, omega arith)

  pub notes_nothing : NotesChangeNothing E
  notes_nothing host program which env replies = same_act E host (length replies)
      (act_of E host program which env replies) (act_of (Noting E) (noting host) program which (env, []) replies)
      (same_acts host program which env replies)

  pub in_order : CallsInOrder E
  in_order host program which env first more = next_call E host (length first) more
      (act_of E host program which env first) (act_of (Noting E) (noting host) program which (env, []) (first ++ more))
      (first_acts host program which env first more)

  pub beyond : RepliesBeyond E
  beyond host program which env replies more none =
      let ended = ended_act E host (length replies) more (act_of E host program which env replies)
      (act_of (Noting E) (noting host) program which (env, []) (replies ++ more))
      (first_acts host program which env replies more) none in
      let noted = notes_nothing host program which env (replies ++ more) in
      let how : (act_of E host program which env (replies ++ more)).0 ≡ (act_of E host program which env replies).0 =
      sym (ap (λ found. found.0) noted) ∙ ended.0 in
      let left : (act_of E host program which env (replies ++ more)).1 ≡ (act_of E host program which env replies).1 =
      sym (ap (λ found. found.1.0) noted) ∙ ended.1 in
      ap (λ found. (found, (act_of E host program which env (replies ++ more)).1)) how
      ∙ ap (λ found. ((act_of E host program which env replies).0, found)) left

  one_call : (host : Host E) (program : Program) (which : Act) (env : E) (replies more : List AppReply) (k : ℕ)
      → k ≤ length replies → slice_get (calls_of E host program which env replies) k
      ≡ slice_get (calls_of E host program which env (replies ++ more)) k
  one_call host program which env replies more k within =
      let front = take k replies in
      let few : length front ≡ k = length-take-le k replies within in
      let whole : front ++ drop k replies ≡ replies = take-append-drop k replies in
      let longer : front ++ (drop k replies ++ more) ≡ replies ++ more =
      sym (append_assoc front (drop k replies) more) ∙ ap (λ found. found ++ more) whole in
      let here = in_order host program which env front (drop k replies) in
      let there = in_order host program which env front (drop k replies ++ more) in
      let one : wanted (act_of E host program which env front).0
      ≡ slice_get (calls_of E host program which env replies) k = rw (whole, few) at here in
      let two : wanted (act_of E host program which env front).0
      ≡ slice_get (calls_of E host program which env (replies ++ more)) k = rw (longer, few) at there in
      sym one ∙ two

  pub stay : CallsStay E
  stay host program which env replies more = begins_with (calls_of E host program which env replies)
      (calls_of E host program which env (replies ++ more)) (length replies)
      (few_calls E host (length replies) (act_of E host program which env replies)
      (act_of (Noting E) (noting host) program which (env, []) replies) (same_acts host program which env replies))
      (one_call host program which env replies more)
