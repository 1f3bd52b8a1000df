-- What the lines of a journal are read as, from the front of bytes.
use Rattle.std.specs.Prelude.{ℕ, List, [], ◌∷◌, length, Option, Some, None, if◌then◌else◌, nat_lt, ◌==◌, codes}
use Rattle.vb_value.specs.declared.application.AppCall.{AppCall}
use Rattle.vb_value.specs.declared.application.AppCall.TheVariants as call
use Rattle.vb_value.specs.declared.application.AppReply.{AppReply}
use Rattle.vb_value.specs.declared.application.AppReply.TheVariants as reply
use Rattle.asp_job.specs.declared.entry.EndKind.{EndKind}
use Rattle.asp_job.specs.declared.entry.EndKind.TheVariants as kind
use Rattle.asp_job.specs.declared.job.Work.TheVariants as work
use Rattle.asp_record.specs.declared.journal.Line.{Line}
use Rattle.asp_record.specs.declared.journal.LineWhat.{LineWhat}
use Rattle.asp_record.specs.declared.journal.LineWhat.TheVariants as what
use Rattle.asp_record.specs.Fields.{◌>>=◌, behind, marked_at}
use Rattle.asp_record.specs.ReadingValues.{long_at, more_at, name_at, value_at}

-- what is read behind a word, where it stands there, and something else where it does not
abbrev pub choose : {A : Type 0} → Option (List ℕ) → (List ℕ → Option A) → Option A → Option A
choose (Some rest) read other = read rest
choose None read other = other

-- ---- numbers

-- a number of 32 bits, and a word behind it
unfoldable pub narrow_at : List ℕ → List ℕ → Option (ℕ × List ℕ)
narrow_at word bytes = do
  n ← marked_at word bytes
  if nat_lt n.0 4294967296 then Some n else None

-- one of 16 bits
unfoldable pub short_at : List ℕ → List ℕ → Option (ℕ × List ℕ)
short_at word bytes = do
  n ← marked_at word bytes
  if nat_lt n.0 65536 then Some n else None

-- ---- calls and replies

unfoldable pub named_at : (List ℕ → AppCall) → List ℕ → Option (AppCall × List ℕ)
named_at made bytes = do
  name ← name_at bytes
  Some (made name.0, name.1)

unfoldable pub put_at : List ℕ → Option (AppCall × List ℕ)
put_at bytes = do
  name ← name_at bytes
  rest ← behind (codes " ") name.1
  value ← value_at 64 rest
  Some (call.Put name.0 value.0, value.1)

unfoldable pub key_at : List ℕ → Option (AppCall × List ℕ)
key_at bytes = do
  place ← long_at bytes
  Some (call.KeyAt place.0, place.1)

-- a call of one word
unfoldable pub word_call_at : List ℕ → Option (AppCall × List ℕ)
word_call_at bytes =
    choose (behind (codes "removeall") bytes) (λ rest. Some (call.RemoveAll, rest)) (
    choose (behind (codes "count") bytes) (λ rest. Some (call.Count, rest)) (
    choose (behind (codes "names") bytes) (λ rest. Some (call.Names, rest)) (
    choose (behind (codes "lock") bytes) (λ rest. Some (call.Lock, rest)) (
    choose (behind (codes "unlock") bytes) (λ rest. Some (call.Unlock, rest)) None))))

unfoldable pub call_at : List ℕ → Option (AppCall × List ℕ)
call_at bytes =
    choose (behind (codes "get ") bytes) (named_at call.Get) (
    choose (behind (codes "put ") bytes) put_at (
    choose (behind (codes "remove ") bytes) (named_at call.Remove) (
    choose (behind (codes "keyat ") bytes) key_at (word_call_at bytes))))

-- names behind the word `names`, with the end of the line
unfoldable pub names_at : List ℕ → Option (AppReply × List ℕ)
names_at bytes =
    choose (behind (codes "\n") bytes) (λ rest. Some (reply.Names [], rest)) (do
      rest ← behind (codes " ") bytes
      names ← more_at name_at (codes "\n") (length rest) rest
      Some (reply.Names names.0, names.1))

unfoldable pub number_reply_at : List ℕ → Option (AppReply × List ℕ)
number_reply_at bytes = do
  n ← long_at bytes
  rest ← behind (codes "\n") n.1
  Some (reply.Number n.0, rest)

unfoldable pub name_reply_at : List ℕ → Option (AppReply × List ℕ)
name_reply_at bytes = do
  name ← name_at bytes
  rest ← behind (codes "\n") name.1
  Some (reply.Name name.0, rest)

unfoldable pub value_reply_at : List ℕ → Option (AppReply × List ℕ)
value_reply_at bytes = do
  value ← value_at 64 bytes
  rest ← behind (codes "\n") value.1
  Some (reply.Value value.0, rest)

-- a reply of one word, or a value
unfoldable pub word_reply_at : List ℕ → Option (AppReply × List ℕ)
word_reply_at bytes =
    choose (behind (codes "noname\n") bytes) (λ rest. Some (reply.NoName, rest)) (
    choose (behind (codes "done\n") bytes) (λ rest. Some (reply.Done, rest)) (
    choose (behind (codes "full\n") bytes) (λ rest. Some (reply.Full, rest)) (value_reply_at bytes)))

-- a reply, with the end of the line
unfoldable pub reply_at : List ℕ → Option (AppReply × List ℕ)
reply_at bytes =
    choose (behind (codes "number ") bytes) number_reply_at (
    choose (behind (codes "name ") bytes) name_reply_at (
    choose (behind (codes "names") bytes) names_at (word_reply_at bytes)))

-- ---- what stands behind the lane and the run

-- the key of a session, and the end of the line
unfoldable pub session_key_at : List ℕ → Option (ℕ × List ℕ)
session_key_at bytes = do
  key ← narrow_at (codes "\n") bytes
  if nat_lt 0 key.0 then Some key else None

unfoldable pub queue_at : ℕ → List ℕ → Option (LineWhat × List ℕ)
queue_at run bytes =
    choose (behind (codes "start\n") bytes) (λ rest. Some (what.Queue run work.Start 0, rest)) (
    choose (behind (codes "stop\n") bytes) (λ rest. Some (what.Queue run work.Stop 0, rest)) (do
      rest ← behind (codes "end ") bytes
      key ← session_key_at rest
      Some (what.Queue run work.SessionEnd key.0, key.1)))

unfoldable pub admit_at : ℕ → List ℕ → Option (LineWhat × List ℕ)
admit_at run bytes = do
  key ← narrow_at (codes " ") bytes
  moment ← marked_at (codes "\n") key.1
  Some (what.Admit run key.0 moment.0, moment.1)

unfoldable pub refuse_at : ℕ → List ℕ → Option (LineWhat × List ℕ)
refuse_at run bytes = do
  moment ← marked_at (codes "\n") bytes
  Some (what.Refuse run moment.0, moment.1)

unfoldable pub begin_at : ℕ → List ℕ → Option (LineWhat × List ℕ)
begin_at run bytes = do
  serial ← narrow_at (codes "\n") bytes
  Some (what.Begin run serial.0, serial.1)

unfoldable pub app_at : ℕ → List ℕ → Option (LineWhat × List ℕ)
app_at run bytes = do
  asked ← call_at bytes
  rest ← behind (codes " ") asked.1
  given ← reply_at rest
  Some (what.App run asked.0 given.0, given.1)

unfoldable pub kind_at : List ℕ → Option (EndKind × List ℕ)
kind_at bytes =
    choose (behind (codes "done ") bytes) (λ rest. Some (kind.Done, rest)) (
    choose (behind (codes "memory ") bytes) (λ rest. Some (kind.Memory, rest)) (
    choose (behind (codes "journal ") bytes) (λ rest. Some (kind.JournalFull, rest)) None))

unfoldable pub end_at : ℕ → List ℕ → Option (LineWhat × List ℕ)
end_at run bytes = do
  ended ← kind_at bytes
  status ← short_at (codes " ") ended.1
  size ← narrow_at (codes " ") status.1
  made ← narrow_at (codes " ") size.1
  finished ← narrow_at (codes "\n") made.1
  Some (what.End run ended.0 status.0 size.0 made.0 finished.0, finished.1)

-- the line of a run whose letter is this
abbrev pub run_by : ℕ → ℕ → List ℕ → Option (LineWhat × List ℕ)
run_by letter run bytes =
    if letter == 81 then queue_at run bytes
    else if letter == 65 then admit_at run bytes
    else if letter == 88 then refuse_at run bytes
    else if letter == 66 then begin_at run bytes
    else if letter == 80 then app_at run bytes
    else if letter == 69 then end_at run bytes
    else None

-- ---- lines

unfoldable pub run_at : ℕ → List ℕ → Option (LineWhat × List ℕ)
run_at letter bytes = do
  run ← narrow_at (codes " ") bytes
  run_by letter run.0 run.1

unfoldable pub time_at : List ℕ → Option (LineWhat × List ℕ)
time_at bytes = do
  moment ← marked_at (codes "\n") bytes
  Some (what.Tick moment.0, moment.1)

abbrev pub what_by : ℕ → List ℕ → Option (LineWhat × List ℕ)
what_by letter bytes = if letter == 84 then time_at bytes else run_at letter bytes

unfoldable pub stop_at : List ℕ → Option (Line × List ℕ)
stop_at bytes = do
  lane ← narrow_at (codes "\n") bytes
  Some (record { lane = lane.0; what = what.Stop }, lane.1)

unfoldable pub laned_at : ℕ → List ℕ → Option (Line × List ℕ)
laned_at letter bytes = do
  lane ← narrow_at (codes " ") bytes
  done ← what_by letter lane.1
  Some (record { lane = lane.0; what = done.0 }, done.1)

abbrev pub line_by : ℕ → List ℕ → Option (Line × List ℕ)
line_by letter bytes = if letter == 83 then stop_at bytes else laned_at letter bytes

abbrev pub lettered : List ℕ → Option (Line × List ℕ)
lettered [] = None
lettered (letter ∷ rest) = behind (codes " ") rest >>= line_by letter

-- the line at the front of bytes
unfoldable pub line_at : List ℕ → Option (Line × List ℕ)
line_at bytes = lettered bytes
