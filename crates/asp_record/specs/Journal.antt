-- Which bytes are lines of a journal, and where others are refused. It is our own.
use Rattle.std.specs.Prelude.{◌≡◌, ◌≢◌, ℕ, ◌^◌, ◌<◌, ◌&&◌, Bool, true, List, [], ◌∷◌, ◌++◌, length, codes, IsTrue, ⊤}
use Rattle.std.specs.Prelude.{ℤ, pos, negsuc, int_le}
use Rattle.std.specs.List.{flat_map, list_all}
use lib.Utf8.{scalars}
use Rattle.vb_value.specs.declared.application.AppCall.{AppCall}
use Rattle.vb_value.specs.declared.application.AppCall.TheVariants as call
use Rattle.vb_value.specs.declared.application.AppReply.{AppReply}
use Rattle.vb_value.specs.declared.application.AppReply.TheVariants as reply
use Rattle.vb_value.specs.declared.value.Value.{Value}
use Rattle.vb_value.specs.declared.value.Value.TheOpen.{Value-F, Array-F}
use Rattle.vb_value.specs.declared.value.Value.TheFolds.{fold-Value}
use Rattle.asp_job.specs.declared.job.Work.{Work}
use Rattle.asp_job.specs.declared.job.Work.TheVariants as work
use Rattle.asp_job.specs.Calls.{IsAppCall, IsReply}
use Rattle.asp_record.specs.declared.journal.Line.{Line}
use Rattle.asp_record.specs.declared.journal.LineWhat.{LineWhat}
use Rattle.asp_record.specs.declared.journal.LineWhat.TheVariants as what
use Rattle.asp_record.specs.Entries.{app_text, kind_text, queue_text}
use Rattle.asp_record.specs.Lines.{field, line, number}

-- ---- the text of lines

-- what stands in a line
abbrev pub line_body : ℕ → LineWhat → List ℕ
line_body lane (what.Queue run work key) = queue_text lane run work key
line_body lane (what.Admit run key moment) = codes "A" ++ number lane ++ number run ++ number key ++ number moment
line_body lane (what.Refuse run moment) = codes "X" ++ number lane ++ number run ++ number moment
line_body lane (what.Tick moment) = codes "T" ++ number lane ++ number moment
line_body lane (what.Begin run serial) = codes "B" ++ number lane ++ number run ++ number serial
line_body lane (what.App run call reply) = app_text lane run call reply
line_body lane (what.End run kind status size made finished) =
    codes "E" ++ number lane ++ number run ++ field (kind_text kind)
    ++ number status ++ number size ++ number made ++ number finished
line_body lane what.Stop = codes "S" ++ number lane

abbrev pub line_text : Line → List ℕ
line_text l = line (line_body l.lane l.what)

-- ---- what may stand in a line

-- numbers of 16, of 32 and of 64 bits
abbrev pub is_int : ℤ → Bool
is_int n = int_le (negsuc 32767) n && int_le n (pos 32767)

abbrev pub is_long : ℤ → Bool
is_long n = int_le (negsuc 2147483647) n && int_le n (pos 2147483647)

abbrev pub is_wide : ℤ → Bool
is_wide n = int_le (negsuc 9223372036854775807) n && int_le n (pos 9223372036854775807)

-- One value, with the answer for an array in its place: a number is of its subtype's range, and a text of characters.
abbrev pub value_ranged : Value-F Bool Bool → Bool
value_ranged (Value-F.Int n) = is_int n
value_ranged (Value-F.Long n) = is_long n
value_ranged (Value-F.Cur n) = is_wide n
value_ranged (Value-F.Str text) = scalars text
value_ranged (Value-F.Arr ranged) = ranged
value_ranged _ = true

-- one array, with the answer for each item in its place
abbrev pub array_ranged : Array-F Bool Bool → Bool
array_ranged array = list_all is_long array.bounds && list_all (λ ranged. ranged) array.items

-- whether numbers and texts are what their types say
abbrev pub is_ranged : Value → Bool
is_ranged = fold-Value Bool Bool value_ranged array_ranged

abbrev pub call_ranged : AppCall → Bool
call_ranged (call.Get name) = scalars name
call_ranged (call.Put name value) = scalars name && is_ranged value
call_ranged (call.Remove name) = scalars name
call_ranged (call.KeyAt place) = is_long place
call_ranged _ = true

abbrev pub reply_ranged : AppReply → Bool
reply_ranged (reply.Value value) = is_ranged value
reply_ranged (reply.Number n) = is_long n
reply_ranged (reply.Name name) = scalars name
reply_ranged (reply.Names names) = list_all scalars names
reply_ranged _ = true

-- work of the host's own, with its key: none but for the end of a session, and keys are numbered from 1
abbrev pub IsOwnWork : Work → ℕ → Type 0
IsOwnWork work.Start key = key ≡ 0
IsOwnWork work.SessionEnd key = (0 < key) × (key < 2 ^ 32)
IsOwnWork work.Stop key = key ≡ 0
IsOwnWork (work.Page request) key = ⊥

-- numbers are of 32 bits, but moments of 64 and a status of 16; calls and replies are such as a run may have
abbrev pub IsWhat : LineWhat → Type 0
IsWhat (what.Queue run work key) = (run < 2 ^ 32) × IsOwnWork work key
IsWhat (what.Admit run key moment) = (run < 2 ^ 32) × (key < 2 ^ 32) × (moment < 2 ^ 64)
IsWhat (what.Refuse run moment) = (run < 2 ^ 32) × (moment < 2 ^ 64)
IsWhat (what.Tick moment) = moment < 2 ^ 64
IsWhat (what.Begin run serial) = (run < 2 ^ 32) × (serial < 2 ^ 32)
IsWhat (what.App run call reply) =
    (run < 2 ^ 32) × IsAppCall call × IsReply reply × IsTrue (call_ranged call) × IsTrue (reply_ranged reply)
IsWhat (what.End run kind status size made finished) =
    (run < 2 ^ 32) × (status < 2 ^ 16) × (size < 2 ^ 32) × (made < 2 ^ 32) × (finished < 2 ^ 32)
IsWhat what.Stop = ⊤

pub record IsLine (l : Line) : Type 0 where
  pub lane : l.lane < 2 ^ 32
  pub right : IsWhat l.what

abbrev pub AreLines : List Line → Type 0
AreLines [] = ⊤
AreLines (l ∷ lines) = IsLine l × AreLines lines

-- no line begins the bytes
abbrev pub HasNoLine : List ℕ → Type 0
HasNoLine bytes = (l : Line) (rest : List ℕ) → IsLine l → bytes ≢ line_text l ++ rest

-- the bytes are these lines
pub record IsJournal (bytes : List ℕ) (lines : List Line) : Type 0 where
  pub right : AreLines lines
  pub text : bytes ≡ flat_map line_text lines

-- the bytes are no lines: behind those at their front stands something that begins no line
pub record IsNoJournalAt (bytes : List ℕ) (offset : ℕ) : Type 0 where
  pub lines : List Line
  pub rest : List ℕ
  pub right : AreLines lines
  pub text : bytes ≡ flat_map line_text lines ++ rest
  pub some : rest ≢ []
  pub last : HasNoLine rest
  pub place : offset ≡ length (flat_map line_text lines)
