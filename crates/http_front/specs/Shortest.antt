-- What the bytes give first, told by the shortest prefix that decides it.
use Rattle.std.specs.Prelude.{◌≡◌, ◌<◌, ◌⊎◌, ℕ, List, [], ◌++◌, length}
use Rattle.httparse.specs.Grammar.{RequestHead, ReadsRequest}
use Rattle.http_front.specs.Status.{status_of}
use Rattle.http_front.specs.Front.{Front, More, Refused, answered}

-- the bytes are a whole head
abbrev pub IsWhole : List ℕ → Type 0
IsWhole bytes = (h : RequestHead) × ReadsRequest bytes h []

-- no head begins with the bytes
abbrev pub BeginsNone : List ℕ → Type 0
BeginsNone bytes = (h : RequestHead) (more : List ℕ) → ¬ (ReadsRequest (bytes ++ more) h [])

-- the bytes are a whole head, or no head begins with them, or there are 16,385
abbrev pub Decides : List ℕ → Type 0
Decides bytes = IsWhole bytes ⊎ (BeginsNone bytes ⊎ (length bytes ≡ 16385))

-- the bytes are prefix and rest, prefix decides, and no shorter one does
pub record IsShortest (bytes prefix rest : List ℕ) : Type 0 where
  pub split : bytes ≡ prefix ++ rest
  pub decides : Decides prefix
  pub shortest : (front back : List ℕ) → prefix ≡ front ++ back → 0 < length back → ¬ (Decides front)

-- 431 at 16,385 bytes; else 400 where no head begins with the prefix, and what its head says where it is one
pub record IsGivenBy (prefix rest : List ℕ) (front : Front) : Type 0 where
  pub long : length prefix ≡ 16385 → front ≡ Refused 431
  pub none : length prefix < 16385 → BeginsNone prefix → front ≡ Refused 400
  pub whole : length prefix < 16385 → (h : RequestHead) → ReadsRequest prefix h [] → front ≡ answered (status_of h) h rest

-- what the shortest prefix that decides gives, and More where none decides
pub record IsByShortest (bytes : List ℕ) (front : Front) : Type 0 where
  pub some : (prefix rest : List ℕ) → IsShortest bytes prefix rest → IsGivenBy prefix rest front
  pub none : ((prefix rest : List ℕ) → bytes ≡ prefix ++ rest → ¬ (Decides prefix)) → front ≡ More
