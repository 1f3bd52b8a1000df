-- The reasons of statuses are printable.
use Rattle.std.proofs.Common.{◌≡◌, ℕ, Bool, true, false, List, [], Option, Some, refl, unwrap_or}
use Rattle.std.specs.Prelude.{◌==◌, cond, codes}
use Rattle.asp_response.specs.Finish.{reason_of}
use Rattle.asp_response.specs.Head.{is_value}
use Rattle.asp_response.specs.Sound.{IsPrintable}
use Rattle.asp_response.proofs.Printable.{nothing_printable, printable_of}

-- one row of the table, before the others
pick : (here : Bool) (text : List ℕ) (others : Option (List ℕ)) → is_value text ≡ true
    → IsPrintable (unwrap_or others []) → IsPrintable (unwrap_or (cond here (Some text) others) [])
pick true text others printable rest = printable_of text printable
pick false text others printable rest = rest

pub reason_printable : (n : ℕ) → IsPrintable (reason_of n)
reason_printable n =
    pick (n == 100) (codes "Continue") _ refl (
    pick (n == 101) (codes "Switching Protocols") _ refl (
    pick (n == 102) (codes "Processing") _ refl (
    pick (n == 103) (codes "Early Hints") _ refl (
    pick (n == 200) (codes "OK") _ refl (
    pick (n == 201) (codes "Created") _ refl (
    pick (n == 202) (codes "Accepted") _ refl (
    pick (n == 203) (codes "Non Authoritative Information") _ refl (
    pick (n == 204) (codes "No Content") _ refl (
    pick (n == 205) (codes "Reset Content") _ refl (
    pick (n == 206) (codes "Partial Content") _ refl (
    pick (n == 207) (codes "Multi-Status") _ refl (
    pick (n == 208) (codes "Already Reported") _ refl (
    pick (n == 226) (codes "IM Used") _ refl (
    pick (n == 300) (codes "Multiple Choices") _ refl (
    pick (n == 301) (codes "Moved Permanently") _ refl (
    pick (n == 302) (codes "Found") _ refl (
    pick (n == 303) (codes "See Other") _ refl (
    pick (n == 304) (codes "Not Modified") _ refl (
    pick (n == 305) (codes "Use Proxy") _ refl (
    pick (n == 307) (codes "Temporary Redirect") _ refl (
    pick (n == 308) (codes "Permanent Redirect") _ refl (
    pick (n == 400) (codes "Bad Request") _ refl (
    pick (n == 401) (codes "Unauthorized") _ refl (
    pick (n == 402) (codes "Payment Required") _ refl (
    pick (n == 403) (codes "Forbidden") _ refl (
    pick (n == 404) (codes "Not Found") _ refl (
    pick (n == 405) (codes "Method Not Allowed") _ refl (
    pick (n == 406) (codes "Not Acceptable") _ refl (
    pick (n == 407) (codes "Proxy Authentication Required") _ refl (
    pick (n == 408) (codes "Request Timeout") _ refl (
    pick (n == 409) (codes "Conflict") _ refl (
    pick (n == 410) (codes "Gone") _ refl (
    pick (n == 411) (codes "Length Required") _ refl (
    pick (n == 412) (codes "Precondition Failed") _ refl (
    pick (n == 413) (codes "Payload Too Large") _ refl (
    pick (n == 414) (codes "URI Too Long") _ refl (
    pick (n == 415) (codes "Unsupported Media Type") _ refl (
    pick (n == 416) (codes "Range Not Satisfiable") _ refl (
    pick (n == 417) (codes "Expectation Failed") _ refl (
    pick (n == 418) (codes "I'm a teapot") _ refl (
    pick (n == 421) (codes "Misdirected Request") _ refl (
    pick (n == 422) (codes "Unprocessable Entity") _ refl (
    pick (n == 423) (codes "Locked") _ refl (
    pick (n == 424) (codes "Failed Dependency") _ refl (
    pick (n == 425) (codes "Too Early") _ refl (
    pick (n == 426) (codes "Upgrade Required") _ refl (
    pick (n == 428) (codes "Precondition Required") _ refl (
    pick (n == 429) (codes "Too Many Requests") _ refl (
    pick (n == 431) (codes "Request Header Fields Too Large") _ refl (
    pick (n == 451) (codes "Unavailable For Legal Reasons") _ refl (
    pick (n == 500) (codes "Internal Server Error") _ refl (
    pick (n == 501) (codes "Not Implemented") _ refl (
    pick (n == 502) (codes "Bad Gateway") _ refl (
    pick (n == 503) (codes "Service Unavailable") _ refl (
    pick (n == 504) (codes "Gateway Timeout") _ refl (
    pick (n == 505) (codes "HTTP Version Not Supported") _ refl (
    pick (n == 506) (codes "Variant Also Negotiates") _ refl (
    pick (n == 507) (codes "Insufficient Storage") _ refl (
    pick (n == 508) (codes "Loop Detected") _ refl (
    pick (n == 510) (codes "Not Extended") _ refl (
    pick (n == 511) (codes "Network Authentication Required") _ refl (
    nothing_printable))))))))))))))))))))))))))))))))))))))))))))))))))))))))))))))
