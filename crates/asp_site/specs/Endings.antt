-- What the ending of a file's path says of the file, without regard to ASCII case.
use Rattle.std.specs.Prelude.{ℕ, ◌-◌, Bool, not, ◌||◌, if◌then◌else◌, List, codes, drop, length}
use Rattle.vb_value.specs.Folding.{same_name}

-- the path ends in these characters
abbrev pub has_ending : List ℕ → List ℕ → Bool
has_ending ending path = same_name ending (drop (length path - length ending) path)

-- the file is a page
abbrev pub is_page : List ℕ → Bool
is_page path = has_ending (codes ".asp") path

-- the file is served as it is: it is no page, and none of those that only pages use
abbrev pub is_static : List ℕ → Bool
is_static path = not (is_page path || (has_ending (codes ".asa") path || has_ending (codes ".inc") path))

-- the file is that of the site's events
abbrev pub is_global : List ℕ → Bool
is_global path = same_name (codes "/global.asa") path

-- the media type of a static file (RFC 9110, section 8.3.1)
abbrev pub media_type_of : List ℕ → List ℕ
media_type_of path =
    if has_ending (codes ".htm") path || has_ending (codes ".html") path then codes "text/html"
    else (if has_ending (codes ".txt") path then codes "text/plain"
    else (if has_ending (codes ".css") path then codes "text/css"
    else (if has_ending (codes ".js") path then codes "text/javascript"
    else (if has_ending (codes ".xml") path then codes "text/xml"
    else (if has_ending (codes ".gif") path then codes "image/gif"
    else (if has_ending (codes ".png") path then codes "image/png"
    else (if has_ending (codes ".jpg") path then codes "image/jpeg"
    else (if has_ending (codes ".ico") path then codes "image/x-icon"
    else codes "application/octet-stream"))))))))
