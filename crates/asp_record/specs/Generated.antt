-- What `gen` replays: the one page, and the recording of so many requests for it. Both are our own.
use Rattle.std.specs.Prelude.{ℕ, ◌+◌, ◌/◌, ◌%◌, false, List, [], ◌∷◌, ◌++◌, map, codes, replicate}
use Rattle.std.specs.List.{range_with_len}
use Rattle.vb_value.specs.declared.site_file.SiteFile.{SiteFile}
use Rattle.asp_record.specs.declared.recording.Item.{Item}
use Rattle.asp_record.specs.declared.recording.Item.TheVariants.{Request}
use Rattle.asp_record.specs.declared.recording.Recording.{Recording}

-- the one page: it counts for the application, and for the session
abbrev pub count_page : SiteFile
count_page = record {
  path = codes "/count.asp";
  bytes = codes
      "<% Application.Lock : Application(\"n\") = Application(\"n\") + 1 : Session(\"c\") = Session(\"c\") + 1 : "
      ++ codes "Application.Unlock %><%= Session(\"c\") %>";
}

-- the files of the site
abbrev pub count_files : List SiteFile
count_files = count_page ∷ []

-- the bytes of each request
abbrev pub count_bytes : List ℕ
count_bytes = codes "GET /count.asp HTTP/1.1\r\nHost: x\r\n\r\n"

-- request i, counted from 0: from client i mod 7 + 1, at the moment i divided by 100 and cut
abbrev pub generated_item : ℕ → Item
generated_item i = Request (i % 7 + 1) (i / 100) count_bytes

-- a seed of 32 zero bytes, the plain rule, and the requests from 0 on, so many as they are to be
unfoldable pub generated : ℕ → Recording
generated count = record {
  seed = replicate 32 0;
  strict = false;
  items = map generated_item (range_with_len 0 count);
}
