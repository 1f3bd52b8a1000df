-- What was read of a folder, file by file.
use Rattle.std.proofs.Common.{◌≡◌, ◌∙◌, ℕ, suc, ◌+◌, ◌<◌, ◌≤◌, Bool, true, false, List, [], ◌∷◌, ◌++◌, map, length}
use Rattle.std.proofs.Common.{take, drop, get_or}
use Rattle.std.proofs.Common.{Option, None, Some, option_map, refl, sym, ap, subst, arith, append_assoc, drop-cons}
use Rattle.std.proofs.Common.{add-one, cond, IfSome}
use Rattle.std.specs.Prelude.{nat_eq}
use Rattle.std.specs.Cmp.Lexicographic.{pointwise}
use Rattle.std.specs.List.{Contains, find, sum_by}
use Rattle.std.proofs.lemmas.List.{length-take, length_push, map-append, take-append-drop, take_all, take_more}
use Rattle.std.proofs.lemmas.List.Elements.{All-contains, All-push, Contains-push}
use Rattle.std.proofs.lemmas.List.Sums.{sum_by_push}
use Rattle.std.proofs.lemmas.Option.{same_Some}
use Rattle.std.proofs.lemmas.Slice.Eq.{bytes_eq-Decides}
use Rattle.vb_value.specs.declared.site_file.SiteFile.{SiteFile}
use Rattle.asp_io.specs.Folder.{bytes_of, file_at, path_of}
use Rattle.site_load.specs.Chosen.{AreChosen}
use Rattle.site_load.specs.Files.{AreSmall, IsSiteOf, IsTooLargeAt, most_of_file, size_of}
use Rattle.site_load.specs.Reading.{AreRead, HasRoom, IsReadAt, IsTooLargeFault, IsTooLargeStop, StopsLoading}
use Rattle.site_load.specs.declared.stop.LoadStop.{LoadStop}
use Rattle.site_load.specs.declared.stop.LoadStop.TheVariants.{ReadFault, Refused, Memory}
use Rattle.site_load.proofs.Causes.{told}

-- ---- one file

-- what is found behind the first is there
contains_more : {X : Type 0} (first : X) (xs : List X) (x : X) → Contains xs x → Contains (first ∷ xs) x
contains_more first xs x there = (suc there.0, omega (arith, there.1), there.2)

-- what is found is there, and passes the test
found_there : {X : Type 0} (test : X → Bool) (xs : List X) (x : X) → find test xs ≡ Some x
    → Contains xs x × (test x ≡ true)
found_there test [] x found = absurd (cc)
found_there {X} test (first ∷ xs) x found =
    let decide : (hit : Bool) → test first ≡ hit → cond hit (Some first) (find test xs) ≡ Some x
    → Contains (first ∷ xs) x × (test x ≡ true) = elim [
      | true ↦ λ hit is.
          let same : first ≡ x = same_Some first x is in
          ((0, omega arith, same), subst (λ (one : X). test one ≡ true) same hit)
      | false ↦ λ miss is.
          let later = found_there test xs x is in
          (contains_more first xs x later.0, later.1)
    ] in
    decide (test first) refl found

-- the file that is read
pub read_there : (all : List SiteFile) (path bytes : List ℕ) (read : SiteFile)
    → option_map (take (most_of_file + 1)) (bytes_of all path) ≡ Some bytes → read.path ≡ path → read.bytes ≡ bytes
    → IsReadAt all path read
read_there all path bytes read is same_path same_bytes =
    let decide : (found : Option SiteFile) → file_at all path ≡ found
    → option_map (take (most_of_file + 1)) (option_map (λ (file : SiteFile). file.bytes) found) ≡ Some bytes
    → IsReadAt all path read = elim [
      | None ↦ λ found is. absurd (cc)
      | Some file ↦ λ found is.
          let there = found_there (λ (one : SiteFile). pointwise nat_eq path one.path) all file found in
          record {
            file = file;
            there = there.0;
            at_path = sym ((bytes_eq-Decides path file.path).0 there.1);
            same_path = same_path;
            front = same_bytes ∙ sym (same_Some (take (most_of_file + 1) file.bytes) bytes is);
          }
    ] in
    decide (file_at all path) refl is

-- a file that is not too large is read whole
read_whole : (all : List SiteFile) (path : List ℕ) (read : SiteFile) (is : IsReadAt all path read)
    → size_of read ≤ most_of_file → read ≡ is.file
read_whole all path read is short =
    let size : length (take (most_of_file + 1) is.file.bytes) ≤ most_of_file = omega (arith, ap length is.front, short) in
    let fits : length is.file.bytes ≤ most_of_file + 1 = omega (arith, size, length-take (most_of_file + 1) is.file.bytes) in
    let bytes : read.bytes ≡ is.file.bytes = is.front ∙ take_all (most_of_file + 1) is.file.bytes fits in
    let path_is : read.path ≡ is.file.path = is.same_path ∙ sym is.at_path in
    ap (λ (p : List ℕ). record { path = p; bytes = read.bytes }) path_is
    ∙ ap (λ (b : List ℕ). record { path = is.file.path; bytes = b }) bytes

-- ---- sizes

-- no file
pub none_small : AreSmall []
none_small = record { each = λ k d within. absurd (omega arith); few = omega arith; light = omega arith }

-- a file more for which there is room
pub more_small : (files : List SiteFile) (total : ℕ) (file : SiteFile) → AreSmall files → total ≡ sum_by size_of files
    → HasRoom (length files) total (size_of file) → AreSmall (files ++ file ∷ [])
more_small files total file small is room = record {
  each = All-push (λ (one : SiteFile). size_of one ≤ most_of_file) files file small.each room.1;
  few = omega (arith, room.0, length_push files file);
  light = omega (arith, room.2, is, sum_by_push size_of files file);
}

-- files among which there is no room for the last
no_room : (files : List SiteFile) (total : ℕ) (file : SiteFile) → total ≡ sum_by size_of files
    → AreSmall (files ++ file ∷ []) → HasRoom (length files) total (size_of file)
no_room files total file is small = (
  omega (arith, small.few, length_push files file),
  All-contains (λ (one : SiteFile). size_of one ≤ most_of_file) (files ++ file ∷ []) file small.each
      (Contains-push files file),
  omega (arith, small.light, is, sum_by_push size_of files file),
)

-- ---- files, one after the other

-- no file is read
pub none_read : (all : List SiteFile) → AreRead all [] []
none_read all = record { at_paths = refl; there = λ k d within. absurd (omega arith) }

-- the paths up to one more
longer : (paths : List (List ℕ)) (at : ℕ) (path : List ℕ) → at < length paths → path ≡ get_or paths at path
    → take (at + 1) paths ≡ take at paths ++ path ∷ []
longer paths at path within is =
    take_more paths at path within ∙ ap (λ (one : List ℕ). take at paths ++ one ∷ []) (sym is)

-- a list cut at a place
cut_at : (paths : List (List ℕ)) (at : ℕ) (path : List ℕ) → at < length paths → path ≡ get_or paths at path
    → paths ≡ (take at paths ++ path ∷ []) ++ drop (at + 1) paths
cut_at paths at path within is =
    let rest : drop at paths ≡ path ∷ drop (at + 1) paths =
    rw add-one (drop-cons paths at path within ∙ ap (λ (one : List ℕ). one ∷ drop (suc at) paths) (sym is)) in
    sym (take-append-drop at paths) ∙ ap (λ (back : List (List ℕ)). take at paths ++ back) rest
    ∙ sym (append_assoc (take at paths) (path ∷ []) (drop (at + 1) paths))

-- one file more, with all that it holds
with_file : (all : List SiteFile) (paths : List (List ℕ)) (at : ℕ) (path : List ℕ) (files : List SiteFile)
    (file : SiteFile) → at < length paths → path ≡ get_or paths at path → AreRead all (take at paths) files
    → Contains all file → file.path ≡ path → AreRead all (take (at + 1) paths) (files ++ file ∷ [])
with_file all paths at path files file within is read there same = record {
  at_paths = map-append path_of files (file ∷ [])
      ∙ ap (λ (front : List (List ℕ)). front ++ file.path ∷ []) read.at_paths
      ∙ ap (λ (one : List ℕ). take at paths ++ one ∷ []) same ∙ sym (longer paths at path within is);
  there = All-push (Contains all) files file read.there there;
}

pub more_read : (all : List SiteFile) (paths : List (List ℕ)) (at : ℕ) (path : List ℕ) (files : List SiteFile)
    (read : SiteFile) → at < length paths → path ≡ get_or paths at path → size_of read ≤ most_of_file
    → AreRead all (take at paths) files → IsReadAt all path read → AreRead all (take (at + 1) paths) (files ++ read ∷ [])
more_read all paths at path files read within is short so_far found =
    let whole = read_whole all path read found short in
    with_file all paths at path files read within is so_far (subst (Contains all) (sym whole) found.there) found.same_path

-- all files
pub all_read : (all : List SiteFile) (paths : List (List ℕ)) (at : ℕ) (files : List SiteFile) → length paths ≤ at
    → AreChosen (map path_of all) paths → AreRead all (take at paths) files → AreSmall files → IsSiteOf all files
all_read all paths at files past chosen read small = record {
  of_site = record {
    chosen = subst (AreChosen (map path_of all)) (sym (read.at_paths ∙ take_all at paths past)) chosen;
    there = read.there;
  };
  small = small;
}

-- a file for which there is no room
pub too_large_there : (all : List SiteFile) (paths : List (List ℕ)) (at total : ℕ) (path : List ℕ)
    (files : List SiteFile) (read : SiteFile) → at < length paths → path ≡ get_or paths at path
    → AreChosen (map path_of all) paths → AreRead all (take at paths) files → IsReadAt all path read → AreSmall files
    → total ≡ sum_by size_of files → ¬ (HasRoom (length files) total (size_of read)) → IsTooLargeAt all path
too_large_there all paths at total path files read within is chosen so_far found small total_is none =
    let file = found.file in
    let with = with_file all paths at path files file within is so_far found.there found.at_path in
    record {
      before = files;
      file = file;
      begins = record {
        paths = paths;
        more = drop (at + 1) paths;
        chosen = chosen;
        cut = cut_at paths at path within is ∙ ap (λ (front : List (List ℕ)). front ++ drop (at + 1) paths)
            (sym (with.at_paths ∙ longer paths at path within is));
        there = with.there;
      };
      small = small;
      large = λ larger.
          let room = no_room files total file total_is larger in
          let size : size_of read ≤ size_of file =
          omega (arith, ap length found.front, length-take (most_of_file + 1) file.bytes) in
          none (room.0, omega (arith, size, room.1), omega (arith, size, room.2));
      told = sym found.at_path;
    }

-- the stop at a file for which there is no room
pub large_stop : (given : Option (List SiteFile)) (path : List ℕ) (stop : LoadStop) → IsTooLargeStop path stop
    → IfSome given (λ all. IsTooLargeAt all path) → StopsLoading given stop
large_stop given path (Refused fault) is large = told given (λ all. IsTooLargeAt all path)
    (λ all. IsTooLargeFault all fault) (λ all tells at_path. record {
      at_path = subst (IsTooLargeAt all) (sym is.0) at_path;
      line = is.1;
      kind = is.2;
    }) large
large_stop given path ReadFault is large = tt
large_stop given path Memory is large = tt
