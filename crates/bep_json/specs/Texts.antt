-- Texts in JSON trees: names, targets, kinds of folders, and bytes as text or in hexadecimal (this project's profile).
use Rattle.std.specs.Prelude.{ℕ, ◌==◌, ◌&&◌, ◌||◌, nat_eq, nat_le, not, Bool, List, [], length, Option, Some, None, if◌then◌else◌, is_some, codes}
use Rattle.std.specs.Result.{result_ok}
use Rattle.std.specs.List.{list_all}
use Rattle.std.specs.Str.{is_utf8}
use Rattle.std.specs.Cmp.Lexicographic.{pointwise}
use Rattle.hex.specs.Hex.{decode_of, decode_sized}
use Rattle.serde_json.specs.Data.{Data}
use Rattle.serde_json.specs.Find.{as_str}
use Rattle.bep_record.specs.Name.{parts_of}
use Rattle.bep_record.specs.declared.folder_kind.FolderKind.{FolderKind}
use Rattle.bep_record.specs.declared.folder_kind.FolderKind.TheVariants.{SendReceive, SendOnly, ReceiveOnly}
use Rattle.bep_record.specs.declared.limits.TheConstants.{MAX_NAME_LEN, MAX_TARGET_LEN, MAX_FOLDER_NAME_LEN}
use Rattle.bep_json.specs.declared.version.DocVersion.{DocVersion}
use Rattle.bep_json.specs.Reading.{◌>>=◌}
use Rattle.bep_json.specs.Version.{most_file_bytes}

-- a text
abbrev pub is_text : Data → Bool
is_text d = is_some (as_str d)

-- the text, if it passes a test
abbrev pub if_passes : (List ℕ → Bool) → List ℕ → Option (List ℕ)
if_passes test text = if test text then Some text else None

-- UTF-8 without NUL, as a test
abbrev pub is_plain_text : List ℕ → Bool
is_plain_text bytes = is_utf8 bytes && list_all (λ b. not (b == 0)) bytes

-- a part of a name isn't empty, and neither `.` nor `..`, as a test
abbrev pub is_part : List ℕ → Bool
is_part part = not (pointwise nat_eq part []) && (not (pointwise nat_eq part (codes ".")) && not (pointwise nat_eq part (codes "..")))

-- what bytes are a name, as a test
unfoldable pub is_name : List ℕ → Bool
is_name bytes = (nat_le 1 (length bytes) && nat_le (length bytes) MAX_NAME_LEN) && (is_plain_text bytes && list_all is_part (parts_of bytes))

-- what bytes are a symlink's target, as a test
unfoldable pub is_target : List ℕ → Bool
is_target bytes = nat_le (length bytes) MAX_TARGET_LEN && is_plain_text bytes

-- an ASCII letter or digit, `-` or `_`
abbrev pub is_folder_byte : ℕ → Bool
is_folder_byte b = (nat_le 48 b && nat_le b 57) || ((nat_le 65 b && nat_le b 90) || ((nat_le 97 b && nat_le b 122) || ((b == 45) || (b == 95))))

-- what bytes are a folder's name, as a test
unfoldable pub is_folder_name : List ℕ → Bool
is_folder_name bytes = (nat_le 1 (length bytes) && nat_le (length bytes) MAX_FOLDER_NAME_LEN) && list_all is_folder_byte bytes

-- the name of a file
unfoldable pub read_name : Data → Option (List ℕ)
read_name d = as_str d >>= if_passes is_name

-- the target of a symlink
unfoldable pub read_target : Data → Option (List ℕ)
read_target d = as_str d >>= if_passes is_target

-- the name of a folder
unfoldable pub read_folder_name : Data → Option (List ℕ)
read_folder_name d = as_str d >>= if_passes is_folder_name

-- the kind of folder with this name (Syncthing, 'Folder Types')
abbrev pub folder_kind_named : List ℕ → Option FolderKind
folder_kind_named text =
    if pointwise nat_eq text (codes "send-receive") then Some SendReceive
    else (if pointwise nat_eq text (codes "send-only") then Some SendOnly
    else (if pointwise nat_eq text (codes "receive-only") then Some ReceiveOnly else None))

-- a kind of folder, by its name
abbrev pub read_folder_kind : Data → Option FolderKind
read_folder_kind d = as_str d >>= folder_kind_named

-- a SHA-256 in 64 hexadecimal digits of either case
unfoldable pub read_hash : Data → Option (List ℕ)
read_hash d = as_str d >>= λ text. result_ok (decode_sized text 32)

-- bytes that a file may have
abbrev pub fits_file : DocVersion → List ℕ → Bool
fits_file version bytes = nat_le (length bytes) (most_file_bytes version)

-- the bytes of a text, in UTF-8
unfoldable pub read_text_bytes : DocVersion → Data → Option (List ℕ)
read_text_bytes version d = as_str d >>= if_passes (fits_file version)

-- the bytes of hexadecimal digits of either case
unfoldable pub read_hex_bytes : DocVersion → Data → Option (List ℕ)
read_hex_bytes version d = as_str d >>= λ text. result_ok (decode_of text) >>= if_passes (fits_file version)
