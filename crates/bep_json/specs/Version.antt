-- The versions of documents (this project's profile).
use Rattle.std.specs.Prelude.{ℕ, ◌==◌, Option, Some, None, if◌then◌else◌}
use Rattle.bep_record.specs.declared.limits.TheConstants.{MAX_FILE_SIZE}
use Rattle.bep_json.specs.declared.version.DocVersion.{DocVersion}
use Rattle.bep_json.specs.declared.version.DocVersion.TheVariants.{One, Two}
use Rattle.bep_json.specs.declared.version.TheConstants.{MAX_FILE_SIZE_ONE}

-- the number that a document says
abbrev pub number_of : DocVersion → ℕ
number_of One = 1
number_of Two = 2

-- the version with this number
abbrev pub version_of : ℕ → Option DocVersion
version_of number = if number == 1 then Some One else (if number == 2 then Some Two else None)

-- the most bytes that a file has in a document of this version
abbrev pub most_file_bytes : DocVersion → ℕ
most_file_bytes One = MAX_FILE_SIZE_ONE
most_file_bytes Two = MAX_FILE_SIZE
