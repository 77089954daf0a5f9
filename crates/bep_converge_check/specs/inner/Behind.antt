-- Which devices aren't at the winner of a name, by what they have (this project's profile).
use Rattle.std.specs.Prelude.{◌≡◌, ℕ, List, Option, Some, None, Contains}
use Rattle.std.specs.FinMap.{get}
use Rattle.bep_record.specs.declared.entry.Entry.{Entry}
use Rattle.bep_record.specs.Content.{content_of}
use Rattle.bep_record.specs.Vector.{IsAtMost}
use Rattle.bep_model.specs.Tables.{Device, Folder, FileName}
use Rattle.bep_tables.specs.Listed.{Listed}
use Rattle.bep_tables.specs.declared.share.Share.{Share}
use Rattle.bep_converge.specs.Prevails.{IsNoLocalChange, IsAtTop}
use Rattle.bep_converge_check.specs.SoMany.{AreSoMany}
use Rattle.bep_converge_check.specs.inner.Records.{own_held, IsOwnIn, IsTopIn}

-- the entry's own record, if it has a valid one, isn't above this one, or has its content
abbrev pub AgreesIfAbove : Entry → Listed → Type 0
AgreesIfAbove top one = (entry : Entry) → own_held one.holding ≡ Some entry → IsAtMost top.version entry.version → content_of entry ≡ content_of top

-- that of all these entries
abbrev pub AllAgree : List Listed → Entry → Type 0
AllAgree group top = (entry : Entry) → IsOwnIn group entry → IsAtMost top.version entry.version → content_of entry ≡ content_of top

-- the winner of these entries: a top, and all tops have its content
abbrev pub IsWinnerIn : List Listed → Entry → Type 0
IsWinnerIn group top = IsTopIn group top × ((other : Entry) → IsTopIn group other → content_of other ≡ content_of top)

-- what is found of the winner of these entries
abbrev pub FindsWinner : List Listed → Option Entry → Type 0
FindsWinner group None = (top : Entry) → ¬ IsWinnerIn group top
FindsWinner group (Some top) = IsWinnerIn group top

-- there is a winner, and this own record is at it, and no local change
abbrev pub IsAtWinner : Option Entry → Option Entry → Type 0
IsAtWinner None own = ⊥
IsAtWinner (Some top) own = IsAtTop own top × IsNoLocalChange own

-- one of these shares is the device's, and isn't at the winner
abbrev pub IsBehindAmong : Option Entry → FileName → List Share → Device → Type 0
IsBehindAmong winner name shares device = (share : Share) × Contains shares share × (share.device ≡ device) × (¬ IsAtWinner winner (get share.own name))

-- the device's share is at the winner, if it is one of these
abbrev pub IsUpAmong : Option Entry → FileName → List Share → Device → Type 0
IsUpAmong winner name shares device = (share : Share) → Contains shares share → share.device ≡ device → IsAtWinner winner (get share.own name)

-- the name of the one folder is this name of the other
abbrev pub IsOfKey : Folder → Folder → FileName → FileName → Type 0
IsOfKey folder other name one = (folder ≡ other) × (one ≡ name)

-- so many things of this kind have the name of the one folder that is this name of the other
abbrev pub AreSoManyOf : {X : Type 0} → (X → FileName) → (X → Type 0) → (X → Type 0) → Folder → Folder → FileName → ℕ → Type 0
AreSoManyOf name_of Is IsOther folder other name count =
    AreSoMany (λ one. IsOfKey folder other name (name_of one) × Is one) (λ one. IsOfKey folder other name (name_of one) → IsOther one) count
