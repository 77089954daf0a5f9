-- What the types of a folder's views and pulls keep (BEP v1, 'Index'; pulls are this project's profile).
use Rattle.bep_index.specs.Good.{AreGood, IsGood}
use Rattle.bep_index.specs.Listing.{Listing}
use Rattle.bep_index.specs.View.{IsView}
use Rattle.bep_machine.specs.Replica.{Pull}
use Rattle.bep_folder.specs.Pull.{IsPull}

-- it is a view, and its records are well formed
abbrev pub IsGoodView : Listing → Type 0
IsGoodView view = IsView view × AreGood view.records

-- it is a pull, and its target is well formed, its version too
abbrev pub IsGoodPull : Pull → Type 0
IsGoodPull pull = IsPull pull × IsGood pull.target
