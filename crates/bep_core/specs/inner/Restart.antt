-- What a restart does to the links (this project's profile).
use Rattle.std.specs.Prelude.{◌==◌, ◌||◌, if◌then◌else◌}
use Rattle.bep_model.specs.Tables.{Device}
use Rattle.bep_machine.specs.Link.{lost}
use Rattle.bep_links.specs.Link.{LinkBetween}

-- a link as the device leaves it behind
abbrev pub left_by : Device → LinkBetween → LinkBetween
left_by device between =
    if (between.ends.0 == device) || (between.ends.1 == device) then record between { link = lost between.link } else between
