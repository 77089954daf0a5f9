-- The two ends of a link.
use Rattle.bep_machine.specs.Link.{End, Lower as LowerEnd, Upper as UpperEnd}
use Rattle.bep_links.specs.declared.side.Side.{Side}
use Rattle.bep_links.specs.declared.side.Side.TheVariants.{Lower, Upper}

-- the end of which definitions speak
abbrev pub end_at : Side → End
end_at Lower = LowerEnd
end_at Upper = UpperEnd

-- the other end
abbrev pub opposite_of : Side → Side
opposite_of Lower = Upper
opposite_of Upper = Lower
