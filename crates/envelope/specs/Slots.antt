-- The list of slow zones: its first `count` places, at most four.
use Rattle.envelope.specs.declared.Zone.{Zone}
use Rattle.std.specs.Prelude.{Float, Some, ℕ, min, get_or, replicate, None, Option}
use Rattle.envelope.specs.declared.Zones.{Zones}

-- a place that holds a zone, by its channels, its radius and its speed
abbrev pub zone_with : ℕ → ℕ → Float → Float → Option Zone
zone_with i j radius speed = Some (record { a0 = i; a1 = j; radius = radius; v_max = speed })

-- none counts, and each place is empty
abbrev pub no_zones : Zones
no_zones = record { count = 0; list = replicate 4 None }

-- how many places count
abbrev pub counted : Zones → ℕ
counted z = min z.count 4

-- the zone at place k; one that is not there is none
abbrev pub zone_at : Zones → ℕ → Option Zone
zone_at z k = get_or z.list k None
