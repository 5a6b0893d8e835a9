-- The count of outcomes.
use Rattle.std.specs.Prelude.{ℕ, ◌+◌, ◌-◌, ◌^◌, ◌==◌, min, if◌then◌else◌, None, Some, unwrap_or}
use Rattle.std.specs.declared.num.Saturating.{Saturating}
use Rattle.transport.specs.declared.outcomes.Outcomes.{Outcomes}

-- k more, up to the largest number of 64 bits
abbrev pub more : ℕ → Saturating ℕ → Saturating ℕ
more k n = record { 0 = min (n.0 + k) (2 ^ 64 - 1) }

-- a counter at 0, and the count of no words
abbrev pub zero_count : Saturating ℕ
zero_count = record { 0 = 0 }

abbrev pub nothing : Outcomes
nothing = record { packets = zero_count; corrected = zero_count; code_faults = zero_count; sync_faults = zero_count; group_faults = zero_count; first = None }

-- with one packet more, in whose word n bytes were corrected
abbrev pub with_packet : (frame n : ℕ) → Outcomes → Outcomes
with_packet frame n o = record o { packets = more 1 o.packets; corrected = more n o.corrected; first = Some (unwrap_or o.first frame) }

-- with one word more that gave no packet, by the number of its fault
abbrev pub with_fault : ℕ → Outcomes → Outcomes
with_fault n o =
    if n == 11 then record o { code_faults = more 1 o.code_faults }
    else if n == 12 then record o { sync_faults = more 1 o.sync_faults }
    else if n == 13 then record o { group_faults = more 1 o.group_faults }
    else o
