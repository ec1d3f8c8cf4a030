-- The options of an interface in pcapng: of each its code and its length, two octets each, and its
-- value, which is filled up to a multiple of four. Code 0 ends them, or the end of the block.
use Rattle.std.specs.Prelude.{ℕ, zero, suc, ◌+◌, ◌-◌, ◌^◌, ◌==◌, nat_lt, if◌then◌else◌, List, drop, get_or, length, Option, Some, None}
use Rattle.capture_file.specs.declared.order.Order.{Order}
use Rattle.capture_packets.specs.Numbers.{half_at, padded}

-- how many ticks a clock has a second where none are told
abbrev pub usual_ticks : ℕ
usual_ticks = 10 ^ 6

-- The ticks that the one octet of option 9 tells: 10 to its power, or where it is 128 or more, 2 to
-- what it is above 128. They are below 2^64: the octet is within 19, or 128 to 191.
abbrev pub ticks_of : ℕ → Option ℕ
ticks_of resolution =
    let ticks = if nat_lt resolution 128 then 10 ^ resolution else 2 ^ (resolution - 128) in
    if nat_lt ticks (2 ^ 64) then Some ticks else None

-- the ticks that an option tells, beside those that were told before it
abbrev pub ticks_by : Order → ℕ → List ℕ → Option ℕ
ticks_by order before option =
    if half_at order 0 option == 9
    then (if half_at order 2 option == 1 then ticks_of (get_or option 4 0) else None)
    else Some before

-- whether the first option ends them
abbrev pub after_ticks : (ℕ → Option ℕ) → Option ℕ → Option ℕ
after_ticks later None = None
after_ticks later (Some ticks) = later ticks

-- the ticks that options tell, beside those that were told before them, if the options have their form;
-- so many options are looked at
abbrev pub ticks_within : ℕ → Order → ℕ → List ℕ → Option ℕ
ticks_within zero order before options = Some before
ticks_within (suc n) order before options =
    if length options == 0 then Some before
    else if nat_lt (length options) 4 then None
    else if half_at order 0 options == 0 then Some before
    else if nat_lt (length options) (4 + padded (half_at order 2 options)) then None
    else after_ticks
    (λ ticks. ticks_within n order ticks (drop (4 + padded (half_at order 2 options)) options))
    (ticks_by order before options)

-- the ticks that the options of an interface tell, if they have their form
abbrev pub ticks_in : Order → List ℕ → Option ℕ
ticks_in order options = ticks_within (length options) order usual_ticks options
