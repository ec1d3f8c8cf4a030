-- What the work of the two tests of protected frames comes to after n times. Before it is protected
-- a frame has 1,500 octets: two addresses of 6 octets, and 1,488 octets of user data.
use Rattle.std.specs.Prelude.{ℕ, zero, suc, ◌-◌, ◌==◌, true, nat_le, if◌then◌else◌, List, [], ◌∷◌, drop, length, replicate}
use Rattle.aes_block.specs.declared.secret.Secret.TheVariants.{S128}
use Rattle.lan_base.specs.declared.address.Sci.{Sci}
use Rattle.lan_base.specs.declared.association_number.AssociationNumber.TheVariants.{An0}
use Rattle.gcm_frames.specs.Protected.{protected}
use Rattle.rx_slots.specs.declared.arrival.Arrival.{Arrival}
use Rattle.rx_slots.specs.declared.arrival.Arrival.TheVariants.{Accepted, Malformed, Own, Missed, BadCheck, Late}
use Rattle.rx_slots.specs.Histories.{Receiving, installed, heard}
use Rattle.rx_slots.specs.Numbers.{answer}
use Rattle.workbench_cases.specs.Work.{changed, key, stepped}

-- the stations that send and receive
abbrev pub sender : Sci
sender = record { 0 = 2 ∷ 0 ∷ 0 ∷ 0 ∷ 0 ∷ 10 ∷ 0 ∷ 1 ∷ [] }

abbrev pub receiver : Sci
receiver = record { 0 = 2 ∷ 0 ∷ 0 ∷ 0 ∷ 0 ∷ 11 ∷ 0 ∷ 1 ∷ [] }

-- the frame to a destination, enciphered under a packet number, whose user data rises by a step
abbrev pub frame_to : List ℕ → ℕ → ℕ → List ℕ
frame_to destination number step =
    protected key sender An0 number true (record
    { destination = record { 0 = destination }; body = stepped step 1488 })

-- its tag: the last 16 octets
abbrev pub tag_in : List ℕ → List ℕ
tag_in frame = drop 1516 frame

-- the destination: all stations at first, and then that before, changed by the tag of the frame to
-- it
abbrev pub destination_after : ℕ → List ℕ
destination_after zero = replicate 6 255
destination_after (suc n) =
    changed (destination_after n) (tag_in (frame_to (destination_after n) (suc n) 7))

-- the tag: zero at first, and then that of the frame to the destination before
abbrev pub frame_tag_after : ℕ → List ℕ
frame_tag_after zero = replicate 16 0
frame_tag_after (suc n) = tag_in (frame_to (destination_after n) (suc n) 7)

-- the two frames that are received: each has its packet number as the step of its user data
abbrev pub frame_numbered : ℕ → List ℕ
frame_numbered number = frame_to (replicate 6 255) number number

-- the frame that is received after an answer: number 2 where number 1 was accepted, else number 1
abbrev pub next_number : Arrival → ℕ
next_number (Accepted number body) = if number == 1 then 2 else 1
next_number (Malformed refusal) = 1
next_number Own = 1
next_number (Missed an) = 1
next_number BadCheck = 1
next_number (Late next) = 1

-- what the receiver went through, newest first, and what it answered last
pub record Receiver : Type 0 where
  pub history : List Receiving
  pub last : Arrival

-- the receiver hears a frame, with a window of 2
abbrev pub hears : Receiver → List ℕ → Receiver
hears r frame =
    record { history = heard frame ∷ r.history; last = answer receiver 2 r.history frame }

-- the receiver: the key was installed at first, and then it hears the frame that is received after
-- its last answer
abbrev pub receiver_after : ℕ → Receiver
receiver_after zero = record { history = installed An0 (S128 key) ∷ []; last = Own }
receiver_after (suc n) =
    hears (receiver_after n) (frame_numbered (next_number (receiver_after n).last))

-- the last 16 octets of accepted user data, zero where there are none
abbrev pub end_of : Arrival → List ℕ
end_of (Accepted number body) =
    if nat_le 16 (length body) then drop (length body - 16) body else replicate 16 0
end_of (Malformed refusal) = replicate 16 0
end_of Own = replicate 16 0
end_of (Missed an) = replicate 16 0
end_of BadCheck = replicate 16 0
end_of (Late next) = replicate 16 0
