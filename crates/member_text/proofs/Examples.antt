-- Definitions at worked lines.
use Rattle.std.proofs.Common.{◌≡◌, false, true, [], ◌∷◌, replicate, refl}
use Rattle.std.specs.Prelude.{codes, Ok, Err, Some}
use Rattle.std.specs.Fmt.{digits}
use Rattle.hex.proofs.OnLiterals.{hex_on_literals}
use Rattle.lan_base.specs.declared.address.Sci.{Sci}
use Rattle.lan_base.specs.declared.association_number.AssociationNumber.TheVariants.{An0, An1, An2}
use Rattle.trace_text.specs.declared.fault.TextFault.TheVariants.{TooLong, Word, Count, Hex, Range}
use Rattle.trace_text.specs.declared.line.Line.TheVariants.{DrawsCount, Restart, Flag}
use Rattle.trace_text.specs.Keywords.{keyword_of}
use Rattle.trace_text.specs.Reading.{line_in}
use Rattle.member_text.specs.declared.line.MemberLine.TheVariants.{Plain, Member, Tick, Hear}
use Rattle.member_text.specs.declared.live.Live.TheVariants.{Peer, Channel, Key, Withheld, Receive, Done}
use Rattle.member_text.specs.declared.live.PeerState.TheVariants.{Live, Potential, Gone}
use Rattle.member_text.specs.declared.live.ChannelState.TheVariants.{Add, Full, Remove}
use Rattle.member_text.specs.declared.live.Withholding.TheVariants.{Used, Suite}
use Rattle.member_text.specs.InForm.{IsInFormMember}
use Rattle.member_text.specs.Reading.{member_line_in}
use Rattle.member_text.specs.Live.{live_text}
use Rattle.member_text.proofs.InForm.{member_read_fits}

-- the octets of an SCI, 02000000000b0001
sci_b : Sci
sci_b = record { 0 = 2 ∷ 0 ∷ 0 ∷ 0 ∷ 0 ∷ 11 ∷ 0 ∷ 1 ∷ [] }

-- lines that a trace has too
counted : member_line_in (codes "draws count") ≡ Ok (Some (Plain DrawsCount))
unfolding member_line_in keyword_of
counted = refl

flagged : member_line_in (codes "flag 0") ≡ Ok (Some (Plain (Flag false)))
unfolding member_line_in keyword_of
flagged = refl

restarts : member_line_in (codes "restart B") ≡ Ok (Some (Plain (Restart (codes "B"))))
unfolding member_line_in keyword_of
restarts = refl

restart_fits : IsInFormMember (Plain (Restart (codes "B")))
restart_fits = member_read_fits (codes "restart B") (Plain (Restart (codes "B"))) restarts

-- a trace says there what it says here, and has no line of what is heard
restarts_in_a_trace : line_in (codes "restart B") ≡ Ok (Some (Restart (codes "B")))
unfolding line_in keyword_of
restarts_in_a_trace = refl

hears_in_a_trace : line_in (codes "hear 0a") ≡ Err Word
unfolding line_in keyword_of
hears_in_a_trace = refl

-- lines that only a trace has
station : member_line_in (codes "station B 02000000000b0001 16") ≡ Err Word
unfolding member_line_in keyword_of hex_on_literals
station = refl

window : member_line_in (codes "window 0") ≡ Err Word
unfolding member_line_in keyword_of
window = refl

-- the one station
starts : member_line_in (codes "member B 02000000000b0001 16") ≡ Ok (Some (Member (codes "B") sci_b 16))
unfolding member_line_in keyword_of hex_on_literals sci_b
starts = refl

no_priority : member_line_in (codes "member B 02000000000b0001") ≡ Err Count
unfolding member_line_in keyword_of hex_on_literals
no_priority = refl

priority_of_256 : member_line_in (codes "member B 02000000000b0001 256") ≡ Err Range
unfolding member_line_in keyword_of hex_on_literals
priority_of_256 = refl

-- ticks: no number is left at 2^32, which has one spelling
ticks : member_line_in (codes "tick 3221225472 1 0") ≡ Ok (Some (Tick 3221225472 1 0))
unfolding member_line_in keyword_of
ticks = refl

none_left : member_line_in (codes "tick 4294967296 4294967295 0") ≡ Ok (Some (Tick 4294967296 4294967295 0))
unfolding member_line_in keyword_of
none_left = refl

above : member_line_in (codes "tick 4294967297 0 0") ≡ Err Range
unfolding member_line_in keyword_of
above = refl

eleven_digits : member_line_in (codes "tick 04294967296 0 0") ≡ Err Range
unfolding member_line_in keyword_of
eleven_digits = refl

lowest_above : member_line_in (codes "tick 0 4294967296 0") ≡ Err Range
unfolding member_line_in keyword_of
lowest_above = refl

two_numbers : member_line_in (codes "tick 0 0") ≡ Err Count
unfolding member_line_in keyword_of
two_numbers = refl

-- what is heard
hears : member_line_in (codes "hear 0a") ≡ Ok (Some (Hear (10 ∷ [])))
unfolding member_line_in keyword_of hex_on_literals
hears = refl

hears_nothing : member_line_in (codes "hear") ≡ Err Count
unfolding member_line_in keyword_of
hears_nothing = refl

half_an_octet : member_line_in (codes "hear 0") ≡ Err Hex
unfolding member_line_in keyword_of hex_on_literals
half_an_octet = refl

too_long : member_line_in (replicate 4097 32) ≡ Err TooLong
unfolding member_line_in keyword_of
too_long = refl

-- live lines
done : live_text (codes "B") Done ≡ codes "live B done"
unfolding live_text
done = refl

added : live_text (codes "A") (Channel sci_b Add) ≡ codes "live A channel 02000000000b0001 add"
unfolding live_text hex_on_literals sci_b
added = refl

no_place : live_text (codes "A") (Channel sci_b Full) ≡ codes "live A channel 02000000000b0001 full"
unfolding live_text hex_on_literals sci_b
no_place = refl

removed : live_text (codes "A") (Channel sci_b Remove) ≡ codes "live A channel 02000000000b0001 remove"
unfolding live_text hex_on_literals sci_b
removed = refl

key : live_text (codes "A") (Key An1 2 true) ≡ codes "live A key an 1 epoch 2 conf 1"
unfolding live_text digits
key = refl

withheld : live_text (codes "B") (Withheld An2 3 Suite) ≡ codes "live B withheld an 2 epoch 3 suite"
unfolding live_text digits
withheld = refl

used : live_text (codes "B") (Withheld An1 2 Used) ≡ codes "live B withheld an 1 epoch 2 used"
unfolding live_text digits
used = refl

receive : live_text (codes "A") (Receive sci_b An0) ≡ codes "live A receive 02000000000b0001 an 0"
unfolding live_text hex_on_literals sci_b digits
receive = refl

potential : live_text (codes "A") (Peer (record { 0 = 1 ∷ 2 ∷ [] }) sci_b Potential) ≡ codes "live A peer 0102 02000000000b0001 potential"
unfolding live_text hex_on_literals sci_b
potential = refl

live : live_text (codes "A") (Peer (record { 0 = 1 ∷ 2 ∷ [] }) sci_b Live) ≡ codes "live A peer 0102 02000000000b0001 live"
unfolding live_text hex_on_literals sci_b
live = refl

gone : live_text (codes "A") (Peer (record { 0 = 1 ∷ 2 ∷ [] }) sci_b Gone) ≡ codes "live A peer 0102 02000000000b0001 gone"
unfolding live_text hex_on_literals sci_b
gone = refl
