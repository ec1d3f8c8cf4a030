-- The definitions at small histories that were worked out by hand.
use Rattle.std.proofs.Common.{◌≡◌, ℕ, zero, suc, ◌+◌, Bool, true, false, List, [], ◌∷◌, Option, Some, None, refl}
use Rattle.std.specs.Option.{option_map}
use Rattle.lan_base.specs.declared.address.Mi.{Mi}
use Rattle.lan_base.specs.declared.address.Sci.{Sci}
use Rattle.mkpdu_codec.specs.declared.peer.Peer.{Peer}
use Rattle.peer_lists.specs.declared.heard.Heard.{Heard}
use Rattle.peer_lists.specs.declared.heard.PeerRefusal.TheVariants.{Echo, OldNumber, PeersFull}
use Rattle.peer_lists.specs.declared.heard.Outcome.TheVariants.{Vouched, Unvouched, Dropped}
use Rattle.peer_lists.specs.Histories.{Peering, ticked, sent, heard, recent, last_sent, may_send, IsCounted}
use Rattle.peer_lists.specs.Acceptance.{Own, refusal, accepted, outcome}
use Rattle.peer_lists.specs.Peers.{last_accepted, says, hopes, known, lives, potentials, row_at}
use Rattle.peer_lists.specs.Listings.{listing}

abbrev mi : ℕ → Mi
mi n = record { 0 = n ∷ [] }

abbrev sci : ℕ → Sci
sci n = record { 0 = n ∷ [] }

-- the station has the identifier 9 and the SCI 90
abbrev own : Own
own = record { mi = mi 9; sci = sci 90 }

-- an announcement of a member under an SCI and a number, which lists nobody, or lists the station under a number
abbrev plain : ℕ → ℕ → ℕ → Peering
plain m s n = heard (record { mi = mi m; sci = sci s; priority = 0; mn = n; lists = false; listed = 0; uses = None })

abbrev hello : ℕ → ℕ → ℕ → ℕ → Heard
hello m s n l = record { mi = mi m; sci = sci s; priority = 0; mn = n; lists = true; listed = l; uses = None }

abbrev listed : ℕ → ℕ → ℕ → ℕ → Peering
listed m s n l = heard (hello m s n l)

abbrev ticks : ℕ → List Peering → List Peering
ticks zero h = h
ticks (suc n) h = ticked ∷ ticks n h

-- what a member says or hopes, as the message number
abbrev said : List Peering → ℕ → Option ℕ
said h m = option_map (λ a. a.told.mn) (says own h (mi m))

abbrev hoped : List Peering → ℕ → Option ℕ
hoped h m = option_map (λ a. a.told.mn) (hopes own h (mi m))

-- a member of SCI 10 is heard once, unvouched
abbrev once : List Peering
once = plain 1 10 5 ∷ ticked ∷ []

-- it is known and potential at an age of 59 ticks, and gone at 60
known_at_59 : known own (ticks 59 once) ≡ mi 1 ∷ []
unfolding known accepted refusal
known_at_59 = refl

hoped_at_59 : hoped (ticks 59 once) 1 ≡ Some 5
unfolding says hopes accepted refusal
hoped_at_59 = refl

known_at_60 : known own (ticks 60 once) ≡ []
unfolding known accepted refusal
known_at_60 = refl

hoped_at_60 : hoped (ticks 60 once) 1 ≡ None
unfolding says hopes accepted refusal
hoped_at_60 = refl

-- its number is kept for 59 ticks, and another one may come at 60
old_at_59 : outcome own (ticks 59 once) (hello 1 10 5 0) ≡ Dropped (OldNumber 5)
unfolding accepted refusal outcome
old_at_59 = refl

next_at_59 : outcome own (ticks 59 once) (hello 1 10 6 0) ≡ Unvouched
unfolding accepted refusal outcome
next_at_59 = refl

old_at_60 : outcome own (ticks 60 once) (hello 1 10 5 0) ≡ Unvouched
unfolding accepted refusal outcome
old_at_60 = refl

-- a dropped announcement keeps nothing young
dropped_is_nothing : known own (ticks 30 (plain 1 10 5 ∷ ticks 30 once)) ≡ []
unfolding known accepted refusal
dropped_is_nothing = refl

-- an echo by the member identifier, by the SCI alone, and by neither
echo_by_mi : outcome own [] (hello 9 10 1 0) ≡ Dropped Echo
unfolding accepted refusal outcome
echo_by_mi = refl

echo_by_sci : outcome own [] (hello 1 90 1 0) ≡ Dropped Echo
unfolding accepted refusal outcome
echo_by_sci = refl

-- after a history, the members 101 up to 100 + n, each heard once
abbrev crowd_after : List Peering → ℕ → List Peering
crowd_after h zero = h
crowd_after h (suc n) = plain (101 + n) (101 + n) 1 ∷ crowd_after h n

-- the members 101 up to 100 + n, each heard once in the first tick
abbrev crowd : ℕ → List Peering
crowd = crowd_after (ticked ∷ [])

-- sixty-four members fill the table: another one is dropped, one of them is heard, and sixty-three leave room
full_at_64 : outcome own (crowd 64) (hello 1 10 1 0) ≡ Dropped PeersFull
unfolding accepted refusal outcome
full_at_64 = refl

one_of_64 : outcome own (crowd 64) (hello 101 101 2 0) ≡ Unvouched
unfolding accepted refusal outcome
one_of_64 = refl

room_at_63 : outcome own (crowd 63) (hello 1 10 1 0) ≡ Unvouched
unfolding accepted refusal outcome
room_at_63 = refl

room_when_old : outcome own (ticks 60 (crowd 64)) (hello 1 10 1 0) ≡ Unvouched
unfolding accepted refusal outcome
room_when_old = refl

-- an own number of 59 ticks vouches, one of 60 does not, and none that was never sent
vouched_at_59 : outcome own (ticks 59 (sent 1 ∷ ticked ∷ [])) (hello 1 10 1 1) ≡ Vouched
unfolding accepted refusal outcome
vouched_at_59 = refl

vouched_at_60 : outcome own (ticks 60 (sent 1 ∷ ticked ∷ [])) (hello 1 10 1 1) ≡ Unvouched
unfolding accepted refusal outcome
vouched_at_60 = refl

vouched_by_none : outcome own (sent 1 ∷ ticked ∷ []) (hello 1 10 1 2) ≡ Unvouched
unfolding accepted refusal outcome
vouched_by_none = refl

-- Numbers: one may be sent in each tick, and one before the first, so that two are sent at clock 1.
abbrev two_sent : List Peering
two_sent = sent 2 ∷ ticked ∷ sent 1 ∷ []

two_are_counted : IsCounted two_sent
two_are_counted = (refl, refl, (refl, refl, tt))

last_of_two : last_sent two_sent ≡ 2
last_of_two = refl

none_till_a_tick : may_send two_sent ≡ false
none_till_a_tick = refl

after_a_tick : may_send (ticked ∷ two_sent) ≡ true
after_a_tick = refl

-- the last accepted announcement of a member is kept in the history for ever, and a dropped one is none
last_of_once : option_map (λ a. a.told.mn) (last_accepted own (ticks 60 once) (mi 1)) ≡ Some 5
unfolding accepted refusal
last_of_once = refl

dropped_is_not_last : option_map (λ a. a.told.mn) (last_accepted own (plain 1 10 4 ∷ once) (mi 1)) ≡ Some 5
unfolding accepted refusal
dropped_is_not_last = refl

-- what vouched at its moment stays vouched when the number grows old
vouched_then : said (ticks 59 (listed 1 10 1 1 ∷ ticks 59 (sent 1 ∷ ticked ∷ []))) 1 ≡ Some 1
unfolding says accepted refusal
vouched_then = refl

-- the members 1 and 2 share the SCI 10: member 2 displaces member 1, which is in neither list
abbrev second : List Peering
second = listed 2 10 1 1 ∷ listed 1 10 1 1 ∷ sent 1 ∷ ticked ∷ []

second_lives : lives own second ≡ mi 2 ∷ []
unfolding says known accepted refusal
second_lives = refl

first_displaced : potentials own second ≡ []
unfolding says hopes known accepted refusal
first_displaced = refl

both_known : known own second ≡ mi 1 ∷ mi 2 ∷ []
unfolding known accepted refusal
both_known = refl

-- a displaced member takes room
displaced_counts : outcome own (crowd_after second 62) (hello 3 30 1 0) ≡ Dropped PeersFull
unfolding accepted refusal outcome
displaced_counts = refl

displaced_leaves_room : outcome own (crowd_after second 61) (hello 3 30 1 0) ≡ Unvouched
unfolding accepted refusal outcome
displaced_leaves_room = refl

-- a later unvouched announcement of the displaced member makes it potential again, and displaces nobody
again_potential : potentials own (plain 1 10 2 ∷ second) ≡ mi 1 ∷ []
unfolding says hopes known accepted refusal
again_potential = refl

still_lives : lives own (plain 1 10 2 ∷ second) ≡ mi 2 ∷ []
unfolding says known accepted refusal
still_lives = refl

-- a later vouched one makes it live, and displaces the other
again_live : lives own (listed 1 10 2 1 ∷ second) ≡ mi 1 ∷ []
unfolding says known accepted refusal
again_live = refl

other_displaced : potentials own (listed 1 10 2 1 ∷ second) ≡ []
unfolding says hopes known accepted refusal
other_displaced = refl

-- Member 1 speaks again under another SCI, unvouched: it is live no more, since its last vouched words were displaced, and potential by its last ones.
moved_potential : hoped (plain 1 11 2 ∷ second) 1 ≡ Some 2
unfolding says hopes accepted refusal
moved_potential = refl

-- member 2 displaces, and moves to another SCI in vouched words: member 1 stays displaced
stays_displaced : lives own (listed 2 20 2 1 ∷ second) ≡ mi 2 ∷ []
unfolding says known accepted refusal
stays_displaced = refl

-- A live member's words are its last vouched ones, also after unvouched ones, and while those are young alone it is potential.
says_the_vouched : said (plain 1 10 2 ∷ listed 1 10 1 1 ∷ sent 1 ∷ ticked ∷ []) 1 ≡ Some 1
unfolding says accepted refusal
says_the_vouched = refl

hopes_after : hoped (ticks 30 (plain 1 10 2 ∷ ticks 30 (listed 1 10 1 1 ∷ sent 1 ∷ ticked ∷ []))) 1 ≡ Some 2
unfolding says hopes accepted refusal
hopes_after = refl

-- The row of a live member with unvouched words after the vouched ones: the number is the last one.
row_of_live : option_map {U = ℕ × Bool × Sci} (λ r. (r.mn, r.live, r.sci)) (row_at own (plain 1 20 2 ∷ listed 1 10 1 1 ∷ sent 1 ∷ ticked ∷ []) 0) ≡ Some (2, true, sci 10)
unfolding says hopes known accepted refusal row_at
row_of_live = refl

row_past : row_at own (plain 1 20 2 ∷ listed 1 10 1 1 ∷ sent 1 ∷ ticked ∷ []) 1 ≡ None
unfolding says hopes known accepted refusal row_at
row_past = refl

abbrev pair : ℕ → ℕ → Peer
pair m n = record { mi = mi m; mn = n }

-- the own identifier is listed twice: the recent number counts, and the first where none is recent
lists_a_recent : listing (mi 9) (recent (sent 4 ∷ ticked ∷ [])) (pair 9 3 ∷ pair 1 4 ∷ pair 9 4 ∷ []) ≡ record { lists = true; listed = 4 }
lists_a_recent = refl

lists_the_first : listing (mi 9) (recent (sent 4 ∷ ticked ∷ [])) (pair 9 3 ∷ pair 9 2 ∷ []) ≡ record { lists = true; listed = 3 }
lists_the_first = refl

lists_nobody : (listing (mi 9) (recent (sent 4 ∷ ticked ∷ [])) (pair 1 4 ∷ [])).lists ≡ false
lists_nobody = refl
