-- The two stations go on: packet numbers of the first key run out, so that alice makes a second
-- one,
-- which bob takes and reports; alice begins it, and bob follows.
use Rattle.std.proofs.Common.{ℕ, List, []}
use Rattle.std.proofs.Common.{◌∷◌, false, true, Some, None}
use Rattle.lan_base.specs.declared.association_number.AssociationNumber.TheVariants.{An0, An1}
use Rattle.gcm_frames.specs.Protected.{protected}
use Rattle.rx_slots.specs.Numbers.{answer}
use Rattle.lan_core.specs.Lives.{receiving}
use Rattle.group_safety.specs.worked.Group.{settings, octets_of_sak, user, mi, alice, bob, sak, id}
use Rattle.mkpdu_codec.specs.declared.announcement.Announcement.{Announcement}
use Rattle.mka_station.specs.Lives.{Entry, ticked, sent, heard, installed, began}
use Rattle.mka_station.specs.declared.verdict.Verdict.TheVariants.{Vouched}
use Rattle.sak_exchange.specs.declared.change.Cause.TheVariants.{All as all_report, Flag as flagged}
use Rattle.lan_core.specs.declared.event.Event.TheVariants as events
use Rattle.lan_core.specs.declared.fact.Fact.TheVariants as facts
use Rattle.lan_core.specs.Run.{Run, Happening, happened}
use Rattle.group_safety.proofs.example.Run.{second_key, peers}
use Rattle.group_safety.proofs.example.Run.{use_of, one_use, gives, says, frames, a3, alice5, bob4}
use Rattle.group_safety.proofs.example.Run.{r11}

-- ---- what is said

-- from this number on a key is spent
abbrev pub many : ℕ
many = 3221225472

-- alice makes the second key
abbrev pub d4 : Announcement
d4 = says alice 1 4 true (peers 2 2) []
    (Some (record { latest = use_of 2 An1 false; old = use_of 1 An0 true })) (gives 2 An1)

-- bob has begun the first one
abbrev pub e3 : Announcement
e3 = says bob 2 3 false (peers 1 3) [] (one_use (use_of 1 An0 true)) None

-- bob receives the second one
abbrev pub e4 : Announcement
e4 = says bob 2 4 false (peers 1 4) []
    (Some (record { latest = use_of 2 An1 false; old = use_of 1 An0 true })) None

-- each has begun it
abbrev pub d5 : Announcement
d5 = says alice 1 5 true (peers 2 4) []
    (Some (record { latest = use_of 2 An1 true; old = use_of 1 An0 false })) None

abbrev pub e5 : Announcement
e5 = says bob 2 5 false (peers 1 5) []
    (Some (record { latest = use_of 2 An1 true; old = use_of 1 An0 false })) None

-- ---- the histories of the lives

abbrev pub bob5 : List Entry
bob5 = began 1 ∷ heard a3 ∷ bob4

abbrev pub alice6 : List Entry
alice6 = sent d4 ∷ installed (Some (mi 1 ∷ mi 2 ∷ [])) second_key ∷ ticked ∷ alice5

abbrev pub bob6 : List Entry
bob6 = sent e3 ∷ ticked ∷ bob5

abbrev pub bob7 : List Entry
bob7 = installed None second_key ∷ heard d4 ∷ bob6

abbrev pub alice7 : List Entry
alice7 = heard e3 ∷ alice6

abbrev pub alice8 : List Entry
alice8 = ticked ∷ alice7

abbrev pub bob8 : List Entry
bob8 = sent e4 ∷ ticked ∷ bob7

abbrev pub alice9 : List Entry
alice9 = heard e4 ∷ alice8

abbrev pub alice10 : List Entry
alice10 = sent d5 ∷ began 2 ∷ ticked ∷ alice9

abbrev pub bob9 : List Entry
bob9 = ticked ∷ bob8

abbrev pub bob10 : List Entry
bob10 = began 2 ∷ heard d5 ∷ bob9

abbrev pub alice11 : List Entry
alice11 = ticked ∷ alice10

abbrev pub bob11 : List Entry
bob11 = sent e5 ∷ ticked ∷ bob10

-- ---- the run

-- bob begins the first key
abbrev pub r12 : Run
r12 = happened (events.Deliver 5 1)
    (facts.HeardMka 5 1 Vouched ∷ facts.Began 1 (id 1) An0 1 flagged ∷ []) ∷ r11

-- the first round: alice makes the second one, which bob takes
abbrev pub r13 : Run
r13 =
    happened (events.Tick 0 many)
    (facts.Ticked 0 4 many ∷ facts.Installed 0 (id 2) An1 2 (sak 2) ∷ frames 6 0 alice d4 ∷ []) ∷
    r12

abbrev pub r14 : Run
r14 = happened (events.Tick 1 many) (facts.Ticked 1 3 many ∷ frames 7 1 bob e3 ∷ []) ∷ r13

abbrev pub r15 : Run
r15 = happened (events.Deliver 6 1)
    (facts.HeardMka 6 1 Vouched ∷ facts.Installed 1 (id 2) An1 2 (sak 2) ∷ []) ∷ r14

abbrev pub r16 : Run
r16 = happened (events.Deliver 7 0) (facts.HeardMka 7 0 Vouched ∷ []) ∷ r15

-- the second round: bob reports it
abbrev pub r17 : Run
r17 = happened (events.Tick 0 many) (facts.Ticked 0 5 many ∷ []) ∷ r16

abbrev pub r18 : Run
r18 = happened (events.Tick 1 many) (facts.Ticked 1 4 many ∷ frames 8 1 bob e4 ∷ []) ∷ r17

abbrev pub r19 : Run
r19 = happened (events.Deliver 8 0) (facts.HeardMka 8 0 Vouched ∷ []) ∷ r18

-- the third one: alice begins it, and bob follows
abbrev pub r20 : Run
r20 =
    happened (events.Tick 0 many)
    (facts.Ticked 0 6 many ∷ facts.Began 0 (id 2) An1 2 all_report ∷ frames 9 0 alice d5 ∷ []) ∷ r19

abbrev pub r21 : Run
r21 = happened (events.Tick 1 many) (facts.Ticked 1 5 many ∷ []) ∷ r20

-- bob claims a number under the first key, and the frame goes on the air
abbrev pub carried : List ℕ
carried = protected (octets_of_sak 1) bob.sci An0 many true user

abbrev pub r22 : Run
r22 = happened (events.Claim 1 1 many) (facts.Claimed 1 An0 1 many ∷ []) ∷ r21

abbrev pub emits : Happening
emits = happened events.Emit (facts.Framed 10 1 true carried ∷ [])

abbrev pub r23 : Run
r23 = emits ∷ r22

-- bob begins the second key
abbrev pub follows : Happening
follows = happened (events.Deliver 9 1)
    (facts.HeardMka 9 1 Vouched ∷ facts.Began 1 (id 2) An1 2 flagged ∷ [])

abbrev pub r24 : Run
r24 = follows ∷ r23

-- the fourth one
abbrev pub more : ℕ
more = 3221225473

abbrev pub r25 : Run
r25 = happened (events.Tick 0 more) (facts.Ticked 0 7 more ∷ []) ∷ r24

abbrev pub r26 : Run
r26 = happened (events.Tick 1 more) (facts.Ticked 1 6 more ∷ frames 11 1 bob e5 ∷ []) ∷ r25

-- the frame under the first key reaches alice
abbrev pub arrives : Happening
arrives = happened (events.Deliver 10 0)
    (facts.Arrived 10 0 (answer alice.sci settings.window (receiving 0 r26) carried) ∷ [])

abbrev pub run : Run
run = arrives ∷ r26
