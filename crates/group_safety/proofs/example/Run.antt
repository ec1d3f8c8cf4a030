-- Two stations find each other, and one of them makes a key; the other starts again, and gets a
-- second key. Under each key a packet number is claimed.
use Rattle.std.proofs.Common.{ℕ, List, []}
use Rattle.std.proofs.Common.{◌∷◌, Bool, true, false, Option, Some, None}
use Rattle.std.specs.Prelude.{slice_index}
use Rattle.lan_base.specs.declared.association_number.AssociationNumber.{AssociationNumber}
use Rattle.lan_base.specs.declared.association_number.AssociationNumber.TheVariants.{An0, An1}
use Rattle.lan_base.specs.declared.frame.UserFrame.{UserFrame}
use Rattle.key_wrap.specs.Wrap.{wrapped}
use Rattle.mkpdu_codec.specs.declared.announcement.Announcement.{Announcement}
use Rattle.mkpdu_codec.specs.declared.given.Given.{Given}
use Rattle.mkpdu_codec.specs.declared.wrapped_key.WrappedKey.TheVariants.{Aes128}
use Rattle.mkpdu_codec.specs.declared.offset.ConfidentialityOffset.TheVariants.{Octets0}
use Rattle.mkpdu_codec.specs.declared.key_use.KeyUse.{KeyUse}
use Rattle.mkpdu_codec.specs.declared.key_use.Uses.{Uses}
use Rattle.mkpdu_codec.specs.declared.peer.Peer.{Peer}
use Rattle.mka_station.specs.Announcing.{no_use}
use Rattle.mka_station.specs.Lives.{Entry, ticked, sent, heard, installed, began}
use Rattle.mka_station.specs.declared.verdict.Verdict.TheVariants.{Vouched, Unvouched}
use Rattle.sak_exchange.specs.declared.change.Cause.TheVariants.{All as all_report}
use Rattle.sak_exchange.specs.declared.held_key.Key.{Key}
use Rattle.lan_core.specs.declared.event.Event.TheVariants as events
use Rattle.lan_core.specs.declared.fact.Fact.{Fact}
use Rattle.lan_core.specs.declared.fact.Fact.TheVariants as facts
use Rattle.lan_core.specs.Run.{Run, happened, Profile}
use Rattle.group_safety.proofs.once.Living.{group_kek}
use Rattle.group_safety.specs.worked.Group.{settings, mi, alice, bob, octets_of_sak, sak, id, user}
use Rattle.group_safety.specs.worked.Deeds.{framed_by}

-- the two keys: both are made by the first life of alice
abbrev pub key : ℕ → AssociationNumber → Key
key n an = record { id = id n; an = an; sak = sak n; conf = true; epoch = n }

abbrev pub first_key : Key
first_key = key 1 An0

abbrev pub second_key : Key
second_key = key 2 An1

-- ---- what is said

abbrev pub peers : ℕ → ℕ → List Peer
peers m n = record { mi = mi m; mn = n } ∷ []

abbrev pub use_of : ℕ → AssociationNumber → Bool → KeyUse
use_of n an tx = record { server = mi 1; number = n; an = an; tx = tx; rx = true; lowest = 1 }

abbrev pub one_use : KeyUse → Option Uses
one_use u = Some (record { latest = u; old = no_use })

abbrev pub gives : ℕ → AssociationNumber → Option Given
gives n an = Some (record {
  an = an;
  offset = Octets0;
  number = n;
  key = Aes128 (wrapped (group_kek settings) (octets_of_sak n));
})

abbrev pub says : Profile → ℕ → ℕ → Bool → List Peer → List Peer → Option Uses → Option Given
    → Announcement
says p m mn server live potential uses given = record {
  source = record { 0 = 2 ∷ 0 ∷ 0 ∷ 0 ∷ 0 ∷ slice_index p.sci.0 5 ∷ [] };
  priority = p.priority;
  server = server;
  sci = p.sci;
  mi = mi m;
  mn = mn;
  ckn = settings.ckn;
  live = live;
  potential = potential;
  uses = uses;
  given = given;
  highs = None;
}

abbrev pub a1 : Announcement
a1 = says alice 1 1 false [] [] None None

abbrev pub b1 : Announcement
b1 = says bob 2 1 false [] (peers 1 1) None None

abbrev pub a2 : Announcement
a2 = says alice 1 2 true (peers 2 1) [] (one_use (use_of 1 An0 false)) (gives 1 An0)

abbrev pub b2 : Announcement
b2 = says bob 2 2 false (peers 1 2) [] (one_use (use_of 1 An0 false)) None

abbrev pub a3 : Announcement
a3 = says alice 1 3 true (peers 2 2) [] (one_use (use_of 1 An0 true)) None

-- bob starts again
abbrev pub c1 : Announcement
c1 = says bob 3 1 false [] (peers 1 3) None None

abbrev pub a4 : Announcement
a4 = says alice 1 4 true (peers 3 1) []
    (Some (record { latest = use_of 2 An1 false; old = use_of 1 An0 true })) (gives 2 An1)

abbrev pub c2 : Announcement
c2 = says bob 3 2 false (peers 1 4) [] (one_use (use_of 2 An1 false)) None

abbrev pub a5 : Announcement
a5 = says alice 1 5 true (peers 3 2) []
    (Some (record { latest = use_of 2 An1 true; old = use_of 1 An0 false })) None

-- ---- the histories of the lives

abbrev pub alice1 : List Entry
alice1 = sent a1 ∷ ticked ∷ []

abbrev pub bob1 : List Entry
bob1 = heard a1 ∷ []

abbrev pub bob2 : List Entry
bob2 = sent b1 ∷ ticked ∷ bob1

abbrev pub alice2 : List Entry
alice2 = heard b1 ∷ alice1

abbrev pub alice3 : List Entry
alice3 = sent a2 ∷ installed (Some (mi 1 ∷ mi 2 ∷ [])) first_key ∷ ticked ∷ alice2

abbrev pub bob3 : List Entry
bob3 = installed None first_key ∷ heard a2 ∷ bob2

abbrev pub bob4 : List Entry
bob4 = sent b2 ∷ ticked ∷ bob3

abbrev pub alice4 : List Entry
alice4 = heard b2 ∷ alice3

abbrev pub alice5 : List Entry
alice5 = sent a3 ∷ began 1 ∷ ticked ∷ alice4

abbrev pub carol1 : List Entry
carol1 = heard a3 ∷ []

abbrev pub carol2 : List Entry
carol2 = sent c1 ∷ ticked ∷ carol1

abbrev pub alice6 : List Entry
alice6 = heard c1 ∷ alice5

abbrev pub alice7 : List Entry
alice7 = sent a4 ∷ installed (Some (mi 1 ∷ mi 3 ∷ [])) second_key ∷ ticked ∷ alice6

abbrev pub carol3 : List Entry
carol3 = installed None second_key ∷ heard a4 ∷ carol2

abbrev pub carol4 : List Entry
carol4 = sent c2 ∷ ticked ∷ carol3

abbrev pub alice8 : List Entry
alice8 = heard c2 ∷ alice7

abbrev pub alice9 : List Entry
alice9 = sent a5 ∷ began 2 ∷ ticked ∷ alice8

-- ---- the run

abbrev pub users : List UserFrame
users = user ∷ []

abbrev pub frames : ℕ → ℕ → Profile → Announcement → Fact
frames number s p a = facts.Framed number s false (framed_by p a)

abbrev pub r2 : Run
r2 =
    happened (events.Start bob.name bob.sci bob.priority) (facts.Life 1 (mi 2) ∷ [])
    ∷ happened (events.Start alice.name alice.sci alice.priority) (facts.Life 0 (mi 1) ∷ []) ∷ []

-- alice says something, bob answers, and alice makes a key
abbrev pub r3 : Run
r3 = happened (events.Tick 0 0) (facts.Ticked 0 1 0 ∷ frames 1 0 alice a1 ∷ []) ∷ r2

abbrev pub r4 : Run
r4 = happened (events.Deliver 1 1) (facts.HeardMka 1 1 Unvouched ∷ []) ∷ r3

abbrev pub r5 : Run
r5 = happened (events.Tick 1 0) (facts.Ticked 1 1 0 ∷ frames 2 1 bob b1 ∷ []) ∷ r4

abbrev pub r6 : Run
r6 = happened (events.Deliver 2 0)
    (facts.HeardMka 2 0 Vouched ∷ facts.Server 0 (Some (mi 1)) ∷ []) ∷ r5

abbrev pub r7 : Run
r7 =
    happened (events.Tick 0 0)
    (facts.Ticked 0 2 0 ∷ facts.Installed 0 (id 1) An0 1 (sak 1) ∷ frames 3 0 alice a2 ∷ []) ∷ r6

-- bob takes it, and says so; alice begins it, and claims a number
abbrev pub takes : ℕ → ℕ → AssociationNumber → List Fact
takes number n an =
    facts.HeardMka number 1 Vouched ∷ facts.Server 1 (Some (mi 1)) ∷ facts.Installed 1 (id n) an n
    (sak n) ∷ []

abbrev pub r8 : Run
r8 = happened (events.Deliver 3 1) (takes 3 1 An0) ∷ r7

abbrev pub r9 : Run
r9 = happened (events.Tick 1 0) (facts.Ticked 1 2 0 ∷ frames 4 1 bob b2 ∷ []) ∷ r8

abbrev pub r10 : Run
r10 = happened (events.Deliver 4 0) (facts.HeardMka 4 0 Vouched ∷ []) ∷ r9

abbrev pub r11 : Run
r11 =
    happened (events.Tick 0 0)
    (facts.Ticked 0 3 0 ∷ facts.Began 0 (id 1) An0 1 all_report ∷ frames 5 0 alice a3 ∷ []) ∷ r10

abbrev pub r12 : Run
r12 = happened (events.Claim 0 1 1) (facts.Claimed 0 An0 1 1 ∷ []) ∷ r11

-- bob starts again, and alice makes a second key
abbrev pub r13 : Run
r13 =
    happened (events.Restart 1)
    (facts.Life 1 (mi 3) ∷ facts.Server 1 None ∷ facts.Dropped 1 (id 1) An0 ∷ []) ∷ r12

abbrev pub r14 : Run
r14 = happened (events.Deliver 5 1) (facts.HeardMka 5 1 Unvouched ∷ []) ∷ r13

abbrev pub r15 : Run
r15 = happened (events.Tick 1 0) (facts.Ticked 1 1 0 ∷ frames 6 1 bob c1 ∷ []) ∷ r14

abbrev pub r16 : Run
r16 = happened (events.Deliver 6 0) (facts.HeardMka 6 0 Vouched ∷ []) ∷ r15

abbrev pub r17 : Run
r17 =
    happened (events.Tick 0 2)
    (facts.Ticked 0 4 2 ∷ facts.Installed 0 (id 2) An1 2 (sak 2) ∷ frames 7 0 alice a4 ∷ []) ∷ r16

-- the new life takes it; alice begins it, and claims a number under it
abbrev pub r18 : Run
r18 = happened (events.Deliver 7 1) (takes 7 2 An1) ∷ r17

abbrev pub r19 : Run
r19 = happened (events.Tick 1 0) (facts.Ticked 1 2 0 ∷ frames 8 1 bob c2 ∷ []) ∷ r18

abbrev pub r20 : Run
r20 = happened (events.Deliver 8 0) (facts.HeardMka 8 0 Vouched ∷ []) ∷ r19

abbrev pub r21 : Run
r21 =
    happened (events.Tick 0 2)
    (facts.Ticked 0 5 2 ∷ facts.Began 0 (id 2) An1 2 all_report ∷ frames 9 0 alice a5 ∷ []) ∷ r20

abbrev pub run : Run
run = happened (events.Claim 0 1 2) (facts.Claimed 0 An1 2 2 ∷ []) ∷ r21
