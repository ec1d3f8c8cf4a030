-- Events as they are told: with what frames of key agreement say, in place of their octets.
use Rattle.std.specs.Prelude.{ℕ, ◌==◌, if◌then◌else◌, List, [], ◌∷◌, ◌++◌, Option, Some, None, true}
use Rattle.std.specs.Prelude.{false}
use Rattle.lan_base.specs.declared.association_number.AssociationNumber.{AssociationNumber}
use Rattle.lan_base.specs.declared.association_number.AssociationNumber.TheVariants.{An0}
use Rattle.gcm_frames.specs.Protected.{protected}
use Rattle.key_wrap.specs.Wrap.{wrapped}
use Rattle.mkpdu_codec.specs.declared.announcement.Announcement.{Announcement}
use Rattle.mkpdu_codec.specs.declared.given.Given.{Given}
use Rattle.mkpdu_codec.specs.declared.wrapped_key.WrappedKey.TheVariants.{Aes128}
use Rattle.mkpdu_codec.specs.declared.offset.ConfidentialityOffset.TheVariants.{Octets0}
use Rattle.mka_station.specs.Announcing.{frame_of}
use Rattle.lan_core.specs.declared.event.Event.{Event}
use Rattle.lan_core.specs.declared.event.Event.TheVariants as events
use Rattle.lan_core.specs.declared.fact.Fact.{Fact}
use Rattle.lan_core.specs.declared.fact.Fact.TheVariants as facts
use Rattle.lan_core.specs.Run.{Run, Happening, happened, Profile}
use Rattle.lan_core.specs.Lives.{setup_of}
use Rattle.group_safety.specs.worked.Group.{settings, profile, octets_of_sak, draw_of, bob, user}

-- a key that is given: its association number and its key number
pub record Gift : Type 0 where
  pub an : AssociationNumber
  pub number : ℕ

abbrev pub given_of : Option Gift → Option Given
given_of None = None
given_of (Some g) =
    Some (record {
      an = g.an;
      offset = Octets0;
      number = g.number;
      key = Aes128 (wrapped (setup_of settings bob).kek (octets_of_sak (draw_of g.number)));
    })

-- an announcement with the key that it gives
abbrev pub whole : Announcement → Option Gift → Announcement
whole a g = record a { given = given_of g }

-- the octets that spell an announcement
abbrev pub framed_by : Profile → Announcement → List ℕ
framed_by p a = frame_of (setup_of settings p) a

-- a frame that bob protects under the first key
abbrev pub carried : ℕ → List ℕ
carried pn = protected (octets_of_sak 3) bob.sci An0 pn true user

-- ---- what happens

-- a tick that ends in an announcement, under the number of its frame; the emission of a frame that
-- bob protected; anything else, which puts no frame on the air
pub data Deed : Type 0 where
  tells : ℕ → ℕ → List Fact → ℕ → Announcement → Option Gift → Deed
  emits : ℕ → ℕ → Deed
  plain : Event → List Fact → Deed

abbrev pub told : ℕ → ℕ → Announcement → Option Gift → Fact
told n s a g = facts.Framed n s false (framed_by (profile s) (whole a g))

abbrev pub happens : Deed → Happening
happens (tells s next f n a g) = happened (events.Tick s next) (f ++ told n s a g ∷ [])
happens (emits n pn) = happened events.Emit (facts.Framed n 1 true (carried pn) ∷ [])
happens (plain e f) = happened e f

abbrev pub run_of : List Deed → Run
run_of [] = []
run_of (d ∷ ds) = happens d ∷ run_of ds

-- ---- frames

-- what a frame is: an announcement of a station, or protected
pub data Paper : Type 0 where
  says : ℕ → Announcement → Option Gift → Paper
  carries : ℕ → Paper

abbrev pub on_air : List Deed → ℕ → Option Paper
on_air [] n = None
on_air (tells s next f m a g ∷ ds) n = if m == n then Some (says s a g) else on_air ds n
on_air (emits m pn ∷ ds) n = if m == n then Some (carries pn) else on_air ds n
on_air (plain e f ∷ ds) n = on_air ds n
