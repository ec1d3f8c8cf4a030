-- Receive channels: what one step makes of them, and what it tells (this profile's own rule).
use Rattle.std.specs.Prelude.{◌≡◌, ◌⊎◌, ℕ, ◌-◌, Bool, not, ◌&&◌, nat_lt, if◌then◌else◌, List, [], ◌∷◌, ◌++◌, map, filter, length, take, drop, max}
use Rattle.std.specs.List.{list_any, list_all, insert, position_or_len}
use Rattle.std.specs.Ordering.{nat_cmp, is_lt}
use Rattle.std.specs.Cmp.Lexicographic.{slice_cmp}
use Rattle.lan_base.specs.declared.address.Sci.{Sci}
use Rattle.lan_base.specs.Identifiers.{same_sci}
use Rattle.receive_channels.specs.declared.channel.ChannelKey.{ChannelKey}
use Rattle.receive_channels.specs.declared.channel.Channel.{Channel}
use Rattle.receive_channels.specs.declared.changes.Opened.{Opened}
use Rattle.receive_channels.specs.declared.changes.Opened.TheVariants.{Add, Full}
use Rattle.receive_channels.specs.declared.changes.Receive.{Receive}
use Rattle.receive_channels.specs.declared.changes.ChannelChanges.{ChannelChanges}

-- at most so many channels are there at once
abbrev pub most_channels : ℕ
most_channels = 128

-- who is there now: the SCIs of the live and the potential members, ascending, each once; and the held
-- keys that the data path may have, the oldest first
pub record Step : Type 0 where
  pub scis : List Sci
  pub keys : List ChannelKey

-- the channels, ascending by SCI; and the SCIs that have none, since there was no place
pub record ChannelSet : Type 0 where
  pub channels : List Channel
  pub waiting : List Sci

-- before the first step
abbrev pub none : ChannelSet
none = record { channels = []; waiting = [] }

-- whether an SCI is one of these
abbrev pub has : List Sci → Sci → Bool
has scis sci = list_any (λ one. same_sci one sci) scis

-- whether an SCI has a channel
abbrev pub has_channel : List Channel → Sci → Bool
has_channel channels sci = list_any (λ channel. same_sci channel.sci sci) channels

-- ---- channels that are made

-- the SCIs that somebody has, and that have no channel
abbrev pub newcomers : Step → ChannelSet → List Sci
newcomers step s = filter (λ sci. not (has_channel s.channels sci)) step.scis

-- how many places there are; one that a channel leaves at a step is given at the next
abbrev pub places : ChannelSet → ℕ
places s = most_channels - length s.channels

-- the least of them, for which there are places
abbrev pub added : Step → ChannelSet → List Sci
added step s = take (places s) (newcomers step s)

-- the others
abbrev pub unplaced : Step → ChannelSet → List Sci
unplaced step s = drop (places s) (newcomers step s)

-- what is told of each: that there is none for it, once until there is a place or nobody has it
abbrev pub openings : Step → ChannelSet → List Opened
openings step s =
    map Add (added step s) ++ map Full (filter (λ sci. not (has s.waiting sci)) (unplaced step s))

-- whether an SCI stands before another: by the first octet in which they differ
abbrev pub is_before : Sci → Sci → Bool
is_before a b = is_lt (slice_cmp nat_cmp a.0 b.0)

-- where an SCI belongs among ascending ones: before the first greater one
abbrev pub place_of : Sci → List Channel → ℕ
place_of sci channels = position_or_len (λ channel. is_before sci channel.sci) channels

-- a channel at its place
abbrev pub put_in : Channel → List Channel → List Channel
put_in new channels = insert channels (place_of new.sci channels) new

-- the channels with those that are made
abbrev pub with_added : List Sci → List Channel → List Channel
with_added [] channels = channels
with_added (sci ∷ scis) channels = with_added scis (put_in (record { sci = sci; newest = 0 }) channels)

abbrev pub present : Step → ChannelSet → List Channel
present step s = with_added (added step s) s.channels

-- ---- keys that come into channels

-- whether a key is newer than all that came into a channel
abbrev pub lacks : ChannelKey → Channel → Bool
lacks key channel = nat_lt channel.newest key.epoch

-- a key comes into each channel that is somebody's and lacks it
abbrev pub receive : ChannelKey → Channel → Receive
receive key channel = record { sci = channel.sci; epoch = key.epoch; an = key.an }

abbrev pub under_key : Step → List Channel → ChannelKey → List Receive
under_key step channels key =
    map (receive key) (filter (λ channel. has step.scis channel.sci && lacks key channel) channels)

abbrev pub associations : Step → List Channel → List ChannelKey → List Receive
associations step channels [] = []
associations step channels (key ∷ keys) = under_key step channels key ++ associations step channels keys

-- the epoch of the newest of the keys and of another one
abbrev pub newest_of : ℕ → List ChannelKey → ℕ
newest_of epoch [] = epoch
newest_of epoch (key ∷ keys) = newest_of (max epoch key.epoch) keys

-- a channel that is somebody's has all held keys afterwards
abbrev pub renewed : Step → Channel → Channel
renewed step channel =
    if has step.scis channel.sci then record channel { newest = newest_of channel.newest step.keys }
    else channel

-- ---- channels that go

-- nobody has the SCI, and none of the held keys came into the channel
abbrev pub goes : Step → Channel → Bool
goes step channel = not (has step.scis channel.sci) && list_all (λ key. lacks key channel) step.keys

abbrev pub stays : Step → Channel → Bool
stays step channel = not (goes step channel)

-- the SCIs of those that go
abbrev pub removals : Step → ChannelSet → List Sci
removals step s = map (λ channel. channel.sci) (filter (goes step) (present step s))

-- ---- the step

-- what is told of channels and keys, and which channels go, in this order
abbrev pub IsTold : Step → ChannelSet → ChannelChanges → Type 0
IsTold step s told = (told.opened.items ≡ openings step s)
    × (told.receives.items ≡ associations step (present step s) step.keys)
    × (told.removed.items ≡ removals step s)

-- what is there afterwards
abbrev pub after : Step → ChannelSet → ChannelSet
after step s = record {
  channels = map (renewed step) (filter (stays step) (present step s));
  waiting = unplaced step s;
}

-- ---- steps at which nothing happens

-- a step that tells nothing and changes nothing
pub record IsStill (step : Step) (s : ChannelSet) : Type 0 where
  pub opens : openings step s ≡ []
  pub receives : associations step (present step s) step.keys ≡ []
  pub removes : removals step s ≡ []
  pub changes : after step s ≡ s

-- nobody waits for a place that is free
abbrev pub NobodyCanBePlaced : ChannelSet → Type 0
NobodyCanBePlaced s = (s.waiting ≡ []) ⊎ (places s ≡ 0)
