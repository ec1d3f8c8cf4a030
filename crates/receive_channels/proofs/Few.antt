-- There are at most as many channels as there may be.
use Rattle.std.proofs.Common.{◌≡◌, ◌+◌, ◌≤◌, Bool, List, [], ◌∷◌, length, filter, map, nat_lt, if◌then◌else◌, Some, None, arith, inl, inr}
use Rattle.std.specs.List.{position_or_len}
use Rattle.std.specs.Option.{unwrap_or}
use Rattle.std.proofs.lemmas.Bool.{cases_Bool}
use Rattle.std.proofs.lemmas.Bool.Decides.{nat_tests}
use Rattle.std.proofs.lemmas.List.{length-map, length-take}
use Rattle.std.proofs.lemmas.List.Edits.{length-insert}
use Rattle.lan_base.specs.declared.address.Sci.{Sci}
use Rattle.receive_channels.specs.declared.channel.Channel.{Channel}
use Rattle.receive_channels.specs.Channels.{Step, ChannelSet, added, is_before, newcomers, place_of, places, present, put_in, renewed, stays, with_added}
use Rattle.receive_channels.specs.Histories.{standing}

pub place-within : (p : Channel → Bool) (xs : List Channel) → position_or_len p xs ≤ length xs
place-within p [] = omega arith
place-within p (x ∷ xs) =
    elim (cases_Bool (p x)) [
      | inl here ↦ rw here (omega arith)
      | inr later ↦ let rest = place-within p xs in rw later (omega arith)
    ]

-- the first place that passes, or the length
pub counted : (p : Channel → Bool) (xs : List Channel)
    → unwrap_or (if nat_lt (position_or_len p xs) (length xs) then Some (position_or_len p xs) else None) (length xs)
    ≡ position_or_len p xs
counted p xs = grind (arith, nat_tests, place-within p xs)

put_in-longer : (new : Channel) (channels : List Channel) → length (put_in new channels) ≡ length channels + 1
put_in-longer new channels =
    length-insert channels (place_of new.sci channels) new (place-within (λ channel. is_before new.sci channel.sci) channels)

with_added-longer : (scis : List Sci) (channels : List Channel) → length (with_added scis channels) ≡ length scis + length channels
with_added-longer [] channels = omega arith
with_added-longer (sci ∷ scis) channels =
    let new : Channel = record { sci = sci; newest = 0 } in
    omega (arith, with_added-longer scis (put_in new channels), put_in-longer new channels)

kept-within : (p : Channel → Bool) (xs : List Channel) → length (filter p xs) ≤ length xs
kept-within p [] = omega arith
kept-within p (x ∷ xs) =
    let rest = kept-within p xs in
    elim (cases_Bool (p x)) [ inl kept ↦ rw kept (omega arith) | inr gone ↦ rw gone (omega arith) ]

after-few : (step : Step) (s : ChannelSet) → length s.channels ≤ 128
    → length (map (renewed step) (filter (stays step) (present step s))) ≤ 128
after-few step s few =
    omega (
      arith,
      length-map (filter (stays step) (present step s)) (renewed step),
      kept-within (stays step) (present step s),
      with_added-longer (added step s) s.channels,
      length-take (places s) (newcomers step s),
    )

pub few : (h : List Step) → length (standing h).channels ≤ 128
few [] = omega arith
few (step ∷ h) = after-few step (standing h) (few h)
