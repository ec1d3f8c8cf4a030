-- The definitions at small histories that were worked out by hand.
use Rattle.std.proofs.Common.{◌≡◌, ◌∙◌, ℕ, ◌<◌, zero, suc, true, false, nat_le, List, [], ◌∷◌, ◌++◌, map, drop, length, All, Contains, inl, inr, refl, ap, sym, arith}
use Rattle.std.proofs.lemmas.List.Elements.{All-cons, All-nil}
use Rattle.lan_base.specs.declared.address.Sci.{Sci}
use Rattle.lan_base.specs.declared.association_number.AssociationNumber.TheVariants.{An0, An1}
use Rattle.receive_channels.specs.declared.channel.ChannelKey.{ChannelKey}
use Rattle.receive_channels.specs.declared.changes.Opened.TheVariants.{Add, Full}
use Rattle.lan_base.specs.Differing.{AllDiffer}
use Rattle.receive_channels.specs.Channels.{Step, IsStill, has_channel, openings, removals}
use Rattle.receive_channels.specs.Histories.{AreSteady, IsNext, association, is_held, key_of, made, made_at, standing}
use Rattle.receive_channels.proofs.Members.{contains-in}

abbrev sci : ℕ → Sci
sci n = record { 0 = n ∷ [] }

abbrev first : ChannelKey
first = record { epoch = 1; an = An0 }

abbrev second : ChannelKey
second = record { epoch = 2; an = An1 }

abbrev step : List Sci → List ChannelKey → Step
step scis keys = record { scis = scis; keys = keys }

-- somebody comes, and then a key; both are told once
abbrev came : List Step
came = step (sci 11 ∷ []) [] ∷ []

opens : openings (step (sci 11 ∷ []) []) (standing []) ≡ Add (sci 11) ∷ []
opens = refl

opens_once : openings (step (sci 11 ∷ []) []) (standing came) ≡ []
opens_once = refl

receives : made_at (step (sci 11 ∷ []) (first ∷ [])) came ≡ record { sci = sci 11; epoch = 1; an = An0 } ∷ []
receives = refl

abbrev keyed : List Step
keyed = step (sci 11 ∷ []) (first ∷ []) ∷ came

receives_once : made_at (step (sci 11 ∷ []) (first ∷ [])) keyed ≡ []
receives_once = refl

-- who joins as a key comes gets the old one first, and channels are told ascending
joins : made_at (step (sci 7 ∷ sci 11 ∷ []) (first ∷ second ∷ [])) keyed
    ≡ record { sci = sci 7; epoch = 1; an = An0 } ∷ record { sci = sci 7; epoch = 2; an = An1 }
    ∷ record { sci = sci 11; epoch = 2; an = An1 } ∷ []
joins = refl

-- nobody has the SCI any more: the channel gets no further key, and stays while it has one that is held
abbrev alone : List Step
alone = step [] (first ∷ []) ∷ keyed

stays : removals (step [] (first ∷ second ∷ [])) (standing alone) ≡ []
stays = refl

gets_none : made_at (step [] (first ∷ second ∷ [])) alone ≡ []
gets_none = refl

-- who comes again finds the channel, with the first key in it, and gets the second one
comes_again : made_at (step (sci 11 ∷ []) (first ∷ second ∷ [])) alone ≡ record { sci = sci 11; epoch = 2; an = An1 } ∷ []
comes_again = refl

-- with the last key that it has the channel goes
goes_at_last : removals (step [] (second ∷ [])) (standing alone) ≡ sci 11 ∷ []
goes_at_last = refl

-- there are 128 channels: for one more there is none, which is told once
abbrev many : ℕ → List Sci
many zero = []
many (suc n) = many n ++ sci n ∷ []

abbrev full : List Step
full = step (many 128) [] ∷ []

one_more : openings (step (many 129) []) (standing full) ≡ Full (sci 128) ∷ []
one_more = refl

told_once : openings (step (many 129) []) (standing (step (many 129) [] ∷ full)) ≡ []
told_once = refl

-- a place that a channel leaves is given at the next step
no_place : openings (step (drop 1 (many 129)) []) (standing (step (many 129) [] ∷ full)) ≡ []
no_place = refl

next_place : openings (step (drop 1 (many 129)) []) (standing (step (drop 1 (many 129)) [] ∷ step (many 129) [] ∷ full)) ≡ Add (sci 128) ∷ []
next_place = refl

-- ---- laws at runs that meet their premises, and what they refuse

no_keys : (h : List Step) → All (IsNext h) []
no_keys h = All-nil (IsNext h)

steady : AreSteady alone
steady = (
  tt,
  (All-nil (λ (key : ChannelKey). 1 < key.epoch), tt),
  All-cons (IsNext keyed) first [] (inl refl) (no_keys keyed),
  (
    (tt, tt),
    (All-nil (λ (key : ChannelKey). 1 < key.epoch), tt),
    All-cons (IsNext came) first [] (inr (All-nil (λ (key : ChannelKey). key.epoch < 1), omega arith)) (no_keys came),
    ((tt, tt), tt, no_keys [], tt),
  ),
)

-- of one key and SCI one association is made
once : made alone ≡ record { sci = sci 11; epoch = 1; an = An0 } ∷ []
once = refl

-- a key that was gone comes again: its channel is made anew, and the association a second time
abbrev again : List Step
again = step (sci 11 ∷ []) (first ∷ []) ∷ step [] [] ∷ keyed

twice : AllDiffer (map association (made again)) → ⊥
twice differ = differ.0.0 refl

-- while a key is held, its channels stand
still_there : has_channel (standing alone).channels (sci 11) ≡ true
still_there = refl

is_still_held : is_held (first ∷ []) 1 ≡ true
is_still_held = refl

-- a key that was gone is held again: its channel is gone
not_there : has_channel (standing (step [] (first ∷ []) ∷ step [] [] ∷ keyed)).channels (sci 11) ≡ false
not_there = refl

-- an association is of a held key, in a channel
joined : has_channel (standing (step (sci 7 ∷ sci 11 ∷ []) (first ∷ second ∷ []) ∷ keyed)).channels (sci 7) ≡ true
joined = refl

of_no_held_key : Contains (first ∷ []) (key_of (record { sci = sci 7; epoch = 2; an = An1 })) → ⊥
of_no_held_key held =
    elim (contains-in (first ∷ []) (key_of (record { sci = sci 7; epoch = 2; an = An1 })) held) [
      | inl e ↦ let epochs : second.epoch ≡ first.epoch = ap (λ (key : ChannelKey). key.epoch) e in omega arith
      | inr none ↦ none
    ]

in_no_channel : has_channel (standing keyed).channels (sci 7) ≡ false
in_no_channel = refl

-- as many channels as there may be, and one more
most : length (standing full).channels ≡ 128
most = refl

too_many : nat_le (length (many 129)) 128 ≡ false
too_many = refl

-- the same step again tells nothing; one at which somebody waits for a place that is free does
same_again : IsStill (step (sci 11 ∷ []) (first ∷ [])) (standing keyed)
same_again = record { opens = refl; receives = refl; removes = refl; changes = refl }

place_given : IsStill (step (drop 1 (many 129)) []) (standing (step (drop 1 (many 129)) [] ∷ step (many 129) [] ∷ full)) → ⊥
place_given s = cc (sym next_place ∙ s.opens)
