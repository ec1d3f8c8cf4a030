-- The definitions at small runs, worked by hand. Ciphers stay closed: a frame is shown by its kind.
use Rattle.std.proofs.Common.{◌≡◌, ℕ, true, false, List, [], ◌∷◌, ◌++◌, Option, None, Some, refl}
use Rattle.std.specs.Prelude.{◌+◌, replicate, unwrap_or, map, is_some, option_map}
use Rattle.lan_base.specs.declared.address.Mi.{Mi}
use Rattle.lan_base.specs.declared.address.Sci.{Sci}
use Rattle.lan_base.specs.declared.association_number.AssociationNumber.TheVariants.{An0, An2}
use Rattle.lan_base.specs.declared.key_id.KeyId.{KeyId}
use Rattle.lan_base.specs.declared.suite.Suite.TheVariants.{GcmAes128}
use Rattle.aes_block.specs.declared.secret.Secret.{Secret}
use Rattle.aes_block.specs.declared.secret.Secret.TheVariants.{S128}
use Rattle.peer_lists.specs.Acceptance.{refusal, accepted, outcome}
use Rattle.peer_lists.specs.Peers.{says, hopes, known}
use Rattle.sak_exchange.specs.declared.held_key.Key.{Key}
use Rattle.sak_exchange.specs.Held.{received, latest, old, transmitting}
use Rattle.sak_exchange.specs.declared.change.Cause.TheVariants.{Flag}
use Rattle.gcm_frames.specs.declared.tag.TagRefusal.TheVariants as refusals
use Rattle.gcm_frames.specs.Tags.{tag_fields}
use Rattle.mkpdu_codec.specs.declared.refusal.Refusal.TheVariants.{NotMka}
use Rattle.mkpdu_codec.specs.Reading.{reading, parts_at}
use Rattle.rx_slots.specs.declared.arrival.Arrival.TheVariants.{Malformed}
use Rattle.mka_station.specs.declared.verdict.DropReason.TheVariants.{Unspelled}
use Rattle.mka_station.specs.declared.verdict.Verdict.TheVariants.{Dropped, Vouched}
use Rattle.mka_station.specs.Lives.{peers_of, keys_of, elected}
use Rattle.mka_station.specs.Views.{view}
use Rattle.mka_station.specs.Hearing.{judged, hear_turn}
use Rattle.mka_station.specs.Tick.{tick_turn}
use Rattle.mka_station.specs.Restart.{ending}
use Rattle.lan_core.specs.declared.event.Event.{Event}
use Rattle.lan_core.specs.declared.event.Event.TheVariants as events
use Rattle.lan_core.specs.declared.fact.Fact.{Fact}
use Rattle.lan_core.specs.declared.fact.Fact.TheVariants as facts
use Rattle.lan_core.specs.declared.fact.Lack.TheVariants.{NoKey, Exhausted}
use Rattle.lan_core.specs.declared.settings.Settings.{Settings}
use Rattle.lan_core.specs.Run.{Run, Happening, happened, stations, facts_of}
use Rattle.lan_core.specs.Ledgers.{air, births, frame_at, installs, claims}
use Rattle.lan_core.specs.Lives.{Life, life, receiving}
use Rattle.lan_core.specs.Claims.{next, a_claim, claimed, waiting_under}
use Rattle.lan_core.specs.Expected.{expected, drawn_in, claim_fact, reached_facts}
use Rattle.lan_core.specs.Order.{settled}
use Rattle.lan_core.specs.Legal.{is_excuse, unused}
use Rattle.lan_core.specs.Fresh.{drawn_mis, drawn_saks}
use Rattle.lan_core.specs.Batches.{BringsData, IsBatch}

opens : ℕ
unfolding refusal accepted outcome says hopes known received latest old transmitting peers_of keys_of elected view judged hear_turn tick_turn ending stations air births installs claims life receiving next claimed expected drawn_saks reading parts_at tag_fields
opens = 0

abbrev pub mi : ℕ → Mi
mi n = record { 0 = replicate 11 0 ++ n ∷ [] }

abbrev pub sci : ℕ → Sci
sci n = record { 0 = 2 ∷ 0 ∷ 0 ∷ 0 ∷ 0 ∷ n ∷ 0 ∷ 1 ∷ [] }

abbrev pub settings : Settings
settings = record {
  cak = S128 (replicate 16 0);
  ckn = 1 ∷ 2 ∷ 3 ∷ 4 ∷ [];
  conf = true;
  early_flag = false;
  window = 0;
  rekey = 3221225472;
  suite = GcmAes128;
}

-- ---- runs that the rules make of events

-- an event, and facts that show what it draws
pub record Move : Type 0 where
  pub event : Event
  pub draws : List Fact

-- newest first
unfoldable pub play : List Move → Run
play [] = []
play (m ∷ ms) =
    let r = play ms in
    happened m.event (unwrap_or (expected settings [] r m.event (drawn_in m.draws)) []) ∷ r

abbrev pub starts : ℕ → ℕ → ℕ → Move
starts s name n = record {
  event = events.Start (name ∷ []) (sci n) 16;
  draws = facts.Life s (mi (s + 1)) ∷ [];
}

abbrev pub moves : Event → Move
moves event = record { event = event; draws = [] }

-- a frame cut to nothing
abbrev cut : Fact → Fact
cut (facts.Framed number station sec octets) = facts.Framed number station sec []
cut fact = fact

-- ---- two stations start, and tick once

abbrev pub two : List Move
two = starts 1 66 11 ∷ starts 0 65 10 ∷ []

abbrev round : List Move
round = moves (events.Tick 1 0) ∷ moves (events.Tick 0 0) ∷ two

first_round : map cut (facts_of (play round)) ≡
    facts.Life 0 (mi 1) ∷ facts.Life 1 (mi 2)
    ∷ facts.Ticked 0 1 0 ∷ facts.Framed 1 0 false []
    ∷ facts.Ticked 1 1 0 ∷ facts.Framed 2 1 false [] ∷ []
unfolding opens play
first_round = refl

-- a start that draws nothing shows nothing that is right
start_needs_a_draw : expected settings [] [] (events.Start (65 ∷ []) (sci 10) 16) (drawn_in []) ≡ None
unfolding opens
start_needs_a_draw = refl

-- nothing waits, and no frame has this number
nothing_waits : expected settings [] (play two) events.Emit (drawn_in []) ≡ None
unfolding opens play
nothing_waits = refl

no_frame : expected settings [] (play two) (events.Deliver 1 1) (drawn_in []) ≡ None
unfolding opens play
no_frame = refl

-- ---- foreign octets, a refused claim, and a new life

-- the head of a protected frame, and the octet behind it
abbrev pub headed : ℕ → List ℕ
headed control =
    0x01 ∷ 0x80 ∷ 0xc2 ∷ 0 ∷ 0 ∷ 3 ∷ 2 ∷ 0 ∷ 0 ∷ 0 ∷ 0 ∷ 0x0b ∷ 0x88 ∷ 0xe5 ∷ control ∷ []

abbrev foreign : List Move
foreign =
    moves (events.Inject 0 (headed 0x80)) ∷ moves (events.Inject 0 (headed 0x2c))
    ∷ moves (events.Inject 0 (headed 0)) ∷ moves (events.Inject 0 (0 ∷ []))
    ∷ starts 0 65 10 ∷ []

four_answers : facts_of (play foreign) ≡
    facts.Life 0 (mi 1) ∷ facts.HeardMka 0 0 (Dropped (Unspelled NotMka))
    ∷ facts.Arrived 0 0 (Malformed refusals.Mode) ∷ facts.Arrived 0 0 (Malformed refusals.Short)
    ∷ facts.Arrived 0 0 (Malformed refusals.Version) ∷ []
unfolding opens play
four_answers = refl

-- ---- a batch: a protected frame of the first station reaches the second, twice

abbrev sent_one : Run
sent_one =
    happened events.Emit (facts.Framed 1 0 true (headed 0) ∷ []) ∷ play two

abbrev arrives : Happening
arrives =
    happened (events.Deliver 1 1) (facts.Arrived 1 1 (Malformed refusals.Mode) ∷ [])

brings : (r : Run) → frame_at r 1 ≡ frame_at sent_one 1 → is_some (life settings 1 r) ≡ true
    → BringsData settings [] r arrives
unfolding opens play
brings r on_air lives = record {
  number = 1;
  station = 1;
  event = refl;
  frame = record { number = 1; station = 0; sec = true; octets = headed 0 };
  found = on_air;
  protected = refl;
  shows = λ drawn. rw on_air (arrived (life settings 1 r) lives);
}
  where
    arrived : (l : Option Life) → is_some l ≡ true
        → option_map (reached_facts settings 1 r 1 (headed 0)) l ≡ Some arrives.facts
    arrived (Some l) lives = refl
    arrived None lives = absurd (cc lives)

a_batch : IsBatch settings [] sent_one (arrives ∷ arrives ∷ [])
unfolding opens play
a_batch = (brings (arrives ∷ sent_one) refl refl, (brings sent_one refl refl, tt))

abbrev again : List Move
again =
    moves (events.Tick 1 0)
    ∷ record { event = events.Restart 1; draws = facts.Life 1 (mi 3) ∷ [] }
    ∷ moves (events.Claim 0 0 0) ∷ round

-- the clock of a new life begins again, the numbers of frames go on
new_life : map cut (facts_of (play again)) ≡
    map cut (facts_of (play round)) ++ facts.Unclaimed 0 NoKey
    ∷ facts.Life 1 (mi 3) ∷ facts.Ticked 1 1 0 ∷ facts.Framed 3 1 false [] ∷ []
unfolding opens play
new_life = refl

three_drawn : drawn_mis (play again) ≡ mi 3 ∷ mi 2 ∷ mi 1 ∷ []
unfolding opens play
three_drawn = refl

-- ---- packet numbers

abbrev seven : Run
seven = a_claim 0 1 An0 1 7 ∷ []

after_seven : next settings 0 1 seven ≡ 8
unfolding opens
after_seven = refl

-- by station and by epoch
of_another : next settings 1 1 seven ≡ 1
unfolding opens
of_another = refl

under_another : next settings 0 2 seven ≡ 1
unfolding opens
under_another = refl

-- a lower number that is claimed late leaves it
late_three : next settings 0 1 (a_claim 0 1 An0 1 3 ∷ seven) ≡ 8
unfolding opens
late_three = refl

-- 1 to 6
six_unused : unused settings 0 1 seven ≡ 6
unfolding opens
six_unused = refl

five_unused : unused settings 0 1 (a_claim 0 1 An0 1 3 ∷ seven) ≡ 5
unfolding opens
five_unused = refl

-- the station's claims since its last tick are left out
up_to_the_tick : settled 0 (seven ++ happened (events.Tick 0 1) [] ∷ []) ≡
    happened (events.Tick 0 1) [] ∷ []
up_to_the_tick = refl

-- ---- claims under a key

abbrev pub id : ℕ → KeyId
id n = record { server = mi 1; number = n }

abbrev pub sak : Secret
sak = S128 (replicate 15 0 ++ 3 ∷ [])

abbrev key : Key
key = record { id = id 1; an = An2; sak = sak; conf = true; epoch = 1 }

a_number : claim_fact settings 0 [] 7 (Some key) ≡ facts.Claimed 0 An2 1 7
a_number = refl

no_number : claim_fact settings 0 [] 0 (Some key) ≡ facts.Unclaimed 0 NoKey
unfolding opens
no_number = refl

no_number_left :
    claim_fact settings 0 (a_claim 0 1 An2 1 4294967295 ∷ []) 0 (Some key)
    ≡ facts.Unclaimed 0 (Exhausted 1)
unfolding opens
no_number_left = refl

it_waits : waiting_under 0 1 7 (Some key) ≡
    record { station = 0; key = key; pn = 7; user = 1 } ∷ []
it_waits = refl

-- ---- excuses

-- an announcement that drops the key of this number, and begins one at a station
abbrev follows : ℕ → ℕ → Happening
follows dropped s = happened (events.Deliver 3 0) (
    facts.HeardMka 3 0 Vouched ∷ facts.Dropped 0 (id dropped) An2
    ∷ facts.Installed 0 (id 3) An2 3 sak ∷ facts.Began s (id 3) An2 3 Flag ∷ [])

excused : is_excuse 0 (Some key) (Some (follows 1 0)) ≡ true
excused = refl

-- another key is dropped, another station begins one, nothing came since
not_dropped : is_excuse 0 (Some key) (Some (follows 2 0)) ≡ false
not_dropped = refl

not_begun : is_excuse 0 (Some key) (Some (follows 1 1)) ≡ false
not_begun = refl

nothing_yet : is_excuse 0 (Some key) None ≡ false
nothing_yet = refl

-- where nothing transmits none is needed
no_key : is_excuse 0 None None ≡ true
no_key = refl
