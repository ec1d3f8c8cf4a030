-- A legal run: two stations start, a claim is refused since no key is there, foreign octets come,
-- and a station starts again.
use Rattle.std.proofs.Common.{◌≡◌, ◌≢◌, ◌<◌, ◌≤◌, ℕ, true, List, [], ◌∷◌, length, All}
use Rattle.std.proofs.Common.{inl, ap, refl, arith}
use Rattle.std.proofs.lemmas.List.Elements.{All-nil, All-cons}
use Rattle.std.proofs.lemmas.Bool.{and_parts, ltb-true}
use Rattle.std.specs.Prelude.{nat_lt, slice_index, replicate}
use Rattle.std.specs.List.{list_all}
use Rattle.lan_base.specs.declared.address.Sci.{Sci}
use Rattle.lan_base.specs.declared.frame.UserFrame.{UserFrame}
use Rattle.peer_lists.specs.Acceptance.{refusal, accepted, outcome}
use Rattle.peer_lists.specs.Peers.{says, hopes, known}
use Rattle.sak_exchange.specs.Held.{received, latest, old, transmitting}
use Rattle.gcm_frames.specs.declared.tag.TagRefusal.TheVariants as refusals
use Rattle.gcm_frames.specs.Protected.{IsSci}
use Rattle.gcm_frames.specs.Tags.{tag_fields}
use Rattle.mkpdu_codec.specs.Reading.{reading, parts_at}
use Rattle.rx_slots.specs.declared.arrival.Arrival.TheVariants.{Malformed}
use Rattle.mka_station.specs.Lives.{peers_of, keys_of, elected}
use Rattle.mka_station.specs.Views.{view}
use Rattle.mka_station.specs.Hearing.{judged}
use Rattle.mka_station.specs.Restart.{ending}
use Rattle.lan_core.specs.declared.event.Event.TheVariants as events
use Rattle.lan_core.specs.declared.fact.Fact.TheVariants as facts
use Rattle.lan_core.specs.declared.fact.Lack.TheVariants.{NoKey}
use Rattle.lan_core.specs.Run.{Run, Happening, happened, Profile, stations}
use Rattle.lan_core.specs.Ledgers.{air, births, installs}
use Rattle.lan_core.specs.Lives.{life, receiving}
use Rattle.lan_core.specs.Claims.{next, claimed, user_at}
use Rattle.lan_core.specs.Expected.{expected}
use Rattle.lan_base.specs.Ranges.{most_ticks}
use Rattle.lan_core.specs.Order.{IsWithin, IsSendable, ticks, most_stations}
use Rattle.lan_core.specs.Types.{IsMi, IsSetting}
use Rattle.lan_core.specs.Legal.{IsStep, IsLegal}
use Rattle.lan_core.specs.Fresh.{IsFresh, IsUnforged, drawn_saks}
use Rattle.lan_core.proofs.Examples.{headed, mi, sci, settings}

opens : ℕ
unfolding refusal accepted outcome says hopes known received latest old transmitting peers_of keys_of elected view judged ending stations air births installs life receiving next claimed expected drawn_saks reading parts_at tag_fields
opens = 0

-- a run with nothing on the air, and no key
silent : (r : Run) → air r ≡ [] → installs r ≡ [] → ticks r ≤ most_ticks
    → length (stations r) ≤ most_stations → IsWithin r
silent r quiet keyless few some = record {
  frames = rw quiet (omega arith);
  octets = rw quiet (omega arith);
  ticks = few;
  installs = λ s. rw keyless (omega arith);
  stations = some;
}

pub octets_of : (octets : List ℕ) → list_all (λ octet. nat_lt octet 256) octets ≡ true
    → All (λ octet. octet < 256) octets
octets_of [] are = All-nil (λ octet. octet < 256)
octets_of (octet ∷ others) are =
    let parts = and_parts (nat_lt octet 256) (list_all (λ octet. nat_lt octet 256) others) are in
    All-cons (λ octet. octet < 256) octet others (ltb-true octet 256 parts.0)
    (octets_of others parts.1)

abbrev first : Happening
first = happened (events.Start (65 ∷ []) (sci 10) 16) (facts.Life 0 (mi 1) ∷ [])

abbrev second : Happening
second = happened (events.Start (66 ∷ []) (sci 11) 16) (facts.Life 1 (mi 2) ∷ [])

abbrev refused : Happening
refused = happened (events.Claim 0 1 0) (facts.Unclaimed 0 NoKey ∷ [])

abbrev injected : Happening
injected =
    happened (events.Inject 0 (headed 0)) (facts.Arrived 0 0 (Malformed refusals.Mode) ∷ [])

abbrev restarted : Happening
restarted = happened (events.Restart 1) (facts.Life 1 (mi 3) ∷ [])

-- what is sent in it
abbrev pub users : List UserFrame
users =
    record { destination = record { 0 = replicate 6 255 }; body = 136 ∷ 181 ∷ 0 ∷ 1 ∷ [] } ∷ []

abbrev pub run : Run
run = restarted ∷ injected ∷ refused ∷ second ∷ first ∷ []

pub sci_is : (n : ℕ) → nat_lt n 256 ≡ true → IsSci (sci n)
sci_is n small = record { count = refl; octets = octets_of (sci n).0 (rw small refl) }

mi_is : (n : ℕ) → nat_lt n 256 ≡ true → IsMi (mi n)
mi_is n small = (refl, octets_of (mi n).0 (rw small refl))

names_differ : (m n : ℕ) → m ≢ n → m ∷ [] ≢ n ∷ []
names_differ m n differ same = differ (ap (λ name. slice_index name 0) same)

mis_differ : (m n : ℕ) → m ≢ n → mi m ≢ mi n
mis_differ m n differ same = differ (ap (λ mi. slice_index mi.0 11) same)

scis_differ : (m n : ℕ) → m ≢ n → sci m ≢ sci n
scis_differ m n differ same = differ (ap (λ sci. slice_index sci.0 5) same)

pub setting : IsSetting settings
setting = record {
  cak = (refl, octets_of (replicate 16 0) refl);
  ckn = (omega arith, omega arith);
  name_octets = octets_of settings.ckn refl;
  window = omega arith;
  rekey = omega arith;
}

-- a station of another name and SCI
abbrev IsOther : List ℕ → Sci → Profile → Type 0
IsOther name sci p = (p.name ≢ name) × (p.sci ≢ sci)

abbrev alice : Profile
alice = record { name = 65 ∷ []; sci = sci 10; priority = 16 }

alice_is_other : IsOther (66 ∷ []) (sci 11) alice
alice_is_other = (names_differ 65 66 (λ same. omega arith), scis_differ 10 11 (λ same. omega arith))

user_is : IsSendable (user_at users 1)
user_is = record {
  destination = (refl, octets_of (replicate 6 255) refl);
  body = (omega arith, omega arith);
  octets = octets_of (136 ∷ 181 ∷ 0 ∷ 1 ∷ []) refl;
}

first_steps : IsStep settings users first []
unfolding opens
first_steps = record {
  setting = setting;
  in_order = (
    (search, sci_is 10 refl, omega arith),
    (All-nil (IsOther (65 ∷ []) (sci 10)), mi_is 1 refl),
  );
  shows = refl;
  within = silent (first ∷ []) refl refl (omega arith) (omega arith);
}

second_steps : IsStep settings users second (first ∷ [])
unfolding opens
second_steps = record {
  setting = setting;
  in_order = (
    (search, sci_is 11 refl, omega arith),
    (
      All-cons (IsOther (66 ∷ []) (sci 11)) alice [] alice_is_other
          (All-nil (IsOther (66 ∷ []) (sci 11))),
      mi_is 2 refl,
    ),
  );
  shows = refl;
  within = silent (second ∷ first ∷ []) refl refl (omega arith) (omega arith);
}

refused_steps : IsStep settings users refused (second ∷ first ∷ [])
unfolding opens
refused_steps = record {
  setting = setting;
  in_order = ((omega arith, omega arith, omega arith), (omega arith, user_is, inl refl));
  shows = refl;
  within = silent (refused ∷ second ∷ first ∷ []) refl refl (omega arith) (omega arith);
}

injected_steps : IsStep settings users injected (refused ∷ second ∷ first ∷ [])
unfolding opens
injected_steps = record {
  setting = setting;
  in_order = ((omega arith, octets_of (headed 0) refl), (omega arith, omega arith));
  shows = refl;
  within = silent (injected ∷ refused ∷ second ∷ first ∷ []) refl refl (omega arith) (omega arith);
}

restarted_steps : IsStep settings users restarted (injected ∷ refused ∷ second ∷ first ∷ [])
unfolding opens
restarted_steps = record {
  setting = setting;
  in_order = (omega arith, (omega arith, mi_is 3 refl));
  shows = refl;
  within = silent run refl refl (omega arith) (omega arith);
}

pub legal : IsLegal settings users run
unfolding opens
legal = record {
  stepped =
      (restarted_steps, (injected_steps, (refused_steps, (second_steps, (first_steps, tt)))));
  excused = (refl, (refl, (refl, (refl, (refl, tt)))));
}

pub fresh : IsFresh run
unfolding opens
fresh = record {
  mis = (
    (mis_differ 3 2 (λ same. omega arith), (mis_differ 3 1 (λ same. omega arith), tt)),
    ((mis_differ 2 1 (λ same. omega arith), tt), (tt, tt)),
  );
  saks = tt;
}

pub unforged : IsUnforged settings run
unfolding opens
unforged = (tt, (refl, (tt, (tt, (tt, tt)))))
