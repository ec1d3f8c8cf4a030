-- What is shown of each kind of fact: its words say it, what the words of a line say is it, its
-- numbers are small ones, and with its fields in their types it is a fact under the names.
use Rattle.std.proofs.Common.{◌≡◌, ℕ, ◌<◌, ◌≤◌, ◌^◌, Bool, true, false, List, [], ◌∷◌, length, refl, ap, inl, inr, arith}
use Rattle.std.specs.Prelude.{Option, Some, None, IsTrue, codes, map}
use Rattle.std.specs.List.{list_all}
use Rattle.std.specs.Option.{option_map}
use Rattle.std.specs.Char.{is_ascii_lowercase}
use Rattle.std.proofs.lemmas.Bool.{cases_lt}
use Rattle.std.proofs.lemmas.List.{get_or_past}
use Rattle.hex.specs.Hex.{IsBytes}
use Rattle.aes_block.specs.declared.secret.Secret.{Secret}
use Rattle.aes_block.specs.declared.secret.Secret.TheVariants.{S128, S256}
use Rattle.gcm_frames.specs.Tags.{tag_text}
use Rattle.gcm_frames.specs.declared.tag.TagRefusal.{TagRefusal}
use Rattle.gcm_frames.specs.declared.tag.TagRefusal.TheVariants as Tag
use Rattle.lan_base.specs.declared.address.Mi.{Mi}
use Rattle.lan_base.specs.declared.association_number.AssociationNumber.{AssociationNumber}
use Rattle.lan_base.specs.declared.association_number.AssociationNumber.TheVariants.{An0, An1, An2, An3}
use Rattle.lan_base.specs.declared.key_id.KeyId.{KeyId}
use Rattle.lan_base.specs.AssociationNumbers.{number_of}
use Rattle.lan_base.specs.Differing.{AllDiffer}
use Rattle.rx_slots.specs.declared.arrival.Arrival.{Arrival}
use Rattle.rx_slots.specs.declared.arrival.Arrival.TheVariants as arrivals
use Rattle.sak_exchange.specs.declared.change.Cause.{Cause}
use Rattle.sak_exchange.specs.declared.change.Cause.TheVariants as Causes
use Rattle.sak_exchange.specs.declared.change.Why.{Why}
use Rattle.sak_exchange.specs.declared.change.Why.TheVariants as Whys
use Rattle.mka_station.specs.declared.verdict.DropReason.{DropReason}
use Rattle.mka_station.specs.declared.verdict.DropReason.TheVariants as Reasons
use Rattle.mkpdu_codec.specs.declared.refusal.Refusal.TheVariants as Refusal
use Rattle.peer_lists.specs.declared.heard.PeerRefusal.TheVariants as PeerRefusal
use Rattle.mka_station.specs.declared.verdict.Verdict.{Verdict}
use Rattle.mka_station.specs.declared.verdict.Verdict.TheVariants as verdicts
use Rattle.lan_core.specs.declared.fact.Fact.{Fact}
use Rattle.lan_core.specs.declared.fact.Fact.TheVariants.{Life, Ticked, Server, Dropped, Retired, Began, Installed, Untaken, Framed, HeardMka, Claimed, Unclaimed, Arrived}
use Rattle.lan_core.specs.declared.fact.Lack.{Lack}
use Rattle.lan_core.specs.declared.fact.Lack.TheVariants.{NoKey, Exhausted}
use Rattle.lan_core.specs.Run.{place}
use Rattle.lan_core.specs.Types.{AreOctets, IsMi, IsSecret}
use Rattle.lan_core.specs.TypedFacts.{IsTypedFact, IsTypedId, IsTypedWhy, IsTypedReason, IsTypedVerdict, IsTypedLack, IsTypedArrival}
use Rattle.transcript.specs.Words as Words
use Rattle.transcript.specs.Words.{Fits, array, spelled, words, key_words, held_words, epoch_words, cause_text, frame_text, why_words, whys, reason_words, verdict_words, lack_words, lacks, arrival_words, secret_word}
use Rattle.transcript.specs.Rendering.{AllFit, IsFact}
use Rattle.transcript.specs.inside.Reading.{along, held_of, told_in, verdict_of, tick_tree, begin_tree, install_tree, untaken_tree, frame_tree, heard_tree, claim_tree, noclaim_tree, data_tree, plain_tree, fact_tree}
use Rattle.transcript.proofs.Plain.{is_narrow}
use Rattle.transcript.proofs.Told.{station_said, number_said, an_said, octets_said, member_said, server_said, secret_said}
use Rattle.transcript.proofs.Tabled.{told-said, told-back, cause-said, sec-said, why-found, why-table, lack-found, lack-table, verdict-said, verdict-back}
use Rattle.transcript.proofs.Sound.{Sound, left_by}

-- ---- its words say it

abbrev pub told : List (List ℕ) → Fact → Option Fact
told names fact = along names fact_tree (map (spelled names) (words fact))

-- a key of a station is told by its words
held_said : (names : List (List ℕ)) (s : ℕ) (id : KeyId) (an : AssociationNumber) (more : List Words.Word) → AllDiffer names
    → AllFit names (held_words s id an more)
    → held_of names (map (spelled names) (held_words s id an more)) ≡ Some (record { station = s; id = id; an = an }, map (spelled names) more)
held_said names s id an more d fit =
    rw (station_said names s d fit.0, member_said id.server fit.1.0, number_said 32 id.number (omega (arith, fit.1.1.0)) fit.1.1.0, an_said an) refl

-- a fact is told by its words
pub fact_told : (names : List (List ℕ)) (fact : Fact) → AllDiffer names → IsFact names fact → told names fact ≡ Some fact
fact_told names (Life s mi) d fit = rw (station_said names s d fit.1.0, member_said mi fit.1.1.0) refl
fact_told names (Ticked s at next) d fit = rw (station_said names s d fit.1.0, number_said 32 at (omega (arith, fit.1.1.0)) fit.1.1.0, number_said 64 next (omega (arith, fit.1.1.1.1.0)) fit.1.1.1.1.0) refl
fact_told names (Server s mi) d fit = rw (station_said names s d fit.1.0, server_said names mi fit.1.1.0) refl
fact_told names (Dropped s id an) d fit = rw (held_said names s id an [] d fit.1) refl
fact_told names (Retired s id an) d fit = rw (held_said names s id an [] d fit.1) refl
fact_told names (Began s id an epoch cause) d fit =
    let more = fit.1.1.1.1.1.1 in
    rw (held_said names s id an (epoch_words epoch (Words.text (cause_text cause) ∷ [])) d fit.1, number_said 32 epoch (omega (arith, more.1.0)) more.1.0, cause-said cause) refl
fact_told names (Installed s id an epoch sak) d fit =
    let more = fit.1.1.1.1.1.1 in
    rw (
      held_said names s id an (epoch_words epoch (Words.text (codes "sak") ∷ secret_word sak ∷ [])) d fit.1,
      number_said 32 epoch (omega (arith, more.1.0)) more.1.0,
      secret_said names sak more.1.1.1.0,
    ) refl
fact_told names (Untaken s id why) d fit =
    rw (station_said names s d fit.1.0, member_said id.server fit.1.1.0, number_said 32 id.number (omega (arith, fit.1.1.1.0)) fit.1.1.1.0)
    (ap (option_map (λ w. Untaken s id w)) (told-said names why_words whys (why_words why) why (why-found why) fit.1.1.1.1))
fact_told names (Framed k s sec xs) d fit = rw (number_said 32 k (omega (arith, fit.1.0)) fit.1.0, station_said names s d fit.1.1.0, sec-said sec, octets_said xs fit.1.1.1.1.0) refl
fact_told names (HeardMka k s verdict) d fit =
    rw (number_said 32 k (omega (arith, fit.1.0)) fit.1.0, station_said names s d fit.1.1.0)
    (ap (option_map (λ v. HeardMka k s v)) (verdict-said names verdict fit.1.1.1))
fact_told names (Claimed s an epoch pn) d fit = rw (station_said names s d fit.1.0, an_said an, number_said 32 epoch (omega (arith, fit.1.1.1.1.1.0)) fit.1.1.1.1.1.0, number_said 32 pn (omega (arith, fit.1.1.1.1.1.1.1.0)) fit.1.1.1.1.1.1.1.0) refl
fact_told names (Unclaimed s why) d fit =
    rw (station_said names s d fit.1.0)
    (ap (option_map (λ w. Unclaimed s w)) (told-said names lack_words lacks (lack_words why) why (lack-found why) fit.1.1))
fact_told names (Arrived k s (arrivals.Accepted pn body)) d fit = rw (number_said 32 k (omega (arith, fit.1.0)) fit.1.0, station_said names s d fit.1.1.0, number_said 32 pn (omega (arith, fit.1.1.1.1.0)) fit.1.1.1.1.0, octets_said body fit.1.1.1.1.1.0) refl
fact_told names (Arrived k s (arrivals.Missed an)) d fit = rw (number_said 32 k (omega (arith, fit.1.0)) fit.1.0, station_said names s d fit.1.1.0, an_said an) refl
fact_told names (Arrived k s (arrivals.Late next)) d fit = rw (number_said 32 k (omega (arith, fit.1.0)) fit.1.0, station_said names s d fit.1.1.0, number_said 64 next (omega (arith, fit.1.1.1.1.0)) fit.1.1.1.1.0) refl
fact_told names (Arrived k s (arrivals.Malformed Tag.NotSec)) d fit = rw (number_said 32 k (omega (arith, fit.1.0)) fit.1.0, station_said names s d fit.1.1.0) refl
fact_told names (Arrived k s _) d fit = rw (number_said 32 k (omega (arith, fit.1.0)) fit.1.0, station_said names s d fit.1.1.0) refl

-- ---- what the words of a line say is it

untaken_sound : Sound (Words.text (codes "untaken") ∷ []) untaken_tree
untaken_sound = λ s id.
    left_by why_words (told_in why_words whys) (λ names ws x e. told-back names why_words whys why-table ws x e)
    (Words.text (codes "untaken") ∷ Words.station s ∷ key_words id []) (λ why. Untaken s id why) (λ x. refl)

heard_sound : Sound (Words.text (codes "heard") ∷ []) heard_tree
heard_sound = λ k s.
    left_by verdict_words verdict_of (λ names ws x e. verdict-back names ws x e)
    (Words.text (codes "heard") ∷ Words.number 32 k ∷ Words.station s ∷ []) (λ verdict. HeardMka k s verdict) (λ x. refl)

noclaim_sound : Sound (Words.text (codes "noclaim") ∷ []) noclaim_tree
noclaim_sound = λ s.
    left_by lack_words (told_in lack_words lacks) (λ names ws x e. told-back names lack_words lacks lack-table ws x e)
    (Words.text (codes "noclaim") ∷ Words.station s ∷ []) (λ why. Unclaimed s why) (λ x. refl)

data_sound : Sound (Words.text (codes "data") ∷ []) data_tree
data_sound = λ k s. (
  refl,
  λ pn xs. refl,
  (refl, λ t. refl, (refl, refl, (refl, λ an. refl, (refl, refl, (refl, λ next. refl, tt))))),
)

frame_sound : Sound (Words.text (codes "frame") ∷ []) frame_tree
frame_sound = λ k s b xs. refl

tick_sound : Sound (Words.text (codes "tick") ∷ []) tick_tree
tick_sound = λ s at. (refl, λ next. refl)

begin_sound : Sound (Words.text (codes "begin") ∷ []) begin_tree
begin_sound = λ k. (refl, λ epoch c. refl)

install_sound : Sound (Words.text (codes "install") ∷ []) install_tree
install_sound = λ k. (refl, λ epoch. (refl, λ sak. refl))

claim_sound : Sound (Words.text (codes "claim") ∷ []) claim_tree
claim_sound = λ s. (refl, λ an. (refl, λ epoch. (refl, λ pn. refl)))

plain_sound : Sound [] plain_tree
plain_sound = (
  refl,
  λ s mi. refl,
  (
    refl,
    tick_sound,
    (
      refl,
      λ s mi. refl,
      (
        refl,
        λ k. refl,
        (
          refl,
          λ k. refl,
          (
            refl,
            begin_sound,
            (
              refl,
              install_sound,
              (
                refl,
                untaken_sound,
                (
                  refl,
                  heard_sound,
                  (
                    refl,
                    claim_sound,
                    (refl, noclaim_sound, tt),
                  ),
                ),
              ),
            ),
          ),
        ),
      ),
    ),
  ),
)

pub sound_tree : Sound [] fact_tree
sound_tree = (refl, frame_sound, (refl, data_sound, plain_sound))

-- ---- its numbers are small ones

pub narrow : (fact : Fact) → list_all is_narrow (words fact) ≡ true
narrow (Server s None) = refl
narrow (Installed s id an epoch (S128 xs)) = refl
narrow (Untaken s id Whys.NotListed) = refl
narrow (HeardMka k s (verdicts.Dropped (Reasons.Unspelled Refusal.NotMka))) = refl
narrow (HeardMka k s (verdicts.Dropped (Reasons.Refused PeerRefusal.Echo))) = refl
narrow (Unclaimed s NoKey) = refl
narrow (Arrived k s arrivals.BadCheck) = refl
narrow _ = refl

-- ---- with its fields in their types it is a fact under the names

an-fits : (an : AssociationNumber) → number_of an < 2 ^ 2
an-fits An0 = omega arith
an-fits An1 = omega arith
an-fits An2 = omega arith
an-fits An3 = omega arith

cause-fits : (cause : Cause) → IsTrue (list_all is_ascii_lowercase (cause_text cause))
cause-fits Causes.All = refl
cause-fits _ = refl

tag-fits : (refusal : TagRefusal) → IsTrue (list_all is_ascii_lowercase (tag_text refusal))
tag-fits Tag.NotSec = refl
tag-fits Tag.Version = refl
tag-fits Tag.Mode = refl
tag-fits Tag.Short = refl
tag-fits Tag.SlWrong = refl

bytes : (octets : List ℕ) → AreOctets octets → IsBytes octets
bytes octets all i =
    elim (cases_lt i (length octets)) [
      | inl less ↦ all i 0 less
      | inr past ↦ rw (get_or_past octets i 0 past) (omega arith)
    ]

mi-fits : (names : List (List ℕ)) (mi : Mi) → IsMi mi → Fits names (array 12 mi.0)
mi-fits names mi is = (is.0, bytes mi.0 is.1)

secret-fits : (names : List (List ℕ)) (sak : Secret) → IsSecret sak
    → Fits names (secret_word sak)
secret-fits names (S128 octets) is = (is.0, bytes octets is.1)
secret-fits names (S256 octets) is = (is.0, bytes octets is.1)

why-fits : (names : List (List ℕ)) (why : Why) → IsTypedWhy why → AllFit names (why_words why)
why-fits names (Whys.Seen kept) is = (refl, (is, tt))
why-fits names _ is = (refl, tt)

reason-fits : (names : List (List ℕ)) (reason : DropReason) → IsTypedReason reason
    → AllFit names (reason_words reason)
reason-fits names (Reasons.Unspelled (Refusal.Shape at)) is = (refl, (is, tt))
reason-fits names (Reasons.Unspelled (Refusal.Repeated kind)) is = (refl, (is, tt))
reason-fits names (Reasons.Refused (PeerRefusal.OldNumber kept)) is = (refl, (is, tt))
reason-fits names _ is = (refl, tt)

verdict-fits : (names : List (List ℕ)) (verdict : Verdict) → IsTypedVerdict verdict
    → AllFit names (verdict_words verdict)
verdict-fits names verdicts.Vouched is = (refl, tt)
verdict-fits names verdicts.Unvouched is = (refl, tt)
verdict-fits names (verdicts.Dropped reason) is = (refl, reason-fits names reason is)

lack-fits : (names : List (List ℕ)) (why : Lack) → IsTypedLack why → AllFit names (lack_words why)
lack-fits names NoKey is = (refl, tt)
lack-fits names (Exhausted epoch) is = (refl, (is, tt))

arrival-fits : (names : List (List ℕ)) (arrival : Arrival) → IsTypedArrival arrival
    → AllFit names (arrival_words arrival)
arrival-fits names (arrivals.Accepted pn body) is = (refl, (is.0, (bytes body is.1, tt)))
arrival-fits names (arrivals.Malformed refusal) is = (refl, (tag-fits refusal, tt))
arrival-fits names arrivals.Own is = (refl, tt)
arrival-fits names (arrivals.Missed an) is = (refl, (an-fits an, tt))
arrival-fits names arrivals.BadCheck is = (refl, tt)
arrival-fits names (arrivals.Late next) is = (refl, (is, tt))

sec-fits : (sec : Bool)
    → IsTrue (list_all is_ascii_lowercase (frame_text sec))
sec-fits true = refl
sec-fits false = refl

-- where the station is one of those that are named
held-fits : (names : List (List ℕ)) (s : ℕ) (id : KeyId) (an : AssociationNumber) (more : List Words.Word) → Fits names (Words.station s) → IsTypedId id
    → AllFit names more → AllFit names (held_words s id an more)
held-fits names s id an more there is fit = (there, (mi-fits names id.server is.0, (is.1, (refl, (an-fits an, fit)))))

fits-there : (names : List (List ℕ)) (fact : Fact) → IsTypedFact fact → Fits names (Words.station (place fact)) → IsFact names fact
fits-there names (Life s mi) is there = (refl, (there, (mi-fits names mi is, tt)))
fits-there names (Ticked s clock next) is there = (refl, (there, (is.0, (refl, (is.1, tt)))))
fits-there names (Server s None) is there = (refl, (there, (refl, tt)))
fits-there names (Server s (Some mi)) is there = (refl, (there, (mi-fits names mi is, tt)))
fits-there names (Dropped s id an) is there = (refl, held-fits names s id an [] there is tt)
fits-there names (Retired s id an) is there = (refl, held-fits names s id an [] there is tt)
fits-there names (Began s id an epoch cause) is there =
    (refl, held-fits names s id an (epoch_words epoch (Words.text (cause_text cause) ∷ [])) there is.0 (refl, (is.1, (cause-fits cause, tt))))
fits-there names (Installed s id an epoch sak) is there = (
  refl,
  held-fits names s id an (epoch_words epoch (Words.text (codes "sak") ∷ secret_word sak ∷ [])) there is.0
      (refl, (is.1, (refl, (secret-fits names sak is.2, tt)))),
)
fits-there names (Untaken s id why) is there = (refl, (there, (mi-fits names id.server is.0.0, (is.0.1, why-fits names why is.1))))
fits-there names (Framed k s sec octets) is there = (refl, (is.0, (there, (sec-fits sec, (bytes octets is.1, tt)))))
fits-there names (HeardMka k s verdict) is there = (refl, (is.0, (there, verdict-fits names verdict is.1)))
fits-there names (Claimed s an epoch pn) is there = (refl, (there, (refl, (an-fits an, (refl, (is.0, (refl, (is.1, tt))))))))
fits-there names (Unclaimed s why) is there = (refl, (there, lack-fits names why is))
fits-there names (Arrived k s arrival) is there = (refl, (is.0, (there, arrival-fits names arrival is.1)))

pub typed-fits : (names : List (List ℕ)) (fact : Fact) → IsTypedFact fact
    → place fact < length names → length names ≤ 256 → IsFact names fact
typed-fits names fact is at few = fits-there names fact is (at, omega (arith, at, few))
