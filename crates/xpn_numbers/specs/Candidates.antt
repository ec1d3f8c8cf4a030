-- Under which octets in clear and IVs a frame is tried with a key, the likeliest first.
use Rattle.std.specs.Prelude.{ℕ, zero, suc, ◌+◌, ◌*◌, ◌^◌, ◌==◌, ◌&&◌, nat_eq, nat_lt, Bool, true, false, not, if◌then◌else◌, List, [], ◌∷◌, ◌++◌, map, filter, fold, Option, Some, None}
use Rattle.std.specs.List.{filter_map, flat_map, list_any, range_with_len}
use lib.Pointwise.{pointwise}
use Rattle.lan_base.specs.declared.key_id.KeyId.{KeyId}
use Rattle.lan_base.specs.Instants.{is_recent}
use Rattle.gcm_frames.specs.Protected.{iv, xpn_iv}
use Rattle.xpn_numbers.specs.declared.candidate.Candidate.{Candidate}
use Rattle.xpn_numbers.specs.declared.candidate.Tried.{Tried}
use Rattle.xpn_numbers.specs.declared.form.Beginning.{Beginning}
use Rattle.xpn_numbers.specs.declared.form.Form.{Form}
use Rattle.xpn_numbers.specs.declared.form.Salted.{Salted}
use Rattle.xpn_numbers.specs.declared.form.Sscis.{Sscis}
use Rattle.xpn_numbers.specs.declared.form.Sscis.TheVariants.{One, UpTo}
use Rattle.xpn_numbers.specs.declared.place.Places.{Places}
use Rattle.xpn_numbers.specs.declared.shown.ShownHigh.{ShownHigh}
use Rattle.xpn_numbers.specs.declared.shown.Said.{Said}
use Rattle.xpn_numbers.specs.History.{Entry, Member, first_key, places, spoken}

-- ---- high halves

-- a low half has so many values, and a high half too
abbrev pub halves : ℕ
halves = 2 ^ 32

-- the high half above one, and the one below
abbrev pub above : ℕ → List ℕ
above high = if nat_lt (high + 1) halves then (high + 1) ∷ [] else []

abbrev pub below : ℕ → List ℕ
below zero = []
below (suc high) = high ∷ []

abbrev pub and_above : ℕ → List ℕ
and_above high = high ∷ above high

-- those of the last right frame, one more and one less; and that of the first
abbrev pub from_last : Option Places → List ℕ
from_last None = []
from_last (Some places) = and_above places.last.high ++ below places.last.high

abbrev pub from_first : Option Places → List ℕ
from_first None = []
from_first (Some places) = places.first.high ∷ []

abbrev pub same_octets : List ℕ → List ℕ → Bool
same_octets a b = pointwise nat_eq a b

-- those with which a key that was set by hand begins, under a salt and a short SCI
abbrev pub beginnings : List Beginning → List ℕ → ℕ → List ℕ
beginnings set salt ssci =
    map (λ b. b.high) (filter (λ b. (b.ssci == ssci) && same_octets b.salt salt) set)

-- a list with one more where it isn't in it; and with several more in turn
abbrev pub with_new : List ℕ → ℕ → List ℕ
with_new highs high = if list_any (λ h. h == high) highs then highs else highs ++ high ∷ []

abbrev pub with_all : List ℕ → List ℕ → List ℕ
with_all highs more = fold with_new highs more

-- the high halves that are tried with a short SCI, in turn and each once, where these are shown
abbrev pub highs : Option Places → List Beginning → List ℕ → List ℕ → ℕ → List ℕ
highs places set shown salt ssci =
    with_all [] (from_last places ++ 0 ∷ (from_first places
    ++ (flat_map and_above (beginnings set salt ssci) ++ flat_map and_above shown)))

-- ---- what members show

-- beside an identifier of a group whose first SAK is the key
abbrev pub is_it : Option ℕ → ℕ → Bool
is_it None key = false
is_it (Some first) key = first == key

abbrev pub shown_beside : (ℕ → KeyId → Option ℕ) → ℕ → ℕ → Option ShownHigh → List ℕ
shown_beside key_of group key None = []
shown_beside key_of group key (Some shown) =
    if is_it (key_of group shown.id) key then shown.high ∷ [] else []

-- what a member said last, where it is recent
abbrev pub shown_by : (ℕ → KeyId → Option ℕ) → ℕ → ℕ → Member × Said → List ℕ
shown_by key_of key now e =
    if is_recent e.1.nanos now
    then shown_beside key_of e.0.0 key e.1.shown.latest ++ shown_beside key_of e.0.0 key e.1.shown.old
    else []

-- the high halves of a key that members show at a time
abbrev pub shown : List Entry → ℕ → ℕ → List ℕ
shown history key now =
    flat_map (shown_by (λ group id. first_key group id history) key now) (spoken history)

-- ---- short SCIs

abbrev pub sscis_of : Sscis → List ℕ
sscis_of (One ssci) = ssci ∷ []
sscis_of (UpTo greatest) = map (λ n. n + 1) (range_with_len 0 greatest)

abbrev pub is_last : Option Places → ℕ → Bool
is_last None ssci = false
is_last (Some places) ssci = places.last.ssci == ssci

-- that of the last right frame first, and then the others
abbrev pub in_turn : Option Places → List ℕ → List ℕ
in_turn places sscis = filter (is_last places) sscis ++ filter (λ s. not (is_last places s)) sscis

-- ---- candidates

abbrev pub plain_candidate : Tried → ℕ → Candidate
plain_candidate tried clear =
    record { key = tried.key; clear = clear; iv = iv tried.sci tried.pn; xpn = None }

abbrev pub xpn_candidate : Tried → ℕ → List ℕ → ℕ → ℕ → Candidate
xpn_candidate tried clear salt ssci high =
    let number = high * halves + tried.pn in record {
      key = tried.key;
      clear = clear;
      iv = xpn_iv salt ssci number;
      xpn = Some (record { ssci = ssci; number = number });
    }

-- under a form without a salt
abbrev pub plain_by : Tried → ℕ → Option Salted → List Candidate
plain_by tried clear None = plain_candidate tried clear ∷ []
plain_by tried clear (Some salted) = []

abbrev pub plain_of : Tried → Form → List Candidate
plain_of tried form = plain_by tried form.clear form.salted

-- under a form with a salt: of each short SCI each high half
abbrev pub ssci_candidates : Tried → Option Places → List Beginning → List ℕ → ℕ → List ℕ → ℕ → List Candidate
ssci_candidates tried places set shown clear salt ssci =
    map (xpn_candidate tried clear salt ssci) (highs places set shown salt ssci)

abbrev pub salted_by : Tried → Option Places → List Beginning → List ℕ → ℕ → Option Salted → List Candidate
salted_by tried places set shown clear None = []
salted_by tried places set shown clear (Some salted) =
    flat_map (ssci_candidates tried places set shown clear salted.salt)
    (in_turn places (sscis_of salted.sscis))

abbrev pub salted_of : Tried → Option Places → List Beginning → List ℕ → Form → List Candidate
salted_of tried places set shown form = salted_by tried places set shown form.clear form.salted

-- under forms of a key, those without a salt first, given where right frames stood and what is shown
abbrev pub candidates_by : Tried → Option Places → List ℕ → List Form → List Beginning → List Candidate
candidates_by tried places shown forms set =
    flat_map (plain_of tried) forms ++ flat_map (salted_of tried places set shown) forms

-- all that is tried of a frame under a key, which has these forms and was set by hand so
abbrev pub candidates : List Entry → Tried → List Form → List Beginning → List Candidate
candidates history tried forms set =
    candidates_by tried (places tried.key tried.sci history) (shown history tried.key tried.nanos)
    forms set
