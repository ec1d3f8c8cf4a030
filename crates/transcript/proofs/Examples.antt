-- The definitions, computed on worked lines.
use Rattle.std.proofs.Common.{◌≡◌, ℕ, List, [], ◌∷◌, ◌++◌, get_or, refl, sym, ap, arith}
use Rattle.std.specs.Prelude.{◌≢◌, false, codes, None}
use Rattle.std.proofs.lemmas.List.Elements.{All-cons, All-nil}
use Rattle.std.specs.Fmt.{digits}
use Rattle.hex.specs.Hex.{encode_with}
use Rattle.lan_base.specs.declared.association_number.AssociationNumber.TheVariants.{An1}
use Rattle.lan_base.specs.declared.key_id.KeyId.{KeyId}
use Rattle.lan_base.specs.Name.{IsName}
use Rattle.peer_lists.specs.declared.heard.PeerRefusal.TheVariants as PeerRefusal
use Rattle.mka_station.specs.declared.verdict.DropReason.TheVariants as Reason
use Rattle.mka_station.specs.declared.verdict.Verdict.TheVariants as Verdict
use Rattle.rx_slots.specs.declared.arrival.Arrival.TheVariants as Arrival
use Rattle.sak_exchange.specs.declared.change.Cause.TheVariants as Cause
use Rattle.lan_core.specs.declared.fact.Fact.{Fact}
use Rattle.lan_core.specs.declared.fact.Fact.TheVariants.{Ticked, Server, Began, Framed, HeardMka, Claimed, Arrived}
use Rattle.lan_base.specs.Differing.{AllDiffer}
use Rattle.transcript.specs.Rendering.{line, rendered, IsFact, Says, AreNames}
use Rattle.transcript.specs.inside.Reading.{fact_in}
use Rattle.transcript.proofs.ReadBack.{told}
use Rattle.transcript.specs.Cut.{cut}

abbrev names : List (List ℕ)
names = codes "A" ∷ codes "B" ∷ []

abbrev ticked : Fact
ticked = Ticked 0 9 4294967296

abbrev heard : Fact
heard = HeardMka 5 1 (Verdict.Dropped (Reason.Refused (PeerRefusal.OldNumber 4)))

abbrev server : Fact
server = Server 1 None

abbrev frame : Fact
frame = Framed 13 1 false []

abbrev late : Fact
late = Arrived 10 1 (Arrival.Late 2)

pub ticked_line : rendered names ticked ≡ codes "tick A 9 next 4294967296" ++ 10 ∷ []
unfolding line digits
ticked_line = refl

pub heard_line : line names heard ≡ codes "heard 5 B drop oldnumber 4"
unfolding line digits
heard_line = refl

pub server_line : line names server ≡ codes "server B none"
unfolding line digits
server_line = refl

-- a frame without octets ends in an empty word
pub frame_line : line names frame ≡ codes "frame 13 B mka "
unfolding line digits encode_with
frame_line = refl

pub claim_line : line names (Claimed 0 An1 2 3) ≡ codes "claim A an 1 epoch 2 pn 3"
unfolding line digits
claim_line = refl

abbrev id : KeyId
id = record {
  server = record { 0 = 0 ∷ 1 ∷ 2 ∷ 3 ∷ 4 ∷ 5 ∷ 6 ∷ 7 ∷ 8 ∷ 9 ∷ 10 ∷ 11 ∷ [] };
  number = 7;
}

pub key_line : line names (Began 0 id An1 2 Cause.All) ≡ codes "begin A 000102030405060708090a0b 7 an 1 epoch 2 all"
unfolding line digits encode_with
key_line = refl

-- a tick with its frame, a hearing with its server, and a late frame are three events
pub three_events : cut (ticked ∷ frame ∷ heard ∷ server ∷ late ∷ []) ≡ (ticked ∷ frame ∷ []) ∷ (heard ∷ server ∷ []) ∷ (late ∷ []) ∷ []
three_events = refl

different : codes "B" ≢ codes "A"
different e =
    let letter : 66 ≡ 65 = ap (λ octets. get_or octets 0 0) e in
    absurd (omega (arith, letter))

-- the names differ, and the facts are facts under them
pub names_differ : AllDiffer names
names_differ = ((λ e. different (sym e), tt), (tt, tt))

pub is_fact : IsFact names ticked
is_fact = (refl, ((omega arith, omega arith), (omega arith, (refl, (omega arith, tt)))))

-- a line of one of these facts, and one of none
pub ticked_says : Says names (codes "tick A 9 next 4294967296") ticked
unfolding line digits
ticked_says = (is_fact, refl)

pub are_names : AreNames names
are_names =
    (All-cons IsName (codes "A") (codes "B" ∷ []) refl (All-cons IsName (codes "B") [] refl (All-nil IsName)), names_differ)

nothing_read : fact_in names (codes "tick A 1") ≡ None
unfolding digits
nothing_read = refl

pub short_says_nothing : (fact : Fact) → Says names (codes "tick A 1") fact → ⊥
short_says_nothing fact says = cc (nothing_read, told names (codes "tick A 1") fact are_names says)
